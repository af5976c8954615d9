-- What a command asks: beside its words, the snapshot that it names and the files of its request as they are seen.
use Rattle.std.specs.Prelude.{ℕ, Bool, false, ◌≡◌, length, List, [], ◌∷◌, ◌++◌, fold, sum_by, if◌then◌else◌}
use Rattle.std.specs.Prelude.{IsTrue, Option, Some, None, ⊤}
use Rattle.std.specs.List.{AllByRecursion as Each}
use Rattle.std.specs.Option.{option_map}
use Rattle.st_base.specs.Bytes.{same}
use Rattle.st_base.specs.Range.{keys_rise}
use Rattle.st_base.specs.declared.entry.Entry.{Entry}
use Rattle.st_model.specs.declared.command.Asked.{Asked}
use Rattle.st_model.specs.declared.command.Call.{Call}
use Rattle.st_model.specs.declared.command.Command.{Command}
use Rattle.st_model.specs.declared.command.Command.TheVariants as command
use Rattle.st_model.specs.declared.command.FileSeen.{FileSeen}
use Rattle.st_model.specs.declared.command.FileSeen.TheVariants.{Missing, Bad, Table}
use Rattle.st_model.specs.declared.reply.Reply.{Reply}
use Rattle.st_model.specs.declared.reply.Reply.TheVariants as reply
use Rattle.st_model.specs.declared.request.IngestExternalFileArg.{IngestExternalFileArg}
use Rattle.st_model.specs.declared.state.Snapshot.{Snapshot}

-- ---- snapshots by name

-- no snapshot has this id
abbrev pub no_snapshot : Snapshot
no_snapshot = record { id = 0; number = 0 }

-- whether the command takes a snapshot of that name
abbrev pub takes_snapshot : List ℕ → Command → Bool
takes_snapshot name (command.Snap other) = same other name
takes_snapshot name other = false

-- the snapshot that was taken at the place; none where the reply is a refusal
abbrev pub snapshot_taken : ℕ → Reply → Snapshot
snapshot_taken place (reply.Snapshot number) = record { id = place; number = number }
snapshot_taken place other = no_snapshot

-- the snapshot of the last command of these calls that takes one of that name
abbrev pub last_snapshot : List ℕ → List Call → Snapshot
last_snapshot name calls =
    fold
    (λ before call. if takes_snapshot name call.asked.command then snapshot_taken call.place call.reply else before)
    no_snapshot calls

-- the name of the snapshot that the command reads at or lets go
abbrev pub snapshot_named : Command → Option (List ℕ)
snapshot_named (command.GetAt name family key) = Some name
snapshot_named (command.ScanAt name family first last limit) = Some name
snapshot_named (command.Release name) = Some name
snapshot_named (command.Write batch) = None
snapshot_named (command.Get family key) = None
snapshot_named (command.View reads) = None
snapshot_named (command.Scan family first last limit) = None
snapshot_named (command.Snap name) = None
snapshot_named (command.MakeFamily name) = None
snapshot_named (command.DropFamily name) = None
snapshot_named (command.Flush name) = None
snapshot_named (command.Compact name) = None
snapshot_named (command.Ingest arguments) = None
snapshot_named (command.Await client number) = None

-- the snapshot that a command asks for, after these calls of its client
abbrev pub snapshot_asked : List Call → Command → Option Snapshot
snapshot_asked before command = option_map (λ name. last_snapshot name before) (snapshot_named command)

-- ---- files

-- the request of a command
abbrev pub request_asked : Command → Option (List IngestExternalFileArg)
request_asked (command.Ingest arguments) = Some arguments
request_asked (command.Write batch) = None
request_asked (command.Get family key) = None
request_asked (command.GetAt name family key) = None
request_asked (command.View reads) = None
request_asked (command.Scan family first last limit) = None
request_asked (command.ScanAt name family first last limit) = None
request_asked (command.Snap name) = None
request_asked (command.Release name) = None
request_asked (command.MakeFamily name) = None
request_asked (command.DropFamily name) = None
request_asked (command.Flush name) = None
request_asked (command.Compact name) = None
request_asked (command.Await client number) = None

-- how many files the request names; a command without a request names none
abbrev pub names_files : Option (List IngestExternalFileArg) → ℕ
names_files None = 0
names_files (Some arguments) = sum_by (λ argument. length argument.files) arguments

-- the entries of an external table: keys rise, and each number is 0
pub record IsExternal (entries : List Entry) : Type 0 where
  pub rise : IsTrue (keys_rise entries)
  pub numbers : Each (λ entry. entry.number ≡ 0) entries

abbrev pub IsSeenRightly : FileSeen → Type 0
IsSeenRightly Missing = ⊤
IsSeenRightly (Bad fault) = ⊤
IsSeenRightly (Table entries) = IsExternal entries

-- each named file is seen, and a table as one; a file that the command doesn't read is seen too
pub record SeesRightly (request : Option (List IngestExternalFileArg)) (seen : List FileSeen) : Type 0 where
  pub each_named : length seen ≡ names_files request
  pub tables : Each IsSeenRightly seen

-- ---- along a transcript

-- what a command asks after these calls of its client
pub record IsAskedRightly (before : List Call) (asked : Asked) : Type 0 where
  pub snapshot : asked.snapshot ≡ snapshot_asked before asked.command
  pub files : SeesRightly (request_asked asked.command) asked.files

-- the same of each call behind these
abbrev pub AskRightly : List Call → List Call → Type 0
AskRightly before [] = ⊤
AskRightly before (call ∷ calls) = IsAskedRightly before call.asked × AskRightly (before ++ call ∷ []) calls
