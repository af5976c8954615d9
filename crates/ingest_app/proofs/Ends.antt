-- What the end of a run of a client says, status by status.
use Rattle.std.proofs.Common.{◌≡◌, ◌⊎◌, inl, inr, ⊎_elim, ℕ, ◌+◌, ◌<◌, ◌≤◌, Bool, true, false, cond, List, [], ◌++◌, length, Option, Some, None, IsTrue, refl, ◌∙◌, ap, sym, subst, arith, true≢false}
use Rattle.std.specs.Prelude.{Result, Ok, Err, nat_le, replicate}
use Rattle.std.proofs.lemmas.Bool.Decides.{nat_tests}
use Rattle.std.proofs.lemmas.List.{length-replicate}
use Rattle.st_base.specs.Count.{Rose}
use Rattle.st_device.specs.Disk.{DiskTold, IsHonest}
use Rattle.log_recover.specs.Contents.{OpenedContents, disk_contents}
use Rattle.log_recover.specs.Opens.{Damage}
use Rattle.st_stream.specs.FileRead.{IsFileWithin, file_read}
use Rattle.st_stream.specs.Inputs.{InputsTold}
use Rattle.st_stream.specs.declared.reading.FileRead.{FileRead}
use Rattle.st_stream.specs.declared.reading.FileRead.TheVariants.{Missing, TooLong, Whole}
use Rattle.cmd_text.specs.declared.script.Numbered.{Numbered}
use Rattle.ingest_app.specs.Client.{client_script}
use Rattle.ingest_app.specs.Ended.{IsComplete, RunCause}
use Rattle.ingest_app.specs.Form.{Run}
use Rattle.ingest_app.specs.Outside.{EndsWriting, Faulted, IsQuiet, OutsideTold}
use Rattle.ingest_app.specs.Run.{EndsRead, EndsRun, EndsClient, EndsScripts, HasFault, HasScript, HasStore, IsFaulty, IsOfFile, IsScript, one_client}
use Rattle.ingest_app.specs.declared.status.Status.{Status}
use Rattle.ingest_app.specs.declared.status.Status.TheVariants.{Done, Refused, Memory, InputFault, DiskFault, SinkFault, Script, Damaged, NotYet}

-- ---- a client's file

-- a run of a script ends as a run of its file
pub client_of_script : (file : Option (List ℕ)) (name : List ℕ) (commands : List Numbered) (before after : DiskTold) (status : Status) (text : List ℕ) → client_script file ≡ Ok commands → EndsScripts (one_client name commands) before after status text → EndsClient file name before after status text
client_of_script file name commands before after Done text read h = record { commands = commands; read = read; ends = h }
client_of_script file name commands before after DiskFault text read h = record { commands = commands; read = read; ends = h }
client_of_script file name commands before after Damaged text read h = record { commands = commands; read = read; ends = h }
client_of_script file name commands before after Refused text read h = absurd h
client_of_script file name commands before after Memory text read h = absurd h
client_of_script file name commands before after InputFault text read h = absurd h
client_of_script file name commands before after SinkFault text read h = absurd h
client_of_script file name commands before after Script text read h = absurd h
client_of_script file name commands before after NotYet text read h = absurd h

-- a run of a client's file ends as a run of the client
pub run_of_file : (name : List ℕ) (before after : InputsTold) (disk left : DiskTold) (status : Status) (text : List ℕ) → IsOfFile status → (status ≡ DiskFault → Faulted disk left) → EndsRead name before disk left status text → EndsRun name before after disk left status text
run_of_file name before after disk left Done text is fault h = h
run_of_file name before after disk left DiskFault text is fault h = (fault refl, h)
run_of_file name before after disk left Damaged text is fault h = h
run_of_file name before after disk left Script text is fault h = h
run_of_file name before after disk left Refused text is fault h = absurd is
run_of_file name before after disk left Memory text is fault h = absurd is
run_of_file name before after disk left InputFault text is fault h = absurd is
run_of_file name before after disk left SinkFault text is fault h = absurd is
run_of_file name before after disk left NotYet text is fault h = absurd is

pub le_yes : (a b : ℕ) → a ≤ b → nat_le a b ≡ true
le_yes a b le = grind (arith, nat_tests)

pub le_no : (a b : ℕ) → b < a → nat_le a b ≡ false
le_no a b less = grind (arith, nat_tests)

-- bytes that are one more than these
abbrev pub bytes_beyond : ℕ → List ℕ
bytes_beyond limit = replicate (limit + 1) 0

pub beyond : (limit : ℕ) → limit < length (bytes_beyond limit)
beyond limit = let is : length (bytes_beyond limit) ≡ limit + 1 = length-replicate {A = ℕ} (limit + 1) 0 in omega (arith, is)

-- what was read is what is read of some file
file_of : (limit : ℕ) (read : FileRead) → IsFileWithin limit read → (file : Option (List ℕ)) × (read ≡ file_read limit file)
file_of limit Missing within = (None, refl)
file_of limit (Whole bytes) within = (Some bytes, sym (ap (λ b. cond b (Whole bytes) TooLong) (le_yes (length bytes) limit within)))
file_of limit TooLong within =
    let long : nat_le (length (bytes_beyond limit)) limit ≡ false = le_no (length (bytes_beyond limit)) limit (beyond limit) in
    (Some (bytes_beyond limit), sym (ap (λ b. cond b (Whole (bytes_beyond limit)) TooLong) long))

-- so a run of what was read is one of a file, which is that of the inputs, where they tell it
pub read_ends : (limit : ℕ) (name : List ℕ) (inputs : InputsTold) (before after : DiskTold) (status : Status) (text : List ℕ) (read : FileRead) → IsFileWithin limit read → (IsTrue inputs.known → read ≡ file_read limit (inputs.file name))
    → ((file : Option (List ℕ)) → read ≡ file_read limit file → EndsClient file name before after status text) → EndsRead name inputs before after status text
read_ends limit name inputs before after status text read within told ends = go inputs.known refl
  where
    go : (known : Bool) → inputs.known ≡ known → EndsRead name inputs before after status text
    go true known = record { file = inputs.file name; theirs = λ _. refl; ends = ends (inputs.file name) (told known) }
    go false unknown = let found = file_of limit read within in record { file = found.0; theirs = λ known. absurd (true≢false (sym known ∙ unknown)); ends = ends found.0 found.1 }

-- ---- the cause of a status

module _ (name : List ℕ) (before after : OutsideTold) where
  pub run_cause : (status : Status) → EndsWriting (EndsRun name before.inputs after.inputs before.disk after.disk) before.sink after.sink status → (status ≡ Done → IsQuiet before after) → RunCause name before after status
  run_cause Done h quiet =
      let read : EndsRead name before.inputs before.disk after.disk Done h.0 = h.1 in
      let script : IsScript read.file name before.disk after.disk Done h.0 = read.ends in
      (λ known. (script.commands, ap client_script (sym (read.theirs known)) ∙ script.read), quiet refl)
  run_cause Refused h quiet = absurd h.1
  run_cause Memory h quiet = λ known. h.2 known ∙ ap (λ text. before.sink.written ++ text) h.1
  run_cause InputFault h quiet = h.1.0
  run_cause DiskFault h quiet = h.1.0
  run_cause SinkFault h quiet = h.0
  run_cause Script h quiet =
      let read : EndsRead name before.inputs before.disk after.disk Script h.0 = h.1 in
      let faulty : IsFaulty read.file name h.0 = read.ends in
      λ known. (faulty.line, ap client_script (sym (read.theirs known)) ∙ faulty.read)
  run_cause Damaged h quiet =
      let read : EndsRead name before.inputs before.disk after.disk Damaged h.0 = h.1 in
      let script : IsScript read.file name before.disk after.disk Damaged h.0 = read.ends in
      λ honest. (script.ends.damage, script.ends.found honest)
  run_cause NotYet h quiet = absurd h.1

  -- a file isn't both a script and faulty
  both_kinds : HasScript name before.inputs → HasFault name before.inputs → ⊥
  both_kinds script faulty = cc (sym script.1 ∙ faulty.1)

  -- nor a disk both a store and damaged
  both_stores : (found : Result OpenedContents Damage) (from : OpenedContents) (damage : Damage) → found ≡ Ok from → found ≡ Err damage → ⊥
  both_stores found from damage ok err = cc (sym ok ∙ err)

  pub run_complete : (status : Status) → RunCause name before after status → IsComplete (Run name) before after status
  run_complete Done cause = λ known script store no_input no_disk no_sink. inl refl
  run_complete Memory cause = λ known script store no_input no_disk no_sink. inr refl
  run_complete Refused cause = absurd cause
  run_complete InputFault cause = λ known script store no_input no_disk no_sink. absurd (no_input cause)
  run_complete DiskFault cause = λ known script store no_input no_disk no_sink. absurd (no_disk cause)
  run_complete SinkFault cause = λ known script store no_input no_disk no_sink. absurd (no_sink cause)
  run_complete Script cause = λ known script store no_input no_disk no_sink. absurd (both_kinds script (cause known))
  run_complete Damaged cause = λ known script store no_input no_disk no_sink.
      let damaged = cause store.0 in absurd (both_stores (disk_contents false before.disk.reads) store.1.0 damaged.0 store.1.1 damaged.1)
  run_complete NotYet cause = absurd cause
