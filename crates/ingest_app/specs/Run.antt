-- How a run of a client ends, and the text that goes with that.
use Rattle.std.specs.Prelude.{ℕ, ◌≡◌, ◌⊎◌, IsTrue, true, false, ⊤, List, [], ◌∷◌, Option, Some, None, Ok, Err}
use Rattle.st_base.specs.Count.{Rose}
use Rattle.st_device.specs.Disk.{DiskTold, IsHonest, Leaves}
use Rattle.log_recover.specs.Contents.{OpenedContents, SameContents, disk_contents}
use Rattle.log_recover.specs.Opens.{Damage}
use Rattle.log_recover.specs.declared.fault.OpenFault.{OpenFault}
use Rattle.log_recover.specs.declared.fault.OpenFault.TheVariants as opening
use Rattle.st_stream.specs.Inputs.{InputsTold}
use Rattle.cmd_text.specs.declared.script.Numbered.{Numbered}
use Rattle.ingest_app.specs.Client.{ClientScript, client_script, IsRun}
use Rattle.ingest_app.specs.Outside.{Faulted}
use Rattle.ingest_app.specs.Texts.{damaged_text, disk_text, input_text, script_text}
use Rattle.ingest_app.specs.declared.status.Status.{Status}
use Rattle.ingest_app.specs.declared.status.Status.TheVariants.{Done, Memory, InputFault, DiskFault, Script, Damaged, NotYet}

-- ---- over the disk

-- each image of a crash within an opening that failed is one that a crash before it could leave, or has what was read
abbrev pub StaysAsRead : DiskTold → DiskTold → Type 0
StaysAsRead before after =
    IsHonest before → Leaves (λ image. before.now image ⊎ SameContents image before.reads) before after

-- the opening of the disk failed
pub record IsUnopened (text : List ℕ) (before after : DiskTold) : Type 0 where
  pub printed : text ≡ disk_text
  pub stays : StaysAsRead before after

-- the disk's store is damaged, which the text names
pub record IsDamagedStore (text : List ℕ) (before after : DiskTold) : Type 0 where
  pub damage : Damage
  pub found : IsHonest before → disk_contents false before.reads ≡ Err damage
  pub printed : text ≡ damaged_text damage.file damage.at
  pub stays : StaysAsRead before after

-- what is told of an opening that failed
abbrev pub EndsOpening : OpenFault → Status → List ℕ → Type 0
EndsOpening (opening.Damaged file at) status text = (status ≡ Damaged) × (text ≡ damaged_text file at)
EndsOpening opening.DiskFault status text = (status ≡ DiskFault) × (text ≡ disk_text)
EndsOpening opening.OutOfMemory status text = ⊥

-- A run of these clients may end with this status over the disk, if the sink takes this text.
abbrev pub EndsScripts : List ClientScript → DiskTold → DiskTold → Status → List ℕ → Type 0
EndsScripts clients before after Done text = IsRun clients text before after false
EndsScripts clients before after DiskFault text = IsRun clients text before after true ⊎ IsUnopened text before after
EndsScripts clients before after Damaged text = IsDamagedStore text before after
EndsScripts clients before after other text = ⊥

-- ---- of a client's file

-- the only client
abbrev pub one_client : List ℕ → List Numbered → List ClientScript
one_client name commands = record { name = name; commands = commands } ∷ []

-- the client's file has commands, and they end so
pub record IsScript (file : Option (List ℕ)) (name : List ℕ) (before after : DiskTold) (status : Status)
    (text : List ℕ) : Type 0 where
  pub commands : List Numbered
  pub read : client_script file ≡ Ok commands
  pub ends : EndsScripts (one_client name commands) before after status text

-- the client's file is no script, and the text names its first faulty line
pub record IsFaulty (file : Option (List ℕ)) (name text : List ℕ) : Type 0 where
  pub line : ℕ
  pub read : client_script file ≡ Err line
  pub printed : text ≡ script_text name line

-- The run of a client whose file this is may end with this status, if the sink takes this text.
abbrev pub EndsClient : Option (List ℕ) → List ℕ → DiskTold → DiskTold → Status → List ℕ → Type 0
EndsClient file name before after Script text = IsFaulty file name text
EndsClient file name before after status text = IsScript file name before after status text

-- the statuses that a client's file can lead to
abbrev pub IsOfFile : Status → Type 0
IsOfFile Done = ⊤
IsOfFile DiskFault = ⊤
IsOfFile Damaged = ⊤
IsOfFile Script = ⊤
IsOfFile other = ⊥

-- There is a file of the client, which is the one that the inputs tell, where they tell their bytes, and the run of a
-- client with this file may end so.
pub record EndsRead (name : List ℕ) (inputs : InputsTold) (before after : DiskTold) (status : Status)
    (text : List ℕ) : Type 0 where
  pub file : Option (List ℕ)
  pub theirs : IsTrue inputs.known → file ≡ inputs.file name
  pub ends : EndsClient file name before after status text

-- ---- of a client

-- The run of a client of this name may end with this status, if the sink takes this text.
abbrev pub EndsRun : List ℕ → InputsTold → InputsTold → DiskTold → DiskTold → Status → List ℕ → Type 0
EndsRun name before after disk left Done text = EndsRead name before disk left Done text
EndsRun name before after disk left InputFault text = Rose before.faults after.faults × (text ≡ input_text name)
EndsRun name before after disk left DiskFault text = Faulted disk left × EndsRead name before disk left DiskFault text
EndsRun name before after disk left Script text = EndsRead name before disk left Script text
EndsRun name before after disk left Damaged text = EndsRead name before disk left Damaged text
EndsRun name before after disk left Memory text = text ≡ []
EndsRun name before after disk left other text = ⊥

-- the statuses with which the disk comes back as it was
abbrev pub IsBeforeDisk : Status → Type 0
IsBeforeDisk InputFault = ⊤
IsBeforeDisk Script = ⊤
IsBeforeDisk NotYet = ⊤
IsBeforeDisk other = ⊥

-- ---- what a client's file and the disk are

-- the file of the client has commands
abbrev pub HasScript : List ℕ → InputsTold → Type 0
HasScript name inputs = (commands : List Numbered) × (client_script (inputs.file name) ≡ Ok commands)

-- the file of the client isn't there, is too long, or has a faulty line
abbrev pub HasFault : List ℕ → InputsTold → Type 0
HasFault name inputs = (line : ℕ) × (client_script (inputs.file name) ≡ Err line)

-- the disk tells what it reads, and this is a store
abbrev pub HasStore : DiskTold → Type 0
HasStore disk = IsHonest disk × ((from : OpenedContents) × (disk_contents false disk.reads ≡ Ok from))

-- the disk reads a damaged store
abbrev pub IsDamaged : DiskTold → Type 0
IsDamaged disk = (damage : Damage) × (disk_contents false disk.reads ≡ Err damage)
