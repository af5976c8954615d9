-- How words end over objects in memory, of which nothing is left to be premised.
use Rattle.std.specs.Prelude.{ℕ, ◌≡◌, ◌⊎◌, ◌++◌, ⊤, Bool, true, false, List, Ok}
use Rattle.st_base.specs.Count.{Rose}
use Rattle.st_device.specs.Disk.{DiskTold, Leaves}
use Rattle.cmd_text.specs.declared.script.Numbered.{Numbered}
use Rattle.log_recover.specs.Contents.{OpenedContents, SameContents, disk_contents}
use Rattle.st_model.specs.declared.command.Call.{Call}
use Rattle.ingest_app.specs.Client.{AreImagesOf, AreTranscriptsOf, client_script, opening_of}
use Rattle.ingest_app.specs.Convert.{EndsBytes}
use Rattle.ingest_app.specs.Form.{Form, Run, Convert, Unknown}
use Rattle.ingest_app.specs.Outside.{Faulted, OutsideTold}
use Rattle.ingest_app.specs.Run.{HasScript, one_client}
use Rattle.ingest_app.specs.Texts.{disk_text}
use Rattle.ingest_app.specs.declared.command_line.Conversion.{Conversion}
use Rattle.ingest_app.specs.declared.status.Status.{Status}
use Rattle.ingest_app.specs.declared.status.Status.TheVariants.{Done, Refused, Memory, DiskFault}

-- The client's file is a script, its transcript is written, which is legal from the contents that the disk read, and every
-- image of a crash is one of the run.
pub record IsRunInMemory (name : List ℕ) (before after : OutsideTold) (failed : Bool) : Type 0 where
  pub commands : List Numbered
  pub script : client_script (before.inputs.file name) ≡ Ok commands
  pub from : OpenedContents
  pub transcripts : List (List Call)
  pub text : List ℕ
  pub answers : AreTranscriptsOf (one_client name commands) text (opening_of from) failed transcripts
  pub images : AreImagesOf from transcripts before.disk after.disk failed
  pub written : after.sink.written ≡ before.sink.written ++ text

-- the opening failed: each image of a crash is one from before it, or has what was read
pub record IsUnopenedInMemory (before after : OutsideTold) : Type 0 where
  pub stays : Leaves (λ image. before.disk.now image ⊎ SameContents image before.disk.reads) before.disk after.disk
  pub written : after.sink.written ≡ before.sink.written ++ disk_text

-- the text that goes with the status of a conversion is written
abbrev pub IsConvertedInMemory : Conversion → OutsideTold → OutsideTold → Status → Type 0
IsConvertedInMemory form before after status =
    (text : List ℕ) × EndsBytes form before.source.left status text
    × (after.sink.written ≡ before.sink.written ++ text)

-- What words of this form do where they end with this status.
abbrev pub RunsInMemory : Form → OutsideTold → OutsideTold → Status → Type 0
RunsInMemory (Run name) before after Done = IsRunInMemory name before after false
RunsInMemory (Run name) before after DiskFault =
    IsRunInMemory name before after true ⊎ IsUnopenedInMemory before after
RunsInMemory (Run name) before after other = ⊤
RunsInMemory (Convert form) before after Done = IsConvertedInMemory form before after Done
RunsInMemory (Convert form) before after Refused = IsConvertedInMemory form before after Refused
RunsInMemory (Convert form) before after other = ⊤
RunsInMemory Unknown before after status = ⊤

-- A script over a store is answered where no count rises and memory is there.
abbrev pub IsCompleteInMemory : Form → OutsideTold → OutsideTold → Status → Type 0
IsCompleteInMemory (Run name) before after status =
    HasScript name before.inputs → (from : OpenedContents) → disk_contents false before.disk.reads ≡ Ok from
    → ¬ Rose before.inputs.faults after.inputs.faults → ¬ Faulted before.disk after.disk
    → ¬ Rose before.sink.faults after.sink.faults → (status ≡ Done) ⊎ (status ≡ Memory)
IsCompleteInMemory (Convert form) before after status =
    ¬ Rose before.source.faults after.source.faults → ¬ Rose before.sink.faults after.sink.faults
    → (status ≡ Done) ⊎ (status ≡ Refused) ⊎ (status ≡ Memory)
IsCompleteInMemory Unknown before after status = ⊤
