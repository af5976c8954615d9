-- The outside of a run, before it and after it, and what the sink took.
use Rattle.std.specs.Prelude.{ℕ, ◌≡◌, ◌⊎◌, IsTrue, List, ◌++◌}
use Rattle.st_base.specs.Count.{Rose}
use Rattle.st_device.specs.Disk.{DiskTold}
use Rattle.st_stream.specs.Inputs.{InputsTold}
use Rattle.st_stream.specs.Source.{SourceTold}
use Rattle.st_stream.specs.Sink.{SinkTold, AppendsPrefix}
use Rattle.ingest_app.specs.declared.status.Status.{Status}
use Rattle.ingest_app.specs.declared.status.Status.TheVariants.{SinkFault}

-- what is known of all outside objects at one time
pub record OutsideTold : Type 1 where
  pub inputs : InputsTold
  pub source : SourceTold
  pub disk : DiskTold
  pub sink : SinkTold

abbrev pub outside : InputsTold → SourceTold → DiskTold → SinkTold → OutsideTold
outside inputs source disk sink = record { inputs = inputs; source = source; disk = disk; sink = sink }

-- no count of the disk, the source and the sink rose
pub record IsQuiet (before after : OutsideTold) : Type 0 where
  pub disk : after.disk.faults ≡ before.disk.faults
  pub source : after.source.faults ≡ before.source.faults
  pub sink : after.sink.faults ≡ before.sink.faults

-- the disk failed in this run
abbrev pub Faulted : DiskTold → DiskTold → Type 0
Faulted before after = Rose before.faults after.faults

-- ---- what is written

-- the sink took the text, as far as it is known
abbrev pub Writes : SinkTold → SinkTold → List ℕ → Type 0
Writes before after text = IsTrue before.known → after.written ≡ before.written ++ text

-- the sink took a part of the text, from its beginning on, as far as it is known
abbrev pub WritesPrefix : SinkTold → SinkTold → List ℕ → Type 0
WritesPrefix before after text = IsTrue before.known → AppendsPrefix before.written after.written text

-- the sink took the text, and the status is this one; or it failed
abbrev pub WritesOutcome : Status → List ℕ → SinkTold → SinkTold → Status → Type 0
WritesOutcome wanted text before after status =
    ((status ≡ wanted) × Writes before after text)
    ⊎ ((status ≡ SinkFault) × Rose before.faults after.faults × WritesPrefix before after text)

-- it ended with this status and wrote a text that goes with it; or the sink failed while it took the text of some status
abbrev pub EndsWriting : (Status → List ℕ → Type 0) → SinkTold → SinkTold → Status → Type 0
EndsWriting ends before after SinkFault =
    Rose before.faults after.faults
    × ((status : Status) × (text : List ℕ) × ends status text × WritesPrefix before after text)
EndsWriting ends before after status = (text : List ℕ) × ends status text × Writes before after text
