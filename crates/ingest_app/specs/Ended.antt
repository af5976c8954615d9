-- How the words of a command line end: the text of each status, and its cause.
use Rattle.std.specs.Prelude.{ℕ, ◌≡◌, ◌⊎◌, IsTrue, ⊤, List, []}
use Rattle.st_base.specs.Count.{Rose}
use Rattle.st_device.specs.Disk.{IsHonest}
use Rattle.st_stream.specs.Source.{SourceTold}
use Rattle.st_stream.specs.Sink.{SinkTold}
use Rattle.ingest_app.specs.Convert.{ConversionCause, EndsSource}
use Rattle.ingest_app.specs.Form.{Form, Run, Convert, Unknown}
use Rattle.ingest_app.specs.Outside.{EndsWriting, Faulted, IsQuiet, OutsideTold, Writes}
use Rattle.ingest_app.specs.Run.{EndsRun, HasFault, HasScript, HasStore, IsBeforeDisk, IsDamaged}
use Rattle.ingest_app.specs.Texts.{not_yet_text}
use Rattle.ingest_app.specs.declared.status.Status.{Status}
use Rattle.ingest_app.specs.declared.status.Status.TheVariants.{Done, Refused, Memory, InputFault, DiskFault, SinkFault, Script, Damaged, NotYet}

-- ---- the text of each status

-- words that are no form
abbrev pub EndsUnknown : Status → List ℕ → Type 0
EndsUnknown NotYet text = text ≡ not_yet_text
EndsUnknown Memory text = text ≡ []
EndsUnknown other text = ⊥

-- Words of this form may end with this status, if the sink takes this text.
abbrev pub Ends : Form → OutsideTold → OutsideTold → Status → List ℕ → Type 0
Ends (Run name) before after status text = EndsRun name before.inputs after.inputs before.disk after.disk status text
Ends (Convert form) before after status text = EndsSource form before.source after.source status text
Ends Unknown before after status text = EndsUnknown status text

-- words of this form ended with this status and wrote its text, or a part of it
abbrev pub Ended : Form → OutsideTold → OutsideTold → Status → Type 0
Ended form before after status = EndsWriting (Ends form before after) before.sink after.sink status

-- ---- the cause of each status

-- What holds where the run of a client ends with this status.
abbrev pub RunCause : List ℕ → OutsideTold → OutsideTold → Status → Type 0
RunCause name before after Done = (IsTrue before.inputs.known → HasScript name before.inputs) × IsQuiet before after
RunCause name before after Refused = ⊥
RunCause name before after Memory = Writes before.sink after.sink []
RunCause name before after InputFault = Rose before.inputs.faults after.inputs.faults
RunCause name before after DiskFault = Faulted before.disk after.disk
RunCause name before after SinkFault = Rose before.sink.faults after.sink.faults
RunCause name before after Script = IsTrue before.inputs.known → HasFault name before.inputs
RunCause name before after Damaged = IsHonest before.disk → IsDamaged before.disk
RunCause name before after NotYet = ⊥

-- the same of words that are no form
abbrev pub UnknownCause : SinkTold → SinkTold → Status → Type 0
UnknownCause before after NotYet = ⊤
UnknownCause before after Memory = Writes before after []
UnknownCause before after SinkFault = Rose before.faults after.faults
UnknownCause before after other = ⊥

-- What holds where words of this form end with this status.
abbrev pub Cause : Form → OutsideTold → OutsideTold → Status → Type 0
Cause (Run name) before after status = RunCause name before after status
Cause (Convert form) before after status =
    ConversionCause form before.source after.source before.sink after.sink status
Cause Unknown before after status = UnknownCause before.sink after.sink status

-- ---- what is answered where nothing fails

-- the status is that of an answer, or of want of memory
abbrev pub IsConverted : Status → Type 0
IsConverted status = (status ≡ Done) ⊎ (status ≡ Refused) ⊎ (status ≡ Memory)

-- A script over a store, and a source, are answered, where no count rises and memory is there.
abbrev pub IsComplete : Form → OutsideTold → OutsideTold → Status → Type 0
IsComplete (Run name) before after status =
    IsTrue before.inputs.known → HasScript name before.inputs → HasStore before.disk
    → ¬ Rose before.inputs.faults after.inputs.faults → ¬ Faulted before.disk after.disk
    → ¬ Rose before.sink.faults after.sink.faults → (status ≡ Done) ⊎ (status ≡ Memory)
IsComplete (Convert form) before after status =
    ¬ Rose before.source.faults after.source.faults → ¬ Rose before.sink.faults after.sink.faults → IsConverted status
IsComplete Unknown before after status =
    ¬ Rose before.sink.faults after.sink.faults → (status ≡ NotYet) ⊎ (status ≡ Memory)

-- ---- what stays

-- the disk isn't called
abbrev pub LeavesDisk : Form → Status → Type 0
LeavesDisk (Run name) status = IsBeforeDisk status
LeavesDisk other status = ⊤

-- only a run of a client reads input files
abbrev pub LeavesInputs : Form → Type 0
LeavesInputs (Run name) = ⊥
LeavesInputs other = ⊤

-- only a conversion reads the source
abbrev pub LeavesSource : Form → Type 0
LeavesSource (Convert form) = ⊥
LeavesSource other = ⊤

-- ---- words that are to convert

-- Words of this form, of which only conversions are served, may end with this status, if the sink takes this text.
abbrev pub EndsConverting : Form → SourceTold → SourceTold → Status → List ℕ → Type 0
EndsConverting (Convert form) before after status text = EndsSource form before after status text
EndsConverting other before after status text = EndsUnknown status text

-- What holds where such words end with this status.
abbrev pub ConvertingCause : Form → SourceTold → SourceTold → SinkTold → SinkTold → Status → Type 0
ConvertingCause (Convert form) before after sink_before sink_after status =
    ConversionCause form before after sink_before sink_after status
ConvertingCause other before after sink_before sink_after status = UnknownCause sink_before sink_after status

-- they ask for a conversion
abbrev pub AsksConversion : Form → Type 0
AsksConversion (Convert form) = ⊤
AsksConversion other = ⊥
