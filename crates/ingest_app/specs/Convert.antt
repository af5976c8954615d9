-- How a conversion of the source ends, and what it has written then.
use Rattle.std.specs.Prelude.{ℕ, ◌≡◌, ◌<◌, ◌≤◌, Bool, nat_le, IsTrue, List, [], ◌∷◌, ◌++◌, length, codes}
use Rattle.std.specs.Prelude.{◌⊎◌, Some, Result, Ok, Err}
use Rattle.std.specs.Fmt.{decimal}
use Rattle.st_base.specs.Count.{Rose}
use Rattle.st_base.specs.declared.limits.TheConstants.{SOURCE_BYTES}
use Rattle.st_base.specs.Faults.{printed_table_fault}
use Rattle.st_base.specs.declared.entry.Entry.{Entry}
use Rattle.st_base.specs.declared.faults.TableFault.{TableFault}
use Rattle.st_stream.specs.Source.{SourceTold}
use Rattle.st_stream.specs.Sink.{SinkTold}
use Rattle.st_table.specs.Footer.{greatest_size}
use Rattle.st_table.specs.IsTable.{IsTable}
use Rattle.st_table.specs.Table.{first_fault}
use Rattle.table_writer.specs.Written.{written_table}
use Rattle.st_table.specs.declared.kind.TableKind.TheVariants.{External}
use Rattle.sst_writer.specs.declared.fault.FinishFault.{FinishFault}
use Rattle.sst_writer.specs.declared.fault.FinishFault.TheVariants as finish
use Rattle.sst_writer.specs.declared.fault.WriterFault.{WriterFault}
use Rattle.sst_writer.specs.declared.fault.WriterFault.TheVariants as writer
use Rattle.build_text.specs.Build.{build_of, build_text}
use Rattle.build_text.specs.declared.fault.BuildFault.{BuildFault}
use Rattle.build_text.specs.declared.fault.BuildFault.TheVariants as build
use Rattle.ingest_app.specs.Outside.{Writes}
use Rattle.ingest_app.specs.Texts.{refused_text, source_text}
use Rattle.ingest_app.specs.declared.command_line.Conversion.{Conversion}
use Rattle.ingest_app.specs.declared.command_line.Conversion.TheVariants.{Build, Show}
use Rattle.ingest_app.specs.declared.status.Status.{Status}
use Rattle.ingest_app.specs.declared.status.Status.TheVariants.{Done, Refused, Memory, InputFault, SinkFault}

-- the number of a line and what is wrong with it
abbrev pub line_cause : ℕ → List ℕ → List ℕ
line_cause line name = decimal line ++ 32 ∷ name

abbrev pub build_cause : BuildFault → List ℕ
build_cause (build.Line line) = line_cause line (codes "Line")
build_cause (build.TooLarge line) = line_cause line (codes "TooLarge")
build_cause (build.NotRising line) = line_cause line (codes "NotRising")
build_cause build.NoEntry = codes "0 NoEntry"
build_cause build.OutOfMemory = []

-- ---- what is made of bytes

-- the entries fit one external table
abbrev pub fit_table : List Entry → Bool
fit_table entries = nat_le (length (written_table External entries)) (greatest_size External)

-- the bytes are a build text, and the text is the table of its entries
pub record IsBuilt (bytes text : List ℕ) : Type 0 where
  pub short : length bytes ≤ SOURCE_BYTES
  pub entries : List Entry
  pub read : build_of fit_table bytes ≡ Ok entries
  pub written : text ≡ written_table External entries

-- the bytes are no build text of a table, and the text names the first fault
pub record IsFaultyBuild (bytes text : List ℕ) : Type 0 where
  pub short : length bytes ≤ SOURCE_BYTES
  pub fault : BuildFault
  pub read : build_of fit_table bytes ≡ Err fault
  pub printed : text ≡ refused_text (build_cause fault)

-- the bytes are too many for a build text
pub record IsLongBuild (bytes text : List ℕ) : Type 0 where
  pub long : SOURCE_BYTES < length bytes
  pub printed : text ≡ refused_text (codes "0 TooLong")

-- the bytes are an external table, and the text is the build text of its entries
pub record IsShown (bytes text : List ℕ) : Type 0 where
  pub entries : List Entry
  pub table : IsTable bytes External entries
  pub written : text ≡ build_text entries

-- the bytes are no external table, and the text names the first fault
pub record IsFaultyTable (bytes text : List ℕ) : Type 0 where
  pub fault : TableFault
  pub found : first_fault bytes External ≡ Some fault
  pub printed : text ≡ refused_text (printed_table_fault fault)

-- the fault of a line whose entry a table's writer doesn't take
abbrev pub fault_at : ℕ → WriterFault → BuildFault
fault_at number writer.NotRising = build.NotRising number
fault_at number writer.TooLarge = build.TooLarge number
fault_at number writer.OutOfMemory = build.OutOfMemory

-- the fault of a writer that isn't finished
abbrev pub unfinished : FinishFault → BuildFault
unfinished finish.NoEntry = build.NoEntry
unfinished finish.OutOfMemory = build.OutOfMemory

-- what a writer of a build text's table has found out: its table, or its first fault, unless memory runs out
abbrev pub GivesTable : Result (List ℕ) BuildFault → Result (List Entry) BuildFault → Type 0
GivesTable (Ok table) reading = (entries : List Entry) × (reading ≡ Ok entries) × (table ≡ written_table External entries)
GivesTable (Err build.OutOfMemory) reading = Unit {0}
GivesTable (Err fault) reading = reading ≡ Err fault

-- The conversion of these bytes may end with this status, if the sink takes this text.
abbrev pub EndsBytes : Conversion → List ℕ → Status → List ℕ → Type 0
EndsBytes Build bytes Done text = IsBuilt bytes text
EndsBytes Build bytes Refused text = IsFaultyBuild bytes text ⊎ IsLongBuild bytes text
EndsBytes Show bytes Done text = IsShown bytes text
EndsBytes Show bytes Refused text = IsFaultyTable bytes text
EndsBytes form bytes other text = ⊥

-- the statuses that the bytes of a source can lead to
abbrev pub IsOfBytes : Status → Type 0
IsOfBytes Done = Unit {0}
IsOfBytes Refused = Unit {0}
IsOfBytes other = ⊥

-- There are bytes, which are those of the source, where it tells them, and their conversion may end with this status, if the
-- sink takes this text.
pub record EndsConverted (form : Conversion) (source : SourceTold) (status : Status) (text : List ℕ) : Type 0 where
  pub bytes : List ℕ
  pub theirs : IsTrue source.known → bytes ≡ source.left
  pub ends : EndsBytes form bytes status text

-- The conversion of the source may end with this status, if the sink takes this text.
abbrev pub EndsSource : Conversion → SourceTold → SourceTold → Status → List ℕ → Type 0
EndsSource form before after Done text = EndsConverted form before Done text
EndsSource form before after Refused text = EndsConverted form before Refused text
EndsSource form before after InputFault text = Rose before.faults after.faults × (text ≡ source_text)
EndsSource form before after Memory text = text ≡ []
EndsSource form before after other text = ⊥

-- ---- which bytes are converted, and which are refused

-- a build text of a table, or an external table
abbrev pub IsConvertible : Conversion → List ℕ → Type 0
IsConvertible form bytes = (text : List ℕ) × EndsBytes form bytes Done text

-- no such text or table, or too long
abbrev pub IsUnconvertible : Conversion → List ℕ → Type 0
IsUnconvertible form bytes = (text : List ℕ) × EndsBytes form bytes Refused text

-- What holds where a conversion ends with this status.
abbrev pub ConversionCause : Conversion → SourceTold → SourceTold → SinkTold → SinkTold → Status → Type 0
ConversionCause form before after sink_before sink_after Done =
    (IsTrue before.known → IsConvertible form before.left)
    × (after.faults ≡ before.faults) × (sink_after.faults ≡ sink_before.faults)
ConversionCause form before after sink_before sink_after Refused =
    IsTrue before.known → IsUnconvertible form before.left
ConversionCause form before after sink_before sink_after Memory = Writes sink_before sink_after []
ConversionCause form before after sink_before sink_after InputFault = Rose before.faults after.faults
ConversionCause form before after sink_before sink_after SinkFault = Rose sink_before.faults sink_after.faults
ConversionCause form before after sink_before sink_after other = ⊥
