-- What a gated log reads as, where its records have values of one kind.
use Rattle.std.specs.Prelude.{ℕ, List, [], ◌∷◌, Option, Some, None}
use Rattle.st_gate.specs.Log.{Replayed, log_of}
use Rattle.st_gate.specs.Log.Replayed.{Good, Bad}
use Rattle.st_gate.specs.declared.record.Record.{Record}
use Rattle.manifest_edits.specs.Logs.{LogReading, LogAbsent, LogFound}

-- one value in front
abbrev pub reading_in_front : {X : Type 0} → X → LogReading X → LogReading X
reading_in_front one LogAbsent = LogAbsent
reading_in_front one (LogFound found end) = LogFound (one ∷ found) end

-- a record's value in front of the others; or damage, where it has none
abbrev pub first_read : {X : Type 0} → Record → Option X → LogReading X → LogReading X
first_read one None more = LogFound [] (Some one.at)
first_read one (Some value) more = reading_in_front value more

-- the values of these records in front of the first that has none, or of an end
abbrev pub records_read : {X : Type 0} → (Record → Option X) → List Record → Option ℕ → LogReading X
records_read read [] end = LogFound [] end
records_read read (one ∷ records) end = first_read one (read one) (records_read read records end)

-- those of a log
abbrev pub log_reading : {X : Type 0} → (Record → Option X) → Replayed → LogReading X
log_reading read (Good records at) = records_read read records None
log_reading read (Bad records at) = records_read read records (Some at)

-- those of a file
abbrev pub file_reading : {X : Type 0} → (Record → Option X) → List ℕ → Option (List ℕ) → LogReading X
file_reading read kind None = LogAbsent
file_reading read kind (Some bytes) = log_reading read (log_of kind bytes)
