-- What reading a source to its end gives.
use Rattle.std.specs.Prelude.{◌≡◌, ◌≤◌, ℕ, List, [], nat_le, if◌then◌else◌, length}
use Rattle.st_stream.specs.declared.source_reading.SourceRead.{SourceRead}
use Rattle.st_stream.specs.declared.source_reading.SourceRead.TheVariants.{TooLong, Whole}

-- what is read of a source that has these bytes left, where at most `limit` are allowed
abbrev pub source_read : ℕ → List ℕ → SourceRead
source_read limit left = if nat_le (length left) limit then Whole left else TooLong

-- where all bytes were read, none is left
abbrev pub LeavesNone : SourceRead → List ℕ → Type 0
LeavesNone TooLong left = Unit {0}
LeavesNone (Whole bytes) left = left ≡ []

-- what was read has at most `limit` bytes
abbrev pub IsReadWithin : ℕ → SourceRead → Type 0
IsReadWithin limit TooLong = Unit {0}
IsReadWithin limit (Whole bytes) = length bytes ≤ limit
