-- What reading a whole file gives.
use Rattle.std.specs.Prelude.{◌≤◌, ℕ, List, Option, Some, None, nat_le, if◌then◌else◌, length}
use Rattle.st_stream.specs.declared.reading.FileRead.{FileRead}
use Rattle.st_stream.specs.declared.reading.FileRead.TheVariants.{Missing, TooLong, Whole}

-- what is read of a file, where at most `limit` bytes are allowed
abbrev pub file_read : ℕ → Option (List ℕ) → FileRead
file_read limit None = Missing
file_read limit (Some bytes) = if nat_le (length bytes) limit then Whole bytes else TooLong

-- what was read has at most `limit` bytes
abbrev pub IsFileWithin : ℕ → FileRead → Type 0
IsFileWithin limit Missing = Unit {0}
IsFileWithin limit TooLong = Unit {0}
IsFileWithin limit (Whole bytes) = length bytes ≤ limit
