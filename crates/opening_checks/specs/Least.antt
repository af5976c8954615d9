-- The lesser of file numbers that may be there.
use Rattle.std.specs.Prelude.{ℕ, Option, Some, None, nat_lt, if◌then◌else◌}

-- the lesser of the two that is there
abbrev pub lesser_of : Option ℕ → Option ℕ → Option ℕ
lesser_of None other = other
lesser_of (Some file) None = Some file
lesser_of (Some file) (Some least) = if nat_lt file least then Some file else Some least
