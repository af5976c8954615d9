-- Counts of 64 bits.
use Rattle.std.specs.Prelude.{ℕ, ◌+◌, min}
use Rattle.st_base.specs.Count.{greatest_count}

-- a count of 64 bits, one higher; it stands at its end
abbrev pub next_count : ℕ → ℕ
next_count count = min (count + 1) greatest_count
