-- Lists that are searched by halves: live numbers that don't fall, and drop ranges that stand by key.
use Rattle.std.specs.Prelude.{ℕ, nat_lt, List}
use Rattle.std.specs.List.{prefix_len}
use Rattle.st_base.specs.Bytes.{below}
use Rattle.st_base.specs.declared.entry.KeyRange.{KeyRange}

-- how many of the first numbers are below this one
abbrev pub numbers_below : ℕ → List ℕ → ℕ
numbers_below number live = prefix_len (λ s. nat_lt s number) live

-- how many of the first ranges end in front of the key
abbrev pub ranges_below : List ℕ → List KeyRange → ℕ
ranges_below key ranges = prefix_len (λ range. below range.last key) ranges
