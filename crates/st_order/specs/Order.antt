-- A range by its ends, and the first entry in a range.
use Rattle.std.specs.Prelude.{ℕ, List, Option}
use Rattle.std.specs.List.{position}
use Rattle.st_base.specs.Range.{is_in_range}
use Rattle.st_base.specs.declared.entry.Entry.{Entry}
use Rattle.st_base.specs.declared.entry.KeyRange.{KeyRange}

-- the keys from the first to the last
abbrev pub between : List ℕ → List ℕ → KeyRange
between first last = record { first = first; last = last }

-- the index of the first entry whose key lies in the range
abbrev pub first_index_in : KeyRange → List Entry → Option ℕ
first_index_in range entries = position (λ entry. is_in_range range entry.key) entries
