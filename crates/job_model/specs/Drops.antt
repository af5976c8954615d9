-- Where a compaction may drop tombstones.
use Rattle.std.specs.Prelude.{ℕ, Bool, ◌+◌, ◌≤◌, IsTrue, List, [], ◌∷◌, drop, map, if◌then◌else◌}
use Rattle.std.specs.List.{list_any, AllByRecursion as Each}
use Rattle.st_base.specs.Bytes.{at_most, below, same}
use Rattle.st_base.specs.Range.{is_in_range, keys_of, meet, range_of}
use Rattle.st_base.specs.declared.entry.Entry.{Entry}
use Rattle.st_base.specs.declared.entry.KeyRange.{KeyRange}
use Rattle.st_order.specs.Columns.{Pairwise}
use Rattle.st_order.specs.Sorted.{merged}
use Rattle.job_model.specs.Level.{runs_in}

-- of keys that don't fall, each once
abbrev pub distinct_behind : List ℕ → List (List ℕ) → List (List ℕ)
distinct_behind before [] = []
distinct_behind before (key ∷ keys) =
    if same before key then distinct_behind before keys else key ∷ distinct_behind key keys

-- keys that don't fall, each once
abbrev pub distinct : List (List ℕ) → List (List ℕ)
distinct [] = []
distinct (key ∷ keys) = key ∷ distinct_behind key keys

-- the keys of these runs, rising
abbrev pub rising_keys : List (List Entry) → List (List ℕ)
rising_keys runs = distinct (keys_of (merged runs))

-- whether one of the ranges has the key
abbrev pub covers : List KeyRange → List ℕ → Bool
covers ranges key = list_any (λ range. is_in_range range key) ranges

-- The range so far goes from the first of these keys to the last. Keys behind it that lie in no lower range go on with it, as
-- long as no lower range lies between.
abbrev pub go_on : List KeyRange → List ℕ → List ℕ → List (List ℕ) → List KeyRange
go_on lower first last [] = record { first = first; last = last } ∷ []
go_on lower first last (key ∷ keys) =
    if covers lower key then go_on lower first last keys
    else (if list_any (meet (record { first = last; last = key })) lower
    then record { first = first; last = last } ∷ go_on lower key key keys
    else go_on lower first key keys)

-- the keys that lie in no lower range fall into runs that no lower range parts; each gives one range
abbrev pub drop_runs : List KeyRange → List (List ℕ) → List KeyRange
drop_runs lower [] = []
drop_runs lower (key ∷ keys) = if covers lower key then drop_runs lower keys else go_on lower key key keys

-- numbers that don't fall
abbrev pub DontFall : List ℕ → Type 0
DontFall numbers = Pairwise (λ one other. one ≤ other) numbers

-- each range is proper, and each last key is below the later first keys
pub record AreApart (ranges : List KeyRange) : Type 0 where
  pub proper : Each (λ range. IsTrue (at_most range.first range.last)) ranges
  pub apart : Pairwise (λ one other. IsTrue (below one.last other.first)) ranges

-- the ranges of the tables below a level
abbrev pub lower_ranges_in : List (List (List Entry)) → ℕ → List KeyRange
lower_ranges_in levels level = map range_of (runs_in (drop (level + 1) levels))
