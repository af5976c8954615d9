-- A memtable as its entries in order, and the lengths of its runs.
use Rattle.std.specs.Prelude.{◌≡◌, ℕ, zero, suc, ◌+◌, ◌*◌, ◌<◌, nat_le, min, if◌then◌else◌, Option, Some, None, List, [], ◌∷◌, ◌++◌, length, map, fold, take, slice_index_or}
use Rattle.std.specs.List.{AllByRecursion as Each}
use Rattle.st_base.specs.Order.{comes_before}
use Rattle.st_base.specs.declared.entry.Entry.{Entry}

-- what a memtable shows: its entries in order, and its sorted runs, the oldest first
pub record MemView : Type 0 where
  pub entries : List Entry
  pub runs : List (List Entry)

-- ---- entries that are put

-- the entry among entries in order, in front of the first that it comes before
abbrev pub put_in_memory : Entry → List Entry → List Entry
put_in_memory entry [] = entry ∷ []
put_in_memory entry (other ∷ others) =
    if comes_before entry other then entry ∷ other ∷ others else other ∷ put_in_memory entry others

-- each of these put among those before, one after the other
abbrev pub with_memory_entries : List Entry → List Entry → List Entry
with_memory_entries before entries = fold (λ so_far entry. put_in_memory entry so_far) before entries

-- the keys or the numbers differ
abbrev pub DifferInPosition : Entry → Entry → Type 0
DifferInPosition one other = (one.key ≡ other.key) × (one.number ≡ other.number) → ⊥

-- each of these has a number above all of those before
abbrev pub AreAbove : List Entry → List Entry → Type 0
AreAbove before entries = Each (λ entry. Each (λ old. old.number < entry.number) before) entries

-- ---- the lengths of runs

abbrev pub lengths_of : List (List Entry) → List ℕ
lengths_of runs = map (λ (run : List Entry). length run) runs

-- a run of so many entries behind the first runs: it is joined with the run before it while that has fewer than twice its
-- entries
abbrev pub lengths_behind : List ℕ → ℕ → ℕ → List ℕ
lengths_behind lengths zero new = new ∷ []
lengths_behind lengths (suc kept) new =
    if nat_le (2 * new) (slice_index_or lengths kept 0) then take (suc kept) lengths ++ new ∷ []
    else lengths_behind lengths kept (slice_index_or lengths kept 0 + new)

-- the lengths after a call that brings so many entries
unfoldable pub with_run : List ℕ → ℕ → List ℕ
with_run lengths zero = lengths
with_run lengths (suc n) = lengths_behind lengths (length lengths) (suc n)

-- one run of all entries, if there are any
abbrev pub one_run : ℕ → List ℕ
one_run zero = []
one_run (suc n) = suc n ∷ []

-- ---- the least number

-- the lesser of two numbers, where they are there
abbrev pub lesser : Option ℕ → Option ℕ → Option ℕ
lesser None other = other
lesser (Some one) None = Some one
lesser (Some one) (Some other) = Some (min one other)

-- the least number of entries
abbrev pub least_number : List Entry → Option ℕ
least_number [] = None
least_number (entry ∷ entries) = lesser (Some entry.number) (least_number entries)
