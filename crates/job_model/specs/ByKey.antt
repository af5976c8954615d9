-- Runs that stand by key, as the tables of levels 1 to 6 do.
use Rattle.std.specs.Prelude.{ℕ, Bool, ◌<◌, IsTrue, length, List}
use Rattle.std.specs.List.{prefix_len, AllByRecursion as Each}
use Rattle.st_base.specs.Bytes.{below}
use Rattle.st_base.specs.Order.{in_order}
use Rattle.st_base.specs.Range.{key_at_end, range_of}
use Rattle.st_base.specs.declared.entry.Entry.{Entry}
use Rattle.st_order.specs.Columns.{Pairwise}

-- each run is in order and has an entry, and each last key is below the first keys of the runs behind it
pub record IsByKey (runs : List (List Entry)) : Type 0 where
  pub ordered : Each (λ entries. IsTrue (in_order entries)) runs
  pub filled : Each (λ entries. 0 < length entries) runs
  pub apart : Pairwise (λ one other. IsTrue (below (range_of one).last (range_of other).first)) runs

-- whether the run ends in front of the key, and how many of the first runs do
abbrev pub ends_below : List ℕ → List Entry → Bool
ends_below key entries = below (key_at_end entries) key

abbrev pub runs_before : List ℕ → List (List Entry) → ℕ
runs_before key runs = prefix_len (ends_below key) runs
