-- What a compaction of runs is, and how its entries are cut into tables.
use Rattle.std.specs.Prelude.{ℕ, ◌≡◌, nat_le, ◌+◌, IsTrue, List, [], ◌∷◌, ◌++◌, if◌then◌else◌}
use Rattle.st_base.specs.Order.{in_order}
use Rattle.st_base.specs.Bytes.{same}
use Rattle.st_base.specs.Entries.{entry_charge}
use Rattle.st_base.specs.declared.entry.Entry.{Entry}
use Rattle.st_base.specs.declared.entry.KeyRange.{KeyRange}
use Rattle.st_order.specs.Columns.{column, of_key}
use Rattle.job_model.specs.Column.{compacted}
use Rattle.job_model.specs.Drops.{covers}

-- these entries, in entry order, are what is left of each key's column
pub record IsCompaction (inputs : List (List Entry)) (live : List ℕ) (drops : List KeyRange)
    (entries : List Entry) : Type 0 where
  pub ordered : IsTrue (in_order entries)
  pub columns : (key : List ℕ) → of_key key entries ≡ compacted live (covers drops key) (column key inputs)

-- a table is closed before the first entry of another key once its charges have reached the target
abbrev pub cut_behind : ℕ → ℕ → List ℕ → List Entry → List Entry → List (List Entry)
cut_behind target charge key table [] = table ∷ []
cut_behind target charge key table (entry ∷ entries) =
    if nat_le target charge then
    (if same key entry.key then cut_behind target (charge + entry_charge entry.key entry.mark) entry.key
    (table ++ entry ∷ []) entries
    else table ∷ cut_behind target (entry_charge entry.key entry.mark) entry.key (entry ∷ []) entries)
    else cut_behind target (charge + entry_charge entry.key entry.mark) entry.key (table ++ entry ∷ []) entries

-- entries cut into tables at a target
abbrev pub cut_tables : ℕ → List Entry → List (List Entry)
cut_tables target [] = []
cut_tables target (entry ∷ entries) =
    cut_behind target (entry_charge entry.key entry.mark) entry.key (entry ∷ []) entries
