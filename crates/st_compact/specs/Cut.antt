-- Tables that are cut by a target while they grow.
use Rattle.std.specs.Prelude.{◌≡◌, ℕ, Bool, false, ◌&&◌, not, nat_le, ◌≤◌, ◌-◌, ◌^◌, min, List, [], ◌∷◌, ◌++◌, sum_by}
use Rattle.st_base.specs.Bytes.{same}
use Rattle.st_base.specs.declared.entry.Entry.{Entry}
use Rattle.job_model.specs.Compaction.{cut_behind, cut_tables}
use Rattle.st_base.specs.Entries.{entry_charge}
use Rattle.st_base.specs.Range.{key_at_end}
use Rattle.st_compact.specs.declared.cut_tables.CutTables.{CutTables}
use Rattle.st_order.specs.Sorted.{joined}

-- the sum of the entries' charges
abbrev pub charges_of : List Entry → ℕ
charges_of entries = sum_by (λ entry. entry_charge entry.key entry.mark) entries

-- the entries of all tables
abbrev pub rows_of : CutTables → List Entry
rows_of tables = joined tables.done.items ++ tables.table

-- whether a table is closed before the entry
abbrev pub is_closed_before : ℕ → ℕ → List Entry → Entry → Bool
is_closed_before target charge [] entry = false
is_closed_before target charge (first ∷ others) entry =
    nat_le target charge && not (same (key_at_end (first ∷ others)) entry.key)

-- the rest of the tables, where the last one has these entries so far
abbrev pub cut_from : ℕ → List Entry → List Entry → List (List Entry)
cut_from target [] rest = cut_tables target rest
cut_from target (entry ∷ entries) rest =
    cut_behind target (charges_of (entry ∷ entries)) (key_at_end (entry ∷ entries)) (entry ∷ entries) rest

-- the closed tables and the last one are as the cut of all entries leaves them
pub record IsCutSoFar (tables : CutTables) : Type 0 where
  pub fits : tables.target ≤ 18446744073709551615
  pub sum : tables.charge ≡ min (charges_of tables.table) (2 ^ 64 - 1)
  pub cut : (rest : List Entry) → cut_tables tables.target (rows_of tables ++ rest)
      ≡ tables.done.items ++ cut_from tables.target tables.table rest
