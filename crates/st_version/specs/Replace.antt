-- Tables of a family replaced by others, and what a family's levels keep.
use Rattle.std.specs.Prelude.{ℕ, zero, suc, Bool, ◌==◌, ◌≤◌, not, IsFalse, List, ◌++◌, drop, filter, map, set}
use Rattle.std.specs.List.{list_any, AllByRecursion as Each}
use Rattle.st_order.specs.Columns.{Pairwise}
use Rattle.core_model.specs.Compaction.{put_all}
use Rattle.core_model.specs.Picture.{FamilyView, FileEntries, level_at, runs_of, table_range}
use Rattle.core_model.specs.RelationParts.{HasEntry}
use Rattle.st_base.specs.Range.{meet}
use Rattle.st_base.specs.Rows.{AreRows}
use Rattle.job_model.specs.ByKey.{IsByKey}

-- whether the table's file is one of these
abbrev pub is_among : List ℕ → FileEntries → Bool
is_among files table = list_any (λ file. file == table.file) files

-- the tables whose file isn't one of these
abbrev pub without_files : List ℕ → List FileEntries → List FileEntries
without_files files tables = filter (λ table. not (is_among files table)) tables

-- new tables among those of a level: in front in level 0, which stands newest first, and by first key elsewhere
abbrev pub with_placed : ℕ → List FileEntries → List FileEntries → List FileEntries
with_placed zero outputs tables = outputs ++ tables
with_placed (suc n) outputs tables = put_all outputs tables

-- the family without the tables of these files, and with the new ones at a level
abbrev pub replaced : List ℕ → ℕ → List FileEntries → FamilyView → FamilyView
replaced inputs level outputs family = record family {
  levels = set (map (without_files inputs) family.levels) level
      (with_placed level outputs (without_files inputs (level_at family level)));
}

-- the ranges of the two tables don't meet
abbrev pub DontMeet : FileEntries → FileEntries → Type 0
DontMeet one other = IsFalse (meet (table_range one) (table_range other))

-- each new table has an entry, and below level 0 they meet neither each other nor what stays there
pub record FitLevel (inputs : List ℕ) (level : ℕ) (outputs : List FileEntries) (family : FamilyView) : Type 0 where
  pub filled : Each HasEntry outputs
  pub apart : 1 ≤ level → Pairwise DontMeet (outputs ++ without_files inputs (level_at family level))

-- ---- what the levels of a family keep

abbrev pub AreTables : List FileEntries → Type 0
AreTables tables = Each (λ table. AreRows table.entries) tables

-- tables are rows, and from level 1 on stand by key
pub record AreLevels (levels : List (List FileEntries)) : Type 0 where
  pub tables : Each AreTables levels
  pub by_key : Each (λ tables. IsByKey (runs_of tables)) (drop 1 levels)
