-- Picking over tables that show what they are.
use Rattle.std.specs.Prelude.{ℕ, Bool, List, map, Option}
use Rattle.st_base.specs.declared.entry.KeyRange.{KeyRange}
use Rattle.st_base.specs.declared.running.LevelRanges.{LevelRanges}
use Rattle.st_base.specs.declared.running.Ranged.{Ranged}
use Rattle.st_base.specs.declared.running.Running.{Running}
use Rattle.job_model.specs.Pick.{is_free_among, joint_shown, pick_of, with_next_of}
use Rattle.st_pick.specs.declared.picked.Picked.{Picked}

-- a table shows itself
abbrev pub itself : Ranged → Ranged
itself table = table

-- the words of picking over such tables
abbrev pub joint_range_of : List Ranged → KeyRange
joint_range_of tables = joint_shown itself tables

abbrev pub with_meeting : List Ranged → List Ranged → List Ranged
with_meeting tables next = with_next_of itself tables next

abbrev pub is_free_of_jobs : List Running → ℕ → ℕ → List Ranged → Bool
is_free_of_jobs running lowest level inputs = is_free_among itself running lowest level inputs

-- the tables of each level
abbrev pub tables_of_levels : List LevelRanges → List (List Ranged)
tables_of_levels levels = map (λ level. level.tables) levels

-- what is picked of these levels: an output level and the inputs
abbrev pub picked_tables : List Running → ℕ → List LevelRanges → Option (ℕ × List Ranged)
picked_tables running lowest levels = pick_of itself running lowest (tables_of_levels levels)

-- as it is handed out: files, level and joint range
abbrev pub picked_of : ℕ × List Ranged → Picked
picked_of chosen = record {
  inputs = map (λ table. table.file) chosen.1;
  level = chosen.0;
  range = joint_range_of chosen.1;
}
