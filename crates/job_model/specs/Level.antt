-- At which level a file that isn't behind is placed, over the runs of each level's tables and the running jobs.
use Rattle.std.specs.Prelude.{ℕ, Bool, ◌&&◌, not, ◌==◌, ◌+◌, nat_le, List, [], ◌∷◌, find, flat_map, if◌then◌else◌, Option, Some, None}
use Rattle.std.specs.Option.{option_map, option_or}
use Rattle.std.specs.List.{list_any}
use Rattle.st_base.specs.Range.{meet, range_of}
use Rattle.st_base.specs.declared.entry.Entry.{Entry}
use Rattle.st_base.specs.declared.entry.KeyRange.{KeyRange}
use Rattle.st_base.specs.declared.running.Running.{Running}
use Rattle.st_model.specs.declared.refusal.Why.{Why}
use Rattle.st_model.specs.declared.refusal.Why.TheVariants as whys
use Rattle.st_order.specs.Least.{least_within}

-- the runs of all these levels, in the order of the walk
abbrev pub runs_in : List (List (List Entry)) → List (List Entry)
runs_in levels = flat_map (λ level. level) levels

-- whether the run's range meets the range
abbrev pub run_meets : KeyRange → List Entry → Bool
run_meets range entries = meet (range_of entries) range

-- whether the job's outputs will stand at the level and may meet the range
abbrev pub output_meets : ℕ → KeyRange → Running → Bool
output_meets n range job = job.level == n && meet job.range range

-- why the level stops the walk: an entry in the range, else a running job's output
abbrev pub stop_in : List Running → ℕ → KeyRange → List (List Entry) → Option Why
stop_in running n range runs =
    option_or (option_map whys.Key (least_within range runs))
    (option_map (λ (job : Running). whys.Running job.range) (find (output_meets n range) running))

-- whether no run's range meets the range
abbrev pub is_free_level : KeyRange → List (List Entry) → Bool
is_free_level range runs = not (list_any (run_meets range) runs)

-- the level of a file, and why the walk stopped if it did
pub record LevelChoice : Type 0 where
  pub level : ℕ
  pub cause : Option Why

-- the walk ends at the level found before, where something stops it
abbrev pub stopped : Option Why → ℕ → LevelChoice → LevelChoice
stopped None found rest = rest
stopped (Some why) found rest = record { level = found; cause = Some why }

-- the walk over the levels from n on, where `found` is the last free level above that is at most the lowest
abbrev pub walk_from : List Running → KeyRange → ℕ → ℕ → ℕ → List (List (List Entry)) → LevelChoice
walk_from running range lowest found n [] = record { level = found; cause = None }
walk_from running range lowest found n (runs ∷ levels) =
    stopped (stop_in running n range runs) found
    (walk_from running range lowest (if (nat_le n lowest && is_free_level range runs) then n else found) (n + 1) levels)

-- The level rule: levels are walked downwards until one has an entry in the range or a running output that meets it. The
-- last level passed, at most the lowest, whose tables' ranges don't meet the range is the file's; else it is level 0.
unfoldable pub level_rule : List (List (List Entry)) → List Running → KeyRange → ℕ → LevelChoice
level_rule levels running range lowest = walk_from running range lowest 0 0 levels
