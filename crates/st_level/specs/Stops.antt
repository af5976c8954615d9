-- How levels are seen as runs, and what a stop of the walk tells.
use Rattle.std.specs.Prelude.{◌≡◌, ℕ, List, [], map, drop, Option, Some, None, unwrap_or, slice_get, option_map}
use Rattle.std.specs.List.{AllByRecursion as Each}
use Rattle.st_base.specs.Levels.{levels_of}
use Rattle.st_base.specs.declared.entry.Entry.{Entry}
use Rattle.st_base.specs.declared.levels.Levels.{Levels}
use Rattle.st_base.specs.declared.running.Running.{Running}
use Rattle.st_model.specs.declared.refusal.Why.{Why}
use Rattle.st_model.specs.declared.refusal.Why.TheVariants as whys
use Rattle.job_model.specs.ByKey.{IsByKey}
use Rattle.st_level.specs.Found.{entry_in_run}
use Rattle.st_level.specs.declared.choice.Stop.{Stop}
use Rattle.st_level.specs.declared.choice.Stop.TheVariants.{AtEntry, AtRunning}

module _ {T : Type 0} (rows : T → List Entry) where
  -- the runs of each level's tables
  abbrev pub runs_of_levels : Levels T → List (List (List Entry))
  runs_of_levels levels = map (λ (tables : List T). map rows tables) (levels_of levels)

-- from level 1 on the tables stand by key
abbrev pub AreByKey : List (List (List Entry)) → Type 0
AreByKey levels = Each IsByKey (drop 1 levels)

-- the runs of the level
abbrev pub runs_at_level : List (List (List Entry)) → ℕ → List (List Entry)
runs_at_level levels n = unwrap_or (slice_get levels n) []

-- the cause that a stop shows
abbrev pub cause_of_stop : List (List (List Entry)) → List Running → Stop → Option Why
cause_of_stop levels running (AtEntry level table entry) =
    option_map (λ (found : Entry). whys.Key found.key) (entry_in_run (runs_at_level levels level) table entry)
cause_of_stop levels running (AtRunning index) =
    option_map (λ (job : Running). whys.Running job.range) (slice_get running index)

-- the stop shows the cause, and there is none exactly where there is no cause
abbrev pub TellsCause : List (List (List Entry)) → List Running → Option Stop → Option Why → Type 0
TellsCause levels running None cause = cause ≡ None
TellsCause levels running (Some stop) cause =
    (why : Why) × (cause ≡ Some why) × (cause_of_stop levels running stop ≡ Some why)
