-- What the laws say of the rules.
use Rattle.std.specs.Prelude.{ℕ, ◌≡◌, ◌<◌, ◌≤◌, IsTrue, IsFalse, List, slice_get, Some, None}
use Rattle.std.specs.List.{AllByRecursion as Each}
use Rattle.st_base.specs.Bytes.{at_most}
use Rattle.st_base.specs.Range.{meet}
use Rattle.st_base.specs.declared.entry.Entry.{Entry}
use Rattle.st_base.specs.declared.entry.KeyRange.{KeyRange}
use Rattle.st_order.specs.Least.{least_within}
use Rattle.job_model.specs.Drops.{drop_runs, rising_keys, AreApart}
use Rattle.job_model.specs.Level.{is_free_level, level_rule, runs_in, stop_in}
use Rattle.st_base.specs.declared.running.Running.{Running}

-- ---- the level of a file

-- the rule gives no level below the lowest
abbrev pub RuleIsWithin : Type 0
RuleIsWithin = (levels : List (List (List Entry))) (running : List Running) (range : KeyRange) (lowest : ℕ)
    → (level_rule levels running range lowest).level ≤ lowest

-- where the rule gives a level above 0, no level down to it stops the walk
abbrev pub RulePasses : Type 0
RulePasses = (levels : List (List (List Entry))) (running : List Running) (range : KeyRange) (lowest n : ℕ)
    (runs : List (List Entry)) → 0 < (level_rule levels running range lowest).level
    → n ≤ (level_rule levels running range lowest).level → slice_get levels n ≡ Some runs
    → stop_in running n range runs ≡ None

-- where the rule gives a level above 0, no run there meets the range
abbrev pub RuleIsFree : Type 0
RuleIsFree = (levels : List (List (List Entry))) (running : List Running) (range : KeyRange) (lowest : ℕ)
    (runs : List (List Entry)) → 0 < (level_rule levels running range lowest).level
    → slice_get levels (level_rule levels running range lowest).level ≡ Some runs → IsTrue (is_free_level range runs)

-- without a cause no level has an entry in the range
abbrev pub NoCauseNoEntry : Type 0
NoCauseNoEntry = (levels : List (List (List Entry))) (running : List Running) (range : KeyRange) (lowest : ℕ)
    → (level_rule levels running range lowest).cause ≡ None → least_within range (runs_in levels) ≡ None

-- without a cause a lowest level that is free is the rule's
abbrev pub LowestIsReached : Type 0
LowestIsReached = (levels : List (List (List Entry))) (running : List Running) (range : KeyRange) (lowest : ℕ)
    (runs : List (List Entry)) → (level_rule levels running range lowest).cause ≡ None
    → slice_get levels lowest ≡ Some runs → IsTrue (is_free_level range runs)
    → (level_rule levels running range lowest).level ≡ lowest

-- ---- ranges of dropping

-- no lower range meets a run, where each lower range is proper (a range whose first key is behind its last can meet a
-- joined run)
abbrev pub RunsAreClear : Type 0
RunsAreClear = (lower : List KeyRange) (keys : List (List ℕ))
    → Each (λ range. IsTrue (at_most range.first range.last)) lower
    → Each (λ run. Each (λ range. IsFalse (meet run range)) lower) (drop_runs lower keys)

-- the ranges of dropping stand by key
abbrev pub DropRunsApart : Type 0
DropRunsApart = (lower : List KeyRange) (runs : List (List Entry)) → AreApart (drop_runs lower (rising_keys runs))
