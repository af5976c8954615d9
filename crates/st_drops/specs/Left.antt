-- The keys that a search has left, and what a turn of it does.
use Rattle.std.specs.Prelude.{ℕ, Bool, true, false, ◌≡◌, ◌<◌, ◌++◌, length, List, filter}
use Rattle.st_base.specs.Bytes.{at_most}
use Rattle.st_base.specs.declared.entry.KeyRange.{KeyRange}
use Rattle.job_model.specs.Drops.{drop_runs}

-- the keys at or after the bound
abbrev pub left : List ℕ → List (List ℕ) → List (List ℕ)
left bound keys = filter (at_most bound) keys

-- the ranges so far, and those of the keys that are left, stay the same in a turn, and fewer keys are left; after the last one
-- no key is left
abbrev pub TakesTurn : List KeyRange → List (List ℕ) → List ℕ → List KeyRange → Bool → List ℕ → List KeyRange → Type 0
TakesTurn lower keys bound before true next after =
    (after ++ drop_runs lower (left next keys) ≡ before ++ drop_runs lower (left bound keys))
    × (length (left next keys) < length (left bound keys))
TakesTurn lower keys bound before false next after = after ≡ before ++ drop_runs lower (left bound keys)
