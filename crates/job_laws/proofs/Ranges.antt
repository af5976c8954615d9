-- The ranges of dropping stand by key.
use Rattle.std.proofs.Common.{◌≡◌, ℕ, Bool, true, false, cond, List, [], ◌∷◌, sym, subst}
use Rattle.std.specs.List.{list_any, AllByRecursion as Each}
use Rattle.st_base.specs.Bytes.{below}
use Rattle.st_base.specs.Range.{meet}
use Rattle.st_base.specs.declared.entry.KeyRange.{KeyRange}
use Rattle.base_laws.proofs.Keys.{at_most_itself, below_at_most, below_at_most_below}
use Rattle.job_model.specs.Drops.{covers, rising_keys, AreApart}
use Rattle.job_laws.proofs.Rightward.{from_the_left, join_run, runs_joined}
use Rattle.job_laws.proofs.Rising.{Rise, rising_rise}
use Rattle.job_laws.specs.Laws.{DropRunsApart}

module _ (lower : List KeyRange) where
  abbrev Above : List ℕ → List KeyRange → Type 0
  Above z ranges = Each (λ range. below z range.first ≡ true) ranges

  joined_above : (z key : List ℕ) (ranges : List KeyRange) → below z key ≡ true → Above z ranges → Above z (join_run lower key ranges)
  joined_above z key [] less above = (less, tt)
  joined_above z key (range ∷ ranges) less above = step (list_any (meet (record { first = key; last = range.first })) lower)
    where
      step : (b : Bool) → Above z (cond b (record { first = key; last = key } ∷ range ∷ ranges) (record { first = key; last = range.last } ∷ ranges))
      step true = (less, above)
      step false = (less, above.1)

  above : (z : List ℕ) (keys : List (List ℕ)) → Each (λ key. below z key ≡ true) keys → Above z (runs_joined lower keys)
  above z [] each = tt
  above z (key ∷ keys) each = step (covers lower key) (above z keys each.1)
    where
      step : (b : Bool) → Above z (runs_joined lower keys) → Above z (cond b (runs_joined lower keys) (join_run lower key (runs_joined lower keys)))
      step true rest = rest
      step false rest = joined_above z key (runs_joined lower keys) each.0 rest

  joined_apart : (key : List ℕ) (ranges : List KeyRange) → Above key ranges → AreApart ranges → AreApart (join_run lower key ranges)
  joined_apart key [] over are = record { proper = (at_most_itself key, tt); apart = (tt, tt) }
  joined_apart key (range ∷ ranges) over are = step (list_any (meet (record { first = key; last = range.first })) lower)
    where
      step : (b : Bool) → AreApart (cond b (record { first = key; last = key } ∷ range ∷ ranges) (record { first = key; last = range.last } ∷ ranges))
      step true = record { proper = (at_most_itself key, are.proper); apart = (over, are.apart) }
      step false = record {
        proper = (below_at_most key range.last (below_at_most_below key range.first range.last over.0 are.proper.0), are.proper.1);
        apart = (are.apart.0, are.apart.1);
      }

  pub apart : (keys : List (List ℕ)) → Rise keys → AreApart (runs_joined lower keys)
  apart [] rise = record { proper = tt; apart = tt }
  apart (key ∷ keys) rise = step (covers lower key) (apart keys rise.1)
    where
      step : (b : Bool) → AreApart (runs_joined lower keys) → AreApart (cond b (runs_joined lower keys) (join_run lower key (runs_joined lower keys)))
      step true rest = rest
      step false rest = joined_apart key (runs_joined lower keys) (above key keys rise.0) rest

pub drop_runs_apart : DropRunsApart
drop_runs_apart lower runs = subst AreApart (sym (from_the_left lower (rising_keys runs))) (apart lower (rising_keys runs) (rising_rise runs))
