-- Calls of an object in memory that are to fail.
use Rattle.std.specs.Prelude.{◌≡◌, ◌==◌, ℕ, Bool, List}
use Rattle.std.specs.List.{list_any}
use Rattle.st_outside.specs.Count.{next_count}
use Rattle.st_outside.specs.declared.failing_calls.FailingCalls.{FailingCalls}

-- whether a call's number is listed
abbrev pub is_listed : List ℕ → ℕ → Bool
is_listed failing call = list_any (λ listed. listed == call) failing

-- whether the next call is to fail
abbrev pub fails_next : FailingCalls → Bool
fails_next calls = is_listed calls.failing (next_count calls.calls)

-- one call more has come
pub record CountsCall (before after : FailingCalls) : Type 0 where
  pub calls : after.calls ≡ next_count before.calls
  pub failing : after.failing ≡ before.failing

-- the call that came last has failed
pub record CountsFault (before after : FailingCalls) : Type 0 where
  pub calls : after.calls ≡ before.calls
  pub failing : after.failing ≡ before.failing
  pub faults : after.faults ≡ next_count before.faults
