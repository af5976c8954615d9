use Rattle.core_laws.proofs.Bounds.{crash_ends_bounded, new_core_is_bounded, step_keeps_bounds, step_keeps_capacity}
use Rattle.core_laws.proofs.laws.step_keeps_bounds.Goals as goal

pub returns-clause-step : goal.returns-clause-step
returns-clause-step c = step_keeps_bounds

pub returns-clause-base : goal.returns-clause-base
returns-clause-base c = new_core_is_bounded

pub returns-clause-crash : goal.returns-clause-crash
returns-clause-crash c = crash_ends_bounded

pub returns-clause-capacity : goal.returns-clause-capacity
returns-clause-capacity c = step_keeps_capacity
