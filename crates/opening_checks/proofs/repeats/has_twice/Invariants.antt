use Rattle.std.proofs.Common.{◌≡◌, ℕ, ◌<◌, false}
use Rattle.opening_checks.specs.Repeats.{is_repeated}
use Rattle.opening_checks.proofs.repeats.has_twice.Given as goal

-- no neighbours so far have one key
abbrev pub invariant-loop-index : goal.invariant-loop-index
invariant-loop-index g l = (k : ℕ) → k < l.index → is_repeated (g.T.Rows.rows l.rows) k ≡ false
