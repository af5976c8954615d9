use Rattle.std.proofs.Common.{◌≡◌, ℕ, ◌<◌, map, get_or, false, []}
use Rattle.st_order.specs.Order.{between}
use Rattle.job_model.specs.Level.{run_meets}
use Rattle.st_overlap.proofs.overlap.meets_range.Given as goal

abbrev pub invariant-loop-index : goal.invariant-loop-index
invariant-loop-index g l = (k : ℕ) → k < l.index → run_meets (between l.first l.last) (get_or (map g.T.Rows.rows l.tables) k []) ≡ false
