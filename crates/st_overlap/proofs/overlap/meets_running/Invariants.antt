use Rattle.std.proofs.Common.{◌≡◌, ℕ, ◌<◌, get_or, false, []}
use Rattle.st_order.specs.Order.{between}
use Rattle.job_model.specs.Level.{output_meets}
use Rattle.st_overlap.proofs.overlap.meets_running.Given as goal

abbrev pub invariant-loop-index : goal.invariant-loop-index
invariant-loop-index l =
    (k : ℕ) → k < l.index → output_meets l.level (between l.first l.last)
    (get_or l.running k (record { inputs = []; level = 0; range = between [] [] })) ≡ false
