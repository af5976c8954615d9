use Rattle.std.proofs.Common.{◌≡◌, Bool, true, false, map, refl, sym, ap, ◌∙◌, not}
use Rattle.st_order.specs.Order.{between}
use Rattle.job_model.specs.Level.{run_meets}
use Rattle.st_level.proofs.LeastOfRun.{any_position}
use Rattle.st_level.proofs.least.is_free.Goals as goal

twice : (b : Bool) → b ≡ not (not b)
twice true = refl
twice false = refl

pub returns-then-level-eq0 : goal.returns-then-level-eq0
returns-then-level-eq0 g c =
    twice c.is_none.result ∙ ap not (sym c.is_none.ensures ∙ any_position (run_meets (between c.args.first.now c.args.last.now)) (map g.T.Rows.rows c.args.tables.now) c.meets_range.result c.meets_range.ensures)
