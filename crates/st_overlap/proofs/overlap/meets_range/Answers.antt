use Rattle.std.proofs.Common.{[], sym, ◌∙◌, arith}
use Rattle.st_order.specs.Order.{between}
use Rattle.st_order.proofs.Mapped.{mapped_found, mapped_more, mapped_none}
use Rattle.job_model.specs.Level.{run_meets}
use Rattle.st_overlap.proofs.overlap.meets_range.Goals as goal

pub returns-then-range_meets : goal.returns-then-range_meets
returns-then-range_meets g c = mapped_found g.T.Rows.rows (run_meets (between c.args.first.now c.args.last.now)) c.args.tables.now c.loop-index.index c.index-tables-index.result [] (omega arith) c.index-tables-index.is c.loop-index.invariant (sym c.range_meets.ensures ∙ c.if-range_meets.true)

pub loop-index-preserved : goal.loop-index-preserved
loop-index-preserved g c = mapped_more g.T.Rows.rows (run_meets (between c.args.first.now c.args.last.now)) c.args.tables.now c.loop-index.index c.index-tables-index.result [] (omega arith) c.index-tables-index.is c.loop-index.invariant (sym c.range_meets.ensures ∙ c.if-range_meets.false)

pub returns : goal.returns
returns g c = mapped_none g.T.Rows.rows (run_meets (between c.args.first.now c.args.last.now)) c.args.tables.now c.loop-index.index [] (omega arith) c.loop-index.invariant
