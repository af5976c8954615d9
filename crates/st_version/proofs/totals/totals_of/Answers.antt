use Rattle.st_base.specs.Rows.{entry_of}
use Rattle.st_version.proofs.Counted.{charge_step, least_step}
use Rattle.st_version.proofs.totals.totals_of.Goals as goal

pub loop-i-preserved : goal.loop-i-preserved
loop-i-preserved g c = record {
  charged = charge_step (g.T.Rows.rows c.args.table.now) c.loop-i.i (entry_of c.at-entry.result) c.loop-i.charge c.charge_more-charge.result c.at-entry.ensures c.loop-i.invariant.charged c.charge_more-charge.ensures;
  least_is = least_step (g.T.Rows.rows c.args.table.now) c.loop-i.i (entry_of c.at-entry.result) c.loop-i.least c.least_more-least.result c.at-entry.ensures c.loop-i.invariant.least_is c.least_more-least.ensures;
}
