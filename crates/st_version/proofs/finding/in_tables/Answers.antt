use Rattle.std.proofs.Common.{sym, ◌∙◌, arith}
use Rattle.st_base.specs.Rows.{mark_of}
use Rattle.st_version.proofs.Steps.{is_here, not_here}
use Rattle.st_version.proofs.finding.in_tables.Goals as goal

pub returns-in-Some : goal.returns-in-Some
returns-in-Some g c =
    sym (c.loop-table.invariant ∙ is_here g.T.Rows.rows c.args.key.now c.args.number c.args.tables.now c.loop-table.table-index c.table-item.result (mark_of c.in-Some.mark) (omega arith) c.table-item.is (sym c.in-Some.ensures))

pub loop-table-preserved : goal.loop-table-preserved
loop-table-preserved g c =
    c.loop-table.invariant ∙ not_here g.T.Rows.rows c.args.key.now c.args.number c.args.tables.now c.loop-table.table-index c.table-item.result (omega arith) c.table-item.is (sym c.in_default.ensures)
