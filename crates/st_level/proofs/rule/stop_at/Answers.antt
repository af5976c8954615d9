use Rattle.std.proofs.Common.{List, [], map, sym, ap, subst, ◌≡◌, ◌∙◌, arith}
use Rattle.st_base.specs.declared.entry.Entry.{Entry}
use Rattle.st_order.specs.Order.{between}
use Rattle.st_level.specs.Found.{FindsLeast}
use Rattle.st_base.specs.Levels.{levels_of}
use Rattle.st_level.specs.Stops.{runs_of_levels}
use Rattle.st_level.proofs.Seen.{tables_seen}
use Rattle.st_level.proofs.Stops.{at_entry, at_running, no_stop}
use Rattle.st_level.proofs.rule.stop_at.Goals as goal

pub returns-in-Some : goal.returns-in-Some
returns-in-Some g c =
    at_entry (runs_of_levels g.T.Rows.rows c.args.levels.now) c.args.running.now c.args.level (between c.args.first.now c.args.last.now) c.in-Some.table c.in-Some.entry
    (subst (λ (runs : List (List Entry)). FindsLeast (between c.args.first.now c.args.last.now) runs (Rattle.std.proofs.Common.Some (c.in-Some.table, c.in-Some.entry))) (tables_seen g.T.Rows.rows (levels_of c.args.levels.now) c.args.level c.at-tables.result.now c.at-tables.ensures) c.in-Some.ensures)

pub returns-in-Some-meets_running : goal.returns-in-Some-meets_running
returns-in-Some-meets_running g c =
    at_running (runs_of_levels g.T.Rows.rows c.args.levels.now) c.args.running.now c.args.level (between c.args.first.now c.args.last.now) c.in-Some-meets_running.index
    (subst (λ (runs : List (List Entry)). FindsLeast (between c.args.first.now c.args.last.now) runs Rattle.std.proofs.Common.None) (tables_seen g.T.Rows.rows (levels_of c.args.levels.now) c.args.level c.at-tables.result.now c.at-tables.ensures) c.in-None.ensures)
    c.in-Some-meets_running.ensures

pub returns-in-None-meets_running : goal.returns-in-None-meets_running
returns-in-None-meets_running g c =
    no_stop (runs_of_levels g.T.Rows.rows c.args.levels.now) c.args.running.now c.args.level (between c.args.first.now c.args.last.now)
    (subst (λ (runs : List (List Entry)). FindsLeast (between c.args.first.now c.args.last.now) runs Rattle.std.proofs.Common.None) (tables_seen g.T.Rows.rows (levels_of c.args.levels.now) c.args.level c.at-tables.result.now c.at-tables.ensures) c.in-None.ensures)
    c.in-None-meets_running.ensures
