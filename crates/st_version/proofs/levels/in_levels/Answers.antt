use Rattle.std.proofs.Common.{◌+◌, drop, map, sym, ap, ◌∙◌, arith}
use Rattle.std.specs.Prelude.{flat_map}
use Rattle.std.specs.Option.{option_or}
use Rattle.st_order.specs.Columns.{column}
use Rattle.job_model.specs.Column.{found_at}
use Rattle.st_base.specs.Levels.{levels_of}
use Rattle.st_base.specs.Rows.{mark_of}
use Rattle.st_version.proofs.FoundIn.{or_some}
use Rattle.st_version.proofs.Steps.{level_here}
use Rattle.st_version.proofs.levels.in_levels.Goals as goal

pub returns-in-Some : goal.returns-in-Some
returns-in-Some g c =
    or_some (mark_of c.in-Some.mark) (found_at c.args.number (column c.args.key.now (map g.T.Rows.rows c.at.result.now)))
    (found_at c.args.number (column c.args.key.now (map g.T.Rows.rows (flat_map (λ level. level) (drop (c.loop-level.level + 1) (levels_of c.args.levels.now)))))) c.in-Some.ensures
    ∙ sym (level_here g.T.Rows.rows c.args.key.now c.args.number (levels_of c.args.levels.now) c.loop-level.level c.at.result.now c.at.ensures)
    ∙ sym c.loop-level.invariant.left

pub loop-level-preserved : goal.loop-level-preserved
loop-level-preserved g c = record {
  low = omega (arith, c.loop-level.invariant.low);
  high = omega arith;
  left = c.loop-level.invariant.left
      ∙ level_here g.T.Rows.rows c.args.key.now c.args.number (levels_of c.args.levels.now) c.loop-level.level c.at.result.now c.at.ensures
      ∙ ap (λ found. option_or found (found_at c.args.number (column c.args.key.now (map g.T.Rows.rows (flat_map (λ level. level) (drop (c.loop-level.level + 1) (levels_of c.args.levels.now))))))) (sym c.in_default.ensures);
}
