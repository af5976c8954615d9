use Rattle.std.proofs.Common.{◌+◌, drop, map, sym, ap, ◌∙◌, arith}
use Rattle.std.specs.Prelude.{flat_map}
use Rattle.st_base.specs.Levels.{levels_of}
use Rattle.st_version.specs.Held.{tables_of}
use Rattle.store_image.specs.Opens.{image_files_meeting, least_file}
use Rattle.opening_checks.specs.Least.{lesser_of}
use Rattle.opening_checks.proofs.Lesser.{lesser_joins}
use Rattle.opening_checks.proofs.Touching.{level_here}
use Rattle.opening_checks.proofs.meeting.least_meeting_in.Goals as goal

pub loop-level-preserved : goal.loop-level-preserved
loop-level-preserved g c = record {
  low = omega (arith, c.loop-level.invariant.low);
  high = omega arith;
  least = c.loop-level.invariant.least
      ∙ ap (lesser_of c.loop-level.least) (level_here (levels_of c.args.levels.now) c.loop-level.level c.at.result.now c.at.ensures)
      ∙ lesser_joins c.loop-level.least (least_file (image_files_meeting (tables_of c.at.result.now))) (least_file (flat_map image_files_meeting (drop (c.loop-level.level + 1) (map tables_of (levels_of c.args.levels.now)))))
      ∙ ap (λ one. lesser_of one (least_file (flat_map image_files_meeting (drop (c.loop-level.level + 1) (map tables_of (levels_of c.args.levels.now))))))
      (ap (lesser_of c.loop-level.least) (sym c.least_meeting.ensures) ∙ sym c.lesser_of-least.ensures);
}
