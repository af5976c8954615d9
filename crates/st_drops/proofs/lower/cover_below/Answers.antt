use Rattle.std.proofs.Common.{List, ℕ, ◌+◌, ◌++◌, map, sym, subst, arith}
use Rattle.st_base.specs.Levels.{levels_of}
use Rattle.st_base.specs.Range.{range_of}
use Rattle.st_base.specs.declared.entry.Entry.{Entry}
use Rattle.st_base.specs.declared.entry.KeyRange.{KeyRange}
use Rattle.job_model.specs.ByKey.{IsByKey}
use Rattle.st_level.specs.Stops.{runs_of_levels}
use Rattle.st_level.proofs.Seen.{by_key_at, tables_seen}
use Rattle.st_drops.specs.Covers.{EndBelow, TellsCover}
use Rattle.st_drops.proofs.Levels.{all_between, none_between, one_between, ranges_between}
use Rattle.st_drops.proofs.lower.cover_below.Goals as goal

pub loop-lower-init : goal.loop-lower-init
loop-lower-init g c = subst (λ (ranges : List KeyRange). EndBelow ranges c.args.key.now) (sym (none_between (runs_of_levels g.U.Rows.rows c.args.levels.now) (c.args.level + 1))) tt

pub cover_of-requires : goal.cover_of-requires
cover_of-requires g c =
    subst IsByKey (sym (tables_seen g.U.Rows.rows (levels_of c.args.levels.now) c.loop-lower.lower c.at.result.now c.at.ensures))
    (by_key_at (runs_of_levels g.U.Rows.rows c.args.levels.now) c.loop-lower.lower (omega arith) c.requires.by_key (omega arith))

pub loop-lower-preserved : goal.loop-lower-preserved
loop-lower-preserved g c =
    let levels : List (List (List Entry)) = runs_of_levels g.U.Rows.rows c.args.levels.now in
    let lower : ℕ = c.loop-lower.lower in
    subst (λ (ranges : List KeyRange). TellsCover ranges c.args.key.now c.sooner-cover.result) (sym (one_between levels (c.args.level + 1) lower (omega arith) (omega arith)))
    (subst (λ (runs : List (List Entry)). TellsCover (ranges_between levels (c.args.level + 1) lower ++ map range_of runs) c.args.key.now c.sooner-cover.result)
    (tables_seen g.U.Rows.rows (levels_of c.args.levels.now) lower c.at.result.now c.at.ensures)
    (c.sooner-cover.ensures c.args.key.now (ranges_between levels (c.args.level + 1) lower) (map range_of (map g.U.Rows.rows c.at.result.now)) c.loop-lower.invariant c.cover_of.ensures))

pub returns : goal.returns
returns g c =
    subst (λ (ranges : List KeyRange). TellsCover ranges c.args.key.now c.loop-lower.cover) (all_between (runs_of_levels g.U.Rows.rows c.args.levels.now) (c.args.level + 1) c.loop-lower.lower (omega arith)) c.loop-lower.invariant
