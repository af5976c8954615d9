use Rattle.std.proofs.Common.{List, ℕ, cond, ◌&&◌, ◌<◌, ◌≤◌, length, map, drop, None, Some, sym, ap, ◌≡◌, ◌∙◌, arith}
use Rattle.std.specs.Prelude.{nat_le}
use Rattle.st_base.specs.declared.entry.Entry.{Entry}
use Rattle.st_base.specs.declared.entry.KeyRange.{KeyRange}
use Rattle.st_model.specs.declared.refusal.Why.{Why}
use Rattle.st_order.specs.Order.{between}
use Rattle.st_base.specs.Levels.{levels_of}
use Rattle.st_base.specs.declared.running.Running.{Running}
use Rattle.st_level.specs.Stops.{runs_at_level, runs_of_levels}
use Rattle.job_model.specs.Level.{LevelChoice, is_free_level, level_rule, stop_in, walk_from}
use Rattle.st_level.proofs.Seen.{tables_seen}
use Rattle.st_level.proofs.Stops.{walk_on, walk_stops, walk_ends}
use Rattle.st_level.proofs.rule.choose_level.Goals as goal

module _ (levels : List (List (List Entry))) (outs : List Running) (range : KeyRange) (lowest found n : ℕ) (so_far : walk_from outs range lowest 0 0 levels ≡ walk_from outs range lowest found n (drop n levels)) where
  when_stopped : (why : Why) → n < length levels → stop_in outs n range (runs_at_level levels n) ≡ Some why → level_rule levels outs range lowest ≡ record { level = found; cause = Some why }
  unfolding level_rule
  when_stopped why lt some = so_far ∙ walk_stops outs range lowest levels found n why lt some

  when_ended : length levels ≤ n → level_rule levels outs range lowest ≡ record { level = found; cause = None }
  unfolding level_rule
  when_ended le = so_far ∙ walk_ends outs range lowest levels found n le

pub returns-in-Some-clause-level : goal.returns-in-Some-clause-level
returns-in-Some-clause-level g c =
    let (why, some, tells) = c.in-Some.ensures in
    sym (ap (λ (choice : LevelChoice). choice.level) (when_stopped (runs_of_levels g.T.Rows.rows c.args.levels.now) c.args.running.now (between c.args.first.now c.args.last.now) c.args.lowest c.loop-level.found c.loop-level.level c.loop-level.invariant why (omega arith) some))

pub returns-in-Some-clause-stop : goal.returns-in-Some-clause-stop
returns-in-Some-clause-stop g c =
    let (why, some, tells) = c.in-Some.ensures in (
      why,
      ap (λ (choice : LevelChoice). choice.cause) (when_stopped (runs_of_levels g.T.Rows.rows c.args.levels.now) c.args.running.now (between c.args.first.now c.args.last.now) c.args.lowest c.loop-level.found c.loop-level.level c.loop-level.invariant why (omega arith) some),
      tells,
    )

pub loop-level-preserved : goal.loop-level-preserved
loop-level-preserved g c =
    c.loop-level.invariant
    ∙ walk_on c.args.running.now (between c.args.first.now c.args.last.now) c.args.lowest (runs_of_levels g.T.Rows.rows c.args.levels.now) c.loop-level.found c.loop-level.level c.found_at-found.result (omega arith) c.in_default.ensures
    (c.found_at-found.ensures
    ∙ ap (λ (runs : List (List Entry)). cond (nat_le c.loop-level.level c.args.lowest && is_free_level (between c.args.first.now c.args.last.now) runs) c.loop-level.level c.loop-level.found)
    (tables_seen g.T.Rows.rows (levels_of c.args.levels.now) c.loop-level.level c.at.result.now c.at.ensures))

pub returns-clause-level : goal.returns-clause-level
returns-clause-level g c =
    sym (ap (λ (choice : LevelChoice). choice.level) (when_ended (runs_of_levels g.T.Rows.rows c.args.levels.now) c.args.running.now (between c.args.first.now c.args.last.now) c.args.lowest c.loop-level.found c.loop-level.level c.loop-level.invariant (omega arith)))

pub returns-clause-stop : goal.returns-clause-stop
returns-clause-stop g c =
    ap (λ (choice : LevelChoice). choice.cause) (when_ended (runs_of_levels g.T.Rows.rows c.args.levels.now) c.args.running.now (between c.args.first.now c.args.last.now) c.args.lowest c.loop-level.found c.loop-level.level c.loop-level.invariant (omega arith))
