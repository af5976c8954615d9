use Rattle.std.proofs.Common.{◌+◌, List, Some, ap, sym, refl, ◌∙◌, arith}
use Rattle.std.specs.Prelude.{option_map}
use Rattle.st_pick.specs.Picked.{picked_of, picked_tables, tables_of_levels}
use Rattle.st_base.specs.declared.running.Ranged.{Ranged}
use Rattle.st_pick.proofs.Jointly.{picked_here, picked_none, picked_on}
use Rattle.st_pick.proofs.picking.pick.Goals as goal

pub loop-level-init : goal.loop-level-init
loop-level-init c = refl

pub returns-in-Some : goal.returns-in-Some
returns-in-Some c =
    ap Some (c.in_ok-handed_out.ensures ∙ ap (λ (inputs : List Ranged). picked_of (c.loop-level.level + 1, inputs)) c.as_slice.ensures)
    ∙ sym (ap (option_map picked_of) (picked_here c.args.running.now c.args.lowest (tables_of_levels c.args.levels.now) c.loop-level.level (picked_tables c.args.running.now c.args.lowest c.args.levels.now) (omega arith) c.loop-level.invariant
    c.in-Some.inputs (sym c.in_ok-inputs.ensures ∙ c.in-Some.is)))

pub loop-level-preserved : goal.loop-level-preserved
loop-level-preserved c =
    picked_on c.args.running.now c.args.lowest (tables_of_levels c.args.levels.now) c.loop-level.level (picked_tables c.args.running.now c.args.lowest c.args.levels.now) (omega arith) c.loop-level.invariant
    (sym c.in_ok-inputs.ensures ∙ c.in_default.is)

pub returns : goal.returns
returns c =
    sym (ap (option_map picked_of) (picked_none c.args.running.now c.args.lowest (tables_of_levels c.args.levels.now) c.loop-level.level (picked_tables c.args.running.now c.args.lowest c.args.levels.now) (omega arith) c.loop-level.invariant))
