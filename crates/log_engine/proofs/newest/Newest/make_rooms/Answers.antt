use Rattle.std.proofs.Common.{◌∙◌, ◌++◌, ◌∷◌, [], List, ℕ, take, ap, sym, subst}
use Rattle.std.specs.List.{AllByRecursion as Each}
use Rattle.std.proofs.lemmas.List.{take_more}
use Rattle.st_model.specs.declared.change.Op.{Op}
use Rattle.st_model.specs.Apply.{op_key}
use Rattle.base_laws.proofs.Lists.{each_as, each_join}
use Rattle.log_engine.specs.Newest.{HasRoom}
use Rattle.log_engine.proofs.newest.Newest.make_rooms.Goals as goal

pub loop-op-preserved : goal.loop-op-preserved
loop-op-preserved c =
    let made = c.in_ok-make_room.ensures in
    let room : List Op → _ = λ ops. Each (λ (op : Op). HasRoom c.make_room.new.self (op_key op)) ops in
    let before = each_as (λ (op : Op). HasRoom c.loop-op.self (op_key op)) (λ (op : Op). HasRoom c.make_room.new.self (op_key op)) (λ op has. c.in_ok-make_room.ensures.rooms (op_key op) has) (take c.loop-op.op-index c.args.ops.now) c.loop-op.invariant.room in
    let here : HasRoom c.make_room.new.self (op_key c.op-item.result) = subst (λ (key : List ℕ). HasRoom c.make_room.new.self key) c.key_of.ensures made.room in
    record {
      same = λ key. made.unchanged key ∙ c.loop-op.invariant.same key;
      room = subst room (sym (take_more c.args.ops.now c.loop-op.op-index c.op-item.result c.loop-op-test.true ∙ ap (λ (op : Op). take c.loop-op.op-index c.args.ops.now ++ op ∷ []) (sym c.op-item.is)))
          (each_join (λ (op : Op). HasRoom c.make_room.new.self (op_key op)) (take c.loop-op.op-index c.args.ops.now) (c.op-item.result ∷ []) before (here, tt));
    }
