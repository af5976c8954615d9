use Rattle.std.proofs.Common.{◌∙◌, ◌<◌, List, map, subst, sym}
use Rattle.std.specs.Prelude.{All}
use Rattle.std.specs.List.{AllByRecursion as Each}
use Rattle.std.proofs.lemmas.List.Elements.{All-from_recursion}
use Rattle.st_wal.specs.Batch.{Operation}
use Rattle.log_engine.specs.Newest.{HasRoom}
use Rattle.log_engine.specs.Op.{logged_op}
use Rattle.log_engine.proofs.Writing.{all_default, rooms_logged}
use Rattle.log_engine.proofs.store.MarkStore.prepare.Goals as goal

pub new-requires-clause-families : goal.new-requires-clause-families
new-requires-clause-families c =
    let ops = c.args.ops.now in
    subst (λ (l : List Operation). All (λ (op : Operation). op.0 < 4294967295) l) (sym (c.deref.ensures.value ∙ c.in_ok-logged.ensures))
    (All-from_recursion (λ (op : Operation). op.0 < 4294967295) (map logged_op ops) (all_default ops))

pub returns-clause-room : goal.returns-clause-room
returns-clause-room c =
    subst (λ (l : List Operation). Each (λ (op : Operation). HasRoom c.make_room.new.self.newest op.1) l) (sym c.in_ok-logged.ensures)
    (rooms_logged c.make_room.new.self.newest c.args.ops.now c.in_ok-make_room.ensures.room)
