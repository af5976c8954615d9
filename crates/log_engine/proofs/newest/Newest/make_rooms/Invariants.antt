use Rattle.std.proofs.Common.{◌≡◌, ℕ, List, take}
use Rattle.std.specs.List.{AllByRecursion as Each}
use Rattle.st_model.specs.Apply.{op_key}
use Rattle.log_engine.specs.Newest.{HasRoom, newest_at}
use Rattle.log_engine.proofs.newest.Newest.make_rooms.Given as goal

abbrev pub invariant-loop-op : goal.invariant-loop-op
invariant-loop-op l = record {
  same : (key : List ℕ) → newest_at l.self key ≡ newest_at l.initial.self key;
  room : Each (λ op. HasRoom l.self (op_key op)) (take l.op-index l.ops);
}
