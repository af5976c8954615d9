use Rattle.std.proofs.Common.{◌≡◌, ◌<◌, take, drop, fold}
use Rattle.std.specs.List.{AllByRecursion as Each}
use Rattle.st_model.specs.declared.command.Call.{Call}
use Rattle.st_model.specs.History.{after_call}
use Rattle.st_model.specs.Legal.{AreAcceptedInTurn}
use Rattle.plain_legal.specs.Runs.{AreChanges, IsAnsweredAlong}
use Rattle.plain_legal.proofs.run.are_answered.Given as goal

-- the calls of lesser places are answered rightly
abbrev pub invariant-loop-place : goal.invariant-loop-place
invariant-loop-place l = record {
  state : l.state ≡ fold after_call l.opening (take l.place l.accepted);
  changes : AreChanges (drop l.place l.accepted);
  turn : AreAcceptedInTurn l.state l.capacity (drop l.place l.accepted);
  answered : Each (λ (call : Call). call.place < l.place → IsAnsweredAlong l.opening l.capacity l.accepted call) l.calls;
}
