use Rattle.std.proofs.Common.{drop, IsTrue}
use Rattle.std.specs.Prelude.{◌↔◌}
use Rattle.st_model.specs.Legal.{AreAcceptedInTurn}
use Rattle.plain_legal.specs.Runs.{AreChanges}
use Rattle.plain_legal.proofs.run.are_accepted_in_turn.Given as goal

-- the calls before the index are answered rightly, and this is the state behind them
abbrev pub invariant-loop-call : goal.invariant-loop-call
invariant-loop-call l = record {
  changes : AreChanges (drop l.call-index l.accepted);
  turn : AreAcceptedInTurn l.opening l.capacity l.accepted ↔ AreAcceptedInTurn l.state l.capacity (drop l.call-index l.accepted);
}
