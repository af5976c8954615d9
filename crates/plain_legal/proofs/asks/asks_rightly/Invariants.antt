use Rattle.std.proofs.Common.{[], take, drop}
use Rattle.std.specs.Prelude.{◌↔◌}
use Rattle.st_model.specs.Asked.{AskRightly}
use Rattle.plain_legal.proofs.asks.asks_rightly.Given as goal

-- the calls before the index ask rightly
abbrev pub invariant-loop-index : goal.invariant-loop-index
invariant-loop-index l = AskRightly [] l.calls ↔ AskRightly (take l.index l.calls) (drop l.index l.calls)
