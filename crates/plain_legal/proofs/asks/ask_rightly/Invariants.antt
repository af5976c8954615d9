use Rattle.std.proofs.Common.{[], drop}
use Rattle.std.specs.Prelude.{◌↔◌}
use Rattle.std.specs.List.{AllByRecursion as Each}
use Rattle.st_model.specs.Asked.{AskRightly}
use Rattle.plain_legal.proofs.asks.ask_rightly.Given as goal

-- the transcripts before the index ask rightly
abbrev pub invariant-loop-calls : goal.invariant-loop-calls
invariant-loop-calls l = Each (AskRightly []) l.transcripts ↔ Each (AskRightly []) (drop l.calls-index l.transcripts)
