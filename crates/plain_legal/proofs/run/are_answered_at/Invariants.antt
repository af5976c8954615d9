use Rattle.std.proofs.Common.{drop}
use Rattle.std.specs.Prelude.{◌↔◌}
use Rattle.std.specs.List.{AllByRecursion as Each}
use Rattle.plain_legal.specs.Runs.{IsAnsweredThere}
use Rattle.plain_legal.proofs.run.are_answered_at.Given as goal

-- the calls before the index are answered rightly
abbrev pub invariant-loop-call : goal.invariant-loop-call
invariant-loop-call l =
    Each (IsAnsweredThere l.state l.capacity l.place) l.calls ↔ Each (IsAnsweredThere l.state l.capacity l.place) (drop l.call-index l.calls)
