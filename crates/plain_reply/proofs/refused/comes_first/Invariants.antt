use Rattle.std.proofs.Common.{◌≡◌, drop}
use Rattle.plain_reply.specs.Tests.{comes_first}
use Rattle.plain_reply.proofs.refused.comes_first.Given as goal

abbrev pub invariant-loop-other : goal.invariant-loop-other
invariant-loop-other l = comes_first l.holding l.refusal ≡ comes_first (drop l.other-index l.holding) l.refusal
