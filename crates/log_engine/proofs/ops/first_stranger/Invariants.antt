use Rattle.std.proofs.Common.{◌≡◌, drop}
use Rattle.log_engine.specs.Op.{strangers}
use Rattle.log_engine.proofs.ops.first_stranger.Given as goal

abbrev pub invariant-loop-op : goal.invariant-loop-op
invariant-loop-op l = strangers l.ops ≡ strangers (drop l.op-index l.ops)
