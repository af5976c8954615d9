use Rattle.st_manifest.proofs.Taking.{ReplaysOn}
use Rattle.st_manifest.proofs.replay.replay_records.Given as goal

abbrev pub invariant-loop-one : goal.invariant-loop-one
invariant-loop-one l = ReplaysOn l.records l.one-index l.replaying
