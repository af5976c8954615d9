use Rattle.std.proofs.Common.{◌≡◌}
use Rattle.publish_tests.specs.Snapshots.{snapshots}
use Rattle.publish_tests.proofs.snapshots.snapshots.Given as goal

-- the snapshots of the places so far
abbrev pub invariant-loop-before : goal.invariant-loop-before
invariant-loop-before l = l.live ≡ snapshots l.before
