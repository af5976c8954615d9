use Rattle.std.proofs.Common.{◌-◌, ◌≤◌, length}
use Rattle.st_manifest.proofs.Reading.{SoFar}
use Rattle.st_manifest.proofs.payload.read_edits.Given as goal

abbrev pub invariant-loop-at : goal.invariant-loop-at
invariant-loop-at l = record {
  within : l.at ≤ length l.payload;
  so_far : SoFar l.payload l.initial.out l.at l.out;
}

abbrev pub decreases-loop-at : goal.decreases-loop-at
decreases-loop-at l = length l.payload - l.at
