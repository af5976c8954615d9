use Rattle.std.proofs.Common.{◌≡◌, ◌-◌, length, take}
use Rattle.st_manifest.specs.Laid.{numbered_bodies}
use Rattle.st_manifest.proofs.group.count_down.Given as goal

abbrev pub invariant-loop-body : goal.invariant-loop-body
invariant-loop-body l = record {
  so_far : l.payloads ≡ take l.body-index (numbered_bodies l.bodies);
  left : l.left ≡ length l.bodies - l.body-index;
}
