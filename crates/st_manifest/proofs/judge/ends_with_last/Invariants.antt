use Rattle.std.proofs.Common.{◌≡◌, ◌-◌, drop, length, map}
use Rattle.manifest_edits.specs.Edits.{ends_with_last}
use Rattle.st_manifest.specs.Edit.{as_edit}
use Rattle.st_manifest.proofs.judge.ends_with_last.Given as goal

abbrev pub invariant-loop-i : goal.invariant-loop-i
invariant-loop-i l = ends_with_last (map as_edit l.edits) ≡ ends_with_last (map as_edit (drop l.i l.edits))

abbrev pub decreases-loop-i : goal.decreases-loop-i
decreases-loop-i l = length l.edits - l.i
