use Rattle.manifest_edits.specs.Edits.{Named}
use Rattle.named_index.specs.Knows.{Knows}
use Rattle.st_manifest.proofs.Judges.{KnowsSoFar}
use Rattle.st_manifest.proofs.judge.are_right.Given as goal

abbrev pub invariant-loop-edit : goal.invariant-loop-edit
invariant-loop-edit l = (named : Named) → Knows l.initial.index named → KnowsSoFar l.edits l.index named l.edit-index
