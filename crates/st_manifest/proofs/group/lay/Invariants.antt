use Rattle.std.proofs.Common.{map}
use Rattle.st_manifest.specs.Edit.{as_edit}
use Rattle.st_manifest.proofs.Laying.{Laid}
use Rattle.st_manifest.proofs.group.lay.Given as goal

abbrev pub invariant-loop-edit : goal.invariant-loop-edit
invariant-loop-edit l = Laid (map as_edit l.edits) l.edit-index l.bodies l.body
