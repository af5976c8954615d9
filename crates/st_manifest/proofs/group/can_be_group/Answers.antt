use Rattle.std.proofs.Common.{◌∙◌, ◌&&◌, Bool, ap, map, sym}
use Rattle.st_manifest.specs.Edit.{as_edit}
use Rattle.st_manifest.specs.Payload.{fit_edits}
use Rattle.st_manifest.proofs.Judges.{all_mapped}
use Rattle.st_manifest.proofs.group.can_be_group.Goals as goal

pub returns-then-ends_with_last : goal.returns-then-ends_with_last
returns-then-ends_with_last c =
    c.are_fit.ensures ∙ all_mapped c.args.edits.now ∙ ap (λ (b : Bool). b && fit_edits (map as_edit c.args.edits.now)) (sym (sym c.ends_with_last.ensures ∙ c.if-ends_with_last.true))
