use Rattle.std.proofs.Common.{◌++◌, ◌∷◌, [], ◌∙◌, ap, append_assoc, List, ℕ}
use Rattle.st_code.specs.Fixed.{fixed32}
use Rattle.st_manifest.proofs.Fits.{on_ok}
use Rattle.st_manifest.proofs.payload.push_place.Goals as goal

pub returns : goal.returns
returns c = on_ok c.push.result
    (λ is. is ∙ ap (λ (l : List ℕ). l ++ c.args.level ∷ []) c.in_ok-push_family.ensures ∙ append_assoc c.args.out.now (3 ∷ fixed32 c.args.family) (c.args.level ∷ []))
    c.push.ensures.ok
