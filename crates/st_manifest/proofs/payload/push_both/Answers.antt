use Rattle.std.proofs.Common.{◌++◌, ◌∷◌, ◌∙◌, ap, append_assoc, List, ℕ}
use Rattle.st_code.specs.Fixed.{fixed32, fixed64}
use Rattle.st_manifest.proofs.Fits.{on_ok}
use Rattle.st_manifest.proofs.payload.push_both.Goals as goal

pub returns : goal.returns
returns c = on_ok c.push_fixed64.result
    (λ is. is ∙ ap (λ (l : List ℕ). l ++ fixed64 c.args.number) c.in_ok-push_family.ensures ∙ append_assoc c.args.out.now (c.args.kind ∷ fixed32 c.args.family) (fixed64 c.args.number))
    c.push_fixed64.ensures.ok
