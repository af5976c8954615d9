use Rattle.std.proofs.Common.{◌++◌, ◌∙◌, ap, append_assoc, List, ℕ}
use Rattle.st_code.specs.Fixed.{fixed64}
use Rattle.st_manifest.proofs.Fits.{on_ok}
use Rattle.st_manifest.proofs.payload.push_numbers.Goals as goal

pub returns : goal.returns
returns c = on_ok c.push_fixed64-2.result
    (λ is. is ∙ ap (λ (l : List ℕ). l ++ fixed64 c.args.two) c.in_ok-push_fixed64.ensures.ok ∙ append_assoc c.args.out.now (fixed64 c.args.one) (fixed64 c.args.two))
    c.push_fixed64-2.ensures.ok
