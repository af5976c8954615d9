use Rattle.std.proofs.Common.{◌++◌, ◌∷◌, [], ◌∙◌, ap, append_assoc, List, ℕ}
use Rattle.st_code.specs.Fixed.{fixed32, fixed64}
use Rattle.st_manifest.proofs.Fits.{on_ok}
use Rattle.st_manifest.proofs.payload.push_table.Goals as goal

pub returns : goal.returns
returns c =
    let head = 3 ∷ (fixed32 c.args.family ++ c.args.level ∷ []) in
    let file = fixed64 c.args.file in
    let more = fixed64 c.args.length ++ fixed64 c.args.number in
    on_ok c.push_numbers.result
    (λ is. is ∙ ap (λ (l : List ℕ). l ++ more) (c.in_ok-push_fixed64.ensures.ok ∙ ap (λ (l : List ℕ). l ++ file) c.in_ok-push_place.ensures)
    ∙ append_assoc (c.args.out.now ++ head) file more ∙ append_assoc c.args.out.now head (file ++ more))
    c.push_numbers.ensures
