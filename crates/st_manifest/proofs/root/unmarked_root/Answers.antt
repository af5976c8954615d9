use Rattle.std.proofs.Common.{◌∙◌, ap, sym, refl, List, ℕ}
use Rattle.std.specs.Prelude.{nat_lt}
use Rattle.std.specs.List.{list_any}
use Rattle.st_manifest.proofs.Rooting.{one_above}
use Rattle.st_manifest.proofs.root.unmarked_root.Goals as goal

pub returns-then-has_more-clause-damage : goal.returns-then-has_more-clause-damage
returns-then-has_more-clause-damage g c = λ honest.
    let found = one_above c.in_ok-names.names (ap (λ (l : List ℕ). list_any (λ name. nat_lt 1 name) l) (sym c.as_slice.ensures) ∙ sym c.has_more.ensures ∙ c.if-has_more.true) in
    (refl, refl, (found.0, found.1, (c.in_ok-names.ensures.told honest found.0).0 found.2))
