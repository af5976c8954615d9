-- Tests joined by and, and by or; an element that a test finds.
use Rattle.std.proofs.Common.{◌≡◌, ℕ, ◌||◌, ◌&&◌, ◌≢◌, Bool, true, false, not, List, [], ◌∷◌, refl, sym, ap, ◌∙◌, inl, inr}
use Rattle.std.specs.Prelude.{◌==◌}
use Rattle.std.specs.List.{list_any, AllByRecursion as Each}
use Rattle.std.proofs.lemmas.Bool.{false≢true, ne_eqb, or_cases}

pub or_right : (a b : Bool) → b ≡ true → (a || b) ≡ true
or_right true b e = refl
or_right false b e = e

pub and_none : (a : Bool) → (a && false) ≡ false
and_none true = refl
and_none false = refl

pub other_file : (a b : ℕ) → a ≢ b → not (a == b) ≡ true
other_file a b differs = ap not (ne_eqb a b differs)

-- where each element that one test finds is found by another one
pub any_as : {X : Type 0} (p q : X → Bool) (xs : List X) → Each (λ x. p x ≡ true → q x ≡ true) xs → list_any p xs ≡ true → list_any q xs ≡ true
any_as p q [] each e = absurd (false≢true e)
any_as p q (x ∷ xs) each e = elim (or_cases (p x) (list_any p xs) e) [
  | inl here ↦ ap (λ b. b || list_any q xs) (each.0 here)
  | inr there ↦ or_right (q x) (list_any q xs) (any_as p q xs each.1 there)
]
