-- Elements of a list by their place.
use Rattle.std.proofs.Common.{◌≡◌, ℕ, zero, suc, ◌<◌, List, [], ◌∷◌, ◌++◌, length, get_or, refl, sym, ap, subst, ◌∙◌, arith}
use Rattle.std.specs.Prelude.{AllPairs, flat_map, Contains}
use Rattle.std.specs.List.{AllByRecursion as Each}
use Rattle.st_order.specs.Columns.{Pairwise}

module _ {X : Type 0} where
  pub each_both : (P Q : X → Type 0) (xs : List X) → Each P xs → Each Q xs → Each (λ x. P x × Q x) xs
  each_both P Q [] h k = tt
  each_both P Q (x ∷ xs) h k = ((h.0, k.0), each_both P Q xs h.1 k.1)

  pub each_at : (P : X → Type 0) (xs : List X) → ((j : ℕ) (d : X) → j < length xs → P (get_or xs j d)) → Each P xs
  each_at P [] h = tt
  each_at P (x ∷ xs) h = (h 0 x (omega arith), each_at P xs (λ j d lt. h (suc j) d (omega arith)))

  pub each_get : (P : X → Type 0) (xs : List X) → Each P xs → (j : ℕ) (d : X) → j < length xs → P (get_or xs j d)
  each_get P [] h j d lt = absurd (omega arith)
  each_get P (x ∷ xs) h zero d lt = h.0
  each_get P (x ∷ xs) h (suc j) d lt = each_get P xs h.1 j d (omega arith)

  pub each_there : (P : X → Type 0) (xs : List X) (x : X) → Each P xs → Contains xs x → P x
  each_there P xs x h there = subst P there.2 (each_get P xs h there.0 x there.1)

  pub from_pairs : (R : X → X → Type 0) (xs : List X) → Pairwise R xs → AllPairs R xs
  from_pairs R [] h i j d lt in' = absurd (omega arith)
  from_pairs R (x ∷ xs) h zero zero d lt in' = absurd (omega arith)
  from_pairs R (x ∷ xs) h zero (suc j) d lt in' = each_get (R x) xs h.0 j d (omega arith)
  from_pairs R (x ∷ xs) h (suc i) zero d lt in' = absurd (omega arith)
  from_pairs R (x ∷ xs) h (suc i) (suc j) d lt in' = from_pairs R xs h.1 i j d (omega arith) (omega arith)

module _ {X Y : Type 0} where
  pub flat_join : (f : X → List Y) (xs ys : List X) → flat_map f (xs ++ ys) ≡ flat_map f xs ++ flat_map f ys
  flat_join f [] ys = refl
  flat_join f (x ∷ xs) ys = ap (λ (rest : List Y). f x ++ rest) (flat_join f xs ys) ∙ sym (assoc (f x) (flat_map f xs) (flat_map f ys))
    where
      assoc : (a b c : List Y) → (a ++ b) ++ c ≡ a ++ (b ++ c)
      assoc [] b c = refl
      assoc (x ∷ a) b c = ap (λ (rest : List Y). x ∷ rest) (assoc a b c)
