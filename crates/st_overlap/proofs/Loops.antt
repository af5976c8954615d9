-- A loop over elements: the first index that passes a test.
use Rattle.std.proofs.Common.{◌≡◌, ℕ, ◌+◌, ◌<◌, ◌≤◌, Bool, true, false, List, length, get_or, Some, None, sym, subst, ◌∙◌, arith}
use Rattle.std.specs.List.{position}
use Rattle.std.proofs.lemmas.List.{get_or_default}
use borrow.Author.Count.{below_more}
use Rattle.st_order.proofs.Halves.{position_found, position_none}

module _ {X : Type 0} (p : X → Bool) (xs : List X) (i : ℕ) (d : X) where
  module _ (x : X) (lt : i < length xs) (e : x ≡ get_or xs i x) (before : (k : ℕ) → k < i → p (get_or xs k d) ≡ false) where
    there : x ≡ get_or xs i d
    there = e ∙ sym (get_or_default xs i d x lt)

    pub found_here : p x ≡ true → Some i ≡ position p xs
    found_here here = position_found p xs i d lt before (subst (λ (y : X). p y ≡ true) there here)

    pub one_more : p x ≡ false → (k : ℕ) → k < i + 1 → p (get_or xs k d) ≡ false
    one_more here = below_more (λ k. p (get_or xs k d) ≡ false) i before (subst (λ (y : X). p y ≡ false) there here)

  pub none_there : length xs ≤ i → ((k : ℕ) → k < i → p (get_or xs k d) ≡ false) → None ≡ position p xs
  none_there le before = position_none p xs d (λ k lt. before k (omega arith))
