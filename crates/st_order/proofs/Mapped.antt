-- A loop over elements that are seen through a map: what stands at an index, and the first index that passes.
use Rattle.std.proofs.Common.{◌≡◌, ℕ, zero, suc, ◌+◌, ◌<◌, ◌≤◌, Bool, true, false, List, [], ◌∷◌, length, get_or, map, Some, None, sym, ap, subst, arith}
use Rattle.std.specs.List.{position}
use Rattle.std.proofs.lemmas.List.{length-map}
use borrow.Author.Count.{below_more}
use Rattle.st_order.proofs.Halves.{position_found, position_none}

module _ {X Y : Type 0} (f : X → Y) where
  pub mapped_there : (xs : List X) (i : ℕ) (x : X) (d : Y) → i < length xs → x ≡ get_or xs i x → get_or (map f xs) i d ≡ f x
  mapped_there [] i x d lt e = absurd (omega arith)
  mapped_there (y ∷ xs) zero x d lt e = ap f (sym e)
  mapped_there (y ∷ xs) (suc i) x d lt e = mapped_there xs i x d (omega arith) e

  module _ (p : Y → Bool) where
    pub mapped_found : (xs : List X) (i : ℕ) (x : X) (d : Y) → i < length xs → x ≡ get_or xs i x → ((k : ℕ) → k < i → p (get_or (map f xs) k d) ≡ false) → p (f x) ≡ true → Some i ≡ position p (map f xs)
    mapped_found xs i x d lt e before here =
        position_found p (map f xs) i d (omega (arith, length-map xs f)) before (subst (λ (y : Y). p y ≡ true) (sym (mapped_there xs i x d lt e)) here)

    pub mapped_more : (xs : List X) (i : ℕ) (x : X) (d : Y) → i < length xs → x ≡ get_or xs i x → ((k : ℕ) → k < i → p (get_or (map f xs) k d) ≡ false) → p (f x) ≡ false
        → (k : ℕ) → k < i + 1 → p (get_or (map f xs) k d) ≡ false
    mapped_more xs i x d lt e before here =
        below_more (λ k. p (get_or (map f xs) k d) ≡ false) i before (subst (λ (y : Y). p y ≡ false) (sym (mapped_there xs i x d lt e)) here)

    pub mapped_none : (xs : List X) (i : ℕ) (d : Y) → length xs ≤ i → ((k : ℕ) → k < i → p (get_or (map f xs) k d) ≡ false) → None ≡ position p (map f xs)
    mapped_none xs i d le before = position_none p (map f xs) d (λ k lt. before k (omega (arith, length-map xs f)))
