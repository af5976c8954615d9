-- Tests and filters of lists, and what a list contains.
use Rattle.std.proofs.Common.{◌≡◌, ℕ, zero, suc, ◌<◌, ◌≤◌, Bool, true, false, cond, ◌||◌, List, [], ◌∷◌, length, get_or, map, take, drop, filter, refl, sym, ap, subst, ◌∙◌, inl, inr, arith}
use Rattle.std.specs.List.{list_any, Contains, AllByRecursion as Each}
use Rattle.std.proofs.lemmas.Bool.{false≢true, or_cases}
use Rattle.base_laws.proofs.Lists.{each_filter}
use Rattle.st_order.specs.Columns.{Pairwise}
use Rattle.st_order.proofs.Halves.{each_at}
use Rattle.st_order.proofs.Least.{Has}

pub or_left : (a b : Bool) → a ≡ true → (a || b) ≡ true
or_left a b e = ap (λ t. t || b) e

pub or_right : (a b : Bool) → b ≡ true → (a || b) ≡ true
or_right true b e = refl
or_right false b e = e

module _ {X : Type 0} where
  pub any_as : (p q : X → Bool) → ((x : X) → p x ≡ true → q x ≡ true) → (xs : List X) → list_any p xs ≡ true → list_any q xs ≡ true
  any_as p q more [] e = absurd (false≢true e)
  any_as p q more (x ∷ xs) e = elim (or_cases (p x) (list_any p xs) e) [
    | inl here ↦ or_left (q x) (list_any q xs) (more x here)
    | inr there ↦ or_right (q x) (list_any q xs) (any_as p q more xs there)
  ]

  -- what holds of each element holds of one that the list has
  pub each_has : (P : X → Type 0) (x : X) (xs : List X) → Each P xs → Has x xs → P x
  each_has P x [] each has = absurd has
  each_has P x (y ∷ ys) each (inl here) = subst P here each.0
  each_has P x (y ∷ ys) each (inr there) = each_has P x ys each.1 there

  pub each_contains : (P : X → Type 0) (x : X) (xs : List X) → Each P xs → Contains xs x → P x
  each_contains P x xs each has = subst P has.2 (each_at P xs has.0 x each has.1)

  has_at : (x : X) (xs : List X) (k : ℕ) → k < length xs → get_or xs k x ≡ x → Has x xs
  has_at x [] k lt e = absurd (omega arith)
  has_at x (y ∷ ys) zero lt e = inl e
  has_at x (y ∷ ys) (suc k) lt e = inr (has_at x ys k (omega arith) e)

  pub contains_has : (x : X) (xs : List X) → Contains xs x → Has x xs
  contains_has x xs has = has_at x xs has.0 has.1 has.2

  pub each_from : (P : X → Type 0) (xs : List X) (d : X) → ((i : ℕ) → i < length xs → P (get_or xs i d)) → Each P xs
  each_from P [] d h = tt
  each_from P (x ∷ xs) d h = (h 0 (omega arith), each_from P xs d (λ i lt. h (suc i) (omega arith)))

  pub each_front_at : (P : X → Type 0) (n : ℕ) (xs : List X) (d : X) → ((i : ℕ) → i < n → i < length xs → P (get_or xs i d)) → Each P (take n xs)
  each_front_at P zero xs d h = tt
  each_front_at P (suc n) [] d h = tt
  each_front_at P (suc n) (x ∷ xs) d h = (h 0 (omega arith) (omega arith), each_front_at P n xs d (λ i lt long. h (suc i) (omega arith) (omega arith)))

  pub each_back_at : (P : X → Type 0) (n : ℕ) (xs : List X) (d : X) → ((i : ℕ) → n ≤ i → i < length xs → P (get_or xs i d)) → Each P (drop n xs)
  each_back_at P zero xs d h = each_from P xs d (λ i lt. h i (omega arith) lt)
  each_back_at P (suc n) [] d h = tt
  each_back_at P (suc n) (x ∷ xs) d h = each_back_at P n xs d (λ i le long. h (suc i) (omega arith) (omega arith))

  -- ---- filters

  -- of two filters the one that keeps less is enough
  pub narrow : (p q : X → Bool) → ((x : X) → q x ≡ true → p x ≡ true) → (xs : List X) → filter q (filter p xs) ≡ filter q xs
  narrow p q more [] = refl
  narrow p q more (x ∷ xs) = step (p x) refl (q x) refl (narrow p q more xs)
    where
      step : (a : Bool) → p x ≡ a → (b : Bool) → q x ≡ b → filter q (filter p xs) ≡ filter q xs → filter q (cond a (x ∷ filter p xs) (filter p xs)) ≡ cond b (x ∷ filter q xs) (filter q xs)
      step true e b f rest = ap (λ t. cond t (x ∷ filter q (filter p xs)) (filter q (filter p xs))) f ∙ ap (λ ys. cond b (x ∷ ys) ys) rest
      step false e true f rest = absurd (false≢true (sym e ∙ more x f))
      step false e false f rest = rest

  shorter : (p : X → Bool) (xs : List X) → length (filter p xs) ≤ length xs
  shorter p [] = omega arith
  shorter p (x ∷ xs) = step (p x) (shorter p xs)
    where
      step : (b : Bool) → length (filter p xs) ≤ length xs → length (cond b (x ∷ filter p xs) (filter p xs)) ≤ length (x ∷ xs)
      step true le = omega (arith, le)
      step false le = omega (arith, le)

  pub fewer : (p : X → Bool) (x : X) (xs : List X) → p x ≡ false → length (filter p (x ∷ xs)) < length (x ∷ xs)
  fewer p x xs e = let le = shorter p xs in subst (λ b. length (cond b (x ∷ filter p xs) (filter p xs)) < length (x ∷ xs)) (sym e) (omega (arith, le))

  pub pairs_filter : (R : X → X → Type 0) (p : X → Bool) (xs : List X) → Pairwise R xs → Pairwise R (filter p xs)
  pairs_filter R p [] pairs = tt
  pairs_filter R p (x ∷ xs) pairs = step (p x) (pairs_filter R p xs pairs.1) (each_filter (R x) p xs pairs.0)
    where
      step : (b : Bool) → Pairwise R (filter p xs) → Each (R x) (filter p xs) → Pairwise R (cond b (x ∷ filter p xs) (filter p xs))
      step true rest each = (each, rest)
      step false rest each = rest

pub any_map : {X Y : Type 0} (test : Y → Bool) (f : X → Y) (xs : List X) → list_any test (map f xs) ≡ list_any (λ x. test (f x)) xs
any_map test f [] = refl
any_map test f (x ∷ xs) = ap (λ b. test (f x) || b) (any_map test f xs)
