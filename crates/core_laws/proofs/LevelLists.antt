-- Lists of levels: split at a level, joined, filtered.
use Rattle.std.proofs.Common.{◌≡◌, ℕ, zero, suc, ◌<◌, ◌≤◌, Bool, List, [], ◌∷◌, ◌++◌, length, take, drop, refl, sym, ap, ◌∙◌, arith, append_assoc}
use Rattle.std.specs.Prelude.{map, filter, flat_map, slice_get, unwrap_or, set}
use Rattle.std.specs.List.{AllByRecursion as Each}
use Rattle.base_laws.proofs.Lists.{each_back, each_front, each_join}
use Rattle.core_laws.proofs.Lists.{filter_join}
use Rattle.st_order.specs.Columns.{Pairwise}

pub map_append : {X Y : Type 0} (f : X → Y) (xs ys : List X) → map f (xs ++ ys) ≡ map f xs ++ map f ys
map_append f [] ys = refl
map_append f (x ∷ xs) ys = ap (λ rest. f x ∷ rest) (map_append f xs ys)

module _ {X : Type 0} where
  -- the levels are those above n, level n, and those below
  pub levels_split : (levels : List (List X)) (n : ℕ) → n < length levels → levels ≡ take n levels ++ (unwrap_or (slice_get levels n) [] ∷ drop (suc n) levels)
  levels_split [] n lt = absurd (omega arith)
  levels_split (level ∷ levels) zero lt = refl
  levels_split (level ∷ levels) (suc n) lt = ap (λ rest. level ∷ rest) (levels_split levels n (omega arith))

  -- what holds of each level from k on
  pub each_drop : (Q : X → Type 0) (levels : List (List X)) (k : ℕ) → ((n : ℕ) → k ≤ n → Each Q (unwrap_or (slice_get levels n) [])) → Each Q (flat_map (λ level. level) (drop k levels))
  each_drop Q [] zero h = tt
  each_drop Q [] (suc k) h = tt
  each_drop Q (level ∷ levels) zero h = each_join Q level (flat_map (λ one. one) levels) (h 0 (omega arith)) (each_drop Q levels zero (λ n le. h (suc n) (omega arith)))
  each_drop Q (level ∷ levels) (suc k) h = each_drop Q levels k (λ n le. h (suc n) (omega arith))

  pub each_take : (Q : X → Type 0) (levels : List (List X)) (k : ℕ) → ((n : ℕ) → n < k → Each Q (unwrap_or (slice_get levels n) [])) → Each Q (flat_map (λ level. level) (take k levels))
  each_take Q [] zero h = tt
  each_take Q [] (suc k) h = tt
  each_take Q (level ∷ levels) zero h = tt
  each_take Q (level ∷ levels) (suc k) h = each_join Q level (flat_map (λ one. one) (take k levels)) (h 0 (omega arith)) (each_take Q levels k (λ n lt. h (suc n) (omega arith)))

  pub each_level : (Q : X → Type 0) (levels : List (List X)) (n : ℕ) → Each Q (flat_map (λ level. level) levels) → Each Q (unwrap_or (slice_get levels n) [])
  each_level Q [] n each = tt
  each_level Q (level ∷ levels) zero each = each_front Q level (flat_map (λ one. one) levels) each
  each_level Q (level ∷ levels) (suc n) each = each_level Q levels n (each_back Q level (flat_map (λ one. one) levels) each)

  -- a level anew, where the others are changed each by itself
  pub set_split : (change : List X → List X) (levels : List (List X)) (n : ℕ) (level : List X) → n < length levels
      → flat_map (λ one. one) (set (map change levels) n level) ≡ flat_map (λ one. one) (map change (take n levels)) ++ (level ++ flat_map (λ one. one) (map change (drop (suc n) levels)))
  set_split change [] n level lt = absurd (omega arith)
  set_split change (first ∷ levels) zero level lt = refl
  set_split change (first ∷ levels) (suc n) level lt =
      ap (λ rest. change first ++ rest) (set_split change levels n level (omega arith))
      ∙ sym (append_assoc (change first) (flat_map (λ one. one) (map change (take n levels))) (level ++ flat_map (λ one. one) (map change (drop (suc n) levels))))

  pub filter_levels : (test : X → Bool) (levels : List (List X)) → flat_map (λ one. one) (map (λ one. filter test one) levels) ≡ filter test (flat_map (λ one. one) levels)
  filter_levels test [] = refl
  filter_levels test (level ∷ levels) = ap (λ rest. filter test level ++ rest) (filter_levels test levels) ∙ sym (filter_join test level (flat_map (λ one. one) levels))

  pub pairs_with : (P : X → Type 0) (R S : X → X → Type 0) → ((x y : X) → P x → P y → R x y → S x y) → (xs : List X) → Each P xs → Pairwise R xs → Pairwise S xs
  pairs_with P R S more [] each p = tt
  pairs_with P R S more (x ∷ xs) each p = (each_with xs each.1 p.0, pairs_with P R S more xs each.1 p.1)
    where
      each_with : (ys : List X) → Each P ys → Each (R x) ys → Each (S x) ys
      each_with [] q r = tt
      each_with (y ∷ ys) q r = (more x y each.0 q.0 r.0, each_with ys q.1 r.1)
