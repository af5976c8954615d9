-- Lists of lists, and what holds of each pair of a list, in lists that were cut, joined or changed.
use Rattle.std.proofs.Common.{◌≡◌, ℕ, zero, suc, ◌<◌, ◌≤◌, Bool, true, false, cond, List, [], ◌∷◌, ◌++◌, map, length, take, drop, set, refl, sym, ap, subst, ◌∙◌, arith}
use Rattle.std.specs.Prelude.{slice_get, unwrap_or}
use Rattle.std.specs.List.{filter, flat_map, AllByRecursion as Each}
use Rattle.base_laws.proofs.Lists.{each_as, each_back, each_filter, each_front, each_join}
use Rattle.st_order.specs.Columns.{Pairwise}

-- ---- each pair

module _ {X : Type 0} where
  pub pairs_as : (R S : X → X → Type 0) → ((x y : X) → R x y → S x y) → (xs : List X) → Pairwise R xs → Pairwise S xs
  pairs_as R S as_well [] pairs = tt
  pairs_as R S as_well (x ∷ xs) pairs = (each_as (R x) (S x) (as_well x) xs pairs.0, pairs_as R S as_well xs pairs.1)

  pub pairs_join : (R : X → X → Type 0) (xs ys : List X) → Pairwise R xs → Pairwise R ys → Each (λ x. Each (R x) ys) xs → Pairwise R (xs ++ ys)
  pairs_join R [] ys front back across = back
  pairs_join R (x ∷ xs) ys front back across = (each_join (R x) xs ys front.0 across.0, pairs_join R xs ys front.1 back across.1)

  pub pairs_front : (R : X → X → Type 0) (xs ys : List X) → Pairwise R (xs ++ ys) → Pairwise R xs
  pairs_front R [] ys pairs = tt
  pairs_front R (x ∷ xs) ys pairs = (each_front (R x) xs ys pairs.0, pairs_front R xs ys pairs.1)

  pub pairs_back : (R : X → X → Type 0) (xs ys : List X) → Pairwise R (xs ++ ys) → Pairwise R ys
  pairs_back R [] ys pairs = pairs
  pairs_back R (x ∷ xs) ys pairs = pairs_back R xs ys pairs.1

  pub pairs_across : (R : X → X → Type 0) (xs ys : List X) → Pairwise R (xs ++ ys) → Each (λ x. Each (R x) ys) xs
  pairs_across R [] ys pairs = tt
  pairs_across R (x ∷ xs) ys pairs = (each_back (R x) xs ys pairs.0, pairs_across R xs ys pairs.1)

  pub pairs_filter : (R : X → X → Type 0) (test : X → Bool) (xs : List X) → Pairwise R xs → Pairwise R (filter test xs)
  pairs_filter R test [] pairs = tt
  pairs_filter R test (x ∷ xs) pairs = keep (test x) (pairs_filter R test xs pairs.1)
    where
      keep : (b : Bool) → Pairwise R (filter test xs) → Pairwise R (cond b (x ∷ filter test xs) (filter test xs))
      keep true rest = (each_filter (R x) test xs pairs.0, rest)
      keep false rest = rest

  -- ---- lists of lists, by index

  abbrev pub at : List (List X) → ℕ → List X
  at levels n = unwrap_or (slice_get levels n) []

  pub at_set : (P : List X → Type 0) (levels : List (List X)) (i n : ℕ) (v : List X) → i < length levels → (n ≡ i → P v) → ((n ≡ i → ⊥) → P (at levels n)) → P (at (set levels i v) n)
  at_set P [] i n v lt here there = absurd (omega arith)
  at_set P (x ∷ levels) zero zero v lt here there = here refl
  at_set P (x ∷ levels) zero (suc n) v lt here there = there (λ e. omega arith)
  at_set P (x ∷ levels) (suc i) zero v lt here there = there (λ e. omega arith)
  at_set P (x ∷ levels) (suc i) (suc n) v lt here there = at_set P levels i n v (omega arith) (λ e. here (ap suc e)) (λ differ. there (λ e. differ (omega arith)))

  pub at_map : (P : List X → Type 0) (f : List X → List X) (levels : List (List X)) (n : ℕ) → f [] ≡ [] → P (f (at levels n)) → P (at (map f levels) n)
  at_map P f [] n empty holds = subst P empty holds
  at_map P f (x ∷ levels) zero empty holds = holds
  at_map P f (x ∷ levels) (suc n) empty holds = at_map P f levels n empty holds

  pub at_take : (P : List X → Type 0) (levels : List (List X)) (i n : ℕ) → P [] → (n < i → P (at levels n)) → P (at (take i levels) n)
  at_take P levels zero n none some = none
  at_take P [] (suc i) n none some = none
  at_take P (x ∷ levels) (suc i) zero none some = some (omega arith)
  at_take P (x ∷ levels) (suc i) (suc n) none some = at_take P levels i n none (λ lt. some (omega arith))

  pub at_taken : (P : List X → Type 0) (levels : List (List X)) (i n : ℕ) → n < i → P (at (take i levels) n) → P (at levels n)
  at_taken P levels zero n lt holds = absurd (omega arith)
  at_taken P [] (suc i) n lt holds = holds
  at_taken P (x ∷ levels) (suc i) zero lt holds = holds
  at_taken P (x ∷ levels) (suc i) (suc n) lt holds = at_taken P levels i n (omega arith) holds

  pub at_drop : (P : List X → Type 0) (levels : List (List X)) (i n : ℕ) → P [] → ((m : ℕ) → i ≤ m → P (at levels m)) → P (at (drop i levels) n)
  at_drop P levels zero n none some = some n (omega arith)
  at_drop P [] (suc i) n none some = none
  at_drop P (x ∷ levels) (suc i) n none some = at_drop P levels i n none (λ m le. some (suc m) (omega arith))

  pub at_dropped : (P : List X → Type 0) (levels : List (List X)) (i m : ℕ) → i ≤ m → ((n : ℕ) → P (at (drop i levels) n)) → P (at levels m)
  at_dropped P levels zero m le holds = holds m
  at_dropped P [] (suc i) m le holds = holds m
  at_dropped P (x ∷ levels) (suc i) zero le holds = absurd (omega arith)
  at_dropped P (x ∷ levels) (suc i) (suc m) le holds = at_dropped P levels i m (omega arith) holds

  -- a property of each list, by index
  pub each_at : (P : List X → Type 0) (levels : List (List X)) (n : ℕ) → P [] → Each P levels → P (at levels n)
  each_at P [] n none each = none
  each_at P (x ∷ levels) zero none each = each.0
  each_at P (x ∷ levels) (suc n) none each = each_at P levels n none each.1

  pub at_each : (P : List X → Type 0) (levels : List (List X)) → ((n : ℕ) → P (at levels n)) → Each P levels
  at_each P [] each = tt
  at_each P (x ∷ levels) each = (each 0, at_each P levels (λ n. each (suc n)))

  abbrev pub flat : List (List X) → List X
  flat levels = flat_map (λ level. level) levels

  -- one of each element of all lists
  pub flat_at : (P : X → Type 0) (levels : List (List X)) → Each P (flat levels) → (n : ℕ) → Each P (at levels n)
  flat_at P [] each n = tt
  flat_at P (x ∷ levels) each zero = each_front P x (flat levels) each
  flat_at P (x ∷ levels) each (suc n) = flat_at P levels (each_back P x (flat levels) each) n

  pub at_flat : (P : X → Type 0) (levels : List (List X)) → ((n : ℕ) → Each P (at levels n)) → Each P (flat levels)
  at_flat P [] each = tt
  at_flat P (x ∷ levels) each = each_join P x (flat levels) (each 0) (at_flat P levels (λ n. each (suc n)))

  -- and of each pair: within a list, and of two lists
  pub pairs_within : (R : X → X → Type 0) (levels : List (List X)) → Pairwise R (flat levels) → (n : ℕ) → Pairwise R (at levels n)
  pairs_within R [] pairs n = tt
  pairs_within R (x ∷ levels) pairs zero = pairs_front R x (flat levels) pairs
  pairs_within R (x ∷ levels) pairs (suc n) = pairs_within R levels (pairs_back R x (flat levels) pairs) n

  pub pairs_between : (R : X → X → Type 0) (levels : List (List X)) → Pairwise R (flat levels) → (n m : ℕ) → n < m → Each (λ x. Each (R x) (at levels m)) (at levels n)
  pairs_between R [] pairs n m lt = tt
  pairs_between R (x ∷ levels) pairs n zero lt = absurd (omega arith)
  pairs_between R (x ∷ levels) pairs zero (suc m) lt =
      each_as (λ one. Each (R one) (flat levels)) (λ one. Each (R one) (at levels m)) (λ one each. flat_at (R one) levels each m) x (pairs_across R x (flat levels) pairs)
  pairs_between R (x ∷ levels) pairs (suc n) (suc m) lt = pairs_between R levels (pairs_back R x (flat levels) pairs) n m (omega arith)

  pub pairs_flat : (R : X → X → Type 0) (levels : List (List X)) → ((n : ℕ) → Pairwise R (at levels n)) → ((n m : ℕ) → n < m → Each (λ x. Each (R x) (at levels m)) (at levels n)) → Pairwise R (flat levels)
  pairs_flat R [] within between = tt
  pairs_flat R (x ∷ levels) within between =
      pairs_join R x (flat levels) (within 0) (pairs_flat R levels (λ n. within (suc n)) (λ n m lt. between (suc n) (suc m) (omega arith)))
      (across x (λ m. between 0 (suc m) (omega arith)))
    where
      across : (ys : List X) → ((m : ℕ) → Each (λ y. Each (R y) (at levels m)) ys) → Each (λ y. Each (R y) (flat levels)) ys
      across [] each = tt
      across (y ∷ ys) each = (at_flat (R y) levels (λ m. (each m).0), across ys (λ m. (each m).1))

  -- ---- filters

  pub filter_join : (test : X → Bool) (xs ys : List X) → filter test (xs ++ ys) ≡ filter test xs ++ filter test ys
  filter_join test [] ys = refl
  filter_join test (x ∷ xs) ys = keep (test x) (filter_join test xs ys)
    where
      keep : (b : Bool) → filter test (xs ++ ys) ≡ filter test xs ++ filter test ys → cond b (x ∷ filter test (xs ++ ys)) (filter test (xs ++ ys)) ≡ cond b (x ∷ filter test xs) (filter test xs) ++ filter test ys
      keep true e = ap (λ rest. x ∷ rest) e
      keep false e = e

  -- where the lists keep the same, so does the whole
  pub filter_flat : (test : X → Bool) (levels others : List (List X)) → length levels ≡ length others → ((n : ℕ) → filter test (at levels n) ≡ filter test (at others n)) → filter test (flat levels) ≡ filter test (flat others)
  filter_flat test [] [] e same_at = refl
  filter_flat test [] (y ∷ others) e same_at = absurd (omega arith)
  filter_flat test (x ∷ levels) [] e same_at = absurd (omega arith)
  filter_flat test (x ∷ levels) (y ∷ others) e same_at =
      filter_join test x (flat levels)
      ∙ ap (λ front. front ++ filter test (flat levels)) (same_at 0)
      ∙ ap (λ back. filter test y ++ back) (filter_flat test levels others (omega arith) (λ n. same_at (suc n)))
      ∙ sym (filter_join test y (flat others))

  -- a filter that drops nothing that the other keeps
  pub filter_twice : (test other : X → Bool) (xs : List X) → Each (λ x. test x ≡ true → other x ≡ true) xs → filter test (filter other xs) ≡ filter test xs
  filter_twice test other [] each = refl
  filter_twice test other (x ∷ xs) each = keep (test x) (other x) refl refl (filter_twice test other xs each.1)
    where
      keep : (b c : Bool) → test x ≡ b → other x ≡ c → filter test (filter other xs) ≡ filter test xs
          → filter test (cond c (x ∷ filter other xs) (filter other xs)) ≡ cond b (x ∷ filter test xs) (filter test xs)
      keep true true b c e = ap (λ t. cond t (x ∷ filter test (filter other xs)) (filter test (filter other xs))) b ∙ ap (λ rest. x ∷ rest) e
      keep true false b c e = absurd (let w : true ≡ false = sym (each.0 b) ∙ c in cc)
      keep false true b c e = ap (λ t. cond t (x ∷ filter test (filter other xs)) (filter test (filter other xs))) b ∙ e
      keep false false b c e = e
