-- Members of a list: what is found, what holds of one of all, and of one beside each other; and how often a file number stands in a list.
use Rattle.std.proofs.Common.{◌≡◌, ℕ, zero, suc, ◌+◌, ◌<◌, ◌≤◌, Bool, true, false, cond, List, [], ◌∷◌, ◌++◌, map, length, set, Some, refl, sym, ap, subst, ◌∙◌, ◌⊎◌, inl, inr, arith}
use Rattle.std.specs.Prelude.{◌==◌, get_or}
use Rattle.std.specs.List.{filter, find, AllPairs, AllByRecursion as Each}
use Rattle.std.proofs.lemmas.Bool.{cases_Bool, eqb-true, eq-eqb, ne_eqb}
use Rattle.base_laws.proofs.Lists.{each_as}
use Rattle.core_model.specs.Picture.{FileEntries}
use Rattle.core_laws.proofs.Lists.{at, flat}
use Rattle.st_order.specs.Columns.{Pairwise}

module _ {X : Type 0} where
  abbrev pub In : X → List X → Type 0
  In x [] = ⊥
  In x (y ∷ ys) = (x ≡ y) ⊎ In x ys

  pub each_in : (P : X → Type 0) (x : X) (xs : List X) → Each P xs → In x xs → P x
  each_in P x [] each there = absurd there
  each_in P x (y ∷ ys) each (inl is) = subst P (sym is) each.0
  each_in P x (y ∷ ys) each (inr there) = each_in P x ys each.1 there

  pub in_filter : (test : X → Bool) (x : X) (xs : List X) → test x ≡ true → In x xs → In x (filter test xs)
  in_filter test x [] passes there = there
  in_filter test x (y ∷ ys) passes (inl is) = keep (test y) (ap test (sym is) ∙ passes)
    where
      keep : (b : Bool) → b ≡ true → In x (cond b (y ∷ filter test ys) (filter test ys))
      keep true e = inl is
      keep false e = absurd cc
  in_filter test x (y ∷ ys) passes (inr there) = keep (test y) (in_filter test x ys passes there)
    where
      keep : (b : Bool) → In x (filter test ys) → In x (cond b (y ∷ filter test ys) (filter test ys))
      keep true rest = inr rest
      keep false rest = rest

  pub found_in : (test : X → Bool) (x : X) (xs : List X) → find test xs ≡ Some x → In x xs × (test x ≡ true)
  found_in test x [] e = absurd cc
  found_in test x (y ∷ ys) e = pick (test y) refl e (λ f. found_in test x ys f)
    where
      pick : (b : Bool) → test y ≡ b → cond b (Some y) (find test ys) ≡ Some x → (find test ys ≡ Some x → In x ys × (test x ≡ true)) → In x (y ∷ ys) × (test x ≡ true)
      pick true is e more = let w : y ≡ x = cc in (inl (sym w), ap test (sym w) ∙ is)
      pick false is e more = (inr (more e).0, (more e).1)

  -- each other one beside it
  pub pairs_in : (R : X → X → Type 0) → ((x y : X) → R x y → R y x) → (x : X) (xs : List X) → Pairwise R xs → In x xs → Each (λ y. (x ≡ y) ⊎ R x y) xs
  pairs_in R back x [] pairs there = tt
  pairs_in R back x (y ∷ ys) pairs (inl is) = (inl is, each_as (λ z. R y z) (λ z. (x ≡ z) ⊎ R x z) (λ z r. inr (subst (λ w. R w z) (sym is) r)) ys pairs.0)
  pairs_in R back x (y ∷ ys) pairs (inr there) = (inr (back y x (each_in (R y) x ys pairs.0 there)), pairs_in R back x ys pairs.1 there)

  pub pairs_of_all : (R : X → X → Type 0) (xs : List X) → AllPairs R xs → Pairwise R xs
  pairs_of_all R [] all = tt
  pairs_of_all R (x ∷ xs) all = (behind xs (λ j d lt. all 0 (suc j) d (omega arith) (omega arith)), pairs_of_all R xs (λ i j d less lt. all (suc i) (suc j) d (omega arith) (omega arith)))
    where
      behind : (ys : List X) → ((j : ℕ) (d : X) → j < length ys → R x (get_or ys j d)) → Each (R x) ys
      behind [] each = tt
      behind (y ∷ ys) each = (each 0 y (omega arith), behind ys (λ j d lt. each (suc j) d (omega arith)))

  pub filter_swap : (one other : X → Bool) (xs : List X) → filter one (filter other xs) ≡ filter other (filter one xs)
  filter_swap one other [] = refl
  filter_swap one other (x ∷ xs) = step (one x) (other x) refl refl (filter_swap one other xs)
    where
      step : (b c : Bool) → one x ≡ b → other x ≡ c → filter one (filter other xs) ≡ filter other (filter one xs)
          → filter one (cond c (x ∷ filter other xs) (filter other xs)) ≡ filter other (cond b (x ∷ filter one xs) (filter one xs))
      step true true b c e =
          ap (λ t. cond t (x ∷ filter one (filter other xs)) (filter one (filter other xs))) b ∙ ap (λ rest. x ∷ rest) e
          ∙ sym (ap (λ t. cond t (x ∷ filter other (filter one xs)) (filter other (filter one xs))) c)
      step true false b c e = e ∙ sym (ap (λ t. cond t (x ∷ filter other (filter one xs)) (filter other (filter one xs))) c)
      step false true b c e = ap (λ t. cond t (x ∷ filter one (filter other xs)) (filter one (filter other xs))) b ∙ e
      step false false b c e = e

pub pairs_map : {X Y : Type 0} (R : Y → Y → Type 0) (f : X → Y) (xs : List X) → Pairwise (λ x y. R (f x) (f y)) xs → Pairwise R (map f xs)
pairs_map R f [] pairs = tt
pairs_map R f (x ∷ xs) pairs = (Rattle.base_laws.proofs.Lists.each_map (R (f x)) f xs pairs.0, pairs_map R f xs pairs.1)

pub map_pairs : {X Y : Type 0} (R : Y → Y → Type 0) (f : X → Y) (xs : List X) → Pairwise R (map f xs) → Pairwise (λ x y. R (f x) (f y)) xs
map_pairs R f [] pairs = tt
map_pairs R f (x ∷ xs) pairs = (Rattle.base_laws.proofs.Lists.map_each (R (f x)) f xs pairs.0, map_pairs R f xs pairs.1)

-- ---- how many tables have a file number

abbrev one_if : Bool → ℕ
one_if true = 1
one_if false = 0

abbrev pub hits : ℕ → List FileEntries → ℕ
hits f [] = 0
hits f (table ∷ tables) = one_if (table.file == f) + hits f tables

abbrev pub Differ : FileEntries → FileEntries → Type 0
Differ one other = one.file ≡ other.file → ⊥

pub hits_join : (f : ℕ) (xs ys : List FileEntries) → hits f (xs ++ ys) ≡ hits f xs + hits f ys
hits_join f [] ys = omega arith
hits_join f (x ∷ xs) ys = let h : hits f (xs ++ ys) ≡ hits f xs + hits f ys = hits_join f xs ys in omega arith

pub hits_filter : (f : ℕ) (test : FileEntries → Bool) (xs : List FileEntries) → hits f (filter test xs) ≤ hits f xs
hits_filter f test [] = omega arith
hits_filter f test (x ∷ xs) = keep (test x) (hits_filter f test xs)
  where
    keep : (b : Bool) → hits f (filter test xs) ≤ hits f xs → hits f (cond b (x ∷ filter test xs) (filter test xs)) ≤ one_if (x.file == f) + hits f xs
    keep true le = omega arith
    keep false le = omega arith

-- file numbers differ where each stands once
none_hits : (f : ℕ) (xs : List FileEntries) → Each (λ table. table.file ≡ f → ⊥) xs → hits f xs ≡ 0
none_hits f [] each = refl
none_hits f (x ∷ xs) each = let h : hits f xs ≡ 0 = none_hits f xs each.1 in let e : one_if (x.file == f) ≡ 0 = ap one_if (ne_eqb x.file f each.0) in omega arith

hits_none : (f : ℕ) (xs : List FileEntries) → hits f xs ≡ 0 → Each (λ table. table.file ≡ f → ⊥) xs
hits_none f [] e = tt
hits_none f (x ∷ xs) e = ((λ is. let w : one_if (x.file == f) ≡ 1 = ap one_if (eq-eqb x.file f is) in absurd (omega arith)), hits_none f xs (omega arith))

pub once_hits : (xs : List FileEntries) → Pairwise Differ xs → (f : ℕ) → hits f xs ≤ 1
once_hits [] pairs f = omega arith
once_hits (x ∷ xs) pairs f = elim (cases_Bool (x.file == f)) [
  | inl is ↦
      let e : x.file ≡ f = eqb-true x.file f is in
      let n : hits f xs ≡ 0 = none_hits f xs (each_as (Differ x) (λ table. table.file ≡ f → ⊥) (λ table differ same. differ (e ∙ sym same)) xs pairs.0) in
      let o : one_if (x.file == f) ≡ 1 = ap one_if is in omega arith
  | inr not_so ↦ let o : one_if (x.file == f) ≡ 0 = ap one_if not_so in let h : hits f xs ≤ 1 = once_hits xs pairs.1 f in omega arith
]

pub hits_once : (xs : List FileEntries) → ((f : ℕ) → hits f xs ≤ 1) → Pairwise Differ xs
hits_once [] once = tt
hits_once (x ∷ xs) once = (
  each_as (λ table. table.file ≡ x.file → ⊥) (Differ x) (λ table differ same. differ (sym same)) xs
      (hits_none x.file xs (let h : one_if (x.file == x.file) + hits x.file xs ≤ 1 = once x.file in let o : one_if (x.file == x.file) ≡ 1 = ap one_if (eq-eqb x.file x.file refl) in omega arith)),
  hits_once xs (λ f. let h : one_if (x.file == f) + hits f xs ≤ 1 = once f in omega arith),
)

pub hits_set : (f : ℕ) (levels : List (List FileEntries)) (i : ℕ) (v : List FileEntries) → i < length levels → hits f (flat (set levels i v)) + hits f (at levels i) ≡ hits f v + hits f (flat levels)
hits_set f [] i v lt = absurd (omega arith)
hits_set f (x ∷ levels) zero v lt = let a : hits f (v ++ flat levels) ≡ hits f v + hits f (flat levels) = hits_join f v (flat levels) in let b : hits f (x ++ flat levels) ≡ hits f x + hits f (flat levels) = hits_join f x (flat levels) in omega arith
hits_set f (x ∷ levels) (suc i) v lt =
    let h : hits f (flat (set levels i v)) + hits f (at levels i) ≡ hits f v + hits f (flat levels) = hits_set f levels i v (omega arith) in
    let a : hits f (x ++ flat (set levels i v)) ≡ hits f x + hits f (flat (set levels i v)) = hits_join f x (flat (set levels i v)) in
    let b : hits f (x ++ flat levels) ≡ hits f x + hits f (flat levels) = hits_join f x (flat levels) in omega arith

pub hits_map : (f : ℕ) (g : List FileEntries → List FileEntries) → ((xs : List FileEntries) → hits f (g xs) ≤ hits f xs) → (levels : List (List FileEntries)) → hits f (flat (map g levels)) ≤ hits f (flat levels)
hits_map f g less [] = omega arith
hits_map f g less (x ∷ levels) =
    let h : hits f (flat (map g levels)) ≤ hits f (flat levels) = hits_map f g less levels in let l : hits f (g x) ≤ hits f x = less x in
    let a : hits f (g x ++ flat (map g levels)) ≡ hits f (g x) + hits f (flat (map g levels)) = hits_join f (g x) (flat (map g levels)) in
    let b : hits f (x ++ flat levels) ≡ hits f x + hits f (flat levels) = hits_join f x (flat levels) in omega arith

pub each_by_in : {X : Type 0} (P : X → Type 0) (xs : List X) → ((x : X) → In x xs → P x) → Each P xs
each_by_in P [] all = tt
each_by_in P (x ∷ xs) all = (all x (inl refl), each_by_in P xs (λ y there. all y (inr there)))
