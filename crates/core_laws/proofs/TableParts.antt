-- Tables that are part of others, told by their file numbers.
use Rattle.std.proofs.Common.{◌≡◌, ℕ, zero, suc, ◌<◌, ◌≤◌, ◌⊎◌, Bool, true, false, cond, List, [], ◌∷◌, ◌++◌, length, take, drop, refl, sym, ap, ◌∙◌, inl, inr, arith, append_assoc}
use Rattle.std.specs.Prelude.{map, filter, flat_map, slice_get, unwrap_or, ◌==◌, ◌||◌}
use Rattle.std.specs.List.{AllByRecursion as Each}
use Rattle.std.proofs.lemmas.Bool.{or_left, or_right, ne_eqb, eq-eqb}
use Rattle.base_laws.proofs.Lists.{any_none, each_as, each_back, each_front, each_map}
use Rattle.core_model.specs.Picture.{FileEntries, has_file}
use Rattle.core_laws.proofs.Lists.{pairs_across, pairs_back}
use Rattle.core_model.specs.WellPicked.{IsPartOf, ended, skipped, taken}
use Rattle.st_order.specs.Columns.{Pairwise}

pub part_self : (xs : List FileEntries) → IsPartOf xs xs
part_self [] = ended
part_self (x ∷ xs) = taken (part_self xs)

pub part_none : (ys : List FileEntries) → IsPartOf [] ys
part_none [] = ended
part_none (y ∷ ys) = skipped (part_none ys)

pub part_behind : (front : List FileEntries) {xs ys : List FileEntries} → IsPartOf xs ys → IsPartOf xs (front ++ ys)
part_behind [] p = p
part_behind (x ∷ front) p = skipped (part_behind front p)

pub part_both : {xs ys vs ws : List FileEntries} → IsPartOf xs ys → IsPartOf vs ws → IsPartOf (xs ++ vs) (ys ++ ws)
part_both ended q = q
part_both (skipped p) q = skipped (part_both p q)
part_both (taken p) q = taken (part_both p q)

pub part_front : {xs ys : List FileEntries} → IsPartOf xs ys → (back : List FileEntries) → IsPartOf xs (ys ++ back)
part_front ended back = part_none back
part_front (skipped p) back = skipped (part_front p back)
part_front (taken p) back = taken (part_front p back)

pub part_filter : (test : FileEntries → Bool) (ys : List FileEntries) → IsPartOf (filter test ys) ys
part_filter test [] = ended
part_filter test (y ∷ ys) = keep (test y) (part_filter test ys)
  where
    keep : (b : Bool) → IsPartOf (filter test ys) ys → IsPartOf (cond b (y ∷ filter test ys) (filter test ys)) (y ∷ ys)
    keep true p = taken p
    keep false p = skipped p

pub part_each : (P : FileEntries → Type 0) {xs ys : List FileEntries} → IsPartOf xs ys → Each P ys → Each P xs
part_each P ended each = tt
part_each P (skipped p) each = part_each P p each.1
part_each P (taken p) each = (each.0, part_each P p each.1)

pub part_alone : (ys : List FileEntries) → Each (λ y. IsPartOf (y ∷ []) ys) ys
part_alone [] = tt
part_alone (y ∷ ys) = (taken (part_none ys), each_as (λ x. IsPartOf (x ∷ []) ys) (λ x. IsPartOf (x ∷ []) (y ∷ ys)) (λ x p. skipped p) ys (part_alone ys))

-- ---- by file numbers

abbrev pub Differ : FileEntries → FileEntries → Type 0
Differ one other = one.file ≡ other.file → ⊥

abbrev pub files : List FileEntries → List ℕ
files tables = map (λ table. table.file) tables

pub lacks_file : (inputs : List FileEntries) (table : FileEntries) → Each (λ one. Differ one table) inputs → has_file (files inputs) table ≡ false
lacks_file inputs table differ =
    any_none (λ file. file == table.file) (files inputs)
    (each_map (λ file. (file == table.file) ≡ false) (λ one. one.file) inputs (each_as (λ one. Differ one table) (λ one. (one.file == table.file) ≡ false) (λ one d. ne_eqb one.file table.file d) inputs differ))

pub has_own_files : (inputs : List FileEntries) → Each (λ table. has_file (files inputs) table ≡ true) inputs
has_own_files [] = tt
has_own_files (x ∷ inputs) = (
  or_left (x.file == x.file) (has_file (files inputs) x) (eq-eqb x.file x.file refl),
  each_as (λ table. has_file (files inputs) table ≡ true) (λ table. has_file (files (x ∷ inputs)) table ≡ true)
      (λ table has. or_right (x.file == table.file) (has_file (files inputs) table) has) inputs (has_own_files inputs),
)

pub has_file_behind : (front : List FileEntries) (inputs : List FileEntries) (table : FileEntries) → has_file (files inputs) table ≡ true → has_file (files (front ++ inputs)) table ≡ true
has_file_behind [] inputs table has = has
has_file_behind (x ∷ front) inputs table has = or_right (x.file == table.file) (has_file (files (front ++ inputs)) table) (has_file_behind front inputs table has)

pub filter_same : (p q : FileEntries → Bool) (xs : List FileEntries) → Each (λ x. p x ≡ q x) xs → filter p xs ≡ filter q xs
filter_same p q [] each = refl
filter_same p q (x ∷ xs) each = ap (λ b. cond b (x ∷ filter p xs) (filter p xs)) each.0 ∙ ap (λ rest. cond (q x) (x ∷ rest) rest) (filter_same p q xs each.1)

-- the file numbers of a part tell it, where numbers differ
pub part_is_filter : {xs ys : List FileEntries} → IsPartOf xs ys → Pairwise Differ ys → filter (has_file (files xs)) ys ≡ xs
part_is_filter ended pairs = refl
part_is_filter (skipped {x = x} {xs = xs} {ys = ys} p) pairs =
    ap (λ b. cond b (x ∷ filter (has_file (files xs)) ys) (filter (has_file (files xs)) ys))
    (lacks_file xs x (each_as (λ y. Differ x y) (λ y. Differ y x) (λ y d e. d (sym e)) xs (part_each (Differ x) p pairs.0)))
    ∙ part_is_filter p pairs.1
part_is_filter (taken {x = x} {xs = xs} {ys = ys} p) pairs =
    ap (λ b. cond b (x ∷ filter (has_file (files (x ∷ xs))) ys) (filter (has_file (files (x ∷ xs))) ys)) (or_left (x.file == x.file) (has_file (files xs) x) (eq-eqb x.file x.file refl))
    ∙ ap (λ rest. x ∷ rest) (filter_same (has_file (files (x ∷ xs))) (has_file (files xs)) ys
    (each_as (Differ x) (λ y. has_file (files (x ∷ xs)) y ≡ has_file (files xs) y) (λ y d. ap (λ b. b || has_file (files xs) y) (ne_eqb x.file y.file d)) ys pairs.0)
    ∙ part_is_filter p pairs.1)

-- ---- each of one list against each of another

pub each_swap : {X Y : Type 0} (R : X → Y → Type 0) (xs : List X) (ys : List Y) → Each (λ x. Each (R x) ys) xs → Each (λ y. Each (λ x. R x y) xs) ys
each_swap R xs [] each = tt
each_swap R xs (y ∷ ys) each = (each_as (λ x. Each (R x) (y ∷ ys)) (λ x. R x y) (λ x both. both.0) xs each, each_swap R xs ys (each_as (λ x. Each (R x) (y ∷ ys)) (λ x. Each (R x) ys) (λ x both. both.1) xs each))

-- in a list whose pairs are related, two elements are one or related either way
pub pairs_any : {X : Type 0} (R : X → X → Type 0) (xs : List X) → Pairwise R xs → Each (λ x. Each (λ y. (y ≡ x) ⊎ (R x y ⊎ R y x)) xs) xs
pairs_any R [] pairs = tt
pairs_any {X = X} R (x ∷ xs) pairs =
    ((inl refl, each_as (R x) (λ y. (y ≡ x) ⊎ (R x y ⊎ R y x)) (λ y r. inr (inl r)) xs pairs.0), more xs pairs.0 (pairs_any R xs pairs.1))
  where
    more : (ys : List X) → Each (R x) ys → Each (λ y. Each (λ z. (z ≡ y) ⊎ (R y z ⊎ R z y)) xs) ys → Each (λ y. Each (λ z. (z ≡ y) ⊎ (R y z ⊎ R z y)) (x ∷ xs)) ys
    more [] first rest = tt
    more (y ∷ ys) first rest = ((inr (inr first.0), rest.0), more ys first.1 rest.1)

-- what stands outside a middle has none of the file numbers of its part
pub outside : (front middle back : List FileEntries) (inputs : List FileEntries) → Pairwise Differ (front ++ (middle ++ back)) → IsPartOf inputs middle
    → Each (λ table. has_file (files inputs) table ≡ false) front × Each (λ table. has_file (files inputs) table ≡ false) back
outside front middle back inputs pairs part = (
  each_as (λ one. Each (Differ one) (middle ++ back)) (λ table. has_file (files inputs) table ≡ false)
      (λ table differ. lacks_file inputs table (each_as (Differ table) (λ one. Differ one table) (λ one d e. d (sym e)) inputs (part_each (Differ table) part (each_front (Differ table) middle back differ))))
      front (pairs_across Differ front (middle ++ back) pairs),
  each_as (λ table. Each (λ one. Differ one table) inputs) (λ table. has_file (files inputs) table ≡ false) (λ table differ. lacks_file inputs table differ) back
      (each_swap Differ inputs back (part_each (λ one. Each (Differ one) back) part (pairs_across Differ middle back (pairs_back Differ front (middle ++ back) pairs)))),
)

-- ---- levels

module _ {X : Type 0} where
  pub drop_level : (levels : List (List X)) (n : ℕ) → n < length levels → flat_map (λ one. one) (drop n levels) ≡ unwrap_or (slice_get levels n) [] ++ flat_map (λ one. one) (drop (suc n) levels)
  drop_level [] n lt = absurd (omega arith)
  drop_level (level ∷ levels) zero lt = refl
  drop_level (level ∷ levels) (suc n) lt = drop_level levels n (omega arith)

  pub take_level : (levels : List (List X)) (n : ℕ) → n < length levels → flat_map (λ one. one) (take (suc n) levels) ≡ flat_map (λ one. one) (take n levels) ++ unwrap_or (slice_get levels n) []
  take_level [] n lt = absurd (omega arith)
  take_level (level ∷ []) zero lt = ap (λ rest. rest) (more level)
    where
      more : (xs : List X) → xs ++ [] ≡ xs
      more [] = refl
      more (x ∷ xs) = ap (λ rest. x ∷ rest) (more xs)
  take_level (level ∷ []) (suc n) lt = absurd (omega arith)
  take_level (level ∷ next ∷ levels) zero lt = more level
    where
      more : (xs : List X) → xs ++ [] ≡ xs
      more [] = refl
      more (x ∷ xs) = ap (λ rest. x ∷ rest) (more xs)
  take_level (level ∷ next ∷ levels) (suc n) lt =
      ap (λ rest. level ++ rest) (take_level (next ∷ levels) n (omega arith)) ∙ sym (append_assoc level (flat_map (λ one. one) (take n (next ∷ levels))) (unwrap_or (slice_get (next ∷ levels) n) []))

  pub take_drop : (levels : List (List X)) (n : ℕ) → flat_map (λ one. one) levels ≡ flat_map (λ one. one) (take n levels) ++ flat_map (λ one. one) (drop n levels)
  take_drop [] zero = refl
  take_drop [] (suc n) = refl
  take_drop (level ∷ levels) zero = refl
  take_drop (level ∷ levels) (suc n) = ap (λ rest. level ++ rest) (take_drop levels n) ∙ sym (append_assoc level (flat_map (λ one. one) (take n levels)) (flat_map (λ one. one) (drop n levels)))

  pub level_of_take : (Q : X → Type 0) (levels : List (List X)) (n m : ℕ) → m < n → Each Q (flat_map (λ one. one) (take n levels)) → Each Q (unwrap_or (slice_get levels m) [])
  level_of_take Q [] n m lt each = tt
  level_of_take Q (level ∷ levels) zero m lt each = absurd (omega arith)
  level_of_take Q (level ∷ levels) (suc n) zero lt each = each_front Q level (flat_map (λ one. one) (take n levels)) each
  level_of_take Q (level ∷ levels) (suc n) (suc m) lt each = level_of_take Q levels n m (omega arith) (each_back Q level (flat_map (λ one. one) (take n levels)) each)

  pub level_of_drop : (Q : X → Type 0) (levels : List (List X)) (n m : ℕ) → n ≤ m → Each Q (flat_map (λ one. one) (drop n levels)) → Each Q (unwrap_or (slice_get levels m) [])
  level_of_drop Q [] n m le each = tt
  level_of_drop Q (level ∷ levels) zero zero le each = each_front Q level (flat_map (λ one. one) levels) each
  level_of_drop Q (level ∷ levels) zero (suc m) le each = level_of_drop Q levels zero m (omega arith) (each_back Q level (flat_map (λ one. one) levels) each)
  level_of_drop Q (level ∷ levels) (suc n) zero le each = absurd (omega arith)
  level_of_drop Q (level ∷ levels) (suc n) (suc m) le each = level_of_drop Q levels n m (omega arith) each

  pub a_level : (P : List X → Type 0) (levels : List (List X)) (n : ℕ) → P [] → Each P levels → P (unwrap_or (slice_get levels n) [])
  a_level P [] n none each = none
  a_level P (level ∷ levels) zero none each = each.0
  a_level P (level ∷ levels) (suc n) none each = a_level P levels n none each.1
