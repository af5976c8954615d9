-- What holds of each element of a list, in lists that are joined, filtered, mapped or pushed to.
use Rattle.std.proofs.Common.{◌≡◌, ℕ, zero, suc, take, drop, ◌||◌, Bool, true, false, cond, List, [], ◌∷◌, ◌++◌, map, filter, flat_map, fold, refl, sym, ap, ◌∙◌, inl, inr}
use Rattle.std.specs.List.{list_any, list_all, AllByRecursion as Each}
use Rattle.std.proofs.lemmas.Bool.{and_parts, or_cases, or_parts, false≢true}

module _ {X : Type 0} where
  pub each_all : (P : X → Type 0) → ((x : X) → P x) → (xs : List X) → Each P xs
  each_all P all [] = tt
  each_all P all (x ∷ xs) = (all x, each_all P all xs)

  pub each_as : (P Q : X → Type 0) → ((x : X) → P x → Q x) → (xs : List X) → Each P xs → Each Q xs
  each_as P Q as_well [] each = tt
  each_as P Q as_well (x ∷ xs) each = (as_well x each.0, each_as P Q as_well xs each.1)

  pub each_both : (P Q R : X → Type 0) → ((x : X) → P x → Q x → R x) → (xs : List X) → Each P xs → Each Q xs → Each R xs
  each_both P Q R both [] one other = tt
  each_both P Q R both (x ∷ xs) one other = (both x one.0 other.0, each_both P Q R both xs one.1 other.1)

  -- what a test finds of each element
  pub each_by : (test : X → Bool) (P : X → Type 0) → ((x : X) → test x ≡ true → P x) → (xs : List X) → list_all test xs ≡ true → Each P xs
  each_by test P by [] e = tt
  each_by test P by (x ∷ xs) e = let both = and_parts (test x) (list_all test xs) e in (by x both.0, each_by test P by xs both.1)

  pub each_join : (P : X → Type 0) (xs ys : List X) → Each P xs → Each P ys → Each P (xs ++ ys)
  each_join P [] ys front back = back
  each_join P (x ∷ xs) ys front back = (front.0, each_join P xs ys front.1 back)

  pub each_push : (P : X → Type 0) (xs : List X) (y : X) → Each P xs → P y → Each P (xs ++ y ∷ [])
  each_push P xs y front holds = each_join P xs (y ∷ []) front (holds, tt)

  pub each_front : (P : X → Type 0) (xs ys : List X) → Each P (xs ++ ys) → Each P xs
  each_front P [] ys each = tt
  each_front P (x ∷ xs) ys each = (each.0, each_front P xs ys each.1)

  pub each_back : (P : X → Type 0) (xs ys : List X) → Each P (xs ++ ys) → Each P ys
  each_back P [] ys each = each
  each_back P (x ∷ xs) ys each = each_back P xs ys each.1

  pub each_take : (P : X → Type 0) (n : ℕ) (xs : List X) → Each P xs → Each P (take n xs)
  each_take P zero xs each = tt
  each_take P (suc n) [] each = tt
  each_take P (suc n) (x ∷ xs) each = (each.0, each_take P n xs each.1)

  pub each_drop : (P : X → Type 0) (n : ℕ) (xs : List X) → Each P xs → Each P (drop n xs)
  each_drop P zero xs each = each
  each_drop P (suc n) [] each = tt
  each_drop P (suc n) (x ∷ xs) each = each_drop P n xs each.1

  -- what holds of those that pass, holds of each that is kept
  pub each_passing : (P : X → Type 0) (test : X → Bool) (xs : List X) → Each (λ x. test x ≡ true → P x) xs → Each P (filter test xs)
  each_passing P test [] each = tt
  each_passing P test (x ∷ xs) each = keep (test x) refl (each_passing P test xs each.1)
    where
      keep : (b : Bool) → test x ≡ b → Each P (filter test xs) → Each P (cond b (x ∷ filter test xs) (filter test xs))
      keep true e rest = (each.0 e, rest)
      keep false e rest = rest

  pub each_filter : (P : X → Type 0) (test : X → Bool) (xs : List X) → Each P xs → Each P (filter test xs)
  each_filter P test xs each = each_passing P test xs (each_as P (λ x. test x ≡ true → P x) (λ x holds passes. holds) xs each)

  -- and the other way round
  pub each_passed : (P : X → Type 0) (test : X → Bool) (xs : List X) → Each P (filter test xs) → Each (λ x. test x ≡ true → P x) xs
  each_passed P test [] each = tt
  each_passed P test (x ∷ xs) each = take_one (test x) refl (λ back. each_passed P test xs back) each
    where
      take_one : (b : Bool) → test x ≡ b → (Each P (filter test xs) → Each (λ x. test x ≡ true → P x) xs) → Each P (cond b (x ∷ filter test xs) (filter test xs)) → Each (λ x. test x ≡ true → P x) (x ∷ xs)
      take_one true e more each = ((λ passes. each.0), more each.1)
      take_one false e more each = ((λ passes. absurd (false≢true (sym e ∙ passes))), more each)

  -- one element more, between the others
  pub each_insert : (P : X → Type 0) (xs : List X) (y : X) (ys : List X) → Each P (xs ++ ys) → P y → Each P (xs ++ y ∷ ys)
  each_insert P xs y ys each holds = each_join P xs (y ∷ ys) (each_front P xs ys each) (holds, each_back P xs ys each)

  -- one element is another one
  pub each_middle : (P : X → Type 0) (xs : List X) (y z : X) (ys : List X) → Each P (xs ++ y ∷ ys) → (P y → P z) → Each P (xs ++ z ∷ ys)
  each_middle P [] y z ys each to = (to each.0, each.1)
  each_middle P (x ∷ xs) y z ys each to = (each.0, each_middle P xs y z ys each.1 to)

  -- the element between the others
  pub each_there : (P : X → Type 0) (xs : List X) (y : X) (ys : List X) → Each P (xs ++ y ∷ ys) → P y
  each_there P xs y ys each = (each_back P xs (y ∷ ys) each).0

  -- an element that a test finds
  pub each_any : (P : X → Type 0) (Q : Type 0) (test : X → Bool) (xs : List X) → ((x : X) → test x ≡ true → P x → Q) → Each P xs → list_any test xs ≡ true → Q
  each_any P Q test [] gives each e = absurd (false≢true e)
  each_any P Q test (x ∷ xs) gives each e = elim (or_cases (test x) (list_any test xs) e) [
    | inl here ↦ gives x here each.0
    | inr there ↦ each_any P Q test xs gives each.1 there
  ]

  pub any_none : (test : X → Bool) (xs : List X) → Each (λ x. test x ≡ false) xs → list_any test xs ≡ false
  any_none test [] each = refl
  any_none test (x ∷ xs) each = ap (λ b. b || list_any test xs) each.0 ∙ any_none test xs each.1

  pub none_any : (test : X → Bool) (xs : List X) → list_any test xs ≡ false → Each (λ x. test x ≡ false) xs
  none_any test [] e = tt
  none_any test (x ∷ xs) e = let p = or_parts (test x) (list_any test xs) e in (p.0, none_any test xs p.1)

  -- a test that finds an element of a list finds it in a longer one
  pub any_left : (test : X → Bool) (xs ys : List X) → list_any test xs ≡ true → list_any test (xs ++ ys) ≡ true
  any_left test [] ys e = absurd (false≢true e)
  any_left test (x ∷ xs) ys e = go (test x) e (any_left test xs ys)
    where
      go : (b : Bool) → (b || list_any test xs) ≡ true → (list_any test xs ≡ true → list_any test (xs ++ ys) ≡ true) → (b || list_any test (xs ++ ys)) ≡ true
      go true e rest = refl
      go false e rest = rest e

  pub any_right : (test : X → Bool) (xs ys : List X) → list_any test ys ≡ true → list_any test (xs ++ ys) ≡ true
  any_right test [] ys e = e
  any_right test (x ∷ xs) ys e = go (test x) (any_right test xs ys e)
    where
      go : (b : Bool) → list_any test (xs ++ ys) ≡ true → (b || list_any test (xs ++ ys)) ≡ true
      go true rest = refl
      go false rest = rest

  -- a filter that keeps nothing, or all
  pub filter_none : (test : X → Bool) (xs : List X) → Each (λ x. test x ≡ false) xs → filter test xs ≡ []
  filter_none test [] each = refl
  filter_none test (x ∷ xs) each = ap (λ b. cond b (x ∷ filter test xs) (filter test xs)) each.0 ∙ filter_none test xs each.1

  pub filter_whole : (test : X → Bool) (xs : List X) → Each (λ x. test x ≡ true) xs → filter test xs ≡ xs
  filter_whole test [] each = refl
  filter_whole test (x ∷ xs) each = ap (λ b. cond b (x ∷ filter test xs) (filter test xs)) each.0 ∙ ap (λ rest. x ∷ rest) (filter_whole test xs each.1)

  -- lists that are empty together
  pub append_none : (xs ys : List X) → xs ++ ys ≡ [] → (xs ≡ []) × (ys ≡ [])
  append_none [] ys e = (refl, e)
  append_none (x ∷ xs) ys e = absurd cc

  -- one element between two lists
  pub append_one : (xs : List X) (y : X) (ys : List X) → (xs ++ y ∷ []) ++ ys ≡ xs ++ y ∷ ys
  append_one [] y ys = refl
  append_one (x ∷ xs) y ys = ap (λ rest. x ∷ rest) (append_one xs y ys)

  -- the step of one more element
  pub fold_push : {S : Type 0} (f : S → X → S) (s : S) (xs : List X) (x : X) → fold f s (xs ++ x ∷ []) ≡ f (fold f s xs) x
  fold_push f s [] x = refl
  fold_push f s (y ∷ ys) x = fold_push f (f s y) ys x

-- what holds of each two elements of two lists
pub each_swap : {X Y : Type 0} (R : X → Y → Type 0) (xs : List X) (ys : List Y) → Each (λ x. Each (λ y. R x y) ys) xs → Each (λ y. Each (λ x. R x y) xs) ys
each_swap R xs [] each = tt
each_swap R xs (y ∷ ys) each =
    (each_as (λ x. Each (λ other. R x other) (y ∷ ys)) (λ x. R x y) (λ x h. h.0) xs each, each_swap R xs ys (each_as (λ x. Each (λ other. R x other) (y ∷ ys)) (λ x. Each (λ other. R x other) ys) (λ x h. h.1) xs each))

pub each_flat_map : {X Y : Type 0} (P : Y → Type 0) (f : X → List Y) (xs : List X) → Each (λ x. Each P (f x)) xs → Each P (flat_map f xs)
each_flat_map P f [] each = tt
each_flat_map P f (x ∷ xs) each = each_join P (f x) (flat_map f xs) each.0 (each_flat_map P f xs each.1)

pub flat_map_each : {X Y : Type 0} (P : Y → Type 0) (f : X → List Y) (xs : List X) → Each P (flat_map f xs) → Each (λ x. Each P (f x)) xs
flat_map_each P f [] each = tt
flat_map_each P f (x ∷ xs) each = (each_front P (f x) (flat_map f xs) each, flat_map_each P f xs (each_back P (f x) (flat_map f xs) each))

pub each_map : {X Y : Type 0} (P : Y → Type 0) (f : X → Y) (xs : List X) → Each (λ x. P (f x)) xs → Each P (map f xs)
each_map P f [] each = tt
each_map P f (x ∷ xs) each = (each.0, each_map P f xs each.1)

pub map_each : {X Y : Type 0} (P : Y → Type 0) (f : X → Y) (xs : List X) → Each P (map f xs) → Each (λ x. P (f x)) xs
map_each P f [] each = tt
map_each P f (x ∷ xs) each = (each.0, map_each P f xs each.1)
