-- Which families pass a test, once the families are changed by an edit.
use Rattle.std.proofs.Common.{◌≡◌, ℕ, Bool, true, false, cond, not, ◌&&◌, ◌||◌, ◌==◌, List, [], ◌∷◌, map, filter, Option, Some, None, Ordering, Less, Equal, Greater, is_some, is_eq, nat_lt, nat_eq, arith, refl, sym, ap, subst, ◌∙◌, true≢false}
use Rattle.std.specs.List.{list_any, flat_map}
use Rattle.std.specs.Ordering.{match_ordering}
use Rattle.std.proofs.lemmas.List.Folds.{list_any-append}
use Rattle.std.proofs.lemmas.Bool.{eqb-true}
use Rattle.st_base.specs.Bytes.{bytes_cmp, same}
use Rattle.st_base.specs.Map.{set_at, value_at}
use Rattle.st_base.proofs.Same.{same_is_eq, same_true, same_self, same_sym}
use Rattle.manifest_edits.specs.Edits.{NamedFamily, Placement, changed_named, has_id, is_file, put_number}

abbrev pub Named_ : Type 0
Named_ = List ℕ × NamedFamily

-- ---- tests

pub or_none : (a b : Bool) → a ≡ false → b ≡ false → (a || b) ≡ false
or_none true b none rest = absurd (true≢false none)
or_none false b none rest = rest

pub first_none : (a b : Bool) → (a || b) ≡ false → a ≡ false
first_none true b none = absurd (true≢false none)
first_none false b none = refl

pub rest_none : (a b : Bool) → (a || b) ≡ false → b ≡ false
rest_none true b none = absurd (true≢false none)
rest_none false b none = none

pub or_swap : (a b c : Bool) → (a || (b || c)) ≡ (b || (a || c))
or_swap true true c = refl
or_swap true false c = refl
or_swap false true c = refl
or_swap false false c = refl

pub and_false : (a : Bool) → (a && false) ≡ false
and_false true = refl
and_false false = refl

pub both_true : (a b : Bool) → a ≡ true → b ≡ true → (a && b) ≡ true
both_true true b one two = two
both_true false b one two = absurd (true≢false (sym one))

pub one_of : (a b : Bool) → (a && b) ≡ true → a ≡ true
one_of true b is = refl
one_of false b is = is

pub two_of : (a b : Bool) → (a && b) ≡ true → b ≡ true
two_of true b is = is
two_of false b is = absurd (true≢false (sym is))

pub nat_self : (n : ℕ) → (n == n) ≡ true
nat_self n = grind arith

pub bool_case : (a b : Bool) → (a ≡ true → b ≡ true) → (b ≡ true → a ≡ true) → a ≡ b
bool_case true true there back = refl
bool_case true false there back = sym (there refl)
bool_case false true there back = back refl
bool_case false false there back = refl

pub same_turned : (a b : List ℕ) → same a b ≡ same b a
same_turned a b = bool_case (same a b) (same b a) (same_sym a b) (same_sym b a)

-- numbers that differ don't both equal a third
pub not_both : (x i j : ℕ) → (x == i) ≡ true → (i == j) ≡ false → (x == j) ≡ false
not_both x i j is differ = ap (λ n. n == j) (eqb-true x i is) ∙ differ

module _ {X : Type 0} where
  -- a test that is the same of each element once it is changed
  pub any_as : (q p : X → Bool) (g : X → X) → ((x : X) → q (g x) ≡ p x) → (xs : List X) → list_any q (map g xs) ≡ list_any p xs
  any_as q p g same [] = refl
  any_as q p g same (x ∷ xs) = ap (λ b. b || list_any q (map g xs)) (same x) ∙ ap (λ b. p x || b) (any_as q p g same xs)

  pub any_none : (q : X → Bool) → ((x : X) → q x ≡ false) → (xs : List X) → list_any q xs ≡ false
  any_none q none [] = refl
  any_none q none (x ∷ xs) = ap (λ b. b || list_any q xs) (none x) ∙ any_none q none xs

  pub any_alike : (q p : X → Bool) → ((x : X) → q x ≡ p x) → (xs : List X) → list_any q xs ≡ list_any p xs
  any_alike q p same [] = refl
  any_alike q p same (x ∷ xs) = ap (λ b. b || list_any q xs) (same x) ∙ ap (λ b. p x || b) (any_alike q p same xs)

  -- those that a filter drops pass the test nowhere
  pub any_kept : (q drops : X → Bool) → ((x : X) → drops x ≡ true → q x ≡ false) → (xs : List X) → list_any q (filter (λ x. not (drops x)) xs) ≡ list_any q xs
  any_kept q drops none [] = refl
  any_kept q drops none (x ∷ xs) = step (drops x) refl (any_kept q drops none xs)
    where
      step : (b : Bool) → drops x ≡ b → list_any q (filter (λ x. not (drops x)) xs) ≡ list_any q xs → list_any q (cond (not b) (x ∷ filter (λ x. not (drops x)) xs) (filter (λ x. not (drops x)) xs)) ≡ list_any q (x ∷ xs)
      step true is rest = rest ∙ ap (λ b. b || list_any q xs) (sym (none x is))
      step false is rest = ap (λ b. q x || b) rest

  -- those that a filter keeps pass the test nowhere
  pub any_gone : (q drops : X → Bool) → ((x : X) → drops x ≡ false → q x ≡ false) → (xs : List X) → list_any q (filter (λ x. not (drops x)) xs) ≡ false
  any_gone q drops none [] = refl
  any_gone q drops none (x ∷ xs) = step (drops x) refl (any_gone q drops none xs)
    where
      step : (b : Bool) → drops x ≡ b → list_any q (filter (λ x. not (drops x)) xs) ≡ false → list_any q (cond (not b) (x ∷ filter (λ x. not (drops x)) xs) (filter (λ x. not (drops x)) xs)) ≡ false
      step true is rest = rest
      step false is rest = ap (λ b. b || list_any q (filter (λ x. not (drops x)) xs)) (none x is) ∙ rest

  -- a test with one of ids, and without
  module _ (id : X → ℕ) (r : X → Bool) where
    pub any_of_id : (i : ℕ) (xs : List X) → list_any (λ x. (id x == i) && r x) xs ≡ true → list_any r xs ≡ true
    any_of_id i (x ∷ xs) is = step (id x == i) (r x) (list_any (λ x. (id x == i) && r x) xs) is (any_of_id i xs)
      where
        step : (a b c : Bool) → ((a && b) || c) ≡ true → (c ≡ true → list_any r xs ≡ true) → (b || list_any r xs) ≡ true
        step a true c is more = refl
        step true false c is more = more is
        step false false c is more = more is
    any_of_id i [] is = absurd (true≢false (sym is))

    pub any_without : (xs : List X) → ((i : ℕ) → list_any (λ x. (id x == i) && r x) xs ≡ false) → list_any r xs ≡ false
    any_without [] none = refl
    any_without (x ∷ xs) none = or_none (r x) (list_any r xs)
        (ap (λ b. b && r x) (sym (nat_self (id x))) ∙ first_none ((id x == id x) && r x) (list_any (λ y. (id y == id x) && r y) xs) (none (id x)))
        (any_without xs (λ i. rest_none ((id x == i) && r x) (list_any (λ y. (id y == i) && r y) xs) (none i)))

-- ---- families

-- a family more, under a name that none had
pub any_set : (q : Named_ → Bool) (families : List Named_) (name : List ℕ) (family : NamedFamily) → is_some (value_at families name) ≡ false
    → list_any q (set_at families name family) ≡ (q (name, family) || list_any q families)
any_set q [] name family none = refl
any_set q (here ∷ families) name family none = step (bytes_cmp name here.0) refl (any_set q families name family)
  where
    step : (r : Ordering) → bytes_cmp name here.0 ≡ r
        → (is_some (value_at families name) ≡ false → list_any q (set_at families name family) ≡ (q (name, family) || list_any q families))
        → list_any q (match_ordering r ((name, family) ∷ here ∷ families) ((here.0, family) ∷ families) (here ∷ set_at families name family))
        ≡ (q (name, family) || list_any q (here ∷ families))
    step Less is rest = refl
    step Equal is rest = absurd (true≢false (ap (λ b. is_some (cond b (Some here.1) (value_at families name))) (sym (ap is_eq is)) ∙ none))
    step Greater is rest =
        ap (λ b. q here || b) (rest (ap (λ b. is_some (cond b (Some here.1) (value_at families name))) (sym (ap is_eq is)) ∙ none))
        ∙ or_swap (q here) (q (name, family)) (list_any q families)

-- whether there is a family of this name
pub some_named : (families : List Named_) (name : List ℕ) → is_some (value_at families name) ≡ list_any (λ family. same family.0 name) families
some_named [] name = refl
some_named (here ∷ families) name =
    ap (λ b. is_some (cond b (Some here.1) (value_at families name))) (sym (same_is_eq name here.0) ∙ same_turned name here.0)
    ∙ step (same here.0 name) (some_named families name)
  where
    step : (b : Bool) → is_some (value_at families name) ≡ list_any (λ family. same family.0 name) families → is_some (cond b (Some here.1) (value_at families name)) ≡ (b || list_any (λ family. same family.0 name) families)
    step true rest = refl
    step false rest = rest

-- whether there is a table of this file
pub some_table : (file : ℕ) (families : List Named_) → list_any (is_file file) (flat_map (λ family. family.1.tables) families)
    ≡ list_any (λ family. list_any (is_file file) family.1.tables) families
some_table file [] = refl
some_table file (here ∷ families) = list_any-append (is_file file) here.1.tables (flat_map (λ family. family.1.tables) families)
    ∙ ap (λ b. list_any (is_file file) here.1.tables || b) (some_table file families)

-- ---- logs

pub any_put : (file n : ℕ) (logs : List ℕ) → list_any (λ log. log == file) (put_number n logs) ≡ ((n == file) || list_any (λ log. log == file) logs)
any_put file n [] = refl
any_put file n (m ∷ logs) = step (nat_lt n m) (any_put file n logs)
  where
    step : (b : Bool) → list_any (λ log. log == file) (put_number n logs) ≡ ((n == file) || list_any (λ log. log == file) logs) → list_any (λ log. log == file) (cond b (n ∷ m ∷ logs) (m ∷ put_number n logs)) ≡ ((n == file) || list_any (λ log. log == file) (m ∷ logs))
    step true rest = refl
    step false rest = ap (λ b. (m == file) || b) rest ∙ or_swap (m == file) (n == file) (list_any (λ log. log == file) logs)
