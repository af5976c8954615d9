-- The least key in a range, among entries in order.
use Rattle.std.proofs.Common.{◌≡◌, ℕ, zero, suc, ◌<◌, ◌⊎◌, Bool, true, false, cond, not, List, [], ◌∷◌, filter, length, get_or, Option, Some, None, Ordering, Less, Equal, Greater, refl, sym, ap, subst, ◌∙◌, inl, inr, arith}
use Rattle.std.specs.Prelude.{fold, slice_get}
use Rattle.std.specs.List.{position, position_or_len, AllByRecursion as Each}
use Rattle.std.specs.Ordering.{is_lt, is_le}
use Rattle.std.proofs.lemmas.Bool.{cases_lt, false≢true, lt-ltb}
use Rattle.std.proofs.lemmas.List.Quantifiers.{position-Some}
use Rattle.std.proofs.lemmas.List.Sums.{prefix_len_passes}
use Rattle.std.proofs.lemmas.Map.Lookups.{exact_bytes}
use Rattle.st_base.specs.Bytes.{bytes_cmp, at_most, below}
use Rattle.st_base.specs.Order.{in_order}
use Rattle.st_base.specs.Range.{is_in_range, keys_of}
use Rattle.st_base.specs.declared.entry.Entry.{Entry}
use Rattle.st_base.specs.declared.entry.KeyRange.{KeyRange}
use Rattle.base_laws.proofs.Keys.{at_most_flips, at_most_itself, at_most_trans, below_flips, not_below}
use Rattle.base_laws.proofs.Lists.{each_passing}
use Rattle.st_order.specs.Least.{lesser_key, least_within}
use Rattle.st_order.specs.Order.{first_index_in}
use Rattle.st_order.proofs.Halves.{get_there, keys_rise}

-- ---- members of lists

abbrev pub Has : {X : Type 0} → X → List X → Type 0
Has k [] = ⊥
Has k (x ∷ xs) = (x ≡ k) ⊎ Has k xs

module _ {X : Type 0} where
  pub has_filter : (test : X → Bool) (k : X) (xs : List X) → Has k xs → test k ≡ true → Has k (filter test xs)
  has_filter test k [] has passes = absurd has
  has_filter test k (x ∷ xs) has passes = step (test x) refl has (λ there. has_filter test k xs there passes)
    where
      step : (b : Bool) → test x ≡ b → Has k (x ∷ xs) → (Has k xs → Has k (filter test xs)) → Has k (cond b (x ∷ filter test xs) (filter test xs))
      step true is (inl here) rest = inl here
      step true is (inr there) rest = inr (rest there)
      step false is (inl here) rest = absurd (false≢true (sym is ∙ ap test here ∙ passes))
      step false is (inr there) rest = rest there

  pub filter_none : (test : X → Bool) (xs : List X) → Each (λ x. test x ≡ false) xs → filter test xs ≡ []
  filter_none test [] each = refl
  filter_none test (x ∷ xs) each = ap (λ b. cond b (x ∷ filter test xs) (filter test xs)) each.0 ∙ filter_none test xs each.1

-- ---- entries by their indexes

pub each_keys : (P : List ℕ → Type 0) (entries : List Entry) → ((i : ℕ) (entry : Entry) → slice_get entries i ≡ Some entry → P entry.key) → Each P (keys_of entries)
each_keys P [] h = tt
each_keys P (x ∷ entries) h = (h 0 x refl, each_keys P entries (λ i entry at. h (suc i) entry at))

pub has_keys : (entries : List Entry) (i : ℕ) (entry : Entry) → slice_get entries i ≡ Some entry → Has entry.key (keys_of entries)
has_keys [] i entry at = absurd cc
has_keys (x ∷ entries) zero entry at = inl (cc)
has_keys (x ∷ entries) (suc i) entry at = inr (has_keys entries i entry at)

-- ---- the least of keys

equal_of : (o : Ordering) → is_le o ≡ true → is_lt o ≡ false → o ≡ Equal
equal_of Less le lt = absurd cc
equal_of Equal le lt = refl
equal_of Greater le lt = absurd cc

of_not : (b : Bool) → not b ≡ true → b ≡ false
of_not true e = absurd cc
of_not false e = refl

pub both_at_most : (a b : List ℕ) → at_most a b ≡ true → at_most b a ≡ true → a ≡ b
both_at_most a b ab ba = exact_bytes a b (equal_of (bytes_cmp a b) ab (of_not (below a b) (sym (at_most_flips b a) ∙ ba)))

pub fold_keeps : (a : List ℕ) (keys : List (List ℕ)) → Each (λ key. at_most a key ≡ true) keys → fold lesser_key (Some a) keys ≡ Some a
fold_keeps a [] each = refl
fold_keeps a (x ∷ keys) each =
    ap (λ b. fold lesser_key (cond b (Some x) (Some a)) keys) (below_flips x a ∙ ap not each.0) ∙ fold_keeps a keys each.1

abbrev pub AtMostHeld : List ℕ → Option (List ℕ) → Type 0
AtMostHeld k None = Unit {0}
AtMostHeld k (Some a) = at_most k a ≡ true

pub fold_takes : (k : List ℕ) (acc : Option (List ℕ)) (keys : List (List ℕ)) → AtMostHeld k acc → Each (λ key. at_most k key ≡ true) keys → Has k keys → fold lesser_key acc keys ≡ Some k
fold_takes k acc [] le each has = absurd has
fold_takes k None (x ∷ keys) le each (inl here) = subst (λ key. fold lesser_key (Some key) keys ≡ Some k) (sym here) (fold_keeps k keys each.1)
fold_takes k None (x ∷ keys) le each (inr there) = fold_takes k (Some x) keys each.0 each.1 there
fold_takes k (Some a) (x ∷ keys) le each has = step (below x a) refl has (λ acc held there. fold_takes k acc keys held each.1 there)
  where
    step : (b : Bool) → below x a ≡ b → Has k (x ∷ keys) → ((acc : Option (List ℕ)) → AtMostHeld k acc → Has k keys → fold lesser_key acc keys ≡ Some k) → fold lesser_key (cond b (Some x) (Some a)) keys ≡ Some k
    step true is (inl here) rest = subst (λ key. fold lesser_key (Some key) keys ≡ Some k) (sym here) (fold_keeps k keys each.1)
    step true is (inr there) rest = rest (Some x) each.0 there
    step false is (inl here) rest =
        let same : k ≡ a = both_at_most k a le (subst (λ key. at_most a key ≡ true) here (not_below x a is)) in
        subst (λ key. fold lesser_key (Some key) keys ≡ Some k) same (fold_keeps k keys each.1)
    step false is (inr there) rest = rest (Some a) le there

-- ---- in one run

not-true : (b : Bool) → not b ≡ true → b ≡ false
not-true true e = absurd cc
not-true false e = refl

-- where none passes
pub position_none_at : {X : Type 0} (p : X → Bool) (xs : List X) (d : X) → position p xs ≡ None → (k : ℕ) → k < length xs → p (get_or xs k d) ≡ false
position_none_at p xs d e k lt = elim (cases_lt (position_or_len p xs) (length xs)) [
  | inl less ↦ absurd (let some : Some (position_or_len p xs) ≡ None = sym (ap (λ b. cond b (Some (position_or_len p xs)) None) (lt-ltb (position_or_len p xs) (length xs) less)) ∙ e in cc)
  | inr more ↦ not-true (p (get_or xs k d)) (prefix_len_passes (λ x. not (p x)) xs k d (omega arith))
]

module _ (range : KeyRange) (entries : List Entry) where
  abbrev inside : List (List ℕ)
  inside = filter (is_in_range range) (keys_of entries)

  pub run_none : (acc : Option (List ℕ)) → None ≡ first_index_in range entries → fold lesser_key acc inside ≡ acc
  run_none acc e = ap (λ keys. fold lesser_key acc keys) (filter_none (is_in_range range) (keys_of entries) (each_keys (λ key. is_in_range range key ≡ false) entries none))
    where
      none : (i : ℕ) (entry : Entry) → slice_get entries i ≡ Some entry → is_in_range range entry.key ≡ false
      none i entry at =
          let here = get_there entries i entry entry at in
          subst (λ (x : Entry). is_in_range range x.key ≡ false) here.1 (position_none_at (λ (x : Entry). is_in_range range x.key) entries entry (sym e) i here.0)

  module _ (ordered : in_order entries ≡ true) (index : ℕ) (entry : Entry) (is : Some index ≡ first_index_in range entries) (there : slice_get entries index ≡ Some entry) where
    has : Has entry.key inside
    has =
        let here = get_there entries index entry entry there in
        let parts = position-Some (λ (x : Entry). is_in_range range x.key) entries index entry (sym is) in
        has_filter (is_in_range range) entry.key (keys_of entries) (has_keys entries index entry there) (subst (λ (x : Entry). is_in_range range x.key ≡ true) here.1 parts.1)

    above : (i : ℕ) (other : Entry) → slice_get entries i ≡ Some other → is_in_range range other.key ≡ true → at_most entry.key other.key ≡ true
    above i other at within =
        let here = get_there entries index entry entry there in
        let here' = get_there entries i other entry at in
        let parts = position-Some (λ (x : Entry). is_in_range range x.key) entries index entry (sym is) in
        elim (cases_lt i index) [
          | inl less ↦ absurd (false≢true (sym (parts.2 i less) ∙ subst (λ (x : Entry). is_in_range range x.key ≡ true) (sym here'.1) within))
          | inr more ↦ subst (λ (x : Entry). at_most entry.key x.key ≡ true) here'.1 (subst (λ (x : Entry). at_most x.key (get_or entries i entry).key ≡ true) here.1 (keys_rise entries index i entry ordered more here'.0))
        ]

    each : (a : List ℕ) → at_most a entry.key ≡ true → Each (λ key. at_most a key ≡ true) inside
    each a le = each_passing (λ key. at_most a key ≡ true) (is_in_range range) (keys_of entries)
        (each_keys (λ key. is_in_range range key ≡ true → at_most a key ≡ true) entries (λ i other at within. at_most_trans a entry.key other.key le (above i other at within)))

    pub run_takes : (acc : Option (List ℕ)) → AtMostHeld entry.key acc → fold lesser_key acc inside ≡ Some entry.key
    run_takes acc le = fold_takes entry.key acc inside le (each entry.key (at_most_itself entry.key)) has
