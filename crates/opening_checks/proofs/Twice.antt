-- A key that stands twice in a list in entry order stands twice at neighbours.
use Rattle.std.proofs.Common.{◌≡◌, ℕ, zero, suc, ◌-◌, ◌<◌, ◌≤◌, ◌||◌, Bool, true, false, List, [], ◌∷◌, length, Some, refl, sym, ap, subst, ◌∙◌, inl, inr, arith}
use Rattle.std.specs.Prelude.{slice_get}
use Rattle.std.specs.List.{AllByRecursion as Each}
use Rattle.std.proofs.lemmas.Bool.{cases_Bool, false≢true}
use Rattle.st_base.specs.Bytes.{at_most, below, same}
use Rattle.st_base.specs.Order.{in_order}
use Rattle.st_base.specs.Range.{has_key}
use Rattle.st_base.specs.declared.entry.Entry.{Entry}
use Rattle.st_base.proofs.Same.{same_self, same_sym, same_true}
use Rattle.base_laws.proofs.Keys.{at_most_itself, below_at_most_below, below_not, next_key, not_below, rest_in_order}
use Rattle.base_laws.proofs.Lists.{any_none, each_as}
use Rattle.base_laws.proofs.Ranges.{front_least}
use Rattle.st_order.proofs.Least.{both_at_most}
use Rattle.store_image.specs.Parts.{has_twice}
use Rattle.opening_checks.specs.Repeats.{is_repeated}
use Rattle.opening_checks.proofs.Bools.{or_right}

-- what stands at two neighbours
pub repeated_is : (entries : List Entry) (j : ℕ) (one other : Entry) → slice_get entries j ≡ Some one → slice_get entries (suc j) ≡ Some other → same one.key other.key ≡ is_repeated entries (suc j)
repeated_is [] j one other e f = absurd cc
repeated_is (a ∷ []) j one other e f = absurd cc
repeated_is (a ∷ b ∷ entries) zero one other e f =
    let is : one ≡ a = cc in
    let is_other : other ≡ b = cc in
    ap (λ (x : Entry). same x.key other.key) is ∙ ap (λ (x : Entry). same a.key x.key) is_other
repeated_is (a ∷ b ∷ entries) (suc j) one other e f = repeated_is (b ∷ entries) j one other e f

pub twice_at : (entries : List Entry) (i : ℕ) → is_repeated entries i ≡ true → has_twice entries ≡ true
twice_at [] i e = absurd (false≢true e)
twice_at (a ∷ []) i e = absurd (false≢true e)
twice_at (a ∷ b ∷ entries) zero e = absurd (false≢true e)
twice_at (a ∷ b ∷ entries) (suc zero) e =
    ap (λ t. (t || has_key entries a.key) || has_twice (b ∷ entries)) (same_sym a.key b.key e)
twice_at (a ∷ b ∷ entries) (suc (suc i)) e = or_right (has_key (b ∷ entries) a.key) (has_twice (b ∷ entries)) (twice_at (b ∷ entries) (suc i) e)

pub first_not : (entries : List Entry) → is_repeated entries 0 ≡ false
first_not [] = refl
first_not (a ∷ []) = refl
first_not (a ∷ b ∷ entries) = refl

-- keys that differ, of which the first is at most the second
strictly : (a b : List ℕ) → at_most a b ≡ true → same a b ≡ false → below a b ≡ true
strictly a b le differs = elim (cases_Bool (below a b)) [
  | inl less ↦ less
  | inr not_less ↦ absurd (false≢true (sym differs ∙ ap (same a) (sym (both_at_most a b le (not_below a b not_less))) ∙ same_self a))
]

pub above_differs : (a x : List ℕ) → below a x ≡ true → same x a ≡ false
above_differs a x less = elim (cases_Bool (same x a)) [
  | inl is ↦ absurd (false≢true (sym (below_not a x less) ∙ ap (λ k. at_most k a) (same_true x a is) ∙ at_most_itself a))
  | inr not_same ↦ not_same
]

pub none_twice : (entries : List Entry) → in_order entries ≡ true → ((k : ℕ) → k < length entries → is_repeated entries k ≡ false) → has_twice entries ≡ false
none_twice [] ordered none = refl
none_twice (a ∷ []) ordered none = refl
none_twice (a ∷ b ∷ entries) ordered none =
    let rest = rest_in_order a (b ∷ entries) ordered in
    let less = strictly a.key b.key (next_key a b entries ordered) (none 1 (omega arith)) in
    let others : Each (λ (x : Entry). same x.key a.key ≡ false) (b ∷ entries) =
    each_as (λ (x : Entry). at_most b.key x.key ≡ true) (λ (x : Entry). same x.key a.key ≡ false)
    (λ x le. above_differs a.key x.key (below_at_most_below a.key b.key x.key less le))
    (b ∷ entries) (front_least b.key b entries rest (at_most_itself b.key)) in
    ap (λ t. t || has_twice (b ∷ entries)) (any_none (λ (x : Entry). same x.key a.key) (b ∷ entries) others)
    ∙ none_twice (b ∷ entries) rest behind
  where
    behind : (k : ℕ) → k < length (b ∷ entries) → is_repeated (b ∷ entries) k ≡ false
    behind zero lt = first_not (b ∷ entries)
    behind (suc k) lt = none (suc (suc k)) (omega arith)

pub repeated_at : (entries : List Entry) (i : ℕ) (one other : Entry) → 1 ≤ i → slice_get entries (i - 1) ≡ Some one → slice_get entries i ≡ Some other → same one.key other.key ≡ is_repeated entries i
repeated_at entries zero one other above e f = absurd (omega (arith, above))
repeated_at entries (suc j) one other above e f = repeated_is entries j one other (ap (slice_get entries) (let is : j ≡ suc j - 1 = omega arith in is) ∙ e) f
