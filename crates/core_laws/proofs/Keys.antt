-- The order of keys, ranges of keys, and the range of entries in order.
use Rattle.std.proofs.Common.{◌≡◌, ℕ, Bool, true, false, cond, ◌&&◌, List, [], ◌∷◌, refl, sym, subst, inl, inr}
use Rattle.std.specs.List.{AllByRecursion as Each}
use Rattle.std.proofs.lemmas.Bool.{cases_Bool}
use Rattle.st_base.specs.Bytes.{at_most, below}
use Rattle.st_base.specs.declared.entry.Entry.{Entry}
use Rattle.st_base.specs.declared.entry.KeyRange.{KeyRange}
use Rattle.st_base.specs.Range.{is_in_range, range_of}
use Rattle.base_laws.proofs.Keys.{at_most_itself, at_most_trans, below_at_most, not_below}
use Rattle.base_laws.proofs.Ranges.{within_from, within_parts}
use Rattle.core_model.specs.Pick.{joint_range}
use Rattle.job_model.specs.Pick.{join_range}

-- ---- two tests

pub and_swaps : (x y : Bool) → (x && y) ≡ (y && x)
and_swaps true true = refl
and_swaps true false = refl
and_swaps false true = refl
and_swaps false false = refl

-- ---- joint ranges

pub join_first : (one other : KeyRange) → (at_most (join_range one other).first one.first ≡ true) × (at_most (join_range one other).first other.first ≡ true)
join_first one other = elim (cases_Bool (below other.first one.first)) [
  | inl less ↦ subst (λ b. (at_most (cond b other.first one.first) one.first ≡ true) × (at_most (cond b other.first one.first) other.first ≡ true)) (sym less) (below_at_most other.first one.first less, at_most_itself other.first)
  | inr not_less ↦ subst (λ b. (at_most (cond b other.first one.first) one.first ≡ true) × (at_most (cond b other.first one.first) other.first ≡ true)) (sym not_less) (at_most_itself one.first, not_below other.first one.first not_less)
]

pub join_last : (one other : KeyRange) → (at_most one.last (join_range one other).last ≡ true) × (at_most other.last (join_range one other).last ≡ true)
join_last one other = elim (cases_Bool (below one.last other.last)) [
  | inl less ↦ subst (λ b. (at_most one.last (cond b other.last one.last) ≡ true) × (at_most other.last (cond b other.last one.last) ≡ true)) (sym less) (below_at_most one.last other.last less, at_most_itself other.last)
  | inr not_less ↦ subst (λ b. (at_most one.last (cond b other.last one.last) ≡ true) × (at_most other.last (cond b other.last one.last) ≡ true)) (sym not_less) (at_most_itself one.last, not_below one.last other.last not_less)
]

-- the range `inner` lies in `outer`, each end by itself
pub record LiesIn (outer inner : KeyRange) : Type 0 where
  pub first : at_most outer.first inner.first ≡ true
  pub last : at_most inner.last outer.last ≡ true

pub lies_trans : (outer middle inner : KeyRange) → LiesIn outer middle → LiesIn middle inner → LiesIn outer inner
lies_trans outer middle inner p q = record {
  first = at_most_trans outer.first middle.first inner.first p.first q.first;
  last = at_most_trans inner.last middle.last outer.last q.last p.last;
}

pub within_lies : (outer inner : KeyRange) (key : List ℕ) → LiesIn outer inner → is_in_range inner key ≡ true → is_in_range outer key ≡ true
within_lies outer inner key lies within =
    let p = within_parts inner key within in
    within_from outer key (at_most_trans outer.first inner.first key lies.first p.0) (at_most_trans key inner.last outer.last p.1 lies.last)

lies_more : (outer middle : KeyRange) (inputs : List (List Entry)) → LiesIn outer middle → Each (λ entries. LiesIn middle (range_of entries)) inputs → Each (λ entries. LiesIn outer (range_of entries)) inputs
lies_more outer middle [] lies each = tt
lies_more outer middle (entries ∷ inputs) lies each = (lies_trans outer middle (range_of entries) lies each.0, lies_more outer middle inputs lies each.1)

-- the joint range has the range of each input
pub joint_has_ranges : (inputs : List (List Entry)) → Each (λ entries. LiesIn (joint_range inputs) (range_of entries)) inputs
joint_has_ranges [] = tt
joint_has_ranges (entries ∷ []) = (record { first = at_most_itself (range_of entries).first; last = at_most_itself (range_of entries).last }, tt)
joint_has_ranges (entries ∷ other ∷ more) =
    let rest : KeyRange = joint_range (other ∷ more) in
    let firsts = join_first (range_of entries) rest in
    let lasts = join_last (range_of entries) rest in (
      record { first = firsts.0; last = lasts.0 },
      lies_more (join_range (range_of entries) rest) rest (other ∷ more) (record { first = firsts.1; last = lasts.1 }) (joint_has_ranges (other ∷ more)),
    )
