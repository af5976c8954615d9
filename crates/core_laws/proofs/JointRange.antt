-- Ranges that don't meet, and the joint range of runs in order.
use Rattle.std.proofs.Common.{◌≡◌, ℕ, ◌≤◌, Bool, true, false, cond, List, [], ◌∷◌, ◌++◌, length, refl, sym, ◌∙◌, inl, inr, arith}
use Rattle.std.specs.List.{AllByRecursion as Each}
use Rattle.std.proofs.lemmas.Bool.{cases_Bool, and_parts, and_from}
use Rattle.st_base.specs.Bytes.{below, at_most}
use Rattle.st_base.specs.Order.{comes_before, rises_behind, in_order}
use Rattle.st_base.specs.declared.entry.Entry.{Entry}
use Rattle.st_base.specs.declared.entry.KeyRange.{KeyRange}
use Rattle.st_base.specs.Range.{is_in_range, meet, range_of, key_at_front, key_at_end}
use Rattle.base_laws.proofs.Keys.{at_most_itself, at_most_trans, below_at_most, comes_before_key, not_below}
use Rattle.base_laws.proofs.Lists.{each_as}
use Rattle.base_laws.proofs.Ranges.{both_within_meet, range_has_keys}
use Rattle.core_model.specs.Pick.{joint_range}
use Rattle.job_model.specs.Pick.{join_range}

-- ---- ranges

pub apart_at : (one other : KeyRange) (key : List ℕ) → meet one other ≡ false → is_in_range one key ≡ true → is_in_range other key ≡ true → ⊥
apart_at one other key e h g = let w : true ≡ false = sym (both_within_meet one other key h g) ∙ e in cc

-- what a range doesn't meet, a range in it doesn't
pub meet_less : (big small other : KeyRange) → is_in_range big small.first ≡ true → is_in_range big small.last ≡ true → meet big other ≡ false → meet small other ≡ false
meet_less big small other h g e = elim (cases_Bool (meet small other)) [
  | inl meets ↦
      let m = and_parts (at_most small.first other.last) (at_most other.first small.last) meets in
      let p = and_parts (at_most big.first small.first) (at_most small.first big.last) h in
      let q = and_parts (at_most big.first small.last) (at_most small.last big.last) g in
      let w : meet big other ≡ true =
      and_from (at_most big.first other.last) (at_most other.first big.last) (at_most_trans big.first small.first other.last p.0 m.0) (at_most_trans other.first small.last big.last m.1 q.1) in
      let v : true ≡ false = sym w ∙ e in absurd cc
  | inr apart ↦ apart
]

-- ---- entries in order

pub front_end : (entry : Entry) (entries : List Entry) → rises_behind comes_before entry entries ≡ true → at_most entry.key (key_at_end (entry ∷ entries)) ≡ true
front_end entry [] h = at_most_itself entry.key
front_end entry (other ∷ entries) h =
    let p = and_parts (comes_before entry other) (rises_behind comes_before other entries) h in
    at_most_trans entry.key other.key (key_at_end (other ∷ entries)) (comes_before_key entry other p.0) (front_end other entries p.1)

-- what holds of the keys of all entries holds of the ends
pub front_holds : (P : List ℕ → Type 0) (entries : List Entry) → 1 ≤ length entries → Each (λ (e : Entry). P e.key) entries → P (key_at_front entries)
front_holds P [] some each = absurd (omega arith)
front_holds P (entry ∷ entries) some each = each.0

pub end_holds : (P : List ℕ → Type 0) (entries : List Entry) → 1 ≤ length entries → Each (λ (e : Entry). P e.key) entries → P (key_at_end entries)
end_holds P [] some each = absurd (omega arith)
end_holds P (entry ∷ []) some each = each.0
end_holds P (entry ∷ other ∷ entries) some each = end_holds P (other ∷ entries) (omega arith) each.1

pub front_le_end : (entries : List Entry) → 1 ≤ length entries → in_order entries ≡ true → at_most (key_at_front entries) (key_at_end entries) ≡ true
front_le_end [] some h = absurd (omega arith)
front_le_end (entry ∷ entries) some h = front_end entry entries h

-- ---- parts of a list in order

behind_rest : (entry : Entry) (entries : List Entry) → rises_behind comes_before entry entries ≡ true → in_order entries ≡ true
behind_rest entry [] h = refl
behind_rest entry (other ∷ entries) h = (and_parts (comes_before entry other) (rises_behind comes_before other entries) h).1

behind_part : (entry : Entry) (one other : List Entry) → rises_behind comes_before entry (one ++ other) ≡ true → rises_behind comes_before entry one ≡ true
behind_part entry [] other h = refl
behind_part entry (e ∷ one) other h =
    let p = and_parts (comes_before entry e) (rises_behind comes_before e (one ++ other)) h in
    and_from (comes_before entry e) (rises_behind comes_before e one) p.0 (behind_part e one other p.1)

pub order_front : (one other : List Entry) → in_order (one ++ other) ≡ true → in_order one ≡ true
order_front [] other h = refl
order_front (entry ∷ one) other h = behind_part entry one other h

pub order_back : (one other : List Entry) → in_order (one ++ other) ≡ true → in_order other ≡ true
order_back [] other h = h
order_back (entry ∷ one) other h = order_back one other (behind_rest entry (one ++ other) h)

-- ---- joint ranges

abbrev pub Has : KeyRange → List Entry → Type 0
Has range entries = Each (λ (e : Entry). is_in_range range e.key ≡ true) entries

abbrev lesser : List ℕ → List ℕ → List ℕ
lesser a b = cond (below b a) b a

abbrev greater : List ℕ → List ℕ → List ℕ
greater a b = cond (below a b) b a

lesser_left : (a b : List ℕ) → at_most (lesser a b) a ≡ true
lesser_left a b = go (below b a) refl
  where
    go : (t : Bool) → below b a ≡ t → at_most (cond t b a) a ≡ true
    go true e = below_at_most b a e
    go false e = at_most_itself a

lesser_right : (a b : List ℕ) → at_most (lesser a b) b ≡ true
lesser_right a b = go (below b a) refl
  where
    go : (t : Bool) → below b a ≡ t → at_most (cond t b a) b ≡ true
    go true e = at_most_itself b
    go false e = not_below b a e

greater_left : (a b : List ℕ) → at_most a (greater a b) ≡ true
greater_left a b = go (below a b) refl
  where
    go : (t : Bool) → below a b ≡ t → at_most a (cond t b a) ≡ true
    go true e = below_at_most a b e
    go false e = at_most_itself a

greater_right : (a b : List ℕ) → at_most b (greater a b) ≡ true
greater_right a b = go (below a b) refl
  where
    go : (t : Bool) → below a b ≡ t → at_most b (cond t b a) ≡ true
    go true e = at_most_itself b
    go false e = not_below a b e

join_left : (one other : KeyRange) (entries : List Entry) → Has one entries → Has (join_range one other) entries
join_left one other entries each = each_as (λ (e : Entry). is_in_range one e.key ≡ true) (λ (e : Entry). is_in_range (join_range one other) e.key ≡ true)
    (λ e h. let p = and_parts (at_most one.first e.key) (at_most e.key one.last) h in
    and_from (at_most (lesser one.first other.first) e.key) (at_most e.key (greater one.last other.last)) (at_most_trans (lesser one.first other.first) one.first e.key (lesser_left one.first other.first) p.0) (at_most_trans e.key one.last (greater one.last other.last) p.1 (greater_left one.last other.last))) entries each

join_right : (one other : KeyRange) (entries : List Entry) → Has other entries → Has (join_range one other) entries
join_right one other entries each = each_as (λ (e : Entry). is_in_range other e.key ≡ true) (λ (e : Entry). is_in_range (join_range one other) e.key ≡ true)
    (λ e h. let p = and_parts (at_most other.first e.key) (at_most e.key other.last) h in
    and_from (at_most (lesser one.first other.first) e.key) (at_most e.key (greater one.last other.last)) (at_most_trans (lesser one.first other.first) other.first e.key (lesser_right one.first other.first) p.0) (at_most_trans e.key other.last (greater one.last other.last) p.1 (greater_right one.last other.last))) entries each

-- the joint range of runs in order has their keys
pub joint_has : (runs : List (List Entry)) → Each (λ run. in_order run ≡ true) runs → Each (Has (joint_range runs)) runs
joint_has [] each = tt
joint_has (run ∷ []) each = (range_has_keys run each.0, tt)
joint_has (run ∷ other ∷ runs) each = (
  join_left (range_of run) (joint_range (other ∷ runs)) run (range_has_keys run each.0),
  each_as (Has (joint_range (other ∷ runs))) (Has (joint_range (run ∷ other ∷ runs))) (λ entries has. join_right (range_of run) (joint_range (other ∷ runs)) entries has) (other ∷ runs) (joint_has (other ∷ runs) each.1),
)
