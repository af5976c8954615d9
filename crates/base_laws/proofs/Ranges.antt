-- Ranges of keys, and the range of entries in order.
use Rattle.std.proofs.Common.{◌≡◌, ℕ, ◌+◌, ◌-◌, ◌^◌, ◌≤◌, Bool, true, false, ◌&&◌, List, [], ◌∷◌, max, min, refl, sym, ap, ap₂, ◌∙◌, arith, sum_by}
use Rattle.std.specs.List.{list_any, AllByRecursion as Each}
use Rattle.std.proofs.lemmas.Bool.{and_from, and_parts}
use Rattle.st_base.specs.Bytes.{at_most, same}
use Rattle.st_base.specs.Entries.{add_charge, entry_charge}
use Rattle.st_base.specs.Order.{in_order}
use Rattle.st_base.specs.Range.{entries_charge, file_charge, has_key, is_in_range, key_at_end, key_at_front, keys_of, meet, range_of, under_number}
use Rattle.st_base.specs.declared.entry.Entry.{Entry}
use Rattle.st_base.specs.declared.entry.KeyRange.{KeyRange}
use Rattle.st_base.proofs.Same.{same_true}
use Rattle.base_laws.proofs.Keys.{at_most_itself, at_most_trans, next_key, rest_in_order}
use Rattle.base_laws.proofs.Lists.{each_any, each_both}

-- ---- ranges

pub within_from : (range : KeyRange) (key : List ℕ) → at_most range.first key ≡ true → at_most key range.last ≡ true → is_in_range range key ≡ true
within_from range key low high = and_from (at_most range.first key) (at_most key range.last) low high

pub within_parts : (range : KeyRange) (key : List ℕ) → is_in_range range key ≡ true → (at_most range.first key ≡ true) × (at_most key range.last ≡ true)
within_parts range key within = and_parts (at_most range.first key) (at_most key range.last) within

-- ranges that have one key meet
pub both_within_meet : (one other : KeyRange) (key : List ℕ) → is_in_range one key ≡ true → is_in_range other key ≡ true → meet one other ≡ true
both_within_meet one other key here there =
    let p = within_parts one key here in
    let q = within_parts other key there in
    and_from (at_most one.first other.last) (at_most other.first one.last) (at_most_trans one.first key other.last p.0 q.1) (at_most_trans other.first key one.last q.0 p.1)

and_swaps : (x y : Bool) → (x && y) ≡ (y && x)
and_swaps true true = refl
and_swaps true false = refl
and_swaps false true = refl
and_swaps false false = refl

pub meet_swaps : (one other : KeyRange) → meet one other ≡ meet other one
meet_swaps one other = and_swaps (at_most one.first other.last) (at_most other.first one.last)

-- ---- the range of entries in order

-- keys behind a first entry are at least its key
pub front_least : (key : List ℕ) (entry : Entry) (entries : List Entry) → in_order (entry ∷ entries) ≡ true → at_most key entry.key ≡ true → Each (λ other. at_most key other.key ≡ true) (entry ∷ entries)
front_least key entry [] e low = (low, tt)
front_least key entry (other ∷ entries) e low =
    (low, front_least key other entries (rest_in_order entry (other ∷ entries) e) (at_most_trans key entry.key other.key low (next_key entry other entries e)))

pub at_most_end : (entry : Entry) (entries : List Entry) → in_order (entry ∷ entries) ≡ true → at_most entry.key (key_at_end (entry ∷ entries)) ≡ true
at_most_end entry [] e = at_most_itself entry.key
at_most_end entry (other ∷ entries) e =
    at_most_trans entry.key other.key (key_at_end (other ∷ entries)) (next_key entry other entries e) (at_most_end other entries (rest_in_order entry (other ∷ entries) e))

pub end_greatest : (entries : List Entry) → in_order entries ≡ true → Each (λ other. at_most other.key (key_at_end entries) ≡ true) entries
end_greatest [] e = tt
end_greatest (entry ∷ []) e = (at_most_itself entry.key, tt)
end_greatest (entry ∷ other ∷ entries) e = (at_most_end entry (other ∷ entries) e, end_greatest (other ∷ entries) (rest_in_order entry (other ∷ entries) e))

pub range_has_keys : (entries : List Entry) → in_order entries ≡ true → Each (λ other. is_in_range (range_of entries) other.key ≡ true) entries
range_has_keys [] e = tt
range_has_keys (entry ∷ entries) e =
    let low = entry.key in
    let high = key_at_end (entry ∷ entries) in
    each_both (λ (other : Entry). at_most low other.key ≡ true) (λ (other : Entry). at_most other.key high ≡ true) (λ (other : Entry). is_in_range (range_of (entry ∷ entries)) other.key ≡ true)
    (λ other p q. and_from (at_most low other.key) (at_most other.key high) p q)
    (entry ∷ entries) (front_least low entry entries e (at_most_itself low)) (end_greatest (entry ∷ entries) e)

pub has_key_within : (range : KeyRange) (key : List ℕ) (entries : List Entry) → Each (λ other. is_in_range range other.key ≡ true) entries → has_key entries key ≡ true → is_in_range range key ≡ true
has_key_within range key entries each has =
    each_any (λ (other : Entry). is_in_range range other.key ≡ true) (is_in_range range key ≡ true) (λ (other : Entry). same other.key key) entries
    (λ other is within. ap (is_in_range range) (sym (same_true other.key key is)) ∙ within) each has

pub range_is_proper : (entries : List Entry) → in_order entries ≡ true → at_most (range_of entries).first (range_of entries).last ≡ true
range_is_proper [] e = refl
range_is_proper (entry ∷ entries) e = at_most_end entry entries e

-- ---- entries under one number

pub same_end : (number : ℕ) (entries : List Entry) → key_at_end (under_number number entries) ≡ key_at_end entries
same_end number [] = refl
same_end number (entry ∷ []) = refl
same_end number (entry ∷ other ∷ entries) = same_end number (other ∷ entries)

pub same_front : (number : ℕ) (entries : List Entry) → key_at_front (under_number number entries) ≡ key_at_front entries
same_front number [] = refl
same_front number (entry ∷ entries) = refl

pub same_range : (number : ℕ) (entries : List Entry) → range_of (under_number number entries) ≡ range_of entries
same_range number entries = ap₂ (λ (first last : List ℕ). let range : KeyRange = record { first = first; last = last } in range) (same_front number entries) (same_end number entries)

pub same_keys : (number : ℕ) (entries : List Entry) → keys_of (under_number number entries) ≡ keys_of entries
same_keys number [] = refl
same_keys number (entry ∷ entries) = ap (λ keys. entry.key ∷ keys) (same_keys number entries)

pub under_each : (P : List ℕ → Type 0) (number : ℕ) (entries : List Entry) → Each (λ entry. P entry.key) entries → Each (λ entry. P entry.key) (under_number number entries)
under_each P number [] each = tt
under_each P number (entry ∷ entries) each = (each.0, under_each P number entries each.1)

-- ---- charges

cut_sum : (a b : ℕ) → min (a + max 65536 (min (0 + b) (2 ^ 64 - 1))) (2 ^ 64 - 1) ≡ min (a + max 65536 b) (2 ^ 64 - 1)
cut_sum a b = omega arith

-- a file's charge from the one that its table keeps, which is cut at 64 bits
pub charge_of_file : (charge : ℕ) (entries : List Entry) → add_charge charge (max 65536 (entries_charge entries)) ≡ add_charge charge (file_charge entries)
charge_of_file charge entries = cut_sum charge (sum_by (λ entry. entry_charge entry.key entry.mark) entries)
