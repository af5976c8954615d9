-- The order of keys, and of entries by their keys.
use Rattle.std.proofs.Common.{◌≡◌, ℕ, Bool, true, false, not, ◌&&◌, List, [], ◌∷◌, Ordering, Less, Equal, Greater, is_eq, refl, sym, ap, ◌∙◌, inl, inr}
use Rattle.std.specs.Cmp.{both_ways}
use Rattle.std.specs.Ordering.{nat_cmp, ordering_then, is_lt, is_le, is_gt, ordering_reverse}
use Rattle.std.proofs.lemmas.Bool.{cases_Bool, and_parts, false≢true}
use Rattle.std.proofs.lemmas.Cmp.{nat_list_cmp_total, upto, tied_itself}
use Rattle.std.proofs.lemmas.Map.Lookups.{exact_bytes}
use Rattle.st_base.specs.Bytes.{bytes_cmp, at_most, below, same}
use Rattle.st_base.specs.Order.{comes_before, rises_behind, in_order}
use Rattle.st_base.specs.Range.{keys_rise}
use Rattle.st_base.specs.declared.entry.Entry.{Entry}
use Rattle.st_base.proofs.Same.{same_is_eq, same_sym}

-- ---- two keys

le_not_gt : (o : Ordering) → is_gt o ≡ not (is_le o)
le_not_gt Less = refl
le_not_gt Equal = refl
le_not_gt Greater = refl

le_reverse : (o : Ordering) → is_le (ordering_reverse o) ≡ not (is_lt o)
le_reverse Less = refl
le_reverse Equal = refl
le_reverse Greater = refl

of_not : (b : Bool) → not b ≡ false → b ≡ true
of_not true e = refl
of_not false e = absurd cc

not_twice : (b : Bool) → not (not b) ≡ b
not_twice true = refl
not_twice false = refl

pub less_of : (o : Ordering) → is_lt o ≡ true → o ≡ Less
less_of Less e = refl
less_of Equal e = absurd cc
less_of Greater e = absurd cc

equal_of : (o : Ordering) → is_eq o ≡ true → o ≡ Equal
equal_of Less e = absurd cc
equal_of Equal e = refl
equal_of Greater e = absurd cc

-- keys that the order calls equal are one key
pub at_key : (a b : List ℕ) → is_eq (bytes_cmp a b) ≡ true → a ≡ b
at_key a b e = exact_bytes a b (equal_of (bytes_cmp a b) e)

pub at_itself : (a : List ℕ) → is_eq (bytes_cmp a a) ≡ true
at_itself a = ap is_eq (tied_itself nat_list_cmp_total a)

pub at_is : (q k : List ℕ) → is_eq (bytes_cmp q k) ≡ same k q
at_is q k = sym (same_is_eq q k) ∙ both_ways (same q k) (same k q) (same_sym q k) (same_sym k q)

pub at_most_flips : (a b : List ℕ) → at_most a b ≡ not (below b a)
at_most_flips a b = ap is_le (nat_list_cmp_total.antisymm a b) ∙ le_reverse (bytes_cmp b a)

pub at_most_trans : (a b c : List ℕ) → at_most a b ≡ true → at_most b c ≡ true → at_most a c ≡ true
at_most_trans a b c ab bc =
    of_not (at_most a c) (sym (le_not_gt (bytes_cmp a c))
    ∙ upto nat_list_cmp_total a b c (le_not_gt (bytes_cmp a b) ∙ ap not ab) (le_not_gt (bytes_cmp b c) ∙ ap not bc))

pub at_most_itself : (a : List ℕ) → at_most a a ≡ true
at_most_itself a = ap is_le (tied_itself nat_list_cmp_total a)

pub below_flips : (a b : List ℕ) → below a b ≡ not (at_most b a)
below_flips a b = sym (not_twice (below a b)) ∙ ap not (sym (at_most_flips b a))

pub not_at_most : (a b : List ℕ) → at_most a b ≡ false → below b a ≡ true
not_at_most a b e = below_flips b a ∙ ap not e

pub not_below : (a b : List ℕ) → below a b ≡ false → at_most b a ≡ true
not_below a b e = at_most_flips b a ∙ ap not e

pub below_not : (a b : List ℕ) → below a b ≡ true → at_most b a ≡ false
below_not a b e = at_most_flips b a ∙ ap not e

lt_le : (o : Ordering) → is_lt o ≡ true → is_le o ≡ true
lt_le Less e = refl
lt_le Equal e = refl
lt_le Greater e = e

pub below_at_most : (a b : List ℕ) → below a b ≡ true → at_most a b ≡ true
below_at_most a b e = lt_le (bytes_cmp a b) e

-- one step that is strict makes the chain strict
pub at_most_below : (a b c : List ℕ) → at_most a b ≡ true → below b c ≡ true → below a c ≡ true
at_most_below a b c ab bc = elim (cases_Bool (below a c)) [
  | inl less ↦ less
  | inr not_less ↦ absurd (false≢true (sym (below_not b c bc) ∙ at_most_trans c a b (not_below a c not_less) ab))
]

pub below_at_most_below : (a b c : List ℕ) → below a b ≡ true → at_most b c ≡ true → below a c ≡ true
below_at_most_below a b c ab bc = elim (cases_Bool (below a c)) [
  | inl less ↦ less
  | inr not_less ↦ absurd (false≢true (sym (below_not a b ab) ∙ at_most_trans b c a bc (not_below a c not_less)))
]

pub below_trans : (a b c : List ℕ) → below a b ≡ true → below b c ≡ true → below a c ≡ true
below_trans a b c ab bc = below_at_most_below a b c ab (below_at_most b c bc)

-- ---- entries in order

le_of_place : (o p : Ordering) → is_lt (ordering_then o p) ≡ true → is_le o ≡ true
le_of_place Less p e = refl
le_of_place Equal p e = refl
le_of_place Greater p e = e

pub comes_before_key : (one other : Entry) → comes_before one other ≡ true → at_most one.key other.key ≡ true
comes_before_key one other e = le_of_place (bytes_cmp one.key other.key) (nat_cmp other.number one.number) e

place_of_key : (o p : Ordering) → is_lt o ≡ true → is_lt (ordering_then o p) ≡ true
place_of_key Less p e = refl
place_of_key Equal p e = absurd cc
place_of_key Greater p e = absurd cc

pub key_comes_before : (one other : Entry) → below one.key other.key ≡ true → comes_before one other ≡ true
key_comes_before one other e = place_of_key (bytes_cmp one.key other.key) (nat_cmp other.number one.number) e

pub rest_in_order : (entry : Entry) (entries : List Entry) → in_order (entry ∷ entries) ≡ true → in_order entries ≡ true
rest_in_order entry [] e = refl
rest_in_order entry (other ∷ entries) e = (and_parts (comes_before entry other) (rises_behind comes_before other entries) e).1

pub next_key : (entry other : Entry) (entries : List Entry) → in_order (entry ∷ other ∷ entries) ≡ true → at_most entry.key other.key ≡ true
next_key entry other entries e = comes_before_key entry other (and_parts (comes_before entry other) (rises_behind comes_before other entries) e).0

-- entries whose keys rise are in order
pub rise_in_order : (entries : List Entry) → keys_rise entries ≡ true → in_order entries ≡ true
rise_in_order [] e = refl
rise_in_order (entry ∷ entries) e = behind entry entries e
  where
    both_true : (a b : Bool) → a ≡ true → b ≡ true → (a && b) ≡ true
    both_true true true e f = refl
    both_true true false e f = f
    both_true false b e f = e

    behind : (first : Entry) (rest : List Entry) → rises_behind (λ one other. below one.key other.key) first rest ≡ true → rises_behind comes_before first rest ≡ true
    behind first [] e = refl
    behind first (other ∷ rest) e =
        let both = and_parts (below first.key other.key) (rises_behind (λ one two. below one.key two.key) other rest) e in
        both_true (comes_before first other) (rises_behind comes_before other rest) (key_comes_before first other both.0) (behind other rest both.1)
