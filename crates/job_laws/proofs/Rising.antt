-- The rising keys of runs are the keys put one after the other: rising lists with the same members are one.
use Rattle.std.proofs.Common.{◌≡◌, ℕ, Bool, true, false, cond, ◌||◌, List, [], ◌∷◌, ◌++◌, flat_map, Ordering, Less, Equal, Greater, refl, sym, ap, subst, ◌∙◌, inl, inr}
use Rattle.std.specs.Prelude.{fold}
use Rattle.std.specs.List.{list_any, AllByRecursion as Each}
use Rattle.std.specs.Ordering.{is_lt, is_le, is_eq}
use Rattle.std.proofs.lemmas.Bool.{false≢true, or_cases}
use Rattle.std.proofs.lemmas.Cmp.{nat_list_cmp_total, tied_itself}
use Rattle.st_base.specs.Bytes.{bytes_cmp, same, at_most, below}
use Rattle.st_base.specs.Order.{comes_before}
use Rattle.st_base.specs.Range.{keys_of}
use Rattle.st_base.specs.declared.entry.Entry.{Entry}
use Rattle.st_base.proofs.Same.{same_true, same_self, same_is_eq, same_sym}
use Rattle.base_laws.proofs.Keys.{below_at_most, below_at_most_below, not_below}
use Rattle.base_laws.proofs.Lists.{each_as}
use Rattle.st_order.specs.Columns.{Pairwise}
use Rattle.st_order.specs.Sorted.{joined, merged, put_in, sorted}
use Rattle.st_order.proofs.Columns.{Weak, sorted_weak}
use Rattle.st_order.proofs.Sorted.{NotBefore}
use Rattle.job_model.specs.Drops.{distinct, distinct_behind, rising_keys}
use Rattle.job_laws.proofs.Rightward.{put_key}

abbrev pub Rise : List (List ℕ) → Type 0
Rise keys = Pairwise (λ one other. below one other ≡ true) keys

abbrev has : List ℕ → List (List ℕ) → Bool
has key keys = list_any (λ one. same one key) keys

below_self : (a : List ℕ) → below a a ≡ false
below_self a = ap is_lt (tied_itself nat_list_cmp_total a)

chain : (a b c : List ℕ) → below a b ≡ true → below b c ≡ true → below a c ≡ true
chain a b c ab bc = below_at_most_below a b c ab (below_at_most b c bc)

strictly : (o : Ordering) → is_le o ≡ true → is_eq o ≡ false → is_lt o ≡ true
strictly Less le ne = refl
strictly Equal le ne = absurd cc
strictly Greater le ne = absurd cc

below_of : (a b : List ℕ) → at_most a b ≡ true → same a b ≡ false → below a b ≡ true
below_of a b le ne = strictly (bytes_cmp a b) le (sym (same_is_eq a b) ∙ ne)

-- a member is the first or behind it
behind : (key : List ℕ) (P : List ℕ → Type 0) (keys : List (List ℕ)) → Each P keys → has key keys ≡ true → P key
behind key P [] each e = absurd cc
behind key P (x ∷ keys) each e = elim (or_cases (same x key) (has key keys) e) [
  | inl here ↦ subst P (same_true x key here) each.0
  | inr there ↦ behind key P keys each.1 there
]

-- rising lists with the same members are one
one_list : (xs ys : List (List ℕ)) → Rise xs → Rise ys → ((key : List ℕ) → has key xs ≡ has key ys) → xs ≡ ys
one_list [] [] rx ry e = refl
one_list [] (y ∷ ys) rx ry e = absurd (false≢true (e y ∙ ap (λ b. b || has y ys) (same_self y)))
one_list (x ∷ xs) [] rx ry e = absurd (false≢true (sym (e x) ∙ ap (λ b. b || has x xs) (same_self x)))
one_list (x ∷ xs) (y ∷ ys) rx ry e =
    ap (λ head. head ∷ xs) first ∙ ap (λ rest. y ∷ rest) (one_list xs ys rx.1 ry.1 (λ key. rest key))
  where
    first : x ≡ y
    first = elim (or_cases (same y x) (has x ys) (sym (e x) ∙ ap (λ b. b || has x xs) (same_self x))) [
      | inl here ↦ sym (same_true y x here)
      | inr there ↦ elim (or_cases (same x y) (has y xs) (e y ∙ ap (λ b. b || has y ys) (same_self y))) [
        | inl here ↦ same_true x y here
        | inr other ↦ absurd (false≢true (sym (below_self x) ∙ chain x y x (behind y (λ k. below x k ≡ true) xs rx.0 other) (behind x (λ k. below y k ≡ true) ys ry.0 there)))
      ]
    ]

    not_behind : (z key : List ℕ) (zs : List (List ℕ)) → Each (λ k. below z k ≡ true) zs → same z key ≡ true → (b : Bool) → has key zs ≡ b → b ≡ false
    not_behind z key zs each is true found = absurd (false≢true (sym (below_self z) ∙ subst (λ k. below z k ≡ true) (sym (same_true z key is)) (behind key (λ k. below z k ≡ true) zs each found)))
    not_behind z key zs each is false found = refl

    rest : (key : List ℕ) → has key xs ≡ has key ys
    rest key = step (same x key) refl
      where
        step : (b : Bool) → same x key ≡ b → has key xs ≡ has key ys
        step true is = not_behind x key xs rx.0 is (has key xs) refl ∙ sym (not_behind y key ys ry.0 (subst (λ k. same k key ≡ true) first is) (has key ys) refl)
        step false is = sym (ap (λ b. b || has key xs) is) ∙ e key ∙ ap (λ b. b || has key ys) (subst (λ k. same k key ≡ false) first is)

-- ---- put one after the other

put_each : (P : List ℕ → Type 0) (keys : List (List ℕ)) (key : List ℕ) → Each P keys → P key → Each P (put_key keys key)
put_each P [] key each this = (this, tt)
put_each P (other ∷ others) key each this = split (same key other) (below key other) (put_each P others key each.1 this)
  where
    split : (b c : Bool) → Each P (put_key others key) → Each P (cond b (other ∷ others) (cond c (key ∷ other ∷ others) (other ∷ put_key others key)))
    split true c rest = each
    split false true rest = (this, each)
    split false false rest = (each.0, rest)

put_rises : (keys : List (List ℕ)) (key : List ℕ) → Rise keys → Rise (put_key keys key)
put_rises [] key rise = (tt, tt)
put_rises (other ∷ others) key rise = split (same key other) refl (below key other) refl (put_rises others key rise.1)
  where
    differ : (b : Bool) → same other key ≡ b → same key other ≡ false → b ≡ false
    differ true e f = absurd (false≢true (sym f ∙ same_sym other key e))
    differ false e f = refl

    split : (b : Bool) → same key other ≡ b → (c : Bool) → below key other ≡ c → Rise (put_key others key) → Rise (cond b (other ∷ others) (cond c (key ∷ other ∷ others) (other ∷ put_key others key)))
    split true e c f rest = rise
    split false e true f rest = ((f, each_as (λ one. below other one ≡ true) (λ one. below key one ≡ true) (λ one g. chain key other one f g) others rise.0), rise)
    split false e false f rest = (put_each (λ one. below other one ≡ true) others key rise.0 (below_of other key (not_below key other f) (differ (same other key) refl e)), rest)

or_swap : (a b c : Bool) → (a || (b || c)) ≡ (b || (a || c))
or_swap true true c = refl
or_swap true false c = refl
or_swap false true c = refl
or_swap false false c = refl

or_twice : (a b : Bool) → (a || b) ≡ (a || (a || b))
or_twice true b = refl
or_twice false b = refl

put_has : (key : List ℕ) (keys : List (List ℕ)) (one : List ℕ) → has key (put_key keys one) ≡ (same one key || has key keys)
put_has key [] one = refl
put_has key (other ∷ others) one = split (same one other) refl (below one other) (put_has key others one)
  where
    split : (b : Bool) → same one other ≡ b → (c : Bool) → has key (put_key others one) ≡ (same one key || has key others)
        → has key (cond b (other ∷ others) (cond c (one ∷ other ∷ others) (other ∷ put_key others one))) ≡ (same one key || (same other key || has key others))
    split true is c e = or_twice (same other key) (has key others) ∙ ap (λ k. same k key || (same other key || has key others)) (sym (same_true one other is))
    split false is true e = refl
    split false is false e = ap (λ b. same other key || b) e ∙ or_swap (same other key) (same one key) (has key others)

pub puts : (some keys : List (List ℕ)) → Rise some → Rise (fold put_key some keys)
puts some [] rise = rise
puts some (key ∷ keys) rise = puts (put_key some key) keys (put_rises some key rise)

puts_have : (key : List ℕ) (some keys : List (List ℕ)) → has key (fold put_key some keys) ≡ (has key some || has key keys)
puts_have key some [] = or_none (has key some)
  where
    or_none : (b : Bool) → b ≡ (b || false)
    or_none true = refl
    or_none false = refl
puts_have key some (one ∷ keys) = puts_have key (put_key some one) keys ∙ ap (λ b. b || has key keys) (put_has key some one) ∙ turned (same one key) (has key some) (has key keys)
  where
    turned : (a b c : Bool) → ((a || b) || c) ≡ (b || (a || c))
    turned true true c = refl
    turned true false c = refl
    turned false true c = refl
    turned false false c = refl

-- ---- keys of a sorted list

in_has : (key : List ℕ) (x : Entry) (ys : List Entry) → has key (keys_of (put_in x ys)) ≡ (same x.key key || has key (keys_of ys))
in_has key x [] = refl
in_has key x (y ∷ ys) = step (comes_before y x) (in_has key x ys)
  where
    step : (b : Bool) → has key (keys_of (put_in x ys)) ≡ (same x.key key || has key (keys_of ys)) → has key (keys_of (cond b (y ∷ put_in x ys) (x ∷ y ∷ ys))) ≡ (same x.key key || (same y.key key || has key (keys_of ys)))
    step true e = ap (λ b. same y.key key || b) e ∙ or_swap (same y.key key) (same x.key key) (has key (keys_of ys))
    step false e = refl

sorted_has : (key : List ℕ) (xs : List Entry) → has key (keys_of (sorted xs)) ≡ has key (keys_of xs)
sorted_has key [] = refl
sorted_has key (x ∷ xs) = in_has key x (sorted xs) ∙ ap (λ b. same x.key key || b) (sorted_has key xs)

joined_keys : (runs : List (List Entry)) → keys_of (joined runs) ≡ flat_map keys_of runs
joined_keys [] = refl
joined_keys (run ∷ runs) = Rattle.std.proofs.lemmas.List.map-append (λ (entry : Entry). entry.key) run (joined runs) ∙ ap (λ rest. keys_of run ++ rest) (joined_keys runs)

-- ---- each once

distinct_each : (P : List ℕ → Type 0) (before : List ℕ) (keys : List (List ℕ)) → Each P keys → Each P (distinct_behind before keys)
distinct_each P before [] each = tt
distinct_each P before (key ∷ keys) each = step (same before key) (distinct_each P before keys each.1) (distinct_each P key keys each.1)
  where
    step : (b : Bool) → Each P (distinct_behind before keys) → Each P (distinct_behind key keys) → Each P (cond b (distinct_behind before keys) (key ∷ distinct_behind key keys))
    step true stay next = stay
    step false stay next = (each.0, next)

abbrev Up : List (List ℕ) → Type 0
Up keys = Pairwise (λ one other. at_most one other ≡ true) keys

distinct_above : (before : List ℕ) (keys : List (List ℕ)) → Up keys → Each (λ key. at_most before key ≡ true) keys → Each (λ key. below before key ≡ true) (distinct_behind before keys)
distinct_above before [] up each = tt
distinct_above before (key ∷ keys) up each = step (same before key) refl (distinct_above before keys up.1 each.1)
  where
    step : (b : Bool) → same before key ≡ b → Each (λ one. below before one ≡ true) (distinct_behind before keys) → Each (λ one. below before one ≡ true) (cond b (distinct_behind before keys) (key ∷ distinct_behind key keys))
    step true e rest = rest
    step false e rest =
        let less = below_of before key each.0 e in
        (less, each_as (λ one. at_most key one ≡ true) (λ one. below before one ≡ true) (λ one le. below_at_most_below before key one less le) (distinct_behind key keys) (distinct_each (λ one. at_most key one ≡ true) key keys up.0))

distinct_rises : (before : List ℕ) (keys : List (List ℕ)) → Up keys → Rise (distinct_behind before keys)
distinct_rises before [] up = tt
distinct_rises before (key ∷ keys) up = step (same before key) (distinct_rises before keys up.1) (distinct_rises key keys up.1)
  where
    step : (b : Bool) → Rise (distinct_behind before keys) → Rise (distinct_behind key keys) → Rise (cond b (distinct_behind before keys) (key ∷ distinct_behind key keys))
    step true stay next = stay
    step false stay next = (distinct_above key keys up.1 up.0, next)

distinct_has : (key before : List ℕ) (keys : List (List ℕ)) → (same before key || has key (distinct_behind before keys)) ≡ (same before key || has key keys)
distinct_has key before [] = refl
distinct_has key before (one ∷ keys) = step (same before one) refl (distinct_has key before keys) (distinct_has key one keys)
  where
    step : (b : Bool) → same before one ≡ b → (same before key || has key (distinct_behind before keys)) ≡ (same before key || has key keys) → (same one key || has key (distinct_behind one keys)) ≡ (same one key || has key keys)
        → (same before key || has key (cond b (distinct_behind before keys) (one ∷ distinct_behind one keys))) ≡ (same before key || (same one key || has key keys))
    step true is stay next = stay ∙ or_twice (same before key) (has key keys) ∙ ap (λ k. same before key || (same k key || has key keys)) (same_true before one is)
    step false is stay next = ap (λ b. same before key || b) next

up_keys : (xs : List Entry) → Weak xs → Up (keys_of xs)
up_keys [] weak = tt
up_keys (x ∷ xs) weak = (first xs weak.0, up_keys xs weak.1)
  where
    not_less : (o p : Ordering) → is_lt (Rattle.std.specs.Ordering.ordering_then o p) ≡ false → is_lt o ≡ false
    not_less Less p e = e
    not_less Equal p e = refl
    not_less Greater p e = refl

    first : (ys : List Entry) → Each (NotBefore x) ys → Each (λ key. at_most x.key key ≡ true) (keys_of ys)
    first [] each = tt
    first (y ∷ ys) each = (not_below y.key x.key (not_less (bytes_cmp y.key x.key) (Rattle.std.specs.Ordering.nat_cmp x.number y.number) each.0), first ys each.1)

all_rise : (keys : List (List ℕ)) → Up keys → Rise (distinct keys)
all_rise [] up = tt
all_rise (key ∷ keys) up = (distinct_above key keys up.1 up.0, distinct_rises key keys up.1)

all_have : (key : List ℕ) (keys : List (List ℕ)) → has key (distinct keys) ≡ has key keys
all_have key [] = refl
all_have key (one ∷ keys) = distinct_has key one keys

-- the keys of these runs, put one after the other
abbrev pub keys_put : List (List Entry) → List (List ℕ)
keys_put runs = fold put_key [] (flat_map keys_of runs)

pub rising_is_put : (runs : List (List Entry)) → rising_keys runs ≡ keys_put runs
unfolding merged
rising_is_put runs =
    one_list (distinct (keys_of (sorted (joined runs)))) (keys_put runs) (all_rise (keys_of (sorted (joined runs))) (up_keys (sorted (joined runs)) (sorted_weak (joined runs)))) (puts [] (flat_map keys_of runs) tt)
    (λ key. all_have key (keys_of (sorted (joined runs))) ∙ sorted_has key (joined runs) ∙ ap (has key) (joined_keys runs) ∙ sym (puts_have key [] (flat_map keys_of runs)))

pub rising_rise : (runs : List (List Entry)) → Rise (rising_keys runs)
rising_rise runs = subst Rise (sym (rising_is_put runs)) (puts [] (flat_map keys_of runs) tt)
