-- A walk by keys: what was passed, and what is left of each part.
use Rattle.std.proofs.Common.{◌≡◌, ℕ, zero, suc, ◌+◌, ◌<◌, ◌≤◌, ◌≢◌, ◌&&◌, ◌||◌, Bool, true, false, cond, not, min, List, [], ◌∷◌, ◌++◌, length, get_or, drop, set, map, filter, Option, Some, None, Ordering, Less, Equal, Greater, refl, sym, ap, subst, ◌∙◌, inl, inr, arith, append_assoc, sum_by}
use Rattle.std.specs.Prelude.{nat_le, nat_lt, ◌==◌}
use Rattle.std.specs.Ordering.{nat_cmp, ordering_then, is_lt}
use Rattle.std.specs.List.{list_all, AllByRecursion as Each}
use Rattle.std.proofs.lemmas.Bool.{and_from, and_parts, cases_Bool, cases_lt, cases_eq, false≢true, eqb-false, eqb-true, eq-eqb, le-ltb, le-leb, lt-ltb, lt-leb, ltb-false, ltb-true, ne_eqb}
use Rattle.std.proofs.lemmas.List.{map-append}
use Rattle.st_base.specs.Bytes.{at_most, below, bytes_cmp, same}
use Rattle.st_base.specs.Order.{in_order}
use Rattle.st_base.specs.declared.entry.Entry.{Entry}
use Rattle.st_base.proofs.Same.{same_self, same_sym, same_true}
use Rattle.base_laws.proofs.Keys.{at_most_itself, at_most_trans, below_at_most_below, below_not, not_below, rest_in_order}
use Rattle.base_laws.proofs.Lists.{each_as, each_both, each_push}
use Rattle.base_laws.proofs.Ranges.{front_least}
use Rattle.st_order.proofs.Least.{Has, both_at_most}
use Rattle.store_image.specs.Opens.{least_file, may_follow}
use Rattle.opening_checks.specs.Least.{lesser_of}
use Rattle.opening_checks.specs.Walk.{Seated, at_key, blamed, entries_at, file_list, follows, is_right, lower_of, seat, to_blame, seats_from}
use Rattle.opening_checks.proofs.Blame.{at_join, blame_join, has_left, has_right}
use Rattle.opening_checks.proofs.Bools.{or_right}
use Rattle.opening_checks.proofs.Lesser.{least_join}

-- ---- the first entry that is left of a part goes on

not_at : (key : List ℕ) (part : ℕ) (run : List Entry) → Each (λ x. same x.key key ≡ false) run → at_key key (map (seat part) run) ≡ []
not_at key part [] each = refl
not_at key part (x ∷ run) each =
    ap (λ b. cond b (seat part x ∷ at_key key (map (seat part) run)) (at_key key (map (seat part) run))) each.0 ∙ not_at key part run each.1

-- the entry stands in front of all others of its key, where no earlier part has one
pub taken_first : (n part : ℕ) (left : List (List Entry)) (entry : Entry) (tail : List Entry) (seated : ℕ) → seated ≡ n + part → part < length left → get_or left part [] ≡ entry ∷ tail
    → ((q : ℕ) → q < part → Each (λ x. same x.key entry.key ≡ false) (get_or left q []))
    → (key : List ℕ) → at_key key (seats_from n left) ≡ at_key key (seat seated entry ∷ []) ++ at_key key (seats_from n (set left part tail))
taken_first n part [] entry tail seated is lt head none key = absurd (omega arith)
taken_first n zero (run ∷ left) entry tail seated is lt head none key =
    ap (λ some. at_key key (map (seat n) some ++ seats_from (suc n) left)) head
    ∙ step (same entry.key key)
  where
    step : (b : Bool) → cond b (seat n entry ∷ at_key key (map (seat n) tail ++ seats_from (suc n) left)) (at_key key (map (seat n) tail ++ seats_from (suc n) left))
        ≡ cond b (seat seated entry ∷ []) [] ++ at_key key (map (seat n) tail ++ seats_from (suc n) left)
    step true = ap (λ k. seat k entry ∷ at_key key (map (seat n) tail ++ seats_from (suc n) left)) (let e : n ≡ seated = omega (arith, is) in e)
    step false = refl
taken_first n (suc part) (run ∷ left) entry tail seated is lt head none key =
    at_join key (map (seat n) run) (seats_from (suc n) left)
    ∙ ap (λ some. at_key key (map (seat n) run) ++ some) (taken_first (suc n) part left entry tail seated (omega (arith, is)) (omega arith) head (λ q less. none (suc q) (omega arith)) key)
    ∙ step (at_key key (seats_from (suc n) (set left part tail))) (same entry.key key) refl
    ∙ ap (λ some. at_key key (seat seated entry ∷ []) ++ some) (sym (at_join key (map (seat n) run) (seats_from (suc n) (set left part tail))))
  where
    step : (rest : List Seated) (b : Bool) → same entry.key key ≡ b
        → at_key key (map (seat n) run) ++ (cond (same entry.key key) (seat seated entry ∷ []) [] ++ rest) ≡ cond (same entry.key key) (seat seated entry ∷ []) [] ++ (at_key key (map (seat n) run) ++ rest)
    step rest true e =
        let empty : at_key key (map (seat n) run) ≡ [] =
        ap (λ k. at_key k (map (seat n) run)) (sym (same_true entry.key key e)) ∙ not_at entry.key n run (none 0 (omega arith)) in
        ap (λ some. some ++ (cond (same entry.key key) (seat seated entry ∷ []) [] ++ rest)) empty
        ∙ sym (ap (λ some. cond (same entry.key key) (seat seated entry ∷ []) [] ++ (some ++ rest)) empty)
    step rest false e =
        ap (λ b. at_key key (map (seat n) run) ++ (cond b (seat seated entry ∷ []) [] ++ rest)) e
        ∙ sym (ap (λ b. cond b (seat seated entry ∷ []) [] ++ (at_key key (map (seat n) run) ++ rest)) e)

-- ---- the least number of the last key

each_has : {X : Type 0} (P : X → Type 0) (x : X) (xs : List X) → Each P xs → Has x xs → P x
each_has P x [] each has = absurd has
each_has P x (y ∷ xs) each (inl here) = subst P here each.0
each_has P x (y ∷ xs) each (inr there) = each_has P x xs each.1 there

abbrev pub IsLow : Option (List ℕ) → ℕ → List Entry → Type 0
IsLow None low before = before ≡ []
IsLow (Some key) low before =
    Each (λ x. at_most x.key key ≡ true) before × Each (λ x. same x.key key ≡ true → low ≤ x.number) before
    × ((x : Entry) × (same x.key key ≡ true) × (low ≡ x.number) × Has x before)

-- the key isn't below the last one
abbrev pub Reached : Option (List ℕ) → List ℕ → Type 0
Reached None key = Unit {0}
Reached (Some before) key = at_most before key ≡ true

-- all pass
all_pass : {X : Type 0} (test : X → Bool) (xs : List X) → Each (λ x. test x ≡ true) xs → list_all test xs ≡ true
all_pass test [] each = refl
all_pass test (x ∷ xs) each = and_from (test x) (list_all test xs) each.0 (all_pass test xs each.1)

passed : {X : Type 0} (test : X → Bool) (xs : List X) → list_all test xs ≡ true → Each (λ x. test x ≡ true) xs
passed test [] e = tt
passed test (x ∷ xs) e = let both = and_parts (test x) (list_all test xs) e in (both.0, passed test xs both.1)

-- numbers
abbrev fits : Bool → ℕ → ℕ → Bool
fits bottom number before = nat_lt number before || (bottom && (number == 0) && (before == 0))

fits_more : (bottom : Bool) (number low more : ℕ) → low ≤ more → fits bottom number low ≡ true → fits bottom number more ≡ true
fits_more bottom number low more le e = step (nat_lt number low) refl e
  where
    last : (t : Bool) → (more == 0) ≡ t → (bottom && (number == 0) && (low == 0)) ≡ true → fits bottom number more ≡ true
    last true zero_more f =
        let both = and_parts (bottom && (number == 0)) (low == 0) f in
        or_right (nat_lt number more) (bottom && (number == 0) && (more == 0)) (and_from (bottom && (number == 0)) (more == 0) both.0 zero_more)
    last false some_more f =
        let both = and_parts (bottom && (number == 0)) (low == 0) f in
        let zero_number = eqb-true number 0 (and_parts bottom (number == 0) both.0).1 in
        let not_zero = eqb-false more 0 some_more in
        ap (λ t. t || (bottom && (number == 0) && (more == 0))) (lt-ltb number more (omega (arith, zero_number, not_zero)))

    step : (t : Bool) → nat_lt number low ≡ t → (t || (bottom && (number == 0) && (low == 0))) ≡ true → fits bottom number more ≡ true
    step true less f = ap (λ t. t || (bottom && (number == 0) && (more == 0))) (lt-ltb number more (let lt = ltb-true number low less in omega (arith, lt, le)))
    step false more_or f = last (more == 0) refl f

or_joins : (a b c : Bool) → (a || b || c) ≡ (a || (b || c))
or_joins true b c = refl
or_joins false b c = refl

-- an entry may stand behind all others exactly where it may stand behind the least of its key
pub follows_is : (bottom : Bool) (entry : Entry) (key : Option (List ℕ)) (low : ℕ) (before : List Entry) → IsLow key low before → Reached key entry.key
    → list_all (may_follow bottom entry) before ≡ follows key low bottom entry.key entry.number
follows_is bottom entry None low before is reached = ap (list_all (may_follow bottom entry)) is
follows_is bottom entry (Some key) low before (keys, lows, least) reached = step (same key entry.key) refl
  where
    other_key : (x : Entry) → at_most x.key key ≡ true → same key entry.key ≡ false → same x.key entry.key ≡ false
    other_key x le differs = elim (cases_Bool (same x.key entry.key)) [
      | inl is ↦
          let back : at_most entry.key key ≡ true = subst (λ k. at_most k key ≡ true) (same_true x.key entry.key is) le in
          absurd (false≢true (sym differs ∙ ap (same key) (sym (both_at_most key entry.key reached back)) ∙ same_self key))
      | inr not_same ↦ not_same
    ]

    at_x : (x : Entry) → same x.key key ≡ true → same key entry.key ≡ true → same x.key entry.key ≡ true
    at_x x is same_keys = ap (λ k. same k entry.key) (same_true x.key key is) ∙ same_keys

    mine : (t : Bool) → same key entry.key ≡ true → fits bottom entry.number low ≡ t → list_all (may_follow bottom entry) before ≡ t
    mine true same_keys fit =
        all_pass (may_follow bottom entry) before
        (each_as (λ (x : Entry). same x.key key ≡ true → low ≤ x.number) (λ x. may_follow bottom entry x ≡ true)
        (λ x le. pick x le (same x.key entry.key) refl) before lows)
      where
        pick : (x : Entry) → (same x.key key ≡ true → low ≤ x.number) → (b : Bool) → same x.key entry.key ≡ b → may_follow bottom entry x ≡ true
        pick x le true is =
            or_joins (not (same x.key entry.key)) (nat_lt entry.number x.number) (bottom && (entry.number == 0) && (x.number == 0))
            ∙ or_right (not (same x.key entry.key)) (fits bottom entry.number x.number)
            (fits_more bottom entry.number low x.number (le (ap (same x.key) (same_true key entry.key same_keys) ∙ is)) fit)
        pick x le false is = ap (λ b. not b || nat_lt entry.number x.number || (bottom && (entry.number == 0) && (x.number == 0))) is
    mine false same_keys not_fit = elim (cases_Bool (list_all (may_follow bottom entry) before)) [
      | inl all ↦ (
          let x = least.0 in
          let here : may_follow bottom entry x ≡ true = each_has (λ (some : Entry). may_follow bottom entry some ≡ true) x before (passed (may_follow bottom entry) before all) least.3 in
          let wrong : may_follow bottom entry x ≡ false =
          or_joins (not (same x.key entry.key)) (nat_lt entry.number x.number) (bottom && (entry.number == 0) && (x.number == 0))
          ∙ ap (λ b. not b || fits bottom entry.number x.number) (at_x x least.1 same_keys)
          ∙ ap (fits bottom entry.number) (sym least.2) ∙ not_fit in
          absurd (false≢true (sym wrong ∙ here)))
      | inr not_all ↦ not_all
    ]

    step : (b : Bool) → same key entry.key ≡ b → list_all (may_follow bottom entry) before ≡ follows (Some key) low bottom entry.key entry.number
    step true is =
        mine (fits bottom entry.number low) is refl
        ∙ sym (or_joins (not (same key entry.key)) (nat_lt entry.number low) (bottom && (entry.number == 0) && (low == 0)) ∙ ap (λ b. not b || fits bottom entry.number low) is)
    step false is =
        all_pass (may_follow bottom entry) before
        (each_as (λ (x : Entry). at_most x.key key ≡ true) (λ x. may_follow bottom entry x ≡ true)
        (λ x le. ap (λ b. not b || nat_lt entry.number x.number || (bottom && (entry.number == 0) && (x.number == 0))) (other_key x le is)) before keys)
        ∙ sym (ap (λ b. not b || nat_lt entry.number low || (bottom && (entry.number == 0) && (low == 0))) is)

-- one entry more
pub low_more : (key : Option (List ℕ)) (low : ℕ) (before : List Entry) (entry : Entry) → IsLow key low before → Reached key entry.key
    → IsLow (Some entry.key) (lower_of key low entry.key entry.number) (before ++ entry ∷ [])
low_more None low before entry is reached =
    subst (λ some. IsLow (Some entry.key) entry.number (some ++ entry ∷ [])) (sym is)
    ((at_most_itself entry.key, tt), ((λ same_keys. omega arith), tt), (entry, same_self entry.key, refl, inl refl))
low_more (Some key) low before entry (keys, lows, least) reached = step (same key entry.key) refl
  where
    keys_more : Each (λ x. at_most x.key entry.key ≡ true) (before ++ entry ∷ [])
    keys_more = each_push (λ (x : Entry). at_most x.key entry.key ≡ true) before entry
        (each_as (λ (x : Entry). at_most x.key key ≡ true) (λ x. at_most x.key entry.key ≡ true) (λ x le. at_most_trans x.key key entry.key le reached) before keys)
        (at_most_itself entry.key)

    witness : same key entry.key ≡ true → (x : Entry) × (same x.key entry.key ≡ true) × (min low entry.number ≡ x.number) × Has x (before ++ entry ∷ [])
    witness is = elim (cases_lt entry.number low) [
      | inl less ↦ (entry, same_self entry.key, omega (arith, less), has_right entry before (entry ∷ []) (inl refl))
      | inr more ↦ (least.0, ap (λ k. same k entry.key) (same_true least.0.key key least.1) ∙ is, (let low_is = least.2 in omega (arith, more, low_is)), has_left least.0 before (entry ∷ []) least.3)
    ]

    step : (b : Bool) → same key entry.key ≡ b → IsLow (Some entry.key) (cond b (min low entry.number) entry.number) (before ++ entry ∷ [])
    step true is = (
      keys_more,
      each_push (λ (x : Entry). same x.key entry.key ≡ true → min low entry.number ≤ x.number) before entry
          (each_as (λ (x : Entry). same x.key key ≡ true → low ≤ x.number) (λ x. same x.key entry.key ≡ true → min low entry.number ≤ x.number)
          (λ x le same_keys. let here = le (ap (same x.key) (same_true key entry.key is) ∙ same_keys) in omega (arith, here)) before lows)
          (λ same_keys. omega arith),
      witness is,
    )
    step false differs = (
      keys_more,
      each_push (λ (x : Entry). same x.key entry.key ≡ true → entry.number ≤ x.number) before entry
          (each_as (λ (x : Entry). at_most x.key key ≡ true) (λ x. same x.key entry.key ≡ true → entry.number ≤ x.number)
          (λ x le same_keys. absurd (
          let back : at_most entry.key key ≡ true = subst (λ k. at_most k key ≡ true) (same_true x.key entry.key same_keys) le in
          false≢true (sym differs ∙ ap (same key) (sym (both_at_most key entry.key reached back)) ∙ same_self key))) before keys)
          (λ same_keys. omega arith),
      (entry, same_self entry.key, refl, has_right entry before (entry ∷ []) (inl refl)),
    )

-- ---- what is left of parts

abbrev pub Ordered : List (List Entry) → Type 0
Ordered left = Each (λ run. in_order run ≡ true) left

-- no entry that is left has a key below the last one
abbrev pub AllReached : Option (List ℕ) → List (List Entry) → Type 0
AllReached key left = Each (λ run. Each (λ x. Reached key x.key) run) left

-- the head of a part doesn't come before this key of this part, by key and then by part
abbrev pub NotAhead : List ℕ → ℕ → ℕ → List Entry → Type 0
NotAhead key part q [] = Unit {0}
NotAhead key part q (x ∷ run) = is_lt (ordering_then (bytes_cmp x.key key) (nat_cmp q part)) ≡ false

not_less : (o p : Ordering) → is_lt (ordering_then o p) ≡ false → is_lt o ≡ false
not_less Less p e = e
not_less Equal p e = refl
not_less Greater p e = refl

greater : (o : Ordering) (q part : ℕ) → q < part → is_lt (ordering_then o (nat_cmp q part)) ≡ false → (is_lt o ≡ false) × Rattle.std.specs.Ordering.is_gt o ≡ true
greater Less q part less e = absurd (false≢true (sym e))
greater Equal q part less e = absurd (false≢true (sym e ∙ ap (λ t. is_lt (cond t Less (cond (Rattle.std.proofs.Common.eqb q part) Equal Greater))) (lt-ltb q part less)))
greater Greater q part less e = (refl, refl)

-- keys that are left are at or above the key
pub run_reached : (key : List ℕ) (part q : ℕ) (run : List Entry) → in_order run ≡ true → NotAhead key part q run → Each (λ x. at_most key x.key ≡ true) run
run_reached key part q [] ordered ahead = tt
run_reached key part q (x ∷ run) ordered ahead = front_least key x run ordered (not_below x.key key (not_less (bytes_cmp x.key key) (nat_cmp q part) ahead))

turned : (o : Ordering) → Rattle.std.specs.Ordering.is_gt o ≡ true → is_lt (Rattle.std.specs.Ordering.ordering_reverse o) ≡ true
turned Less e = absurd (false≢true e)
turned Equal e = absurd (false≢true e)
turned Greater e = refl

-- and above it in earlier parts
pub run_above : (key : List ℕ) (part q : ℕ) (run : List Entry) → q < part → in_order run ≡ true → NotAhead key part q run → Each (λ x. same x.key key ≡ false) run
run_above key part q [] less ordered ahead = tt
run_above key part q (x ∷ run) less ordered ahead =
    let above : below key x.key ≡ true =
    ap is_lt (Rattle.std.proofs.lemmas.Cmp.nat_list_cmp_total.antisymm key x.key) ∙ turned (bytes_cmp x.key key) (greater (bytes_cmp x.key key) q part less ahead).1 in
    each_as (λ (y : Entry). at_most x.key y.key ≡ true) (λ (y : Entry). same y.key key ≡ false)
    (λ y le. Rattle.opening_checks.proofs.Twice.above_differs key y.key (below_at_most_below key x.key y.key above le))
    (x ∷ run) (front_least x.key x run ordered (at_most_itself x.key))

set_each : {X : Type 0} (P : X → Type 0) (xs : List X) (i : ℕ) (x : X) → Each P xs → P x → Each P (set xs i x)
set_each P [] i x each holds = tt
set_each P (y ∷ xs) zero x each holds = (holds, each.1)
set_each P (y ∷ xs) (suc i) x each holds = (each.0, set_each P xs i x each.1 holds)

by_index : (P : List Entry → Type 0) (left : List (List Entry)) → ((q : ℕ) → q < length left → P (get_or left q [])) → Each P left
by_index P [] all = tt
by_index P (run ∷ left) all = (all 0 (omega arith), by_index P left (λ q lt. all (suc q) (omega arith)))

at_index : (P : List Entry → Type 0) (left : List (List Entry)) (q : ℕ) → q < length left → Each P left → P (get_or left q [])
at_index P [] q lt each = absurd (omega arith)
at_index P (run ∷ left) zero lt each = each.0
at_index P (run ∷ left) (suc q) lt each = at_index P left q (omega arith) each.1

-- ---- the walk

module _ (last : ℕ) (bottom : ℕ → Bool) (file : ℕ → Option ℕ) (runs : List (List Entry)) where
  -- what was passed and what is left are the runs, key by key; the key and its least number are those of what was passed
  pub record IsWalked (left : List (List Entry)) (key : Option (List ℕ)) (low : ℕ) (least : Option ℕ) : Type 0 where
    pub taken : List Seated
    pub columns : (some : List ℕ) → at_key some taken ++ at_key some (seats_from 0 left) ≡ at_key some (seats_from 0 runs)
    pub ordered : Ordered left
    pub reached : AllReached key left
    pub lowest : IsLow key low (entries_at taken)
    pub least_is : least ≡ least_file (to_blame last bottom file [] taken)

  anywhere : (left : List (List Entry)) → AllReached None left
  anywhere [] = tt
  anywhere (run ∷ left) = (Rattle.base_laws.proofs.Lists.each_all (λ (x : Entry). Unit {0}) (λ x. tt) run, anywhere left)

  pub walk_begins : Ordered runs → IsWalked runs None 0 None
  walk_begins ordered = record {
    taken = [];
    columns = λ some. refl;
    ordered = ordered;
    reached = anywhere runs;
    lowest = refl;
    least_is = refl;
  }

  -- the file of the entry, if it may not stand there
  abbrev pub judged : Option (List ℕ) → ℕ → ℕ → List ℕ → ℕ → Option ℕ
  judged key low part entry_key number =
      cond (nat_le number last && follows key low (bottom part) entry_key number) None (file part)

  one_file : (t : Bool) (some : Option ℕ) → least_file (cond t [] (file_list some)) ≡ cond t None some
  one_file true some = refl
  one_file false None = refl
  one_file false (Some name) = refl

  module _ (left : List (List Entry)) (key : Option (List ℕ)) (low : ℕ) (least : Option ℕ) (is : IsWalked left key low least)
      (part : ℕ) (entry : Entry) (tail : List Entry) (lt : part < length left) (head : get_or left part [] ≡ entry ∷ tail)
      (first : (q : ℕ) → q < length left → NotAhead entry.key part q (get_or left q [])) where
    here : Reached key entry.key
    here = (subst (Each (λ x. Reached key x.key)) head (at_index (Each (λ x. Reached key x.key)) left part lt is.reached)).0

    pub walk_goes_on : IsWalked (set left part tail) (Some entry.key) (lower_of key low entry.key entry.number) (lesser_of least (judged key low part entry.key entry.number))
    walk_goes_on = record {
      taken = is.taken ++ seat part entry ∷ [];
      columns = λ some.
          ap (λ front. front ++ at_key some (seats_from 0 (set left part tail))) (at_join some is.taken (seat part entry ∷ []))
          ∙ append_assoc (at_key some is.taken) (at_key some (seat part entry ∷ [])) (at_key some (seats_from 0 (set left part tail)))
          ∙ ap (λ back. at_key some is.taken ++ back) (sym (taken_first 0 part left entry tail part (let e : part ≡ 0 + part = omega arith in e) lt head
          (λ q less. run_above entry.key part q (get_or left q []) less (at_index (λ run. in_order run ≡ true) left q (omega (arith, less, lt)) is.ordered) (first q (omega (arith, less, lt)))) some))
          ∙ is.columns some;
      ordered = set_each (λ run. in_order run ≡ true) left part tail is.ordered
          (rest_in_order entry tail (subst (λ run. in_order run ≡ true) head (at_index (λ run. in_order run ≡ true) left part lt is.ordered)));
      reached =
          let all : Each (λ run. Each (λ x. at_most entry.key x.key ≡ true) run) left =
          by_index (λ run. Each (λ x. at_most entry.key x.key ≡ true) run) left
          (λ q less. run_reached entry.key part q (get_or left q []) (at_index (λ run. in_order run ≡ true) left q less is.ordered) (first q less)) in
          set_each (λ run. Each (λ x. at_most entry.key x.key ≡ true) run) left part tail all
          (subst (Each (λ x. at_most entry.key x.key ≡ true)) head (at_index (λ run. Each (λ x. at_most entry.key x.key ≡ true) run) left part lt all)).1;
      lowest = subst (IsLow (Some entry.key) (lower_of key low entry.key entry.number)) (sym (map-append (λ (one : Seated). one.entry) is.taken (seat part entry ∷ [])))
          (low_more key low (entries_at is.taken) entry is.lowest here);
      least_is =
          let right : is_right last bottom file (entries_at is.taken) (seat part entry) ≡ (nat_le entry.number last && follows key low (bottom part) entry.key entry.number) =
          ap (λ t. nat_le entry.number last && t) (follows_is (bottom part) entry key low (entries_at is.taken) is.lowest here) in
          ap (λ one. lesser_of one (judged key low part entry.key entry.number)) is.least_is
          ∙ ap (lesser_of (least_file (to_blame last bottom file [] is.taken)))
          (sym (one_file (nat_le entry.number last && follows key low (bottom part) entry.key entry.number) (file part))
          ∙ ap (λ t. least_file (cond t [] (file_list (file part)))) (sym right)
          ∙ ap least_file (sym (Rattle.std.proofs.Common.append-nil (blamed last bottom file (entries_at is.taken) (seat part entry)))))
          ∙ sym (least_join (to_blame last bottom file [] is.taken) (to_blame last bottom file (entries_at is.taken) (seat part entry ∷ [])))
          ∙ ap least_file (sym (blame_join last bottom file [] is.taken (seat part entry ∷ [])));
    }

  -- at the end, where nothing is left
  nothing_left : (some : List ℕ) (n : ℕ) (left : List (List Entry)) → Each (λ run. run ≡ []) left → at_key some (seats_from n left) ≡ []
  nothing_left some n [] each = refl
  nothing_left some n (run ∷ left) each =
      ap (λ one. at_key some (map (seat n) one ++ seats_from (suc n) left)) each.0 ∙ nothing_left some (suc n) left each.1

  pub walk_ends : (left : List (List Entry)) (key : Option (List ℕ)) (low : ℕ) (least : Option ℕ) → (is : IsWalked left key low least) → Each (λ run. run ≡ []) left
      → (some : List ℕ) → at_key some is.taken ≡ at_key some (seats_from 0 runs)
  walk_ends left key low least is none some =
      sym (Rattle.std.proofs.Common.append-nil (at_key some is.taken)) ∙ ap (λ back. at_key some is.taken ++ back) (sym (nothing_left some 0 left none)) ∙ is.columns some
