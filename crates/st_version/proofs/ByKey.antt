-- Of runs that stand by key only the last that starts at or below a key may have it.
use Rattle.std.proofs.Common.{◌≡◌, ℕ, zero, suc, ◌+◌, ◌-◌, ◌<◌, ◌≤◌, Bool, true, false, cond, List, [], ◌∷◌, ◌++◌, length, get_or, refl, sym, ap, subst, ◌∙◌, inl, inr, arith, append-nil}
use Rattle.std.specs.List.{prefix_len, AllByRecursion as Each}
use Rattle.std.proofs.lemmas.Bool.{cases_Bool, cases_lt, false≢true}
use Rattle.std.proofs.lemmas.List.Sums.{prefix_len_passes, prefix_len_stops}
use Rattle.st_base.specs.Bytes.{at_most, below, same}
use Rattle.st_base.specs.Order.{in_order}
use Rattle.st_base.specs.Range.{is_in_range, key_at_end, key_at_front, range_of}
use Rattle.st_base.specs.declared.entry.Entry.{Entry}
use Rattle.st_base.proofs.Same.{same_true}
use Rattle.st_order.proofs.Halves.{each_at}
use Rattle.base_laws.proofs.Keys.{at_most_below, at_most_itself, at_most_trans, below_at_most, below_at_most_below, below_not, below_trans, not_at_most}
use Rattle.base_laws.proofs.Lists.{each_as, filter_none}
use Rattle.base_laws.proofs.Ranges.{at_most_end, end_greatest, range_has_keys, range_is_proper, within_parts}
use Rattle.st_order.specs.Columns.{Pairwise, column, of_key}
use Rattle.job_model.specs.ByKey.{IsByKey}
use Rattle.st_version.specs.ByKey.{EndsBelow, started, starts_by}

-- a run whose keys are all different from the key
none_of : (key : List ℕ) (run : List Entry) → Each (λ entry. same entry.key key ≡ false) run → of_key key run ≡ []
none_of key run each = filter_none (λ entry. same entry.key key) run each

differs_below : (key other : List ℕ) → below other key ≡ true → same other key ≡ false
differs_below key other lt = elim (cases_Bool (same other key)) [
  | inl is ↦ absurd (false≢true (sym (below_not other other (subst (λ (k : List ℕ). below other k ≡ true) (sym (same_true other key is)) lt)) ∙ at_most_itself other))
  | inr not_so ↦ not_so
]

differs_above : (key other : List ℕ) → below key other ≡ true → same other key ≡ false
differs_above key other lt = elim (cases_Bool (same other key)) [
  | inl is ↦ absurd (false≢true (sym (below_not other other (subst (λ (k : List ℕ). below k other ≡ true) (sym (same_true other key is)) lt)) ∙ at_most_itself other))
  | inr not_so ↦ not_so
]

-- a run that ends below the key, or starts above it
pub ends_below : (key : List ℕ) (run : List Entry) → in_order run ≡ true → below (key_at_end run) key ≡ true → of_key key run ≡ []
ends_below key run ordered lt = none_of key run
    (each_as (λ (e : Entry). at_most e.key (key_at_end run) ≡ true) (λ e. same e.key key ≡ false) (λ e le. differs_below key e.key (at_most_below e.key (key_at_end run) key le lt)) run (end_greatest run ordered))

pub starts_above : (key : List ℕ) (run : List Entry) → in_order run ≡ true → below key (key_at_front run) ≡ true → of_key key run ≡ []
starts_above key run ordered lt = none_of key run
    (each_as (λ (e : Entry). at_most (key_at_front run) e.key ≡ true) (λ e. same e.key key ≡ false) (λ e le. differs_above key e.key (below_at_most_below key (key_at_front run) e.key lt le)) run
    (each_as (λ (e : Entry). is_in_range (range_of run) e.key ≡ true) (λ e. at_most (key_at_front run) e.key ≡ true) (λ e within. (within_parts (range_of run) e.key within).0) run (range_has_keys run ordered)))

-- the runs but the first stand by key too
pub rest_by_key : (run : List Entry) (runs : List (List Entry)) → IsByKey (run ∷ runs) → IsByKey runs
rest_by_key run runs is = record { ordered = is.ordered.1; filled = is.filled.1; apart = is.apart.1 }

-- a first key is at most the last one
pub proper : (run : List Entry) → in_order run ≡ true → at_most (key_at_front run) (key_at_end run) ≡ true
proper run ordered = range_is_proper run ordered

-- runs behind one that starts above the key start above it
none_started : (key : List ℕ) (run : List Entry) (runs : List (List Entry)) → IsByKey (run ∷ runs) → below key (key_at_front run) ≡ true → column key (run ∷ runs) ≡ []
none_started key run [] is lt = append-nil (of_key key run) ∙ starts_above key run is.ordered.0 lt
none_started key run (next ∷ runs) is lt =
    ap (λ front. front ++ column key (next ∷ runs)) (starts_above key run is.ordered.0 lt)
    ∙ none_started key next runs (rest_by_key run (next ∷ runs) is)
    (below_trans key (key_at_front run) (key_at_front next) lt (at_most_below (key_at_front run) (key_at_end run) (key_at_front next) (proper run is.ordered.0) is.apart.0.0))

-- what the runs that started have of the key: what the last of them has
abbrev pub last_started : List (List Entry) → ℕ → List Entry
last_started runs zero = []
last_started runs (suc n) = get_or runs n []

pub in_last_started : (key : List ℕ) (runs : List (List Entry)) → IsByKey runs → column key runs ≡ of_key key (last_started runs (started key runs))
in_last_started key [] is = refl
in_last_started key (run ∷ runs) is = step (starts_by key run) refl (started key runs) refl (in_last_started key runs (rest_by_key run runs is))
  where
    none_behind : {A : List Entry} → column key runs ≡ [] → A ++ column key runs ≡ A
    none_behind {A} none = ap (λ rest. A ++ rest) none ∙ append-nil A

    -- where the next run started, this one ends below the key
    passed : (others : List (List Entry)) → runs ≡ others → (k : ℕ) → started key others ≡ suc k → of_key key run ≡ []
    passed [] e k at = absurd cc
    passed (next ∷ others) e k at = elim (cases_Bool (starts_by key next)) [
      | inl by ↦ ends_below key run is.ordered.0 (below_at_most_below (key_at_end run) (key_at_front next) key (subst (λ (some : List (List Entry)). Each (EndsBelow run) some) e is.apart.0).0 by)
      | inr not_so ↦ absurd (let none : started key (next ∷ others) ≡ 0 = ap (λ b. cond b (1 + started key others) 0) not_so in omega (arith, none, at))
    ]

    step : (b : Bool) → starts_by key run ≡ b → (m : ℕ) → started key runs ≡ m → column key runs ≡ of_key key (last_started runs m)
        → column key (run ∷ runs) ≡ of_key key (last_started (run ∷ runs) (cond b (1 + m) 0))
    step false b m at rest = none_started key run runs is (not_at_most (key_at_front run) key b)
    step true b zero at rest = none_behind rest
    step true b (suc k) at rest = subst (λ n. column key (run ∷ runs) ≡ of_key key (last_started (run ∷ runs) n)) (let e : suc (suc k) ≡ 1 + suc k = omega arith in e)
        (ap (λ front. front ++ column key runs) (passed runs refl k at) ∙ rest)

pub last_is : (runs : List (List Entry)) (n : ℕ) → (n ≡ 0 → ⊥) → last_started runs n ≡ get_or runs (n - 1) []
last_is runs zero some = absurd (some refl)
last_is runs (suc n) some = ap (λ i. get_or runs i []) (let e : n ≡ suc n - 1 = omega arith in e)

-- ---- the search by halves

-- the fronts of runs rise
pub half_low : (key : List ℕ) (runs : List (List Entry)) (d : List Entry) (i : ℕ) → IsByKey runs → i < length runs → starts_by key (get_or runs i d) ≡ true → i < started key runs
half_low key [] d i is lt by = absurd (omega arith)
half_low key (run ∷ runs) d zero is lt by = subst (λ b. zero < cond b (1 + started key runs) 0) (sym by) (omega arith)
half_low key (run ∷ runs) d (suc i) is lt by =
    let rest = half_low key runs d i (rest_by_key run runs is) (omega arith) by in
    let first : starts_by key run ≡ true = start runs d i is lt by in
    subst (λ b. suc i < cond b (1 + started key runs) 0) (sym first) (omega (arith, rest))
  where
    start : (runs : List (List Entry)) (d : List Entry) (i : ℕ) → IsByKey (run ∷ runs) → suc i < length (run ∷ runs) → starts_by key (get_or runs i d) ≡ true → starts_by key run ≡ true
    start runs d i is lt by =
        below_at_most (key_at_front run) key
        (at_most_below_most (key_at_front run) (key_at_end run) (key_at_front (get_or runs i d)) key (proper run is.ordered.0) (each_at (EndsBelow run) runs i d is.apart.0 (omega arith)) by)
      where
        at_most_below_most : (a b c e : List ℕ) → at_most a b ≡ true → below b c ≡ true → at_most c e ≡ true → below a e ≡ true
        at_most_below_most a b c e first second third = below_at_most_below a c e (at_most_below a b c first second) third

pub half_high : (key : List ℕ) (runs : List (List Entry)) (d : List Entry) (i : ℕ) → starts_by key (get_or runs i d) ≡ false → started key runs ≤ i
half_high key runs d i high = elim (cases_lt i (started key runs)) [
  | inl less ↦ absurd (false≢true (sym high ∙ prefix_len_passes (starts_by key) runs i d less))
  | inr more ↦ more
]
