-- What a turn of the search does, over the runs of the inputs.
use Rattle.std.proofs.Common.{◌≡◌, ℕ, zero, suc, ◌<◌, Bool, true, false, cond, not, ◌&&◌, ◌||◌, ◌⊎◌, eqb, List, [], ◌∷◌, ◌++◌, filter, flat_map, length, Option, Some, None, Ordering, Less, Equal, Greater, refl, sym, ap, subst, ◌∙◌, inl, inr, arith, append-nil}
use Rattle.std.specs.List.{list_any, AllByRecursion as Each}
use Rattle.std.specs.Ordering.{nat_cmp, ordering_then, is_lt, is_le}
use Rattle.std.proofs.lemmas.Bool.{false≢true, and_from, and_left, and_parts, and_right, lt-ltb, or_cases}
use Rattle.st_base.specs.Bytes.{at_most, below, bytes_cmp, same}
use Rattle.st_base.specs.Range.{is_in_range, keys_of, meet}
use Rattle.st_base.specs.declared.entry.Entry.{Entry}
use Rattle.st_base.specs.declared.entry.KeyRange.{KeyRange}
use Rattle.st_base.proofs.Same.{same_true}
use Rattle.base_laws.proofs.Keys.{at_most_flips, at_most_itself, at_most_trans, below_at_most, below_at_most_below, below_flips, below_not, not_below}
use Rattle.base_laws.proofs.Lists.{any_none, append_one, each_as, each_passing, filter_none}
use Rattle.base_laws.proofs.Ranges.{within_from, within_parts}
use Rattle.st_order.proofs.Least.{Has, has_filter}
use Rattle.job_model.specs.Drops.{covers, drop_runs, rising_keys}
use Rattle.job_laws.proofs.Rising.{Rise, rising_rise}
use Rattle.st_drops.specs.Ends.{IsLeastFrom, IsRaised, is_before_end}
use Rattle.st_drops.specs.Left.{TakesTurn, left}
use Rattle.st_drops.specs.Covers.{CoversNoneBefore, EndBelow, CoversThrough}
use Rattle.st_drops.proofs.Lists.{any_as, contains_has, fewer, narrow, pairs_filter}
use Rattle.st_drops.proofs.Members.{each_rising, first_is, rising_has}
use Rattle.st_drops.proofs.Runs.{gap, part, range_to, skips}

-- ---- keys

-- the least byte string above another is that with a byte 0 behind
above_next : (a b : List ℕ) → at_most (a ++ 0 ∷ []) b ≡ below a b
above_next [] [] = refl
above_next [] (zero ∷ []) = refl
above_next [] (zero ∷ z ∷ zs) = refl
above_next [] (suc n ∷ ys) = ap (λ b. is_le (ordering_then (cond b Less (cond (eqb 0 (suc n)) Equal Greater)) (bytes_cmp [] ys))) (lt-ltb 0 (suc n) (omega arith))
above_next (x ∷ xs) [] = refl
above_next (x ∷ xs) (y ∷ ys) = step (nat_cmp x y) (above_next xs ys)
  where
    step : (o : Ordering) → is_le (bytes_cmp (xs ++ 0 ∷ []) ys) ≡ is_lt (bytes_cmp xs ys) → is_le (ordering_then o (bytes_cmp (xs ++ 0 ∷ []) ys)) ≡ is_lt (ordering_then o (bytes_cmp xs ys))
    step Less e = refl
    step Equal e = e
    step Greater e = refl

at_most_not : (a b : List ℕ) → at_most a b ≡ true → below b a ≡ false
at_most_not a b e = below_flips b a ∙ ap not e

-- ---- nothing is left

pub none_left : (lower : List KeyRange) (runs : List (List Entry)) (bound : List ℕ) → Each (λ one. below one bound ≡ true) (flat_map keys_of runs) → drop_runs lower (left bound (rising_keys runs)) ≡ []
none_left lower runs bound each =
    ap (drop_runs lower) (filter_none (at_most bound) (rising_keys runs)
    (each_rising (λ one. at_most bound one ≡ false) runs (each_as (λ one. below one bound ≡ true) (λ one. at_most bound one ≡ false) (λ one less. below_not one bound less) (flat_map keys_of runs) each)))

module _ (lower : List KeyRange) (runs : List (List Entry)) (bound k : List ℕ) (is_least : IsLeastFrom bound (flat_map keys_of runs) k) where
  abbrev keys : List (List ℕ)
  keys = rising_keys runs

  rise_left : Rise (left bound keys)
  rise_left = pairs_filter (λ one other. below one other ≡ true) (at_most bound) keys (rising_rise runs)

  from_key : Each (λ key. at_most k key ≡ true) (left bound keys)
  from_key = each_passing (λ key. at_most k key ≡ true) (at_most bound) keys (each_rising (λ one. at_most bound one ≡ true → at_most k one ≡ true) runs is_least.least)

  first : (rest : List (List ℕ)) × (left bound keys ≡ k ∷ rest)
  first = first_is k (left bound keys) rise_left
      (has_filter (at_most bound) k keys (rising_has runs k (contains_has k (flat_map keys_of runs) is_least.among)) is_least.reaches) from_key

  module _ (next : List ℕ) (more : (key : List ℕ) → at_most next key ≡ true → at_most bound key ≡ true) (passed : at_most next k ≡ false) where
    left_next : left next keys ≡ filter (at_most next) (left bound keys)
    left_next = sym (narrow (at_most bound) (at_most next) more keys)

    fewer_left : length (left next keys) < length (left bound keys)
    fewer_left =
        subst (λ (those : List (List ℕ)). length those < length (left bound keys)) (sym left_next)
        (subst (λ (those : List (List ℕ)). length (filter (at_most next) those) < length those) (sym first.1) (fewer (at_most next) k first.0 passed))

    left_rest : left next keys ≡ filter (at_most next) first.0
    left_rest = left_next ∙ ap (filter (at_most next)) first.1 ∙ ap (λ b. cond b (k ∷ filter (at_most next) first.0) (filter (at_most next) first.0)) passed

  -- ---- the key lies in a lower range

  module _ (last : List ℕ) (lies : CoversThrough lower k last) where
    low : at_most k last ≡ true
    low = any_gives lower lies
      where
        any_gives : (ranges : List KeyRange) → list_any (λ range. is_in_range range k && same range.last last) ranges ≡ true → at_most k last ≡ true
        any_gives [] e = absurd (false≢true e)
        any_gives (range ∷ ranges) e = elim (or_cases (is_in_range range k && same range.last last) (list_any (λ range. is_in_range range k && same range.last last) ranges) e) [
          | inl here ↦
              let p = and_parts (is_in_range range k) (same range.last last) here in
              subst (λ (end : List ℕ). at_most k end ≡ true) (same_true range.last last p.1) (within_parts range k p.0).1
          | inr there ↦ any_gives ranges there
        ]

    covered : (key : List ℕ) → at_most k key ≡ true → at_most (last ++ 0 ∷ []) key ≡ false → covers lower key ≡ true
    covered key from past =
        any_as (λ range. is_in_range range k && same range.last last) (λ range. is_in_range range key) (λ range here.
        let p = and_parts (is_in_range range k) (same range.last last) here in
        within_from range key (at_most_trans range.first k key (within_parts range k p.0).0 from)
        (subst (λ (end : List ℕ). at_most key end ≡ true) (sym (same_true range.last last p.1)) (not_below last key (sym (above_next last key) ∙ past)))) lower lies

    wider : (key : List ℕ) → at_most (last ++ 0 ∷ []) key ≡ true → at_most bound key ≡ true
    wider key e = at_most_trans bound k key is_least.reaches (at_most_trans k last key low (below_at_most last key (sym (above_next last key) ∙ e)))

    passed : at_most (last ++ 0 ∷ []) k ≡ false
    passed = above_next last k ∙ at_most_not k last low

    pub within_stays : drop_runs lower (left (last ++ 0 ∷ []) keys) ≡ drop_runs lower (left bound keys)
    within_stays =
        ap (drop_runs lower) (left_next (last ++ 0 ∷ []) wider passed)
        ∙ sym (skips lower (at_most (last ++ 0 ∷ [])) (left bound keys)
        (each_as (λ key. at_most k key ≡ true) (λ key. at_most (last ++ 0 ∷ []) key ≡ false → covers lower key ≡ true) covered (left bound keys) from_key))

    pub within_fewer : length (left (last ++ 0 ∷ []) keys) < length (left bound keys)
    within_fewer = fewer_left (last ++ 0 ∷ []) wider passed

  -- ---- the key lies in a gap

  module _ (end : Option (List ℕ)) (outside : List ℕ → Bool) (flips : (key : List ℕ) → outside key ≡ not (is_before_end end key))
      (clear : (key : List ℕ) → at_most k key ≡ true → is_before_end end key ≡ true → covers lower key ≡ false)
      (free : (one key : List ℕ) → at_most k one ≡ true → is_before_end end key ≡ true → part lower one key ≡ false)
      (parts : (one key : List ℕ) → is_before_end end one ≡ true → is_before_end end key ≡ false → part lower one key ≡ true)
      (falls : (one key : List ℕ) → is_before_end end one ≡ false → below one key ≡ true → is_before_end end key ≡ false)
      (here : is_before_end end k ≡ true) (last : List ℕ) (raised : IsRaised (is_before_end end) (flat_map keys_of runs) k last) where
    last_among : (last ≡ k) ⊎ Has last first.0
    last_among = elim raised.among [
      | inl is ↦ inl is
      | inr has ↦
          let there : Has last (left bound keys) = has_filter (at_most bound) last keys (rising_has runs last (contains_has last (flat_map keys_of runs) has.0)) (at_most_trans bound k last is_least.reaches raised.rises) in
          behind (subst (λ those. Has last those) first.1 there)
    ]
      where
        behind : Has last (k ∷ first.0) → (last ≡ k) ⊎ Has last first.0
        behind (inl is) = inl (sym is)
        behind (inr there) = inr there

    last_before : is_before_end end last ≡ true
    last_before = elim raised.among [
      | inl is ↦ subst (λ one. is_before_end end one ≡ true) (sym is) here
      | inr has ↦ has.1
    ]

    greatest : Each (λ key. is_before_end end key ≡ true → at_most key last ≡ true) (k ∷ first.0)
    greatest =
        subst (Each (λ key. is_before_end end key ≡ true → at_most key last ≡ true)) first.1
        (Rattle.base_laws.proofs.Lists.each_filter (λ key. is_before_end end key ≡ true → at_most key last ≡ true) (at_most bound) keys
        (each_rising (λ key. is_before_end end key ≡ true → at_most key last ≡ true) runs raised.greatest))

    in_gap : drop_runs lower (left bound keys) ≡ range_to k last ∷ drop_runs lower (filter outside first.0)
    in_gap =
        ap (drop_runs lower) first.1
        ∙ ap (λ b. cond b (drop_runs lower first.0) (Rattle.job_model.specs.Drops.go_on lower k k first.0)) (clear k (at_most_itself k) here)
        ∙ gap lower (is_before_end end) outside flips k clear free parts falls k last first.0 (subst Rise first.1 rise_left) (at_most_itself k) here greatest.1 last_among last_before

  module _ (end last : List ℕ) (begins : CoversNoneBefore lower k end) (raised : IsRaised (is_before_end (Some end)) (flat_map keys_of runs) k last) where
    -- a lower range ends below the key, or begins at or after the end
    each_clear : (P : KeyRange → Type 0) → ((range : KeyRange) → below range.last k ≡ true → P range) → ((range : KeyRange) → at_most end range.first ≡ true → P range) → Each P lower
    each_clear P front back =
        each_as (λ (range : KeyRange). (below range.last k || at_most end range.first) ≡ true) P
        (λ range e. elim (or_cases (below range.last k) (at_most end range.first) e) [
          | inl less ↦ front range less
          | inr more ↦ back range more
        ]) lower begins.clear

    clear_end : (key : List ℕ) → at_most k key ≡ true → below key end ≡ true → covers lower key ≡ false
    clear_end key from less =
        any_none (λ range. is_in_range range key) lower (each_clear (λ range. is_in_range range key ≡ false)
        (λ range under. and_right (at_most range.first key) (at_most key range.last) (below_not range.last key (below_at_most_below range.last k key under from)))
        (λ range over. and_left (at_most range.first key) (at_most key range.last) (below_not key range.first (below_at_most_below key end range.first less over))))

    free_end : (one key : List ℕ) → at_most k one ≡ true → below key end ≡ true → part lower one key ≡ false
    free_end one key from less =
        any_none (meet (range_to one key)) lower (each_clear (λ range. meet (range_to one key) range ≡ false)
        (λ range under. and_left (at_most one range.last) (at_most range.first key) (below_not range.last one (below_at_most_below range.last k one under from)))
        (λ range over. and_right (at_most one range.last) (at_most range.first key) (below_not key range.first (below_at_most_below key end range.first less over))))

    parts_end : (one key : List ℕ) → below one end ≡ true → below key end ≡ false → part lower one key ≡ true
    parts_end one key less more =
        any_as (λ range. same range.first end && at_most range.first range.last) (meet (range_to one key)) (λ range both.
        let p = and_parts (same range.first end) (at_most range.first range.last) both in
        let is : range.first ≡ end = same_true range.first end p.0 in
        and_from (at_most one range.last) (at_most range.first key)
        (at_most_trans one range.first range.last (subst (λ (start : List ℕ). at_most one start ≡ true) (sym is) (below_at_most one end less)) p.1)
        (subst (λ (start : List ℕ). at_most start key ≡ true) (sym is) (not_below key end more))) lower begins.begins

    falls_end : (one key : List ℕ) → below one end ≡ false → below one key ≡ true → below key end ≡ false
    falls_end one key more less = at_most_not end key (at_most_trans end one key (not_below one end more) (below_at_most one key less))

    wider_end : (key : List ℕ) → at_most end key ≡ true → at_most bound key ≡ true
    wider_end key e = at_most_trans bound k key is_least.reaches (below_at_most k key (below_at_most_below k end key begins.above e))

    passed_end : at_most end k ≡ false
    passed_end = below_not k end begins.above

    pub before_stays : drop_runs lower (left bound keys) ≡ range_to k last ∷ drop_runs lower (left end keys)
    before_stays =
        in_gap (Some end) (at_most end) (λ key. at_most_flips end key) clear_end free_end parts_end falls_end begins.above last raised
        ∙ ap (λ those. range_to k last ∷ drop_runs lower those) (sym (left_rest end wider_end passed_end))

    pub before_fewer : length (left end keys) < length (left bound keys)
    before_fewer = fewer_left end wider_end passed_end

  module _ (last : List ℕ) (ends : EndBelow lower k) (raised : IsRaised (is_before_end None) (flat_map keys_of runs) k last) where
    pub behind_all : drop_runs lower (left bound keys) ≡ range_to k last ∷ []
    behind_all =
        in_gap None (λ _. false) (λ key. refl)
        (λ key from e. any_none (λ range. is_in_range range key) lower (each_as (λ (range : KeyRange). below range.last k ≡ true) (λ range. is_in_range range key ≡ false)
        (λ range under. and_right (at_most range.first key) (at_most key range.last) (below_not range.last key (below_at_most_below range.last k key under from))) lower ends))
        (λ one key from e. any_none (meet (range_to one key)) lower (each_as (λ (range : KeyRange). below range.last k ≡ true) (λ range. meet (range_to one key) range ≡ false)
        (λ range under. and_left (at_most one range.last) (at_most range.first key) (below_not range.last one (below_at_most_below range.last k one under from))) lower ends))
        (λ one key e f. absurd (false≢true (sym f)))
        (λ one key e f. absurd (false≢true (sym e)))
        refl last raised
        ∙ ap (λ those. range_to k last ∷ drop_runs lower those) (none first.0)
      where
        none : (those : List (List ℕ)) → filter (λ _. false) those ≡ []
        none [] = refl
        none (one ∷ those) = none those

-- ---- a turn

module _ (lower : List KeyRange) (runs : List (List Entry)) (bound : List ℕ) (before : List KeyRange) where
  pub turn_over : (next : List ℕ) → Each (λ one. below one bound ≡ true) (flat_map keys_of runs) → TakesTurn lower (rising_keys runs) bound before false next before
  turn_over next each = sym (append-nil before) ∙ ap (λ ranges. before ++ ranges) (sym (none_left lower runs bound each))

  module _ (k : List ℕ) (is_least : IsLeastFrom bound (flat_map keys_of runs) k) where
    pub turn_within : (last next : List ℕ) → CoversThrough lower k last → next ≡ last ++ 0 ∷ [] → TakesTurn lower (rising_keys runs) bound before true next before
    turn_within last next lies is =
        subst (λ (one : List ℕ). TakesTurn lower (rising_keys runs) bound before true one before) (sym is)
        (ap (λ ranges. before ++ ranges) (within_stays lower runs bound k is_least last lies), within_fewer lower runs bound k is_least last lies)

    pub turn_before : (end next : List ℕ) (range : KeyRange) (after : List KeyRange) → CoversNoneBefore lower k end → range.first ≡ k → IsRaised (is_before_end (Some end)) (flat_map keys_of runs) k range.last
        → after ≡ before ++ range ∷ [] → next ≡ end → TakesTurn lower (rising_keys runs) bound before true next after
    turn_before end next range after begins first raised pushed is =
        subst (λ (one : List ℕ). TakesTurn lower (rising_keys runs) bound before true one after) (sym is)
        (subst (λ (ranges : List KeyRange). TakesTurn lower (rising_keys runs) bound before true end ranges) (sym pushed) (
          append_one before range (drop_runs lower (left end (rising_keys runs)))
              ∙ ap (λ one. before ++ range_to one range.last ∷ drop_runs lower (left end (rising_keys runs))) first
              ∙ ap (λ ranges. before ++ ranges) (sym (before_stays lower runs bound k is_least end range.last begins raised)),
          before_fewer lower runs bound k is_least end range.last begins raised,
        ))

    pub turn_behind : (next : List ℕ) (range : KeyRange) (after : List KeyRange) → EndBelow lower k → range.first ≡ k → IsRaised (is_before_end None) (flat_map keys_of runs) k range.last
        → after ≡ before ++ range ∷ [] → TakesTurn lower (rising_keys runs) bound before false next after
    turn_behind next range after ends first raised pushed =
        pushed ∙ ap (λ one. before ++ range_to one range.last ∷ []) first
        ∙ ap (λ ranges. before ++ ranges) (sym (behind_all lower runs bound k is_least range.last ends raised))
