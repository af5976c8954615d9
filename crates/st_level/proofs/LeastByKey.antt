-- The least key in a range, in runs that stand by key.
use Rattle.std.proofs.Common.{◌≡◌, ℕ, ◌<◌, ◌≤◌, Bool, true, false, cond, not, List, [], ◌∷◌, length, get_or, Some, None, refl, sym, ap, subst, ◌∙◌, inl, inr, arith}
use Rattle.std.specs.Prelude.{slice_get}
use Rattle.std.specs.List.{position, position_or_len}
use Rattle.std.proofs.lemmas.Bool.{cases_lt, false≢true, lt-ltb, and_left, and_right, not-true}
use Rattle.std.proofs.lemmas.List.Quantifiers.{position-Some}
use Rattle.std.proofs.lemmas.List.Sums.{prefix_len_passes, prefix_len_stops}
use Rattle.std.proofs.lemmas.Option.{slice_get-get_or, unwrap_or-slice_get}
use Rattle.st_base.specs.Bytes.{at_most, below}
use Rattle.st_base.specs.Order.{in_order}
use Rattle.st_base.specs.declared.entry.Entry.{Entry}
use Rattle.st_base.specs.Range.{is_in_range, key_at_front, key_at_end}
use Rattle.st_order.specs.Order.{between, first_index_in}
use Rattle.st_order.proofs.Halves.{each_at, keys_rise}
use Rattle.base_laws.proofs.Keys.{at_most_below, below_at_most, below_at_most_below, below_not, not_at_most, not_below}
use Rattle.st_level.specs.Found.{entry_in_run, FindsLeast}
use Rattle.job_model.specs.ByKey.{IsByKey, ends_below, runs_before}
use Rattle.st_level.proofs.ByKey.{run, end_front}
use Rattle.st_order.proofs.Ends.{end_at}
use Rattle.st_order.proofs.Least.{position_none_at}
use Rattle.st_level.proofs.Lesser.{entry_there, least_is, least_none}

-- a key lies between the ends of its run
pub under_end : (entries : List Entry) (i : ℕ) (d : Entry) → in_order entries ≡ true → i < length entries → at_most (get_or entries i d).key (key_at_end entries) ≡ true
under_end [] i d ordered lt = absurd (omega arith)
under_end (entry ∷ entries) i d ordered lt =
    subst (λ key. at_most (get_or (entry ∷ entries) i d).key key ≡ true) (sym (end_at entry entries d)) (keys_rise (entry ∷ entries) i (length entries) d ordered (omega arith) (omega arith))

pub over_front : (entries : List Entry) (i : ℕ) (d : Entry) → in_order entries ≡ true → i < length entries → at_most (key_at_front entries) (get_or entries i d).key ≡ true
over_front [] i d ordered lt = absurd (omega arith)
over_front (entry ∷ entries) i d ordered lt = keys_rise (entry ∷ entries) 0 i d ordered (omega arith) lt

module _ (runs : List (List Entry)) (by_key : IsByKey runs) (first last : List ℕ) where
  ordered_at : (t : ℕ) → t < length runs → in_order (run runs t) ≡ true
  ordered_at t lt = each_at (λ (entries : List Entry). in_order entries ≡ true) runs t [] by_key.ordered lt

  in_front : (t i : ℕ) (entry : Entry) → t < runs_before first runs → entry_in_run runs t i ≡ Some entry → is_in_range (between first last) entry.key ≡ false
  in_front t i entry lt at =
      let here = entry_there runs t i entry at in
      let under = subst (λ (x : Entry). at_most x.key (key_at_end (run runs t)) ≡ true) here.2 (under_end (run runs t) i entry (ordered_at t here.0) here.1) in
      and_left (at_most first entry.key) (at_most entry.key last)
      (below_not entry.key first (at_most_below entry.key (key_at_end (run runs t)) first under (prefix_len_passes (ends_below first) runs t [] lt)))

  pub none_reached : length runs ≤ runs_before first runs → FindsLeast (between first last) runs None
  none_reached le = least_none (between first last) runs (λ t i entry at. let here = entry_there runs t i entry at in in_front t i entry (omega (arith, here.0)) at)

  module _ (t : ℕ) (at_t : t ≡ runs_before first runs) (lt : t < length runs) where
    -- entries of later runs are above each of this one
    behind : (u j : ℕ) (other : Entry) (i : ℕ) (d : Entry) → t < u → entry_in_run runs u j ≡ Some other → i < length (run runs t) → below (get_or (run runs t) i d).key other.key ≡ true
    behind u j other i d later at long =
        let there = entry_there runs u j other at in
        let over = subst (λ (x : Entry). at_most (key_at_front (run runs u)) x.key ≡ true) there.2 (over_front (run runs u) j other (ordered_at u there.0) there.1) in
        at_most_below (get_or (run runs t) i d).key (key_at_end (run runs t)) other.key (under_end (run runs t) i d (ordered_at t lt) long)
        (below_at_most_below (key_at_end (run runs t)) (key_at_front (run runs u)) other.key (end_front runs by_key t u later there.0) over)

    pub found_there : (i : ℕ) → Some i ≡ first_index_in (between first last) (run runs t) → FindsLeast (between first last) runs (Some (t, i))
    found_there i is =
        let entries = run runs t in
        let d : Entry = record { key = []; number = 0; mark = Rattle.st_base.specs.declared.entry.Mark.TheVariants.Gone } in
        let parts = position-Some (λ (x : Entry). is_in_range (between first last) x.key) entries i d (sym is) in
        let entry = get_or entries i d in
        let at : entry_in_run runs t i ≡ Some entry = ap (λ (found : List Entry). slice_get found i) (unwrap_or-slice_get runs t []) ∙ slice_get-get_or entries i d parts.0 in
        (entry.key, record { entry = entry; there = at; key_is = refl }, least_is (between first last) runs t i entry at parts.1 (λ u j other there within. others entries d entry i parts.0 parts.2 refl u j other there within))
      where
        others : (entries : List Entry) (d entry : Entry) (i : ℕ) → i < length (run runs t) → ((k : ℕ) → k < i → is_in_range (between first last) (get_or (run runs t) k d).key ≡ false) → get_or (run runs t) i d ≡ entry
            → (u j : ℕ) (other : Entry) → entry_in_run runs u j ≡ Some other → is_in_range (between first last) other.key ≡ true → at_most entry.key other.key ≡ true
        others entries d entry i long before is u j other there within = elim (cases_lt u t) [
          | inl less ↦ absurd (false≢true (sym (in_front u j other (omega arith) there) ∙ within))
          | inr more ↦ elim (cases_lt t u) [
            | inl later ↦ subst (λ (x : Entry). at_most x.key other.key ≡ true) is (below_at_most (get_or (run runs t) i d).key other.key (behind u j other i d later there long))
            | inr back ↦
                let same : t ≡ u = omega arith in
                let here = entry_there runs t j other (subst (λ n. entry_in_run runs n j ≡ Some other) (sym same) there) in
                let at_d : get_or (run runs t) j d ≡ other = Rattle.std.proofs.lemmas.List.get_or_default (run runs t) j d other here.1 ∙ here.2 in
                elim (cases_lt j i) [
                  | inl less ↦ absurd (false≢true (sym (before j less) ∙ subst (λ (x : Entry). is_in_range (between first last) x.key ≡ true) (sym at_d) within))
                  | inr up ↦ subst (λ (x : Entry). at_most x.key other.key ≡ true) is
                      (subst (λ (x : Entry). at_most (get_or (run runs t) i d).key x.key ≡ true) at_d (keys_rise (run runs t) i j d (ordered_at t lt) up here.1))
                ]
          ]
        ]

    pub none_there : None ≡ first_index_in (between first last) (run runs t) → FindsLeast (between first last) runs None
    none_there is = least_none (between first last) runs (λ u j other there. elim (cases_lt u t) [
      | inl less ↦ in_front u j other (omega arith) there
      | inr more ↦ elim (cases_lt t u) [
        | inl later ↦ outside u j other later there
        | inr back ↦
            let same : t ≡ u = omega arith in
            let here = entry_there runs t j other (subst (λ n. entry_in_run runs n j ≡ Some other) (sym same) there) in
            subst (λ (x : Entry). is_in_range (between first last) x.key ≡ false) here.2 (position_none_at (λ (x : Entry). is_in_range (between first last) x.key) (run runs t) other (sym is) j here.1)
      ]
    ])
      where
        filled : 0 < length (run runs t)
        filled = each_at (λ (entries : List Entry). 0 < length entries) runs t [] by_key.filled lt

        -- the last entry is at least the first key, and not in the range
        last_above : (entries : List Entry) → run runs t ≡ entries → 0 < length entries → below last (key_at_end entries) ≡ true
        last_above [] e long = absurd (omega arith)
        last_above (entry ∷ entries) e long =
            let end = key_at_end (entry ∷ entries) in
            let reaches : at_most first end ≡ true = not_below end first (subst (λ (found : List Entry). below (key_at_end found) first ≡ false) e (subst (λ n. below (key_at_end (run runs n)) first ≡ false) (sym at_t) (prefix_len_stops (ends_below first) runs [] (omega arith)))) in
            let out : is_in_range (between first last) end ≡ false = subst (λ key. is_in_range (between first last) key ≡ false) (sym (end_at entry entries entry))
            (position_none_at (λ (x : Entry). is_in_range (between first last) x.key) (entry ∷ entries) entry (subst (λ (found : List Entry). first_index_in (between first last) found ≡ None) e (sym is)) (length entries) (omega arith)) in
            not_at_most end last (high (at_most first end) (at_most end last) reaches out)
          where
            high : (a b : Bool) → a ≡ true → Rattle.std.specs.Prelude.◌&&◌ a b ≡ false → b ≡ false
            high true b e f = f
            high false b e f = absurd cc

        outside : (u j : ℕ) (other : Entry) → t < u → entry_in_run runs u j ≡ Some other → is_in_range (between first last) other.key ≡ false
        outside u j other later there =
            let here = entry_there runs u j other there in
            let over = subst (λ (x : Entry). at_most (key_at_front (run runs u)) x.key ≡ true) here.2 (over_front (run runs u) j other (ordered_at u here.0) here.1) in
            and_right (at_most first other.key) (at_most other.key last)
            (below_not last other.key (below_at_most_below last (key_at_end (run runs t)) other.key (last_above (run runs t) refl filled)
            (below_at_most (key_at_end (run runs t)) other.key (below_at_most_below (key_at_end (run runs t)) (key_at_front (run runs u)) other.key (end_front runs by_key t u later here.0) over))))
