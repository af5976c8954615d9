-- Runs that stand by key.
use Rattle.std.proofs.Common.{◌≡◌, ℕ, zero, suc, ◌<◌, ◌≤◌, Bool, true, false, List, [], ◌∷◌, length, get_or, sym, subst, ◌∙◌, inl, inr, arith}
use Rattle.std.specs.List.{list_any}
use Rattle.std.proofs.lemmas.Bool.{cases_Bool, cases_lt, false≢true, and_left, and_right, and_from}
use Rattle.std.proofs.lemmas.List.Elements.{All-from_get_or}
use Rattle.std.proofs.lemmas.List.Folds.{list_any_none, list_any_at}
use Rattle.std.proofs.lemmas.List.Sums.{prefix_len_passes, prefix_len_stops}
use Rattle.st_base.specs.Bytes.{at_most, below}
use Rattle.st_base.specs.Order.{in_order}
use Rattle.st_base.specs.declared.entry.Entry.{Entry}
use Rattle.st_base.specs.Range.{range_of, key_at_front, key_at_end}
use Rattle.st_order.specs.Columns.{Pairwise}
use Rattle.st_order.specs.Order.{between}
use Rattle.st_order.proofs.Halves.{each_at}
use Rattle.base_laws.proofs.Keys.{at_most_itself, at_most_below, at_most_trans, below_at_most, below_at_most_below, below_not, not_at_most, not_below}
use Rattle.base_laws.proofs.Ranges.{range_is_proper}
use Rattle.job_model.specs.ByKey.{IsByKey, ends_below, runs_before}
use Rattle.job_model.specs.Level.{run_meets}

module _ {X : Type 0} where
  pub pair_at : (R : X → X → Type 0) (xs : List X) (i j : ℕ) (d : X) → Pairwise R xs → i < j → j < length xs → R (get_or xs i d) (get_or xs j d)
  pair_at R [] i j d pairs lt long = absurd (omega arith)
  pair_at R (x ∷ xs) zero zero d pairs lt long = absurd (omega arith)
  pair_at R (x ∷ xs) zero (suc j) d pairs lt long = each_at (R x) xs j d pairs.0 (omega arith)
  pair_at R (x ∷ xs) (suc i) zero d pairs lt long = absurd (omega arith)
  pair_at R (x ∷ xs) (suc i) (suc j) d pairs lt long = pair_at R xs i j d pairs.1 (omega arith) (omega arith)

abbrev pub run : List (List Entry) → ℕ → List Entry
run runs i = get_or runs i []

module _ (runs : List (List Entry)) (by_key : IsByKey runs) where
  pub proper : (i : ℕ) → i < length runs → at_most (key_at_front (run runs i)) (key_at_end (run runs i)) ≡ true
  proper i lt = range_is_proper (run runs i) (each_at (λ (entries : List Entry). in_order entries ≡ true) runs i [] by_key.ordered lt)

  -- an end is below each later front
  pub end_front : (i j : ℕ) → i < j → j < length runs → below (key_at_end (run runs i)) (key_at_front (run runs j)) ≡ true
  end_front i j lt long = pair_at (λ (one other : List Entry). below (range_of one).last (range_of other).first ≡ true) runs i j [] by_key.apart lt long

  pub ends_rise : (i j : ℕ) → i ≤ j → j < length runs → at_most (key_at_end (run runs i)) (key_at_end (run runs j)) ≡ true
  ends_rise i j le long = elim (cases_lt i j) [
    | inl less ↦ below_at_most (key_at_end (run runs i)) (key_at_end (run runs j)) (below_at_most_below (key_at_end (run runs i)) (key_at_front (run runs j)) (key_at_end (run runs j)) (end_front i j less long) (proper j long))
    | inr more ↦ let same : i ≡ j = omega arith in subst (λ n. at_most (key_at_end (run runs i)) (key_at_end (run runs n)) ≡ true) same (at_most_itself (key_at_end (run runs i)))
  ]

  pub fronts_rise : (i j : ℕ) → i ≤ j → j < length runs → at_most (key_at_front (run runs i)) (key_at_front (run runs j)) ≡ true
  fronts_rise i j le long = elim (cases_lt i j) [
    | inl less ↦ below_at_most (key_at_front (run runs i)) (key_at_front (run runs j)) (at_most_below (key_at_front (run runs i)) (key_at_end (run runs i)) (key_at_front (run runs j)) (proper i (omega arith)) (end_front i j less long))
    | inr more ↦ let same : i ≡ j = omega arith in subst (λ n. at_most (key_at_front (run runs i)) (key_at_front (run runs n)) ≡ true) same (at_most_itself (key_at_front (run runs i)))
  ]

  module _ (key : List ℕ) where
    -- the search by halves
    pub half_low : (m : ℕ) → m < length runs → below (key_at_end (run runs m)) key ≡ true → m < runs_before key runs
    half_low m lt low = elim (cases_lt m (runs_before key runs)) [
      | inl less ↦ less
      | inr more ↦
          let stop : ends_below key (run runs (runs_before key runs)) ≡ false = prefix_len_stops (ends_below key) runs [] (omega arith) in
          absurd (false≢true (sym stop ∙ Rattle.base_laws.proofs.Keys.at_most_below (key_at_end (run runs (runs_before key runs))) (key_at_end (run runs m)) key (ends_rise (runs_before key runs) m more lt) low))
    ]

    pub half_high : (m : ℕ) → below (key_at_end (run runs m)) key ≡ false → runs_before key runs ≤ m
    half_high m high = elim (cases_lt m (runs_before key runs)) [
      | inl less ↦ absurd (false≢true (sym high ∙ prefix_len_passes (ends_below key) runs m [] less))
      | inr more ↦ more
    ]

  -- ---- whether one meets a range

  module _ (first last : List ℕ) where
    abbrev test : List Entry → Bool
    test entries = run_meets (between first last) entries

    in_front : (i : ℕ) → i < runs_before first runs → test (run runs i) ≡ false
    in_front i lt =
        and_right (at_most (key_at_front (run runs i)) last) (at_most first (key_at_end (run runs i)))
        (below_not (key_at_end (run runs i)) first (prefix_len_passes (ends_below first) runs i [] lt))

    pub none_meets : length runs ≤ runs_before first runs → list_any test runs ≡ false
    none_meets le = list_any_none test runs (All-from_get_or (λ (entries : List Entry). test entries ≡ false) runs [] (λ i lt. in_front i (omega arith)))

    pub one_meets : (i : ℕ) → i ≡ runs_before first runs → i < length runs → list_any test runs ≡ at_most (key_at_front (run runs i)) last
    one_meets i at lt = elim (cases_Bool (at_most (key_at_front (run runs i)) last)) [
      | inl low ↦
          let stop : below (key_at_end (run runs i)) first ≡ false = subst (λ n. below (key_at_end (run runs n)) first ≡ false) (sym at) (prefix_len_stops (ends_below first) runs [] (omega arith)) in
          list_any_at test runs i [] lt (and_from (at_most (key_at_front (run runs i)) last) (at_most first (key_at_end (run runs i))) low (not_below (key_at_end (run runs i)) first stop)) ∙ sym low
      | inr high ↦
          list_any_none test runs (All-from_get_or (λ (entries : List Entry). test entries ≡ false) runs [] (λ j long. elim (cases_lt j i) [
            | inl less ↦ in_front j (omega arith)
            | inr more ↦
                and_left (at_most (key_at_front (run runs j)) last) (at_most first (key_at_end (run runs j)))
                (below_not last (key_at_front (run runs j)) (below_at_most_below last (key_at_front (run runs i)) (key_at_front (run runs j)) (not_at_most (key_at_front (run runs i)) last high) (fronts_rise i j more long)))
          ])) ∙ sym high
    ]
