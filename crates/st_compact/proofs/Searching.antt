-- Searches by halves.
use Rattle.std.proofs.Common.{◌≡◌, ℕ, zero, suc, ◌<◌, ◌≤◌, Bool, true, false, ◌&&◌, List, [], ◌∷◌, length, get_or, sym, subst, ◌∙◌, inl, inr, arith}
use Rattle.std.specs.Prelude.{nat_lt, nat_le}
use Rattle.std.specs.List.{prefix_len}
use Rattle.std.proofs.lemmas.Bool.{cases_Bool, cases_lt, false≢true, and_left, and_right, and_from, lt-ltb, le-ltb, le-leb, lt-leb, ltb-true, ltb-false}
use Rattle.std.proofs.lemmas.List.Elements.{All-from_get_or}
use Rattle.std.proofs.lemmas.List.Folds.{list_any_none, list_any_at}
use Rattle.std.proofs.lemmas.List.Sums.{prefix_len_passes, prefix_len_stops}
use Rattle.st_base.specs.Bytes.{at_most, below}
use Rattle.st_base.specs.declared.entry.KeyRange.{KeyRange}
use Rattle.st_order.specs.Columns.{Pairwise}
use Rattle.job_model.specs.Column.{is_read_between}
use Rattle.job_model.specs.Drops.{covers}
use Rattle.st_base.specs.Range.{is_in_range}
use Rattle.st_order.proofs.Halves.{each_at}
use Rattle.base_laws.proofs.Keys.{at_most_below, below_at_most, below_at_most_below, below_not, not_below}
use Rattle.job_model.specs.Drops.{AreApart, DontFall}
use Rattle.st_compact.specs.Search.{numbers_below, ranges_below}

pair_at : {X : Type 0} (R : X → X → Type 0) (xs : List X) (i j : ℕ) (d : X) → Pairwise R xs → i < j → j < length xs → R (get_or xs i d) (get_or xs j d)
pair_at R [] i j d pairs lt long = absurd (omega arith)
pair_at R (x ∷ xs) zero zero d pairs lt long = absurd (omega arith)
pair_at R (x ∷ xs) zero (suc j) d pairs lt long = each_at (R x) xs j d pairs.0 (omega arith)
pair_at R (x ∷ xs) (suc i) zero d pairs lt long = absurd (omega arith)
pair_at R (x ∷ xs) (suc i) (suc j) d pairs lt long = pair_at R xs i j d pairs.1 (omega arith) (omega arith)

-- a test that holds of no element behind one that it fails of: how many it holds of in front
module _ {X : Type 0} (test : X → Bool) (xs : List X) (d : X) (falls : (i j : ℕ) → i ≤ j → j < length xs → test (get_or xs j d) ≡ true → test (get_or xs i d) ≡ true) where
  pub half_low : (m : ℕ) → m < length xs → test (get_or xs m d) ≡ true → m < prefix_len test xs
  half_low m lt low = elim (cases_lt m (prefix_len test xs)) [
    | inl less ↦ less
    | inr more ↦
        let stop : test (get_or xs (prefix_len test xs) d) ≡ false = prefix_len_stops test xs d (omega arith) in
        absurd (false≢true (sym stop ∙ falls (prefix_len test xs) m more lt low))
  ]

  pub half_high : (m : ℕ) → test (get_or xs m d) ≡ false → prefix_len test xs ≤ m
  half_high m high = elim (cases_lt m (prefix_len test xs)) [
    | inl less ↦ absurd (false≢true (sym high ∙ prefix_len_passes test xs m d less))
    | inr more ↦ more
  ]

-- ---- live numbers

module _ (live : List ℕ) (rise : DontFall live) (number : ℕ) where
  rises : (i j : ℕ) → i ≤ j → j < length live → get_or live i 0 ≤ get_or live j 0
  rises i j le lt = elim (cases_lt i j) [
    | inl less ↦ pair_at (λ (one other : ℕ). one ≤ other) live i j 0 rise less lt
    | inr more ↦ let same : i ≡ j = omega arith in subst (λ n. get_or live i 0 ≤ get_or live n 0) same (omega arith)
  ]

  numbers_fall : (i j : ℕ) → i ≤ j → j < length live → nat_lt (get_or live j 0) number ≡ true → nat_lt (get_or live i 0) number ≡ true
  numbers_fall i j le lt e = let less : get_or live j 0 < number = ltb-true (get_or live j 0) number e in let up = rises i j le lt in lt-ltb (get_or live i 0) number (omega arith)

  pub number_low : (m : ℕ) → m < length live → get_or live m 0 < number → m < numbers_below number live
  number_low m lt less = half_low (λ s. nat_lt s number) live 0 numbers_fall m lt (lt-ltb (get_or live m 0) number less)

  pub number_high : (m : ℕ) → number ≤ get_or live m 0 → numbers_below number live ≤ m
  number_high m le = half_high (λ s. nat_lt s number) live 0 numbers_fall m (le-ltb (get_or live m 0) number le)

  module _ (before : ℕ) where
    abbrev test : ℕ → Bool
    test s = nat_le number s && nat_lt s before

    in_front : (i : ℕ) → i < numbers_below number live → test (get_or live i 0) ≡ false
    in_front i lt = let less : get_or live i 0 < number = ltb-true (get_or live i 0) number (prefix_len_passes (λ s. nat_lt s number) live i 0 lt) in and_left (nat_le number (get_or live i 0)) (nat_lt (get_or live i 0) before) (lt-leb number (get_or live i 0) less)

    pub none_read : length live ≤ numbers_below number live → false ≡ is_read_between live number before
    none_read le = sym (list_any_none test live (All-from_get_or (λ s. test s ≡ false) live 0 (λ i lt. in_front i (omega arith))))

    pub one_read : (i : ℕ) → i ≡ numbers_below number live → i < length live → nat_lt (get_or live i 0) before ≡ is_read_between live number before
    one_read i at lt = elim (cases_Bool (nat_lt (get_or live i 0) before)) [
      | inl low ↦
          let up : number ≤ get_or live i 0 = ltb-false (get_or live i 0) number (subst (λ n. nat_lt (get_or live n 0) number ≡ false) (sym at) (prefix_len_stops (λ s. nat_lt s number) live 0 (omega arith))) in
          low ∙ sym (list_any_at test live i 0 lt (and_from (nat_le number (get_or live i 0)) (nat_lt (get_or live i 0) before) (le-leb number (get_or live i 0) up) low))
      | inr high ↦
          high ∙ sym (list_any_none test live (All-from_get_or (λ s. test s ≡ false) live 0 (λ j long. elim (cases_lt j i) [
            | inl less ↦ in_front j (omega arith)
            | inr more ↦
                let over : before ≤ get_or live i 0 = ltb-false (get_or live i 0) before high in
                let up = rises i j more long in
                and_right (nat_le number (get_or live j 0)) (nat_lt (get_or live j 0) before) (le-ltb (get_or live j 0) before (omega arith))
          ])))
    ]

-- ---- drop ranges

abbrev pub none : KeyRange
none = record { first = []; last = [] }

module _ (ranges : List KeyRange) (are : AreApart ranges) (key : List ℕ) where
  abbrev at : ℕ → KeyRange
  at i = get_or ranges i none

  end_front : (i j : ℕ) → i < j → j < length ranges → below (at i).last (at j).first ≡ true
  end_front i j lt long = pair_at (λ (one other : KeyRange). below one.last other.first ≡ true) ranges i j none are.apart lt long

  proper : (i : ℕ) → i < length ranges → at_most (at i).first (at i).last ≡ true
  proper i lt = each_at (λ (range : KeyRange). at_most range.first range.last ≡ true) ranges i none are.proper lt

  ends_fall : (i j : ℕ) → i ≤ j → j < length ranges → below (at j).last key ≡ true → below (at i).last key ≡ true
  ends_fall i j le lt e = elim (cases_lt i j) [
    | inl less ↦ at_most_below (at i).last (at j).last key (below_at_most (at i).last (at j).last (below_at_most_below (at i).last (at j).first (at j).last (end_front i j less lt) (proper j lt))) e
    | inr more ↦ let same : j ≡ i = omega arith in subst (λ n. below (at n).last key ≡ true) same e
  ]

  pub range_low : (m : ℕ) → m < length ranges → below (at m).last key ≡ true → m < ranges_below key ranges
  range_low m lt e = half_low (λ (range : KeyRange). below range.last key) ranges none ends_fall m lt e

  pub range_high : (m : ℕ) → below (at m).last key ≡ false → ranges_below key ranges ≤ m
  range_high m e = half_high (λ (range : KeyRange). below range.last key) ranges none ends_fall m e

  ended : (i : ℕ) → i < ranges_below key ranges → is_in_range (at i) key ≡ false
  ended i lt = and_right (at_most (at i).first key) (at_most key (at i).last) (below_not (at i).last key (prefix_len_passes (λ (range : KeyRange). below range.last key) ranges i none lt))

  pub none_covers : length ranges ≤ ranges_below key ranges → false ≡ covers ranges key
  none_covers le = sym (list_any_none (λ range. is_in_range range key) ranges (All-from_get_or (λ (range : KeyRange). is_in_range range key ≡ false) ranges none (λ i lt. ended i (omega arith))))

  pub one_covers : (i : ℕ) → i ≡ ranges_below key ranges → i < length ranges → at_most (at i).first key ≡ covers ranges key
  one_covers i index lt =
      let reaches : at_most key (at i).last ≡ true = not_below (at i).last key (subst (λ n. below (at n).last key ≡ false) (sym index) (prefix_len_stops (λ (range : KeyRange). below range.last key) ranges none (omega arith))) in
      elim (cases_Bool (at_most (at i).first key)) [
        | inl low ↦ low ∙ sym (list_any_at (λ range. is_in_range range key) ranges i none lt (and_from (at_most (at i).first key) (at_most key (at i).last) low reaches))
        | inr high ↦
            high ∙ sym (list_any_none (λ range. is_in_range range key) ranges (All-from_get_or (λ (range : KeyRange). is_in_range range key ≡ false) ranges none (λ j long. elim (cases_lt j i) [
              | inl less ↦ ended j (omega arith)
              | inr more ↦ elim (cases_lt i j) [
                | inl later ↦ and_left (at_most (at j).first key) (at_most key (at j).last) (below_not key (at j).first (at_most_below key (at i).last (at j).first reaches (end_front i j later long)))
                | inr back ↦ let same : i ≡ j = omega arith in subst (λ n. is_in_range (at n) key ≡ false) same (and_left (at_most (at i).first key) (at_most key (at i).last) high)
              ]
            ])))
      ]
