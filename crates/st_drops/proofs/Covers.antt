-- How far ranges cover keys: those of two lists, and those of runs that stand by key.
use Rattle.std.proofs.Common.{◌≡◌, ℕ, ◌<◌, ◌≤◌, Bool, true, false, ◌&&◌, ◌||◌, List, [], ◌++◌, length, map, sym, subst, ◌∙◌, inl, inr, arith}
use Rattle.std.specs.List.{list_any, AllByRecursion as Each}
use Rattle.std.proofs.lemmas.Bool.{and_from, cases_lt, or_cases}
use Rattle.std.proofs.lemmas.List.Folds.{list_any_at}
use Rattle.std.proofs.lemmas.List.Sums.{prefix_len_passes, prefix_len_stops}
use Rattle.st_base.specs.Bytes.{at_most, below, same}
use Rattle.st_base.specs.Range.{is_in_range, key_at_end, key_at_front, range_of}
use Rattle.st_base.specs.declared.entry.Entry.{Entry}
use Rattle.st_base.specs.declared.entry.KeyRange.{KeyRange}
use Rattle.st_base.proofs.Same.{same_self}
use Rattle.base_laws.proofs.Keys.{at_most_trans, below_at_most, not_at_most, not_below}
use Rattle.base_laws.proofs.Lists.{any_left, any_right, each_as, each_join, each_map}
use Rattle.base_laws.proofs.Ranges.{within_from}
use Rattle.job_model.specs.ByKey.{IsByKey, ends_below, runs_before}
use Rattle.st_level.proofs.ByKey.{fronts_rise, proper, run}
use Rattle.st_drops.specs.Covers.{CoversNoneBefore, EndBelow, CoversThrough}
use Rattle.st_drops.proofs.Lists.{any_map, each_from, or_left, or_right}

-- ---- two lists

-- the range ends below the key, or begins at or after this one
abbrev Clear : List ℕ → List ℕ → KeyRange → Type 0
Clear key first range = (below range.last key || at_most first range.first) ≡ true

clear_ends : (key first : List ℕ) (ranges : List KeyRange) → EndBelow ranges key → Each (Clear key first) ranges
clear_ends key first ranges ends = each_as (λ (range : KeyRange). below range.last key ≡ true) (Clear key first) (λ range e. or_left (below range.last key) (at_most first range.first) e) ranges ends

clear_more : (key first second : List ℕ) (ranges : List KeyRange) → at_most second first ≡ true → Each (Clear key first) ranges → Each (Clear key second) ranges
clear_more key first second ranges le clear =
    each_as (Clear key first) (Clear key second) (λ range e. elim (or_cases (below range.last key) (at_most first range.first) e) [
      | inl under ↦ or_left (below range.last key) (at_most second range.first) under
      | inr over ↦ or_right (below range.last key) (at_most second range.first) (at_most_trans second first range.first le over)
    ]) ranges clear

abbrev is_start : List ℕ → KeyRange → Bool
is_start first range = same range.first first && at_most range.first range.last

module _ (key : List ℕ) (front back : List KeyRange) where
  pub lies_front : (last : List ℕ) → CoversThrough front key last → CoversThrough (front ++ back) key last
  lies_front last lies = any_left (λ range. is_in_range range key && same range.last last) front back lies

  pub lies_back : (last : List ℕ) → CoversThrough back key last → CoversThrough (front ++ back) key last
  lies_back last lies = any_right (λ range. is_in_range range key && same range.last last) front back lies

  pub second_begins : (first second : List ℕ) → CoversNoneBefore front key first → CoversNoneBefore back key second → below second first ≡ true → CoversNoneBefore (front ++ back) key second
  second_begins first second one two less = record {
    begins = any_right (is_start second) front back two.begins;
    above = two.above;
    clear = each_join (Clear key second) front back (clear_more key first second front (below_at_most second first less) one.clear) two.clear;
  }

  pub first_begins : (first second : List ℕ) → CoversNoneBefore front key first → CoversNoneBefore back key second → below second first ≡ false → CoversNoneBefore (front ++ back) key first
  first_begins first second one two more = record {
    begins = any_left (is_start first) front back one.begins;
    above = one.above;
    clear = each_join (Clear key first) front back one.clear (clear_more key second first back (not_below second first more) two.clear);
  }

  pub front_begins : (first : List ℕ) → CoversNoneBefore front key first → EndBelow back key → CoversNoneBefore (front ++ back) key first
  front_begins first one ends = record {
    begins = any_left (is_start first) front back one.begins;
    above = one.above;
    clear = each_join (Clear key first) front back one.clear (clear_ends key first back ends);
  }

  pub back_begins : (second : List ℕ) → EndBelow front key → CoversNoneBefore back key second → CoversNoneBefore (front ++ back) key second
  back_begins second ends two = record {
    begins = any_right (is_start second) front back two.begins;
    above = two.above;
    clear = each_join (Clear key second) front back (clear_ends key second front ends) two.clear;
  }

  pub both_end : EndBelow front key → EndBelow back key → EndBelow (front ++ back) key
  both_end one two = each_join (λ (range : KeyRange). below range.last key ≡ true) front back one two

-- ---- runs that stand by key

module _ (runs : List (List Entry)) (by_key : IsByKey runs) (key : List ℕ) where
  in_front : (i : ℕ) → i < runs_before key runs → below (key_at_end (run runs i)) key ≡ true
  in_front i lt = prefix_len_passes (ends_below key) runs i [] lt

  pub all_end : length runs ≤ runs_before key runs → EndBelow (map range_of runs) key
  all_end le =
      each_map (λ (range : KeyRange). below range.last key ≡ true) range_of runs
      (each_from (λ (entries : List Entry). below (key_at_end entries) key ≡ true) runs [] (λ i lt. in_front i (omega arith)))

  module _ (i : ℕ) (at : i ≡ runs_before key runs) (lt : i < length runs) where
    reaches : at_most key (key_at_end (run runs i)) ≡ true
    reaches = not_below (key_at_end (run runs i)) key (subst (λ n. below (key_at_end (run runs n)) key ≡ false) (sym at) (prefix_len_stops (ends_below key) runs [] (omega arith)))

    any_here : (test : KeyRange → Bool) → test (range_of (run runs i)) ≡ true → list_any test (map range_of runs) ≡ true
    any_here test e = any_map test range_of runs ∙ list_any_at (λ (entries : List Entry). test (range_of entries)) runs i [] lt e

    pub lies : at_most (key_at_front (run runs i)) key ≡ true → CoversThrough (map range_of runs) key (key_at_end (run runs i))
    lies low =
        any_here (λ range. is_in_range range key && same range.last (key_at_end (run runs i)))
        (and_from (is_in_range (range_of (run runs i)) key) (same (key_at_end (run runs i)) (key_at_end (run runs i)))
        (within_from (range_of (run runs i)) key low reaches) (same_self (key_at_end (run runs i))))

    pub begins : at_most (key_at_front (run runs i)) key ≡ false → CoversNoneBefore (map range_of runs) key (key_at_front (run runs i))
    begins high = record {
      begins = any_here (is_start (key_at_front (run runs i)))
          (and_from (same (key_at_front (run runs i)) (key_at_front (run runs i))) (at_most (key_at_front (run runs i)) (key_at_end (run runs i))) (same_self (key_at_front (run runs i))) (proper runs by_key i lt));
      above = not_at_most (key_at_front (run runs i)) key high;
      clear = each_map (Clear key (key_at_front (run runs i))) range_of runs
          (each_from (λ (entries : List Entry). Clear key (key_at_front (run runs i)) (range_of entries)) runs [] (λ j long. elim (cases_lt j i) [
            | inl less ↦ or_left (below (key_at_end (run runs j)) key) (at_most (key_at_front (run runs i)) (key_at_front (run runs j))) (in_front j (omega arith))
            | inr more ↦ or_right (below (key_at_end (run runs j)) key) (at_most (key_at_front (run runs i)) (key_at_front (run runs j))) (fronts_rise runs by_key i j more long)
          ]));
    }
