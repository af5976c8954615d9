-- The least key in a range, told by the indexes of entries.
use Rattle.std.proofs.Common.{◌≡◌, ℕ, zero, suc, ◌<◌, ◌⊎◌, Bool, true, false, cond, not, List, [], ◌∷◌, ◌++◌, flat_map, filter, length, get_or, Option, Some, None, Ordering, Less, Equal, Greater, refl, sym, ap, subst, ◌∙◌, inl, inr, arith}
use Rattle.std.specs.Prelude.{fold, slice_get}
use Rattle.std.specs.List.{AllByRecursion as Each}
use Rattle.std.specs.Ordering.{is_lt, is_le}
use Rattle.std.proofs.lemmas.Bool.{cases_lt, false≢true}
use Rattle.std.proofs.lemmas.List.{get_or_past}
use Rattle.std.proofs.lemmas.Map.Lookups.{exact_bytes}
use Rattle.std.proofs.lemmas.Option.{unwrap_or-slice_get}
use Rattle.st_base.specs.Bytes.{bytes_cmp, at_most, below}
use Rattle.st_base.specs.declared.entry.Entry.{Entry}
use Rattle.st_base.specs.declared.entry.KeyRange.{KeyRange}
use Rattle.st_base.specs.Range.{is_in_range, keys_of}
use Rattle.st_order.specs.Least.{lesser_key, least_within}
use Rattle.base_laws.proofs.Lists.{each_join, each_passing}
use Rattle.st_order.proofs.Halves.{get_there}
use Rattle.st_order.proofs.Least.{Has, each_keys, filter_none, fold_takes, has_filter, has_keys}
use Rattle.base_laws.proofs.Keys.{at_most_flips, below_flips, not_below}
use Rattle.st_level.specs.Found.{entry_in_run}
use Rattle.st_level.proofs.ByKey.{run}

-- ---- members of lists

module _ {X : Type 0} where
  has_left : (k : X) (xs ys : List X) → Has k xs → Has k (xs ++ ys)
  has_left k [] ys has = absurd has
  has_left k (x ∷ xs) ys (inl here) = inl here
  has_left k (x ∷ xs) ys (inr there) = inr (has_left k xs ys there)

  has_right : (k : X) (xs ys : List X) → Has k ys → Has k (xs ++ ys)
  has_right k [] ys has = has
  has_right k (x ∷ xs) ys has = inr (has_right k xs ys has)

-- ---- entries by their indexes

pub each_flat : (P : List ℕ → Type 0) (runs : List (List Entry)) → ((t i : ℕ) (entry : Entry) → entry_in_run runs t i ≡ Some entry → P entry.key) → Each P (flat_map keys_of runs)
each_flat P [] h = tt
each_flat P (entries ∷ runs) h =
    each_join P (keys_of entries) (flat_map keys_of runs) (each_keys P entries (λ i entry at. h 0 i entry at)) (each_flat P runs (λ t i entry at. h (suc t) i entry at))

pub has_flat : (runs : List (List Entry)) (t i : ℕ) (entry : Entry) → entry_in_run runs t i ≡ Some entry → Has entry.key (flat_map keys_of runs)
has_flat [] t i entry at = absurd cc
has_flat (entries ∷ runs) zero i entry at = has_left entry.key (keys_of entries) (flat_map keys_of runs) (has_keys entries i entry at)
has_flat (entries ∷ runs) (suc t) i entry at = has_right entry.key (keys_of entries) (flat_map keys_of runs) (has_flat runs t i entry at)

pub entry_there : (runs : List (List Entry)) (t i : ℕ) (entry : Entry) → entry_in_run runs t i ≡ Some entry → (t < length runs) × (i < length (run runs t)) × (get_or (run runs t) i entry ≡ entry)
entry_there runs t i entry at =
    let here = get_there (run runs t) i entry entry (ap (λ (found : List Entry). slice_get found i) (sym (unwrap_or-slice_get runs t [])) ∙ at) in (
      elim (cases_lt t (length runs)) [
        | inl less ↦ less
        | inr more ↦ absurd (let none : length (run runs t) ≡ 0 = ap length (get_or_past runs t [] more) in omega (arith, here.0))
      ],
      here.0,
      here.1,
    )

module _ (range : KeyRange) (runs : List (List Entry)) where
  pub least_is : (t i : ℕ) (entry : Entry) → entry_in_run runs t i ≡ Some entry → is_in_range range entry.key ≡ true
      → ((u j : ℕ) (other : Entry) → entry_in_run runs u j ≡ Some other → is_in_range range other.key ≡ true → at_most entry.key other.key ≡ true) → least_within range runs ≡ Some entry.key
  least_is t i entry at within least =
      fold_takes entry.key None (filter (is_in_range range) (flat_map keys_of runs)) tt
      (each_passing (λ key. at_most entry.key key ≡ true) (is_in_range range) (flat_map keys_of runs) (each_flat (λ key. is_in_range range key ≡ true → at_most entry.key key ≡ true) runs least))
      (has_filter (is_in_range range) entry.key (flat_map keys_of runs) (has_flat runs t i entry at) within)

  pub least_none : ((t i : ℕ) (entry : Entry) → entry_in_run runs t i ≡ Some entry → is_in_range range entry.key ≡ false) → least_within range runs ≡ None
  least_none none = ap (λ keys. fold lesser_key None keys) (filter_none (is_in_range range) (flat_map keys_of runs) (each_flat (λ key. is_in_range range key ≡ false) runs none))
