-- The least key in a range, run after run.
use Rattle.std.proofs.Common.{◌≡◌, ℕ, ◌+◌, ◌<◌, Bool, true, false, cond, ◌||◌, List, [], ◌∷◌, ◌++◌, flat_map, filter, length, get_or, take, Option, Some, None, refl, sym, ap, subst, ◌∙◌, inl, inr}
use Rattle.std.specs.Prelude.{fold, is_some, slice_get}
use Rattle.std.specs.List.{list_any, position, AllByRecursion as Each}
use Rattle.std.proofs.lemmas.Bool.{cases_lt, false≢true}
use Rattle.std.proofs.lemmas.List.{take_more, flat_map_more, get_or_default}
use Rattle.std.proofs.lemmas.List.Quantifiers.{position-Some}
use Rattle.std.proofs.lemmas.Option.{unwrap_or-slice_get}
use Rattle.st_base.specs.Bytes.{at_most}
use Rattle.st_base.specs.Order.{in_order}
use Rattle.st_base.specs.declared.entry.Entry.{Entry}
use Rattle.st_base.specs.declared.entry.KeyRange.{KeyRange}
use Rattle.st_base.specs.Range.{is_in_range, keys_of}
use Rattle.st_order.specs.Least.{lesser_key, least_within}
use Rattle.st_order.specs.Order.{first_index_in}
use Rattle.st_order.proofs.Halves.{get_there, keys_rise}
use Rattle.base_laws.proofs.Keys.{at_most_itself, at_most_trans, below_at_most, not_below}
use Rattle.st_level.specs.Found.{HasKeyAt, held_key, is_lesser}
use Rattle.base_laws.proofs.Lists.{each_passing}
use Rattle.st_order.proofs.Least.{each_keys, fold_keeps, position_none_at, run_none, run_takes}

fold_append : {A B : Type 0} (f : B → A → B) (a : B) (xs ys : List A) → fold f a (xs ++ ys) ≡ fold f (fold f a xs) ys
fold_append f a [] ys = refl
fold_append f a (x ∷ xs) ys = fold_append f (f a x) xs ys

filter_append : {X : Type 0} (test : X → Bool) (xs ys : List X) → filter test (xs ++ ys) ≡ filter test xs ++ filter test ys
filter_append test [] ys = refl
filter_append test (x ∷ xs) ys = step (test x) (filter_append test xs ys)
  where
    step : (b : Bool) → filter test (xs ++ ys) ≡ filter test xs ++ filter test ys → cond b (x ∷ filter test (xs ++ ys)) (filter test (xs ++ ys)) ≡ cond b (x ∷ filter test xs) (filter test xs) ++ filter test ys
    step true e = ap (λ rest. x ∷ rest) e
    step false e = e

-- one run more
pub least_more : (range : KeyRange) (runs : List (List Entry)) (i : ℕ) → i < length runs
    → least_within range (take (i + 1) runs) ≡ fold lesser_key (least_within range (take i runs)) (filter (is_in_range range) (keys_of (get_or runs i [])))
least_more range runs i lt =
    ap (least_within range) (take_more runs i [] lt)
    ∙ ap (λ keys. fold lesser_key None (filter (is_in_range range) keys)) (sym (flat_map_more keys_of [] (take i runs) (get_or runs i [])))
    ∙ ap (λ keys. fold lesser_key None keys) (filter_append (is_in_range range) (flat_map keys_of (take i runs)) (keys_of (get_or runs i [])))
    ∙ fold_append lesser_key None (filter (is_in_range range) (flat_map keys_of (take i runs))) (filter (is_in_range range) (keys_of (get_or runs i [])))

module _ (range : KeyRange) (entries : List Entry) where
  abbrev inside : List (List ℕ)
  inside = filter (is_in_range range) (keys_of entries)

  module _ (ordered : in_order entries ≡ true) (index : ℕ) (entry : Entry) (is : Some index ≡ first_index_in range entries) (there : slice_get entries index ≡ Some entry) where
    above : (i : ℕ) (other : Entry) → slice_get entries i ≡ Some other → is_in_range range other.key ≡ true → at_most entry.key other.key ≡ true
    above i other at within =
        let here = get_there entries index entry entry there in
        let here' = get_there entries i other entry at in
        let parts = position-Some (λ (x : Entry). is_in_range range x.key) entries index entry (sym is) in
        elim (cases_lt i index) [
          | inl less ↦ absurd (false≢true (sym (parts.2 i less) ∙ subst (λ (x : Entry). is_in_range range x.key ≡ true) (sym here'.1) within))
          | inr more ↦ subst (λ (x : Entry). at_most entry.key x.key ≡ true) here'.1 (subst (λ (x : Entry). at_most x.key (get_or entries i entry).key ≡ true) here.1 (keys_rise entries index i entry ordered more here'.0))
        ]

    each : (a : List ℕ) → at_most a entry.key ≡ true → Each (λ key. at_most a key ≡ true) inside
    each a le = each_passing (λ key. at_most a key ≡ true) (is_in_range range) (keys_of entries)
        (each_keys (λ key. is_in_range range key ≡ true → at_most a key ≡ true) entries (λ i other at within. at_most_trans a entry.key other.key le (above i other at within)))

    pub run_keeps : (a : List ℕ) → at_most a entry.key ≡ true → fold lesser_key (Some a) inside ≡ Some a
    run_keeps a le = fold_keeps a inside (each a le)

    pub lesser_kept : (found : Bool) (spare : List ℕ) → is_lesser (held_key found spare) entry.key ≡ false → held_key (found || false) spare ≡ fold lesser_key (held_key found spare) inside
    lesser_kept true spare e = sym (run_keeps spare (not_below entry.key spare e))
    lesser_kept false spare e = absurd cc

    pub lesser_taken : (found : Bool) (spare : List ℕ) → is_lesser (held_key found spare) entry.key ≡ true → held_key (found || true) entry.key ≡ fold lesser_key (held_key found spare) inside
    lesser_taken true spare e = sym (run_takes range entries ordered index entry is there (Some spare) (below_at_most entry.key spare e))
    lesser_taken false spare e = sym (run_takes range entries ordered index entry is there None tt)

  pub lesser_none : (found : Bool) (spare : List ℕ) → None ≡ first_index_in range entries → held_key (found || false) spare ≡ fold lesser_key (held_key found spare) inside
  lesser_none true spare e = sym (run_none range entries (Some spare) e)
  lesser_none false spare e = sym (run_none range entries None e)

-- the step of a loop over the runs
pub step_key : (range : KeyRange) (runs : List (List Entry)) (i : ℕ) (entries : List Entry) (least : Option (ℕ × ℕ)) (some : Bool) (spare after : List ℕ) (found : Option ℕ) (next : Option (ℕ × ℕ))
    → i < length runs → get_or runs i [] ≡ entries → some ≡ is_some least → held_key (is_some least) spare ≡ least_within range (take i runs)
    → held_key (some || is_some found) after ≡ fold lesser_key (held_key some spare) (filter (is_in_range range) (keys_of entries)) → is_some next ≡ (is_some least || is_some found)
    → held_key (is_some next) after ≡ least_within range (take (i + 1) runs)
step_key range runs i entries least some spare after found next lt at is so_far now both =
    ap (λ b. held_key b after) (both ∙ ap (λ b. b || is_some found) (sym is)) ∙ now
    ∙ ap (λ b. fold lesser_key (held_key b spare) (filter (is_in_range range) (keys_of entries))) is
    ∙ ap (λ acc. fold lesser_key acc (filter (is_in_range range) (keys_of entries))) so_far
    ∙ ap (λ found. fold lesser_key (least_within range (take i runs)) (filter (is_in_range range) (keys_of found))) (sym at)
    ∙ sym (least_more range runs i lt)

pub or_true : (b : Bool) → true ≡ (b || true)
or_true true = refl
or_true false = refl

pub or_false : (b : Bool) → b ≡ (b || false)
or_false true = refl
or_false false = refl

pub key_in : (runs : List (List Entry)) (i index : ℕ) (entries : List Entry) (key : List ℕ) → get_or runs i [] ≡ entries → HasKeyAt (entries ∷ []) 0 index key → HasKeyAt runs i index key
key_in runs i index entries key at has = record {
  entry = has.entry;
  there = ap (λ (found : List Entry). slice_get found index) (unwrap_or-slice_get runs i [] ∙ at) ∙ has.there;
  key_is = has.key_is;
}

-- ---- some index, and some element

pub any_position : {X : Type 0} (p : X → Bool) (xs : List X) (found : Option ℕ) → found ≡ position p xs → is_some found ≡ list_any p xs
any_position p [] found e = ap is_some e
any_position p (x ∷ xs) None e = sym (Rattle.std.proofs.lemmas.List.Folds.list_any_none p (x ∷ xs) (Rattle.std.proofs.lemmas.List.Elements.All-from_get_or (λ y. p y ≡ false) (x ∷ xs) x (λ k lt. position_none_at p (x ∷ xs) x (sym e) k lt)))
any_position p (x ∷ xs) (Some i) e = let parts = position-Some p (x ∷ xs) i x (sym e) in sym (Rattle.std.proofs.lemmas.List.Folds.list_any_at p (x ∷ xs) i x parts.0 parts.1)
