-- Entries in a range of keys and outside it, and the least key in a range.
use Rattle.std.proofs.Common.{◌≡◌, ℕ, Bool, true, false, cond, List, [], ◌∷◌, ◌++◌, flat_map, filter, Some, None, refl, sym, ap, subst, ◌∙◌}
use Rattle.std.specs.Prelude.{fold}
use Rattle.std.specs.List.{AllByRecursion as Each}
use Rattle.std.proofs.lemmas.Bool.{false≢true, and_from, cond-false}
use Rattle.st_base.specs.Bytes.{same, at_most, below}
use Rattle.st_base.specs.declared.entry.Entry.{Entry}
use Rattle.st_base.specs.declared.entry.KeyRange.{KeyRange}
use Rattle.st_base.proofs.Same.{same_true}
use Rattle.st_base.specs.Range.{is_in_range, meet, keys_of}
use Rattle.base_laws.proofs.Keys.{at_most_trans}
use Rattle.base_laws.proofs.Ranges.{both_within_meet, within_parts}
use Rattle.st_order.specs.Columns.{of_key}
use Rattle.st_order.specs.Least.{lesser_key, least_within}

-- ---- ranges that meet

-- a range whose ends lie in another meets what has a key of it
pub meet_within : (wide narrow other : KeyRange) (key : List ℕ) → is_in_range wide narrow.first ≡ true → is_in_range wide narrow.last ≡ true → is_in_range narrow key ≡ true → is_in_range other key ≡ true → meet wide other ≡ true
meet_within wide narrow other key first last here there =
    let f = within_parts wide narrow.first first in
    let l = within_parts wide narrow.last last in
    let k = within_parts narrow key here in
    both_within_meet wide other key (and_from (at_most wide.first key) (at_most key wide.last) (at_most_trans wide.first narrow.first key f.0 k.0) (at_most_trans key narrow.last wide.last k.1 l.1)) there

-- ---- the column of a key that a run doesn't have

pub of_key_none : (key : List ℕ) (entries : List Entry) → Each (λ entry. same entry.key key ≡ false) entries → of_key key entries ≡ []
of_key_none key [] each = refl
of_key_none key (x ∷ xs) each = cond-false (same x.key key) (x ∷ of_key key xs) (of_key key xs) each.0 ∙ of_key_none key xs each.1

-- the test tells the key from those of the entries
pub of_key_apart : (P : List ℕ → Bool) (b : Bool) (key : List ℕ) (entries : List Entry) → Each (λ entry. P entry.key ≡ b) entries → (P key ≡ b → ⊥) → of_key key entries ≡ []
of_key_apart P b key entries each differ = of_key_none key entries (others entries each)
  where
    other : (x : Entry) → P x.key ≡ b → (t : Bool) → same x.key key ≡ t → t ≡ false
    other x here true e = absurd (differ (subst (λ k. P k ≡ b) (same_true x.key key e) here))
    other x here false e = refl

    others : (xs : List Entry) → Each (λ entry. P entry.key ≡ b) xs → Each (λ entry. same entry.key key ≡ false) xs
    others [] each = tt
    others (x ∷ xs) each = (other x each.0 (same x.key key) refl, others xs each.1)

pub of_key_outside : (range : KeyRange) (key : List ℕ) (entries : List Entry) → Each (λ entry. is_in_range range entry.key ≡ true) entries → is_in_range range key ≡ false → of_key key entries ≡ []
of_key_outside range key entries each out = of_key_apart (is_in_range range) true key entries each (λ there. false≢true (sym out ∙ there))

pub of_key_inside : (range : KeyRange) (key : List ℕ) (entries : List Entry) → Each (λ entry. is_in_range range entry.key ≡ false) entries → is_in_range range key ≡ true → of_key key entries ≡ []
of_key_inside range key entries each here = of_key_apart (is_in_range range) false key entries each (λ out. false≢true (sym out ∙ here))

-- ---- no key in a range

some_stays : (key : List ℕ) (keys : List (List ℕ)) → fold lesser_key (Some key) keys ≡ None → ⊥
some_stays key [] e = cc
some_stays key (other ∷ keys) e = step (below other key) e (some_stays other keys) (some_stays key keys)
  where
    step : (b : Bool) → fold lesser_key (cond b (Some other) (Some key)) keys ≡ None → (fold lesser_key (Some other) keys ≡ None → ⊥) → (fold lesser_key (Some key) keys ≡ None → ⊥) → ⊥
    step true e one two = one e
    step false e one two = two e

no_key : (range : KeyRange) (keys : List (List ℕ)) → fold lesser_key None (filter (is_in_range range) keys) ≡ None → Each (λ key. is_in_range range key ≡ false) keys
no_key range [] e = tt
no_key range (key ∷ keys) e = step (is_in_range range key) refl e (no_key range keys)
  where
    step : (b : Bool) → is_in_range range key ≡ b → fold lesser_key None (cond b (key ∷ filter (is_in_range range) keys) (filter (is_in_range range) keys)) ≡ None
        → (fold lesser_key None (filter (is_in_range range) keys) ≡ None → Each (λ key. is_in_range range key ≡ false) keys) → Each (λ key. is_in_range range key ≡ false) (key ∷ keys)
    step true here e rest = absurd (some_stays key (filter (is_in_range range) keys) e)
    step false here e rest = (here, rest e)

keys_of_run : (P : List ℕ → Type 0) (entries : List Entry) (keys : List (List ℕ)) → Each P (keys_of entries ++ keys) → Each (λ entry. P entry.key) entries × Each P keys
keys_of_run P [] keys each = (tt, each)
keys_of_run P (x ∷ xs) keys each = let rest = keys_of_run P xs keys each.1 in ((each.0, rest.0), rest.1)

keys_of_runs : (P : List ℕ → Type 0) (runs : List (List Entry)) → Each P (flat_map keys_of runs) → Each (Each (λ entry. P entry.key)) runs
keys_of_runs P [] each = tt
keys_of_runs P (run ∷ runs) each = let parts = keys_of_run P run (flat_map keys_of runs) each in (parts.0, keys_of_runs P runs parts.1)

-- no entry of these runs lies in the range
pub nothing_within : (range : KeyRange) (runs : List (List Entry)) → least_within range runs ≡ None → Each (Each (λ entry. is_in_range range entry.key ≡ false)) runs
nothing_within range runs e = keys_of_runs (λ key. is_in_range range key ≡ false) runs (no_key range (flat_map keys_of runs) e)

-- and the other way round
no_within : (range : KeyRange) (runs : List (List Entry)) → Each (Each (λ entry. is_in_range range entry.key ≡ false)) runs → filter (is_in_range range) (flat_map keys_of runs) ≡ []
no_within range [] each = refl
no_within range (run ∷ runs) each = of_run run (no_within range runs each.1) each.0
  where
    of_run : (entries : List Entry) → filter (is_in_range range) (flat_map keys_of runs) ≡ [] → Each (λ entry. is_in_range range entry.key ≡ false) entries → filter (is_in_range range) (keys_of entries ++ flat_map keys_of runs) ≡ []
    of_run [] rest each = rest
    of_run (x ∷ xs) rest each = cond-false (is_in_range range x.key) (x.key ∷ filter (is_in_range range) (keys_of xs ++ flat_map keys_of runs)) (filter (is_in_range range) (keys_of xs ++ flat_map keys_of runs)) each.0 ∙ of_run xs rest each.1

pub least_none : (range : KeyRange) (runs : List (List Entry)) → Each (Each (λ entry. is_in_range range entry.key ≡ false)) runs → least_within range runs ≡ None
least_none range runs each = ap (fold lesser_key None) (no_within range runs each)
