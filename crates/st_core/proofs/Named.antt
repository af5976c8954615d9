-- A map from names to values that are shared, seen as the list of its names with what the values hold.
use Rattle.std.proofs.Common.{◌≡◌, ℕ, Bool, true, false, cond, List, [], ◌∷◌, map, Some, None, Ordering, Less, Equal, Greater, is_eq, option_map, refl, sym, ap, ap₂, subst, ◌∙◌}
use Rattle.std.specs.Prelude.{IfSome}
use Rattle.std.specs.BTreeMap.{insert_entry, is_at}
use Rattle.std.specs.List.{AllByRecursion as Each, AllZip}
use Rattle.std.specs.List.Sorted.{IsStrictlySortedBy}
use Rattle.std.specs.Map.{keys_of, lookup, remove_entry, set_value}
use Rattle.std.specs.Ordering.{match_ordering}
use Rattle.std.proofs.lemmas.Map.Made.{lookup-map_values}
use Rattle.std.proofs.lemmas.Map.Keys.{sorted_head, sorted_tail}
use Rattle.st_base.specs.Bytes.{bytes_cmp, same}
use Rattle.st_base.specs.Map.{value_at, set_at, without, changed_at}
use Rattle.base_laws.proofs.Keys.{at_is, at_key}

-- the two tests of a name agree
pub same_is : (one other : List ℕ) → same one other ≡ is_eq (bytes_cmp other one)
same_is one other = sym (at_is other one)

-- no later name is the first one
pub later_differ : (name : List ℕ) (names : List (List ℕ)) → Each (λ later. bytes_cmp name later ≡ Less) names → Each (λ later. same later name ≡ false) names
later_differ name [] h = tt
later_differ name (later ∷ names) h = (same_is later name ∙ ap is_eq h.0, later_differ name names h.1)

-- a name that isn't there changes nothing
pub absent_changed : {X : Type 0} (pairs : List (List ℕ × X)) (name : List ℕ) (change : X → X) → value_at pairs name ≡ None → changed_at pairs name change ≡ pairs
absent_changed [] name change h = refl
absent_changed {X} (p ∷ ps) name change h = step (is_eq (bytes_cmp name p.0)) refl h (absent_changed ps name change)
  where
    step : (b : Bool) → is_eq (bytes_cmp name p.0) ≡ b → cond b (Some p.1) (value_at ps name) ≡ None
        → (value_at ps name ≡ None → changed_at ps name change ≡ ps) → changed_at (p ∷ ps) name change ≡ p ∷ ps
    step true e none rest = absurd cc
    step false e none rest = rw (same_is p.0 name ∙ e) (ap (λ (qs : List (List ℕ × X)). p ∷ qs) (rest none))

module _ {X Y : Type 0} (f : X → Y) where
  abbrev pub seen : List (List ℕ × X) → List (List ℕ × Y)
  seen pairs = map {B = List ℕ × Y} (λ pair. (pair.0, f pair.1)) pairs

  pub inserted_seen : (pairs : List (List ℕ × X)) (name : List ℕ) (x : X) → seen (insert_entry bytes_cmp pairs name x) ≡ set_at (seen pairs) name (f x)
  inserted_seen [] name x = refl
  inserted_seen (p ∷ ps) name x = step (bytes_cmp name p.0) (inserted_seen ps name x)
    where
      step : (o : Ordering) → seen (insert_entry bytes_cmp ps name x) ≡ set_at (seen ps) name (f x)
          → seen (match_ordering o ((name, x) ∷ p ∷ ps) ((p.0, x) ∷ ps) (p ∷ insert_entry bytes_cmp ps name x))
          ≡ match_ordering o ((name, f x) ∷ (p.0, f p.1) ∷ seen ps) ((p.0, f x) ∷ seen ps) ((p.0, f p.1) ∷ set_at (seen ps) name (f x))
      step Less rest = refl
      step Equal rest = refl
      step Greater rest = ap (λ (qs : List (List ℕ × Y)). (p.0, f p.1) ∷ qs) rest

  -- where no name is this one, nothing changes
  none_without : (pairs : List (List ℕ × X)) (name : List ℕ) → Each (λ later. same later name ≡ false) (keys_of pairs) → without (seen pairs) name ≡ seen pairs
  none_without [] name h = refl
  none_without (p ∷ ps) name h = rw h.0 (ap (λ (qs : List (List ℕ × Y)). (p.0, f p.1) ∷ qs) (none_without ps name h.1))

  none_changed : (pairs : List (List ℕ × X)) (name : List ℕ) (g : Y → Y) → Each (λ later. same later name ≡ false) (keys_of pairs) → changed_at (seen pairs) name g ≡ seen pairs
  none_changed [] name g h = refl
  none_changed (p ∷ ps) name g h = rw h.0 (ap (λ (qs : List (List ℕ × Y)). (p.0, f p.1) ∷ qs) (none_changed ps name g h.1))

  pub removed_seen : (pairs : List (List ℕ × X)) (name : List ℕ) → IsStrictlySortedBy bytes_cmp (keys_of pairs) → seen (remove_entry (is_at (bytes_cmp name)) pairs) ≡ without (seen pairs) name
  removed_seen [] name h = refl
  removed_seen (p ∷ ps) name h = step (is_eq (bytes_cmp name p.0)) refl (removed_seen ps name (sorted_tail bytes_cmp p.0 (keys_of ps) h))
    where
      step : (b : Bool) → is_eq (bytes_cmp name p.0) ≡ b → seen (remove_entry (is_at (bytes_cmp name)) ps) ≡ without (seen ps) name
          → seen (cond b ps (p ∷ remove_entry (is_at (bytes_cmp name)) ps)) ≡ without ((p.0, f p.1) ∷ seen ps) name
      step true e rest =
          rw (same_is p.0 name ∙ e) (sym (none_without ps name
          (subst (λ (k : List ℕ). Each (λ later. same later k ≡ false) (keys_of ps)) (sym (at_key name p.0 e)) (later_differ p.0 (keys_of ps) (sorted_head bytes_cmp p.0 (keys_of ps) h)))))
      step false e rest = rw (same_is p.0 name ∙ e) (ap (λ (qs : List (List ℕ × Y)). (p.0, f p.1) ∷ qs) rest)

  -- another value in the place of the one that is there: a change that makes this of that
  pub replaced_seen : (pairs : List (List ℕ × X)) (name : List ℕ) (x : X) (change : Y → Y) → IsStrictlySortedBy bytes_cmp (keys_of pairs)
      → IfSome (value_at (seen pairs) name) (λ y. f x ≡ change y) → seen (set_value (is_at (bytes_cmp name)) pairs x) ≡ changed_at (seen pairs) name change
  replaced_seen [] name x change h makes = refl
  replaced_seen (p ∷ ps) name x change h makes = step (is_eq (bytes_cmp name p.0)) refl makes (replaced_seen ps name x change (sorted_tail bytes_cmp p.0 (keys_of ps) h))
    where
      step : (b : Bool) → is_eq (bytes_cmp name p.0) ≡ b → IfSome (cond b (Some (f p.1)) (value_at (seen ps) name)) (λ y. f x ≡ change y)
          → (IfSome (value_at (seen ps) name) (λ y. f x ≡ change y) → seen (set_value (is_at (bytes_cmp name)) ps x) ≡ changed_at (seen ps) name change)
          → seen (cond b ((p.0, x) ∷ ps) (p ∷ set_value (is_at (bytes_cmp name)) ps x)) ≡ changed_at ((p.0, f p.1) ∷ seen ps) name change
      step true e made rest =
          rw (same_is p.0 name ∙ e) (ap₂ (λ (y : Y) (qs : List (List ℕ × Y)). (p.0, y) ∷ qs) made (sym (none_changed ps name change
          (subst (λ (k : List ℕ). Each (λ later. same later k ≡ false) (keys_of ps)) (sym (at_key name p.0 e)) (later_differ p.0 (keys_of ps) (sorted_head bytes_cmp p.0 (keys_of ps) h))))))
      step false e made rest = rw (same_is p.0 name ∙ e) (ap (λ (qs : List (List ℕ × Y)). (p.0, f p.1) ∷ qs) (rest made))

  -- a clone of the map holds the same
  pub cloned_seen : (C : List ℕ → List ℕ → Type 0) (D : X → X → Type 0) → ((a b : List ℕ) → C a b → b ≡ a) → ((x y : X) → D x y → f y ≡ f x)
      → (pairs copies : List (List ℕ × X)) → AllZip (λ p q. C p.0 q.0 × D p.1 q.1) pairs copies → seen copies ≡ seen pairs
  cloned_seen C D c d [] [] h = refl
  cloned_seen C D c d [] (q ∷ qs) h = absurd h
  cloned_seen C D c d (p ∷ ps) [] h = absurd h
  cloned_seen C D c d (p ∷ ps) (q ∷ qs) h =
      ap₂ (λ (a : List ℕ × Y) (rest : List (List ℕ × Y)). a ∷ rest) (ap₂ (λ (k : List ℕ) (y : Y). (k, y)) (c p.0 q.0 h.0.0) (d p.1 q.1 h.0.1)) (cloned_seen C D c d ps qs h.1)

  -- a name that isn't there changes nothing
  pub absent_seen : (pairs : List (List ℕ × X)) (name : List ℕ) (g : Y → Y) → lookup (is_at (bytes_cmp name)) pairs ≡ None → changed_at (seen pairs) name g ≡ seen pairs
  absent_seen pairs name g h = absent_changed (seen pairs) name g (lookup-map_values f (is_at (bytes_cmp name)) pairs ∙ ap (option_map f) h)
