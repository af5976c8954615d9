-- Places for marks, over plain variables.
use Rattle.std.proofs.Common.{◌≡◌, ℕ, Bool, true, false, cond, List, ◌∷◌, map, Option, Some, None, IsSome, is_eq, refl, sym, ◌∙◌, ap}
use Rattle.st_base.specs.Bytes.{bytes_cmp, same}
use Rattle.st_base.specs.Entries.{add_charge, entry_charge}
use Rattle.st_base.specs.declared.entry.Mark.{Mark}
use Rattle.st_base.proofs.Same.{same_is_eq, same_true}
use Rattle.st_model.specs.Contents.{as_entry, marks_charge}
use Rattle.log_engine.specs.Newest.{flat, present}

-- a place without a mark at a key that had none
pub room_same : (found new : Option (Option Mark)) (b : Bool) → new ≡ cond b (Some None) found → (b ≡ true → found ≡ None) → flat new ≡ flat found
room_same found new true is none = ap flat is ∙ sym (ap flat (none refl))
room_same found new false is none = ap flat is

pub room_keeps : (found new : Option (Option Mark)) (mark : Option Mark) (b : Bool) → new ≡ cond b (Some mark) found → IsSome found → IsSome new
room_keeps found new mark true is some = ap Rattle.std.specs.Option.is_some is
room_keeps found new mark false is some = ap Rattle.std.specs.Option.is_some is ∙ some

-- a mark is set
pub set_there : (found new : Option (Option Mark)) (mark : Option Mark) (a b : Bool) → a ≡ b → new ≡ cond a (Some mark) found → flat new ≡ cond b mark (flat found)
set_there found new mark a true same is = ap flat (is ∙ ap (λ t. cond t (Some mark) found) same)
set_there found new mark a false same is = ap flat (is ∙ ap (λ t. cond t (Some mark) found) same)

-- keys of which the order says that they are equal are found alike
pub found_alike : (get : List ℕ → Option (Option Mark)) (key other : List ℕ) → get key ≡ None → is_eq (bytes_cmp key other) ≡ true → get other ≡ None
found_alike get key other none is = ap get (sym (same_true key other (same_is_eq key other ∙ is))) ∙ none

-- ---- the charge of the marks that are there

pub charge_some : (sum : ℕ) (pair : List ℕ × Option Mark) (pairs : List (List ℕ × Option Mark)) (mark : Mark) → pair.1 ≡ Some mark → marks_charge sum (map as_entry (present (pair ∷ pairs))) ≡ marks_charge (add_charge sum (entry_charge pair.0 mark)) (map as_entry (present pairs))
charge_some sum pair pairs mark is = ap (λ o. marks_charge sum (map as_entry (present ((pair.0, o) ∷ pairs)))) is

pub charge_none : (sum : ℕ) (pair : List ℕ × Option Mark) (pairs : List (List ℕ × Option Mark)) → pair.1 ≡ None → marks_charge sum (map as_entry (present (pair ∷ pairs))) ≡ marks_charge sum (map as_entry (present pairs))
charge_none sum pair pairs is = ap (λ o. marks_charge sum (map as_entry (present ((pair.0, o) ∷ pairs)))) is

-- a key that isn't contained has no place
pub none_there : (found : Option (Option Mark)) (contains : Bool) → contains ≡ Rattle.std.specs.Option.is_some found → contains ≡ false → found ≡ None
none_there None contains is absent = refl
none_there (Some mark) contains is absent = absurd (cc (sym is ∙ absent))
