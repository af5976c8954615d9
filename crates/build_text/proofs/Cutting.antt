-- The first part of a text that is cut at a byte.
use Rattle.std.proofs.Common.{◌≡◌, ℕ, Bool, true, false, not, cond, ◌==◌, ◌<◌, ◌≤◌, ◌+◌, ◌-◌, nat_lt, suc, List, [], ◌∷◌, ◌++◌, length, take, drop, get_or, length-drop, refl, sym, ap, ◌∙◌, subst, arith}
use Rattle.std.specs.Prelude.{Some, None, position}
use Rattle.std.specs.List.{slice_split, onto_first, position_or_len}
use Rattle.std.proofs.lemmas.List.Splits.{slice_split_first}
use Rattle.std.proofs.lemmas.List.{drop_more, take_all, take-append-drop}
use Rattle.std.proofs.lemmas.List.Quantifiers.{position-Some}
use Rattle.std.proofs.lemmas.Bool.{eqb-true}
use Rattle.std.proofs.lemmas.Bool.Decides.{nat_tests}

-- ---- a list that is cut where a test passes

some-by : (b : Bool) (m n : ℕ) → nat_lt m n ≡ b → (i : ℕ) → cond b (Some m) None ≡ Some i → (m ≡ i) × (i < n)
some-by true m n t i e = let same : m ≡ i = cc in (same, grind (arith, nat_tests))
some-by false m n t i e = absurd (cc)

none-by : (b : Bool) (m n : ℕ) → nat_lt m n ≡ b → cond b (Some m) None ≡ None → n ≤ m
none-by true m n t e = absurd (cc)
none-by false m n t e = grind (arith, nat_tests)

-- the test passes first there
pub position_some : {X : Type 0} (p : X → Bool) (xs : List X) (i : ℕ) → position p xs ≡ Some i → (position_or_len p xs ≡ i) × (i < length xs)
position_some p xs i e = some-by (nat_lt (position_or_len p xs) (length xs)) (position_or_len p xs) (length xs) refl i e

-- the test passes nowhere
pub position_none : {X : Type 0} (p : X → Bool) (xs : List X) → position p xs ≡ None → length xs ≤ position_or_len p xs
position_none p xs e = none-by (nat_lt (position_or_len p xs) (length xs)) (position_or_len p xs) (length xs) refl e

whole-cons : {X : Type 0} (p : X → Bool) (x : X) (xs : List X) (b : Bool) → (length xs ≤ position_or_len p xs → slice_split p xs ≡ xs ∷ []) → suc (length xs) ≤ cond (not b) (1 + position_or_len p xs) 0 → cond b ([] ∷ slice_split p xs) (onto_first x (slice_split p xs)) ≡ (x ∷ xs) ∷ []
whole-cons p x xs true others all = absurd (omega arith)
whole-cons p x xs false others all = ap (onto_first x) (others (omega arith))

-- where it passes nowhere, the list is the one part
pub cut_whole : {X : Type 0} (p : X → Bool) (xs : List X) → length xs ≤ position_or_len p xs → slice_split p xs ≡ xs ∷ []
cut_whole p [] all = refl
cut_whole p (x ∷ xs) all = whole-cons p x xs (p x) (cut_whole p xs) all

-- where it passes, the first part stands before that place
pub cut_some : {X : Type 0} (p : X → Bool) (xs : List X) (d : X) (i : ℕ) → position p xs ≡ Some i → slice_split p xs ≡ take i xs ∷ slice_split p (drop (i + 1) xs)
cut_some p xs d i e =
    let at = position_some p xs i e in
    subst (λ k. slice_split p xs ≡ take k xs ∷ slice_split p (drop (k + 1) xs)) at.0 (slice_split_first p xs d (omega arith))

-- what stands from there on, as the code cuts it
pub behind : {X : Type 0} (xs : List X) (n : ℕ) → take (length xs - n) (drop n xs) ≡ drop n xs
behind xs n = take_all (length xs - n) (drop n xs) (omega (arith, length-drop n xs))

-- ---- the parts between a byte

-- a part behind which the byte stands
pub parts_first : (c : ℕ) (text : List ℕ) (end : ℕ) → position (λ byte. byte == c) text ≡ Some end → slice_split (λ byte. byte == c) text ≡ take end text ∷ slice_split (λ byte. byte == c) (take (length text - (end + 1)) (drop (end + 1) text))
parts_first c text end e =
    cut_some (λ byte. byte == c) text 0 end e ∙ ap (λ left. take end text ∷ slice_split (λ byte. byte == c) left) (sym (behind text (end + 1)))

-- the last part
pub parts_last : (c : ℕ) (text : List ℕ) → position (λ byte. byte == c) text ≡ None → slice_split (λ byte. byte == c) text ≡ text ∷ []
parts_last c text e = cut_whole (λ byte. byte == c) text (position_none (λ byte. byte == c) text e)

-- the part, the byte, and what stands behind it
pub parts_around : (c : ℕ) (text : List ℕ) (end : ℕ) → position (λ byte. byte == c) text ≡ Some end → text ≡ take end text ++ c ∷ take (length text - (end + 1)) (drop (end + 1) text)
parts_around c text end e =
    let at = position-Some (λ byte. byte == c) text end 0 e in
    sym (take-append-drop end text)
    ∙ ap (λ left. take end text ++ left) (drop_more text end 0 at.0)
    ∙ ap (λ byte. take end text ++ byte ∷ drop (end + 1) text) (eqb-true (get_or text end 0) c at.1)
    ∙ ap (λ left. take end text ++ c ∷ left) (sym (behind text (end + 1)))
