-- Lists of refusals that are empty, and what that says.
use Rattle.std.proofs.Common.{◌≡◌, ℕ, suc, ◌+◌, Bool, true, false, cond, not, ◌||◌, List, [], ◌∷◌, ◌++◌, map, filter, length, take, Option, Some, None, refl, sym, ap, ◌∙◌, arith}
use Rattle.std.specs.Prelude.{filter_map, find, position, nat_lt}
use Rattle.std.specs.Option.{option_map, option_or}
use Rattle.std.specs.List.{list_any, cons_option, position_or_len, prefix_len, AllByRecursion as Each}
use Rattle.std.proofs.lemmas.Bool.{false≢true, ltb-false, le-ltb}
use Rattle.st_base.specs.Bytes.{same}
use Rattle.st_base.specs.declared.entry.KeyRange.{KeyRange}
use Rattle.st_base.proofs.Same.{same_self}
use Rattle.st_base.specs.Range.{meet}
use Rattle.st_model.specs.Refusals.{repeated}
use Rattle.st_model.specs.Request.{Argument, meeting_after}
use Rattle.base_laws.proofs.Lists.{append_none, none_any}
use Rattle.base_laws.proofs.Ranges.{meet_swaps}
use Rattle.core_laws.proofs.FileColumns.{each_append}
use Rattle.core_laws.proofs.FileJobs.{each_with}
use Rattle.st_order.specs.Columns.{Pairwise}

pub map_none : {X Y : Type 0} (f : X → Y) (xs : List X) → map f xs ≡ [] → xs ≡ []
map_none f [] e = refl
map_none f (x ∷ xs) e = absurd cc

pub take_none : {X : Type 0} (xs : List X) → take 1 xs ≡ [] → xs ≡ []
take_none [] e = refl
take_none (x ∷ xs) e = absurd cc

pub filter_none : {X : Type 0} (p : X → Bool) (xs : List X) → filter p xs ≡ [] → Each (λ x. p x ≡ false) xs
filter_none p [] e = tt
filter_none p (x ∷ xs) e = step (p x) refl e (filter_none p xs)
  where
    step : (b : Bool) → p x ≡ b → cond b (x ∷ filter p xs) (filter p xs) ≡ [] → (filter p xs ≡ [] → Each (λ x. p x ≡ false) xs) → (p x ≡ false) × Each (λ x. p x ≡ false) xs
    step true is e rest = absurd cc
    step false is e rest = (is, rest e)

pub filter_map_none : {X Y : Type 0} (h : X → Option Y) (xs : List X) → filter_map h xs ≡ [] → Each (λ x. h x ≡ None) xs
filter_map_none h [] e = tt
filter_map_none {Y = Y} h (x ∷ xs) e = step (h x) refl e (filter_map_none h xs)
  where
    step : (found : Option Y) → h x ≡ found → cons_option found (filter_map h xs) ≡ [] → (filter_map h xs ≡ [] → Each (λ x. h x ≡ None) xs) → (h x ≡ None) × Each (λ x. h x ≡ None) xs
    step None is e rest = (is, rest e)
    step (Some y) is e rest = absurd cc

-- what holds of each that passes
pub filtered_each : {X : Type 0} (p : X → Bool) (P : X → Type 0) (xs : List X) → Each P (filter p xs) → Each (λ x. p x ≡ true → P x) xs
filtered_each p P [] each = tt
filtered_each p P (x ∷ xs) each = step (p x) refl each (filtered_each p P xs)
  where
    step : (b : Bool) → p x ≡ b → Each P (cond b (x ∷ filter p xs) (filter p xs)) → (Each P (filter p xs) → Each (λ x. p x ≡ true → P x) xs) → (p x ≡ true → P x) × Each (λ x. p x ≡ true → P x) xs
    step true is each rest = ((λ _. each.0), rest each.1)
    step false is each rest = ((λ passes. absurd (false≢true (sym is ∙ passes))), rest each)

pub map_option_none : {X Y : Type 0} (f : X → Y) (found : Option X) → option_map f found ≡ None → found ≡ None
map_option_none f None e = refl
map_option_none f (Some x) e = absurd cc

pub or_none : {X : Type 0} (one other : Option X) → option_or one other ≡ None → (one ≡ None) × (other ≡ None)
or_none None other e = (refl, e)
or_none (Some x) other e = absurd cc

pub find_none : {X : Type 0} (p : X → Bool) (xs : List X) → find p xs ≡ None → list_any p xs ≡ false
find_none p [] e = refl
find_none p (x ∷ xs) e = step (p x) e (find_none p xs)
  where
    step : (b : Bool) → cond b (Some x) (find p xs) ≡ None → (find p xs ≡ None → list_any p xs ≡ false) → (b || list_any p xs) ≡ false
    step true e rest = absurd cc
    step false e rest = rest e

position_none : {X : Type 0} (p : X → Bool) (xs : List X) → position p xs ≡ None → Each (λ x. p x ≡ false) xs
position_none {X = X} p xs e = all xs (not_less (nat_lt (position_or_len p xs) (length xs)) refl e)
  where
    not_less : (b : Bool) → nat_lt (position_or_len p xs) (length xs) ≡ b → cond b (Some (position_or_len p xs)) None ≡ None → nat_lt (position_or_len p xs) (length xs) ≡ false
    not_less true is e = absurd cc
    not_less false is e = is

    all : (ys : List X) → nat_lt (prefix_len (λ x. not (p x)) ys) (length ys) ≡ false → Each (λ x. p x ≡ false) ys
    all [] e = tt
    all (y ∷ ys) e = step (p y) refl e (all ys)
      where
        step : (b : Bool) → p y ≡ b → nat_lt (cond (not b) (1 + prefix_len (λ x. not (p x)) ys) 0) (suc (length ys)) ≡ false → (nat_lt (prefix_len (λ x. not (p x)) ys) (length ys) ≡ false → Each (λ x. p x ≡ false) ys) → (p y ≡ false) × Each (λ x. p x ≡ false) ys
        step true is e rest = absurd (omega (arith, ltb-false 0 (suc (length ys)) e))
        step false is e rest = (is, rest (le-ltb (prefix_len (λ x. not (p x)) ys) (length ys) (omega (arith, ltb-false (1 + prefix_len (λ x. not (p x)) ys) (suc (length ys)) e))))

-- ---- ranges of which none meets one before it

abbrev JobsApart : KeyRange → KeyRange → Type 0
JobsApart one other = meet one other ≡ false

pub none_meeting : (earlier ranges : List KeyRange) → meeting_after earlier ranges ≡ None → Each (λ one. Each (JobsApart one) ranges) earlier × Pairwise JobsApart ranges
none_meeting earlier [] e = (all earlier, tt)
  where
    all : (some : List KeyRange) → Each (λ one. Unit {0}) some
    all [] = tt
    all (one ∷ some) = (tt, all some)
none_meeting earlier (range ∷ ranges) e =
    let parts = or_none (option_map (λ i. (i + 1, length earlier + 1)) (position (meet range) earlier)) (meeting_after (earlier ++ range ∷ []) ranges) e in
    let before = position_none (meet range) earlier (map_option_none (λ i. (i + 1, length earlier + 1)) (position (meet range) earlier) parts.0) in
    let rest = none_meeting (earlier ++ range ∷ []) ranges parts.1 in
    let split = each_append (λ one. Each (JobsApart one) ranges) earlier (range ∷ []) rest.0 in (
      each_with (λ one. meet range one ≡ false) (λ one. Each (JobsApart one) ranges) (λ one. Each (JobsApart one) (range ∷ ranges)) earlier (λ one here more. (meet_swaps one range ∙ here, more)) before split.0,
      (split.1.0, rest.1),
    )

-- ---- families that are named once

pub none_repeated : (named : List (List ℕ)) (request : List Argument) → repeated named request ≡ [] → Each (λ name. Each (λ argument. name ≡ argument.family → ⊥) request) named × Pairwise (λ one other. one.family ≡ other.family → ⊥) request
none_repeated named [] e = (all named, tt)
  where
    all : (some : List (List ℕ)) → Each (λ one. Unit {0}) some
    all [] = tt
    all (one ∷ some) = (tt, all some)
none_repeated named (argument ∷ request) e =
    let parts = append_none (cond (list_any (same argument.family) named) (argument ∷ []) []) (repeated (argument.family ∷ named) request) e in
    let rest = none_repeated (argument.family ∷ named) request parts.1 in (
      each_with (λ name. same argument.family name ≡ false) (λ name. Each (λ argument. name ≡ argument.family → ⊥) request) (λ name. Each (λ argument. name ≡ argument.family → ⊥) (argument ∷ request)) named
          (λ name here more. ((λ at. false≢true (sym here ∙ ap (same argument.family) at ∙ same_self argument.family)), more))
          (none_any (same argument.family) named (empty (list_any (same argument.family) named) parts.0)) rest.0.1,
      (rest.0.0, rest.1),
    )
  where
    empty : (b : Bool) → cond b (argument ∷ []) [] ≡ [] → b ≡ false
    empty true e = absurd cc
    empty false e = refl
