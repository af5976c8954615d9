-- The first of refusals, as tests one after the other.
use Rattle.std.proofs.Common.{◌≡◌, ℕ, ◌+◌, Bool, true, false, cond, not, nat_lt, nat_le, List, [], ◌∷◌, ◌++◌, length, map, filter, find, Option, Some, None, option_map, refl, ap, ◌∙◌}
use Rattle.std.specs.Option.{option_or}
use Rattle.st_base.specs.Bytes.{same, default_family}
use Rattle.st_base.specs.Entries.{add_charge}
use Rattle.st_model.specs.declared.change.Op.{Op}
use Rattle.st_model.specs.declared.refusal.Refusal.{Refusal}
use Rattle.st_model.specs.declared.refusal.Refusal.TheVariants.{UnknownFamily, NumbersSpent, StoreFull}
use Rattle.st_model.specs.declared.state.ModelState.{ModelState}
use Rattle.st_model.specs.Answer.{refused_if, unknown_families, write_refusals}
use Rattle.st_model.specs.Apply.{op_family, write_charge}
use Rattle.st_model.specs.State.{greatest_number, has_family}
use Rattle.core_model.specs.Step.{first_of}

-- the first of two lists, and of a list with one test
pub first_join : {X : Type 0} (xs ys : List X) → first_of (xs ++ ys) ≡ option_or (first_of xs) (first_of ys)
first_join [] ys = refl
first_join (x ∷ xs) ys = refl

pub first_found : {X Y : Type 0} (test : Y → Bool) (f : X → Y) (xs : List X) → first_of (filter test (map f xs)) ≡ option_map f (find (λ x. test (f x)) xs)
first_found test f [] = refl
first_found {X} {Y} test f (x ∷ xs) = step (test (f x)) (first_found test f xs)
  where
    step : (b : Bool) → first_of (filter test (map f xs)) ≡ option_map f (find (λ x. test (f x)) xs)
        → first_of (cond b (f x ∷ filter test (map f xs)) (filter test (map f xs))) ≡ option_map f (cond b (Some x) (find (λ x. test (f x)) xs))
    step true rest = refl
    step false rest = rest

pub first_mapped : {X Y : Type 0} (f : X → Y) (xs : List X) → first_of (map f xs) ≡ option_map f (first_of xs)
first_mapped f [] = refl
first_mapped f (x ∷ xs) = refl

abbrev pub if_held : Bool → Refusal → Option Refusal
if_held holds refusal = cond holds (Some refusal) None

first_held : (b : Bool) (refusal : Refusal) → first_of (refused_if b refusal) ≡ if_held b refusal
first_held true refusal = refl
first_held false refusal = refl

-- the tests of a write, one after the other
abbrev pub first_refusal : Option Op → Bool → Bool → Bool → Option Refusal
first_refusal unknown numbers place full =
    option_or (option_or (option_or (option_map UnknownFamily (option_map op_family unknown)) (if_held numbers NumbersSpent)) (if_held place NumbersSpent)) (if_held full StoreFull)

pub write_first : (state : ModelState) (capacity : ℕ) (ops : List Op) → first_of (write_refusals state capacity ops)
    ≡ first_refusal (find (λ op. not (has_family state (op_family op))) ops) (nat_lt greatest_number (state.last + length ops)) (nat_le greatest_number state.place)
    (nat_lt capacity (add_charge state.charge (write_charge ops)))
write_first state capacity ops =
    let unknown : List Refusal = unknown_families state (map op_family ops) in
    let numbers : List Refusal = refused_if (nat_lt greatest_number (state.last + length ops)) NumbersSpent in
    let place : List Refusal = refused_if (nat_le greatest_number state.place) NumbersSpent in
    let full : List Refusal = refused_if (nat_lt capacity (add_charge state.charge (write_charge ops))) StoreFull in
    first_join ((unknown ++ numbers) ++ place) full
    ∙ λ i. option_or ((first_join (unknown ++ numbers) place ∙ λ j. option_or ((first_join unknown numbers ∙ λ k. option_or (first_unknown k) (first_held (nat_lt greatest_number (state.last + length ops)) NumbersSpent k)) j) (first_held (nat_le greatest_number state.place) NumbersSpent j)) i)
    (first_held (nat_lt capacity (add_charge state.charge (write_charge ops))) StoreFull i)
  where
    first_unknown : first_of (unknown_families state (map op_family ops)) ≡ option_map UnknownFamily (option_map op_family (find (λ op. not (has_family state (op_family op))) ops))
    first_unknown =
        first_mapped UnknownFamily (filter (λ name. not (has_family state name)) (map op_family ops))
        ∙ ap (option_map UnknownFamily) (first_found (λ name. not (has_family state name)) op_family ops)
