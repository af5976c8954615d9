-- A state whose only family is `default`.
use Rattle.std.proofs.Common.{◌≡◌, ℕ, ◌+◌, ◌<◌, ◌≤◌, Bool, true, false, not, List, [], ◌∷◌, ◌++◌, map, filter, length, Option, Some, None, refl, sym, ◌∙◌, ap, cond, is_some, is_eq, slice_get, nat_lt, nat_le, arith, true≢false, min, ◌^◌, ◌-◌}
use Rattle.st_base.specs.Bytes.{same, bytes_cmp, default_family}
use Rattle.std.specs.Option.{option_and_then}
use Rattle.st_base.specs.Map.{value_at}
use Rattle.st_base.specs.Entries.{add_charge}
use Rattle.st_base.proofs.Same.{same_is_eq}
use Rattle.st_model.specs.declared.change.Op.{Op}
use Rattle.st_model.specs.declared.refusal.Refusal.{Refusal}
use Rattle.st_model.specs.declared.refusal.Refusal.TheVariants.{UnknownFamily, NumbersSpent, StoreFull}
use Rattle.st_model.specs.declared.reply.Reply.TheVariants.{Refused}
use Rattle.st_model.specs.declared.state.ModelFamily.{ModelFamily}
use Rattle.st_model.specs.declared.state.ModelState.{ModelState}
use Rattle.st_model.specs.State.{greatest_number, has_family}
use Rattle.st_model.specs.Read.{read}
use Rattle.st_model.specs.Apply.{op_family, write_charge}
use Rattle.st_model.specs.Answer.{unknown_families, refused_if, place_spent, write_refusals, first_or}
use Rattle.st_model.specs.Reads.{get_answer, found, read_in}
use Rattle.log_engine.specs.Op.{strangers}

-- the state's families are `default` alone
pub record HasDefault (state : ModelState) (family : ModelFamily) : Type 0 where
  pub families : state.families ≡ (default_family, family) ∷ []

is_there : (state : ModelState) (family : ModelFamily) (name : List ℕ) → HasDefault state family → has_family state name ≡ same name default_family
is_there state family name h =
    ap (λ families. has_family (record state { families = families }) name) h.families ∙ go (is_eq (bytes_cmp name default_family)) ∙ sym (same_is_eq name default_family)
  where
    go : (b : Bool) → is_some (cond b (Some family) None) ≡ b
    go true = refl
    go false = refl

same_filter : {X : Type 0} (p q : X → Bool) → ((x : X) → p x ≡ q x) → (xs : List X) → filter p xs ≡ filter q xs
same_filter p q e [] = refl
same_filter p q e (x ∷ xs) = ap (λ b. cond b (x ∷ filter p xs) (filter p xs)) (e x) ∙ ap (λ rest. cond (q x) (x ∷ rest) rest) (same_filter p q e xs)

-- what isn't there is what isn't `default`
pub unknown_is : (state : ModelState) (family : ModelFamily) (names : List (List ℕ)) → HasDefault state family
    → unknown_families state names ≡ map UnknownFamily (filter (λ name. not (same name default_family)) names)
unknown_is state family names h =
    ap (map UnknownFamily) (same_filter (λ name. not (has_family state name)) (λ name. not (same name default_family)) (λ name. ap not (is_there state family name h)) names)

-- the refusals of a write, after those of families that aren't there
abbrev pub later_refusals : ModelState → ℕ → List Op → List Refusal
later_refusals state capacity ops =
    refused_if (nat_lt greatest_number (state.last + length ops)) NumbersSpent
    ++ place_spent state
    ++ refused_if (nat_lt capacity (add_charge state.charge (write_charge ops))) StoreFull

first_of_strangers : (names : List (List ℕ)) (name : List ℕ) (a b c : List Refusal) → slice_get names 0 ≡ Some name → Some (UnknownFamily name) ≡ slice_get (map UnknownFamily names ++ a ++ b ++ c) 0
first_of_strangers [] name a b c e = cc
first_of_strangers (first ∷ names) name a b c e = let same_name : first ≡ name = cc in ap (λ n. Some (UnknownFamily n)) (sym same_name)

no_strangers : (names : List (List ℕ)) → slice_get names 0 ≡ None → names ≡ []
no_strangers [] e = refl
no_strangers (first ∷ names) e = cc

-- a stranger is refused first
pub stranger_first : (state : ModelState) (family : ModelFamily) (capacity : ℕ) (ops : List Op) (name : List ℕ) → HasDefault state family → slice_get (strangers ops) 0 ≡ Some name
    → Some (UnknownFamily name) ≡ slice_get (write_refusals state capacity ops) 0
stranger_first state family capacity ops name h e =
    let a : List Refusal = refused_if (nat_lt greatest_number (state.last + length ops)) NumbersSpent in
    let b : List Refusal = place_spent state in
    let c : List Refusal = refused_if (nat_lt capacity (add_charge state.charge (write_charge ops))) StoreFull in
    first_of_strangers (strangers ops) name a b c e ∙ sym (ap (λ us. slice_get (us ++ a ++ b ++ c) 0) (unknown_is state family (map op_family ops) h))

-- without a stranger the other refusals are left
pub known_first : (state : ModelState) (family : ModelFamily) (capacity : ℕ) (ops : List Op) → HasDefault state family → slice_get (strangers ops) 0 ≡ None
    → write_refusals state capacity ops ≡ later_refusals state capacity ops
known_first state family capacity ops h e =
    let a : List Refusal = refused_if (nat_lt greatest_number (state.last + length ops)) NumbersSpent in
    let b : List Refusal = place_spent state in
    let c : List Refusal = refused_if (nat_lt capacity (add_charge state.charge (write_charge ops))) StoreFull in
    ap (λ us. us ++ a ++ b ++ c) (unknown_is state family (map op_family ops) h ∙ ap (map UnknownFamily) (no_strangers (strangers ops) e))

-- ---- the first of three tests that holds

pub record IsFirst (numbers place charge : Bool) (refusal : Option Refusal) : Type 0 where
  pub is : refusal ≡ slice_get (refused_if numbers NumbersSpent ++ refused_if place NumbersSpent ++ refused_if charge StoreFull) 0

pub numbers_first : (p q r : Bool) → p ≡ true → IsFirst p q r (Some NumbersSpent)
numbers_first true q r e = record { is = refl }
numbers_first false q r e = absurd (true≢false (sym e))

pub place_first : (p q r : Bool) → p ≡ false → q ≡ true → IsFirst p q r (Some NumbersSpent)
place_first true q r e f = absurd (true≢false e)
place_first false true r e f = record { is = refl }
place_first false false r e f = absurd (true≢false (sym f))

pub charge_first : (p q r : Bool) → p ≡ false → q ≡ false → r ≡ true → IsFirst p q r (Some StoreFull)
charge_first true q r e f g = absurd (true≢false e)
charge_first false true r e f g = absurd (true≢false f)
charge_first false false true e f g = record { is = refl }
charge_first false false false e f g = absurd (true≢false (sym g))

pub none_first : (p q r : Bool) → p ≡ false → q ≡ false → r ≡ false → IsFirst p q r None
none_first true q r e f g = absurd (true≢false e)
none_first false true r e f g = absurd (true≢false f)
none_first false false true e f g = absurd (true≢false g)
none_first false false false e f g = record { is = refl }

-- which test a write fails first, if no family is strange
pub first_is : (state : ModelState) (family : ModelFamily) (capacity : ℕ) (ops : List Op) (refusal : Option Refusal) → HasDefault state family → slice_get (strangers ops) 0 ≡ None
    → IsFirst (nat_lt greatest_number (state.last + length ops)) (nat_le greatest_number state.place) (nat_lt capacity (add_charge state.charge (write_charge ops))) refusal
    → refusal ≡ slice_get (write_refusals state capacity ops) 0
first_is state family capacity ops refusal h e first = first.is ∙ sym (ap (λ rs. slice_get rs 0) (known_first state family capacity ops h e))

-- ---- the tests on numbers, as the store makes them

pub is_over : (most last count : ℕ) → most < 2 ^ 64 - 1 → most < min (last + count) (2 ^ 64 - 1) → nat_lt most (last + count) ≡ true
is_over most last count m h = grind (arith, m, h)

pub is_not_over : (most last count : ℕ) → most < 2 ^ 64 - 1 → min (last + count) (2 ^ 64 - 1) ≤ most → nat_lt most (last + count) ≡ false
is_not_over most last count m h = grind (arith, m, h)

pub is_below : (m n : ℕ) → m < n → nat_lt m n ≡ true
is_below m n h = grind (arith, h)

pub is_not_below : (m n : ℕ) → n ≤ m → nat_lt m n ≡ false
is_not_below m n h = grind (arith, h)

pub is_at_most : (m n : ℕ) → m ≤ n → nat_le m n ≡ true
is_at_most m n h = grind (arith, h)

pub is_not_at_most : (m n : ℕ) → n < m → nat_le m n ≡ false
is_not_at_most m n h = grind (arith, h)

-- ---- a read of a family that isn't there, or is

pub get_unknown : (state : ModelState) (family : ModelFamily) (number : ℕ) (name key : List ℕ) → HasDefault state family → same name default_family ≡ false
    → Refused (UnknownFamily name) ≡ get_answer state number name key
get_unknown state family number name key h apart =
    sym (ap (λ us. first_or us (found (read_in state number name key))) (unknown_is state family (name ∷ []) h)
    ∙ ap (λ b. first_or (map UnknownFamily (cond (not b) (name ∷ []) [])) (found (read_in state number name key))) apart)

pub get_known : (state : ModelState) (family : ModelFamily) (number : ℕ) (name key : List ℕ) → HasDefault state family → same name default_family ≡ true
    → get_answer state number name key ≡ found (read family number key)
get_known state family number name key h is =
    ap (λ us. first_or us (found (read_in state number name key))) (unknown_is state family (name ∷ []) h)
    ∙ ap (λ b. first_or (map UnknownFamily (cond (not b) (name ∷ []) [])) (found (read_in state number name key))) is
    ∙ ap (λ families. found (option_and_then (λ f. read f number key) (value_at families name))) h.families
    ∙ ap (λ b. found (option_and_then (λ f. read f number key) (cond b (Some family) None))) (sym (same_is_eq name default_family) ∙ is)
