-- The step of a commit: refused, or done.
use Rattle.std.proofs.Common.{◌≡◌, ℕ, suc, ◌+◌, ◌<◌, ◌≤◌, Bool, true, false, cond, List, [], ◌∷◌, ◌++◌, take, filter, length, not, ◌||◌, ◌==◌, Option, Some, None, is_some, unwrap_or, refl, sym, ap, subst, subst₂, ◌∙◌, inl, inr, ◌⊎◌, arith}
use Rattle.std.specs.Prelude.{IsTrue, fold, filter_map, find, Contains, IsSomeAnd, nat_lt, nat_le}
use Rattle.std.specs.Option.{option_map, option_and_then}
use Rattle.std.specs.List.{cons_option, AllByRecursion as Each}
use Rattle.std.proofs.lemmas.Bool.{or_left, or_right, lt-ltb, ltb-true}
use Rattle.st_base.specs.Bytes.{below}
use Rattle.st_base.specs.Entries.{add_charge}
use Rattle.st_base.specs.Map.{value_at}
use Rattle.st_base.specs.declared.entry.KeyRange.{KeyRange}
use Rattle.st_model.specs.declared.change.Change.TheVariants.{Ingest}
use Rattle.st_model.specs.declared.refusal.FileAt.{FileAt}
use Rattle.st_model.specs.declared.refusal.Refusal.{Refusal}
use Rattle.st_model.specs.declared.refusal.Refusal.TheVariants.{BehindDoesNotFit, NeedsSequence, NotLastLevel, NumbersSpent, StoreFull}
use Rattle.st_model.specs.declared.refusal.Why.{Why}
use Rattle.st_model.specs.declared.state.ModelState.{ModelState}
use Rattle.st_model.specs.Answer.{refused_if, place_spent}
use Rattle.st_base.specs.Range.{meet}
use Rattle.st_model.specs.Refusals.{sure_cause, MayRefuse, IsFirstRefusal, step_of, exact_refusals, first_refused, needs_sequence, sure_refusals, are_numbers_spent, numbers_needed}
use Rattle.st_model.specs.Request.{Argument, asks_behind as is_behind_argument}
use Rattle.st_model.specs.State.{greatest_number}
use Rattle.base_laws.proofs.Lists.{append_none, each_join}
use Rattle.core_model.specs.Commit.{outline, comes_behind, RequestFile, Planned, request_files_of, request_files_after, plan_from, plan_file, plan_behind, plan_by_rule, put_planned, plan, behind_fit_refusal, number_refusal, level_refusal, is_numbered, plan_charge, placed_files, files_taken, commit_refusals, committed}
use Rattle.core_model.specs.Event.{IngestCommitted, request_of_parts, argument_of_part, arguments_after}
use Rattle.core_model.specs.declared.reply.CoreReply.TheVariants.{Received, Refused}
use Rattle.core_model.specs.Relation.{Represents}
use Rattle.core_model.specs.Picture.{FileEntries, FamilyView, Part, Turn, Core, level_at, lowest_level, table_range}
use Rattle.core_model.specs.Run.{applied, Refines, IsRequestAnswer, IsModelAnswer, next_state}
use Rattle.core_model.specs.Step.{IsFlushedFor, RefusedOr, without_turn}
use Rattle.core_laws.specs.Underway.{RefusedByNumber, RefusedByLevel, UnnumberedHasNoCause, CommitRefines}
use Rattle.core_laws.proofs.CommitBegins.{commit_stands}
use Rattle.core_laws.proofs.CommitEnds.{turn_ends}
use Rattle.core_laws.proofs.PlacedPlan.{plan_append, plan_length, pieces_length}
use Rattle.core_laws.proofs.CommitReceived.{received, exact_is, same_full}

-- ---- the first of several lists

pub head_append : {X : Type 0} (xs ys : List X) (x : X) (more : List X) → xs ++ ys ≡ x ∷ more → ((rest : List X) × (xs ≡ x ∷ rest)) ⊎ ((xs ≡ []) × (ys ≡ x ∷ more))
head_append [] ys x more e = inr (refl, e)
head_append {X = X} (y ∷ xs) ys x more e = inl (xs, ap (λ front. front ∷ xs) (ap (first y) e))
  where
    first : X → List X → X
    first d [] = d
    first d (z ∷ zs) = z

head_passes : {X Y : Type 0} (h : X → Option Y) (xs : List X) (y : Y) (more : List Y) → filter_map h xs ≡ y ∷ more → (x : X) × (h x ≡ Some y)
head_passes h [] y more e = absurd cc
head_passes {X = X} {Y = Y} h (x ∷ xs) y more e = step (h x) refl e (head_passes h xs y more)
  where
    first : Y → List Y → Y
    first d [] = d
    first d (z ∷ zs) = z

    step : (found : Option Y) → h x ≡ found → cons_option found (filter_map h xs) ≡ y ∷ more → (filter_map h xs ≡ y ∷ more → (x : X) × (h x ≡ Some y)) → (x : X) × (h x ≡ Some y)
    step None is e rest = rest e
    step (Some z) is e rest = (x, is ∙ ap (λ one. Some (first z one)) e)

first_is : (b : Bool) (one refusal : Refusal) (more : List Refusal) → refused_if b one ≡ refusal ∷ more → (b ≡ true) × (one ≡ refusal)
first_is true one refusal more e = (refl, ap (first one) e)
  where
    first : Refusal → List Refusal → Refusal
    first d [] = d
    first d (z ∷ zs) = z
first_is false one refusal more e = absurd cc

-- ---- refusal 15

fit_is : (core : Core) (planned : Planned) (refusal : Refusal) → behind_fit_refusal core planned ≡ Some refusal → (at : FileAt) × (range : KeyRange) × (refusal ≡ BehindDoesNotFit at range)
fit_is core planned refusal e = step (comes_behind planned.wanted.part) e
  where
    same : Refusal → Option Refusal → Refusal
    same d None = d
    same d (Some one) = one

    of_table : (found : Option FileEntries) → option_map (λ (table : FileEntries). BehindDoesNotFit planned.wanted.at (table_range table)) found ≡ Some refusal → (at : FileAt) × (range : KeyRange) × (refusal ≡ BehindDoesNotFit at range)
    of_table None e = absurd cc
    of_table (Some table) e = (planned.wanted.at, table_range table, sym (ap (same refusal) e))

    of_family : (found : Option FamilyView) → option_and_then (λ (family : FamilyView). option_map (λ (table : FileEntries). BehindDoesNotFit planned.wanted.at (table_range table)) (find (λ (table : FileEntries). meet (table_range table) (table_range planned.wanted.table)) (level_at family 6))) found ≡ Some refusal → (at : FileAt) × (range : KeyRange) × (refusal ≡ BehindDoesNotFit at range)
    of_family None e = absurd cc
    of_family (Some family) e = of_table (find (λ (table : FileEntries). meet (table_range table) (table_range planned.wanted.table)) (level_at family 6)) e

    step : (b : Bool) → cond b (option_and_then (λ (family : FamilyView). option_map (λ (table : FileEntries). BehindDoesNotFit planned.wanted.at (table_range table)) (find (λ (table : FileEntries). meet (table_range table) (table_range planned.wanted.table)) (level_at family 6))) (value_at core.families planned.wanted.part.family)) None ≡ Some refusal
        → (at : FileAt) × (range : KeyRange) × (refusal ≡ BehindDoesNotFit at range)
    step true e = of_family (value_at core.families planned.wanted.part.family) e
    step false e = absurd cc

-- ---- refusals 16 and 17

step_made : {X : Type 0} (n : ℕ) (make : X → Refusal) → ((x : X) → step_of (make x) ≡ n ∷ []) → (found : Option X) (refusal : Refusal) → option_map make found ≡ Some refusal → step_of refusal ≡ n ∷ []
step_made n make steps None refusal e = absurd cc
step_made n make steps (Some x) refusal e = subst (λ one. step_of one ≡ n ∷ []) (ap (λ found. unwrap_or found refusal) e) (steps x)

number_step : (planned : Planned) (refusal : Refusal) → number_refusal planned ≡ Some refusal → step_of refusal ≡ 16 ∷ []
number_step planned refusal e = step planned.wanted.part.options.allow_global_seqno e
  where
    step : (b : Bool) → cond b None (option_map (λ why. NeedsSequence planned.wanted.at why) planned.why) ≡ Some refusal → step_of refusal ≡ 16 ∷ []
    step true e = absurd cc
    step false e = step_made 16 (λ why. NeedsSequence planned.wanted.at why) (λ why. refl) planned.why refusal e

level_step : (lowest : ℕ) (planned : Planned) (refusal : Refusal) → level_refusal lowest planned ≡ Some refusal → step_of refusal ≡ 17 ∷ []
level_step lowest planned refusal e = step (comes_behind planned.wanted.part || not planned.wanted.part.options.fail_if_not_bottommost_level || planned.level == lowest) e
  where
    step : (b : Bool) → cond b None (option_map (λ why. NotLastLevel planned.wanted.at planned.level why) planned.high) ≡ Some refusal → step_of refusal ≡ 17 ∷ []
    step true e = absurd cc
    step false e = step_made 17 (λ why. NotLastLevel planned.wanted.at planned.level why) (λ why. refl) planned.high refusal e

-- ---- refusal 18

behind_none : (sure : Option Why) (part : Part) (a i : ℕ) (tables : List FileEntries) (c : Core) → comes_behind part ≡ true → length (filter is_numbered (plan_from c (request_files_of sure part a i tables))) ≡ 0
behind_none sure part a i [] c behind = refl
behind_none sure part a i (table ∷ tables) c behind =
    let wanted : RequestFile = record { at = record { arg = a; file = i }; part = part; table = table; sure = sure } in
    ap (λ b. length (cond b (plan_file c wanted ∷ filter is_numbered (plan_from (put_planned c (plan_file c wanted)) (request_files_of sure part a (i + 1) tables))) (filter is_numbered (plan_from (put_planned c (plan_file c wanted)) (request_files_of sure part a (i + 1) tables)))))
    (ap (λ b. is_some (cond b (plan_behind wanted) (plan_by_rule c wanted)).why) behind)
    ∙ behind_none sure part a (i + 1) tables (put_planned c (plan_file c wanted)) behind

filter_at_most : {X : Type 0} (p : X → Bool) (xs : List X) → length (filter p xs) ≤ length xs
filter_at_most p [] = omega arith
filter_at_most p (x ∷ xs) = step (p x) (filter_at_most p xs)
  where
    step : (b : Bool) → length (filter p xs) ≤ length xs → length (cond b (x ∷ filter p xs) (filter p xs)) ≤ suc (length xs)
    step true le = omega arith
    step false le = omega arith

filter_both : {X : Type 0} (p : X → Bool) (xs ys : List X) → length (filter p (xs ++ ys)) ≡ length (filter p xs) + length (filter p ys)
filter_both p [] ys = omega arith
filter_both p (x ∷ xs) ys = step (p x) (filter_both p xs ys)
  where
    step : (b : Bool) → length (filter p (xs ++ ys)) ≡ length (filter p xs) + length (filter p ys) → length (cond b (x ∷ filter p (xs ++ ys)) (filter p (xs ++ ys))) ≡ length (cond b (x ∷ filter p xs) (filter p xs)) + length (filter p ys)
    step true e = omega arith
    step false e = e

part_count : (sure : Option Why) (part : Part) (a : ℕ) (c : Core) → length (filter is_numbered (plan_from c (request_files_of sure part a 1 part.files))) ≤ cond (comes_behind part) 0 (length part.files)
part_count sure part a c = step (comes_behind part) refl
  where
    step : (b : Bool) → comes_behind part ≡ b → length (filter is_numbered (plan_from c (request_files_of sure part a 1 part.files))) ≤ cond b 0 (length part.files)
    step true behind = omega (arith, behind_none sure part a 1 part.files c behind)
    step false not_behind = omega (arith, filter_at_most is_numbered (plan_from c (request_files_of sure part a 1 part.files)), plan_length c (request_files_of sure part a 1 part.files), pieces_length sure part a 1 part.files)

-- from the numbers of the arguments before
plan_count : (core c : Core) (a : ℕ) (parts : List Part) (m n : ℕ) → m ≤ n
    → m + length (filter is_numbered (plan_from c (request_files_after core a parts))) ≤ fold (λ total argument. total + cond (is_behind_argument argument) 0 argument.named) n (arguments_after a parts)
plan_count core c a [] m n le = omega arith
plan_count core c a (part ∷ parts) m n le =
    let first = request_files_of (sure_cause (outline core) (argument_of_part a part)) part a 1 part.files in
    let after = fold put_planned c (plan_from c first) in
    let both = ap (λ planned. length (filter is_numbered planned)) (plan_append c first (request_files_after core (a + 1) parts)) ∙ filter_both is_numbered (plan_from c first) (plan_from after (request_files_after core (a + 1) parts)) in
    let one = part_count (sure_cause (outline core) (argument_of_part a part)) part a c in
    let rest = plan_count core after (a + 1) parts (m + length (filter is_numbered (plan_from c first))) (n + cond (comes_behind part) 0 (length part.files)) (sums le one) in
    omega (arith, both, rest)
  where
    sums : {w x y z : ℕ} → w ≤ x → y ≤ z → w + y ≤ x + z
    sums p q = omega arith

spent_is : (core : Core) (state : ModelState) (turn : Turn) → core.last ≡ state.last → nat_lt greatest_number (core.last + length (filter is_numbered (plan core turn.parts))) ≡ true → are_numbers_spent state (request_of_parts turn.parts) ≡ true
spent_is core state turn same lt =
    or_left (nat_lt greatest_number (state.last + numbers_needed (request_of_parts turn.parts))) (nat_le greatest_number state.place)
    (lt-ltb greatest_number (state.last + numbers_needed (request_of_parts turn.parts)) (more greatest_number (core.last + length (filter is_numbered (plan core turn.parts))) (state.last + numbers_needed (request_of_parts turn.parts)) (ltb-true greatest_number (core.last + length (filter is_numbered (plan core turn.parts))) lt) (at_least (length (filter is_numbered (plan core turn.parts))) (numbers_needed (request_of_parts turn.parts)) same (plan_count core core 1 turn.parts 0 0 (omega arith)))))
  where
    more : (g x y : ℕ) → g < x → x ≤ y → g < y
    more g x y lt le = omega arith

    at_least : {x y : ℕ} (m n : ℕ) → x ≡ y → 0 + m ≤ n → x + m ≤ y + n
    at_least m n e le = omega arith

-- ---- an answer that refuses

abbrev Heads : Refusal → List Refusal → Type 0
Heads refusal list = (rest : List Refusal) × (list ≡ refusal ∷ rest)

six_cases : (a b c d f g : List Refusal) (r : Refusal) (more : List Refusal) (G : Type 0) → a ++ b ++ c ++ d ++ f ++ g ≡ r ∷ more
    → (Heads r a → G) → (a ≡ [] → Heads r b → G) → (a ≡ [] → b ≡ [] → Heads r c → G) → (a ≡ [] → b ≡ [] → Heads r d → G) → (a ≡ [] → b ≡ [] → Heads r f → G)
    → (a ≡ [] → b ≡ [] → f ≡ [] → Heads r g → G) → G
six_cases a b c d f g r more G e by_a by_b by_c by_d by_f by_g = last (head_append (a ++ b ++ c ++ d ++ f) g r more e)
  where
    two : Heads r (a ++ b) → G
    two (rest, e) = elim (head_append a b r rest e) [ inl h ↦ by_a h | inr h ↦ by_b h.0 (rest, h.1) ]

    three : Heads r (a ++ b ++ c) → G
    three (rest, e) = elim (head_append (a ++ b) c r rest e) [ inl h ↦ two h | inr h ↦ by_c (append_none a b h.0).0 (append_none a b h.0).1 (rest, h.1) ]

    four : Heads r (a ++ b ++ c ++ d) → G
    four (rest, e) = elim (head_append (a ++ b ++ c) d r rest e) [
      | inl h ↦ three h
      | inr h ↦ let none = append_none a b (append_none (a ++ b) c h.0).0 in by_d none.0 none.1 (rest, h.1)
    ]

    five : Heads r (a ++ b ++ c ++ d ++ f) → G
    five (rest, e) = elim (head_append (a ++ b ++ c ++ d) f r rest e) [
      | inl h ↦ four h
      | inr h ↦ let none = append_none a b (append_none (a ++ b) c (append_none (a ++ b ++ c) d h.0).0).0 in by_f none.0 none.1 (rest, h.1)
    ]

    last : Heads r (a ++ b ++ c ++ d ++ f) ⊎ ((a ++ b ++ c ++ d ++ f ≡ []) × (g ≡ r ∷ more)) → G
    last (inl h) = five h
    last (inr h) =
        let all = append_none (a ++ b ++ c ++ d) f h.0 in
        let none = append_none a b (append_none (a ++ b) c (append_none (a ++ b ++ c) d all.0).0).0 in by_g none.0 none.1 all.1 (more, h.1)

-- ---- no sure refusal comes before

-- none of the refusals that are sure comes before
abbrev ComesFirst : ModelState → List Part → Refusal → Type 0
ComesFirst state parts refusal = IsFirstRefusal (exact_refusals state (request_of_parts parts) ++ sure_refusals state (request_of_parts parts)) refusal

-- a refusal at this step or later
abbrev AtLeast : ℕ → Refusal → Type 0
AtLeast n refusal = IsTrue (not (below (step_of refusal) (n ∷ [])))

sure_after : (n : ℕ) (refusal : Refusal) → step_of refusal ≡ n ∷ [] → (exact : List Refusal) → exact ≡ [] → (state : ModelState) (request : List Argument)
    → Each (AtLeast n) (needs_sequence (first_refused state request)) → Each (AtLeast n) (place_spent state) → IsFirstRefusal (exact ++ sure_refusals state request) refusal
sure_after n refusal step exact none state request cause place =
    subst (λ one. Each (λ other. IsTrue (not (below (step_of other) one))) (exact ++ sure_refusals state request)) (sym step)
    (subst (λ front. Each (AtLeast n) (front ++ sure_refusals state request)) (sym none) (each_join (AtLeast n) (needs_sequence (first_refused state request)) (place_spent state) cause place))

cause_after : (n : ℕ) → IsTrue (not (below (16 ∷ []) (n ∷ []))) → (found : Option (FileAt × Why)) → Each (AtLeast n) (needs_sequence found)
cause_after n later None = tt
cause_after n later (Some cause) = (later, tt)

no_cause_after : (n : ℕ) (found : Option (FileAt × Why)) → found ≡ None → Each (AtLeast n) (needs_sequence found)
no_cause_after n None e = tt
no_cause_after n (Some cause) e = absurd cc

place_after : (n : ℕ) → IsTrue (not (below (18 ∷ []) (n ∷ []))) → (b : Bool) → Each (AtLeast n) (refused_if b NumbersSpent)
place_after n later true = (later, tt)
place_after n later false = tt

module _ (by_number : RefusedByNumber) (by_level : RefusedByLevel) (no_cause : UnnumberedHasNoCause) where
  commit_refused : (core : Core) (state : ModelState) (turn : Turn) (refusal : Refusal) (more : List Refusal) → Represents core state → core.turn ≡ Some turn → IsFlushedFor core turn.parts → commit_refusals core turn.parts ≡ refusal ∷ more
      → MayRefuse state core.capacity (request_of_parts turn.parts) refusal × ComesFirst state turn.parts refusal
  commit_refused core state turn refusal more stands is flushed e =
      six_cases (filter_map (behind_fit_refusal core) (plan core turn.parts)) (filter_map number_refusal (plan core turn.parts)) (filter_map (level_refusal (lowest_level core)) (plan core turn.parts))
      (refused_if (nat_lt greatest_number (core.last + length (filter is_numbered (plan core turn.parts)))) NumbersSpent) (place_spent (outline core))
      (refused_if (nat_lt core.capacity (add_charge core.charge (plan_charge (plan core turn.parts)))) StoreFull)
      refusal more (MayRefuse state core.capacity (request_of_parts turn.parts) refusal × ComesFirst state turn.parts refusal) e
      by_fit
      (λ none head. let may = by_number core state turn refusal head.0 stands is flushed none head.1 in (may, after_cause none (head_passes number_refusal (plan core turn.parts) refusal head.0 head.1)))
      (λ none unnumbered head. (
        by_level core state turn refusal head.0 stands is flushed none head.1,
        after_level none unnumbered (head_passes (level_refusal (lowest_level core)) (plan core turn.parts) refusal head.0 head.1),
      ))
      (λ none unnumbered head. let at = first_is (nat_lt greatest_number (core.last + length (filter is_numbered (plan core turn.parts)))) NumbersSpent refusal head.0 head.1 in
      (subst (MayRefuse state core.capacity (request_of_parts turn.parts)) at.1 (spent_is core state turn stands.same.last at.0), subst (ComesFirst state turn.parts) at.1 (after_all 18 NumbersSpent refl none unnumbered (place_after 18 refl (nat_le greatest_number state.place)))))
      (λ none unnumbered head. let at = first_is (nat_le greatest_number core.place) NumbersSpent refusal head.0 head.1 in (
        subst (MayRefuse state core.capacity (request_of_parts turn.parts)) at.1
            (or_right (nat_lt greatest_number (state.last + numbers_needed (request_of_parts turn.parts))) (nat_le greatest_number state.place) (ap (nat_le greatest_number) (sym stands.same.place) ∙ at.0)),
        subst (ComesFirst state turn.parts) at.1 (after_all 18 NumbersSpent refl none unnumbered (place_after 18 refl (nat_le greatest_number state.place))),
      ))
      (λ none unnumbered unspent head. let at = first_is (nat_lt core.capacity (add_charge core.charge (plan_charge (plan core turn.parts)))) StoreFull refusal head.0 head.1 in
      (subst (MayRefuse state core.capacity (request_of_parts turn.parts)) at.1 (sym (same_full core state turn.parts stands.same.charge) ∙ at.0), subst (ComesFirst state turn.parts) at.1 (after_all 19 StoreFull refl none unnumbered (subst (Each (AtLeast 19)) (sym (spent_same ∙ unspent)) tt))))
    where
      spent_same : place_spent state ≡ place_spent (outline core)
      spent_same = ap (λ place. refused_if (nat_le greatest_number place) NumbersSpent) (sym stands.same.place)

      exact_none : filter_map (behind_fit_refusal core) (plan core turn.parts) ≡ [] → exact_refusals state (request_of_parts turn.parts) ≡ []
      exact_none none = exact_is core state stands turn is ∙ ap (take 1) none

      after_all : (n : ℕ) (one : Refusal) → step_of one ≡ n ∷ [] → filter_map (behind_fit_refusal core) (plan core turn.parts) ≡ [] → filter_map number_refusal (plan core turn.parts) ≡ [] → Each (AtLeast n) (place_spent state) → ComesFirst state turn.parts one
      after_all n one step none unnumbered place =
          sure_after n one step (exact_refusals state (request_of_parts turn.parts)) (exact_none none) state (request_of_parts turn.parts)
          (no_cause_after n (first_refused state (request_of_parts turn.parts)) (no_cause core state turn stands is unnumbered)) place

      after_cause : filter_map (behind_fit_refusal core) (plan core turn.parts) ≡ [] → (planned : Planned) × (number_refusal planned ≡ Some refusal) → ComesFirst state turn.parts refusal
      after_cause none (planned, e) =
          sure_after 16 refusal (number_step planned refusal e) (exact_refusals state (request_of_parts turn.parts)) (exact_none none) state (request_of_parts turn.parts)
          (cause_after 16 refl (first_refused state (request_of_parts turn.parts))) (place_after 16 refl (nat_le greatest_number state.place))

      after_level : filter_map (behind_fit_refusal core) (plan core turn.parts) ≡ [] → filter_map number_refusal (plan core turn.parts) ≡ [] → (planned : Planned) × (level_refusal (lowest_level core) planned ≡ Some refusal) → ComesFirst state turn.parts refusal
      after_level none unnumbered (planned, e) = after_all 17 refusal (level_step (lowest_level core) planned refusal e) none unnumbered (place_after 17 refl (nat_le greatest_number state.place))

      by_fit : Heads refusal (filter_map (behind_fit_refusal core) (plan core turn.parts)) → MayRefuse state core.capacity (request_of_parts turn.parts) refusal × ComesFirst state turn.parts refusal
      by_fit (rest, e) =
          let passes = head_passes (behind_fit_refusal core) (plan core turn.parts) refusal rest e in
          let form = fit_is core passes.0 refusal passes.1 in
          let exact : exact_refusals state (request_of_parts turn.parts) ≡ refusal ∷ [] = exact_is core state stands turn is ∙ ap (take 1) e in (
            subst (MayRefuse state core.capacity (request_of_parts turn.parts)) (sym form.2)
                (subst (λ one. Contains (exact_refusals state (request_of_parts turn.parts)) one) form.2 (subst (λ list. Contains list refusal) (sym exact) (0, omega arith, refl))),
            subst (λ list. IsFirstRefusal (list ++ sure_refusals state (request_of_parts turn.parts)) refusal) (sym exact)
                (subst (λ one. IsFirstRefusal (one ∷ sure_refusals state (request_of_parts turn.parts)) one) (sym form.2)
                (refl, each_join (AtLeast 15) (needs_sequence (first_refused state (request_of_parts turn.parts))) (place_spent state) (cause_after 15 refl (first_refused state (request_of_parts turn.parts))) (place_after 15 refl (nat_le greatest_number state.place)))),
          )

  -- ---- the step

  pub commit_refines : CommitRefines
  commit_refines core state answer after stands now does = of_turn core.turn refl now does
    where
      of_turn : (found : Option Turn) → core.turn ≡ found → IsSomeAnd found (λ turn. IsFlushedFor core turn.parts)
          → IsSomeAnd found (λ turn. RefusedOr (commit_refusals core turn.parts) (without_turn core) (committed core turn.parts) (Received (core.place + 1) (placed_files (plan core turn.parts))) answer after)
          → Refines core state IngestCommitted answer after
      of_turn None is flushed does = absurd flushed
      of_turn (Some turn) is flushed does = by_refusals (commit_refusals core turn.parts) refl does
        where
          by_refusals : (refusals : List Refusal) → commit_refusals core turn.parts ≡ refusals
              → RefusedOr refusals (without_turn core) (committed core turn.parts) (Received (core.place + 1) (placed_files (plan core turn.parts))) answer after → Refines core state IngestCommitted answer after
          by_refusals [] none (is_answer, is_after) = record {
            answer_of = λ _. subst (λ one. IsModelAnswer core state IngestCommitted one) (sym is_answer)
                (subst (λ found. IsSomeAnd found (λ one. IsRequestAnswer state core.capacity one.parts (Received (core.place + 1) (placed_files (plan core turn.parts))))) (sym is) (received core state stands turn is flushed none));
            stands = subst₂ (λ one other. Represents other (next_state core state IngestCommitted one)) (sym is_answer) (sym is_after)
                (subst (λ found. Represents (committed core turn.parts) (applied state (option_map (λ one. Ingest (files_taken (plan core one.parts))) found))) (sym is) (commit_stands core state turn stands is flushed none));
          }
          by_refusals (refusal ∷ refusals) some (is_answer, is_after) = record {
            answer_of = λ _. subst (λ one. IsModelAnswer core state IngestCommitted one) (sym is_answer)
                (subst (λ found. IsSomeAnd found (λ one. IsRequestAnswer state core.capacity one.parts (Refused refusal))) (sym is) (commit_refused core state turn refusal refusals stands is flushed some));
            stands = subst₂ (λ one other. Represents other (next_state core state IngestCommitted one)) (sym is_answer) (sym is_after) (turn_ends core state stands);
          }
