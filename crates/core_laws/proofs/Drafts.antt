-- A request drafted file by file is the core's plan, and its first refusal is that of six tests in a row.
use Rattle.std.proofs.Common.{◌≡◌, ℕ, ◌+◌, ◌<◌, Bool, true, false, cond, ◌||◌, not, List, [], ◌∷◌, ◌++◌, map, filter, length, Option, Some, None, append_assoc, refl, sym, ap, ap₂, ◌∙◌, arith}
use Rattle.std.specs.Prelude.{◌^◌, filter_map, find, fold, nat_le, nat_lt}
use Rattle.std.specs.Option.{option_and_then, option_map, option_or}
use Rattle.std.specs.List.{cons_option}
use Rattle.st_base.specs.Entries.{add_charge}
use Rattle.st_base.specs.Map.{value_at}
use Rattle.st_base.specs.Range.{file_charge, meet}
use Rattle.st_base.specs.declared.entry.KeyRange.{KeyRange}
use Rattle.st_model.specs.Answer.{place_spent, refused_if}
use Rattle.st_model.specs.Early.{is_empty}
use Rattle.st_model.specs.Refusals.{lowest_live, sure_cause}
use Rattle.st_model.specs.Request.{files_from, meeting_after, range_of_file}
use Rattle.st_model.specs.State.{greatest_number}
use Rattle.st_model.specs.declared.command.FileSeen.TheVariants as seen
use Rattle.st_model.specs.declared.refusal.Refusal.{Refusal}
use Rattle.st_model.specs.declared.refusal.Refusal.TheVariants.{BehindDoesNotFit, NumbersSpent, StoreFull}
use Rattle.st_model.specs.declared.refusal.Why.{Why}
use Rattle.st_model.specs.declared.refusal.Why.TheVariants.{Files, Snapshot}
use Rattle.core_model.specs.Commit.{Planned, RequestFile, behind_fit_refusal, comes_behind, is_numbered, level_refusal, number_refusal, outline, placed_files, placed_in_plan, plan, plan_charge, plan_file, plan_from, put_planned, request_files, request_files_after, request_files_of}
use Rattle.core_model.specs.Draft.{Draft, drafted, first_met, first_unfit, met_below, new_draft, refused_where, with_request_file, with_request_files}
use Rattle.core_model.specs.Event.{argument_of_part}
use Rattle.core_model.specs.Picture.{Core, FamilyView, FileEntries, Part, level_at, lowest_level, table_range}
use Rattle.core_model.specs.Step.{first_of}
use Rattle.core_laws.proofs.CommitBegins.{place_piece}
use Rattle.core_laws.proofs.CommitReceived.{last_counts}
use Rattle.core_laws.specs.Laws.{DraftIsRefused, RequestIsDrafted, SureIsOfPart}

-- ---- charges

add_more : (c p x : ℕ) → add_charge (add_charge c p) x ≡ add_charge c (add_charge p x)
add_more c p x = omega arith

charge_from : (c p : ℕ) (core : Core) (planned : List Planned) → core.charge ≡ add_charge c p
    → (fold put_planned core planned).charge ≡ add_charge c (fold (λ charge (one : Planned). add_charge charge (file_charge one.wanted.table.entries)) p planned)
charge_from c p core [] h = h
charge_from c p core (one ∷ planned) h =
    charge_from c (add_charge p (file_charge one.wanted.table.entries)) (put_planned core one) planned
    (ap (λ n. add_charge n (file_charge one.wanted.table.entries)) h ∙ add_more c p (file_charge one.wanted.table.entries))

charge_counts : (core : Core) (planned : List Planned) → core.charge < 2 ^ 64 → (fold put_planned core planned).charge ≡ add_charge core.charge (plan_charge planned)
charge_counts core planned within = charge_from core.charge 0 core planned (start core.charge within)
  where
    start : (c : ℕ) → c < 2 ^ 64 → c ≡ add_charge c 0
    start c lt = omega (arith, lt)

-- ---- the first of what a list gives

first_given : {X Y : Type 0} (h : X → Option Y) (x : X) (xs : List X) → first_of (filter_map h (x ∷ xs)) ≡ option_or (h x) (first_of (filter_map h xs))
first_given {Y = Y} h x xs = step (h x)
  where
    step : (found : Option Y) → first_of (cons_option found (filter_map h xs)) ≡ option_or found (first_of (filter_map h xs))
    step None = refl
    step (Some y) = refl

first_join : {X : Type 0} (xs ys : List X) → first_of (xs ++ ys) ≡ option_or (first_of xs) (first_of ys)
first_join [] ys = refl
first_join (x ∷ xs) ys = refl

first_held : (b : Bool) (refusal : Refusal) → first_of (refused_if b refusal) ≡ refused_where b refusal
first_held true refusal = refl
first_held false refusal = refl

or_twice : {X : Type 0} (a b c : Option X) → option_or (option_or a b) c ≡ option_or a (option_or b c)
or_twice None b c = refl
or_twice (Some x) b c = refl

or_none : {X : Type 0} (a : Option X) → a ≡ option_or a None
or_none None = refl
or_none (Some x) = refl

append_none : {X : Type 0} (xs : List X) → xs ≡ xs ++ []
append_none [] = refl
append_none {X} (x ∷ xs) = ap (λ (ys : List X). x ∷ ys) (append_none xs)

-- ---- drafts

pub drafts_core : (draft : Draft) (some : List RequestFile) → (with_request_files draft some).core ≡ fold put_planned draft.core (plan_from draft.core some)
drafts_core draft [] = refl
drafts_core draft (wanted ∷ some) = drafts_core (with_request_file draft wanted) some

pub drafts_number : (draft : Draft) (some : List RequestFile) → (with_request_files draft some).number ≡ option_or draft.number (first_of (filter_map number_refusal (plan_from draft.core some)))
drafts_number draft [] = or_none draft.number
drafts_number draft (wanted ∷ some) =
    let rest : List Planned = plan_from (put_planned draft.core (plan_file draft.core wanted)) some in
    drafts_number (with_request_file draft wanted) some
    ∙ (or_twice draft.number (number_refusal (plan_file draft.core wanted)) (first_of (filter_map number_refusal rest))
    ∙ ap (option_or draft.number) (sym (first_given number_refusal (plan_file draft.core wanted) rest)))

pub drafts_level : (draft : Draft) (some : List RequestFile) → (with_request_files draft some).level ≡ option_or draft.level (first_of (filter_map (level_refusal (lowest_level draft.core)) (plan_from draft.core some)))
drafts_level draft [] = or_none draft.level
drafts_level draft (wanted ∷ some) =
    let rest : List Planned = plan_from (put_planned draft.core (plan_file draft.core wanted)) some in
    drafts_level (with_request_file draft wanted) some
    ∙ (or_twice draft.level (level_refusal (lowest_level draft.core) (plan_file draft.core wanted)) (first_of (filter_map (level_refusal (lowest_level draft.core)) rest))
    ∙ ap (option_or draft.level) (sym (first_given (level_refusal (lowest_level draft.core)) (plan_file draft.core wanted) rest)))

pub drafts_files : (draft : Draft) (some : List RequestFile) → (with_request_files draft some).files ≡ draft.files ++ placed_files (plan_from draft.core some)
drafts_files draft [] = append_none draft.files
drafts_files draft (wanted ∷ some) =
    drafts_files (with_request_file draft wanted) some
    ∙ append_assoc draft.files (placed_in_plan (plan_file draft.core wanted) ∷ []) (placed_files (plan_from (put_planned draft.core (plan_file draft.core wanted)) some))

pub request_is_drafted : RequestIsDrafted
request_is_drafted core parts = (drafts_core (new_draft core) (request_files core parts), drafts_files (new_draft core) (request_files core parts))

-- ---- refusal 15

abbrev fit_of : Core → RequestFile → Option Refusal
fit_of core wanted =
    cond (comes_behind wanted.part) (option_map (λ (other : FileEntries). BehindDoesNotFit wanted.at (table_range other)) (met_below core wanted.part.family wanted.table)) None

-- one table that is met, taken under the look-up
under_found : {X Y : Type 0} (g : FileEntries → Y) (h : X → Option FileEntries) (found : Option X) → option_and_then (λ x. option_map g (h x)) found ≡ option_map g (option_and_then h found)
under_found g h None = refl
under_found g h (Some x) = refl

fit_as : (core : Core) (planned : Planned) → behind_fit_refusal core planned ≡ fit_of core planned.wanted
fit_as core planned =
    ap (λ (found : Option Refusal). cond (comes_behind planned.wanted.part) found None)
    (under_found (λ table. BehindDoesNotFit planned.wanted.at (table_range table)) (λ (family : FamilyView). find (λ table. meet (table_range table) (table_range planned.wanted.table)) (level_at family 6)) (value_at core.families planned.wanted.part.family))

given_files : (core c : Core) (some : List RequestFile) → first_of (filter_map (behind_fit_refusal core) (plan_from c some)) ≡ first_of (filter_map (fit_of core) some)
given_files core c [] = refl
given_files core c (wanted ∷ some) =
    let rest : List Planned = plan_from (put_planned c (plan_file c wanted)) some in
    first_given (behind_fit_refusal core) (plan_file c wanted) rest
    ∙ (ap₂ (λ (a b : Option Refusal). option_or a b) (fit_as core (plan_file c wanted) ∙ ap (fit_of core) (place_piece c wanted)) (given_files core (put_planned c (plan_file c wanted)) some)
    ∙ sym (first_given (fit_of core) wanted some))

given_tables : (core : Core) (sure : Option Why) (part : Part) (a i : ℕ) (tables : List FileEntries) (more : List RequestFile) → first_of (filter_map (fit_of core) (request_files_of sure part a i tables ++ more))
    ≡ option_or (cond (comes_behind part) (first_met core part.family a i tables) None) (first_of (filter_map (fit_of core) more))
given_tables core sure part a i [] more = step (comes_behind part) (first_of (filter_map (fit_of core) more))
  where
    step : (b : Bool) (rest : Option Refusal) → rest ≡ option_or (cond b None None) rest
    step true rest = refl
    step false rest = refl
given_tables core sure part a i (table ∷ tables) more =
    let wanted : RequestFile = record { at = record { arg = a; file = i }; part = part; table = table; sure = sure } in
    first_given (fit_of core) wanted (request_files_of sure part a (i + 1) tables ++ more)
    ∙ (ap (option_or (fit_of core wanted)) (given_tables core sure part a (i + 1) tables more)
    ∙ step (comes_behind part) (option_map (λ (other : FileEntries). BehindDoesNotFit (record { arg = a; file = i }) (table_range other)) (met_below core part.family table)) (first_met core part.family a (i + 1) tables) (first_of (filter_map (fit_of core) more)))
  where
    step : (b : Bool) (x y z : Option Refusal) → option_or (cond b x None) (option_or (cond b y None) z) ≡ option_or (cond b (option_or x y) None) z
    step true x y z = sym (or_twice x y z)
    step false x y z = refl

given_parts : (core : Core) (a : ℕ) (parts : List Part) → first_of (filter_map (fit_of core) (request_files_after core a parts)) ≡ first_unfit core a parts
given_parts core a [] = refl
given_parts core a (part ∷ parts) =
    given_tables core (sure_cause (outline core) (argument_of_part a part)) part a 1 part.files (request_files_after core (a + 1) parts)
    ∙ ap (option_or (cond (comes_behind part) (first_met core part.family a 1 part.files) None)) (given_parts core (a + 1) parts)

fit_first : (core : Core) (parts : List Part) → first_of (filter_map (behind_fit_refusal core) (plan core parts)) ≡ first_unfit core 1 parts
fit_first core parts = given_files core core (request_files core parts) ∙ given_parts core 1 parts

-- ---- all refusals

abbrev six : Option Refusal → Option Refusal → Option Refusal → Option Refusal → Option Refusal → Option Refusal → Option Refusal
six a b c d e f = option_or (option_or (option_or (option_or (option_or a b) c) d) e) f

six_join : (a b c d e f : List Refusal) → first_of (a ++ b ++ c ++ d ++ e ++ f) ≡ six (first_of a) (first_of b) (first_of c) (first_of d) (first_of e) (first_of f)
six_join a b c d e f =
    first_join (a ++ b ++ c ++ d ++ e) f ∙ ap (λ (o : Option Refusal). option_or o (first_of f))
    (first_join (a ++ b ++ c ++ d) e ∙ ap (λ (o : Option Refusal). option_or o (first_of e))
    (first_join (a ++ b ++ c) d ∙ ap (λ (o : Option Refusal). option_or o (first_of d))
    (first_join (a ++ b) c ∙ ap (λ (o : Option Refusal). option_or o (first_of c)) (first_join a b))))

pub draft_is_refused : DraftIsRefused
draft_is_refused core parts within =
    let last : core.last + length (filter is_numbered (plan core parts)) ≡ (drafted core parts).core.last =
    sym (ap (λ (c : Core). c.last) (drafts_core (new_draft core) (request_files core parts)) ∙ last_counts core (request_files core parts)) in
    let charge : add_charge core.charge (plan_charge (plan core parts)) ≡ (drafted core parts).core.charge =
    sym (ap (λ (c : Core). c.charge) (drafts_core (new_draft core) (request_files core parts)) ∙ charge_counts core (plan core parts) within) in
    let number : first_of (filter_map number_refusal (plan core parts)) ≡ (drafted core parts).number = sym (drafts_number (new_draft core) (request_files core parts)) in
    let level : first_of (filter_map (level_refusal (lowest_level core)) (plan core parts)) ≡ (drafted core parts).level = sym (drafts_level (new_draft core) (request_files core parts)) in
    six_join (filter_map (behind_fit_refusal core) (plan core parts)) (filter_map number_refusal (plan core parts)) (filter_map (level_refusal (lowest_level core)) (plan core parts))
    (refused_if (nat_lt greatest_number (core.last + length (filter is_numbered (plan core parts)))) NumbersSpent) (place_spent (outline core))
    (refused_if (nat_lt core.capacity (add_charge core.charge (plan_charge (plan core parts)))) StoreFull)
    ∙ λ i. six (fit_first core parts i) (number i) (level i)
    ((first_held (nat_lt greatest_number (core.last + length (filter is_numbered (plan core parts)))) NumbersSpent ∙ ap (λ (n : ℕ). refused_where (nat_lt greatest_number n) NumbersSpent) last) i)
    (first_held (nat_le greatest_number core.place) NumbersSpent i)
    ((first_held (nat_lt core.capacity (add_charge core.charge (plan_charge (plan core parts)))) StoreFull ∙ ap (λ (n : ℕ). refused_where (nat_lt core.capacity n) StoreFull) charge) i)

-- ---- the cause that is sure

ranges_are : (a i : ℕ) (tables : List FileEntries) → map range_of_file (files_from a i (map (λ (table : FileEntries). seen.Table table.entries) tables)) ≡ map table_range tables
ranges_are a i [] = refl
ranges_are a i (table ∷ tables) = ap (λ (ranges : List KeyRange). table_range table ∷ ranges) (ranges_are a (i + 1) tables)

pub sure_is_of_part : SureIsOfPart
sure_is_of_part core a part =
    ap (λ (ranges : List KeyRange). option_or (option_map (λ (pair : ℕ × ℕ). Files pair.0 pair.1) (meeting_after [] ranges))
    (cond (is_empty core.live || not part.options.snapshot_consistency) None (Some (Snapshot (lowest_live (outline core)))))) (ranges_are a 1 part.files)
