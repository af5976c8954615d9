-- A commit that isn't refused may begin.
use Rattle.std.proofs.Common.{◌≡◌, ℕ, ◌+◌, Bool, true, false, cond, not, ◌&&◌, List, [], ◌∷◌, ◌++◌, map, filter, length, take, Option, Some, None, is_some, is_eq, unwrap_or, refl, sym, ap, ap₂, subst, ◌∙◌}
use Rattle.std.specs.Prelude.{filter_map, find, nat_le, nat_lt, IfSome}
use Rattle.std.specs.Option.{option_map, option_and_then}
use Rattle.std.specs.List.{list_any, AllByRecursion as Each}
use Rattle.std.proofs.lemmas.Bool.{false≢true, cond-true, not-false, not_from_false}
use Rattle.std.proofs.lemmas.List.{map-append}
use Rattle.st_base.specs.Bytes.{bytes_cmp}
use Rattle.st_base.specs.Entries.{add_charge}
use Rattle.st_base.specs.Map.{value_at}
use Rattle.st_model.specs.declared.refusal.Refusal.{Refusal}
use Rattle.st_model.specs.declared.refusal.Refusal.TheVariants.{UnknownFamily, BehindNotEnabled, FamilyTwice, FilesMeet, BehindDoesNotFit, NumbersSpent, StoreFull, EmptyRequest, NoFiles, SnapshotsLive, TooManyFiles}
use Rattle.st_model.specs.declared.refusal.Why.{Why}
use Rattle.st_model.specs.declared.command.FileSeen.TheVariants as seen
use Rattle.st_model.specs.declared.state.ModelState.{ModelState}
use Rattle.st_model.specs.Answer.{unknown_families, refused_if, place_spent}
use Rattle.st_model.specs.Early.{is_empty}
use Rattle.st_base.specs.Range.{meet}
use Rattle.st_model.specs.Refusals.{shape_refusals, meeting_refusals, meeting_refusal, behind_refusals, repeated, has_no_files, lowest_live, keeps_snapshots, sure_cause, has_too_many}
use Rattle.st_model.specs.Request.{Argument, files_from, range_of_file, meeting, asks_behind as is_behind_argument}
use Rattle.st_model.specs.State.{greatest_number, has_family, new_family}
use Rattle.base_laws.proofs.Lists.{append_none, each_join}
use Rattle.core_model.specs.Commit.{outline, comes_behind, memory_key, RequestFile, request_files_of, request_files_after, request_files, family_at, plan_file, plan_behind, plan_by_rule, put_planned, plan_from, plan, behind_fit_refusal, number_refusal, level_refusal, is_numbered, plan_charge, commit_refusals}
use Rattle.core_model.specs.Event.{request_of_parts, argument_of_part, arguments_after}
use Rattle.core_model.specs.Relation.{Represents}
use Rattle.core_model.specs.Level.{is_free_level}
use Rattle.core_model.specs.Picture.{FileEntries, FamilyView, Part, Turn, Core, level_at, table_range, all_tables, lowest_level, new_view}
use Rattle.core_model.specs.Request.{IsRequest, IsStagedTable, NamesThere}
use Rattle.core_model.specs.RelationParts.{IsTurn, files_in_parts}
use Rattle.core_model.specs.Step.{HaveOtherFiles, IsFlushed, IsFlushedFor}
use Rattle.core_laws.specs.Underway.{IsReadyToPlace, GoTogether, files_left, IsUnderway, CommitBegins, CommitStands}
use Rattle.core_laws.proofs.CommitEnds.{turn_ends, commit_ends}
use Rattle.core_laws.proofs.FileColumns.{each_append}
use Rattle.core_laws.proofs.FileJobs.{each_of, each_with}
use Rattle.core_laws.proofs.NoneLeft.{map_none, take_none, filter_none, filter_map_none, filtered_each, map_option_none, find_none, none_meeting, none_repeated}
use Rattle.core_laws.proofs.Lists.{pairs_join}
use Rattle.st_order.specs.Columns.{Pairwise}

-- ---- what the model's tests say of each part

pub outline_there : (families : List (List ℕ × FamilyView)) (name : List ℕ) → is_some (value_at (map (λ named. (named.0, new_family named.1.id)) families) name) ≡ is_some (value_at families name)
outline_there [] name = refl
outline_there (named ∷ families) name = step (is_eq (bytes_cmp name named.0)) (outline_there families name)
  where
    step : (b : Bool) → is_some (value_at (map (λ named. (named.0, new_family named.1.id)) families) name) ≡ is_some (value_at families name)
        → is_some (cond b (Some (new_family named.1.id)) (value_at (map (λ named. (named.0, new_family named.1.id)) families) name)) ≡ is_some (cond b (Some named.1) (value_at families name))
    step true rest = refl
    step false rest = rest

pub there_each : (core : Core) (parts : List Part) → unknown_families (outline core) (map (λ part. part.family) parts) ≡ [] → Each (λ part. is_some (value_at core.families part.family) ≡ true) parts
there_each core parts e = each parts (filter_none (λ name. not (has_family (outline core) name)) (map (λ (part : Part). part.family) parts) (map_none UnknownFamily (filter (λ name. not (has_family (outline core) name)) (map (λ (part : Part). part.family) parts)) e))
  where
    each : (some : List Part) → Each (λ name. not (has_family (outline core) name) ≡ false) (map (λ (part : Part). part.family) some) → Each (λ part. is_some (value_at core.families part.family) ≡ true) some
    each [] none = tt
    each (part ∷ some) none = (sym (outline_there core.families part.family) ∙ not-false (has_family (outline core) part.family) none.0, each some none.1)

-- what holds of each argument, of each part
pub of_parts : (P : Argument → Type 0) (Q : Part → Type 0) (a : ℕ) (parts : List Part) → ((n : ℕ) (part : Part) → P (argument_of_part n part) → Q part) → Each P (arguments_after a parts) → Each Q parts
of_parts P Q a [] f each = tt
of_parts P Q a (part ∷ parts) f each = (f a part each.0, of_parts P Q (a + 1) parts f each.1)

pub flag_each : (core : Core) (parts : List Part) → behind_refusals (outline core) (request_of_parts parts) ≡ [] → Each (λ part. comes_behind part ≡ true → core.behind ≡ true) parts
flag_each core parts e = step core.behind refl (append_none (cond core.behind [] (take 1 (map (λ argument. BehindNotEnabled argument.number) (filter is_behind_argument (request_of_parts parts)))))
    (cond (is_empty core.live) [] (take 1 (map (λ argument. SnapshotsLive argument.number (lowest_live (outline core))) (filter (λ argument. is_behind_argument argument && keeps_snapshots argument) (request_of_parts parts))))) e).0
  where
    step : (b : Bool) → core.behind ≡ b → cond b [] (take 1 (map (λ argument. BehindNotEnabled argument.number) (filter is_behind_argument (request_of_parts parts)))) ≡ [] → Each (λ part. comes_behind part ≡ true → core.behind ≡ true) parts
    step true is none = all parts
      where
        all : (some : List Part) → Each (λ part. comes_behind part ≡ true → core.behind ≡ true) some
        all [] = tt
        all (part ∷ some) = ((λ _. is), all some)
    step false is none =
        of_parts (λ argument. is_behind_argument argument ≡ false) (λ part. comes_behind part ≡ true → core.behind ≡ true) 1 parts (λ n part out behind. absurd (false≢true (sym out ∙ behind)))
        (filter_none is_behind_argument (request_of_parts parts) (map_none (λ (argument : Argument). BehindNotEnabled argument.number) (filter is_behind_argument (request_of_parts parts)) (take_none (map (λ (argument : Argument). BehindNotEnabled argument.number) (filter is_behind_argument (request_of_parts parts))) none)))

ranges_are : (a i : ℕ) (tables : List FileEntries) → map range_of_file (files_from a i (map (λ (table : FileEntries). seen.Table table.entries) tables)) ≡ map table_range tables
ranges_are a i [] = refl
ranges_are a i (table ∷ tables) = ap (λ more. table_range table ∷ more) (ranges_are a (i + 1) tables)

pairs_of_ranges : (tables : List FileEntries) → Pairwise (λ one other. meet one other ≡ false) (map table_range tables) → Pairwise (λ one other. meet (table_range one) (table_range other) ≡ false) tables
pairs_of_ranges [] pairs = tt
pairs_of_ranges (table ∷ tables) pairs = (each tables pairs.0, pairs_of_ranges tables pairs.1)
  where
    each : (some : List FileEntries) → Each (λ other. meet (table_range table) other ≡ false) (map table_range some) → Each (λ other. meet (table_range table) (table_range other) ≡ false) some
    each [] all = tt
    each (one ∷ some) all = (all.0, each some all.1)

-- files of an argument without a meeting are apart
pub unmet_apart : (a : ℕ) (part : Part) → meeting (argument_of_part a part) ≡ None → Pairwise (λ one other. meet (table_range one) (table_range other) ≡ false) part.files
unmet_apart a part e = pairs_of_ranges part.files (subst (Pairwise (λ one other. meet one other ≡ false)) (ranges_are a 1 part.files) (none_meeting [] (map range_of_file (argument_of_part a part).files) e).1)

apart_each : (parts : List Part) → meeting_refusals (request_of_parts parts) ≡ [] → Each (λ part. comes_behind part ≡ true → Pairwise (λ one other. meet (table_range one) (table_range other) ≡ false) part.files) parts
apart_each parts e =
    of_parts (λ argument. is_behind_argument argument ≡ true → meeting_refusal argument ≡ None) (λ part. comes_behind part ≡ true → Pairwise (λ one other. meet (table_range one) (table_range other) ≡ false) part.files) 1 parts
    (λ n part none behind. unmet_apart n part (map_option_none (λ pair. FilesMeet (record { arg = n; file = pair.0 }) pair.1) (meeting (argument_of_part n part)) (none behind)))
    (filtered_each is_behind_argument (λ argument. meeting_refusal argument ≡ None) (request_of_parts parts) (filter_map_none meeting_refusal (filter is_behind_argument (request_of_parts parts)) (take_none (filter_map meeting_refusal (filter is_behind_argument (request_of_parts parts))) e)))

pub names_differ : (parts : List Part) → shape_refusals (request_of_parts parts) ≡ [] → Pairwise (λ one other. one.family ≡ other.family → ⊥) parts
names_differ parts e =
    let some = append_none (refused_if (nat_le (length (request_of_parts parts)) 0) EmptyRequest ++ take 1 (map (λ (argument : Argument). NoFiles argument.number) (filter has_no_files (request_of_parts parts))) ++ take 1 (map (λ (argument : Argument). FamilyTwice argument.number) (repeated [] (request_of_parts parts))))
    (refused_if (has_too_many (request_of_parts parts)) TooManyFiles) e in
    let twice = append_none (refused_if (nat_le (length (request_of_parts parts)) 0) EmptyRequest ++ take 1 (map (λ (argument : Argument). NoFiles argument.number) (filter has_no_files (request_of_parts parts)))) (take 1 (map (λ (argument : Argument). FamilyTwice argument.number) (repeated [] (request_of_parts parts)))) some.0 in
    pairs 1 parts (none_repeated [] (request_of_parts parts) (map_none (λ (argument : Argument). FamilyTwice argument.number) (repeated [] (request_of_parts parts)) (take_none (map (λ (argument : Argument). FamilyTwice argument.number) (repeated [] (request_of_parts parts))) twice.1))).1
  where
    pairs : (a : ℕ) (some : List Part) → Pairwise (λ one other. one.family ≡ other.family → ⊥) (arguments_after a some) → Pairwise (λ one other. one.family ≡ other.family → ⊥) some
    pairs a [] all = tt
    pairs a (part ∷ some) all = (of_parts (λ argument. part.family ≡ argument.family → ⊥) (λ other. part.family ≡ other.family → ⊥) (a + 1) some (λ n other differ. differ) all.0, pairs (a + 1) some all.1)

-- ---- pieces

record IsPart (core : Core) (part : Part) : Type 0 where
  there : is_some (value_at core.families part.family) ≡ true
  flag : comes_behind part ≡ true → core.behind ≡ true
  apart : comes_behind part ≡ true → Pairwise (λ one other. meet (table_range one) (table_range other) ≡ false) part.files
  staged : Each IsStagedTable part.files
  memory : comes_behind part ≡ false → Each (λ table. memory_key core part table ≡ None) part.files

-- a wanted that is ready, but for refusal 15
abbrev IsNearlyReady : Core → RequestFile → Type 0
IsNearlyReady core wanted =
    (is_some (value_at core.families wanted.part.family) ≡ true) × IsStagedTable wanted.table × (comes_behind wanted.part ≡ false → memory_key core wanted.part wanted.table ≡ None) × (comes_behind wanted.part ≡ true → core.behind ≡ true)

pieces_ready : (core : Core) (sure : Option Why) (part : Part) (a i : ℕ) (tables : List FileEntries) → IsPart core part → Each IsStagedTable tables → (comes_behind part ≡ false → Each (λ table. memory_key core part table ≡ None) tables) → Each (IsNearlyReady core) (request_files_of sure part a i tables)
pieces_ready core sure part a i [] is staged memory = tt
pieces_ready core sure part a i (table ∷ tables) is staged memory = ((is.there, staged.0, (λ not_behind. (memory not_behind).0), is.flag), pieces_ready core sure part a (i + 1) tables is staged.1 (λ not_behind. (memory not_behind).1))

all_ready : (core : Core) (a : ℕ) (parts : List Part) → Each (IsPart core) parts → Each (IsNearlyReady core) (request_files_after core a parts)
all_ready core a [] each = tt
all_ready core a (part ∷ parts) each =
    each_join (IsNearlyReady core) (request_files_of (sure_cause (outline core) (argument_of_part a part)) part a 1 part.files) (request_files_after core (a + 1) parts)
    (pieces_ready core (sure_cause (outline core) (argument_of_part a part)) part a 1 part.files each.0 each.0.staged each.0.memory) (all_ready core (a + 1) parts each.1)

of_part : (P : Part → Type 0) (sure : Option Why) (part : Part) (a i : ℕ) (tables : List FileEntries) → P part → Each (λ wanted. P wanted.part) (request_files_of sure part a i tables)
of_part P sure part a i [] here = tt
of_part P sure part a i (table ∷ tables) here = (here, of_part P sure part a (i + 1) tables here)

of_all : (P : Part → Type 0) (core : Core) (a : ℕ) (parts : List Part) → Each P parts → Each (λ wanted. P wanted.part) (request_files_after core a parts)
of_all P core a [] each = tt
of_all P core a (part ∷ parts) each =
    each_join (λ wanted. P wanted.part) (request_files_of (sure_cause (outline core) (argument_of_part a part)) part a 1 part.files) (request_files_after core (a + 1) parts)
    (of_part P (sure_cause (outline core) (argument_of_part a part)) part a 1 part.files each.0) (of_all P core (a + 1) parts each.1)

part_together : (sure : Option Why) (part : Part) (a i : ℕ) (tables : List FileEntries) → (comes_behind part ≡ true → Pairwise (λ one other. meet (table_range one) (table_range other) ≡ false) tables) → Pairwise GoTogether (request_files_of sure part a i tables)
part_together sure part a i [] apart = tt
part_together sure part a i (table ∷ tables) apart = (each (i + 1) tables (λ behind. (apart behind).0), part_together sure part a (i + 1) tables (λ behind. (apart behind).1))
  where
    each : (j : ℕ) (some : List FileEntries) → (comes_behind part ≡ true → Each (λ other. meet (table_range table) (table_range other) ≡ false) some) → Each (GoTogether (record { at = record { arg = a; file = i }; part = part; table = table; sure = sure })) (request_files_of sure part a j some)
    each j [] all = tt
    each j (other ∷ some) all = (record { kind = λ _. refl; apart = λ _ behind. (all behind).0 }, each (j + 1) some (λ behind. (all behind).1))

all_together : (core : Core) (a : ℕ) (parts : List Part) → Each (IsPart core) parts → Pairwise (λ one other. one.family ≡ other.family → ⊥) parts → Pairwise GoTogether (request_files_after core a parts)
all_together core a [] each differ = tt
all_together core a (part ∷ parts) each differ =
    pairs_join GoTogether here later (part_together (sure_cause (outline core) (argument_of_part a part)) part a 1 part.files each.0.apart) (all_together core (a + 1) parts each.1 differ.1)
    (each_of (λ (wanted : RequestFile). Each (λ other. wanted.part.family ≡ other.part.family → ⊥) later) (λ wanted. Each (GoTogether wanted) later) here
    (λ wanted. each_of (λ (other : RequestFile). wanted.part.family ≡ other.part.family → ⊥) (GoTogether wanted) later (λ other apart. record { kind = λ e. absurd (apart e); apart = λ e _. absurd (apart e) }))
    (of_part (λ one. Each (λ other. one.family ≡ other.part.family → ⊥) later) (sure_cause (outline core) (argument_of_part a part)) part a 1 part.files (of_all (λ other. part.family ≡ other.family → ⊥) core (a + 1) parts differ.0)))
  where
    here : List RequestFile
    here = request_files_of (sure_cause (outline core) (argument_of_part a part)) part a 1 part.files

    later : List RequestFile
    later = request_files_after core (a + 1) parts

pieces_tables : (sure : Option Why) (part : Part) (a i : ℕ) (tables : List FileEntries) → files_left (request_files_of sure part a i tables) ≡ tables
pieces_tables sure part a i [] = refl
pieces_tables sure part a i (table ∷ tables) = ap (λ more. table ∷ more) (pieces_tables sure part a (i + 1) tables)

pub all_pieces_tables : (core : Core) (a : ℕ) (parts : List Part) → files_left (request_files_after core a parts) ≡ files_in_parts parts
all_pieces_tables core a [] = refl
all_pieces_tables core a (part ∷ parts) =
    map-append (λ (wanted : RequestFile). wanted.table) (request_files_of (sure_cause (outline core) (argument_of_part a part)) part a 1 part.files) (request_files_after core (a + 1) parts)
    ∙ ap₂ (λ one other. one ++ other) (pieces_tables (sure_cause (outline core) (argument_of_part a part)) part a 1 part.files) (all_pieces_tables core (a + 1) parts)

-- ---- refusal 15

pub place_piece : (core : Core) (wanted : RequestFile) → (plan_file core wanted).wanted ≡ wanted
place_piece core wanted = step (comes_behind wanted.part)
  where
    step : (b : Bool) → (cond b (plan_behind wanted) (plan_by_rule core wanted)).wanted ≡ wanted
    step true = refl
    step false = refl

pub plan_each : (P : RequestFile → Type 0) (core : Core) (rest : List RequestFile) → Each (λ planned. P planned.wanted) (plan_from core rest) → Each P rest
plan_each P core [] each = tt
plan_each P core (wanted ∷ rest) each = (subst P (place_piece core wanted) each.0, plan_each P (put_planned core (plan_file core wanted)) rest each.1)

abbrev pub fit_of : Core → RequestFile → Option Refusal
fit_of core wanted =
    cond (comes_behind wanted.part) (option_and_then (λ (family : FamilyView). option_map (λ (table : FileEntries). BehindDoesNotFit wanted.at (table_range table)) (find (λ (table : FileEntries). meet (table_range table) (table_range wanted.table)) (level_at family 6)))
    (value_at core.families wanted.part.family)) None

abbrev pub fit_in : RequestFile → FamilyView → Option Refusal
fit_in wanted family = option_map (λ (table : FileEntries). BehindDoesNotFit wanted.at (table_range table)) (find (λ (table : FileEntries). meet (table_range table) (table_range wanted.table)) (level_at family 6))

fits_of : (core : Core) (wanted : RequestFile) → fit_of core wanted ≡ None → comes_behind wanted.part ≡ true → is_free_level (table_range wanted.table) (level_at (family_at core wanted.part.family) 6) ≡ true
fits_of core wanted none behind = step (value_at core.families wanted.part.family) (sym (cond-true (comes_behind wanted.part) (option_and_then (fit_in wanted) (value_at core.families wanted.part.family)) None behind) ∙ none)
  where
    step : (found : Option FamilyView) → option_and_then (fit_in wanted) found ≡ None → is_free_level (table_range wanted.table) (level_at (unwrap_or found (new_view 0)) 6) ≡ true
    step None e = refl
    step (Some family) e = not_from_false (list_any (λ (table : FileEntries). meet (table_range table) (table_range wanted.table)) (level_at family 6))
        (find_none (λ (table : FileEntries). meet (table_range table) (table_range wanted.table)) (level_at family 6) (map_option_none (λ (table : FileEntries). BehindDoesNotFit wanted.at (table_range table)) (find (λ (table : FileEntries). meet (table_range table) (table_range wanted.table)) (level_at family 6)) e))

-- ---- the parts of the refusals

pub record NoRefusal (core : Core) (parts : List Part) : Type 0 where
  pub fits : filter_map (behind_fit_refusal core) (plan core parts) ≡ []
  pub numbers : filter_map number_refusal (plan core parts) ≡ []
  pub levels : filter_map (level_refusal (lowest_level core)) (plan core parts) ≡ []
  pub spent : refused_if (nat_lt greatest_number (core.last + length (filter is_numbered (plan core parts)))) NumbersSpent ≡ []
  pub places : place_spent (outline core) ≡ []
  pub full : refused_if (nat_lt core.capacity (add_charge core.charge (plan_charge (plan core parts)))) StoreFull ≡ []

pub no_refusal : (core : Core) (parts : List Part) → commit_refusals core parts ≡ [] → NoRefusal core parts
no_refusal core parts e =
    let a = filter_map (behind_fit_refusal core) (plan core parts) in
    let b = filter_map number_refusal (plan core parts) in
    let c = filter_map (level_refusal (lowest_level core)) (plan core parts) in
    let d = refused_if (nat_lt greatest_number (core.last + length (filter is_numbered (plan core parts)))) NumbersSpent in
    let f = place_spent (outline core) in
    let g = refused_if (nat_lt core.capacity (add_charge core.charge (plan_charge (plan core parts)))) StoreFull in
    let five = append_none (a ++ b ++ c ++ d ++ f) g e in
    let four = append_none (a ++ b ++ c ++ d) f five.0 in
    let three = append_none (a ++ b ++ c) d four.0 in
    let two = append_none (a ++ b) c three.0 in
    let one = append_none a b two.0 in
    record { fits = one.0; numbers = one.1; levels = two.1; spent = three.1; places = four.1; full = five.1 }

-- ---- the start

pub turn_facts : (core : Core) (state : ModelState) (turn : Turn) → Represents core state → core.turn ≡ Some turn → IsTurn core turn × NamesThere core turn.parts × IsRequest turn.parts
turn_facts core state turn stands is = subst (λ found. IfSome found (λ one. IsTurn core one × NamesThere core one.parts × IsRequest one.parts)) is stands.turn

parts_are : (core : Core) (parts : List Part) → Each (λ part. is_some (value_at core.families part.family) ≡ true) parts → Each (λ part. comes_behind part ≡ true → core.behind ≡ true) parts
    → Each (λ part. comes_behind part ≡ true → Pairwise (λ one other. meet (table_range one) (table_range other) ≡ false) part.files) parts → Each IsStagedTable (files_in_parts parts) → Each (IsFlushed core) parts → Each (IsPart core) parts
parts_are core [] there flag apart staged flushed = tt
parts_are core (part ∷ parts) there flag apart staged flushed =
    let split = each_append IsStagedTable part.files (files_in_parts parts) staged in
    (record { there = there.0; flag = flag.0; apart = apart.0; staged = split.0; memory = flushed.0 }, parts_are core parts there.1 flag.1 apart.1 split.1 flushed.1)

pub begins_fitting : (core : Core) (state : ModelState) (turn : Turn) → Represents core state → core.turn ≡ Some turn → IsFlushedFor core turn.parts → filter_map (behind_fit_refusal core) (plan core turn.parts) ≡ []
    → IsUnderway (record core { turn = None }) state (request_files core turn.parts)
begins_fitting core state turn stands is flushed none =
    let facts = turn_facts core state turn stands is in
    let parts = parts_are core turn.parts (there_each core turn.parts facts.1.families) (flag_each core turn.parts facts.1.behind) (apart_each turn.parts facts.2.meeting) facts.2.staged flushed in
    record {
      stands = turn_ends core state stands;
      turn = refl;
      fresh = subst (λ tables. Pairwise HaveOtherFiles (tables ++ all_tables core)) (sym (all_pieces_tables core 1 turn.parts)) facts.0.fresh;
      ready = each_with (IsNearlyReady core) (λ wanted. fit_of core wanted ≡ None) (IsReadyToPlace (record core { turn = None })) (request_files core turn.parts)
          (λ wanted nearly fit. record { there = nearly.0; staged = nearly.1; memory = nearly.2; flag = nearly.3; fits = fits_of core wanted fit })
          (all_ready core 1 turn.parts parts) (plan_each (λ wanted. fit_of core wanted ≡ None) core (request_files core turn.parts) (filter_map_none (behind_fit_refusal core) (plan core turn.parts) none));
      together = all_together core 1 turn.parts parts (names_differ turn.parts facts.2.shape);
    }

pub commit_begins : CommitBegins
commit_begins core state turn stands is flushed none = begins_fitting core state turn stands is flushed (no_refusal core turn.parts none).fits

pub commit_stands : CommitStands
commit_stands core state turn stands is flushed none = commit_ends core state turn stands.same.place (commit_begins core state turn stands is flushed none)
