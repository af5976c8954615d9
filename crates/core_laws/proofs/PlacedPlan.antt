-- The places of all files of a request obey the model's rules.
use Rattle.std.proofs.Common.{◌≡◌, ℕ, zero, suc, ◌+◌, Bool, true, false, cond, not, ◌||◌, List, [], ◌∷◌, ◌++◌, map, take, drop, filter, length, Option, Some, None, is_some, refl, sym, ap, ap₂, subst, subst₂, ◌∙◌, inl, inr, ◌⊎◌, arith}
use Rattle.std.specs.Prelude.{fold, ◌==◌, nat_lt, MatchBool, IsSomeAnd}
use Rattle.std.specs.Option.{option_map, option_or, option_and_then}
use Rattle.std.specs.List.{AllZip, AllByRecursion as Each}
use Rattle.std.proofs.lemmas.Bool.{false≢true, cond-true, cond-false, ne_eqb}
use Rattle.std.proofs.lemmas.List.{map-append, take_at, drop_at, length-map}
use Rattle.st_base.specs.Bytes.{same, below}
use Rattle.st_base.specs.Map.{value_at}
use Rattle.st_base.specs.declared.entry.Entry.{Entry}
use Rattle.st_base.proofs.Same.{same_self, same_true}
use Rattle.st_model.specs.declared.refusal.Why.{Why}
use Rattle.st_model.specs.declared.refusal.Why.TheVariants.{Files, Snapshot}
use Rattle.st_model.specs.declared.command.FileSeen.TheVariants as seen
use Rattle.st_model.specs.declared.reply.Placed.{Placed}
use Rattle.st_model.specs.declared.state.ModelFamily.{ModelFamily}
use Rattle.st_model.specs.declared.state.ModelState.{ModelState}
use Rattle.st_model.specs.Apply.{apply_file}
use Rattle.st_model.specs.Placing.{IsPlacedFile, IsPlacedBehind, IsPlacedArgument, ArePlaced, AreNext, numbers_of, last_number_after}
use Rattle.st_base.specs.Range.{is_in_range, meet, key_at_front, under_number}
use Rattle.st_model.specs.Early.{is_empty}
use Rattle.st_model.specs.Refusals.{sure_cause, lowest_live}
use Rattle.st_model.specs.Request.{files_from, meeting}
use Rattle.st_model.specs.State.{family_of, is_known}
use Rattle.base_laws.proofs.Lists.{each_join}
use Rattle.base_laws.proofs.Maps.{found_each}
use Rattle.base_laws.proofs.Ranges.{both_within_meet}
use Rattle.core_model.specs.Commit.{outline, comes_behind, RequestFile, request_files_of, request_files_after, level_choice, planned_number, plan_file, plan_by_rule, plan_behind, put_planned, plan_from, number_refusal, level_refusal, placed_in_plan, taken_in_plan, put_table, put_file, renumbered}
use Rattle.core_model.specs.Event.{argument_of_part, arguments_after}
use Rattle.core_model.specs.Relation.{Represents}
use Rattle.core_model.specs.Picture.{FileEntries, FamilyView, Job, Part, Core, lowest_level, runs_of, tables_in, memories, walk, table_range, put_by_key}
use Rattle.core_model.specs.Request.{IsStagedTable}
use Rattle.core_model.specs.RelationParts.{IsView}
use Rattle.core_laws.specs.Underway.{IsUnderway}
use Rattle.core_laws.proofs.CommitBegins.{unmet_apart}
use Rattle.core_laws.proofs.FileColumns.{put_at, each_append, staged_within, each_entries}
use Rattle.core_laws.proofs.FileFields.{walk_each}
use Rattle.core_laws.proofs.FileJobs.{each_of, each_with, entries_all}
use Rattle.core_laws.proofs.FileLift.{value_changed, kept_there}
use Rattle.core_laws.proofs.FileStep.{file_keeps_underway}
use Rattle.core_laws.proofs.NoneLeft.{or_none, map_option_none}
use Rattle.core_laws.proofs.PlacedFile.{NoneIn, IsKnownOrOut, IsNextFile, rule_placed}
use Rattle.st_order.specs.Columns.{Pairwise}
use Rattle.st_order.specs.Least.{least_within}

-- ---- numbers

number_kind : (c : Core) (wanted : RequestFile) → ((plan_file c wanted).number ≡ 0) ⊎ ((plan_file c wanted).number ≡ c.last + 1)
number_kind c wanted = step (comes_behind wanted.part)
  where
    of_why : (why : Option Why) → (planned_number c.last why ≡ 0) ⊎ (planned_number c.last why ≡ c.last + 1)
    of_why None = inl refl
    of_why (Some why) = inr refl

    step : (b : Bool) → ((cond b (plan_behind wanted) (plan_by_rule c wanted)).number ≡ 0) ⊎ ((cond b (plan_behind wanted) (plan_by_rule c wanted)).number ≡ c.last + 1)
    step true = inl refl
    step false = of_why (option_or wanted.sure (level_choice c wanted).cause)

-- they are next, and the last one is the core's
pub numbers_next : (c : Core) (rest : List RequestFile) → AreNext c.last (numbers_of (map placed_in_plan (plan_from c rest))) × (last_number_after c.last (map placed_in_plan (plan_from c rest)) ≡ (fold put_planned c (plan_from c rest)).last)
numbers_next c [] = (tt, refl)
numbers_next c (wanted ∷ rest) = step (plan_file c wanted).number (number_kind c wanted) (numbers_next (put_planned c (plan_file c wanted)) rest)
  where
    more : List ℕ
    more = numbers_of (map placed_in_plan (plan_from (put_planned c (plan_file c wanted)) rest))

    end : ℕ
    end = (fold put_planned c (plan_from c (wanted ∷ rest))).last

    step : (n : ℕ) → (n ≡ 0) ⊎ (n ≡ c.last + 1)
        → AreNext (cond (n == 0) c.last n) more × (fold (λ before number. number) (cond (n == 0) c.last n) more ≡ end)
        → AreNext c.last (cond (not (n == 0)) (n ∷ more) more) × (fold (λ before number. number) c.last (cond (not (n == 0)) (n ∷ more) more) ≡ end)
    step n (inl is) = subst (λ m. AreNext (cond (m == 0) c.last m) more × (fold (λ before number. number) (cond (m == 0) c.last m) more ≡ end)
        → AreNext c.last (cond (not (m == 0)) (m ∷ more) more) × (fold (λ before number. number) c.last (cond (not (m == 0)) (m ∷ more) more) ≡ end)) (sym is) (λ rest. rest)
    step n (inr is) = other (n == 0) (ne_eqb n 0 (λ e. absurd (omega arith)))
      where
        other : (b : Bool) → b ≡ false
            → AreNext (cond b c.last n) more × (fold (λ before number. number) (cond b c.last n) more ≡ end)
            → AreNext c.last (cond (not b) (n ∷ more) more) × (fold (λ before number. number) c.last (cond (not b) (n ∷ more) more) ≡ end)
        other true e rest = absurd (false≢true (sym e))
        other false e rest = ((is, rest.0), rest.1)

-- ---- a walk has what it had

key_less : (P : FileEntries → Type 0) (table : FileEntries) (tables : List FileEntries) → Each P (put_by_key table tables) → Each P tables
key_less P table [] each = tt
key_less P table (other ∷ tables) each = step (below (key_at_front table.entries) (key_at_front other.entries)) each (key_less P table tables)
  where
    step : (b : Bool) → Each P (cond b (table ∷ other ∷ tables) (other ∷ put_by_key table tables)) → (Each P (put_by_key table tables) → Each P tables) → Each P (other ∷ tables)
    step true each rest = each.1
    step false each rest = (each.0, rest each.1)

at_less : (P : FileEntries → Type 0) (table : FileEntries) (level : ℕ) (levels : List (List FileEntries)) → Each P (tables_in (put_at level table levels)) → Each P (tables_in levels)
at_less P table level [] each = each
at_less P table zero (tables ∷ levels) each = let parts = each_append P (put_by_key table tables) (tables_in levels) each in each_join P tables (tables_in levels) (key_less P table tables parts.0) parts.1
at_less P table (suc level) (tables ∷ levels) each = let parts = each_append P tables (tables_in (put_at level table levels)) each in each_join P tables (tables_in levels) parts.0 (at_less P table level levels parts.1)

table_less : (P : FileEntries → Type 0) (table : FileEntries) (level : ℕ) (levels : List (List FileEntries)) → Each P (tables_in (put_table level table levels)) → Each P (tables_in levels)
table_less P table zero [] each = each
table_less P table zero (tables ∷ levels) each = each.1
table_less P table (suc level) levels each = at_less P table (suc level) levels each

walk_less : (P : List Entry → Type 0) (family : FamilyView) (level number : ℕ) (table : FileEntries) → Each P (walk (put_file level number table family)) → Each P (walk family)
walk_less P family level number table each =
    let parts = each_append P (memories family) (runs_of (tables_in (put_file level number table family).levels)) each in
    each_join P (memories family) (runs_of (tables_in family.levels)) parts.0
    (entries_all P (tables_in family.levels) (table_less (λ one. P one.entries) (renumbered number table) level family.levels (each_entries P (tables_in (put_file level number table family).levels) parts.1)))

-- ---- a part that isn't behind

module _ (core : Core) (state : ModelState) (stands : Represents core state) where
  module _ (part : Part) (family : FamilyView) (kept : ModelFamily) (here : value_at core.families part.family ≡ Some family) (there : family_of state part.family ≡ Some kept) (a : ℕ) (not_behind : comes_behind part ≡ false) where
    -- the core so far, before these files
    pub record IsSoFar (c : Core) (tables : List FileEntries) : Type 0 where
      pub now : FamilyView
      pub view : value_at c.families part.family ≡ Some now
      pub jobs : c.jobs ≡ core.jobs
      pub id : now.id ≡ family.id
      pub flag : c.behind ≡ core.behind
      pub early : Each (λ table. NoneIn table now → NoneIn table family) tables
      pub known : sure_cause (outline core) (argument_of_part a part) ≡ None → Each (λ table. Each (Each (λ entry. IsKnownOrOut kept table entry.key)) (walk now)) tables
      pub apart : sure_cause (outline core) (argument_of_part a part) ≡ None → Pairwise (λ one other. meet (table_range one) (table_range other) ≡ false) tables

    abbrev pub piece_of : ℕ → FileEntries → RequestFile
    piece_of i table = record { at = record { arg = a; file = i }; part = part; table = table; sure = sure_cause (outline core) (argument_of_part a part) }

    pub place_is : (c : Core) (i : ℕ) (table : FileEntries) → plan_file c (piece_of i table) ≡ plan_by_rule c (piece_of i table)
    place_is c i table = cond-false (comes_behind part) (plan_behind (piece_of i table)) (plan_by_rule c (piece_of i table)) not_behind

    pub further : (c : Core) (i : ℕ) (table : FileEntries) (tables : List FileEntries) → IsStagedTable table → IsSoFar c (table ∷ tables) → IsSoFar (put_planned c (plan_by_rule c (piece_of i table))) tables
    further c i table tables staged so_far = record {
      now = put_file level number table so_far.now;
      view = value_changed part.family (put_file level number table) c.families part.family ∙ ap (option_map (λ x. cond (same part.family part.family) (put_file level number table x) x)) so_far.view
          ∙ ap (λ b. Some (cond b (put_file level number table so_far.now) so_far.now)) (same_self part.family);
      jobs = so_far.jobs;
      id = so_far.id;
      flag = so_far.flag;
      early = each_of (λ one. NoneIn one so_far.now → NoneIn one family) (λ one. NoneIn one (put_file level number table so_far.now) → NoneIn one family) tables
          (λ one old none. old (walk_less (Each (λ entry. is_in_range (table_range one) entry.key ≡ false)) so_far.now level number table none)) so_far.early.1;
      known = λ none. each_with (λ one. Each (Each (λ entry. IsKnownOrOut kept one entry.key)) (walk so_far.now)) (λ one. meet (table_range table) (table_range one) ≡ false)
          (λ one. Each (Each (λ entry. IsKnownOrOut kept one entry.key)) (walk (put_file level number table so_far.now))) tables
          (λ one old apart. walk_each (Each (λ entry. IsKnownOrOut kept one entry.key)) so_far.now level number table
          (each_of (λ (entry : Entry). is_in_range (table_range table) entry.key ≡ true) (λ entry. IsKnownOrOut kept one entry.key) (under_number number table.entries)
          (λ entry within. inr (outside one entry.key apart within (is_in_range (table_range one) entry.key) refl)) (staged_within table number staged)) old)
          (so_far.known none).1 (so_far.apart none).0;
      apart = λ none. (so_far.apart none).1;
    }
      where
        level : ℕ
        level = (level_choice c (piece_of i table)).level

        number : ℕ
        number = (plan_by_rule c (piece_of i table)).number

        outside : (one : FileEntries) (key : List ℕ) → meet (table_range table) (table_range one) ≡ false → is_in_range (table_range table) key ≡ true → (b : Bool) → is_in_range (table_range one) key ≡ b → b ≡ false
        outside one key apart within true is = absurd (false≢true (sym apart ∙ both_within_meet (table_range table) (table_range one) key within is))
        outside one key apart within false is = refl

    pub next_file : (c : Core) (s : ModelState) (i : ℕ) (table : FileEntries) (tables : List FileEntries) (rest : List RequestFile) → IsUnderway c s (piece_of i table ∷ rest) → (so_far : IsSoFar c (table ∷ tables)) → IsNextFile core state stands part family kept here there a c so_far.now table
    next_file c s i table tables rest under so_far = record {
      view = so_far.view;
      seven = (found_each IsView c.families part.family so_far.now under.stands.views so_far.view).levels;
      running = ap₂ (λ (jobs : List Job) (id : ℕ). filter (λ job. nat_lt 0 job.level) (filter (λ job. job.family == id) jobs)) so_far.jobs so_far.id;
      flag = so_far.flag;
      early = so_far.early.0;
      known = λ none. (so_far.known none).0;
      memory = sym (ap (option_and_then (λ (one : FamilyView). least_within (table_range table) (memories one))) so_far.view) ∙ under.ready.0.memory not_behind;
      staged = under.ready.0.staged;
    }

    part_placed : (i : ℕ) (tables : List FileEntries) (later : List RequestFile) (c : Core) (s : ModelState) → IsUnderway c s (request_files_of (sure_cause (outline core) (argument_of_part a part)) part a i tables ++ later) → IsSoFar c tables
        → Each (λ planned. number_refusal planned ≡ None) (plan_from c (request_files_of (sure_cause (outline core) (argument_of_part a part)) part a i tables))
        → Each (λ planned. level_refusal (lowest_level core) planned ≡ None) (plan_from c (request_files_of (sure_cause (outline core) (argument_of_part a part)) part a i tables))
        → AllZip (IsPlacedFile state kept (argument_of_part a part)) (files_from a i (map (λ (table : FileEntries). seen.Table table.entries) tables)) (map placed_in_plan (plan_from c (request_files_of (sure_cause (outline core) (argument_of_part a part)) part a i tables)))
    part_placed i [] later c s under so_far numbers levels = tt
    part_placed i (table ∷ tables) later c s under so_far numbers levels =
        let rest = request_files_of (sure_cause (outline core) (argument_of_part a part)) part a (i + 1) tables in
        let next = next_file c s i table tables (rest ++ later) under so_far in
        subst (λ planned. AllZip (IsPlacedFile state kept (argument_of_part a part)) (files_from a i (map (λ (table : FileEntries). seen.Table table.entries) (table ∷ tables))) (placed_in_plan planned ∷ map placed_in_plan (plan_from (put_planned c planned) rest)))
        (sym (place_is c i table)) (
          rule_placed core state stands part family kept here there a c so_far.now table next (record { arg = a; file = i }) not_behind (subst (λ planned. number_refusal planned ≡ None) (place_is c i table) numbers.0) (subst (λ planned. level_refusal (lowest_level core) planned ≡ None) (place_is c i table) levels.0),
          part_placed (i + 1) tables later (put_planned c (plan_by_rule c (piece_of i table))) (apply_file s (taken_in_plan (plan_by_rule c (piece_of i table))))
              (subst (λ planned. IsUnderway (put_planned c planned) (apply_file s (taken_in_plan planned)) (rest ++ later)) (place_is c i table) (file_keeps_underway c s (piece_of i table) (rest ++ later) under))
              (further c i table tables next.staged so_far)
              (subst (λ planned. Each (λ one. number_refusal one ≡ None) (plan_from (put_planned c planned) rest)) (place_is c i table) numbers.1)
              (subst (λ planned. Each (λ one. level_refusal (lowest_level core) one ≡ None) (plan_from (put_planned c planned) rest)) (place_is c i table) levels.1),
        )

  -- ---- a part behind

  behind_placed : (sure : Option Why) (part : Part) (a i : ℕ) (tables : List FileEntries) (c : Core) → comes_behind part ≡ true → AllZip IsPlacedBehind (files_from a i (map (λ (table : FileEntries). seen.Table table.entries) tables)) (map placed_in_plan (plan_from c (request_files_of sure part a i tables)))
  behind_placed sure part a i [] c behind = tt
  behind_placed sure part a i (table ∷ tables) c behind =
      let wanted : RequestFile = record { at = record { arg = a; file = i }; part = part; table = table; sure = sure } in (
        subst (λ planned. IsPlacedBehind (record { at = record { arg = a; file = i }; seen = seen.Table table.entries }) (placed_in_plan planned)) (sym (cond-true (comes_behind part) (plan_behind wanted) (plan_by_rule c wanted) behind)) (record { level = refl; number = refl }),
        behind_placed sure part a (i + 1) tables (put_planned c (plan_file c wanted)) behind,
      )

-- ---- all parts

pub plan_append : (c : Core) (xs ys : List RequestFile) → plan_from c (xs ++ ys) ≡ plan_from c xs ++ plan_from (fold put_planned c (plan_from c xs)) ys
plan_append c [] ys = refl
plan_append c (x ∷ xs) ys = ap (λ more. plan_file c x ∷ more) (plan_append (put_planned c (plan_file c x)) xs ys)

pub front_keeps : (c : Core) (s : ModelState) (xs ys : List RequestFile) → IsUnderway c s (xs ++ ys) → IsUnderway (fold put_planned c (plan_from c xs)) (fold apply_file s (map taken_in_plan (plan_from c xs))) ys
front_keeps c s [] ys under = under
front_keeps c s (x ∷ xs) ys under = front_keeps (put_planned c (plan_file c x)) (apply_file s (taken_in_plan (plan_file c x))) xs ys (file_keeps_underway c s x (xs ++ ys) under)

pub plan_length : (c : Core) (xs : List RequestFile) → length (plan_from c xs) ≡ length xs
plan_length c [] = refl
plan_length c (x ∷ xs) = ap suc (plan_length (put_planned c (plan_file c x)) xs)

pub pieces_length : (sure : Option Why) (part : Part) (a i : ℕ) (tables : List FileEntries) → length (request_files_of sure part a i tables) ≡ length tables
pieces_length sure part a i [] = refl
pieces_length sure part a i (table ∷ tables) = ap suc (pieces_length sure part a (i + 1) tables)

pub files_length : (a i : ℕ) (tables : List FileEntries) → length (files_from a i (map (λ (table : FileEntries). seen.Table table.entries) tables)) ≡ length tables
files_length a i [] = refl
files_length a i (table ∷ tables) = ap suc (files_length a (i + 1) tables)

placed_part : (c : Core) (wanted : RequestFile) → (plan_file c wanted).wanted.part ≡ wanted.part
placed_part c wanted = step (comes_behind wanted.part)
  where
    step : (b : Bool) → (cond b (plan_behind wanted) (plan_by_rule c wanted)).wanted.part ≡ wanted.part
    step true = refl
    step false = refl

-- jobs and the flag stay, and the families that no wanted names
pub jobs_stay : (c : Core) (xs : List RequestFile) → (fold put_planned c (plan_from c xs)).jobs ≡ c.jobs
jobs_stay c [] = refl
jobs_stay c (x ∷ xs) = jobs_stay (put_planned c (plan_file c x)) xs

pub flag_stays : (c : Core) (xs : List RequestFile) → (fold put_planned c (plan_from c xs)).behind ≡ c.behind
flag_stays c [] = refl
flag_stays c (x ∷ xs) = flag_stays (put_planned c (plan_file c x)) xs

pub other_stays : (sure : Option Why) (part : Part) (a : ℕ) (q : List ℕ) → (part.family ≡ q → ⊥) → (i : ℕ) (tables : List FileEntries) (c : Core) → value_at (fold put_planned c (plan_from c (request_files_of sure part a i tables))).families q ≡ value_at c.families q
other_stays sure part a q differ i [] c = refl
other_stays sure part a q differ i (table ∷ tables) c =
    other_stays sure part a q differ (i + 1) tables (put_planned c (plan_file c wanted))
    ∙ value_changed (plan_file c wanted).wanted.part.family (put_file (plan_file c wanted).level (plan_file c wanted).number (plan_file c wanted).wanted.table) c.families q
    ∙ stays (value_at c.families q) (same q (plan_file c wanted).wanted.part.family) (differs (same q (plan_file c wanted).wanted.part.family) refl)
  where
    wanted : RequestFile
    wanted = record { at = record { arg = a; file = i }; part = part; table = table; sure = sure }

    differs : (b : Bool) → same q (plan_file c wanted).wanted.part.family ≡ b → b ≡ false
    differs true is = absurd (differ (sym (same_true q (plan_file c wanted).wanted.part.family is ∙ ap (λ (one : Part). one.family) (placed_part c wanted))))
    differs false is = refl

    stays : (found : Option FamilyView) (b : Bool) → b ≡ false → option_map (λ x. cond b (put_file (plan_file c wanted).level (plan_file c wanted).number (plan_file c wanted).wanted.table x) x) found ≡ found
    stays None b e = refl
    stays (Some x) true e = absurd (false≢true (sym e))
    stays (Some x) false e = refl

pub is_some_value : {X : Type 0} (found : Option X) → is_some found ≡ true → (x : X) × (found ≡ Some x)
is_some_value None e = absurd (false≢true e)
is_some_value (Some x) e = (x, refl)

-- the core before a part is so far
pub starts : (core : Core) (state : ModelState) (stands : Represents core state) (part : Part) (family : FamilyView) (kept : ModelFamily) (here : value_at core.families part.family ≡ Some family) (there : family_of state part.family ≡ Some kept) (a : ℕ) (not_behind : comes_behind part ≡ false)
    (c : Core) → value_at c.families part.family ≡ value_at core.families part.family → c.jobs ≡ core.jobs → c.behind ≡ core.behind → IsSoFar core state stands part family kept here there a not_behind c part.files
starts core state stands part family kept here there a not_behind c same_view jobs flag = record {
  now = family;
  view = same_view ∙ here;
  jobs = jobs;
  id = refl;
  flag = flag;
  early = early_each part.files;
  known = λ _. known_each part.files;
  apart = λ none. unmet_apart a part (map_option_none (λ pair. Files pair.0 pair.1) (meeting (argument_of_part a part)) (or_none (option_map (λ pair. Files pair.0 pair.1) (meeting (argument_of_part a part))) (cond (is_empty core.live || not part.options.snapshot_consistency) None (Some (Snapshot (lowest_live (outline core))))) none).0);
}
  where
    known_each : (tables : List FileEntries) → Each (λ table. Each (Each (λ entry. IsKnownOrOut kept table entry.key)) (walk family)) tables
    known_each [] = tt
    known_each (table ∷ tables) = (
      each_of (Each (λ entry. is_known kept entry.key ≡ true)) (Each (λ entry. IsKnownOrOut kept table entry.key)) (walk family)
          (λ run. each_of (λ (entry : Entry). is_known kept entry.key ≡ true) (λ entry. IsKnownOrOut kept table entry.key) run (λ entry known. inl known)) (stands.known part.family family kept here there),
      known_each tables,
    )

    early_each : (tables : List FileEntries) → Each (λ table. NoneIn table family → NoneIn table family) tables
    early_each [] = tt
    early_each (table ∷ tables) = ((λ none. none), early_each tables)

module _ (core : Core) (state : ModelState) (stands : Represents core state) where
  argument_placed : (a : ℕ) (part : Part) (later : List RequestFile) (c : Core) (s : ModelState) → IsUnderway c s (request_files_of (sure_cause (outline core) (argument_of_part a part)) part a 1 part.files ++ later)
      → is_some (value_at core.families part.family) ≡ true → value_at c.families part.family ≡ value_at core.families part.family → c.jobs ≡ core.jobs → c.behind ≡ core.behind
      → Each (λ planned. number_refusal planned ≡ None) (plan_from c (request_files_of (sure_cause (outline core) (argument_of_part a part)) part a 1 part.files))
      → Each (λ planned. level_refusal (lowest_level core) planned ≡ None) (plan_from c (request_files_of (sure_cause (outline core) (argument_of_part a part)) part a 1 part.files))
      → IsPlacedArgument state c.last (argument_of_part a part) (map placed_in_plan (plan_from c (request_files_of (sure_cause (outline core) (argument_of_part a part)) part a 1 part.files)))
  argument_placed a part later c s under there same_view jobs flag numbers levels = step (comes_behind part) refl
    where
      found : (family : FamilyView) × (value_at core.families part.family ≡ Some family)
      found = is_some_value (value_at core.families part.family) there

      kept : (one : ModelFamily) × (value_at state.families part.family ≡ Some one)
      kept = kept_there core.families state.families part.family found.0 stands.same.families found.1

      step : (b : Bool) → comes_behind part ≡ b → MatchBool b (AllZip IsPlacedBehind (argument_of_part a part).files (map placed_in_plan (plan_from c (request_files_of (sure_cause (outline core) (argument_of_part a part)) part a 1 part.files))))
          (AreNext c.last (numbers_of (map placed_in_plan (plan_from c (request_files_of (sure_cause (outline core) (argument_of_part a part)) part a 1 part.files))))
          × IsSomeAnd (family_of state part.family) (λ family. AllZip (IsPlacedFile state family (argument_of_part a part)) (argument_of_part a part).files (map placed_in_plan (plan_from c (request_files_of (sure_cause (outline core) (argument_of_part a part)) part a 1 part.files)))))
      step true behind = behind_placed core state stands (sure_cause (outline core) (argument_of_part a part)) part a 1 part.files c behind
      step false not_behind = (
        (numbers_next c (request_files_of (sure_cause (outline core) (argument_of_part a part)) part a 1 part.files)).0,
        subst (λ one. IsSomeAnd one (λ family. AllZip (IsPlacedFile state family (argument_of_part a part)) (argument_of_part a part).files (map placed_in_plan (plan_from c (request_files_of (sure_cause (outline core) (argument_of_part a part)) part a 1 part.files))))) (sym kept.1)
            (part_placed core state stands part found.0 kept.0 found.1 kept.1 a not_behind 1 part.files later c s under
            (starts core state stands part found.0 kept.0 found.1 kept.1 a not_behind c same_view jobs flag)
            numbers levels),
      )

  pub plan_placed : (a : ℕ) (parts : List Part) (c : Core) (s : ModelState) → IsUnderway c s (request_files_after core a parts)
      → Each (λ part. is_some (value_at core.families part.family) ≡ true) parts → Each (λ part. value_at c.families part.family ≡ value_at core.families part.family) parts → c.jobs ≡ core.jobs → c.behind ≡ core.behind
      → Pairwise (λ one other. one.family ≡ other.family → ⊥) parts
      → Each (λ planned. number_refusal planned ≡ None) (plan_from c (request_files_after core a parts)) → Each (λ planned. level_refusal (lowest_level core) planned ≡ None) (plan_from c (request_files_after core a parts))
      → ArePlaced state c.last (arguments_after a parts) (map placed_in_plan (plan_from c (request_files_after core a parts)))
  plan_placed a [] c s under there views jobs flag differ numbers levels = refl
  plan_placed a (part ∷ parts) c s under there views jobs flag differ numbers levels =
      subst (λ placed. IsPlacedArgument state c.last (argument_of_part a part) (take (length (argument_of_part a part).files) placed)
      × ArePlaced state (last_number_after c.last (take (length (argument_of_part a part).files) placed)) (arguments_after (a + 1) parts) (drop (length (argument_of_part a part).files) placed)) (sym split)
      (subst (λ front. IsPlacedArgument state c.last (argument_of_part a part) front × ArePlaced state (last_number_after c.last front) (arguments_after (a + 1) parts) (drop (length (argument_of_part a part).files) (one ++ other))) (sym (take_at one other (length (argument_of_part a part).files) long)) (
        argument_placed a part (request_files_after core (a + 1) parts) c s under there.0 views.0 jobs flag (each_append (λ planned. number_refusal planned ≡ None) (plan_from c first) (plan_from after later) (subst (Each (λ planned. number_refusal planned ≡ None)) (plan_append c first later) numbers)).0
            (each_append (λ planned. level_refusal (lowest_level core) planned ≡ None) (plan_from c first) (plan_from after later) (subst (Each (λ planned. level_refusal (lowest_level core) planned ≡ None)) (plan_append c first later) levels)).0,
        subst₂ (λ last back. ArePlaced state last (arguments_after (a + 1) parts) back) (sym (numbers_next c first).1) (sym (drop_at one other (length (argument_of_part a part).files) long))
            (plan_placed (a + 1) parts after (fold apply_file s (map taken_in_plan (plan_from c first))) (front_keeps c s first later under) there.1
            (each_with (λ next. value_at c.families next.family ≡ value_at core.families next.family) (λ next. part.family ≡ next.family → ⊥) (λ next. value_at after.families next.family ≡ value_at core.families next.family) parts
            (λ next was apart. other_stays (sure_cause (outline core) (argument_of_part a part)) part a next.family apart 1 part.files c ∙ was) views.1 differ.0)
            (jobs_stay c first ∙ jobs) (flag_stays c first ∙ flag) differ.1
            (each_append (λ planned. number_refusal planned ≡ None) (plan_from c first) (plan_from after later) (subst (Each (λ planned. number_refusal planned ≡ None)) (plan_append c first later) numbers)).1
            (each_append (λ planned. level_refusal (lowest_level core) planned ≡ None) (plan_from c first) (plan_from after later) (subst (Each (λ planned. level_refusal (lowest_level core) planned ≡ None)) (plan_append c first later) levels)).1),
      ))
    where
      first : List RequestFile
      first = request_files_of (sure_cause (outline core) (argument_of_part a part)) part a 1 part.files

      later : List RequestFile
      later = request_files_after core (a + 1) parts

      after : Core
      after = fold put_planned c (plan_from c first)

      one : List Placed
      one = map placed_in_plan (plan_from c first)

      other : List Placed
      other = map placed_in_plan (plan_from after later)

      split : map placed_in_plan (plan_from c (first ++ later)) ≡ one ++ other
      split = ap (map placed_in_plan) (plan_append c first later) ∙ map-append placed_in_plan (plan_from c first) (plan_from after later)

      long : length one ≡ length (argument_of_part a part).files
      long = length-map (plan_from c first) placed_in_plan ∙ plan_length c first ∙ pieces_length (sure_cause (outline core) (argument_of_part a part)) part a 1 part.files ∙ sym (files_length a 1 part.files)
