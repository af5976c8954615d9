-- Refusal 17 names a key, an output or a range that the model knows.
use Rattle.std.proofs.Common.{◌≡◌, ℕ, zero, suc, ◌+◌, ◌<◌, ◌≤◌, Bool, true, false, cond, not, ◌||◌, List, [], ◌∷◌, ◌++◌, map, flat_map, filter, Option, Some, None, is_some, unwrap_or, refl, sym, ap, ap₂, subst, ◌∙◌, inl, inr, ◌⊎◌, arith}
use Rattle.std.specs.Prelude.{fold, Contains, IsSomeAnd, ◌==◌, nat_lt, find, filter_map}
use Rattle.std.specs.Option.{option_map, option_or, option_and_then}
use Rattle.std.specs.List.{cons_option, AllByRecursion as Each}
use Rattle.std.proofs.lemmas.Bool.{false≢true, or_left, or_right, or_cases, ltb-true, lt-ltb, cases_lt, eqb-false, ne_eqb, eq-eqb, cond-true, cond-false}
use Rattle.std.proofs.lemmas.List.Folds.{list_any-append}
use Rattle.st_base.specs.Bytes.{same}
use Rattle.st_base.specs.Map.{value_at}
use Rattle.st_base.specs.declared.entry.Entry.{Entry}
use Rattle.st_base.proofs.Same.{same_self}
use Rattle.st_model.specs.declared.refusal.Refusal.{Refusal}
use Rattle.st_model.specs.declared.refusal.Refusal.TheVariants.{NotLastLevel}
use Rattle.st_model.specs.declared.refusal.Why.{Why}
use Rattle.st_model.specs.declared.command.FileSeen.TheVariants as seen
use Rattle.st_model.specs.declared.state.ModelFamily.{ModelFamily}
use Rattle.st_model.specs.declared.state.ModelState.{ModelState}
use Rattle.st_model.specs.Apply.{apply_file}
use Rattle.st_base.specs.Range.{keys_of}
use Rattle.st_model.specs.Refusals.{MayRefuse, sure_cause, is_in, known_in, keys_before, may_be_too_high, named_file, names_known}
use Rattle.st_model.specs.Request.{File, Argument, files_from, entries_of_file as file_entries, argument_of, file_of_argument}
use Rattle.st_model.specs.State.{family_of, is_known, lowest as lowest_of}
use Rattle.base_laws.proofs.Lists.{each_join}
use Rattle.base_laws.proofs.Maps.{found_each}
use Rattle.base_laws.proofs.Ranges.{under_each}
use Rattle.core_model.specs.Commit.{outline, comes_behind, RequestFile, request_files, request_files_of, request_files_after, family_at, level_choice, plan_file, plan_by_rule, plan_behind, put_planned, plan_from, plan, level_refusal, taken_in_plan, put_file, met_at}
use Rattle.core_model.specs.Event.{argument_of_part, arguments_after, request_of_parts}
use Rattle.core_model.specs.Relation.{Represents}
use Rattle.core_model.specs.Level.{level_rule}
use Rattle.core_model.specs.Picture.{FileEntries, FamilyView, Job, Part, Core, lowest_level, walk, table_range, running_of, new_view}
use Rattle.core_model.specs.RelationParts.{IsView}
use Rattle.core_laws.specs.Underway.{IsUnderway, RefusedByLevel}
use Rattle.core_laws.proofs.CommitBegins.{there_each, names_differ, begins_fitting, turn_facts}
use Rattle.core_laws.proofs.CommitEnds.{plan_turn}
use Rattle.core_laws.proofs.FileChanges.{each_member}
use Rattle.core_laws.proofs.FileFields.{walk_each}
use Rattle.core_laws.proofs.FileJobs.{each_of, each_with}
use Rattle.core_laws.proofs.FileLift.{value_changed, kept_there, some_is}
use Rattle.core_laws.proofs.FileStep.{file_keeps_underway}
use Rattle.core_laws.proofs.LevelRule.{rule_within}
use Rattle.core_laws.proofs.PlacedPlan.{plan_append, front_keeps, other_stays, jobs_stay, flag_stays, is_some_value}
use Rattle.core_laws.proofs.CauseNames.{known_is_in, four_true, named_cause, named_met}
use Rattle.st_order.specs.Columns.{Pairwise}

-- ---- found by their numbers

unique_found : {X : Type 0} (number : X → ℕ) (xs : List X) → Pairwise (λ one other. number one < number other) xs → Each (λ x. find (λ one. number one == number x) xs ≡ Some x) xs
unique_found number [] rise = tt
unique_found {X = X} number (x ∷ xs) rise =
    (ap (λ b. cond b (Some x) (find (λ one. number one == number x) xs)) (eq-eqb (number x) (number x) refl), later xs rise.0 (unique_found number xs rise.1))
  where
    later : (some : List X) → Each (λ other. number x < number other) some → Each (λ other. find (λ one. number one == number other) xs ≡ Some other) some → Each (λ other. find (λ one. number one == number other) (x ∷ xs) ≡ Some other) some
    later [] up found = tt
    later (other ∷ some) up found =
        (cond-false (number x == number other) (Some x) (find (λ one. number one == number other) xs) (ne_eqb (number x) (number other) (λ e. absurd (omega (arith, up.0)))) ∙ found.0, later some up.1 found.1)

arguments_up : (a b : ℕ) (parts : List Part) → b < a → Each (λ argument. b < argument.number) (arguments_after a parts)
arguments_up a b [] lt = tt
arguments_up a b (part ∷ parts) lt = (lt, arguments_up (a + 1) b parts (omega arith))

arguments_rise : (a : ℕ) (parts : List Part) → Pairwise (λ one other. one.number < other.number) (arguments_after a parts)
arguments_rise a [] = tt
arguments_rise a (part ∷ parts) = (arguments_up (a + 1) a parts (omega arith), arguments_rise (a + 1) parts)

files_up : (a i j : ℕ) (tables : List FileEntries) → j < i → Each (λ file. j < file.at.file) (files_from a i (map (λ (table : FileEntries). seen.Table table.entries) tables))
files_up a i j [] lt = tt
files_up a i j (table ∷ tables) lt = (lt, files_up a (i + 1) j tables (omega arith))

files_rise : (a i : ℕ) (tables : List FileEntries) → Pairwise (λ one other. one.at.file < other.at.file) (files_from a i (map (λ (table : FileEntries). seen.Table table.entries) tables))
files_rise a i [] = tt
files_rise a i (table ∷ tables) = (files_up a (i + 1) i tables (omega arith), files_rise a (i + 1) tables)

pub arguments_found : (parts : List Part) → Each (λ argument. argument_of (arguments_after 1 parts) argument.number ≡ Some argument) (arguments_after 1 parts)
arguments_found parts = unique_found (λ (argument : Argument). argument.number) (arguments_after 1 parts) (arguments_rise 1 parts)

pub files_found : (a : ℕ) (part : Part) → Each (λ file. file_of_argument (argument_of_part a part) file.at.file ≡ Some file) (argument_of_part a part).files
files_found a part = unique_found (λ (file : File). file.at.file) (argument_of_part a part).files (files_rise a 1 part.files)

-- ---- keys of earlier files

is_in_append : (xs ys : List (List ℕ)) (key : List ℕ) → is_in (xs ++ ys) key ≡ (is_in xs key || is_in ys key)
is_in_append xs ys key = list_any-append (same key) xs ys

is_in_left : (xs ys : List (List ℕ)) (key : List ℕ) → is_in xs key ≡ true → is_in (xs ++ ys) key ≡ true
is_in_left xs ys key e = is_in_append xs ys key ∙ or_left (is_in xs key) (is_in ys key) e

is_in_right : (xs ys : List (List ℕ)) (key : List ℕ) → is_in ys key ≡ true → is_in (xs ++ ys) key ≡ true
is_in_right xs ys key e = is_in_append xs ys key ∙ or_right (is_in xs key) (is_in ys key) e

-- the keys of the files in front of file i
abbrev keys_to : ℕ → List File → List (List ℕ)
keys_to i files = flat_map (λ other. cond (nat_lt other.at.file i) (keys_of (file_entries other)) []) files

keys_on : (i : ℕ) (key : List ℕ) (files : List File) → is_in (keys_to i files) key ≡ true → is_in (keys_to (i + 1) files) key ≡ true
keys_on i key [] e = e
keys_on i key (file ∷ files) e =
    is_in_append (here (i + 1)) (keys_to (i + 1) files) key
    ∙ both (or_cases (is_in (here i) key) (is_in (keys_to i files) key) (sym (is_in_append (here i) (keys_to i files) key) ∙ e)) (keys_on i key files)
  where
    here : ℕ → List (List ℕ)
    here n = cond (nat_lt file.at.file n) (keys_of (file_entries file)) []

    now : (b c : Bool) → (b ≡ true → c ≡ true) → is_in (cond b (keys_of (file_entries file)) []) key ≡ true → is_in (cond c (keys_of (file_entries file)) []) key ≡ true
    now true c f e = subst (λ t. is_in (cond t (keys_of (file_entries file)) []) key ≡ true) (sym (f refl)) e
    now false c f e = absurd (false≢true e)

    both : (is_in (here i) key ≡ true) ⊎ (is_in (keys_to i files) key ≡ true) → (is_in (keys_to i files) key ≡ true → is_in (keys_to (i + 1) files) key ≡ true) → (is_in (here (i + 1)) key || is_in (keys_to (i + 1) files) key) ≡ true
    both (inl e) rest = or_left (is_in (here (i + 1)) key) (is_in (keys_to (i + 1) files) key) (now (nat_lt file.at.file i) (nat_lt file.at.file (i + 1)) (λ lt. lt-ltb file.at.file (i + 1) (omega (arith, ltb-true file.at.file i lt))) e)
    both (inr e) rest = or_right (is_in (here (i + 1)) key) (is_in (keys_to (i + 1) files) key) (rest e)

keys_new : (file : File) (key : List ℕ) (files : List File) → Contains files file → is_in (keys_of (file_entries file)) key ≡ true → is_in (keys_to (file.at.file + 1) files) key ≡ true
keys_new file key [] (k, lt, at) e = absurd (omega arith)
keys_new file key (other ∷ files) (zero, lt, at) e =
    is_in_left (cond (nat_lt other.at.file (file.at.file + 1)) (keys_of (file_entries other)) []) (keys_to (file.at.file + 1) files) key
    (subst (λ one. is_in (cond (nat_lt one.at.file (file.at.file + 1)) (keys_of (file_entries one)) []) key ≡ true) (sym at)
    (subst (λ b. is_in (cond b (keys_of (file_entries file)) []) key ≡ true) (sym (lt-ltb file.at.file (file.at.file + 1) (omega arith))) e))
keys_new file key (other ∷ files) (suc k, lt, at) e =
    is_in_right (cond (nat_lt other.at.file (file.at.file + 1)) (keys_of (file_entries other)) []) (keys_to (file.at.file + 1) files) key (keys_new file key files (k, omega arith, at) e)

own_keys : (entries : List Entry) → Each (λ entry. is_in (keys_of entries) entry.key ≡ true) entries
own_keys [] = tt
own_keys (x ∷ xs) = (
  or_left (same x.key x.key) (is_in (keys_of xs) x.key) (same_self x.key),
  each_of (λ (entry : Entry). is_in (keys_of xs) entry.key ≡ true) (λ entry. (same entry.key x.key || is_in (keys_of xs) entry.key) ≡ true) xs (λ entry e. or_right (same entry.key x.key) (is_in (keys_of xs) entry.key) e) (own_keys xs),
)

-- ---- a part that isn't behind

module _ (core : Core) (state : ModelState) (stands : Represents core state) (request : List Argument) where
  module _ (part : Part) (family : FamilyView) (kept : ModelFamily) (here : value_at core.families part.family ≡ Some family) (there : family_of state part.family ≡ Some kept) (a : ℕ) (not_behind : comes_behind part ≡ false)
      (found : argument_of request a ≡ Some (argument_of_part a part)) where
    abbrev sure : Option Why
    sure = sure_cause (outline core) (argument_of_part a part)

    abbrev known_to : ℕ → List (List ℕ)
    known_to i = kept.known ++ keys_to i (argument_of_part a part).files

    record IsSoFar (c : Core) (i : ℕ) : Type 0 where
      now : FamilyView
      view : value_at c.families part.family ≡ Some now
      jobs : c.jobs ≡ core.jobs
      id : now.id ≡ family.id
      flag : c.behind ≡ core.behind
      known : Each (Each (λ entry. is_in (known_to i) entry.key ≡ true)) (walk now)

    abbrev piece_of : ℕ → FileEntries → RequestFile
    piece_of i table = record { at = record { arg = a; file = i }; part = part; table = table; sure = sure_cause (outline core) (argument_of_part a part) }

    abbrev file_at : ℕ → FileEntries → File
    file_at i table = record { at = record { arg = a; file = i }; seen = seen.Table table.entries }

    place_is : (c : Core) (i : ℕ) (table : FileEntries) → plan_file c (piece_of i table) ≡ plan_by_rule c (piece_of i table)
    place_is c i table = cond-false (comes_behind part) (plan_behind (piece_of i table)) (plan_by_rule c (piece_of i table)) not_behind

    further : (c : Core) (i : ℕ) (table : FileEntries) → Contains (argument_of_part a part).files (file_at i table) → IsSoFar c i → IsSoFar (put_planned c (plan_by_rule c (piece_of i table))) (i + 1)
    further c i table held so_far = record {
      now = put_file level number table so_far.now;
      view = value_changed part.family (put_file level number table) c.families part.family ∙ ap (option_map (λ x. cond (same part.family part.family) (put_file level number table x) x)) so_far.view
          ∙ ap (λ b. Some (cond b (put_file level number table so_far.now) so_far.now)) (same_self part.family);
      jobs = so_far.jobs;
      id = so_far.id;
      flag = so_far.flag;
      known = walk_each (Each (λ entry. is_in (known_to (i + 1)) entry.key ≡ true)) so_far.now level number table
          (under_each (λ key. is_in (known_to (i + 1)) key ≡ true) number table.entries
          (each_of (λ (entry : Entry). is_in (keys_of table.entries) entry.key ≡ true) (λ entry. is_in (known_to (i + 1)) entry.key ≡ true) table.entries
          (λ entry own. is_in_right kept.known (keys_to (i + 1) (argument_of_part a part).files) entry.key (keys_new (file_at i table) entry.key (argument_of_part a part).files held own)) (own_keys table.entries)))
          (each_of (Each (λ entry. is_in (known_to i) entry.key ≡ true)) (Each (λ entry. is_in (known_to (i + 1)) entry.key ≡ true)) (walk so_far.now)
          (λ run. each_of (λ (entry : Entry). is_in (known_to i) entry.key ≡ true) (λ entry. is_in (known_to (i + 1)) entry.key ≡ true) run (λ entry e. on entry.key e)) so_far.known);
    }
      where
        level : ℕ
        level = (level_choice c (piece_of i table)).level

        number : ℕ
        number = (plan_by_rule c (piece_of i table)).number

        on : (key : List ℕ) → is_in (known_to i) key ≡ true → is_in (known_to (i + 1)) key ≡ true
        on key e = either (or_cases (is_in kept.known key) (is_in (keys_to i (argument_of_part a part).files) key) (sym (is_in_append kept.known (keys_to i (argument_of_part a part).files) key) ∙ e))
          where
            either : (is_in kept.known key ≡ true) ⊎ (is_in (keys_to i (argument_of_part a part).files) key ≡ true) → is_in (known_to (i + 1)) key ≡ true
            either (inl e) = is_in_left kept.known (keys_to (i + 1) (argument_of_part a part).files) key e
            either (inr e) = is_in_right kept.known (keys_to (i + 1) (argument_of_part a part).files) key (keys_on i key (argument_of_part a part).files e)

    -- the file is named with its argument
    pub named_is : (i : ℕ) (table : FileEntries) → file_of_argument (argument_of_part a part) i ≡ Some (file_at i table) → named_file request (record { arg = a; file = i }) ≡ Some (argument_of_part a part, file_at i table)
    named_is i table held = ap (option_and_then (λ argument. option_map (λ file. (argument, file)) (file_of_argument argument i))) found ∙ ap (option_map (λ file. (argument_of_part a part, file))) held

    refused_file : (c : Core) (s : ModelState) (i : ℕ) (table : FileEntries) (rest : List RequestFile) → IsUnderway c s (piece_of i table ∷ rest) → IsSoFar c i → file_of_argument (argument_of_part a part) i ≡ Some (file_at i table)
        → (refusal : Refusal) → level_refusal (lowest_level core) (plan_by_rule c (piece_of i table)) ≡ Some refusal → MayRefuse state core.capacity request refusal
    refused_file c s i table rest under so_far held refusal e = by_tests (comes_behind part) part.options.fail_if_not_bottommost_level refl ((level_choice c (piece_of i table)).level == lowest_level core) refl e
      where
        now_is : family_at c part.family ≡ so_far.now
        now_is = ap (λ found. unwrap_or found (new_view 0)) so_far.view

        same_low : lowest_level c ≡ lowest_level core
        same_low = ap (λ b. cond b 5 6) so_far.flag

        same_lowest : lowest_level core ≡ lowest_of state
        same_lowest = ap (λ b. cond b 5 6) stands.same.behind

        running : running_of c so_far.now ≡ running_of core family
        running = ap₂ (λ (jobs : List Job) (id : ℕ). filter (λ job. nat_lt 0 job.level) (filter (λ job. job.family == id) jobs)) so_far.jobs so_far.id

        more : (key : List ℕ) → is_known kept key ≡ true → is_in (known_to i) key ≡ true
        more key e = is_in_left kept.known (keys_to i (argument_of_part a part).files) key (known_is_in kept.known key e)

        view : IsView so_far.now
        view = found_each IsView c.families part.family so_far.now under.stands.views so_far.view

        high_named : (why : Why) → (cause : Option Why) → (level_rule so_far.now.levels (running_of c so_far.now) (table_range table) (lowest_level c)).cause ≡ cause → option_or cause (met_at (lowest_level c) so_far.now.levels (table_range table)) ≡ Some why
            → names_known (known_to i) why (file_at i table) ≡ true
        high_named why (Some one) is e =
            (named_cause core state stands part family kept here there a c so_far.now table (record { arg = a; file = i }) (lowest_level c) running (known_to i) more (λ key. is_in (known_to i) key ≡ true) why (λ key within e. e) so_far.known (is ∙ e)).0
        high_named why None is e = named_met core state stands part family kept here there a c so_far.now table (record { arg = a; file = i }) (lowest_level c) running (known_to i) more why view so_far.known e

        high_is : (why : Why) → (plan_by_rule c (piece_of i table)).high ≡ Some why → names_known (known_to i) why (file_at i table) ≡ true
        high_is why e = high_named why (level_rule so_far.now.levels (running_of c so_far.now) (table_range table) (lowest_level c)).cause refl
            (sym (ap (λ (one : FamilyView). option_or (level_rule one.levels (running_of c one) (table_range table) (lowest_level c)).cause (met_at (lowest_level c) one.levels (table_range table))) now_is) ∙ e)

        by_why : (found_high : Option Why) → (plan_by_rule c (piece_of i table)).high ≡ found_high → part.options.fail_if_not_bottommost_level ≡ true → ((level_choice c (piece_of i table)).level ≡ lowest_level core → ⊥)
            → option_map (λ why. NotLastLevel (record { arg = a; file = i }) (level_choice c (piece_of i table)).level why) found_high ≡ Some refusal → MayRefuse state core.capacity request refusal
        by_why None is fails other e = absurd cc
        by_why (Some why) is fails other e =
            subst (MayRefuse state core.capacity request) (some_is (NotLastLevel (record { arg = a; file = i }) (level_choice c (piece_of i table)).level why) refusal e)
            (subst (λ named. IsSomeAnd named (λ one. may_be_too_high state (level_choice c (piece_of i table)).level why one ≡ true)) (sym (named_is i table held))
            (four_true (not (comes_behind part)) part.options.fail_if_not_bottommost_level (nat_lt (level_choice c (piece_of i table)).level (lowest_of state)) (names_known (known_in state part.family ++ keys_before (argument_of_part a part) (file_at i table)) why (file_at i table))
            (ap not not_behind) fails
            (lt-ltb (level_choice c (piece_of i table)).level (lowest_of state) (strictly (level_choice c (piece_of i table)).level (lowest_level core) (lowest_of state) same_lowest
            (subst (λ low. (level_choice c (piece_of i table)).level ≤ low) same_low (rule_within (family_at c part.family).levels (running_of c (family_at c part.family)) (table_range table) (lowest_level c))) other))
            (subst (λ known. names_known (known ++ keys_before (argument_of_part a part) (file_at i table)) why (file_at i table) ≡ true) (sym (ap (λ one. unwrap_or (option_map (λ (family : ModelFamily). family.known) one) []) there)) (high_is why is))))
          where
            strictly : (x y z : ℕ) → y ≡ z → x ≤ y → (x ≡ y → ⊥) → x < z
            strictly x y z e le other = elim (cases_lt x y) [ inl lt ↦ omega arith | inr ge ↦ absurd (other (omega arith)) ]

        by_tests : (b f : Bool) → part.options.fail_if_not_bottommost_level ≡ f → (e : Bool) → ((level_choice c (piece_of i table)).level == lowest_level core) ≡ e
            → cond (b || not f || e) None (option_map (λ why. NotLastLevel (record { arg = a; file = i }) (level_choice c (piece_of i table)).level why) (plan_by_rule c (piece_of i table)).high) ≡ Some refusal → MayRefuse state core.capacity request refusal
        by_tests true f is_f e is_e some = absurd cc
        by_tests false false is_f e is_e some = absurd cc
        by_tests false true is_f true is_e some = absurd cc
        by_tests false true is_f false is_e some = by_why (plan_by_rule c (piece_of i table)).high refl is_f (eqb-false (level_choice c (piece_of i table)).level (lowest_level core) is_e) some

    part_refused : (i : ℕ) (tables : List FileEntries) (later : List RequestFile) (c : Core) (s : ModelState) → IsUnderway c s (request_files_of (sure_cause (outline core) (argument_of_part a part)) part a i tables ++ later) → IsSoFar c i
        → Each (λ file. Contains (argument_of_part a part).files file × (file_of_argument (argument_of_part a part) file.at.file ≡ Some file)) (files_from a i (map (λ (table : FileEntries). seen.Table table.entries) tables))
        → Each (λ planned. (refusal : Refusal) → level_refusal (lowest_level core) planned ≡ Some refusal → MayRefuse state core.capacity request refusal) (plan_from c (request_files_of (sure_cause (outline core) (argument_of_part a part)) part a i tables))
    part_refused i [] later c s under so_far held = tt
    part_refused i (table ∷ tables) later c s under so_far held =
        let rest = request_files_of (sure_cause (outline core) (argument_of_part a part)) part a (i + 1) tables in
        subst (λ planned. Each (λ one. (refusal : Refusal) → level_refusal (lowest_level core) one ≡ Some refusal → MayRefuse state core.capacity request refusal) (planned ∷ plan_from (put_planned c planned) rest)) (sym (place_is c i table)) (
          refused_file c s i table (rest ++ later) under so_far held.0.1,
          part_refused (i + 1) tables later (put_planned c (plan_by_rule c (piece_of i table))) (apply_file s (taken_in_plan (plan_by_rule c (piece_of i table))))
              (subst (λ planned. IsUnderway (put_planned c planned) (apply_file s (taken_in_plan planned)) (rest ++ later)) (place_is c i table) (file_keeps_underway c s (piece_of i table) (rest ++ later) under))
              (further c i table held.0.0 so_far) held.1,
        )

  -- ---- all parts

  behind_passes : (sure : Option Why) (part : Part) (a i : ℕ) (tables : List FileEntries) (c : Core) → comes_behind part ≡ true
      → Each (λ planned. (refusal : Refusal) → level_refusal (lowest_level core) planned ≡ Some refusal → MayRefuse state core.capacity request refusal) (plan_from c (request_files_of sure part a i tables))
  behind_passes sure part a i [] c behind = tt
  behind_passes sure part a i (table ∷ tables) c behind =
      let wanted : RequestFile = record { at = record { arg = a; file = i }; part = part; table = table; sure = sure } in (
        subst (λ planned. (refusal : Refusal) → level_refusal (lowest_level core) planned ≡ Some refusal → MayRefuse state core.capacity request refusal) (sym (cond-true (comes_behind part) (plan_behind wanted) (plan_by_rule c wanted) behind))
            (λ refusal some. passes (comes_behind part) behind refusal some),
        behind_passes sure part a (i + 1) tables (put_planned c (plan_file c wanted)) behind,
      )
    where
      passes : (b : Bool) → b ≡ true → (refusal : Refusal) → cond (b || not part.options.fail_if_not_bottommost_level || (6 == lowest_level core)) None None ≡ Some refusal → MayRefuse state core.capacity request refusal
      passes true e refusal some = absurd cc
      passes false e refusal some = absurd (false≢true e)

  plan_refused : (a : ℕ) (parts : List Part) (c : Core) (s : ModelState) → IsUnderway c s (request_files_after core a parts)
      → Each (λ part. is_some (value_at core.families part.family) ≡ true) parts → Each (λ part. value_at c.families part.family ≡ value_at core.families part.family) parts → c.jobs ≡ core.jobs → c.behind ≡ core.behind
      → Pairwise (λ one other. one.family ≡ other.family → ⊥) parts → Each (λ argument. argument_of request argument.number ≡ Some argument) (arguments_after a parts)
      → Each (λ planned. (refusal : Refusal) → level_refusal (lowest_level core) planned ≡ Some refusal → MayRefuse state core.capacity request refusal) (plan_from c (request_files_after core a parts))
  plan_refused a [] c s under there views jobs flag differ found = tt
  plan_refused a (part ∷ parts) c s under there views jobs flag differ found =
      subst (Each (λ planned. (refusal : Refusal) → level_refusal (lowest_level core) planned ≡ Some refusal → MayRefuse state core.capacity request refusal)) (sym (plan_append c first later))
      (each_join (λ planned. (refusal : Refusal) → level_refusal (lowest_level core) planned ≡ Some refusal → MayRefuse state core.capacity request refusal) (plan_from c first) (plan_from after later)
      (kind (comes_behind part) refl)
      (plan_refused (a + 1) parts after (fold apply_file s (map taken_in_plan (plan_from c first))) (front_keeps c s first later under) there.1
      (each_with (λ next. value_at c.families next.family ≡ value_at core.families next.family) (λ next. part.family ≡ next.family → ⊥) (λ next. value_at after.families next.family ≡ value_at core.families next.family) parts
      (λ next was apart. other_stays (sure_cause (outline core) (argument_of_part a part)) part a next.family apart 1 part.files c ∙ was) views.1 differ.0)
      (jobs_stay c first ∙ jobs) (flag_stays c first ∙ flag) differ.1 found.1))
    where
      first : List RequestFile
      first = request_files_of (sure_cause (outline core) (argument_of_part a part)) part a 1 part.files

      later : List RequestFile
      later = request_files_after core (a + 1) parts

      after : Core
      after = fold put_planned c (plan_from c first)

      view : (family : FamilyView) × (value_at core.families part.family ≡ Some family)
      view = is_some_value (value_at core.families part.family) there.0

      kept : (one : ModelFamily) × (value_at state.families part.family ≡ Some one)
      kept = kept_there core.families state.families part.family view.0 stands.same.families view.1

      kind : (b : Bool) → comes_behind part ≡ b → Each (λ planned. (refusal : Refusal) → level_refusal (lowest_level core) planned ≡ Some refusal → MayRefuse state core.capacity request refusal) (plan_from c (request_files_of (sure_cause (outline core) (argument_of_part a part)) part a 1 part.files))
      kind true behind = behind_passes (sure_cause (outline core) (argument_of_part a part)) part a 1 part.files c behind
      kind false not_behind = part_refused part view.0 kept.0 view.1 kept.1 a not_behind found.0 1 part.files later c s under
          (record {
            now = view.0;
            view = views.0 ∙ view.1;
            jobs = jobs;
            id = refl;
            flag = flag;
            known = each_of (Each (λ entry. is_known kept.0 entry.key ≡ true)) (Each (λ entry. is_in (kept.0.known ++ keys_to 1 (argument_of_part a part).files) entry.key ≡ true)) (walk view.0)
                (λ run. each_of (λ (entry : Entry). is_known kept.0 entry.key ≡ true) (λ entry. is_in (kept.0.known ++ keys_to 1 (argument_of_part a part).files) entry.key ≡ true) run
                (λ entry e. is_in_left kept.0.known (keys_to 1 (argument_of_part a part).files) entry.key (known_is_in kept.0.known entry.key e))) (stands.known part.family view.0 kept.0 view.1 kept.1);
          })
          (each_with (Contains (argument_of_part a part).files) (λ file. file_of_argument (argument_of_part a part) file.at.file ≡ Some file) (λ file. Contains (argument_of_part a part).files file × (file_of_argument (argument_of_part a part) file.at.file ≡ Some file)) (argument_of_part a part).files
          (λ file held is. (held, is)) (each_member (argument_of_part a part).files) (files_found a part))

pub heads_each : {X Y : Type 0} (h : X → Option Y) (Q : Y → Type 0) (xs : List X) (y : Y) (more : List Y) → Each (λ x. (y : Y) → h x ≡ Some y → Q y) xs → filter_map h xs ≡ y ∷ more → Q y
heads_each h Q [] y more each e = absurd cc
heads_each {X = X} {Y = Y} h Q (x ∷ xs) y more each e = step (h x) refl e (heads_each h Q xs y more each.1)
  where
    first : Y → List Y → Y
    first d [] = d
    first d (z ∷ zs) = z

    step : (found : Option Y) → h x ≡ found → cons_option found (filter_map h xs) ≡ y ∷ more → (filter_map h xs ≡ y ∷ more → Q y) → Q y
    step None is e rest = rest e
    step (Some z) is e rest = subst Q (ap (first z) e) (each.0 z is)

pub refused_by_level : RefusedByLevel
refused_by_level core state turn refusal more stands is flushed fits e =
    let facts = turn_facts core state turn stands is in
    heads_each (level_refusal (lowest_level core)) (MayRefuse state core.capacity (request_of_parts turn.parts)) (plan core turn.parts) refusal more
    (subst (Each (λ planned. (refusal : Refusal) → level_refusal (lowest_level core) planned ≡ Some refusal → MayRefuse state core.capacity (request_of_parts turn.parts) refusal)) (plan_turn core (request_files core turn.parts))
    (plan_refused core state stands (request_of_parts turn.parts) 1 turn.parts (record core { turn = None }) state (begins_fitting core state turn stands is flushed fits) (there_each core turn.parts facts.1.families) (all_same turn.parts) refl refl
    (names_differ turn.parts facts.2.shape) (arguments_found turn.parts))) e
  where
    all_same : (some : List Part) → Each (λ part. value_at core.families part.family ≡ value_at core.families part.family) some
    all_same [] = tt
    all_same (part ∷ some) = (refl, all_same some)
