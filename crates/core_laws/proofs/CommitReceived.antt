-- The answer to a commit that isn't refused: charges, numbers, and the tests of the model that hold exactly.
use Rattle.std.proofs.Common.{◌≡◌, ℕ, ◌+◌, ◌-◌, ◌<◌, ◌≤◌, min, Bool, true, false, cond, not, List, [], ◌∷◌, ◌++◌, map, take, filter, flat_map, length, Option, Some, None, is_some, unwrap_or, refl, sym, ap, ap₂, subst, ◌∙◌, arith}
use Rattle.std.specs.Prelude.{◌^◌, fold, filter_map, find, nat_lt, nat_le, ◌==◌}
use Rattle.std.specs.Option.{option_map, option_or, option_and_then}
use Rattle.std.specs.List.{cons_option, AllByRecursion as Each}
use Rattle.std.proofs.lemmas.Bool.{cond-true, cond-false, ne_eqb, leb-false, ltb-false}
use Rattle.std.proofs.lemmas.List.Concat.{flat_map-append}
use Rattle.st_base.specs.Entries.{add_charge}
use Rattle.st_base.specs.Map.{value_at}
use Rattle.st_base.specs.declared.entry.Entry.{Entry}
use Rattle.st_model.specs.declared.refusal.Refusal.{Refusal}
use Rattle.st_model.specs.declared.refusal.Refusal.TheVariants.{BehindDoesNotFit, NumbersSpent, StoreFull, UnknownFamily}
use Rattle.st_model.specs.declared.refusal.Why.{Why}
use Rattle.st_model.specs.declared.command.FileSeen.TheVariants as seen
use Rattle.st_model.specs.declared.state.ModelFamily.{ModelFamily}
use Rattle.st_model.specs.declared.state.ModelState.{ModelState}
use Rattle.st_model.specs.Answer.{refused_if, unknown_families}
use Rattle.st_model.specs.Contents.{sorted_ranges}
use Rattle.st_model.specs.Placing.{ArePlaced, last_number_after}
use Rattle.st_base.specs.Range.{meet, file_charge}
use Rattle.st_model.specs.Refusals.{sure_cause, exact_refusals, refusals_or, inner_refusals, file_refusals, seen_refusals, meeting_refusals, behind_refusals, fit_refusals, fit_refusal as model_fit, ranges_in, is_full}
use Rattle.st_model.specs.Request.{File, Argument, entries_of_file as file_entries, files_from, all_files, asks_behind as is_behind_argument}
use Rattle.st_model.specs.State.{greatest_number, has_family}
use Rattle.base_laws.proofs.Ranges.{meet_swaps}
use Rattle.core_model.specs.Commit.{outline, comes_behind, RequestFile, request_files_of, request_files_after, request_files, planned_number, level_choice, plan_file, plan_by_rule, plan_behind, put_planned, plan_from, plan, behind_fit_refusal, number_refusal, level_refusal, is_numbered, plan_charge, placed_in_plan, placed_files, commit_refusals}
use Rattle.core_model.specs.Event.{request_of_parts, argument_of_part, arguments_after}
use Rattle.core_model.specs.Relation.{Represents}
use Rattle.core_model.specs.Picture.{FileEntries, FamilyView, Part, Turn, Core, level_at, table_range, lowest_level}
use Rattle.core_model.specs.Request.{IsStagedTable}
use Rattle.core_model.specs.Run.{IsReceived}
use Rattle.core_model.specs.RelationParts.{files_in_parts}
use Rattle.core_model.specs.Step.{IsFlushedFor}
use Rattle.core_laws.specs.Underway.{files_left}
use Rattle.core_laws.proofs.CommitBegins.{there_each, names_differ, flag_each, fit_of, fit_in, place_piece, all_pieces_tables, no_refusal, turn_facts, commit_begins}
use Rattle.core_laws.proofs.CommitEnds.{plan_turn}
use Rattle.core_laws.proofs.FileColumns.{each_append}
use Rattle.core_laws.proofs.FileLift.{kept_there}
use Rattle.core_laws.proofs.NoneLeft.{filter_map_none}
use Rattle.core_laws.proofs.PlacedPlan.{plan_placed, numbers_next, is_some_value}

-- ---- charges

fold_append : {X Y : Type 0} (f : Y → X → Y) (z : Y) (xs ys : List X) → fold f z (xs ++ ys) ≡ fold f (fold f z xs) ys
fold_append f z [] ys = refl
fold_append f z (x ∷ xs) ys = fold_append f (f z x) xs ys

add_twice : (s m more : ℕ) → min (min s m + more) m ≡ min (s + more) m
add_twice s m more = omega arith

add_end : (c s m : ℕ) → min (c + min s m) m ≡ min (c + s) m
add_end c s m = omega arith

-- a sum that stands still at the end
saturated : (s : ℕ) (tables : List FileEntries) → fold (λ charge (table : FileEntries). add_charge charge (file_charge table.entries)) (min s (2 ^ 64 - 1)) tables ≡ min (fold (λ charge (table : FileEntries). charge + file_charge table.entries) s tables) (2 ^ 64 - 1)
saturated s [] = refl
saturated s (table ∷ tables) =
    ap (λ z. fold (λ charge (table : FileEntries). add_charge charge (file_charge table.entries)) z tables) (add_twice s (2 ^ 64 - 1) (file_charge table.entries))
    ∙ saturated (s + file_charge table.entries) tables

plan_tables : {Y : Type 0} (f : Y → FileEntries → Y) (z : Y) (c : Core) (rest : List RequestFile) → fold (λ y planned. f y planned.wanted.table) z (plan_from c rest) ≡ fold f z (files_left rest)
plan_tables f z c [] = refl
plan_tables f z c (wanted ∷ rest) = plan_tables f (f z (plan_file c wanted).wanted.table) (put_planned c (plan_file c wanted)) rest ∙ ap (λ (one : RequestFile). fold f (f z one.table) (files_left rest)) (place_piece c wanted)

file_tables : {Y : Type 0} (f : Y → List Entry → Y) (z : Y) (a i : ℕ) (tables : List FileEntries) → fold (λ y file. f y (file_entries file)) z (files_from a i (map (λ (table : FileEntries). seen.Table table.entries) tables)) ≡ fold (λ y (table : FileEntries). f y table.entries) z tables
file_tables f z a i [] = refl
file_tables f z a i (table ∷ tables) = file_tables f (f z table.entries) a (i + 1) tables

request_tables : {Y : Type 0} (f : Y → List Entry → Y) (z : Y) (a : ℕ) (parts : List Part) → fold (λ y file. f y (file_entries file)) z (all_files (arguments_after a parts)) ≡ fold (λ y (table : FileEntries). f y table.entries) z (files_in_parts parts)
request_tables f z a [] = refl
request_tables f z a (part ∷ parts) =
    fold_append (λ y file. f y (file_entries file)) z (argument_of_part a part).files (all_files (arguments_after (a + 1) parts))
    ∙ ap (λ y. fold (λ y file. f y (file_entries file)) y (all_files (arguments_after (a + 1) parts))) (file_tables f z a 1 part.files)
    ∙ request_tables f (fold (λ y (table : FileEntries). f y table.entries) z part.files) (a + 1) parts
    ∙ sym (fold_append (λ y (table : FileEntries). f y table.entries) z part.files (files_in_parts parts))

-- what the plan charges is what the request charges
pub same_full : (core : Core) (state : ModelState) (parts : List Part) → core.charge ≡ state.charge → nat_lt core.capacity (add_charge core.charge (plan_charge (plan core parts))) ≡ is_full state core.capacity (request_of_parts parts)
same_full core state parts same = ap (nat_lt core.capacity)
    (ap (λ sum. min (core.charge + sum) (2 ^ 64 - 1))
    (plan_tables (λ charge table. add_charge charge (file_charge table.entries)) 0 core (request_files core parts)
    ∙ ap (fold (λ charge (table : FileEntries). add_charge charge (file_charge table.entries)) 0) (all_pieces_tables core 1 parts)
    ∙ saturated 0 (files_in_parts parts))
    ∙ add_end core.charge (fold (λ charge (table : FileEntries). charge + file_charge table.entries) 0 (files_in_parts parts)) (2 ^ 64 - 1)
    ∙ ap₂ (λ charge sum. min (charge + sum) (2 ^ 64 - 1)) same (sym (request_tables (λ charge entries. charge + file_charge entries) 0 1 parts)))

-- ---- numbers

why_counts : (c : Core) (wanted : RequestFile) → cond ((plan_file c wanted).number == 0) c.last (plan_file c wanted).number ≡ c.last + cond (is_some (plan_file c wanted).why) 1 0
why_counts c wanted = step (comes_behind wanted.part)
  where
    of_why : (why : Option Why) → cond (planned_number c.last why == 0) c.last (planned_number c.last why) ≡ c.last + cond (is_some why) 1 0
    of_why None = omega arith
    of_why (Some why) = cond-false ((c.last + 1) == 0) c.last (c.last + 1) (ne_eqb (c.last + 1) 0 (λ e. absurd (omega arith)))

    step : (b : Bool) → cond ((cond b (plan_behind wanted) (plan_by_rule c wanted)).number == 0) c.last (cond b (plan_behind wanted) (plan_by_rule c wanted)).number ≡ c.last + cond (is_some (cond b (plan_behind wanted) (plan_by_rule c wanted)).why) 1 0
    step true = omega arith
    step false = of_why (option_or wanted.sure (level_choice c wanted).cause)

count_more : {X : Type 0} (p : X → Bool) (x : X) (xs : List X) → length (filter p (x ∷ xs)) ≡ cond (p x) 1 0 + length (filter p xs)
count_more p x xs = step (p x)
  where
    step : (b : Bool) → length (cond b (x ∷ filter p xs) (filter p xs)) ≡ cond b 1 0 + length (filter p xs)
    step true = omega arith
    step false = omega arith

pub last_counts : (c : Core) (rest : List RequestFile) → (fold put_planned c (plan_from c rest)).last ≡ c.last + length (filter is_numbered (plan_from c rest))
last_counts c [] = omega arith
last_counts c (wanted ∷ rest) =
    let more = last_counts (put_planned c (plan_file c wanted)) rest in
    let here = why_counts c wanted in
    let count = count_more is_numbered (plan_file c wanted) (plan_from (put_planned c (plan_file c wanted)) rest) in
    more ∙ ap (λ n. n + length (filter is_numbered (plan_from (put_planned c (plan_file c wanted)) rest))) here
    ∙ sums c.last (cond (is_some (plan_file c wanted).why) 1 0) (length (filter is_numbered (plan_from (put_planned c (plan_file c wanted)) rest))) ∙ ap (λ n. c.last + n) (sym count)
  where
    sums : (x y z : ℕ) → x + y + z ≡ x + (y + z)
    sums x y z = omega arith

-- ---- refusal 15 is the model's

find_map : {X Y : Type 0} (f : X → Y) (p : Y → Bool) (q : X → Bool) (xs : List X) → ((x : X) → p (f x) ≡ q x) → find p (map f xs) ≡ option_map f (find q xs)
find_map f p q [] alike = refl
find_map f p q (x ∷ xs) alike = ap (λ b. cond b (Some (f x)) (find p (map f xs))) (alike x) ∙ step (q x) (find_map f p q xs alike)
  where
    step : (b : Bool) → find p (map f xs) ≡ option_map f (find q xs) → cond b (Some (f x)) (find p (map f xs)) ≡ option_map f (cond b (Some x) (find q xs))
    step true e = refl
    step false e = e

pub filter_map_append : {X Y : Type 0} (h : X → Option Y) (xs ys : List X) → filter_map h (xs ++ ys) ≡ filter_map h xs ++ filter_map h ys
filter_map_append h [] ys = refl
filter_map_append {Y = Y} h (x ∷ xs) ys = ap (cons_option (h x)) (filter_map_append h xs ys) ∙ step (h x)
  where
    step : (found : Option Y) → cons_option found (filter_map h xs ++ filter_map h ys) ≡ cons_option found (filter_map h xs) ++ filter_map h ys
    step None = refl
    step (Some y) = refl

plan_filter : {Y : Type 0} (h : RequestFile → Option Y) (c : Core) (rest : List RequestFile) → filter_map (λ planned. h planned.wanted) (plan_from c rest) ≡ filter_map h rest
plan_filter h c [] = refl
plan_filter h c (wanted ∷ rest) = ap₂ (λ one more. cons_option (h one) more) (place_piece c wanted) (plan_filter h (put_planned c (plan_file c wanted)) rest)

five_none : (b c d e f : List Refusal) → b ≡ [] → c ≡ [] → d ≡ [] → e ≡ [] → b ++ c ++ d ++ e ++ f ≡ f
five_none b c d e f is_b is_c is_d is_e =
    ap (λ x. x ++ c ++ d ++ e ++ f) is_b ∙ ap (λ x. x ++ d ++ e ++ f) is_c ∙ ap (λ x. x ++ e ++ f) is_d ∙ ap (λ x. x ++ f) is_e

module _ (core : Core) (state : ModelState) (stands : Represents core state) where
  -- the model's ranges are those of level 6
  level_ranges : (part : Part) (family : FamilyView) → value_at core.families part.family ≡ Some family → core.behind ≡ true → ranges_in state part.family ≡ map table_range (level_at family 6)
  level_ranges part family here flag =
      let kept = kept_there core.families state.families part.family family stands.same.families here in
      ap (λ found. unwrap_or (option_map (λ (one : ModelFamily). sorted_ranges one.ranges) found) []) kept.1 ∙ sym (stands.ranges flag part.family family kept.0 here kept.1)

  piece_fit : (sure : Option Why) (part : Part) (a i : ℕ) (table : FileEntries) → is_some (value_at core.families part.family) ≡ true → core.behind ≡ true → comes_behind part ≡ true
      → model_fit state part.family (record { at = record { arg = a; file = i }; seen = seen.Table table.entries }) ≡ fit_of core (record { at = record { arg = a; file = i }; part = part; table = table; sure = sure })
  piece_fit sure part a i table there flag behind =
      let found = is_some_value (value_at core.families part.family) there in
      let wanted : RequestFile = record { at = record { arg = a; file = i }; part = part; table = table; sure = sure } in
      ap (λ ranges. option_map (λ range. BehindDoesNotFit (record { arg = a; file = i }) range) (find (meet (table_range table)) ranges)) (level_ranges part found.0 found.1 flag)
      ∙ ap (option_map (λ range. BehindDoesNotFit (record { arg = a; file = i }) range)) (find_map table_range (meet (table_range table)) (λ (one : FileEntries). meet (table_range one) (table_range table)) (level_at found.0 6) (λ one. meet_swaps (table_range table) (table_range one)))
      ∙ map_twice (find (λ (one : FileEntries). meet (table_range one) (table_range table)) (level_at found.0 6))
      ∙ sym (cond-true (comes_behind part) (option_and_then (fit_in wanted) (value_at core.families part.family)) None behind ∙ ap (option_and_then (fit_in wanted)) found.1)
    where
      map_twice : (found : Option FileEntries) → option_map (λ range. BehindDoesNotFit (record { arg = a; file = i }) range) (option_map table_range found) ≡ option_map (λ (one : FileEntries). BehindDoesNotFit (record { arg = a; file = i }) (table_range one)) found
      map_twice None = refl
      map_twice (Some one) = refl

  part_fit : (sure : Option Why) (part : Part) (a i : ℕ) (tables : List FileEntries) → is_some (value_at core.families part.family) ≡ true → core.behind ≡ true → comes_behind part ≡ true
      → filter_map (model_fit state part.family) (files_from a i (map (λ (table : FileEntries). seen.Table table.entries) tables)) ≡ filter_map (fit_of core) (request_files_of sure part a i tables)
  part_fit sure part a i [] there flag behind = refl
  part_fit sure part a i (table ∷ tables) there flag behind = ap₂ cons_option (piece_fit sure part a i table there flag behind) (part_fit sure part a (i + 1) tables there flag behind)

  no_fit : (sure : Option Why) (part : Part) (a i : ℕ) (tables : List FileEntries) → comes_behind part ≡ false → filter_map (fit_of core) (request_files_of sure part a i tables) ≡ []
  no_fit sure part a i [] not_behind = refl
  no_fit sure part a i (table ∷ tables) not_behind =
      ap₂ cons_option (cond-false (comes_behind part) (option_and_then (fit_in (record { at = record { arg = a; file = i }; part = part; table = table; sure = sure })) (value_at core.families part.family)) None not_behind)
      (no_fit sure part a (i + 1) tables not_behind)

  fits_same : (a : ℕ) (parts : List Part) → Each (λ part. is_some (value_at core.families part.family) ≡ true) parts → Each (λ part. comes_behind part ≡ true → core.behind ≡ true) parts
      → flat_map (λ argument. filter_map (model_fit state argument.family) argument.files) (filter is_behind_argument (arguments_after a parts)) ≡ filter_map (fit_of core) (request_files_after core a parts)
  fits_same a [] there flag = refl
  fits_same a (part ∷ parts) there flag =
      step (comes_behind part) refl (fits_same (a + 1) parts there.1 flag.1)
      ∙ sym (filter_map_append (fit_of core) (request_files_of (sure_cause (outline core) (argument_of_part a part)) part a 1 part.files) (request_files_after core (a + 1) parts))
    where
      step : (b : Bool) → comes_behind part ≡ b → flat_map (λ argument. filter_map (model_fit state argument.family) argument.files) (filter is_behind_argument (arguments_after (a + 1) parts)) ≡ filter_map (fit_of core) (request_files_after core (a + 1) parts)
          → flat_map (λ argument. filter_map (model_fit state argument.family) argument.files) (cond b (argument_of_part a part ∷ filter is_behind_argument (arguments_after (a + 1) parts)) (filter is_behind_argument (arguments_after (a + 1) parts)))
          ≡ filter_map (fit_of core) (request_files_of (sure_cause (outline core) (argument_of_part a part)) part a 1 part.files) ++ filter_map (fit_of core) (request_files_after core (a + 1) parts)
      step true behind rest = ap₂ (λ one more. one ++ more) (part_fit (sure_cause (outline core) (argument_of_part a part)) part a 1 part.files there.0 (flag.0 behind) behind) rest
      step false not_behind rest = rest ∙ ap (λ one. one ++ filter_map (fit_of core) (request_files_after core (a + 1) parts)) (sym (no_fit (sure_cause (outline core) (argument_of_part a part)) part a 1 part.files not_behind))

  -- ---- the other tests hold of a turn that was taken

  no_file : (a i : ℕ) (tables : List FileEntries) → Each IsStagedTable tables → flat_map (λ (file : File). seen_refusals file.at file.seen) (files_from a i (map (λ (table : FileEntries). seen.Table table.entries) tables)) ≡ []
  no_file a i [] staged = refl
  no_file a i (table ∷ tables) staged = ap₂ (λ one more. one ++ more) (some table.entries staged.0.some) (no_file a (i + 1) tables staged.1)
    where
      some : (entries : List Entry) → 1 ≤ length entries → seen_refusals (record { arg = a; file = i }) (seen.Table entries) ≡ []
      some [] lt = absurd (omega arith)
      some (x ∷ xs) lt = refl

  no_files : (a : ℕ) (parts : List Part) → Each IsStagedTable (files_in_parts parts) → file_refusals (arguments_after a parts) ≡ []
  no_files a [] staged = refl
  no_files a (part ∷ parts) staged =
      let split = each_append IsStagedTable part.files (files_in_parts parts) staged in
      flat_map-append (λ (file : File). seen_refusals file.at file.seen) (argument_of_part a part).files (all_files (arguments_after (a + 1) parts))
      ∙ ap₂ (λ one more. one ++ more) (no_file a 1 part.files split.0) (no_files (a + 1) parts split.1)

  no_unknown : (a : ℕ) (parts : List Part) → Each (λ part. is_some (value_at core.families part.family) ≡ true) parts → unknown_families state (map (λ (argument : Argument). argument.family) (arguments_after a parts)) ≡ []
  no_unknown a [] there = refl
  no_unknown a (part ∷ parts) there =
      let found = is_some_value (value_at core.families part.family) there.0 in
      let kept = kept_there core.families state.families part.family found.0 stands.same.families found.1 in
      ap (λ b. map UnknownFamily (cond (not b) (part.family ∷ filter (λ name. not (has_family state name)) (map (λ (argument : Argument). argument.family) (arguments_after (a + 1) parts))) (filter (λ name. not (has_family state name)) (map (λ (argument : Argument). argument.family) (arguments_after (a + 1) parts))))) (ap is_some kept.1)
      ∙ no_unknown (a + 1) parts there.1

  same_behind : (request : List Argument) → behind_refusals (outline core) request ≡ behind_refusals state request
  same_behind request =
      ap (λ behind. behind_refusals (record (outline core) { behind = behind }) request) stands.same.behind
      ∙ ap₂ (λ live last. behind_refusals (record (outline core) { behind = state.behind; live = live; last = last }) request) stands.same.live stands.same.last

  -- the model's refusals that hold exactly are the first of refusal 15
  pub exact_is : (turn : Turn) → core.turn ≡ Some turn → exact_refusals state (request_of_parts turn.parts) ≡ take 1 (filter_map (behind_fit_refusal core) (plan core turn.parts))
  exact_is turn is =
      let facts = turn_facts core state turn stands is in
      let there = there_each core turn.parts facts.1.families in
      ap (λ shape. refusals_or shape (inner_refusals state (request_of_parts turn.parts))) facts.2.shape
      ∙ five_none (file_refusals (request_of_parts turn.parts)) (meeting_refusals (request_of_parts turn.parts)) (take 1 (unknown_families state (map (λ (argument : Argument). argument.family) (request_of_parts turn.parts))))
      (behind_refusals state (request_of_parts turn.parts)) (fit_refusals state (request_of_parts turn.parts))
      (no_files 1 turn.parts facts.2.staged) facts.2.meeting (ap (take 1) (no_unknown 1 turn.parts there)) (sym (same_behind (request_of_parts turn.parts)) ∙ facts.1.behind)
      ∙ ap (take 1) (fits_same 1 turn.parts there (flag_each core turn.parts facts.1.behind) ∙ sym (plan_filter (fit_of core) core (request_files core turn.parts)))

  -- ---- the answer of a commit

  pub received : (turn : Turn) → core.turn ≡ Some turn → IsFlushedFor core turn.parts → commit_refusals core turn.parts ≡ []
      → IsReceived state core.capacity turn.parts (core.place + 1) (placed_files (plan core turn.parts))
  received turn is flushed none =
      let parts = no_refusal core turn.parts none in
      let facts = turn_facts core state turn stands is in
      let there = there_each core turn.parts facts.1.families in
      record {
        unrefused = exact_is turn is ∙ ap (take 1) parts.fits;
        fits = sym (same_full core state turn.parts stands.same.charge) ∙ not_refused (nat_lt core.capacity (add_charge core.charge (plan_charge (plan core turn.parts)))) StoreFull parts.full;
        next = ap (λ plan_file. plan_file + 1) stands.same.place;
        places = subst (λ plan_file. plan_file < greatest_number) stands.same.place (leb-false greatest_number core.place (not_refused (nat_le greatest_number core.place) NumbersSpent parts.places));
        numbers = subst (λ last. last_number_after last (placed_files (plan core turn.parts)) ≤ greatest_number) stands.same.last
            (subst (λ last. last ≤ greatest_number) (sym ((numbers_next core (request_files core turn.parts)).1 ∙ last_counts core (request_files core turn.parts)))
            (ltb-false greatest_number (core.last + length (filter is_numbered (plan core turn.parts))) (not_refused (nat_lt greatest_number (core.last + length (filter is_numbered (plan core turn.parts)))) NumbersSpent parts.spent)));
        placed = subst (λ last. ArePlaced state last (request_of_parts turn.parts) (placed_files (plan core turn.parts))) stands.same.last
            (subst (λ planned. ArePlaced state core.last (request_of_parts turn.parts) (map placed_in_plan planned)) (plan_turn core (request_files core turn.parts))
            (plan_placed core state stands 1 turn.parts (record core { turn = None }) state (commit_begins core state turn stands is flushed none) there (all_same turn.parts) refl refl (names_differ turn.parts facts.2.shape)
            (subst (Each (λ planned. number_refusal planned ≡ None)) (sym (plan_turn core (request_files core turn.parts))) (filter_map_none number_refusal (plan core turn.parts) parts.numbers))
            (subst (Each (λ planned. level_refusal (lowest_level core) planned ≡ None)) (sym (plan_turn core (request_files core turn.parts))) (filter_map_none (level_refusal (lowest_level core)) (plan core turn.parts) parts.levels))));
      }
    where
      not_refused : (b : Bool) (refusal : Refusal) → refused_if b refusal ≡ [] → b ≡ false
      not_refused true refusal e = absurd cc
      not_refused false refusal e = refl

      all_same : (some : List Part) → Each (λ part. value_at core.families part.family ≡ value_at core.families part.family) some
      all_same [] = tt
      all_same (part ∷ some) = (refl, all_same some)
