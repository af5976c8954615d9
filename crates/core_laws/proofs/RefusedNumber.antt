-- Refusal 16 names what holds of the argument, or a key or an output that the model knows.
use Rattle.std.proofs.Common.{◌≡◌, ℕ, suc, ◌+◌, ◌≤◌, Bool, true, false, cond, not, ◌&&◌, ◌||◌, List, [], ◌∷◌, ◌++◌, map, take, filter, length, Option, Some, None, is_some, unwrap_or, refl, sym, ap, ap₂, subst, ◌∙◌, inl, inr, ◌⊎◌, arith}
use Rattle.std.specs.Prelude.{fold, IsSomeAnd, nat_le, filter_map}
use Rattle.std.specs.Option.{option_map, option_or}
use Rattle.std.specs.List.{cons_option, AllByRecursion as Each}
use Rattle.std.proofs.lemmas.Bool.{false≢true, cond-true, cond-false, leb-false}
use Rattle.st_base.specs.Map.{value_at}
use Rattle.st_model.specs.declared.refusal.FileAt.{FileAt}
use Rattle.st_model.specs.declared.refusal.Refusal.{Refusal}
use Rattle.st_model.specs.declared.refusal.Refusal.TheVariants.{NeedsSequence, NoFiles, EmptyRequest, FamilyTwice, TooManyFiles}
use Rattle.st_model.specs.declared.refusal.Why.{Why}
use Rattle.st_model.specs.declared.refusal.Why.TheVariants.{Key, Running, Meets, Files, Snapshot}
use Rattle.st_model.specs.declared.command.FileSeen.TheVariants as seen
use Rattle.st_model.specs.declared.state.ModelFamily.{ModelFamily}
use Rattle.st_model.specs.declared.state.ModelState.{ModelState}
use Rattle.st_model.specs.Answer.{refused_if}
use Rattle.st_model.specs.Apply.{apply_file}
use Rattle.st_model.specs.Early.{is_empty}
use Rattle.st_model.specs.Refusals.{MayRefuse, sure_cause, lowest_live, refused_cause, first_refused, known_in, may_need_number, named_file, names_known, is_in, shape_refusals, has_no_files, has_too_many, repeated}
use Rattle.st_model.specs.Request.{Argument, files_from, argument_of, file_of_argument, meeting}
use Rattle.st_base.specs.Range.{is_in_range}
use Rattle.st_model.specs.State.{family_of}
use Rattle.base_laws.proofs.Lists.{append_none}
use Rattle.core_model.specs.Commit.{outline, comes_behind, RequestFile, request_files, request_files_of, request_files_after, family_at, level_choice, plan_file, plan_by_rule, plan_behind, put_planned, plan_from, number_refusal, taken_in_plan}
use Rattle.core_model.specs.Event.{argument_of_part, arguments_after, request_of_parts}
use Rattle.core_model.specs.Relation.{Represents}
use Rattle.core_model.specs.Level.{level_rule}
use Rattle.core_model.specs.Picture.{FileEntries, FamilyView, Part, Core, lowest_level, table_range, running_of, new_view}
use Rattle.core_laws.specs.Underway.{IsUnderway, RefusedByNumber, UnnumberedHasNoCause}
use Rattle.core_laws.proofs.CommitBegins.{there_each, names_differ, begins_fitting, turn_facts, of_parts}
use Rattle.core_laws.proofs.CommitEnds.{plan_turn}
use Rattle.core_laws.proofs.FileJobs.{each_with}
use Rattle.core_laws.proofs.FileLift.{kept_there, some_is}
use Rattle.core_laws.proofs.FileStep.{file_keeps_underway}
use Rattle.core_laws.proofs.NoneLeft.{map_none, take_none, filter_none}
use Rattle.core_laws.proofs.PlacedFile.{same_sure, IsKnownOrOut, IsNextFile}
use Rattle.core_laws.proofs.PlacedPlan.{IsSoFar, further, next_file, place_is, starts, plan_append, front_keeps, other_stays, jobs_stay, flag_stays, is_some_value}
use Rattle.core_laws.proofs.CommitReceived.{filter_map_append}
use Rattle.core_laws.proofs.CommitEvent.{head_append}
use Rattle.core_laws.proofs.CauseNames.{known_is_in, named_cause, IsCause}
use Rattle.core_laws.proofs.RefusedLevel.{arguments_found, files_found, named_is, heads_each}
use Rattle.st_order.specs.Columns.{Pairwise}

three_true : (a b c : Bool) → a ≡ true → b ≡ true → c ≡ true → (a && b && c) ≡ true
three_true true true true is_a is_b is_c = refl
three_true true true false is_a is_b is_c = is_c
three_true true false c is_a is_b is_c = absurd (false≢true is_b)
three_true false b c is_a is_b is_c = absurd (false≢true is_a)

-- what holds of an argument is a meeting or a snapshot
abbrev IsSure : Why → Type 0
IsSure (Key key) = ⊥
IsSure (Running range) = ⊥
IsSure (Meets range) = ⊥
IsSure (Snapshot number) = Unit {0}
IsSure (Files i j) = Unit {0}

sure_is : (state : ModelState) (argument : Argument) (why : Why) → sure_cause state argument ≡ Some why → IsSure why
sure_is state argument why e = step (meeting argument) (is_empty state.live || not argument.options.snapshot_consistency) e
  where
    step : (met : Option (ℕ × ℕ)) (b : Bool) → option_or (option_map (λ (pair : ℕ × ℕ). Files pair.0 pair.1) met) (cond b None (Some (Snapshot (lowest_live state)))) ≡ Some why → IsSure why
    step (Some pair) b e = subst IsSure (some_is (Files pair.0 pair.1) why e) tt
    step None true e = absurd cc
    step None false e = subst IsSure (some_is (Snapshot (lowest_live state)) why e) tt

module _ (core : Core) (state : ModelState) (stands : Represents core state) (request : List Argument) where
  -- a file of an argument of which nothing holds
  abbrev Named : ℕ → Refusal → Type 0
  Named a refusal = (at : FileAt) × (why : Why) × (refusal ≡ NeedsSequence at why) × (at.arg ≡ a) × IsSomeAnd (named_file request at) (λ named. may_need_number state why named ≡ true) × IsCause why

  module _ (part : Part) (family : FamilyView) (kept : ModelFamily) (here : value_at core.families part.family ≡ Some family) (there : family_of state part.family ≡ Some kept) (a : ℕ) (not_behind : comes_behind part ≡ false)
      (found : argument_of request a ≡ Some (argument_of_part a part)) (not_sure : sure_cause (outline core) (argument_of_part a part) ≡ None) (not_allowed : part.options.allow_global_seqno ≡ false) where
    abbrev piece_at : ℕ → FileEntries → RequestFile
    piece_at i table = record { at = record { arg = a; file = i }; part = part; table = table; sure = sure_cause (outline core) (argument_of_part a part) }

    named_file_of : (c : Core) (now : FamilyView) (i : ℕ) (table : FileEntries) → IsNextFile core state stands part family kept here there a c now table → file_of_argument (argument_of_part a part) i ≡ Some (record { at = record { arg = a; file = i }; seen = seen.Table table.entries })
        → (refusal : Refusal) → number_refusal (plan_by_rule c (piece_at i table)) ≡ Some refusal → Named a refusal
    named_file_of c now i table next held refusal e = by_why (level_choice c (piece_at i table)).cause refl
        (sym (ap₂ (λ b one. cond b None (option_map (λ why. NeedsSequence (record { arg = a; file = i }) why) (option_or one (level_choice c (piece_at i table)).cause))) not_allowed not_sure) ∙ e)
      where
        now_is : family_at c part.family ≡ now
        now_is = ap (λ one. unwrap_or one (new_view 0)) next.view

        is_named : (key : List ℕ) → is_in_range (table_range table) key ≡ true → IsKnownOrOut kept table key → is_in kept.known key ≡ true
        is_named key within (inl known) = known_is_in kept.known key known
        is_named key within (inr out) = absurd (false≢true (sym out ∙ within))

        by_why : (one : Option Why) → (level_choice c (piece_at i table)).cause ≡ one → option_map (λ why. NeedsSequence (record { arg = a; file = i }) why) one ≡ Some refusal → Named a refusal
        by_why None is e = absurd cc
        by_why (Some why) is e =
            let names = named_cause core state stands part family kept here there a c now table (record { arg = a; file = i }) (lowest_level c) next.running kept.known (known_is_in kept.known) (IsKnownOrOut kept table) why is_named (next.known not_sure)
            (sym (ap (λ (one : FamilyView). (level_rule one.levels (running_of c one) (table_range table) (lowest_level c)).cause) now_is) ∙ is) in (
              record { arg = a; file = i },
              why,
              sym (some_is (NeedsSequence (record { arg = a; file = i }) why) refusal e),
              refl,
              subst (λ named. IsSomeAnd named (λ one. may_need_number state why one ≡ true)) (sym (named_is core state stands request part family kept here there a not_behind found i table held))
                  (three_true (not (comes_behind part)) (not part.options.allow_global_seqno) (names_known (known_in state part.family) why (record { at = record { arg = a; file = i }; seen = seen.Table table.entries }))
                  (ap not not_behind) (ap not not_allowed)
                  (subst (λ known. names_known known why (record { at = record { arg = a; file = i }; seen = seen.Table table.entries }) ≡ true) (sym (ap (λ one. unwrap_or (option_map (λ (family : ModelFamily). family.known) one) []) there)) names.0)),
              names.1,
            )

    part_named : (i : ℕ) (tables : List FileEntries) (later : List RequestFile) (c : Core) (s : ModelState) → IsUnderway c s (request_files_of (sure_cause (outline core) (argument_of_part a part)) part a i tables ++ later) → IsSoFar core state stands part family kept here there a not_behind c tables
        → Each (λ file. file_of_argument (argument_of_part a part) file.at.file ≡ Some file) (files_from a i (map (λ (table : FileEntries). seen.Table table.entries) tables))
        → Each (λ planned. (refusal : Refusal) → number_refusal planned ≡ Some refusal → Named a refusal) (plan_from c (request_files_of (sure_cause (outline core) (argument_of_part a part)) part a i tables))
    part_named i [] later c s under so_far held = tt
    part_named i (table ∷ tables) later c s under so_far held =
        let rest = request_files_of (sure_cause (outline core) (argument_of_part a part)) part a (i + 1) tables in
        let next = next_file core state stands part family kept here there a not_behind c s i table tables (rest ++ later) under so_far in
        let is = place_is core state stands part family kept here there a not_behind c i table in
        subst (λ planned. Each (λ one. (refusal : Refusal) → number_refusal one ≡ Some refusal → Named a refusal) (planned ∷ plan_from (put_planned c planned) rest)) (sym is) (
          named_file_of c so_far.now i table next held.0,
          part_named (i + 1) tables later (put_planned c (plan_by_rule c (piece_at i table))) (apply_file s (taken_in_plan (plan_by_rule c (piece_at i table))))
              (subst (λ planned. IsUnderway (put_planned c planned) (apply_file s (taken_in_plan planned)) (rest ++ later)) is (file_keeps_underway c s (piece_at i table) (rest ++ later) under))
              (further core state stands part family kept here there a not_behind c i table tables next.staged so_far) held.1,
        )

  -- ---- the first of a part

  -- of a part that is behind, or that may number its files, none is refused
  number_of : (b allow : Bool) (wanted : RequestFile) (c : Core) → comes_behind wanted.part ≡ b → wanted.part.options.allow_global_seqno ≡ allow → (b ≡ true) ⊎ (allow ≡ true) → number_refusal (plan_file c wanted) ≡ None
  number_of b allow wanted c is_b is_allow either = of_test (comes_behind wanted.part) refl either
    where
      of_test : (t : Bool) → comes_behind wanted.part ≡ t → (b ≡ true) ⊎ (allow ≡ true) → number_refusal (cond t (plan_behind wanted) (plan_by_rule c wanted)) ≡ None
      of_test true is e = nothing wanted.part.options.allow_global_seqno
        where
          nothing : (x : Bool) → cond x None (option_map (λ why. NeedsSequence wanted.at why) None) ≡ None
          nothing true = refl
          nothing false = refl
      of_test false is (inl e) = absurd (false≢true (sym is ∙ is_b ∙ e))
      of_test false is (inr e) = cond-true wanted.part.options.allow_global_seqno None (option_map (λ why. NeedsSequence wanted.at why) (plan_by_rule c wanted).why) (is_allow ∙ e)

  none_refused : (sure : Option Why) (part : Part) (a i : ℕ) (tables : List FileEntries) (c : Core) → (comes_behind part ≡ true) ⊎ (part.options.allow_global_seqno ≡ true) → filter_map number_refusal (plan_from c (request_files_of sure part a i tables)) ≡ []
  none_refused sure part a i [] c either = refl
  none_refused sure part a i (table ∷ tables) c either =
      let wanted : RequestFile = record { at = record { arg = a; file = i }; part = part; table = table; sure = sure } in
      ap₂ cons_option (number_of (comes_behind part) part.options.allow_global_seqno wanted c refl refl either) (none_refused sure part a (i + 1) tables (put_planned c (plan_file c wanted)) either)

  -- what holds of the argument refuses its first file
  sure_refused : (why : Why) (part : Part) (a i : ℕ) (table : FileEntries) (tables : List FileEntries) (c : Core) → comes_behind part ≡ false → part.options.allow_global_seqno ≡ false
      → (rest : List Refusal) × (filter_map number_refusal (plan_from c (request_files_of (Some why) part a i (table ∷ tables))) ≡ NeedsSequence (record { arg = a; file = i }) why ∷ rest)
  sure_refused why part a i table tables c not_behind not_allowed =
      let wanted : RequestFile = record { at = record { arg = a; file = i }; part = part; table = table; sure = Some why } in (
        filter_map number_refusal (plan_from (put_planned c (plan_file c wanted)) (request_files_of (Some why) part a (i + 1) tables)),
        ap (λ found. cons_option found (filter_map number_refusal (plan_from (put_planned c (plan_file c wanted)) (request_files_of (Some why) part a (i + 1) tables))))
            (ap number_refusal (cond-false (comes_behind part) (plan_behind wanted) (plan_by_rule c wanted) not_behind) ∙ cond-false part.options.allow_global_seqno None (Some (NeedsSequence (record { arg = a; file = i }) why)) not_allowed),
      )

  abbrev Claim : ℕ → List Part → Refusal → Type 0
  Claim a parts refusal =
      ((at : FileAt) × (why : Why) × (refusal ≡ NeedsSequence at why) × (first_refused state (arguments_after a parts) ≡ Some (at, why)) × IsSure why)
      ⊎ ((k : ℕ) × (first_refused state (take (suc k) (arguments_after a parts)) ≡ None) × Named (a + k) refusal)

  refused_of : (a : ℕ) (part : Part) (one : Option Why) → sure_cause (outline core) (argument_of_part a part) ≡ one → comes_behind part ≡ false → part.options.allow_global_seqno ≡ false
      → refused_cause state (argument_of_part a part) ≡ option_map (λ why. (record { arg = a; file = 1 }, why)) one
  refused_of a part one is not_behind not_allowed =
      ap₂ (λ b c. cond (b || c) None (option_map (λ why. (record { arg = a; file = 1 }, why)) (sure_cause state (argument_of_part a part)))) not_behind not_allowed
      ∙ ap (option_map (λ why. (record { arg = a; file = 1 }, why))) (sym (same_sure core state (argument_of_part a part) stands.same.live stands.same.last) ∙ is)

  none_of : (a : ℕ) (part : Part) → (comes_behind part ≡ true) ⊎ (part.options.allow_global_seqno ≡ true) → refused_cause state (argument_of_part a part) ≡ None
  none_of a part either = step (comes_behind part) part.options.allow_global_seqno refl refl either
    where
      step : (b c : Bool) → comes_behind part ≡ b → part.options.allow_global_seqno ≡ c → (comes_behind part ≡ true) ⊎ (part.options.allow_global_seqno ≡ true) → cond {A = Option (FileAt × Why)} (b || c) None (option_map (λ why. (record { arg = a; file = 1 }, why)) (sure_cause state (argument_of_part a part))) ≡ None
      step true c is_b is_c e = refl
      step false true is_b is_c e = refl
      step false false is_b is_c (inl e) = absurd (false≢true (sym is_b ∙ e))
      step false false is_b is_c (inr e) = absurd (false≢true (sym is_c ∙ e))

  -- where no file of a part is refused, the part has no cause that refuses it
  part_passes : (a : ℕ) (part : Part) (c : Core) → 1 ≤ length part.files → filter_map number_refusal (plan_from c (request_files_of (sure_cause (outline core) (argument_of_part a part)) part a 1 part.files)) ≡ []
      → refused_cause state (argument_of_part a part) ≡ None
  part_passes a part c some none = by (comes_behind part) part.options.allow_global_seqno refl refl (sure_cause (outline core) (argument_of_part a part)) refl
    where
      refused_first : (why : Why) → sure_cause (outline core) (argument_of_part a part) ≡ Some why → comes_behind part ≡ false → part.options.allow_global_seqno ≡ false → (tables : List FileEntries) → 1 ≤ length tables
          → (rest : List Refusal) × (filter_map number_refusal (plan_from c (request_files_of (sure_cause (outline core) (argument_of_part a part)) part a 1 tables)) ≡ NeedsSequence (record { arg = a; file = 1 }) why ∷ rest)
      refused_first why is not_behind not_allowed [] some = absurd (omega arith)
      refused_first why is not_behind not_allowed (table ∷ tables) some =
          subst (λ one. (rest : List Refusal) × (filter_map number_refusal (plan_from c (request_files_of one part a 1 (table ∷ tables))) ≡ NeedsSequence (record { arg = a; file = 1 }) why ∷ rest)) (sym is)
          (sure_refused why part a 1 table tables c not_behind not_allowed)

      by : (b allow : Bool) → comes_behind part ≡ b → part.options.allow_global_seqno ≡ allow → (one : Option Why) → sure_cause (outline core) (argument_of_part a part) ≡ one → refused_cause state (argument_of_part a part) ≡ None
      by true allow is_b is_allow one is = none_of a part (inl is_b)
      by false true is_b is_allow one is = none_of a part (inr is_allow)
      by false false is_b is_allow None is = refused_of a part None is is_b is_allow
      by false false is_b is_allow (Some why) is = absurd (let at_first = refused_first why is is_b is_allow part.files some in let w : [] ≡ NeedsSequence (record { arg = a; file = 1 }) why ∷ at_first.0 = sym none ∙ at_first.1 in cc)

  abbrev first_of : Refusal → List Refusal → Refusal
  first_of d [] = d
  first_of d (refusal ∷ refusals) = refusal

  plan_number : (a : ℕ) (parts : List Part) (c : Core) (s : ModelState) → IsUnderway c s (request_files_after core a parts)
      → Each (λ part. is_some (value_at core.families part.family) ≡ true) parts → Each (λ part. value_at c.families part.family ≡ value_at core.families part.family) parts → c.jobs ≡ core.jobs → c.behind ≡ core.behind
      → Pairwise (λ one other. one.family ≡ other.family → ⊥) parts → Each (λ argument. argument_of request argument.number ≡ Some argument) (arguments_after a parts) → Each (λ part. 1 ≤ length part.files) parts
      → (refusal : Refusal) (more : List Refusal) → filter_map number_refusal (plan_from c (request_files_after core a parts)) ≡ refusal ∷ more → Claim a parts refusal
  plan_number a [] c s under there views jobs flag differ found filled refusal more e = absurd cc
  plan_number a (part ∷ parts) c s under there views jobs flag differ found filled refusal more e =
      choose (head_append (filter_map number_refusal (plan_from c first)) (filter_map number_refusal (plan_from after later)) refusal more
      (sym (ap (filter_map number_refusal) (plan_append c first later) ∙ filter_map_append number_refusal (plan_from c first) (plan_from after later)) ∙ e))
      (plan_number (a + 1) parts after (fold apply_file s (map taken_in_plan (plan_from c first))) (front_keeps c s first later under) there.1
      (each_with (λ next. value_at c.families next.family ≡ value_at core.families next.family) (λ next. part.family ≡ next.family → ⊥) (λ next. value_at after.families next.family ≡ value_at core.families next.family) parts
      (λ next was apart. other_stays (sure_cause (outline core) (argument_of_part a part)) part a next.family apart 1 part.files c ∙ was) views.1 differ.0)
      (jobs_stay c first ∙ jobs) (flag_stays c first ∙ flag) differ.1 found.1 filled.1 refusal more)
    where
      first : List RequestFile
      first = request_files_of (sure_cause (outline core) (argument_of_part a part)) part a 1 part.files

      later : List RequestFile
      later = request_files_after core (a + 1) parts

      after : Core
      after = fold put_planned c (plan_from c first)

      view : (family : FamilyView) × (value_at core.families part.family ≡ Some family)
      view = is_some_value (value_at core.families part.family) there.0

      kept : (one : ModelFamily) × (value_at state.families part.family ≡ Some one)
      kept = kept_there core.families state.families part.family view.0 stands.same.families view.1

      -- the first file of the part, where something holds of the argument
      first_file : (why : Why) → sure_cause (outline core) (argument_of_part a part) ≡ Some why → comes_behind part ≡ false → part.options.allow_global_seqno ≡ false → (tables : List FileEntries) → 1 ≤ length tables
          → (rest : List Refusal) × (filter_map number_refusal (plan_from c (request_files_of (sure_cause (outline core) (argument_of_part a part)) part a 1 tables)) ≡ NeedsSequence (record { arg = a; file = 1 }) why ∷ rest)
      first_file why is not_behind not_allowed [] some = absurd (omega arith)
      first_file why is not_behind not_allowed (table ∷ tables) some =
          subst (λ one. (rest : List Refusal) × (filter_map number_refusal (plan_from c (request_files_of one part a 1 (table ∷ tables))) ≡ NeedsSequence (record { arg = a; file = 1 }) why ∷ rest)) (sym is)
          (sure_refused why part a 1 table tables c not_behind not_allowed)

      in_part : (rest : List Refusal) → filter_map number_refusal (plan_from c first) ≡ refusal ∷ rest → (b allow : Bool) → comes_behind part ≡ b → part.options.allow_global_seqno ≡ allow → (one : Option Why) → sure_cause (outline core) (argument_of_part a part) ≡ one → Claim a (part ∷ parts) refusal
      in_part rest e true allow is_b is_allow one is = absurd (let w : [] ≡ refusal ∷ rest = sym (none_refused (sure_cause (outline core) (argument_of_part a part)) part a 1 part.files c (inl is_b)) ∙ e in cc)
      in_part rest e false true is_b is_allow one is = absurd (let w : [] ≡ refusal ∷ rest = sym (none_refused (sure_cause (outline core) (argument_of_part a part)) part a 1 part.files c (inr is_allow)) ∙ e in cc)
      in_part rest e false false is_b is_allow (Some why) is =
          let at_first = first_file why is is_b is_allow part.files filled.0 in
          inl (
            record { arg = a; file = 1 },
            why,
            ap (first_of refusal) (sym e ∙ at_first.1),
            ap (λ one. option_or one (first_refused state (arguments_after (a + 1) parts))) (refused_of a part (Some why) is is_b is_allow),
            sure_is state (argument_of_part a part) why (sym (same_sure core state (argument_of_part a part) stands.same.live stands.same.last) ∙ is),
          )
      in_part rest e false false is_b is_allow None is =
          inr (
            0,
            ap (λ one. option_or one None) (refused_of a part None is is_b is_allow),
            subst (λ n. Named n refusal) (let same : a ≡ a + 0 = omega arith in same)
                (heads_each number_refusal (Named a) (plan_from c first) refusal rest
                (part_named part view.0 kept.0 view.1 kept.1 a is_b found.0 is is_allow 1 part.files later c s under (starts core state stands part view.0 kept.0 view.1 kept.1 a is_b c views.0 jobs flag) (files_found a part)) e),
          )

      choose : ((rest : List Refusal) × (filter_map number_refusal (plan_from c first) ≡ refusal ∷ rest)) ⊎ ((filter_map number_refusal (plan_from c first) ≡ []) × (filter_map number_refusal (plan_from after later) ≡ refusal ∷ more))
          → (filter_map number_refusal (plan_from after later) ≡ refusal ∷ more → Claim (a + 1) parts refusal) → Claim a (part ∷ parts) refusal
      choose (inl (rest, e)) next = in_part rest e (comes_behind part) part.options.allow_global_seqno refl refl (sure_cause (outline core) (argument_of_part a part)) refl
      choose (inr (none, e)) next = shift (next e)
        where
          not_here : refused_cause state (argument_of_part a part) ≡ None
          not_here = part_passes a part c filled.0 none

          shift : Claim (a + 1) parts refusal → Claim a (part ∷ parts) refusal
          shift (inl (at, why, is, first, sure)) = inl (at, why, is, ap (λ one. option_or one (first_refused state (arguments_after (a + 1) parts))) not_here ∙ first, sure)
          shift (inr (k, none, named)) =
              inr (
                suc k,
                ap (λ one. option_or one (first_refused state (take (suc k) (arguments_after (a + 1) parts)))) not_here ∙ none,
                subst (λ n. Named n refusal) (let same : a + 1 + k ≡ a + suc k = omega arith in same) named,
              )

  none_first : (a : ℕ) (parts : List Part) (c : Core) → Each (λ part. 1 ≤ length part.files) parts → filter_map number_refusal (plan_from c (request_files_after core a parts)) ≡ []
      → first_refused state (arguments_after a parts) ≡ None
  none_first a [] c filled none = refl
  none_first a (part ∷ parts) c filled none =
      let first = request_files_of (sure_cause (outline core) (argument_of_part a part)) part a 1 part.files in
      let later = request_files_after core (a + 1) parts in
      let after = fold put_planned c (plan_from c first) in
      let parted = append_none (filter_map number_refusal (plan_from c first)) (filter_map number_refusal (plan_from after later))
      (sym (ap (filter_map number_refusal) (plan_append c first later) ∙ filter_map_append number_refusal (plan_from c first) (plan_from after later)) ∙ none) in
      ap (λ one. option_or one (first_refused state (arguments_after (a + 1) parts))) (part_passes a part c filled.0 parted.0) ∙ none_first (a + 1) parts after filled.1 parted.1

  -- the claim is what the model asks
  claim_may : (capacity : ℕ) (parts : List Part) (refusal : Refusal) → request ≡ arguments_after 1 parts → Claim 1 parts refusal → MayRefuse state capacity request refusal
  claim_may capacity parts refusal of_parts (inl (at, why, is, first, sure)) = subst (MayRefuse state capacity request) (sym is) (by_why why (ap (first_refused state) of_parts ∙ first) sure)
    where
      by_why : (why : Why) → first_refused state request ≡ Some (at, why) → IsSure why → MayRefuse state capacity request (NeedsSequence at why)
      by_why (Key key) first sure = absurd sure
      by_why (Running range) first sure = absurd sure
      by_why (Meets range) first sure = absurd sure
      by_why (Snapshot number) first sure = first
      by_why (Files i j) first sure = first
  claim_may capacity parts refusal of_parts (inr (k, none, (at, why, is, number, named, cause))) =
      subst (MayRefuse state capacity request) (sym is) (by_why why (subst (λ n. first_refused state (take n request) ≡ None) (let same : suc k ≡ at.arg = omega arith in same) (ap (λ one. first_refused state (take (suc k) one)) of_parts ∙ none)) named cause)
    where
      by_why : (why : Why) → first_refused state (take at.arg request) ≡ None → IsSomeAnd (named_file request at) (λ named. may_need_number state why named ≡ true) → IsCause why → MayRefuse state capacity request (NeedsSequence at why)
      by_why (Key key) none named cause = (none, named)
      by_why (Running range) none named cause = (none, named)
      by_why (Meets range) none named cause = absurd cause
      by_why (Snapshot number) none named cause = absurd cause
      by_why (Files i j) none named cause = absurd cause

-- ---- the refusal

-- each argument has a file
each_filled : (parts : List Part) → shape_refusals (request_of_parts parts) ≡ [] → Each (λ part. 1 ≤ length part.files) parts
each_filled parts e =
    let a = refused_if (nat_le (length (request_of_parts parts)) 0) EmptyRequest in
    let b = take 1 (map (λ (argument : Argument). NoFiles argument.number) (filter has_no_files (request_of_parts parts))) in
    let c = take 1 (map (λ (argument : Argument). FamilyTwice argument.number) (repeated [] (request_of_parts parts))) in
    let d = refused_if (has_too_many (request_of_parts parts)) TooManyFiles in
    of_parts (λ argument. has_no_files argument ≡ false) (λ part. 1 ≤ length part.files) 1 parts (λ n part some. omega (arith, leb-false (length part.files) 0 some))
    (filter_none has_no_files (request_of_parts parts) (map_none (λ (argument : Argument). NoFiles argument.number) (filter has_no_files (request_of_parts parts)) (take_none (map (λ (argument : Argument). NoFiles argument.number) (filter has_no_files (request_of_parts parts)))
    (append_none a b (append_none (a ++ b) c (append_none (a ++ b ++ c) d e).0).0).1)))

pub refused_by_number : RefusedByNumber
refused_by_number core state turn refusal more stands is flushed fits e =
    let facts = turn_facts core state turn stands is in
    claim_may core state stands (request_of_parts turn.parts) core.capacity turn.parts refusal refl
    (plan_number core state stands (request_of_parts turn.parts) 1 turn.parts (record core { turn = None }) state (begins_fitting core state turn stands is flushed fits) (there_each core turn.parts facts.1.families) (all_same turn.parts) refl refl
    (names_differ turn.parts facts.2.shape) (arguments_found turn.parts) (each_filled turn.parts facts.2.shape) refusal more
    (ap (filter_map number_refusal) (plan_turn core (request_files core turn.parts)) ∙ e))
  where
    all_same : (some : List Part) → Each (λ part. value_at core.families part.family ≡ value_at core.families part.family) some
    all_same [] = tt
    all_same (part ∷ some) = (refl, all_same some)

pub unnumbered_has_no_cause : UnnumberedHasNoCause
unnumbered_has_no_cause core state turn stands is none =
    none_first core state stands (request_of_parts turn.parts) 1 turn.parts core (each_filled turn.parts (turn_facts core state turn stands is).2.shape) none
