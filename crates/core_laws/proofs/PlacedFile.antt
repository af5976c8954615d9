-- One file's place obeys the model's rules.
use Rattle.std.proofs.Common.{◌≡◌, ℕ, ◌<◌, ◌≤◌, Bool, true, false, cond, not, ◌||◌, List, [], ◌∷◌, filter, length, Option, Some, None, is_some, unwrap_or, refl, sym, ap, ap₂, subst, ◌∙◌, inl, inr, ◌⊎◌, arith}
use Rattle.std.specs.Prelude.{Contains, ◌==◌, nat_lt}
use Rattle.std.specs.Option.{option_map, option_or}
use Rattle.std.specs.List.{AllByRecursion as Each}
use Rattle.std.proofs.lemmas.Bool.{false≢true, and_parts, eqb-true, eqb-false, ltb-true}
use Rattle.st_base.specs.Bytes.{at_most}
use Rattle.st_base.specs.Map.{value_at}
use Rattle.st_base.specs.declared.entry.Entry.{Entry}
use Rattle.st_model.specs.declared.refusal.FileAt.{FileAt}
use Rattle.st_model.specs.declared.refusal.Refusal.TheVariants.{NeedsSequence, NotLastLevel}
use Rattle.st_model.specs.declared.refusal.Why.{Why}
use Rattle.st_model.specs.declared.refusal.Why.TheVariants.{Files, Snapshot}
use Rattle.st_model.specs.declared.command.FileSeen.TheVariants as seen
use Rattle.st_model.specs.declared.state.ModelFamily.{ModelFamily}
use Rattle.st_model.specs.declared.state.ModelState.{ModelState}
use Rattle.st_model.specs.Early.{is_empty, read_numbers, MayBeEarly}
use Rattle.st_model.specs.Placing.{IsPlacedFile, is_among_known}
use Rattle.st_base.specs.Range.{is_in_range, keys_of}
use Rattle.st_model.specs.Read.{read, value_of, is_covered}
use Rattle.st_model.specs.Refusals.{sure_cause, lowest_live}
use Rattle.st_model.specs.Request.{Argument, meeting}
use Rattle.st_model.specs.Sound.{WritesWithin}
use Rattle.st_model.specs.State.{family_of, is_known, lowest as lowest_of}
use Rattle.base_laws.proofs.Lists.{each_filter, each_join}
use Rattle.base_laws.proofs.Maps.{found_each}
use Rattle.base_laws.proofs.Ranges.{range_has_keys, within_parts}
use Rattle.core_model.specs.Commit.{outline, comes_behind, RequestFile, family_at, level_choice, planned_number, plan_by_rule, number_refusal, level_refusal, placed_in_plan}
use Rattle.core_model.specs.Event.{argument_of_part}
use Rattle.core_model.specs.Relation.{Represents}
use Rattle.core_model.specs.Level.{level_rule}
use Rattle.core_model.specs.Pick.{joint_range}
use Rattle.core_model.specs.Picture.{FileEntries, FamilyView, Job, Part, Core, lowest_level, runs_of, tables_in, memories, walk, find_mark, table_range, is_input, jobs_of, running_of, new_view}
use Rattle.core_model.specs.Request.{IsStagedTable}
use Rattle.core_model.specs.RelationParts.{IsView, HasEntry, JobsRun, IsRunning, IsCompacting}
use Rattle.core_laws.proofs.Causes.{Reason, cause_reason, joint_ends, among_known}
use Rattle.core_laws.proofs.FileChanges.{each_member, filter_with}
use Rattle.core_laws.proofs.FileColumns.{each_append, column_inside, each_entries}
use Rattle.core_laws.proofs.FileJobs.{each_of, each_with, entries_all}
use Rattle.core_laws.proofs.FileLift.{last_read}
use Rattle.core_laws.proofs.FileReads.{covered_has_mark}
use Rattle.core_laws.proofs.LevelRule.{rule_within, no_cause_no_key, high_is_some}
use Rattle.core_laws.proofs.NoneLeft.{or_none, map_option_none}
use Rattle.job_laws.proofs.RangeKeys.{nothing_within}
use Rattle.core_laws.proofs.ByPlace.{each_there}
use Rattle.core_laws.proofs.AfterInstall.{lowest_le}
use Rattle.job_model.specs.Column.{found_at}
use Rattle.st_order.specs.Least.{least_within}

-- the cause that holds of an argument is the same of the core and of the model
pub same_sure : (core : Core) (state : ModelState) (argument : Argument) → core.live ≡ state.live → core.last ≡ state.last → sure_cause (outline core) argument ≡ sure_cause state argument
same_sure core state argument live last = ap₂ (λ live last. sure_cause (record state { live = live; last = last }) argument) live last

-- no entry in a table's range
abbrev pub NoneIn : FileEntries → FamilyView → Type 0
NoneIn table family = Each (Each (λ entry. is_in_range (table_range table) entry.key ≡ false)) (walk family)

-- known, or outside a table's range
abbrev pub IsKnownOrOut : ModelFamily → FileEntries → List ℕ → Type 0
IsKnownOrOut kept table key = (is_known kept key ≡ true) ⊎ (is_in_range (table_range table) key ≡ false)

each_keys : (P : List ℕ → Type 0) (entries : List Entry) → Each (λ entry. P entry.key) entries → Each P (keys_of entries)
each_keys P [] each = tt
each_keys P (x ∷ xs) each = (each.0, each_keys P xs each.1)

high_none : {X : Type 0} (b f e : Bool) → b ≡ false → f ≡ true → e ≡ false → (x : Option X) → cond (b || not f || e) None x ≡ None → x ≡ None
high_none true f e is_b is_f is_e x none = absurd (false≢true (sym is_b))
high_none false false e is_b is_f is_e x none = absurd (false≢true is_f)
high_none false true true is_b is_f is_e x none = absurd (false≢true (sym is_e))
high_none false true false is_b is_f is_e x none = none

module _ (core : Core) (state : ModelState) (stands : Represents core state) (part : Part) (family : FamilyView) (kept : ModelFamily) (here : value_at core.families part.family ≡ Some family) (there : family_of state part.family ≡ Some kept) (a : ℕ) where
  sure : Option Why
  sure = sure_cause (outline core) (argument_of_part a part)

  -- the ends of a running job's output are known
  pub running_known : (job : Job) → Contains (running_of core family) job → (is_known kept job.range.first ≡ true) × (is_known kept job.range.last ≡ true)
  running_known job running =
      let facts = each_there (λ one. IsCompacting (lowest_level core) family one × (one.range ≡ joint_range one.inputs)) (running_of core family) job every running in
      let ends = joint_ends (λ key. is_known kept key ≡ true) job.inputs facts.0.some
      (subst (Each (λ entries. 1 ≤ length entries)) facts.0.inputs (entries_all (λ entries. 1 ≤ length entries) (filter (is_input job) (tables_in family.levels)) (each_filter HasEntry (is_input job) (tables_in family.levels) view.filled)))
      (subst (Each (Each (λ entry. is_known kept entry.key ≡ true))) facts.0.inputs (entries_all (Each (λ entry. is_known kept entry.key ≡ true)) (filter (is_input job) (tables_in family.levels))
      (each_filter (λ table. Each (λ entry. is_known kept entry.key ≡ true) table.entries) (is_input job) (tables_in family.levels) tables_known))) in
      (subst (λ range. is_known kept range.first ≡ true) (sym facts.1) ends.0, subst (λ range. is_known kept range.last ≡ true) (sym facts.1) ends.1)
    where
      view : IsView family
      view = found_each IsView core.families part.family family stands.views here

      run : JobsRun (lowest_level core) (jobs_of core family) family
      run = found_each (λ one. JobsRun (lowest_level core) (jobs_of core one) one) core.families part.family family stands.jobs here

      every : Each (λ one. IsCompacting (lowest_level core) family one × (one.range ≡ joint_range one.inputs)) (running_of core family)
      every = filter_with (λ (one : Job). nat_lt 0 one.level) (λ one. IsRunning (lowest_level core) family one × (one.range ≡ joint_range one.inputs)) (λ one. IsCompacting (lowest_level core) family one × (one.range ≡ joint_range one.inputs)) (jobs_of core family)
          (λ one facts positive. (facts.0.1 (ltb-true 0 one.level positive), facts.1))
          (each_with (IsRunning (lowest_level core) family) (λ one. one.range ≡ joint_range one.inputs) (λ one. IsRunning (lowest_level core) family one × (one.range ≡ joint_range one.inputs)) (jobs_of core family) (λ one x y. (x, y)) run.each run.ranges)

      tables_known : Each (λ table. Each (λ entry. is_known kept entry.key ≡ true) table.entries) (tables_in family.levels)
      tables_known = each_entries (Each (λ entry. is_known kept entry.key ≡ true)) (tables_in family.levels) (each_append (Each (λ entry. is_known kept entry.key ≡ true)) (memories family) (runs_of (tables_in family.levels)) (stands.known part.family family kept here there)).1

  -- what the core so far says of the file
  pub record IsNextFile (c : Core) (now : FamilyView) (table : FileEntries) : Type 0 where
    pub view : value_at c.families part.family ≡ Some now
    pub seven : length now.levels ≡ 7
    pub running : running_of c now ≡ running_of core family
    pub flag : c.behind ≡ core.behind
    pub early : NoneIn table now → NoneIn table family
    pub known : sure_cause (outline core) (argument_of_part a part) ≡ None → Each (Each (λ entry. IsKnownOrOut kept table entry.key)) (walk now)
    pub memory : least_within (table_range table) (memories now) ≡ None
    pub staged : IsStagedTable table

  module _ (c : Core) (now : FamilyView) (table : FileEntries) (next : IsNextFile c now table) (at : FileAt) (not_behind : comes_behind part ≡ false) where
    abbrev wanted : RequestFile
    wanted = record { at = at; part = part; table = table; sure = sure_cause (outline core) (argument_of_part a part) }

    now_is : family_at c part.family ≡ now
    now_is = ap (λ found. unwrap_or found (new_view 0)) next.view

    abbrev cause_now : Option Why
    cause_now = (level_rule now.levels (running_of c now) (table_range table) (lowest_level c)).cause

    same_cause : (level_choice c wanted).cause ≡ cause_now
    same_cause = ap (λ (one : FamilyView). (level_rule one.levels (running_of c one) (table_range table) (lowest_level c)).cause) now_is

    same_low : lowest_level c ≡ lowest_level core
    same_low = ap (λ b. cond b 5 6) next.flag

    same_lowest : lowest_level core ≡ lowest_of state
    same_lowest = ap (λ b. cond b 5 6) stands.same.behind

    -- without a number there is no cause, and with one there is
    zero_why : (why : Option Why) → planned_number c.last why ≡ 0 → why ≡ None
    zero_why None e = refl
    zero_why (Some why) e = absurd (omega arith)

    more_why : (why : Option Why) → 0 < planned_number c.last why → (one : Why) × (why ≡ Some one)
    more_why None lt = absurd (omega arith)
    more_why (Some why) lt = (why, refl)

    sure_number : (one cause : Option Why) → is_some one ≡ true → 0 < planned_number c.last (option_or one cause)
    sure_number None cause e = absurd (false≢true e)
    sure_number (Some why) cause e = omega arith

    no_key : cause_now ≡ None → NoneIn table family
    no_key cause = next.early (each_join (Each (λ entry. is_in_range (table_range table) entry.key ≡ false)) (memories now) (runs_of (tables_in now.levels))
        (nothing_within (table_range table) (memories now) next.memory) (no_cause_no_key now.levels (running_of c now) (table_range table) (lowest_level c) cause))

    -- nothing is found of the file's keys
    none_found : NoneIn table family → (s : ℕ) (key : List ℕ) → is_in_range (table_range table) key ≡ true → find_mark family s key ≡ None
    none_found none s key within = ap (found_at s) (column_inside (table_range table) key (walk family) none within)

    keys_within : Each (λ key. is_in_range (table_range table) key ≡ true) (keys_of table.entries)
    keys_within = each_keys (λ key. is_in_range (table_range table) key ≡ true) table.entries (range_has_keys table.entries next.staged.rows.ordered)

    is_early : sure_cause (outline core) (argument_of_part a part) ≡ None → cause_now ≡ None → MayBeEarly state kept table.entries part.options
    is_early sure_none cause = record {
      snapshots = no_snapshots (is_empty state.live || not part.options.snapshot_consistency) refl
          (or_none (option_map (λ pair. Files pair.0 pair.1) (meeting (argument_of_part a part))) (cond (is_empty state.live || not part.options.snapshot_consistency) None (Some (Snapshot (lowest_live state))))
          (sym (same_sure core state (argument_of_part a part) stands.same.live stands.same.last) ∙ sure_none)).1;
      reads_none = each_of (λ key. is_in_range (table_range table) key ≡ true) (λ key. Each (λ number. read kept number key ≡ None) (read_numbers state)) (keys_of table.entries)
          (λ key within. each_of (Contains (read_numbers state)) (λ number. read kept number key ≡ None) (read_numbers state)
          (λ number there'. sym (stands.reads part.family family kept here there number key there') ∙ ap value_of (none_found (no_key cause) number key within)) (each_member (read_numbers state))) keys_within;
      uncovered = λ flag. each_of (λ key. is_in_range (table_range table) key ≡ true) (λ key. is_covered kept key ≡ false) (keys_of table.entries)
          (λ key within. covered_has_mark kept state.last key (found_each (WritesWithin state.last) state.families part.family kept stands.sound.writes there)
          (sym (stands.marks (stands.same.behind ∙ flag) part.family family kept here there state.last key (last_read state)) ∙ none_found (no_key cause) state.last key within)) keys_within;
    }
      where
        no_snapshots : (b : Bool) → (is_empty state.live || not part.options.snapshot_consistency) ≡ b → cond b None (Some (Snapshot (lowest_live state))) ≡ None → b ≡ true
        no_snapshots true is e = refl
        no_snapshots false is e = absurd cc

    -- known keys around the file
    around : (why : Why) → sure_cause (outline core) (argument_of_part a part) ≡ None → cause_now ≡ Some why → is_among_known kept (table_range table) ≡ true
    around why sure_none cause = step (cause_reason (IsKnownOrOut kept table) now.levels (running_of c now) (table_range table) (lowest_level c) why
        (each_append (Each (λ entry. IsKnownOrOut kept table entry.key)) (memories now) (runs_of (tables_in now.levels)) (next.known sure_none)).1 cause)
      where
        step : Reason (IsKnownOrOut kept table) (running_of c now) (table_range table) why → is_among_known kept (table_range table) ≡ true
        step (inl (key, within, inl known, is)) = let parts = within_parts (table_range table) key within in among_known kept (table_range table) key key known known parts.1 parts.0
        step (inl (key, within, inr out, is)) = absurd (false≢true (sym out ∙ within))
        step (inr (job, running, meets, is)) =
            let parts = and_parts (at_most job.range.first (table_range table).last) (at_most (table_range table).first job.range.last) meets in
            let ends = running_known job (subst (λ jobs. Contains jobs job) next.running running) in
            among_known kept (table_range table) job.range.first job.range.last ends.0 ends.1 parts.0 parts.1

    pub rule_placed : number_refusal (plan_by_rule c wanted) ≡ None → level_refusal (lowest_level core) (plan_by_rule c wanted) ≡ None
        → IsPlacedFile state kept (argument_of_part a part) (record { at = at; seen = seen.Table table.entries }) (placed_in_plan (plan_by_rule c wanted))
    rule_placed number_none level_none = record {
      level = subst (λ low. (level_choice c wanted).level ≤ low) (same_low ∙ same_lowest) (rule_within (family_at c part.family).levels (running_of c (family_at c part.family)) (table_range table) (lowest_level c));
      bottom = λ fails. bottom_of fails ((level_choice c wanted).level == lowest_level core) refl ∙ same_lowest;
      sure = λ some. sure_number (sure_cause (outline core) (argument_of_part a part)) (level_choice c wanted).cause (ap is_some (same_sure core state (argument_of_part a part) stands.same.live stands.same.last) ∙ some);
      caused = λ lt. ap (λ found. is_some found || is_among_known kept (table_range table)) (sym (same_sure core state (argument_of_part a part) stands.same.live stands.same.last))
          ∙ caused_of (sure_cause (outline core) (argument_of_part a part)) refl lt;
      allowed = λ lt. allowed_of part.options.allow_global_seqno refl number_none (more_why (option_or (sure_cause (outline core) (argument_of_part a part)) (level_choice c wanted).cause) lt);
      early = λ is. let none = or_none (sure_cause (outline core) (argument_of_part a part)) (level_choice c wanted).cause (zero_why (option_or (sure_cause (outline core) (argument_of_part a part)) (level_choice c wanted).cause) is) in
          is_early none.0 (sym same_cause ∙ none.1);
    }
      where
        caused_of : (one : Option Why) → sure_cause (outline core) (argument_of_part a part) ≡ one → 0 < planned_number c.last (option_or one (level_choice c wanted).cause) → (is_some one || is_among_known kept (table_range table)) ≡ true
        caused_of (Some why) is lt = refl
        caused_of None is lt = let why = more_why (level_choice c wanted).cause lt in around why.0 is (sym same_cause ∙ why.1)

        allowed_of : (b : Bool) → part.options.allow_global_seqno ≡ b → cond b None (option_map (λ why. NeedsSequence at why) (option_or (sure_cause (outline core) (argument_of_part a part)) (level_choice c wanted).cause)) ≡ None
            → (one : Why) × (option_or (sure_cause (outline core) (argument_of_part a part)) (level_choice c wanted).cause ≡ Some one) → b ≡ true
        allowed_of true is e why = refl
        allowed_of false is e why = absurd (let none : None ≡ Some why.0 = sym (map_option_none (λ why. NeedsSequence at why) (option_or (sure_cause (outline core) (argument_of_part a part)) (level_choice c wanted).cause) e) ∙ why.1 in cc)

        bottom_of : part.options.fail_if_not_bottommost_level ≡ true → (b : Bool) → ((level_choice c wanted).level == lowest_level core) ≡ b → (level_choice c wanted).level ≡ lowest_level core
        bottom_of fails true is = eqb-true (level_choice c wanted).level (lowest_level core) is
        bottom_of fails false is = absurd (false≢true (sym (ap is_some (map_option_none (λ why. NotLastLevel at (level_choice c wanted).level why) (plan_by_rule c wanted).high
            (high_none (comes_behind part) part.options.fail_if_not_bottommost_level ((level_choice c wanted).level == lowest_level core) not_behind fails is (option_map (λ why. NotLastLevel at (level_choice c wanted).level why) (plan_by_rule c wanted).high) level_none)))
            ∙ high_is_some (family_at c part.family).levels (running_of c (family_at c part.family)) (table_range table) (lowest_level c) (omega (arith, lowest_le c, ap (λ (one : FamilyView). length one.levels) now_is, next.seven))
            (λ e. eqb-false (level_choice c wanted).level (lowest_level core) is (e ∙ same_low))))
