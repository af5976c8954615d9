-- What a file does to its family: a file of the rule's level, numbered or early, and a file behind.
use Rattle.std.proofs.Common.{◌≡◌, ℕ, zero, suc, ◌+◌, ◌<◌, ◌≤◌, Bool, true, false, cond, not, List, [], ◌∷◌, ◌++◌, map, filter, Option, Some, None, unwrap_or, drop, refl, sym, ap, subst, ◌∙◌, inl, inr, ◌⊎◌, arith}
use Rattle.std.specs.Prelude.{Contains, nat_lt}
use Rattle.std.specs.List.{list_any, AllByRecursion as Each}
use Rattle.std.proofs.lemmas.Bool.{false≢true, or_left, or_right, or_cases, lt-ltb, ltb-true}
use Rattle.std.proofs.lemmas.List.Folds.{list_any-append}
use Rattle.st_base.specs.Bytes.{same}
use Rattle.st_base.specs.Map.{value_at}
use Rattle.st_base.specs.declared.entry.Mark.{Mark}
use Rattle.st_base.specs.declared.entry.Entry.{Entry}
use Rattle.st_base.proofs.Same.{same_true}
use Rattle.st_model.specs.declared.state.ModelFamily.{ModelFamily}
use Rattle.st_model.specs.declared.state.ModelState.{ModelState}
use Rattle.st_model.specs.Apply.{with_known, with_numbered, with_early, with_behind}
use Rattle.st_model.specs.Early.{read_numbers}
use Rattle.st_base.specs.Range.{is_in_range, keys_of, under_number, has_key}
use Rattle.st_model.specs.Read.{mark_at, value_of}
use Rattle.st_model.specs.Sound.{WritesWithin}
use Rattle.st_model.specs.State.{family_of, is_known}
use Rattle.base_laws.proofs.Maps.{found_each}
use Rattle.base_laws.proofs.Ranges.{range_has_keys, under_each}
use Rattle.core_laws.specs.Claims.{Compacts, mark_of_key, mark_or}
use Rattle.core_model.specs.Commit.{put_file, renumbered}
use Rattle.core_model.specs.Relation.{Represents}
use Rattle.core_model.specs.Level.{is_free_level, level_rule}
use Rattle.core_model.specs.Pick.{joint_range}
use Rattle.core_model.specs.Picture.{FileEntries, FamilyView, Job, Core, lowest_level, level_at, runs_of, tables_in, memories, walk, find_mark, table_range, is_input, jobs_of, running_of, all_tables}
use Rattle.core_model.specs.Request.{IsStagedTable}
use Rattle.core_model.specs.RelationParts.{NumbersFall, NumbersWithin, LevelsApart, IsView, HasKnownKeys, HasWritten, JobsRun, KeepsReads, IsRunning, IsCompacting}
use Rattle.core_model.specs.Step.{HaveOtherFiles}
use Rattle.core_laws.proofs.FileFields.{rule_falls, behind_numbers_fall, file_within, file_view, walk_each, rule_reads_below, rule_reads_at, behind_reads_core, found_last, other_level}
use Rattle.core_laws.proofs.FileFresh.{not_an_input, in_family}
use Rattle.core_laws.proofs.FileJobs.{each_of, each_with, file_leaves_running, file_leaves_reads, behind_leaves_running, behind_leaves_reads, has_key_of}
use Rattle.core_laws.proofs.FileLevels.{file_apart, behind_ranges}
use Rattle.core_laws.proofs.FileLift.{old_number, last_read}
use Rattle.core_laws.proofs.FileReads.{numbered_reads, numbered_reads_now, early_reads, behind_reads}
use Rattle.core_laws.proofs.FileStands.{Changes, state_file}
use Rattle.core_laws.proofs.LevelRule.{rule_free_at, rule_within}
use Rattle.job_laws.proofs.RangeKeys.{nothing_within}
use Rattle.core_laws.proofs.InstalledLevels.{column_each}
use Rattle.core_laws.proofs.ReopenedFamily.{knows_run}
use Rattle.core_laws.proofs.AfterInstall.{lowest_le}
use Rattle.st_order.specs.Columns.{column}
use Rattle.st_order.specs.Least.{least_within}

-- ---- lists

pub contains_later : {X : Type 0} (x : X) (xs : List X) (y : X) → Contains xs y → Contains (x ∷ xs) y
contains_later x xs y (k, lt, at) = (suc k, omega arith, at)

pub each_member : {X : Type 0} (xs : List X) → Each (Contains xs) xs
each_member [] = tt
each_member {X = X} (x ∷ xs) = ((0, omega arith, refl), each_of (Contains xs) (Contains (x ∷ xs)) xs (λ y there. contains_later x xs y there) (each_member xs))

pub contains_filter : {X : Type 0} (p : X → Bool) (xs : List X) (x : X) → Contains xs x → p x ≡ true → Contains (filter p xs) x
contains_filter p [] x (k, lt, at) yes' = absurd (omega arith)
contains_filter p (y ∷ ys) x (zero, lt, at) holds = subst (λ one. Contains (cond (p y) (y ∷ filter p ys) (filter p ys)) one) at (first (p y) (ap p at ∙ holds))
  where
    first : (b : Bool) → b ≡ true → Contains (cond b (y ∷ filter p ys) (filter p ys)) y
    first true e = (0, omega arith, refl)
    first false e = absurd (false≢true e)
contains_filter p (y ∷ ys) x (suc k, lt, at) holds = later (p y) (contains_filter p ys x (k, omega arith, at) holds)
  where
    later : (b : Bool) → Contains (filter p ys) x → Contains (cond b (y ∷ filter p ys) (filter p ys)) x
    later true there = contains_later y (filter p ys) x there
    later false there = there

pub filter_with : {X : Type 0} (p : X → Bool) (P Q : X → Type 0) (xs : List X) → ((x : X) → P x → p x ≡ true → Q x) → Each P xs → Each Q (filter p xs)
filter_with p P Q [] f each = tt
filter_with p P Q (x ∷ xs) f each = step (p x) refl (filter_with p P Q xs f each.1)
  where
    step : (b : Bool) → p x ≡ b → Each Q (filter p xs) → Each Q (cond b (x ∷ filter p xs) (filter p xs))
    step true is rest = (f x each.0 is, rest)
    step false is rest = rest

-- ---- known keys, and keys of memtables

known_more : (kept : ModelFamily) (entries : List Entry) (key : List ℕ) → is_known kept key ≡ true → list_any (λ known. same known key) (kept.known ++ keys_of entries) ≡ true
known_more kept entries key known = list_any-append (λ one. same one key) kept.known (keys_of entries) ∙ or_left (is_known kept key) (list_any (λ one. same one key) (keys_of entries)) known

known_new : (kept : ModelFamily) (entries : List Entry) (key : List ℕ) → list_any (λ known. same known key) (keys_of entries) ≡ true → list_any (λ known. same known key) (kept.known ++ keys_of entries) ≡ true
known_new kept entries key known = list_any-append (λ one. same one key) kept.known (keys_of entries) ∙ or_right (is_known kept key) (list_any (λ one. same one key) (keys_of entries)) known

file_known : (family : FamilyView) (kept : ModelFamily) (level number : ℕ) (table : FileEntries) → HasKnownKeys family kept
    → Each (Each (λ entry. list_any (λ known. same known entry.key) (kept.known ++ keys_of table.entries) ≡ true)) (walk (put_file level number table family))
file_known family kept level number table known =
    walk_each (Each (λ entry. list_any (λ one. same one entry.key) (kept.known ++ keys_of table.entries) ≡ true)) family level number table
    (under_each (λ key. list_any (λ one. same one key) (kept.known ++ keys_of table.entries) ≡ true) number table.entries
    (each_of (λ (entry : Entry). list_any (λ one. same one entry.key) (keys_of table.entries) ≡ true) (λ entry. list_any (λ one. same one entry.key) (kept.known ++ keys_of table.entries) ≡ true) table.entries
    (λ entry here. known_new kept table.entries entry.key here) (knows_run table.entries)))
    (each_of (Each (λ entry. is_known kept entry.key ≡ true)) (Each (λ entry. list_any (λ one. same one entry.key) (kept.known ++ keys_of table.entries) ≡ true)) (walk family)
    (λ run. each_of (λ (entry : Entry). is_known kept entry.key ≡ true) (λ entry. list_any (λ one. same one entry.key) (kept.known ++ keys_of table.entries) ≡ true) run (λ entry here. known_more kept table.entries entry.key here)) known)

written_more : (family : FamilyView) (kept : ModelFamily) (more : List Entry) → HasWritten family kept → Each (Each (λ entry. has_key (kept.writes ++ more) entry.key ≡ true)) (memories family)
written_more family kept more written =
    each_of (Each (λ entry. has_key kept.writes entry.key ≡ true)) (Each (λ entry. has_key (kept.writes ++ more) entry.key ≡ true)) (memories family)
    (λ run. each_of (λ (entry : Entry). has_key kept.writes entry.key ≡ true) (λ entry. has_key (kept.writes ++ more) entry.key ≡ true) run
    (λ entry here. list_any-append (λ write. same write.key entry.key) kept.writes more ∙ or_left (has_key kept.writes entry.key) (has_key more entry.key) here)) written

has_key_left : (entries writes : List Entry) (key : List ℕ) → has_key entries key ≡ false → has_key writes key ≡ true → has_key (filter (λ write. not (has_key entries write.key)) writes) key ≡ true
has_key_left entries [] key out here = here
has_key_left entries (x ∷ xs) key out here = step (has_key entries x.key) refl (or_cases (same x.key key) (has_key xs key) here) (has_key_left entries xs key out)
  where
    step : (b : Bool) → has_key entries x.key ≡ b → (same x.key key ≡ true) ⊎ (has_key xs key ≡ true) → (has_key xs key ≡ true → has_key (filter (λ write. not (has_key entries write.key)) xs) key ≡ true)
        → has_key (cond (not b) (x ∷ filter (λ write. not (has_key entries write.key)) xs) (filter (λ write. not (has_key entries write.key)) xs)) key ≡ true
    step true is (inl at) rest = absurd (false≢true (sym out ∙ ap (has_key entries) (sym (same_true x.key key at)) ∙ is))
    step true is (inr later) rest = rest later
    step false is (inl at) rest = or_left (same x.key key) (has_key (filter (λ write. not (has_key entries write.key)) xs) key) at
    step false is (inr later) rest = or_right (same x.key key) (has_key (filter (λ write. not (has_key entries write.key)) xs) key) (rest later)

written_left : (family : FamilyView) (kept : ModelFamily) (table : FileEntries) → IsStagedTable table → least_within (table_range table) (memories family) ≡ None → HasWritten family kept
    → Each (Each (λ entry. has_key (filter (λ write. not (has_key table.entries write.key)) kept.writes) entry.key ≡ true)) (memories family)
written_left family kept table staged memory written =
    each_with (Each (λ entry. has_key kept.writes entry.key ≡ true)) (Each (λ entry. is_in_range (table_range table) entry.key ≡ false)) (Each (λ entry. has_key (filter (λ write. not (has_key table.entries write.key)) kept.writes) entry.key ≡ true)) (memories family)
    (λ run. each_with (λ (entry : Entry). has_key kept.writes entry.key ≡ true) (λ entry. is_in_range (table_range table) entry.key ≡ false) (λ entry. has_key (filter (λ write. not (has_key table.entries write.key)) kept.writes) entry.key ≡ true) run
    (λ entry here out. has_key_left table.entries kept.writes entry.key (outside entry.key out (has_key table.entries entry.key) refl) here))
    written (nothing_within (table_range table) (memories family) memory)
  where
    outside : (key : List ℕ) → is_in_range (table_range table) key ≡ false → (b : Bool) → has_key table.entries key ≡ b → b ≡ false
    outside key out true is = absurd (false≢true (sym out ∙ has_key_of (λ k. is_in_range (table_range table) k ≡ true) key table.entries (range_has_keys table.entries staged.rows.ordered) is))
    outside key out false is = refl

-- ---- marks before and after

-- as it was, or the file's where it has one
abbrev Moves : Option Mark → Option Mark → Option Mark → Option Mark → Option Mark → Type 0
Moves mark found found_after kept kept_after = ((found_after ≡ found) × (kept_after ≡ kept)) ⊎ ((found_after ≡ mark_or mark found) × (kept_after ≡ mark_or mark kept))

moved_marks : (mark found found_after kept kept_after : Option Mark) → Moves mark found found_after kept kept_after → found ≡ kept → found_after ≡ kept_after
moved_marks mark found found_after kept kept_after (inl (one, other)) e = one ∙ e ∙ sym other
moved_marks mark found found_after kept kept_after (inr (one, other)) e = one ∙ ap (mark_or mark) e ∙ sym other

moved_reads : (mark found found_after kept kept_after : Option Mark) → Moves mark found found_after kept kept_after → value_of found ≡ value_of kept → value_of found_after ≡ value_of kept_after
moved_reads mark found found_after kept kept_after (inl (one, other)) e = ap value_of one ∙ e ∙ sym (ap value_of other)
moved_reads mark found found_after kept kept_after (inr (one, other)) e = ap value_of one ∙ over mark ∙ sym (ap value_of other)
  where
    over : (mark : Option Mark) → value_of (mark_or mark found) ≡ value_of (mark_or mark kept)
    over None = e
    over (Some mark) = refl

-- ---- a file of the rule's level

module _ (core : Core) (state : ModelState) (stands : Represents core state) (name : List ℕ) (family : FamilyView) (kept : ModelFamily) (here : value_at core.families name ≡ Some family) (there : family_of state name ≡ Some kept)
    (table : FileEntries) (staged : IsStagedTable table) (fresh : Each (HaveOtherFiles table) (all_tables core)) where
  view : IsView family
  view = found_each IsView core.families name family stands.views here

  within : NumbersWithin core.last family
  within = found_each (NumbersWithin core.last) core.families name family stands.within here

  writes : WritesWithin core.last kept
  writes = subst (λ last. WritesWithin last kept) (sym stands.same.last) (found_each (WritesWithin state.last) state.families name kept stands.sound.writes there)

  fresh_here : Each (HaveOtherFiles table) (tables_in family.levels)
  fresh_here = in_family (HaveOtherFiles table) core.families name family fresh here

  run : JobsRun (lowest_level core) (jobs_of core family) family
  run = found_each (λ one. JobsRun (lowest_level core) (jobs_of core one) one) core.families name family stands.jobs here

  keeps : Each (KeepsReads core family) (jobs_of core family)
  keeps = found_each (λ one. Each (KeepsReads core one) (jobs_of core one)) core.families name family stands.kept here

  compacts : (job : Job) → IsRunning (lowest_level core) family job → job.range ≡ joint_range job.inputs → 1 ≤ job.level → Compacts (lowest_level core) family job
  compacts job running range positive = record {
    view = view;
    apart = found_each LevelsApart core.families name family stands.apart here;
    positive = positive;
    bottom = lowest_le core;
    running = running.1 positive;
    range = range;
  }

  no_input_of : (job : Job) → IsRunning (lowest_level core) family job → 1 ≤ job.level → is_input job table ≡ false
  no_input_of job running positive = not_an_input table job (tables_in family.levels) fresh_here (running.1 positive).files

  module _ (memory : least_within (table_range table) (memories family) ≡ None) where
    abbrev pub rule_at : ℕ
    rule_at = (level_rule family.levels (running_of core family) (table_range table) (lowest_level core)).level

    rule_no_inputs : Each (λ other. is_input other table ≡ false) (running_of core family)
    rule_no_inputs = filter_with (λ (job : Job). nat_lt 0 job.level) (IsRunning (lowest_level core) family) (λ other. is_input other table ≡ false) (jobs_of core family)
        (λ job running positive. no_input_of job running (ltb-true 0 job.level positive)) run.each

    runs_after : (number : ℕ) (job : Job) → IsRunning (lowest_level core) family job → job.range ≡ joint_range job.inputs → Contains (jobs_of core family) job → IsRunning (lowest_level core) (put_file rule_at number table family) job
    runs_after number job running range there = (
      λ at. let flush = running.0 at in record { one = flush.one; oldest = flush.oldest; files = flush.files; drops = flush.drops },
      λ positive. file_leaves_running (lowest_level core) number family (running_of core family) job table view staged (compacts job running range positive)
          (contains_filter (λ (one : Job). nat_lt 0 one.level) (jobs_of core family) job there (lt-ltb 0 job.level positive)) rule_no_inputs memory,
    )

    jobs_after : (number : ℕ) → JobsRun (lowest_level core) (jobs_of core family) (put_file rule_at number table family)
    jobs_after number = record {
      each = each_with (λ job. IsRunning (lowest_level core) family job × (job.range ≡ joint_range job.inputs)) (Contains (jobs_of core family)) (IsRunning (lowest_level core) (put_file rule_at number table family)) (jobs_of core family)
          (λ job running there. runs_after number job running.0 running.1 there)
          (each_with (IsRunning (lowest_level core) family) (λ job. job.range ≡ joint_range job.inputs) (λ job. IsRunning (lowest_level core) family job × (job.range ≡ joint_range job.inputs)) (jobs_of core family) (λ job one other. (one, other)) run.each run.ranges)
          (each_member (jobs_of core family));
      ranges = run.ranges;
      apart = run.apart;
    }

    keep_after : (number : ℕ) (job : Job) (l : ℕ) → job.level ≡ l → IsRunning (lowest_level core) family job → job.range ≡ joint_range job.inputs → Contains (jobs_of core family) job → KeepsReads core family job → KeepsReads core (put_file rule_at number table family) job
    keep_after number job zero at running range there keeps = record {
      live = keeps.live;
      began = keeps.began;
      numbers = keeps.numbers;
      within = keeps.within;
      nothing = subst (λ drops. Each (λ range. Each (Each (λ entry. is_in_range range entry.key ≡ false)) (runs_of (tables_in (drop (job.level + 1) (put_file rule_at number table family).levels)))) drops) (sym (running.0 at).drops) tt;
      flag = keeps.flag;
    }
    keep_after number job (suc l) at running range there keeps =
        file_leaves_reads core number family (running_of core family) job table view staged (compacts job running range (omega arith))
        (contains_filter (λ (one : Job). nat_lt 0 one.level) (jobs_of core family) job there (lt-ltb 0 job.level (omega arith))) keeps

    keeps_after : (number : ℕ) → Each (KeepsReads core (put_file rule_at number table family)) (jobs_of core family)
    keeps_after number =
        each_with (λ job. IsRunning (lowest_level core) family job × (job.range ≡ joint_range job.inputs) × Contains (jobs_of core family) job) (KeepsReads core family) (KeepsReads core (put_file rule_at number table family)) (jobs_of core family)
        (λ job facts keeps. keep_after number job job.level refl facts.0 facts.1 facts.2 keeps)
        (each_with (λ job. IsRunning (lowest_level core) family job × (job.range ≡ joint_range job.inputs)) (Contains (jobs_of core family)) (λ job. IsRunning (lowest_level core) family job × (job.range ≡ joint_range job.inputs) × Contains (jobs_of core family) job) (jobs_of core family)
        (λ job one other. (one.0, one.1, other))
        (each_with (IsRunning (lowest_level core) family) (λ job. job.range ≡ joint_range job.inputs) (λ job. IsRunning (lowest_level core) family job × (job.range ≡ joint_range job.inputs)) (jobs_of core family) (λ job one other. (one, other)) run.each run.ranges)
        (each_member (jobs_of core family)))
        keeps

    -- its level is free
    free_at : 0 < rule_at → is_free_level (table_range table) (level_at family rule_at) ≡ true
    free_at positive = rule_free_at family.levels (running_of core family) (table_range table) (lowest_level core) positive

    -- with the flag level 6 stays
    ranges_stay : (number : ℕ) → core.behind ≡ true → map table_range (level_at (put_file rule_at number table family) 6) ≡ map table_range (level_at family 6)
    ranges_stay number flag = ap (λ found. map table_range (unwrap_or found [])) (other_level rule_at (renumbered number table) family.levels 6 (λ e. absurd (omega (arith, rule_within family.levels (running_of core family) (table_range table) (lowest_level core), five))))
      where
        five : lowest_level core ≡ 5
        five = ap (λ b. cond b 5 6) flag

    -- a numbered file
    abbrev pub numbered_change : ModelFamily → ModelFamily
    numbered_change one = with_known table.entries (with_numbered (core.last + 1) table.entries one)

    numbered_moves : (s : ℕ) (key : List ℕ) → Contains (read_numbers (state_file core state name rule_at (core.last + 1) (core.last + 1) table numbered_change)) s
        → (old : ℕ) × Contains (read_numbers state) old × Moves (mark_of_key table.entries key) (find_mark family old key) (find_mark (put_file rule_at (core.last + 1) table family) s key) (mark_at kept old key) (mark_at (numbered_change kept) s key)
    numbered_moves s key number = step (old_number state (core.last + 1) s stands.sound number)
      where
        now : find_mark family (core.last + 1) key ≡ find_mark family state.last key
        now = found_last core.last (core.last + 1) (column key (walk family)) (column_each (λ entry. entry.number ≤ core.last) key (walk family) within) (omega arith) ∙ ap (λ last. find_mark family last key) stands.same.last

        step : (Contains (read_numbers state) s × (s ≤ state.last)) ⊎ (s ≡ core.last + 1)
            → (old : ℕ) × Contains (read_numbers state) old × Moves (mark_of_key table.entries key) (find_mark family old key) (find_mark (put_file rule_at (core.last + 1) table family) s key) (mark_at kept old key) (mark_at (numbered_change kept) s key)
        step (inl old) = (
          s,
          old.0,
          inl (
            rule_reads_below family (running_of core family) table (lowest_level core) (core.last + 1) s key view staged (lowest_le core) memory (omega (arith, stands.same.last)),
            numbered_reads kept table core.last s key staged (omega (arith, stands.same.last)),
          ),
        )
        step (inr is) = (
          state.last,
          last_read state,
          inr (
            ap (λ n. find_mark (put_file rule_at (core.last + 1) table family) n key) is
                ∙ rule_reads_at family (running_of core family) table (lowest_level core) (core.last + 1) (core.last + 1) key view staged (lowest_le core) memory (omega arith)
                ∙ ap (mark_or (mark_of_key table.entries key)) now,
            ap (λ n. mark_at (numbered_change kept) n key) is ∙ numbered_reads_now kept table core.last key staged writes ∙ ap (λ last. mark_or (mark_of_key table.entries key) (mark_at kept last key)) stands.same.last,
          ),
        )

    pub numbered_changes : Changes core state name rule_at (core.last + 1) (core.last + 1) table numbered_change family kept
    numbered_changes = record {
      reads = λ s key number. let moves = numbered_moves s key number in
          moved_reads (mark_of_key table.entries key) (find_mark family moves.0 key) (find_mark (put_file rule_at (core.last + 1) table family) s key) (mark_at kept moves.0 key) (mark_at (numbered_change kept) s key) moves.2 (stands.reads name family kept here there moves.0 key moves.1);
      marks = λ flag s key number. let moves = numbered_moves s key number in
          moved_marks (mark_of_key table.entries key) (find_mark family moves.0 key) (find_mark (put_file rule_at (core.last + 1) table family) s key) (mark_at kept moves.0 key) (mark_at (numbered_change kept) s key) moves.2 (stands.marks flag name family kept here there moves.0 key moves.1);
      falls = rule_falls family (running_of core family) table (lowest_level core) (core.last + 1) view staged (lowest_le core) memory core.last (found_each NumbersFall core.families name family stands.falls here) within (inl refl);
      within = file_within family rule_at (core.last + 1) core.last (core.last + 1) table (omega arith) (omega arith) within;
      apart = file_apart family rule_at (core.last + 1) table view staged free_at (found_each LevelsApart core.families name family stands.apart here);
      ranges = λ flag. ranges_stay (core.last + 1) flag ∙ stands.ranges flag name family kept here there;
      known = file_known family kept rule_at (core.last + 1) table (stands.known name family kept here there);
      written = written_more family kept (under_number (core.last + 1) table.entries) (stands.written name family kept here there);
      jobs = jobs_after (core.last + 1);
      keeps = keeps_after (core.last + 1);
      view = file_view family rule_at (core.last + 1) table view staged;
    }

    -- an early file
    abbrev pub early_change : ModelFamily → ModelFamily
    early_change one = with_known table.entries (with_early table.entries one)

    early_moves : (s : ℕ) (key : List ℕ) → Contains (read_numbers (state_file core state name rule_at 0 core.last table early_change)) s
        → (old : ℕ) × Contains (read_numbers state) old × Moves (mark_of_key table.entries key) (find_mark family old key) (find_mark (put_file rule_at 0 table family) s key) (mark_at kept old key) (mark_at (early_change kept) s key)
    early_moves s key number = (
      s,
      subst (λ last. Contains (last ∷ map (λ one. one.number) state.live) s) stands.same.last number,
      inr (
        rule_reads_at family (running_of core family) table (lowest_level core) 0 s key view staged (lowest_le core) memory (omega arith),
        early_reads kept table s key staged,
      ),
    )

    pub early_changes : (level_rule family.levels (running_of core family) (table_range table) (lowest_level core)).cause ≡ None → Changes core state name rule_at 0 core.last table early_change family kept
    early_changes cause = record {
      reads = λ s key number. let moves = early_moves s key number in
          moved_reads (mark_of_key table.entries key) (find_mark family moves.0 key) (find_mark (put_file rule_at 0 table family) s key) (mark_at kept moves.0 key) (mark_at (early_change kept) s key) moves.2 (stands.reads name family kept here there moves.0 key moves.1);
      marks = λ flag s key number. let moves = early_moves s key number in
          moved_marks (mark_of_key table.entries key) (find_mark family moves.0 key) (find_mark (put_file rule_at 0 table family) s key) (mark_at kept moves.0 key) (mark_at (early_change kept) s key) moves.2 (stands.marks flag name family kept here there moves.0 key moves.1);
      falls = rule_falls family (running_of core family) table (lowest_level core) 0 view staged (lowest_le core) memory core.last (found_each NumbersFall core.families name family stands.falls here) within (inr (refl, cause));
      within = file_within family rule_at 0 core.last core.last table (omega arith) (omega arith) within;
      apart = file_apart family rule_at 0 table view staged free_at (found_each LevelsApart core.families name family stands.apart here);
      ranges = λ flag. ranges_stay 0 flag ∙ stands.ranges flag name family kept here there;
      known = file_known family kept rule_at 0 table (stands.known name family kept here there);
      written = written_left family kept table staged memory (stands.written name family kept here there);
      jobs = jobs_after 0;
      keeps = keeps_after 0;
      view = file_view family rule_at 0 table view staged;
    }

  -- ---- a file behind

  module _ (flag : core.behind ≡ true) (free : is_free_level (table_range table) (level_at family 6) ≡ true) where
    five : lowest_level core ≡ 5
    five = ap (λ b. cond b 5 6) flag

    runs_behind : (job : Job) → IsRunning (lowest_level core) family job → job.range ≡ joint_range job.inputs → IsRunning (lowest_level core) (put_file 6 0 table family) job
    runs_behind job running range = (
      λ at. let flush = running.0 at in record { one = flush.one; oldest = flush.oldest; files = flush.files; drops = flush.drops },
      λ positive. subst (λ low. IsCompacting low (put_file 6 0 table family) job) (sym five)
          (behind_leaves_running family job table (subst (λ low. Compacts low family job) five (compacts job running range positive)) (no_input_of job running positive)),
    )

    jobs_behind : JobsRun (lowest_level core) (jobs_of core family) (put_file 6 0 table family)
    jobs_behind = record {
      each = each_with (IsRunning (lowest_level core) family) (λ job. job.range ≡ joint_range job.inputs) (IsRunning (lowest_level core) (put_file 6 0 table family)) (jobs_of core family) runs_behind run.each run.ranges;
      ranges = run.ranges;
      apart = run.apart;
    }

    abbrev pub behind_change : ModelFamily → ModelFamily
    behind_change one = with_known table.entries (with_behind table.entries one)

    behind_marks : (s : ℕ) (key : List ℕ) → Contains (read_numbers (state_file core state name 6 0 core.last table behind_change)) s → find_mark (put_file 6 0 table family) s key ≡ mark_at (behind_change kept) s key
    behind_marks s key number =
        behind_reads_core family table s key view staged free
        ∙ ap (λ found. mark_or found (mark_of_key table.entries key)) (stands.marks flag name family kept here there s key (subst (λ last. Contains (last ∷ map (λ one. one.number) state.live) s) stands.same.last number))
        ∙ sym (behind_reads kept table s key staged)

    pub behind_changes : Changes core state name 6 0 core.last table behind_change family kept
    behind_changes = record {
      reads = λ s key number. ap value_of (behind_marks s key number);
      marks = λ flag. behind_marks;
      falls = behind_numbers_fall family table view staged free (found_each NumbersFall core.families name family stands.falls here);
      within = file_within family 6 0 core.last core.last table (omega arith) (omega arith) within;
      apart = file_apart family 6 0 table view staged (λ positive. free) (found_each LevelsApart core.families name family stands.apart here);
      ranges = λ flag. behind_ranges family kept table view staged free (stands.ranges flag name family kept here there);
      known = file_known family kept 6 0 table (stands.known name family kept here there);
      written = stands.written name family kept here there;
      jobs = jobs_behind;
      keeps = each_of (KeepsReads core family) (KeepsReads core (put_file 6 0 table family)) (jobs_of core family) (λ job keeps. behind_leaves_reads core family job table flag keeps) keeps;
      view = file_view family 6 0 table view staged;
    }
