-- What a refused file's cause names.
use Rattle.std.proofs.Common.{◌≡◌, ℕ, ◌≤◌, Bool, true, false, cond, ◌&&◌, ◌||◌, List, [], ◌∷◌, filter, length, Option, Some, None, unwrap_or, refl, sym, ap, subst, inl, inr, arith}
use Rattle.std.specs.Prelude.{Contains, nat_lt, find, slice_get}
use Rattle.std.specs.Option.{option_map}
use Rattle.std.specs.List.{list_any, AllByRecursion as Each}
use Rattle.std.proofs.lemmas.Bool.{false≢true, and_from, or_left, or_right, ltb-true}
use Rattle.st_base.specs.Bytes.{at_most, below, same}
use Rattle.st_base.specs.Map.{value_at}
use Rattle.st_base.specs.declared.entry.Entry.{Entry}
use Rattle.st_base.proofs.Same.{same_sym}
use Rattle.st_model.specs.declared.refusal.FileAt.{FileAt}
use Rattle.st_model.specs.declared.refusal.Why.{Why}
use Rattle.st_model.specs.declared.refusal.Why.TheVariants.{Key, Running, Meets, Files, Snapshot}
use Rattle.st_model.specs.declared.command.FileSeen.TheVariants as seen
use Rattle.st_model.specs.declared.state.ModelFamily.{ModelFamily}
use Rattle.st_model.specs.declared.state.ModelState.{ModelState}
use Rattle.st_base.specs.Range.{is_in_range, meet, key_at_front, key_at_end}
use Rattle.st_model.specs.Refusals.{is_in, names_known}
use Rattle.st_model.specs.Request.{File}
use Rattle.st_model.specs.State.{family_of, is_known}
use Rattle.base_laws.proofs.Keys.{at_most_itself, at_most_trans, below_at_most}
use Rattle.base_laws.proofs.Maps.{found_each}
use Rattle.core_model.specs.Commit.{met_at}
use Rattle.core_model.specs.Relation.{Represents}
use Rattle.core_model.specs.Level.{level_rule}
use Rattle.core_model.specs.Pick.{joint_range}
use Rattle.core_model.specs.Picture.{FileEntries, FamilyView, Job, Part, Core, lowest_level, runs_of, tables_in, memories, walk, table_range, is_input, jobs_of, running_of}
use Rattle.core_model.specs.RelationParts.{IsView, HasEntry, JobsRun, IsRunning, IsCompacting, IsSortedRun}
use Rattle.core_laws.proofs.Causes.{Reason, cause_reason, find_some}
use Rattle.core_laws.proofs.FileChanges.{filter_with}
use Rattle.core_laws.proofs.FileColumns.{each_append, each_level, each_entries}
use Rattle.core_laws.proofs.FileJobs.{each_with, entries_all}
use Rattle.core_laws.proofs.PlacedFile.{running_known}
use Rattle.core_laws.proofs.ByPlace.{each_there}
use Rattle.core_laws.proofs.JointRange.{end_holds, front_holds, front_le_end}
use Rattle.core_laws.proofs.InstalledLevels.{tables_rows}

-- known keys, either way round
pub known_is_in : (keys : List (List ℕ)) (key : List ℕ) → list_any (λ known. same known key) keys ≡ true → is_in keys key ≡ true
known_is_in [] key e = e
known_is_in (known ∷ keys) key e = step (same known key) refl e (known_is_in keys key)
  where
    step : (b : Bool) → same known key ≡ b → (b || list_any (λ known. same known key) keys) ≡ true → (list_any (λ known. same known key) keys ≡ true → is_in keys key ≡ true) → (same key known || is_in keys key) ≡ true
    step true is e rest = or_left (same key known) (is_in keys key) (same_sym known key is)
    step false is e rest = or_right (same key known) (is_in keys key) (rest e)

pub four_true : (a b c d : Bool) → a ≡ true → b ≡ true → c ≡ true → d ≡ true → (a && b && c && d) ≡ true
four_true true true true true is_a is_b is_c is_d = refl
four_true true true true false is_a is_b is_c is_d = is_d
four_true true true false d is_a is_b is_c is_d = absurd (false≢true is_c)
four_true true false c d is_a is_b is_c is_d = absurd (false≢true is_b)
four_true false b c d is_a is_b is_c is_d = absurd (false≢true is_a)

-- a joint range isn't upside down
less_first : (one other : List ℕ) → at_most (cond (below other one) other one) one ≡ true
less_first one other = step (below other one) refl
  where
    step : (b : Bool) → below other one ≡ b → at_most (cond b other one) one ≡ true
    step true is = below_at_most other one is
    step false is = at_most_itself one

more_last : (one other : List ℕ) → at_most one (cond (below one other) other one) ≡ true
more_last one other = step (below one other) refl
  where
    step : (b : Bool) → below one other ≡ b → at_most one (cond b other one) ≡ true
    step true is = below_at_most one other is
    step false is = at_most_itself one

joint_upright : (inputs : List (List Entry)) → 1 ≤ length inputs → Each (λ entries. 1 ≤ length entries) inputs → Each IsSortedRun inputs → at_most (joint_range inputs).first (joint_range inputs).last ≡ true
joint_upright [] some filled rows = absurd (omega arith)
joint_upright (entries ∷ []) some filled rows = front_le_end entries filled.0 rows.0.ordered
joint_upright (entries ∷ other ∷ more) some filled rows =
    at_most_trans (joint_range (entries ∷ other ∷ more)).first (key_at_front entries) (joint_range (entries ∷ other ∷ more)).last (less_first (key_at_front entries) (joint_range (other ∷ more)).first)
    (at_most_trans (key_at_front entries) (key_at_end entries) (joint_range (entries ∷ other ∷ more)).last (front_le_end entries filled.0 rows.0.ordered) (more_last (key_at_end entries) (joint_range (other ∷ more)).last))

abbrev pub IsCause : Why → Type 0
IsCause (Key key) = Unit {0}
IsCause (Running range) = Unit {0}
IsCause (Meets range) = ⊥
IsCause (Snapshot number) = ⊥
IsCause (Files i j) = ⊥

module _ (core : Core) (state : ModelState) (stands : Represents core state) (part : Part) (family : FamilyView) (kept : ModelFamily) (here : value_at core.families part.family ≡ Some family) (there : family_of state part.family ≡ Some kept) (a : ℕ) where
  running_upright : (job : Job) → Contains (running_of core family) job → at_most job.range.first job.range.last ≡ true
  running_upright job running =
      let facts = each_there (λ one. IsCompacting (lowest_level core) family one × (one.range ≡ joint_range one.inputs)) (running_of core family) job every running in
      subst (λ range. at_most range.first range.last ≡ true) (sym facts.1)
      (joint_upright job.inputs facts.0.some
      (subst (Each (λ entries. 1 ≤ length entries)) facts.0.inputs (entries_all (λ entries. 1 ≤ length entries) (filter (is_input job) (tables_in family.levels)) (filter_with (is_input job) HasEntry HasEntry (tables_in family.levels) (λ one has _. has) view.filled)))
      (subst (Each IsSortedRun) facts.0.inputs (entries_all IsSortedRun (filter (is_input job) (tables_in family.levels)) (filter_with (is_input job) (λ one. IsSortedRun one.entries) (λ one. IsSortedRun one.entries) (tables_in family.levels) (λ one has _. has) (tables_rows family view)))))
    where
      view : IsView family
      view = found_each IsView core.families part.family family stands.views here

      run : JobsRun (lowest_level core) (jobs_of core family) family
      run = found_each (λ one. JobsRun (lowest_level core) (jobs_of core one) one) core.families part.family family stands.jobs here

      every : Each (λ one. IsCompacting (lowest_level core) family one × (one.range ≡ joint_range one.inputs)) (running_of core family)
      every = filter_with (λ (one : Job). nat_lt 0 one.level) (λ one. IsRunning (lowest_level core) family one × (one.range ≡ joint_range one.inputs)) (λ one. IsCompacting (lowest_level core) family one × (one.range ≡ joint_range one.inputs)) (jobs_of core family)
          (λ one facts positive. (facts.0.1 (ltb-true 0 one.level positive), facts.1))
          (each_with (IsRunning (lowest_level core) family) (λ one. one.range ≡ joint_range one.inputs) (λ one. IsRunning (lowest_level core) family one × (one.range ≡ joint_range one.inputs)) (jobs_of core family) (λ one x y. (x, y)) run.each run.ranges)

  module _ (c : Core) (now : FamilyView) (table : FileEntries) (at : FileAt) (low : ℕ) (same_running : running_of c now ≡ running_of core family) (keys : List (List ℕ)) (more : (key : List ℕ) → is_known kept key ≡ true → is_in keys key ≡ true) where
    abbrev file : File
    file = record { at = at; seen = seen.Table table.entries }

    pub named_cause : (P : List ℕ → Type 0) (why : Why) → ((key : List ℕ) → is_in_range (table_range table) key ≡ true → P key → is_in keys key ≡ true) → Each (Each (λ entry. P entry.key)) (walk now)
        → (level_rule now.levels (running_of c now) (table_range table) low).cause ≡ Some why → (names_known keys why file ≡ true) × IsCause why
    named_cause P why is_named each cause = step (cause_reason P now.levels (running_of c now) (table_range table) low why (each_append (Each (λ entry. P entry.key)) (memories now) (runs_of (tables_in now.levels)) each).1 cause)
      where
        step : Reason P (running_of c now) (table_range table) why → (names_known keys why file ≡ true) × IsCause why
        step (inl (key, within, holds, is)) = subst (λ one. (names_known keys one file ≡ true) × IsCause one) (sym is) (and_from (is_in keys key) (is_in_range (table_range table) key) (is_named key within holds) within, tt)
        step (inr (job, running, meets, is)) =
            let held = subst (λ jobs. Contains jobs job) same_running running in
            let ends = running_known core state stands part family kept here there a job held in
            subst (λ one. (names_known keys one file ≡ true) × IsCause one) (sym is)
            (four_true (is_in keys job.range.first) (is_in keys job.range.last) (at_most job.range.first job.range.last) (meet job.range (table_range table)) (more job.range.first ends.0) (more job.range.last ends.1) (running_upright job held) meets, tt)

    -- the first table of a level that meets the file
    pub named_met : (why : Why) → IsView now → Each (Each (λ entry. is_in keys entry.key ≡ true)) (walk now) → met_at low now.levels (table_range table) ≡ Some why → names_known keys why file ≡ true
    named_met why view each met = step (find (λ (one : FileEntries). meet (table_range one) (table_range table)) level) refl met
      where
        level : List FileEntries
        level = unwrap_or (slice_get now.levels low) []

        same_why : Why → Option Why → Why
        same_why d None = d
        same_why d (Some one) = one

        step : (found : Option FileEntries) → find (λ (one : FileEntries). meet (table_range one) (table_range table)) level ≡ found → option_map (λ (one : FileEntries). Meets (table_range one)) found ≡ Some why → names_known keys why file ≡ true
        step None is e = absurd cc
        step (Some one) is e =
            let held = find_some (λ (one : FileEntries). meet (table_range one) (table_range table)) level one is in
            let filled = each_there HasEntry level one (each_level HasEntry now.levels low view.filled) held.0 in
            let rows = each_there (λ (one : FileEntries). IsSortedRun one.entries) level one (each_level (λ one. IsSortedRun one.entries) now.levels low (tables_rows now view)) held.0 in
            let known = each_there (λ (one : FileEntries). Each (λ entry. is_in keys entry.key ≡ true) one.entries) level one
            (each_level (λ one. Each (λ entry. is_in keys entry.key ≡ true) one.entries) now.levels low (each_entries (Each (λ entry. is_in keys entry.key ≡ true)) (tables_in now.levels) (each_append (Each (λ entry. is_in keys entry.key ≡ true)) (memories now) (runs_of (tables_in now.levels)) each).1)) held.0 in
            subst (λ why. names_known keys why file ≡ true) (ap (same_why why) e)
            (four_true (is_in keys (table_range one).first) (is_in keys (table_range one).last) (at_most (table_range one).first (table_range one).last) (meet (table_range one) (table_range table))
            (front_holds (λ key. is_in keys key ≡ true) one.entries filled known) (end_holds (λ key. is_in keys key ≡ true) one.entries filled known) (front_le_end one.entries filled rows.ordered) held.1)
