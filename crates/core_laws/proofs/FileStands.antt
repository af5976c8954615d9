-- A file that is put in one family: the whole relation.
use Rattle.std.proofs.Common.{◌≡◌, ℕ, ◌≤◌, Bool, true, false, cond, List, [], ◌∷◌, Some, None, refl, sym, ap, ap₂, subst, subst₂, ◌∙◌, inl, inr, ◌⊎◌, arith}
use Rattle.std.specs.Prelude.{IsTrue, Contains, IfSome}
use Rattle.std.specs.List.{AllByRecursion as Each}
use Rattle.std.proofs.lemmas.Bool.{false≢true}
use Rattle.st_base.specs.Bytes.{same, below}
use Rattle.st_base.specs.Entries.{add_charge}
use Rattle.st_base.specs.Map.{value_at, changed_at}
use Rattle.st_base.specs.declared.entry.Entry.{Entry}
use Rattle.st_base.proofs.Same.{same_true}
use Rattle.st_model.specs.declared.state.ModelFamily.{ModelFamily}
use Rattle.st_model.specs.declared.state.ModelState.{ModelState}
use Rattle.st_model.specs.Early.{read_numbers}
use Rattle.st_base.specs.Range.{file_charge}
use Rattle.st_model.specs.Read.{mark_at, value_of}
use Rattle.st_model.specs.Sound.{IsSound, WritesWithin}
use Rattle.st_model.specs.State.{family_of}
use Rattle.base_laws.proofs.Maps.{found_each}
use Rattle.core_model.specs.Commit.{put_file}
use Rattle.core_model.specs.Relation.{Represents}
use Rattle.core_model.specs.Picture.{FileEntries, FamilyView, Job, Core, lowest_level, jobs_of, all_tables, walk, find_mark}
use Rattle.core_model.specs.Request.{IsRequest, NamesThere}
use Rattle.core_model.specs.RelationParts.{ForBoth, ForEach, ReadsAs, HasModelMarks, NumbersFall, NumbersWithin, LevelsApart, HasRanges, IsView, HasKnownKeys, HasWritten, JobsRun, KeepsReads, IsTurn, ids_of, model_ids}
use Rattle.core_laws.proofs.FileFields.{found_last}
use Rattle.core_laws.proofs.FileJobs.{each_of}
use Rattle.core_laws.proofs.FileLift.{changed_value, rising_values, names_rise, old_number, last_read}
use Rattle.core_laws.proofs.FileReads.{mark_last}
use Rattle.core_laws.proofs.InstalledLevels.{column_each}
use Rattle.core_laws.proofs.Members.{pairs_of_all}
use Rattle.st_order.specs.Columns.{Pairwise, column}

module _ (core : Core) (state : ModelState) (name : List ℕ) (level number more : ℕ) (table : FileEntries) (change : ModelFamily → ModelFamily) where
  abbrev pub after_file : Core
  after_file = record core { last = more; charge = add_charge core.charge (file_charge table.entries); families = changed_at core.families name (put_file level number table) }

  abbrev pub state_file : ModelState
  state_file = record state { last = more; charge = add_charge state.charge (file_charge table.entries); families = changed_at state.families name change }

  -- what the file does to its family
  pub record Changes (family : FamilyView) (kept : ModelFamily) : Type 0 where
    pub reads : ReadsAs state_file (put_file level number table family) (change kept)
    pub marks : IsTrue core.behind → HasModelMarks state_file (put_file level number table family) (change kept)
    pub falls : NumbersFall (put_file level number table family)
    pub within : NumbersWithin more (put_file level number table family)
    pub apart : LevelsApart (put_file level number table family)
    pub ranges : IsTrue core.behind → HasRanges (put_file level number table family) (change kept)
    pub known : HasKnownKeys (put_file level number table family) (change kept)
    pub written : HasWritten (put_file level number table family) (change kept)
    pub jobs : JobsRun (lowest_level core) (jobs_of core family) (put_file level number table family)
    pub keeps : Each (KeepsReads core (put_file level number table family)) (jobs_of core family)
    pub view : IsView (put_file level number table family)

  ids_core : (families : List (List ℕ × FamilyView)) → ids_of (changed_at families name (put_file level number table)) ≡ ids_of families
  ids_core [] = refl
  ids_core (pair ∷ families) = ap₂ (λ one more. one ∷ more) (step (same pair.0 name)) (ids_core families)
    where
      step : (b : Bool) → ◌≡◌ {A = List ℕ × ℕ} (pair.0, (cond b (put_file level number table pair.1) pair.1).id) (pair.0, pair.1.id)
      step true = refl
      step false = refl

  ids_model : ((kept : ModelFamily) → (change kept).id ≡ kept.id) → (families : List (List ℕ × ModelFamily)) → model_ids (changed_at families name change) ≡ model_ids families
  ids_model same_id [] = refl
  ids_model same_id (pair ∷ families) = ap₂ (λ one more. one ∷ more) (step (same pair.0 name)) (ids_model same_id families)
    where
      step : (b : Bool) → ◌≡◌ {A = List ℕ × ℕ} (pair.0, (cond b (change pair.1) pair.1).id) (pair.0, pair.1.id)
      step true = ap (λ id. (pair.0, id)) (same_id pair.1)
      step false = refl

  -- a relation for both families: of the changed ones, and of the others
  both : (R : FamilyView → ModelFamily → Type 0)
      → ((family : FamilyView) (kept : ModelFamily) → value_at core.families name ≡ Some family → family_of state name ≡ Some kept → R (put_file level number table family) (change kept))
      → ((q : List ℕ) (family : FamilyView) (kept : ModelFamily) → value_at core.families q ≡ Some family → family_of state q ≡ Some kept → R family kept)
      → ForBoth after_file state_file R
  both R changes stays q family kept here there = step (changed_value name (put_file level number table) core.families q family here) (changed_value name change state.families q kept there)
    where
      step : ((x : FamilyView) × (value_at core.families name ≡ Some x) × (family ≡ put_file level number table x) × (same q name ≡ true)) ⊎ ((value_at core.families q ≡ Some family) × (same q name ≡ false))
          → ((x : ModelFamily) × (value_at state.families name ≡ Some x) × (kept ≡ change x) × (same q name ≡ true)) ⊎ ((value_at state.families q ≡ Some kept) × (same q name ≡ false)) → R family kept
      step (inl one) (inl other) = subst₂ R (sym one.2) (sym other.2) (changes one.0 other.0 one.1 other.1)
      step (inl one) (inr other) = absurd (false≢true (sym other.1 ∙ one.3))
      step (inr one) (inl other) = absurd (false≢true (sym one.1 ∙ other.3))
      step (inr one) (inr other) = stays q family kept one.0 other.0

  module _ (stands : Represents core state) where
    rise : Pairwise (λ one other. below one.0 other.0 ≡ true) core.families
    rise = names_rise core.families state.families stands.same.families (pairs_of_all (λ one other. below one.0 other.0 ≡ true) state.families stands.sound.names)

    -- of each family of the core
    each : (P : FamilyView → Type 0) → ((family : FamilyView) → value_at core.families name ≡ Some family → P (put_file level number table family))
        → ((q : List ℕ) (family : FamilyView) → value_at core.families q ≡ Some family → P family) → ForEach after_file P
    each P changes stays = all core.families (rising_values core.families rise)
      where
        all : (some : List (List ℕ × FamilyView)) → Each (λ pair. value_at core.families pair.0 ≡ Some pair.1) some → Each (λ pair. P pair.1) (changed_at some name (put_file level number table))
        all [] found = tt
        all (pair ∷ some) found = (step (same pair.0 name) refl, all some found.1)
          where
            step : (b : Bool) → same pair.0 name ≡ b → P (cond b (put_file level number table pair.1) pair.1)
            step true at = changes pair.1 (ap (value_at core.families) (sym (same_true pair.0 name at)) ∙ found.0)
            step false at = stays pair.0 pair.1 found.0

    -- marks of a family that stays
    same_marks : (up : core.last ≤ more) (s : ℕ) (key q : List ℕ) (family : FamilyView) (kept : ModelFamily) → value_at core.families q ≡ Some family → family_of state q ≡ Some kept → Contains (read_numbers state_file) s
        → (old : ℕ) × (Contains (read_numbers state) old) × (find_mark family s key ≡ find_mark family old key) × (mark_at kept s key ≡ mark_at kept old key)
    same_marks up s key q family kept here there number = step (old_number state more s stands.sound number)
      where
        within : NumbersWithin core.last family
        within = found_each (NumbersWithin core.last) core.families q family stands.within here

        writes : WritesWithin state.last kept
        writes = found_each (WritesWithin state.last) state.families q kept stands.sound.writes there

        step : (Contains (read_numbers state) s × (s ≤ state.last)) ⊎ (s ≡ more) → (old : ℕ) × (Contains (read_numbers state) old) × (find_mark family s key ≡ find_mark family old key) × (mark_at kept s key ≡ mark_at kept old key)
        step (inl old) = (s, old.0, refl, refl)
        step (inr now) = (
          state.last,
          last_read state,
          found_last state.last s (column key (walk family)) (subst (λ last. Each (λ entry. entry.number ≤ last) (column key (walk family))) stands.same.last (column_each (λ entry. entry.number ≤ core.last) key (walk family) within)) (omega (arith, stands.same.last)),
          mark_last kept state.last s key writes (omega (arith, stands.same.last)),
        )

    keeps_more : (up : core.last ≤ more) (family : FamilyView) (job : Job) → KeepsReads core family job → KeepsReads after_file family job
    keeps_more up family job keeps = record { live = keeps.live; began = omega (arith, keeps.began); numbers = keeps.numbers; within = keeps.within; nothing = keeps.nothing; flag = keeps.flag }

    pub lifted : core.turn ≡ None → core.last ≤ more → ((kept : ModelFamily) → (change kept).id ≡ kept.id)
        → ((family : FamilyView) (kept : ModelFamily) → value_at core.families name ≡ Some family → family_of state name ≡ Some kept → Changes family kept)
        → ((family : FamilyView) → value_at core.families name ≡ Some family → (kept : ModelFamily) × (family_of state name ≡ Some kept))
        → Pairwise (λ one other. one.file ≡ other.file → ⊥) (all_tables after_file) → IsSound state_file → Represents after_file state_file
    lifted none up same_id changes there fresh sound = record {
      same = record {
        place = stands.same.place;
        last = refl;
        charge = ap (λ charge. add_charge charge (file_charge table.entries)) stands.same.charge;
        behind = stands.same.behind;
        families = ids_core core.families ∙ stands.same.families ∙ sym (ids_model same_id state.families);
        next_family = stands.same.next_family;
        live = stands.same.live;
      };
      reads = both (ReadsAs state_file) (λ family kept one other. (changes family kept one other).reads)
          (λ q family kept one other s key number.
          let old = same_marks up s key q family kept one other number in
          ap value_of old.2 ∙ stands.reads q family kept one other old.0 key old.1 ∙ sym (ap value_of old.3));
      falls = each NumbersFall (λ family here. (of_one family here).falls) (λ q family here. found_each NumbersFall core.families q family stands.falls here);
      within = each (NumbersWithin more) (λ family here. (of_one family here).within)
          (λ q family here. each_of (Each (λ entry. entry.number ≤ core.last)) (Each (λ entry. entry.number ≤ more)) (walk family)
          (λ run. each_of (λ (entry : Entry). entry.number ≤ core.last) (λ entry. entry.number ≤ more) run (λ entry le. omega arith)) (found_each (NumbersWithin core.last) core.families q family stands.within here));
      apart = each LevelsApart (λ family here. (of_one family here).apart) (λ q family here. found_each LevelsApart core.families q family stands.apart here);
      ranges = λ flag. both HasRanges (λ family kept one other. (changes family kept one other).ranges flag) (λ q family kept one other. stands.ranges flag q family kept one other);
      marks = λ flag. both (HasModelMarks state_file) (λ family kept one other. (changes family kept one other).marks flag)
          (λ q family kept one other s key number.
          let old = same_marks up s key q family kept one other number in
          old.2 ∙ stands.marks flag q family kept one other old.0 key old.1 ∙ sym old.3);
      known = both HasKnownKeys (λ family kept one other. (changes family kept one other).known) stands.known;
      written = both HasWritten (λ family kept one other. (changes family kept one other).written) stands.written;
      jobs = each (λ family. JobsRun (lowest_level core) (jobs_of core family) family) (λ family here. (of_one family here).jobs)
          (λ q family here. found_each (λ one. JobsRun (lowest_level core) (jobs_of core one) one) core.families q family stands.jobs here);
      kept = each (λ family. Each (KeepsReads after_file family) (jobs_of core family))
          (λ family here. each_of (KeepsReads core (put_file level number table family)) (KeepsReads after_file (put_file level number table family)) (jobs_of core family) (keeps_more up (put_file level number table family)) (of_one family here).keeps)
          (λ q family here. each_of (KeepsReads core family) (KeepsReads after_file family) (jobs_of core family) (keeps_more up family) (found_each (λ one. Each (KeepsReads core one) (jobs_of core one)) core.families q family stands.kept here));
      turn = subst (λ found. IfSome found (λ turn. IsTurn after_file turn × NamesThere after_file turn.parts × IsRequest turn.parts)) (sym none) tt;
      views = each IsView (λ family here. (of_one family here).view) (λ q family here. found_each IsView core.families q family stands.views here);
      files = fresh;
      noted = record { numbers = stands.noted.numbers; outputs = stands.noted.outputs; made = stands.noted.made; families = stands.noted.families; live = stands.noted.live };
      sound = sound;
    }
      where
        of_one : (family : FamilyView) (here : value_at core.families name ≡ Some family) → Changes family (there family here).0
        of_one family here = changes family (there family here).0 here (there family here).1
