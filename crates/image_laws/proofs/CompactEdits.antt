-- The group of an installed compaction is right: its inputs are named, its outputs are new.
use Rattle.std.proofs.Common.{◌≡◌, ℕ, Bool, true, false, cond, ◌&&◌, ◌||◌, List, [], ◌∷◌, ◌++◌, map, fold, find, flat_map, Option, Some, refl, ap, subst, ◌∙◌, arith}
use Rattle.std.specs.Prelude.{IsTrue, ◌==◌, max}
use Rattle.std.specs.List.{list_any, AllByRecursion as Each, AllZip}
use Rattle.std.proofs.lemmas.Bool.{false≢true, eqb-true}
use Rattle.st_base.specs.Bytes.{below}
use Rattle.st_base.specs.Range.{key_at_front}
use Rattle.st_model.specs.declared.state.ModelState.{ModelState}
use Rattle.base_laws.proofs.Lists.{each_as, each_filter, each_front, each_join, each_passed}
use Rattle.core_laws.proofs.Lists.{pairs_filter}
use Rattle.core_model.specs.Relation.{Represents}
use Rattle.core_model.specs.Picture.{FileEntries, FamilyView, Job, Core, lowest_level, jobs_of, is_input, tables_in, put_by_key}
use Rattle.core_model.specs.RelationParts.{IsRunning, IsCompacting, JobsRun, input_tables}
use Rattle.core_model.specs.Step.{noted_job}
use Rattle.manifest_edits.specs.Edits.{Placement, Edit, DropTable, Last, NamedFamily, Named, changed_named, has_id, has_table, has_table_in, is_file, edited_all, with_table, is_last_edit, ends_with_last, may_place}
use Rattle.store_image.specs.Parts.{ImageParts, table_at, placed_at, by_key, level_of, image_levels}
use Rattle.store_image.specs.Tie.{IsTiedFamily}
use Rattle.image_laws.proofs.RightEdits.{IsNewTable, FilesDiffer, without_tables, tables_added, tables_dropped, dropped_absent, ids_kept, changes_one, last_ends}
use Rattle.manifest_edits.specs.Logs.{LogOp}
use Rattle.manifest_edits.specs.CallEdits.{add_table_edit, with_files_named, placed_for_family, compact_edits}
use Rattle.store_image.specs.Calls.{FilesAllDiffer, compacted_named}
use Rattle.st_order.specs.Columns.{Pairwise}

-- ---- a job that is noted runs

found_each : {X : Type 0} (P : X → Type 0) (p : X → Bool) (xs : List X) (x : X) → Each P xs → find p xs ≡ Some x → P x
found_each P p [] x h e = absurd (cc e)
found_each {X} P p (y ∷ ys) x h e = go (p y) e (found_each P p ys x h.1)
  where
    go : (b : Bool) → cond b (Some y) (find p ys) ≡ Some x → (find p ys ≡ Some x → P x) → P x
    go true e rest = subst P (some_is e) h.0
      where
        some_is : Some y ≡ Some x → y ≡ x
        some_is e = cc e
    go false e rest = rest e

itself : (n : ℕ) → (n == n) ≡ true
itself n = grind arith

-- the family of a noted job has it as one that runs
pub noted_runs : (core : Core) (state : ModelState) (number : ℕ) (job : Job) → Represents core state → noted_job core number ≡ Some job → Each (λ here. here.1.id ≡ job.family → IsRunning (lowest_level core) here.1 job) core.families
noted_runs core state number job stands e = go core.families stands.jobs
  where
    go : (cs : List (List ℕ × FamilyView)) → Each (λ here. JobsRun (lowest_level core) (jobs_of core here.1) here.1) cs → Each (λ here. here.1.id ≡ job.family → IsRunning (lowest_level core) here.1 job) cs
    go [] h = tt
    go (c ∷ cs) h = (
      (λ id. found_each (λ one. (one.family == c.1.id) ≡ true → IsRunning (lowest_level core) c.1 one) (λ one. one.number == number) core.jobs job
          (each_passed (IsRunning (lowest_level core) c.1) (λ one. one.family == c.1.id) core.jobs h.0.each) e (ap (λ n. job.family == n) id ∙ itself job.family)),
      go cs h.1,
    )

-- ---- each table of a level is placed

put_one : (P : FileEntries → Type 0) (table : FileEntries) (tables : List FileEntries) → P table → Each P tables → Each P (put_by_key table tables)
put_one P table [] p h = (p, tt)
put_one P table (other ∷ tables) p h = go (below (key_at_front table.entries) (key_at_front other.entries)) (put_one P table tables p h.1)
  where
    go : (b : Bool) → Each P (put_by_key table tables) → Each P (cond b (table ∷ other ∷ tables) (other ∷ put_by_key table tables))
    go true rest = (p, h)
    go false rest = (h.0, rest)

by_key_all : (P : FileEntries → Type 0) (tables : List FileEntries) → Each P tables → Each P (by_key tables)
by_key_all P [] h = tt
by_key_all P (table ∷ tables) h = put_one P table (by_key tables) h.0 (by_key_all P tables h.1)

abbrev IsPlaced : List Placement → ℕ → Type 0
IsPlaced placed file = list_any (is_file file) placed ≡ true

later : (one : Placement) (placed : List Placement) (file : ℕ) → IsPlaced placed file → IsPlaced (one ∷ placed) file
later one placed file h = go (is_file file one) h
  where
    go : (b : Bool) → list_any (is_file file) placed ≡ true → (b || list_any (is_file file) placed) ≡ true
    go true e = refl
    go false e = e

own_placed : (placed : List Placement) → Each (λ one. IsPlaced placed one.file) placed
own_placed [] = tt
own_placed (one ∷ placed) = (ap (λ b. b || list_any (is_file one.file) placed) (itself one.file), each_as (λ (other : Placement). IsPlaced placed other.file) (λ other. IsPlaced (one ∷ placed) other.file) (λ other h. later one placed other.file h) placed (own_placed placed))

mapped : (parts : ImageParts) (P : ℕ → Type 0) (placed : List Placement) → Each (λ one. P one.file) placed → Each (λ table. P table.file) (map (table_at parts) placed)
mapped parts P [] h = tt
mapped parts P (one ∷ placed) h = (h.0, mapped parts P placed h.1)

level_all : (parts : ImageParts) (P : ℕ → Type 0) (placed : List Placement) (n : ℕ) → Each (λ one. P one.file) placed → Each (λ table. P table.file) (map (table_at parts) (placed_at n placed))
level_all parts P placed n h = mapped parts P (placed_at n placed) (each_filter (λ one. P one.file) (λ (one : Placement). one.level == n) placed h)

levels_all : (parts : ImageParts) (P : ℕ → Type 0) (placed : List Placement) → Each (λ one. P one.file) placed → Each (λ table. P table.file) (tables_in (image_levels parts placed))
levels_all parts P placed h =
    each_join (λ (table : FileEntries). P table.file) (map (table_at parts) (placed_at 0 placed)) (tables_in (map (level_of parts placed) (1 ∷ 2 ∷ 3 ∷ 4 ∷ 5 ∷ 6 ∷ []))) (level_all parts P placed 0 h) (upper (1 ∷ 2 ∷ 3 ∷ 4 ∷ 5 ∷ 6 ∷ []))
  where
    upper : (ns : List ℕ) → Each (λ (table : FileEntries). P table.file) (tables_in (map (level_of parts placed) ns))
    upper [] = tt
    upper (n ∷ ns) = each_join (λ (table : FileEntries). P table.file) (level_of parts placed n) (tables_in (map (level_of parts placed) ns)) (by_key_all (λ table. P table.file) (map (table_at parts) (placed_at n placed)) (level_all parts P placed n h)) (upper ns)

pub all_placed : (parts : ImageParts) (placed : List Placement) → Each (λ table. list_any (is_file table.file) placed ≡ true) (tables_in (image_levels parts placed))
all_placed parts placed = levels_all parts (IsPlaced placed) placed (own_placed placed)

-- ---- the inputs are named

each_files : (P : ℕ → Type 0) (tables : List FileEntries) → Each (λ table. P table.file) tables → Each P (map (λ (table : FileEntries). table.file) tables)
each_files P [] h = tt
each_files P (table ∷ tables) h = (h.0, each_files P tables h.1)

inputs_placed : (parts : ImageParts) (ops : List LogOp) (last bottom : ℕ) (job : Job) (here : List ℕ × FamilyView) (there : List ℕ × NamedFamily) → IsTiedFamily parts ops last here there → IsCompacting bottom here.1 job → Each (IsPlaced there.1.tables) job.files
inputs_placed parts ops last bottom job here there tied runs =
    subst (Each (IsPlaced there.1.tables)) runs.files
    (each_files (IsPlaced there.1.tables) (input_tables here.1 job)
    (each_filter (λ (table : FileEntries). IsPlaced there.1.tables table.file) (is_input job) (tables_in here.1.levels) (subst (λ levels. Each (λ (table : FileEntries). IsPlaced there.1.tables table.file) (tables_in levels)) tied.levels (all_placed parts there.1.tables))))

abbrev pub RunsWhere : ℕ → Job → List ℕ × FamilyView → Type 0
RunsWhere bottom job here = here.1.id ≡ job.family → IsCompacting bottom here.1 job

pub inputs_named : (parts : ImageParts) (ops : List LogOp) (last bottom : ℕ) (job : Job) (cs : List (List ℕ × FamilyView)) (ns : List (List ℕ × NamedFamily)) → AllZip (IsTiedFamily parts ops last) cs ns → Each (RunsWhere bottom job) cs
    → list_any (λ here. here.1.id == job.family) cs ≡ true → Each (λ file. list_any (λ family. (family.1.id == job.family) && list_any (is_file file) family.1.tables) ns ≡ true) job.files
inputs_named parts ops last bottom job [] ns tied runs there = absurd (false≢true there)
inputs_named parts ops last bottom job (c ∷ cs) [] tied runs there = absurd tied
inputs_named parts ops last bottom job (c ∷ cs) (n ∷ ns) tied runs there = go (c.1.id == job.family) refl there (inputs_named parts ops last bottom job cs ns tied.1 runs.1)
  where
    right : (b : Bool) → (b || true) ≡ true
    right true = refl
    right false = refl

    go : (b : Bool) → (c.1.id == job.family) ≡ b → (b || list_any (λ here. here.1.id == job.family) cs) ≡ true
        → (list_any (λ here. here.1.id == job.family) cs ≡ true → Each (λ file. list_any (λ family. (family.1.id == job.family) && list_any (is_file file) family.1.tables) ns ≡ true) job.files)
        → Each (λ file. list_any (λ family. (family.1.id == job.family) && list_any (is_file file) family.1.tables) (n ∷ ns) ≡ true) job.files
    go true e h rest = each_as (IsPlaced n.1.tables) (λ file. list_any (λ family. (family.1.id == job.family) && list_any (is_file file) family.1.tables) (n ∷ ns) ≡ true)
        (λ file placed. ap (λ m. ((m == job.family) && list_any (is_file file) n.1.tables) || list_any (λ family. (family.1.id == job.family) && list_any (is_file file) family.1.tables) ns) tied.0.id
        ∙ ap (λ b. (b && list_any (is_file file) n.1.tables) || list_any (λ family. (family.1.id == job.family) && list_any (is_file file) family.1.tables) ns) e
        ∙ ap (λ b. b || list_any (λ family. (family.1.id == job.family) && list_any (is_file file) family.1.tables) ns) placed)
        job.files (inputs_placed parts ops last bottom job c n tied.0 (runs.0 (eqb-true c.1.id job.family e)))
    go false e h rest = each_as (λ file. list_any (λ family. (family.1.id == job.family) && list_any (is_file file) family.1.tables) ns ≡ true) (λ file. list_any (λ family. (family.1.id == job.family) && list_any (is_file file) family.1.tables) (n ∷ ns) ≡ true)
        (λ file more. ap (λ b. ((n.1.id == job.family) && list_any (is_file file) n.1.tables) || b) more ∙ right ((n.1.id == job.family) && list_any (is_file file) n.1.tables)) job.files (rest h)

-- ---- they differ

differs : (n m : ℕ) → (n ≡ m → ⊥) → (n == m) ≡ false
differs n m h = go (n == m) refl
  where
    go : (b : Bool) → (n == m) ≡ b → (n == m) ≡ false
    go true e = absurd (h (eqb-true n m e))
    go false e = e

abbrev FilesApart : List FileEntries → Type 0
FilesApart tables = Pairwise (λ one other. one.file ≡ other.file → ⊥) tables

files_apart : (tables : List FileEntries) → FilesApart tables → FilesAllDiffer (map (λ (table : FileEntries). table.file) tables)
files_apart [] h = tt
files_apart (table ∷ tables) h = (firsts tables h.0, files_apart tables h.1)
  where
    firsts : (others : List FileEntries) → Each (λ other. table.file ≡ other.file → ⊥) others → Each (λ file. (table.file == file) ≡ false) (map (λ (table : FileEntries). table.file) others)
    firsts [] h = tt
    firsts (other ∷ others) h = (differs table.file other.file h.0, firsts others h.1)

pub apart_front : (xs ys : List FileEntries) → FilesApart (xs ++ ys) → FilesApart xs
apart_front [] ys h = tt
apart_front (x ∷ xs) ys h = (each_front (λ (other : FileEntries). x.file ≡ other.file → ⊥) xs ys h.0, apart_front xs ys h.1)

pub apart_back : (xs ys : List FileEntries) → FilesApart (xs ++ ys) → FilesApart ys
apart_back [] ys h = h
apart_back (x ∷ xs) ys h = apart_back xs ys h.1

pub inputs_differ : (bottom : ℕ) (job : Job) (cs : List (List ℕ × FamilyView)) → FilesApart (flat_map (λ named. tables_in named.1.levels) cs) → Each (RunsWhere bottom job) cs → list_any (λ here. here.1.id == job.family) cs ≡ true → FilesAllDiffer job.files
inputs_differ bottom job [] apart runs there = absurd (false≢true there)
inputs_differ bottom job (c ∷ cs) apart runs there = go (c.1.id == job.family) refl there (inputs_differ bottom job cs (apart_back (tables_in c.1.levels) (flat_map (λ named. tables_in named.1.levels) cs) apart) runs.1)
  where
    go : (b : Bool) → (c.1.id == job.family) ≡ b → (b || list_any (λ here. here.1.id == job.family) cs) ≡ true → (list_any (λ here. here.1.id == job.family) cs ≡ true → FilesAllDiffer job.files) → FilesAllDiffer job.files
    go true e h rest =
        subst FilesAllDiffer (runs.0 (eqb-true c.1.id job.family e)).files
        (files_apart (input_tables c.1 job) (pairs_filter (λ (one other : FileEntries). one.file ≡ other.file → ⊥) (is_input job) (tables_in c.1.levels) (apart_front (tables_in c.1.levels) (flat_map (λ named. tables_in named.1.levels) cs) apart)))
    go false e h rest = rest h

-- ---- the group

-- tables added one by one to one family
pub files_fold : (id : ℕ) (g : NamedFamily → NamedFamily) (placed : List Placement) (families : List (List ℕ × NamedFamily)) → ((family : NamedFamily) → (g family).id ≡ family.id)
    → with_files_named (placed_for_family id placed) (changed_named id g families) ≡ changed_named id (λ family. fold (λ family one. with_table one family) (g family) placed) families
files_fold id g [] families keeps = refl
files_fold id g (one ∷ placed) families keeps =
    ap (with_files_named (placed_for_family id placed)) (changes_one id g (with_table one) (λ family. with_table one (g family)) keeps (λ family. refl) families)
    ∙ files_fold id (λ family. with_table one (g family)) placed families keeps

pub compact_right : (named : Named) (job : Job) (placed : List Placement) (last : ℕ) → Each (λ file. has_table_in named job.family file ≡ true) job.files → FilesAllDiffer job.files
    → has_id job.family named.families ≡ true → Each (λ one. (has_table named one.file ≡ false) × (may_place one ≡ true)) placed → Pairwise (λ one other. (one.file == other.file) ≡ false) placed
    → edited_all named (compact_edits job.family job.files placed last) ≡ Some (record { families = changed_named job.family (compacted_named job placed) named.families; logs = named.logs; last = max named.last last })
compact_right named job placed last inputs apart there new differ =
    tables_dropped named job.family job.files (map add_table_edit (placed_for_family job.family placed) ++ Last last ∷ []) inputs apart
    ∙ tables_added (record named { families = changed_named job.family (without_tables job.files) named.families }) (placed_for_family job.family placed) (Last last ∷ []) (news placed new) (differing placed differ)
    ∙ ap {B = Option Named} (λ families. Some (record { families = families; logs = named.logs; last = max named.last last })) (files_fold job.family (without_tables job.files) placed named.families (λ family. refl))
  where
    news : (placed : List Placement) → Each (λ one. (has_table named one.file ≡ false) × (may_place one ≡ true)) placed → Each (IsNewTable (record named { families = changed_named job.family (without_tables job.files) named.families })) (placed_for_family job.family placed)
    news [] h = tt
    news (one ∷ placed) h = (
      record {
        there = ids_kept job.family (without_tables job.files) job.family (λ family. refl) named.families ∙ there;
        new = dropped_absent job.family job.files one.file named.families h.0.0;
        above = h.0.1;
      },
      news placed h.1,
    )

    differing : (placed : List Placement) → Pairwise (λ one other. (one.file == other.file) ≡ false) placed → FilesDiffer (placed_for_family job.family placed)
    differing [] h = tt
    differing (one ∷ placed) h = (each placed h.0, differing placed h.1)
      where
        each : (placed : List Placement) → Each (λ other. (one.file == other.file) ≡ false) placed → Each (λ (other : ℕ × Placement). (one.file == other.1.file) ≡ false) (placed_for_family job.family placed)
        each [] h = tt
        each (other ∷ placed) h = (h.0, each placed h.1)

pub compact_ends : (id : ℕ) (files : List ℕ) (placed : List Placement) (last : ℕ) → IsTrue (ends_with_last (compact_edits id files placed last))
compact_ends id files placed last =
    subst (λ edits. IsTrue (ends_with_last edits)) (assoc (map (DropTable id) files) (map add_table_edit (placed_for_family id placed)) (Last last ∷ []))
    (last_ends (map (DropTable id) files ++ map add_table_edit (placed_for_family id placed)) last (each_join (λ edit. is_last_edit edit ≡ false) (map (DropTable id) files) (map add_table_edit (placed_for_family id placed)) (drops files) (adds placed)))
  where
    assoc : (a b c : List Edit) → (a ++ b) ++ c ≡ a ++ (b ++ c)
    assoc [] b c = refl
    assoc (x ∷ a) b c = ap (λ l. x ∷ l) (assoc a b c)

    drops : (files : List ℕ) → Each (λ edit. is_last_edit edit ≡ false) (map (DropTable id) files)
    drops [] = tt
    drops (file ∷ files) = (refl, drops files)

    adds : (placed : List Placement) → Each (λ edit. is_last_edit edit ≡ false) (map add_table_edit (placed_for_family id placed))
    adds [] = tt
    adds (one ∷ placed) = (refl, adds placed)
