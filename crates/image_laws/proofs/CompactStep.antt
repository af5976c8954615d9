-- An installed compaction: its group is right and is cut into records that count down, and each image opens to the contents
-- of the state.
use Rattle.std.proofs.Common.{◌≡◌, ℕ, ◌≤◌, Bool, true, false, cond, ◌&&◌, ◌||◌, List, [], ◌∷◌, ◌++◌, length, refl, sym, ap, subst, ◌∙◌, arith}
use Rattle.std.specs.Prelude.{IsTrue, nat_le, ◌==◌}
use Rattle.std.specs.List.{list_any, AllByRecursion as Each, AllZip}
use Rattle.std.proofs.lemmas.Bool.{false≢true, eqb-true, eqb-false, le-leb}
use Rattle.st_base.specs.declared.entry.Entry.{Entry}
use Rattle.st_model.specs.declared.state.ModelState.{ModelState}
use Rattle.base_laws.proofs.Lists.{each_as}
use Rattle.core_model.specs.Compaction.{with_compacted}
use Rattle.core_model.specs.Relation.{Represents}
use Rattle.core_model.specs.Picture.{FileEntries, FamilyView, Job, Core, lowest_level}
use Rattle.core_model.specs.RelationParts.{IsRunning}
use Rattle.manifest_edits.specs.Edits.{Placement, NamedFamily, Named, GroupRecord, has_id, has_table, AddsFile, may_place}
use Rattle.store_image.specs.Opens.{holds_table, is_table}
use Rattle.store_image.specs.Parts.{HasTableFile, ImageParts, log_ops_of, file_entries}
use Rattle.store_image.specs.Steps.{HasMore}
use Rattle.store_image.specs.Tie.{EngineFiles, IsTiedFamily, IsUnwritten}
use Rattle.image_laws.proofs.Compact.{compact_holds}
use Rattle.image_laws.proofs.CompactEdits.{RunsWhere, noted_runs, inputs_named, inputs_differ, compact_right, compact_ends}
use Rattle.image_laws.proofs.CompactLevels.{levels_rise}
use Rattle.manifest_edits.proofs.Cut.{cut_group}
use Rattle.image_laws.proofs.Frame.{holds_frame}
use Rattle.image_laws.proofs.Added.{apart_named}
use Rattle.image_laws.proofs.StepOpens.{step_begun, step_named}
use Rattle.image_laws.proofs.Tables.{IsOutput}
use Rattle.manifest_edits.specs.Logs.{LogOp}
use Rattle.manifest_edits.specs.Groups.{IsGroup}
use Rattle.manifest_edits.specs.CallEdits.{compact_edits}
use Rattle.store_image.specs.Calls.{IsImageOf, files_with, IsNewFile, output_placements, compact_group, compact_named, IsInstallingCompaction}
use Rattle.st_order.specs.Columns.{Pairwise}
use Rattle.core_laws.proofs.ById.{installed_by_id}

not_flush : (level : ℕ) → (level == 0) ≡ false → 1 ≤ level
not_flush level e = let no = eqb-false level 0 e in omega (arith, no)

runs_where : (core : Core) (job : Job) → 1 ≤ job.level → Each (λ here. here.1.id ≡ job.family → IsRunning (lowest_level core) here.1 job) core.families → Each (RunsWhere (lowest_level core) job) core.families
runs_where core job low h = each_as (λ (here : List ℕ × FamilyView). here.1.id ≡ job.family → IsRunning (lowest_level core) here.1 job) (RunsWhere (lowest_level core) job) (λ here run id. (run id).1 low) core.families h

level_within : (bottom : ℕ) (job : Job) (cs : List (List ℕ × FamilyView)) → Each (RunsWhere bottom job) cs → list_any (λ here. here.1.id == job.family) cs ≡ true → job.level ≤ bottom
level_within bottom job [] runs there = absurd (false≢true there)
level_within bottom job (c ∷ cs) runs there = go (c.1.id == job.family) refl there (level_within bottom job cs runs.1)
  where
    go : (b : Bool) → (c.1.id == job.family) ≡ b → (b || list_any (λ here. here.1.id == job.family) cs) ≡ true → (list_any (λ here. here.1.id == job.family) cs ≡ true → job.level ≤ bottom) → job.level ≤ bottom
    go true e h rest = (runs.0 (eqb-true c.1.id job.family e)).level
    go false e h rest = rest h

lowest_within : (core : Core) → lowest_level core ≤ 6
lowest_within core = go core.behind
  where
    go : (b : Bool) → cond b 5 6 ≤ 6
    go true = omega arith
    go false = omega arith

pub id_named : (parts : ImageParts) (ops : List LogOp) (last id : ℕ) (cs : List (List ℕ × FamilyView)) (ns : List (List ℕ × NamedFamily)) → AllZip (IsTiedFamily parts ops last) cs ns → list_any (λ here. here.1.id == id) cs ≡ has_id id ns
id_named parts ops last id [] [] tied = refl
id_named parts ops last id [] (n ∷ ns) tied = absurd tied
id_named parts ops last id (c ∷ cs) [] tied = absurd tied
id_named parts ops last id (c ∷ cs) (n ∷ ns) tied = ap (λ m. (m == id) || list_any (λ here. here.1.id == id) cs) (sym tied.0.id) ∙ ap (λ b. (n.1.id == id) || b) (id_named parts ops last id cs ns tied.1)

itself : (n : ℕ) → (n == n) ≡ true
itself n = grind arith

differs : (n m : ℕ) → (n ≡ m → ⊥) → (n == m) ≡ false
differs n m h = go (n == m) refl
  where
    go : (b : Bool) → (n == m) ≡ b → (n == m) ≡ false
    go true e = absurd (h (eqb-true n m e))
    go false e = e

-- ---- the outputs as they are placed

placed_new : (named : Named) (level : ℕ) (tables : List FileEntries) → level ≤ 6 → Each (IsNewFile named) tables → Each (λ one. (has_table named one.file ≡ false) × (may_place one ≡ true)) (output_placements level tables)
placed_new named level [] low h = tt
placed_new named level (table ∷ tables) low h = ((h.0.new, ap (λ b. b && nat_le level 6) h.0.above ∙ le-leb level 6 low), placed_new named level tables low h.1)

placed_differ : (level : ℕ) (tables : List FileEntries) → Pairwise (λ one other. one.file ≡ other.file → ⊥) tables → Pairwise (λ one other. (one.file == other.file) ≡ false) (output_placements level tables)
placed_differ level [] h = tt
placed_differ level (table ∷ tables) h = (each tables h.0, placed_differ level tables h.1)
  where
    each : (others : List FileEntries) → Each (λ other. table.file ≡ other.file → ⊥) others → Each (λ (other : Placement). (table.file == other.file) ≡ false) (output_placements level others)
    each [] h = tt
    each (other ∷ others) h = (differs table.file other.file h.0, each others h.1)

some_table : (table : FileEntries) → 1 ≤ length table.entries → IsTrue (is_table 0 table.entries)
some_table table = go table.entries
  where
    go : (entries : List Entry) → 1 ≤ length entries → IsTrue (is_table 0 entries)
    go [] some = absurd (omega arith)
    go (entry ∷ entries) some = refl

placed_outputs : (parts : ImageParts) (level : ℕ) (tables : List FileEntries) → Each (λ table. 1 ≤ length table.entries) tables → Each (λ table. HasTableFile parts table) tables
    → AllZip (IsOutput parts level) (output_placements level tables) tables
placed_outputs parts level [] some found = tt
placed_outputs parts level (table ∷ tables) some found = (
  record {
    level = refl;
    table = ap {B = FileEntries} (λ found. record { file = table.file; length = table.length; entries = file_entries found }) found.0;
    sound = ap (holds_table (record { level = level; file = table.file; length = table.length; number = 0 })) found.0 ∙ ap (λ b. b && is_table 0 table.entries) (itself table.length) ∙ some_table table some.0;
  },
  placed_outputs parts level tables some.1 found.1,
)

-- ---- the group, and the images within it

pub compact_is_group : (core : Core) (state : ModelState) (files : EngineFiles) (parts : ImageParts) (at : ℕ → ℕ) (number : ℕ) (job : Job) (tables : List FileEntries) → IsInstallingCompaction core state files parts number job tables
    → IsGroup files.named (compact_named core job tables files.named) (compact_group at core job tables)
compact_is_group core state files parts at number job tables is =
    let low = not_flush job.level is.kind in
    let runs = runs_where core job low (noted_runs core state number job is.stands is.noted_is) in
    cut_group files.named (compact_named core job tables files.named) at (compact_edits job.family job.files (output_placements job.level tables) core.last)
    (compact_right files.named job (output_placements job.level tables) core.last
    (inputs_named parts (log_ops_of parts files.named.logs) core.last (lowest_level core) job core.families files.named.families is.tied.holds.families runs is.there)
    (inputs_differ (lowest_level core) job core.families is.stands.files runs is.there)
    (sym (id_named parts (log_ops_of parts files.named.logs) core.last job.family core.families files.named.families is.tied.holds.families) ∙ is.there)
    (placed_new files.named job.level tables (let within = level_within (lowest_level core) job core.families runs is.there in let small = lowest_within core in omega (arith, within, small)) is.new)
    (placed_differ job.level tables is.outputs.fresh.differ))
    (compact_ends job.family job.files (output_placements job.level tables) core.last)

pub compact_begun : (core : Core) (state : ModelState) (files : EngineFiles) (parts other : ImageParts) (flag : Bool) (at : ℕ → ℕ) (number : ℕ) (job : Job) (tables : List FileEntries) (front more : List GroupRecord) (next : GroupRecord) → IsInstallingCompaction core state files parts number job tables
    → compact_group at core job tables ≡ front ++ next ∷ more → HasMore files parts other front → IsImageOf core state files front other flag
compact_begun core state files parts other flag at number job tables front more next is cut has =
    step_begun core state files (compact_named core job tables files.named) parts other flag front more next is.stands is.tied
    (subst (IsGroup files.named (compact_named core job tables files.named)) cut (compact_is_group core state files parts at number job tables is)) has

-- what holds of each output holds of each file that the group adds
pub compact_adds : (P : ℕ → Type 0) (id level : ℕ) (inputs : List ℕ) (tables : List FileEntries) (last : ℕ) → Each (λ table. P table.file) tables → Each (AddsFile P) (compact_edits id inputs (output_placements level tables) last)
compact_adds P id level [] [] last h = (tt, tt)
compact_adds P id level [] (table ∷ tables) last h = (h.0, compact_adds P id level [] tables last h.1)
compact_adds P id level (file ∷ inputs) tables last h = (tt, compact_adds P id level inputs tables last h)

-- with all records the outputs have taken the place of the inputs, and the state is the same
pub compact_written : (core : Core) (state : ModelState) (files : EngineFiles) (parts other : ImageParts) (flag : Bool) (at : ℕ → ℕ) (number : ℕ) (job : Job) (tables : List FileEntries) → IsInstallingCompaction core state files parts number job tables
    → Represents (installed_by_id core job (with_compacted job tables)) state
    → Each (λ table. HasTableFile other table) tables
    → HasMore files parts other (compact_group at core job tables)
    → IsImageOf (installed_by_id core job (with_compacted job tables)) state (files_with files (compact_named core job tables files.named)) [] other flag
compact_written core state files parts other flag at number job tables is stands found has =
    let low = not_flush job.level is.kind in
    let runs = runs_where core job low (noted_runs core state number job is.stands is.noted_is) in
    let within = level_within (lowest_level core) job core.families runs is.there in
    let small = lowest_within core in
    let holds = holds_frame core parts other files.named has.same is.tied.holds in
    step_named core (installed_by_id core job (with_compacted job tables)) state files (compact_named core job tables files.named) parts other flag (compact_group at core job tables) stands is.tied refl
    (compact_is_group core state files parts at number job tables is) has refl
    (apart_named files (compact_named core job tables files.named) at (compact_edits job.family job.files (output_placements job.level tables) core.last) (compact_is_group core state files parts at number job tables is)
    (compact_adds (IsUnwritten files) job.family job.level job.files tables core.last is.unwritten) is.tied.apart)
    (compact_holds core other files.named job (output_placements job.level tables) tables holds low (omega arith)
    (placed_outputs other job.level tables is.outputs.some found)
    (levels_rise core state other (log_ops_of other files.named.logs) files.named is.stands holds.families))
