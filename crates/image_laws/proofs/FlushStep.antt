-- An installed flush, also where logs go with it: its group is right and is cut into records that count down, and each image
-- opens to the contents of the state.
use Rattle.std.proofs.Common.{◌≡◌, ℕ, ◌≤◌, Bool, true, false, cond, ◌&&◌, not, List, [], ◌∷◌, ◌++◌, map, filter, length, Option, Some, refl, sym, ap, subst, ◌∙◌, arith}
use Rattle.std.specs.Prelude.{◌≢◌, IsTrue, nat_le, ◌==◌, max}
use Rattle.std.specs.List.{list_any, AllByRecursion as Each}
use Rattle.std.proofs.lemmas.Bool.{eqb-true, false≢true, or_parts}
use Rattle.st_base.specs.declared.entry.Entry.{Entry}
use Rattle.st_model.specs.declared.state.ModelState.{ModelState}
use Rattle.base_laws.proofs.Lists.{each_as, each_back, each_filter, each_join, none_any}
use Rattle.core_laws.proofs.Lists.{filter_join}
use Rattle.core_model.specs.Compaction.{without_last, with_flushed as flushed_view}
use Rattle.core_model.specs.Relation.{Represents}
use Rattle.core_model.specs.Picture.{FileEntries, FamilyView, Job, Core, lowest_level}
use Rattle.core_model.specs.RelationParts.{IsRunning, IsFlush, IsView}
use Rattle.manifest_edits.specs.Edits.{Placement, AddTable, Flushed, Last, DropLog, NamedFamily, Named, GroupRecord, has_id, has_table, has_log, edited, edited_all, with_table, with_flushed_number, is_last_edit, ends_with_last, AddsFile, may_place}
use Rattle.store_image.specs.Opens.{holds_table, is_table}
use Rattle.store_image.specs.Parts.{HasTableFile, ImageParts, log_ops_of, file_entries, counts_for}
use Rattle.store_image.specs.Steps.{HasMore, is_spent, with_flush, flushed_named, without_logs, greatest_of}
use Rattle.store_image.specs.Tie.{EngineFiles, IsUnwritten}
use Rattle.image_laws.proofs.CompactEdits.{noted_runs}
use Rattle.image_laws.proofs.CompactStep.{id_named}
use Rattle.manifest_edits.proofs.Cut.{cut_group}
use Rattle.image_laws.proofs.Flush.{Flushes, flush_holds}
use Rattle.image_laws.proofs.Frame.{holds_frame}
use Rattle.image_laws.proofs.Added.{apart_after, older_apart}
use Rattle.image_laws.proofs.RightEdits.{one_right, ids_kept, changes_one, logs_dropped, last_ends}
use Rattle.image_laws.proofs.StepOpens.{step_begun, step_written}
use Rattle.manifest_edits.specs.Logs.{records_in}
use Rattle.manifest_edits.specs.Groups.{IsGroup}
use Rattle.manifest_edits.specs.CallEdits.{is_among_files}
use Rattle.store_image.specs.Calls.{FilesAllDiffer}
use Rattle.manifest_edits.specs.CallEdits.{flush_placement, flush_edits}
use Rattle.store_image.specs.Calls.{IsImageOf}
use Rattle.store_image.specs.Calls.{first_run, flush_families, flushed_memory, flush_group, flush_named, flush_files, IsInstallingFlush}
use Rattle.core_laws.proofs.ById.{installed_by_id}

-- ---- the edits, with a list of logs that go

pub flush_right : (named : Named) (id : ℕ) (placed : Placement) (number : ℕ) (gone : List ℕ) (last : ℕ) → has_id id named.families ≡ true → has_table named placed.file ≡ false → may_place placed ≡ true
    → Each (λ file. has_log named file ≡ true) gone → FilesAllDiffer gone → edited_all named (flush_edits id placed number gone last) ≡ Some (flushed_named id placed number (is_among_files gone) last named)
flush_right named id placed number gone last there new above logs differ =
    one_right named (AddTable id placed) (Flushed id number ∷ (map DropLog gone ++ Last last ∷ [])) (ap (λ b. (b && not (has_table named placed.file)) && may_place placed) there ∙ ap (λ b. not b && may_place placed) new ∙ above)
    ∙ one_right (edited named (AddTable id placed)) (Flushed id number) (map DropLog gone ++ Last last ∷ []) (ids_kept id (with_table placed) id (λ family. refl) named.families ∙ there)
    ∙ logs_dropped (edited (edited named (AddTable id placed)) (Flushed id number)) gone (Last last ∷ []) logs differ
    ∙ ap {B = Option Named} (λ families. Some (record { families = families; logs = without_logs (is_among_files gone) named.logs; last = max named.last last })) (changes_one id (with_table placed) (with_flushed_number number) (with_flush placed number) (λ family. refl) (λ family. refl) named.families)

pub flush_ends : (id : ℕ) (placed : Placement) (number : ℕ) (gone : List ℕ) (last : ℕ) → IsTrue (ends_with_last (flush_edits id placed number gone last))
flush_ends id placed number gone last = last_ends (AddTable id placed ∷ Flushed id number ∷ map DropLog gone) last (refl, (refl, drops gone))
  where
    drops : (gone : List ℕ) → Each (λ edit. is_last_edit edit ≡ false) (map DropLog gone)
    drops [] = tt
    drops (file ∷ gone) = (refl, drops gone)

-- ---- what is flushed

one_input : (inputs : List (List Entry)) → length inputs ≡ 1 → inputs ≡ first_run inputs ∷ []
one_input [] e = absurd (omega arith)
one_input (run ∷ []) e = refl
one_input (run ∷ other ∷ runs) e = absurd (omega arith)

pub flush_is_group : (core : Core) (state : ModelState) (files : EngineFiles) (parts : ImageParts) (at : ℕ → ℕ) (number : ℕ) (job : Job) (output : FileEntries) (gone : List ℕ) → IsInstallingFlush core state files parts number job output gone
    → IsGroup files.named (flush_named core job output gone files.named) (flush_group at core job output gone)
flush_is_group core state files parts at number job output gone is =
    cut_group files.named (flush_named core job output gone files.named) at (flush_edits job.family (flush_placement output.file output.length) (greatest_of (flushed_memory job)) gone core.last)
    (flush_right files.named job.family (flush_placement output.file output.length) (greatest_of (flushed_memory job)) gone core.last
    (sym (id_named parts (log_ops_of parts files.named.logs) core.last job.family core.families files.named.families is.tied.holds.families) ∙ is.there) is.new.new (ap (λ b. b && nat_le 0 6) is.new.above) is.logs is.differ)
    (flush_ends job.family (flush_placement output.file output.length) (greatest_of (flushed_memory job)) gone core.last)

pub flush_begun_opens : (core : Core) (state : ModelState) (files : EngineFiles) (parts other : ImageParts) (flag : Bool) (at : ℕ → ℕ) (number : ℕ) (job : Job) (output : FileEntries) (gone : List ℕ) (front more : List GroupRecord) (next : GroupRecord)
    → IsInstallingFlush core state files parts number job output gone → flush_group at core job output gone ≡ front ++ next ∷ more → HasMore files parts other front → IsImageOf core state files front other flag
flush_begun_opens core state files parts other flag at number job output gone front more next is cut has =
    step_begun core state files (flush_named core job output gone files.named) parts other flag front more next is.stands is.tied
    (subst (IsGroup files.named (flush_named core job output gone files.named)) cut (flush_is_group core state files parts at number job output gone is)) has

-- ---- with all records

itself : (n : ℕ) → (n == n) ≡ true
itself n = grind arith

some_table : (entries : List Entry) → 1 ≤ length entries → IsTrue (is_table 0 entries)
some_table [] some = absurd (omega arith)
some_table (entry ∷ entries) some = refl

view_flushes : (parts : ImageParts) (job : Job) (output : FileEntries) (family : FamilyView) → IsFlush family job → IsView family → 1 ≤ length output.entries
    → HasTableFile parts output → Flushes parts family (flushed_memory job) (flush_placement output.file output.length) output
view_flushes parts job output family runs view some found = record {
  oldest_is = last_is;
  some = (each_back (λ entries. 1 ≤ length entries) (without_last family.sealed) (flushed_memory job ∷ []) (subst (Each (λ entries. 1 ≤ length entries)) last_is view.sealed)).0;
  at_zero = refl;
  table = ap {B = FileEntries} (λ found. record { file = output.file; length = output.length; entries = file_entries found }) found;
  sound = ap (holds_table (flush_placement output.file output.length)) found ∙ ap (λ b. b && is_table 0 output.entries) (itself output.length) ∙ some_table output.entries some;
}
  where
    last_is : family.sealed ≡ without_last family.sealed ++ flushed_memory job ∷ []
    last_is = runs.oldest ∙ ap (λ inputs. without_last family.sealed ++ inputs) (one_input job.inputs runs.one)

-- ---- the logs that go

none_found : {X : Type 0} (test : X → Bool) (xs : List X) → list_any test xs ≡ false → filter test xs ≡ []
none_found test [] e = refl
none_found test (x ∷ xs) e =
    let parts = or_parts (test x) (list_any test xs) e in
    ap (λ b. cond b (x ∷ filter test xs) (filter test xs)) parts.0 ∙ none_found test xs parts.1

not_so : (b : Bool) → not b ≡ true → b ≡ false
not_so true e = absurd (false≢true e)
not_so false e = refl

-- no operation of the log counts for one of the families
abbrev CountsNone : ImageParts → List (List ℕ × NamedFamily) → ℕ → Type 0
CountsNone parts families file = Each (λ one. filter (counts_for one.1) (records_in (parts.log file)) ≡ []) families

spent_counts : (parts : ImageParts) (families : List (List ℕ × NamedFamily)) (file : ℕ) → is_spent parts families file ≡ true → CountsNone parts families file
spent_counts parts families file e =
    each_as (λ (one : List ℕ × NamedFamily). list_any (counts_for one.1) (records_in (parts.log file)) ≡ false) (λ one. filter (counts_for one.1) (records_in (parts.log file)) ≡ [])
    (λ one none. none_found (counts_for one.1) (records_in (parts.log file)) none) families
    (none_any (λ (one : List ℕ × NamedFamily). list_any (counts_for one.1) (records_in (parts.log file))) families (not_so (list_any (λ (one : List ℕ × NamedFamily). list_any (counts_for one.1) (records_in (parts.log file))) families) e))

-- each log that goes is spent: an older one as is said, and the present one stays
spent_named : (parts : ImageParts) (families : List (List ℕ × NamedFamily)) (gone older logs : List ℕ) (log : ℕ) → logs ≡ older ++ log ∷ [] → is_among_files gone log ≡ false
    → Each (λ file. is_among_files gone file ≡ is_spent parts families file) older → Each (λ file. is_among_files gone file ≡ true → CountsNone parts families file) logs
spent_named parts families gone older logs log are stays spent =
    subst (Each (λ file. is_among_files gone file ≡ true → CountsNone parts families file)) (sym are)
    (each_join (λ file. is_among_files gone file ≡ true → CountsNone parts families file) older (log ∷ [])
    (each_as (λ file. is_among_files gone file ≡ is_spent parts families file) (λ file. is_among_files gone file ≡ true → CountsNone parts families file) (λ file e among. spent_counts parts families file (sym e ∙ among)) older spent)
    ((λ among. absurd (false≢true (sym stays ∙ among))), tt))

pub drops_add : (P : ℕ → Type 0) (gone : List ℕ) (last : ℕ) → Each (AddsFile P) (map DropLog gone ++ Last last ∷ [])
drops_add P [] last = (tt, tt)
drops_add P (file ∷ gone) last = (tt, drops_add P gone last)

pub flush_opens : (core : Core) (state : ModelState) (files : EngineFiles) (parts other : ImageParts) (flag : Bool) (at : ℕ → ℕ) (number : ℕ) (job : Job) (output : FileEntries) (gone : List ℕ) → IsInstallingFlush core state files parts number job output gone
    → Represents (installed_by_id core job (flushed_view output)) state → HasTableFile other output
    → HasMore files parts other (flush_group at core job output gone)
    → IsImageOf (installed_by_id core job (flushed_view output)) state (flush_files core job output gone files) [] other flag
flush_opens core state files parts other flag at number job output gone is stands found has =
    step_written core (installed_by_id core job (flushed_view output)) state files (flush_files core job output gone files) parts other flag (flush_group at core job output gone) stands is.tied refl
    (flush_is_group core state files parts at number job output gone is) has refl
    (ap (without_logs (is_among_files gone)) is.tied.log ∙ filter_join (λ file. not (is_among_files gone file)) files.older_logs (files.log ∷ []) ∙ ap (λ b. without_logs (is_among_files gone) files.older_logs ++ cond (not b) (files.log ∷ []) []) is.stays)
    (apart_after files (flush_named core job output gone files.named) (without_logs (is_among_files gone) files.older_logs) at (flush_edits job.family (flush_placement output.file output.length) (greatest_of (flushed_memory job)) gone core.last)
    (flush_is_group core state files parts at number job output gone is) (is.unwritten, (tt, drops_add (IsUnwritten files) gone core.last))
    (each_filter (λ file. file ≢ files.log) (λ file. not (is_among_files gone file)) files.older_logs (older_apart files is.tied.apart)) is.tied.apart)
    (flush_holds core other files.named job (flushed_memory job) (flush_placement output.file output.length) output (is_among_files gone) (holds_frame core parts other files.named has.same is.tied.holds) is.stands.within
    (record { family = flushes core.families (noted_runs core state number job is.stands is.noted_is) is.stands.views; spent = spends files.named.logs has.same.logs (spent_named parts (flush_families job output files.named) gone files.older_logs files.named.logs files.log is.tied.log is.stays is.spent) }))
  where
    flushes : (cs : List (List ℕ × FamilyView)) → Each (λ here. here.1.id ≡ job.family → IsRunning (lowest_level core) here.1 job) cs → Each (λ here. IsView here.1) cs
        → Each (λ one. one.1.id ≡ job.family → Flushes other one.1 (flushed_memory job) (flush_placement output.file output.length) output) cs
    flushes [] runs views = tt
    flushes (c ∷ cs) runs views = ((λ id. view_flushes other job output c.1 ((runs.0 id).0 (eqb-true job.level 0 is.kind)) views.0 is.outputs.some.0 found), flushes cs runs.1 views.1)

    spends : (logs : List ℕ) → Each (λ file. other.log file ≡ parts.log file) logs → Each (λ file. is_among_files gone file ≡ true → CountsNone parts (flush_families job output files.named) file) logs
        → Each (λ file. is_among_files gone file ≡ true → CountsNone other (flush_families job output files.named) file) logs
    spends [] same h = tt
    spends (file ∷ logs) same h = ((λ among. subst (λ read. Each (λ (one : List ℕ × NamedFamily). filter (counts_for one.1) (records_in read) ≡ []) (flush_families job output files.named)) (sym same.0) (h.0 among)), spends logs same.1 h.1)
