-- FlushInstalled and CompactInstalled are steps of the model.
use Rattle.std.proofs.Common.{◌≡◌, ℕ, ◌≤◌, Bool, true, false, cond, List, [], ◌∷◌, length, refl, sym, ap, subst, ◌∙◌, inl, inr, arith}
use Rattle.std.specs.Prelude.{◌==◌, Contains}
use Rattle.std.specs.List.{AllByRecursion as Each}
use Rattle.std.proofs.lemmas.Bool.{cases_eq, eqb-true, eqb-false}
use Rattle.st_model.specs.declared.state.ModelState.{ModelState}
use Rattle.st_model.specs.declared.state.Snapshot.{Snapshot}
use Rattle.st_model.specs.Early.{read_numbers}
use Rattle.st_model.specs.State.{is_known}
use Rattle.core_laws.specs.Claims.{Compacts, AreOutputsOf}
use Rattle.core_model.specs.Compaction.{with_flushed, with_compacted}
use Rattle.core_model.specs.Event.{FlushInstalled, CompactInstalled}
use Rattle.core_model.specs.declared.reply.CoreReply.TheVariants.{Done, FamilyGone}
use Rattle.core_model.specs.Relation.{Represents}
use Rattle.core_laws.specs.SoundCore.{IsSoundCore, IdsDiffer, HasColumns, EventRefines}
use Rattle.core_model.specs.Picture.{FileEntries, FamilyView, Job, Core, lowest_level, walk, is_flush, jobs_of, live_numbers}
use Rattle.core_model.specs.RelationParts.{IsView, IsFlush, IsKept, KeepsReads, ReadsAs, HasModelMarks, NumbersFall, NumbersWithin, HasKnownKeys}
use Rattle.core_model.specs.Step.{installed, noted_job, is_there, AreOutputs}
use Rattle.core_laws.proofs.Members.{In, each_in, found_in}
use Rattle.core_laws.proofs.AfterInstall.{some_both, for_next}
use Rattle.core_laws.proofs.JobEvents.{stands_own, both_next, flush_installed_refines, compact_installed_refines}
use Rattle.core_laws.proofs.ColumnsAfter.{compact_each, flush_each, each_at_number, read_kept, compact_reads, compact_marks, flush_marks, flush_compaction}
use Rattle.core_laws.proofs.Falls.{installed_falls, flushed_falls}
use Rattle.core_laws.proofs.CompactedOwn as c
use Rattle.core_laws.proofs.FlushedOwn as f
use Rattle.core_laws.proofs.ById.{installed_by_id, installed_same}
use Rattle.core_laws.proofs.FamilyEvents.{core_names}

-- a number that a read of the model takes is one that the job keeps
kept_number : (core : Core) (state : ModelState) (family : FamilyView) (job : Job) (number : ℕ) → Represents core state → KeepsReads core family job → Contains (read_numbers state) number → IsKept job number
kept_number core state family job number s keeps there =
    each_at_number (IsKept job) (read_numbers state) number
    (subst (λ (last : ℕ). Each (IsKept job) (last ∷ Rattle.std.proofs.Common.map (λ (live : Snapshot). live.number) state.live)) s.same.last
    (subst (λ (live : List Snapshot). Each (IsKept job) (core.last ∷ Rattle.std.proofs.Common.map (λ (one : Snapshot). one.number) live)) s.same.live (read_kept core family job keeps))) there

compact_columns : (core : Core) (state : ModelState) (job : Job) (outputs : List FileEntries) → Represents core state → In job core.jobs → 1 ≤ job.level → AreOutputs core job outputs
    → HasColumns (installed_by_id core job (with_compacted job outputs)) state
compact_columns core state job outputs s there positive outs = record {
  reads = both_next core state job (with_compacted job outputs) (λ family. refl) (ReadsAs state)
      (λ named kept here is holds number key read. compact_reads core named.1 job outputs (compacts named here is) (outputs_of named here is) (keeps named here is) number key
      (kept_number core state named.1 job number s (keeps named here is) read) ∙ holds number key read) s.reads;
  falls = for_next core job (with_compacted job outputs) NumbersFall
      (λ named here is. installed_falls (lowest_level core) named.1 job outputs (compacts named here is) (outputs_of named here is) (falls named here)) (λ named here differ. falls named here);
  within = for_next core job (with_compacted job outputs) (NumbersWithin core.last)
      (λ named here is. compact_each (λ entry. entry.number ≤ core.last) (lowest_level core) named.1 job outputs (compacts named here is) (outputs_of named here is) (within named here)) (λ named here differ. within named here);
  marks = λ flag. both_next core state job (with_compacted job outputs) (λ family. refl) (HasModelMarks state)
      (λ named kept here is holds number key read. compact_marks core named.1 job outputs (compacts named here is) (outputs_of named here is) (keeps named here is) flag number key
      (kept_number core state named.1 job number s (keeps named here is) read) ∙ holds number key read) (s.marks flag);
  known = both_next core state job (with_compacted job outputs) (λ family. refl) HasKnownKeys
      (λ named kept here is holds. compact_each (λ entry. is_known kept entry.key ≡ true) (lowest_level core) named.1 job outputs (compacts named here is) (outputs_of named here is) holds) s.known;
}
  where
    own : IsSoundCore core
    own = (stands_own core state s).0

    ids : IdsDiffer core
    ids = (stands_own core state s).1

    compacts : (named : List ℕ × FamilyView) → In named core.families → (named.1.id == job.family) ≡ true → Compacts (lowest_level core) named.1 job
    compacts named here is = c.compacts core job outputs own ids there positive outs named here is job (c.mine core job outputs own ids there positive outs named here is) positive

    outputs_of : (named : List ℕ × FamilyView) → In named core.families → (named.1.id == job.family) ≡ true → AreOutputsOf job outputs
    outputs_of named here is = c.outputs_of core job outputs own ids there positive outs named here is

    keeps : (named : List ℕ × FamilyView) → In named core.families → (named.1.id == job.family) ≡ true → KeepsReads core named.1 job
    keeps named here is = each_in (KeepsReads core named.1) job (jobs_of core named.1) (c.keeps core job outputs own ids there positive outs named here is) (c.mine core job outputs own ids there positive outs named here is)

    falls : (named : List ℕ × FamilyView) → In named core.families → NumbersFall named.1
    falls named here = each_in (λ (one : List ℕ × FamilyView). NumbersFall one.1) named core.families s.falls here

    within : (named : List ℕ × FamilyView) → In named core.families → NumbersWithin core.last named.1
    within named here = each_in (λ (one : List ℕ × FamilyView). NumbersWithin core.last one.1) named core.families s.within here

flush_columns : (core : Core) (state : ModelState) (job : Job) (output : FileEntries) → Represents core state → In job core.jobs → job.level ≡ 0 → AreOutputs core job (output ∷ [])
    → HasColumns (installed_by_id core job (with_flushed output)) state
flush_columns core state job output s there flushes outs = record {
  reads = both_next core state job (with_flushed output) (λ family. refl) (ReadsAs state)
      (λ named kept here is holds number key read. ap Rattle.st_model.specs.Read.value_of (marks named here is number key read) ∙ holds number key read) s.reads;
  falls = for_next core job (with_flushed output) NumbersFall
      (λ named here is. flushed_falls named.1 job output (view named here is) (flush named here is) (flush_compaction named.1 job output (flush named here is) outs.joined) (falls named here)) (λ named here differ. falls named here);
  within = for_next core job (with_flushed output) (NumbersWithin core.last)
      (λ named here is. flush_each (λ entry. entry.number ≤ core.last) named.1 job output (view named here is) (flush named here is) outs.joined (within named here)) (λ named here differ. within named here);
  marks = λ flag. both_next core state job (with_flushed output) (λ family. refl) (HasModelMarks state)
      (λ named kept here is holds number key read. marks named here is number key read ∙ holds number key read) (s.marks flag);
  known = both_next core state job (with_flushed output) (λ family. refl) HasKnownKeys
      (λ named kept here is holds. flush_each (λ entry. is_known kept entry.key ≡ true) named.1 job output (view named here is) (flush named here is) outs.joined holds) s.known;
}
  where
    own : IsSoundCore core
    own = (stands_own core state s).0

    ids : IdsDiffer core
    ids = (stands_own core state s).1

    view : (named : List ℕ × FamilyView) → In named core.families → (named.1.id == job.family) ≡ true → IsView named.1
    view named here is = f.view core job output own ids there flushes outs named here is

    flush : (named : List ℕ × FamilyView) → In named core.families → (named.1.id == job.family) ≡ true → IsFlush named.1 job
    flush named here is = f.flush core job output own ids there flushes outs named here is

    keeps : (named : List ℕ × FamilyView) → In named core.families → (named.1.id == job.family) ≡ true → KeepsReads core named.1 job
    keeps named here is = each_in (KeepsReads core named.1) job (jobs_of core named.1) (f.keeps core job output own ids there flushes outs named here is) (f.mine core job output own ids there flushes outs named here is)

    marks : (named : List ℕ × FamilyView) → In named core.families → (named.1.id == job.family) ≡ true → (number : ℕ) (key : List ℕ) → Contains (read_numbers state) number
        → Rattle.core_model.specs.Picture.find_mark (with_flushed output named.1) number key ≡ Rattle.core_model.specs.Picture.find_mark named.1 number key
    marks named here is number key read = flush_marks core named.1 job output (view named here is) (flush named here is) (flush_compaction named.1 job output (flush named here is) outs.joined) (keeps named here is) number key
        (kept_number core state named.1 job number s (keeps named here is) read)

    falls : (named : List ℕ × FamilyView) → In named core.families → NumbersFall named.1
    falls named here = each_in (λ (one : List ℕ × FamilyView). NumbersFall one.1) named core.families s.falls here

    within : (named : List ℕ × FamilyView) → In named core.families → NumbersWithin core.last named.1
    within named here = each_in (λ (one : List ℕ × FamilyView). NumbersWithin core.last one.1) named core.families s.within here

pub flush_installed_is_step : (number : ℕ) (output : FileEntries) → EventRefines (FlushInstalled number output)
flush_installed_is_step number output = flush_installed_refines number output (λ core state answer after s now does.
    let both = some_both (noted_job core number) (λ job. (is_flush job ≡ true) × AreOutputs core job (output ∷ [])) (λ job. (answer ≡ cond (is_there core job) Done FamilyGone) × (after ≡ installed core job (with_flushed output))) now does in
    subst (λ (next : Core). HasColumns next state) (sym (both.3.1 ∙ installed_same core both.0 (with_flushed output) (core_names core state s) (stands_own core state s).1))
    (flush_columns core state both.0 output s (found_in (λ (job : Job). job.number == number) both.0 core.jobs both.1).0 (eqb-true both.0.level 0 both.2.0) both.2.1))

pub compact_installed_is_step : (number : ℕ) (outputs : List FileEntries) → EventRefines (CompactInstalled number outputs)
compact_installed_is_step number outputs = compact_installed_refines number outputs (λ core state answer after s now does.
    let both = some_both (noted_job core number) (λ job. (is_flush job ≡ false) × AreOutputs core job outputs) (λ job. (answer ≡ cond (is_there core job) Done FamilyGone) × (after ≡ installed core job (with_compacted job outputs))) now does in
    subst (λ (next : Core). HasColumns next state) (sym (both.3.1 ∙ installed_same core both.0 (with_compacted both.0 outputs) (core_names core state s) (stands_own core state s).1))
    (compact_columns core state both.0 outputs s (found_in (λ (job : Job). job.number == number) both.0 core.jobs both.1).0 (some_level both.0 both.2.0) both.2.1))
  where
    some_level : (job : Job) → is_flush job ≡ false → 1 ≤ job.level
    some_level job e = elim (cases_eq job.level 0) [ inl none ↦ absurd (eqb-false job.level 0 e none) | inr some ↦ omega arith ]
