-- After FlushInstalled: levels, jobs, tables of `Represents`.
use Rattle.std.proofs.Common.{◌≡◌, ℕ, zero, suc, ◌+◌, ◌<◌, ◌≤◌, Bool, true, false, cond, ◌&&◌, List, [], ◌∷◌, length, drop, set, refl, sym, ap, subst, ◌∙◌, ◌⊎◌, inl, inr, arith}
use Rattle.std.specs.Prelude.{◌==◌}
use Rattle.std.specs.List.{filter, AllByRecursion as Each}
use Rattle.std.proofs.Math.ListN.{length-set}
use Rattle.std.proofs.lemmas.Bool.{cases_eq, eqb-true, eqb-false, eq-eqb, not-true}
use Rattle.st_base.specs.declared.entry.Entry.{Entry}
use Rattle.st_base.specs.Range.{is_in_range}
use Rattle.base_laws.proofs.Lists.{each_as, each_back, each_front, each_join, each_map, each_passing}
use Rattle.core_laws.specs.Claims.{Compacts}
use Rattle.core_model.specs.Compaction.{with_flushed, without_last}
use Rattle.core_laws.specs.SoundCore.{IsSoundCore, IdsDiffer, FlushInstalledKeepsSound}
use Rattle.core_model.specs.Pick.{joint_range}
use Rattle.core_model.specs.Picture.{FileEntries, FamilyView, Job, Core, lowest_level, runs_of, tables_in, level_at, memories, is_flush, jobs_of}
use Rattle.core_model.specs.RelationParts.{IsNewer, IsView, IsLevel, HasEntry, LevelsApart, IsRunning, IsFlush, JobsApart, JobsRun, KeepsReads, IsSortedRun, FitsSizes}
use Rattle.core_model.specs.Step.{installed, noted_job, AreOutputs}
use Rattle.core_laws.proofs.Lists.{at, flat}
use Rattle.core_laws.proofs.Members.{In, each_in, in_filter, found_in, pairs_in, each_by_in, hits}
use Rattle.core_laws.proofs.InstalledLevels.{outputs_each, tables_rows}
use Rattle.core_laws.proofs.JobsKeepReads.{flush_leaves_running}
use Rattle.core_laws.proofs.AfterInstall.{lowest_le, some_both, apart_back, is_other, fewer_run, for_next, jobs_left, noted_next, jobs_same, kept_same, files_next, not_input, outputs_differ}
use Rattle.core_laws.proofs.Middle.{parts_in_order}
use Rattle.st_order.specs.Columns.{Pairwise}
use Rattle.core_laws.proofs.ById.{installed_by_id, installed_same}

pub each_without_last : {X : Type 0} (P : X → Type 0) (xs : List X) → Each P xs → Each P (without_last xs)
each_without_last P [] each = tt
each_without_last P (x ∷ []) each = tt
each_without_last P (x ∷ y ∷ xs) each = (each.0, each_without_last P (y ∷ xs) each.1)

pairs_without_last : {X : Type 0} (R : X → X → Type 0) (xs : List X) → Pairwise R xs → Pairwise R (without_last xs)
pairs_without_last R [] pairs = tt
pairs_without_last R (x ∷ []) pairs = tt
pairs_without_last R (x ∷ y ∷ xs) pairs = (each_without_last (R x) (y ∷ xs) pairs.0, pairs_without_last R (y ∷ xs) pairs.1)

-- one more at the front of the first list
pub flat_more : {X : Type 0} (x : X) (levels : List (List X)) → 0 < length levels → flat (set levels 0 (x ∷ at levels 0)) ≡ x ∷ flat levels
flat_more x [] some = absurd (omega arith)
flat_more x (level ∷ levels) some = refl

drop_more : {X : Type 0} (n : ℕ) (v : List X) (levels : List (List X)) → 1 ≤ n → drop n (set levels 0 v) ≡ drop n levels
drop_more zero v levels le = absurd (omega arith)
drop_more (suc n) v [] le = refl
drop_more (suc n) v (level ∷ levels) le = refl

pub flushed_hits : (output : FileEntries) (f : ℕ) (family : FamilyView) → hits f (tables_in (with_flushed output family).levels) ≤ hits f (output ∷ []) + hits f (tables_in family.levels)
flushed_hits output f family = go family.levels
  where
    go : (levels : List (List FileEntries)) → hits f (flat (set levels 0 (output ∷ at levels 0))) ≤ hits f (output ∷ []) + hits f (flat levels)
    go [] = omega arith
    go (level ∷ levels) = omega arith

module _ (core : Core) (job : Job) (output : FileEntries) (own : IsSoundCore core) (ids : IdsDiffer core) (there : In job core.jobs) (flushes : job.level ≡ 0) (outs : AreOutputs core job (output ∷ [])) where
  abbrev change : FamilyView → FamilyView
  change = with_flushed output

  abbrev next : Core
  next = installed_by_id core job change

  module _ (named : List ℕ × FamilyView) (here : In named core.families) (is : (named.1.id == job.family) ≡ true) where
    abbrev family : FamilyView
    family = named.1

    pub view : IsView family
    view = each_in (λ (one : List ℕ × FamilyView). IsView one.1) named core.families own.views here

    levels : LevelsApart family
    levels = each_in (λ (one : List ℕ × FamilyView). LevelsApart one.1) named core.families own.apart here

    run : JobsRun (lowest_level core) (jobs_of core family) family
    run = each_in (λ (one : List ℕ × FamilyView). JobsRun (lowest_level core) (jobs_of core one.1) one.1) named core.families own.jobs here

    pub keeps : Each (KeepsReads core family) (jobs_of core family)
    keeps = each_in (λ (one : List ℕ × FamilyView). Each (KeepsReads core one.1) (jobs_of core one.1)) named core.families own.kept here

    pub mine : In job (jobs_of core family)
    mine = in_filter (λ (one : Job). one.family == family.id) job core.jobs (eq-eqb job.family family.id (sym (eqb-true family.id job.family is))) there

    pub flush : IsFlush family job
    flush = (each_in (IsRunning (lowest_level core) family) job (jobs_of core family) run.each mine).0 flushes

    some_level : 0 < length family.levels
    some_level = let e : length family.levels ≡ 7 = view.levels in omega arith

    -- each other job is a compaction
    positive : (one : Job) → In one (jobs_of core family) → is_other job.number one ≡ true → 1 ≤ one.level
    positive one in_it other = elim (each_in (λ (k : Job). (job ≡ k) ⊎ JobsApart (lowest_level core) job k) one (jobs_of core family) (pairs_in (JobsApart (lowest_level core)) (apart_back (lowest_level core)) job (jobs_of core family) run.apart mine) in_it) [
      | inl same ↦ absurd (let e : (one.number == job.number) ≡ true = eq-eqb one.number job.number (ap (λ (k : Job). k.number) (sym same)) in
          let f : (one.number == job.number) ≡ false = not-true (one.number == job.number) other in let w : true ≡ false = sym e ∙ f in cc)
      | inr apart ↦
          let e : is_flush one ≡ false = sym (ap (λ (b : Bool). b && is_flush one) (eq-eqb job.level 0 flushes)) ∙ apart.flush in
          elim (cases_eq one.level 0) [ inl none ↦ absurd (eqb-false one.level 0 e none) | inr some ↦ omega arith ]
    ]

    runs_on : (one : Job) → In one (jobs_of core family) → is_other job.number one ≡ true → IsRunning (lowest_level core) (change family) one
    runs_on one in_it other =
        let le : 1 ≤ one.level = positive one in_it other in
        let c : Compacts (lowest_level core) family one = record {
          view = view;
          apart = levels;
          positive = le;
          bottom = lowest_le core;
          running = (each_in (IsRunning (lowest_level core) family) one (jobs_of core family) run.each in_it).1 le;
          range = each_in (λ (other : Job). other.range ≡ joint_range other.inputs) one (jobs_of core family) run.ranges in_it;
        } in (
          (λ none. absurd (omega arith)),
          (λ some. flush_leaves_running (lowest_level core) family job one output flush c (not_input family one output c.running.files (outputs_differ core (output ∷ []) outs.fresh named here).0)),
        )

    keeps_on : (one : Job) → In one (jobs_of core family) → is_other job.number one ≡ true → KeepsReads next (change family) one
    keeps_on one in_it other =
        let old : KeepsReads core family one = each_in (KeepsReads core family) one (jobs_of core family) keeps in_it in
        record {
          live = old.live;
          began = old.began;
          numbers = old.numbers;
          within = old.within;
          nothing = subst (λ (lower : List (List FileEntries)). Each (λ range. Each (Each (λ (entry : Entry). is_in_range range entry.key ≡ false)) (runs_of (tables_in lower))) one.drops)
              (sym (drop_more (one.level + 1) (output ∷ level_at family 0) family.levels (omega arith))) old.nothing;
          flag = old.flag;
        }

    left_each : (P : Job → Type 0) → ((one : Job) → In one (jobs_of core family) → is_other job.number one ≡ true → P one) → Each P (filter (is_other job.number) (jobs_of core family))
    left_each P holds = each_passing P (is_other job.number) (jobs_of core family) (each_by_in (λ one. is_other job.number one ≡ true → P one) (jobs_of core family) holds)

    jobs_changed : JobsRun (lowest_level next) (jobs_of next (change family)) (change family)
    jobs_changed =
        let old : JobsRun (lowest_level core) (filter (is_other job.number) (jobs_of core family)) family = fewer_run (lowest_level core) (jobs_of core family) family (is_other job.number) run in
        subst (λ (jobs : List Job). JobsRun (lowest_level core) jobs (change family)) (sym (jobs_left core job change family))
        (record { each = left_each (IsRunning (lowest_level core) (change family)) runs_on; ranges = old.ranges; apart = old.apart })

    kept_changed : Each (KeepsReads next (change family)) (jobs_of next (change family))
    kept_changed = subst (Each (KeepsReads next (change family))) (sym (jobs_left core job change family)) (left_each (KeepsReads next (change family)) keeps_on)

    memory_rows : Each IsSortedRun (memories family)
    memory_rows = each_front IsSortedRun (memories family) (runs_of (tables_in family.levels)) view.rows

    -- of the inputs, which are among the sealed
    pub inputs_of : (P : List Entry → Type 0) → Each P family.sealed → Each P job.inputs
    inputs_of P each = each_back P (without_last family.sealed) job.inputs (subst (Each P) flush.oldest each)

    output_rows : IsSortedRun output.entries
    output_rows = record {
      ordered = (parts_in_order (output ∷ []) outs.joined.ordered).0;
      within = (outputs_each FitsSizes job (output ∷ []) outs.joined (inputs_of (Each FitsSizes) (each_as IsSortedRun (Each FitsSizes) (λ entries rows. rows.within) family.sealed memory_rows.1))).0;
    }

    tables_changed : (P : FileEntries → Type 0) → Each P (tables_in family.levels) → P output → Each P (tables_in (change family).levels)
    tables_changed P old new = subst (Each P) (sym (flat_more output family.levels some_level)) (new, old)

    view_changed : IsView (change family)
    view_changed = record {
      levels = length-set family.levels 0 (output ∷ level_at family 0) ∙ view.levels;
      rows = each_join IsSortedRun (memories (change family)) (runs_of (tables_in (change family).levels)) (memory_rows.0, each_without_last IsSortedRun family.sealed memory_rows.1)
          (each_map IsSortedRun (λ (table : FileEntries). table.entries) (tables_in (change family).levels) (tables_changed (λ (table : FileEntries). IsSortedRun table.entries) (tables_rows family view) output_rows));
      filled = tables_changed HasEntry view.filled outs.some.0;
      sealed = each_without_last (λ (entries : List Entry). 1 ≤ length entries) family.sealed view.sealed;
      order = (each_without_last (IsNewer family.mem) family.sealed view.order.0, pairs_without_last IsNewer family.sealed view.order.1);
    }

    apart_changed : LevelsApart (change family)
    apart_changed = subst (Each IsLevel) (sym (drop_more 1 (output ∷ level_at family 0) family.levels (omega arith))) levels

  flushed_own : IsSoundCore next
  flushed_own = record {
    apart = for_next core job change LevelsApart apart_changed (λ named here differ. each_in (λ (one : List ℕ × FamilyView). LevelsApart one.1) named core.families own.apart here);
    jobs = for_next core job change (λ family. JobsRun (lowest_level next) (jobs_of next family) family) jobs_changed (λ named here differ. jobs_same core job change own named here);
    kept = for_next core job change (λ family. Each (KeepsReads next family) (jobs_of next family)) kept_changed (λ named here differ. kept_same core job change own named here);
    views = for_next core job change IsView view_changed (λ named here differ. each_in (λ (one : List ℕ × FamilyView). IsView one.1) named core.families own.views here);
    files = files_next core job change (output ∷ []) ids own.files outs.fresh (flushed_hits output);
    noted = noted_next core job change own.noted;
  }

pub flush_installed_own : FlushInstalledKeepsSound
flush_installed_own core number output answer after own ids names now does =
    let both = some_both (noted_job core number) (λ job. (is_flush job ≡ true) × AreOutputs core job (output ∷ [])) (λ job. (answer ≡ cond (Rattle.core_model.specs.Step.is_there core job) Rattle.core_model.specs.declared.reply.CoreReply.TheVariants.Done Rattle.core_model.specs.declared.reply.CoreReply.TheVariants.FamilyGone) × (after ≡ installed core job (with_flushed output))) now does in
    subst IsSoundCore (sym (both.3.1 ∙ installed_same core both.0 (with_flushed output) names ids)) (flushed_own core both.0 output own ids (found_in (λ (job : Job). job.number == number) both.0 core.jobs both.1).0 (eqb-true both.0.level 0 both.2.0) both.2.1)
