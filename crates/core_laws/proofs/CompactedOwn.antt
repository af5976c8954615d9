-- After CompactInstalled: levels, jobs, tables of `Represents`.
use Rattle.std.proofs.Common.{◌≡◌, ℕ, zero, suc, ◌+◌, ◌<◌, ◌≤◌, Bool, true, false, cond, not, List, [], ◌∷◌, map, length, drop, set, refl, sym, ap, subst, ◌∙◌, ◌⊎◌, inl, inr, arith}
use Rattle.std.specs.Prelude.{◌==◌}
use Rattle.std.specs.List.{filter, AllByRecursion as Each}
use Rattle.std.proofs.lemmas.List.{length-map}
use Rattle.std.proofs.lemmas.Bool.{cases_eq, cases_lt, eqb-true, eqb-false, eq-eqb, not-true}
use Rattle.st_base.specs.Order.{in_order}
use Rattle.st_base.specs.declared.entry.Entry.{Entry}
use Rattle.st_base.specs.declared.entry.KeyRange.{KeyRange}
use Rattle.st_base.specs.Range.{meet, is_in_range}
use Rattle.base_laws.proofs.Lists.{each_as, each_both, each_front, each_join, each_map, each_passing}
use Rattle.core_laws.specs.Claims.{Compacts, AreOutputsOf}
use Rattle.core_model.specs.Compaction.{with_compacted, staying, put_all}
use Rattle.core_laws.specs.SoundCore.{IsSoundCore, IdsDiffer, CompactInstalledKeepsSound}
use Rattle.core_model.specs.Pick.{joint_range}
use Rattle.core_model.specs.Picture.{FileEntries, FamilyView, Job, Core, lowest_level, runs_of, tables_in, level_at, memories, is_input, is_flush, jobs_of, put_by_key}
use Rattle.core_model.specs.RelationParts.{IsView, HasEntry, LevelsApart, IsRunning, IsFlush, JobsApart, JobsRun, KeepsReads, IsSortedRun, FitsSizes}
use Rattle.core_model.specs.Step.{installed, without_job, noted_job, AreOutputs}
use Rattle.core_laws.proofs.Lists.{at, at_map, flat, flat_at, at_flat}
use Rattle.core_laws.proofs.Members.{In, each_in, in_filter, found_in, pairs_in, each_by_in, Differ, hits, hits_filter, hits_set, hits_map}
use Rattle.core_laws.proofs.InstalledLevels.{outputs_each, tables_rows, input_each, installed_each, installed_length}
use Rattle.core_laws.proofs.JobsBeside.{installed_leaves_running}
use Rattle.core_laws.proofs.JobsKeepReads.{installed_leaves_reads, installed_levels_apart}
use Rattle.core_laws.proofs.AfterInstall.{lowest_le, some_both, apart_back, is_other, fewer_run, for_next, jobs_left, keeps_next, noted_next, jobs_same, kept_same, files_next, not_input, outputs_differ}
use Rattle.core_laws.proofs.Middle.{level_lt, parts_in_order}
use Rattle.core_laws.proofs.ById.{installed_by_id, installed_same}

-- ---- how often a file number stands there

hits_put : (f : ℕ) (table : FileEntries) (tables : List FileEntries) → hits f (put_by_key table tables) ≡ hits f (table ∷ tables)
hits_put f table [] = refl
hits_put f table (other ∷ others) = put (Rattle.st_base.specs.Bytes.below (Rattle.st_base.specs.Range.key_at_front table.entries) (Rattle.st_base.specs.Range.key_at_front other.entries)) (hits_put f table others)
  where
    put : (b : Bool) → hits f (put_by_key table others) ≡ hits f (table ∷ others) → hits f (cond b (table ∷ other ∷ others) (other ∷ put_by_key table others)) ≡ hits f (table ∷ other ∷ others)
    put true e = refl
    put false e = omega arith

hits_put_all : (f : ℕ) (outputs tables : List FileEntries) → hits f (put_all outputs tables) ≡ hits f outputs + hits f tables
hits_put_all f [] tables = omega arith
hits_put_all f (table ∷ outputs) tables =
    let a : hits f (put_all outputs (put_by_key table tables)) ≡ hits f outputs + hits f (put_by_key table tables) = hits_put_all f outputs (put_by_key table tables) in
    let b : hits f (put_by_key table tables) ≡ hits f (table ∷ tables) = hits_put f table tables in omega arith

pub compacted_hits : (job : Job) (outputs : List FileEntries) (f : ℕ) (family : FamilyView) → hits f (tables_in (with_compacted job outputs family).levels) ≤ hits f outputs + hits f (tables_in family.levels)
compacted_hits job outputs f family = elim (cases_lt job.level (length family.levels)) [
  | inl lt ↦
      let s : hits f (flat (set left job.level new)) + hits f (at left job.level) ≡ hits f new + hits f (flat left) = hits_set f left job.level new (subst (λ (k : ℕ). job.level < k) (sym (length-map family.levels (staying job.files))) lt) in
      let a : hits f (at left job.level) ≡ hits f (staying job.files (level_at family job.level)) = at_map (λ tables. hits f tables ≡ hits f (staying job.files (level_at family job.level))) (staying job.files) family.levels job.level refl refl in
      let n : hits f new ≡ hits f outputs + hits f (staying job.files (level_at family job.level)) = hits_put_all f outputs (staying job.files (level_at family job.level)) in
      let l : hits f (flat left) ≤ hits f (flat family.levels) = less in
      omega arith
  | inr past ↦
      let e : set left job.level new ≡ left = beyond left job.level new (subst (λ (k : ℕ). k ≤ job.level) (sym (length-map family.levels (staying job.files))) past) in
      let a : hits f (flat (set left job.level new)) ≡ hits f (flat left) = ap (λ (levels : List (List FileEntries)). hits f (flat levels)) e in
      let l : hits f (flat left) ≤ hits f (flat family.levels) = less in
      omega arith
]
  where
    left : List (List FileEntries)
    left = map (staying job.files) family.levels

    new : List FileEntries
    new = put_all outputs (staying job.files (level_at family job.level))

    less : hits f (flat left) ≤ hits f (flat family.levels)
    less = hits_map f (staying job.files) (λ tables. hits_filter f (λ table. not (is_input job table)) tables) family.levels

    beyond : (levels : List (List FileEntries)) (i : ℕ) (v : List FileEntries) → length levels ≤ i → set levels i v ≡ levels
    beyond [] i v le = refl
    beyond (x ∷ levels) zero v le = absurd (omega arith)
    beyond (x ∷ levels) (suc i) v le = ap (λ rest. x ∷ rest) (beyond levels i v (omega arith))

module _ (core : Core) (job : Job) (outputs : List FileEntries) (own : IsSoundCore core) (ids : IdsDiffer core) (there : In job core.jobs) (positive : 1 ≤ job.level) (outs : AreOutputs core job outputs) where
  abbrev change : FamilyView → FamilyView
  change = with_compacted job outputs

  abbrev next : Core
  next = installed_by_id core job change

  module _ (named : List ℕ × FamilyView) (here : In named core.families) (is : (named.1.id == job.family) ≡ true) where
    abbrev family : FamilyView
    family = named.1

    pub view : IsView family
    view = each_in (λ (one : List ℕ × FamilyView). IsView one.1) named core.families own.views here

    levels : LevelsApart family
    levels = each_in (λ (one : List ℕ × FamilyView). LevelsApart one.1) named core.families own.apart here

    run : JobsRun (lowest_level core) (jobs_of core family) family
    run = each_in (λ (one : List ℕ × FamilyView). JobsRun (lowest_level core) (jobs_of core one.1) one.1) named core.families own.jobs here

    pub keeps : Each (KeepsReads core family) (jobs_of core family)
    keeps = each_in (λ (one : List ℕ × FamilyView). Each (KeepsReads core one.1) (jobs_of core one.1)) named core.families own.kept here

    pub mine : In job (jobs_of core family)
    mine = in_filter (λ (one : Job). one.family == family.id) job core.jobs (eq-eqb job.family family.id (sym (eqb-true family.id job.family is))) there

    pub compacts : (one : Job) → In one (jobs_of core family) → 1 ≤ one.level → Compacts (lowest_level core) family one
    compacts one in_it le = record {
      view = view;
      apart = levels;
      positive = le;
      bottom = lowest_le core;
      running = (each_in (IsRunning (lowest_level core) family) one (jobs_of core family) run.each in_it).1 le;
      range = each_in (λ (other : Job). other.range ≡ joint_range other.inputs) one (jobs_of core family) run.ranges in_it;
    }

    fresh : (one : Job) → In one (jobs_of core family) → 1 ≤ one.level → Each (λ output. is_input one output ≡ false) outputs
    fresh one in_it le = each_as (λ output. Each (Differ output) (tables_in family.levels)) (λ output. is_input one output ≡ false)
        (λ output differ. not_input family one output (compacts one in_it le).running.files differ) outputs (outputs_differ core outputs outs.fresh named here)

    pub outputs_of : AreOutputsOf job outputs
    outputs_of = record { joined = outs.joined; some = outs.some; apart = outs.apart; fresh = fresh job mine positive }

    beside : (one : Job) → In one (jobs_of core family) → is_other job.number one ≡ true → JobsApart (lowest_level core) job one
    beside one in_it other = elim (each_in (λ (k : Job). (job ≡ k) ⊎ JobsApart (lowest_level core) job k) one (jobs_of core family) (pairs_in (JobsApart (lowest_level core)) (apart_back (lowest_level core)) job (jobs_of core family) run.apart mine) in_it) [
      | inl same ↦ absurd (let e : (one.number == job.number) ≡ true = eq-eqb one.number job.number (ap (λ (k : Job). k.number) (sym same)) in
          let f : (one.number == job.number) ≡ false = not-true (one.number == job.number) other in let w : true ≡ false = sym e ∙ f in cc)
      | inr apart ↦ apart
    ]

    runs_on : (one : Job) → In one (jobs_of core family) → is_other job.number one ≡ true → IsRunning (lowest_level core) (change family) one
    runs_on one in_it other = (
      (λ none. let old : IsFlush family one = (each_in (IsRunning (lowest_level core) family) one (jobs_of core family) run.each in_it).0 none in
          record { one = old.one; oldest = old.oldest; files = old.files; drops = old.drops }),
      (λ le. installed_leaves_running (lowest_level core) family job one outputs (compacts job mine positive) (compacts one in_it le) (beside one in_it other) (apart_back (lowest_level core) job one (beside one in_it other)) outputs_of (fresh one in_it le)),
    )

    keeps_on : (one : Job) → In one (jobs_of core family) → is_other job.number one ≡ true → KeepsReads next (change family) one
    keeps_on one in_it other = keeps_next core job change (change family) one (elim (cases_eq one.level 0) [
      | inl none ↦
          let old : KeepsReads core family one = each_in (KeepsReads core family) one (jobs_of core family) keeps in_it in
          let flush : IsFlush family one = (each_in (IsRunning (lowest_level core) family) one (jobs_of core family) run.each in_it).0 none in
          record {
            live = old.live;
            began = old.began;
            numbers = old.numbers;
            within = old.within;
            nothing = subst (λ (drops : List KeyRange). Each (λ range. Each (Each (λ (entry : Entry). is_in_range range entry.key ≡ false)) (runs_of (tables_in (drop (one.level + 1) (change family).levels)))) drops) (sym flush.drops) tt;
            flag = old.flag;
          }
      | inr some ↦ installed_leaves_reads core family job one outputs (compacts job mine positive) (compacts one in_it (omega arith)) (beside one in_it other) (apart_back (lowest_level core) job one (beside one in_it other)) outputs_of
          (each_in (KeepsReads core family) one (jobs_of core family) keeps in_it)
    ])

    left_each : (P : Job → Type 0) → ((one : Job) → In one (jobs_of core family) → is_other job.number one ≡ true → P one) → Each P (filter (is_other job.number) (jobs_of core family))
    left_each P holds = each_passing P (is_other job.number) (jobs_of core family) (each_by_in (λ one. is_other job.number one ≡ true → P one) (jobs_of core family) holds)

    jobs_changed : JobsRun (lowest_level next) (jobs_of next (change family)) (change family)
    jobs_changed =
        let old : JobsRun (lowest_level core) (filter (is_other job.number) (jobs_of core family)) family = fewer_run (lowest_level core) (jobs_of core family) family (is_other job.number) run in
        subst (λ (jobs : List Job). JobsRun (lowest_level core) jobs (change family)) (sym (jobs_left core job change family))
        (record { each = left_each (IsRunning (lowest_level core) (change family)) runs_on; ranges = old.ranges; apart = old.apart })

    kept_changed : Each (KeepsReads next (change family)) (jobs_of next (change family))
    kept_changed = subst (Each (KeepsReads next (change family))) (sym (jobs_left core job change family)) (left_each (KeepsReads next (change family)) keeps_on)

    outputs_rows : Each (λ (table : FileEntries). IsSortedRun table.entries) outputs
    outputs_rows = each_both (λ (table : FileEntries). in_order table.entries ≡ true) (λ (table : FileEntries). Each FitsSizes table.entries) (λ (table : FileEntries). IsSortedRun table.entries)
        (λ table ordered fit. record { ordered = ordered; within = fit }) outputs (parts_in_order outputs outs.joined.ordered)
        (outputs_each FitsSizes job outputs outs.joined (input_each (Each FitsSizes) (lowest_level core) family job (compacts job mine positive).running
        (each_as (λ (table : FileEntries). IsSortedRun table.entries) (λ table. is_input job table ≡ true → Each FitsSizes table.entries) (λ table rows one. rows.within) (tables_in family.levels) (tables_rows family view))))

    tables_changed : (P : FileEntries → Type 0) → Each P (tables_in family.levels) → Each P outputs → Each P (tables_in (change family).levels)
    tables_changed P old new = at_flat P (change family).levels (λ n. installed_each P family job outputs n (level_lt (lowest_level core) family job (compacts job mine positive))
        (each_as P (λ table. is_input job table ≡ false → P table) (λ table holds stays. holds) (level_at family n) (flat_at P family.levels old n)) (λ e. new))

    view_changed : IsView (change family)
    view_changed = record {
      levels = installed_length family job outputs ∙ view.levels;
      rows = each_join IsSortedRun (memories family) (runs_of (tables_in (change family).levels)) (each_front IsSortedRun (memories family) (runs_of (tables_in family.levels)) view.rows)
          (each_map IsSortedRun (λ (table : FileEntries). table.entries) (tables_in (change family).levels) (tables_changed (λ (table : FileEntries). IsSortedRun table.entries) (tables_rows family view) outputs_rows));
      filled = tables_changed HasEntry view.filled outs.some;
      sealed = view.sealed;
      order = view.order;
    }

    apart_changed : LevelsApart (change family)
    apart_changed = installed_levels_apart (lowest_level core) family job outputs (compacts job mine positive) outputs_of

  compacted_own : IsSoundCore next
  compacted_own = record {
    apart = for_next core job change LevelsApart apart_changed (λ named here differ. each_in (λ (one : List ℕ × FamilyView). LevelsApart one.1) named core.families own.apart here);
    jobs = for_next core job change (λ family. JobsRun (lowest_level next) (jobs_of next family) family) jobs_changed (λ named here differ. jobs_same core job change own named here);
    kept = for_next core job change (λ family. Each (KeepsReads next family) (jobs_of next family)) kept_changed (λ named here differ. kept_same core job change own named here);
    views = for_next core job change IsView view_changed (λ named here differ. each_in (λ (one : List ℕ × FamilyView). IsView one.1) named core.families own.views here);
    files = files_next core job change outputs ids own.files outs.fresh (compacted_hits job outputs);
    noted = noted_next core job change own.noted;
  }

pub compact_installed_own : CompactInstalledKeepsSound
compact_installed_own core number outputs answer after own ids names now does =
    let both = some_both (noted_job core number) (λ job. (is_flush job ≡ false) × AreOutputs core job outputs) (λ job. (answer ≡ cond (Rattle.core_model.specs.Step.is_there core job) Rattle.core_model.specs.declared.reply.CoreReply.TheVariants.Done Rattle.core_model.specs.declared.reply.CoreReply.TheVariants.FamilyGone) × (after ≡ installed core job (with_compacted job outputs))) now does in
    subst IsSoundCore (sym (both.3.1 ∙ installed_same core both.0 (with_compacted both.0 outputs) names ids)) (compacted_own core both.0 outputs own ids (found_in (λ (job : Job). job.number == number) both.0 core.jobs both.1).0 (some_level both.0 both.2.0) both.2.1)
  where
    some_level : (job : Job) → is_flush job ≡ false → 1 ≤ job.level
    some_level job e = elim (cases_eq job.level 0) [ inl none ↦ absurd (eqb-false job.level 0 e none) | inr some ↦ omega arith ]
