-- What an installation leaves of `Represents`: what holds of each family, of the noted jobs and of all tables.
use Rattle.std.proofs.Common.{◌≡◌, ℕ, ◌+◌, ◌<◌, ◌≤◌, Bool, true, false, cond, not, List, [], ◌∷◌, ◌++◌, map, Option, Some, None, refl, sym, ap, subst, ◌∙◌, inl, inr, arith}
use Rattle.std.specs.Prelude.{◌==◌, IfSome, IsSomeAnd, unwrap_or}
use Rattle.std.specs.Option.{option_map}
use Rattle.std.specs.List.{filter, flat_map, list_any, AllByRecursion as Each}
use Rattle.std.proofs.lemmas.Bool.{cases_Bool, eqb-true, eq-eqb, ne_eqb, cond-true, cond-false}
use Rattle.base_laws.proofs.Lists.{any_none, each_as, each_filter, each_join, each_map, flat_map_each, none_any}
use Rattle.base_laws.proofs.Ranges.{meet_swaps}
use Rattle.core_laws.specs.SoundCore.{IsSoundCore, IdsDiffer}
use Rattle.core_model.specs.Pick.{joint_range}
use Rattle.core_model.specs.Picture.{FileEntries, FamilyView, Job, Turn, Core, lowest_level, tables_in, is_input, is_flush, jobs_of, all_tables}
use Rattle.core_model.specs.RelationParts.{ForEach, IsRunning, JobsApart, JobsRun, KeepsReads, HasOutputs, AreNoted, IsTurn, files_in_parts, input_tables}
use Rattle.core_model.specs.Request.{IsRequest, NamesThere}
use Rattle.core_model.specs.Step.{without_job, turn_files, AreFresh}
use Rattle.core_laws.proofs.Lists.{pairs_filter, pairs_join}
use Rattle.core_laws.proofs.Members.{In, each_in, filter_swap, each_by_in, Differ, hits, hits_join, once_hits, hits_once}
use Rattle.core_laws.proofs.Keys.{and_swaps}
use Rattle.st_order.specs.Columns.{Pairwise}
use Rattle.core_laws.proofs.ById.{installed_by_id}

pub lowest_le : (core : Core) → lowest_level core ≤ 6
lowest_le core = go core.behind
  where
    go : (b : Bool) → cond b 5 6 ≤ 6
    go true = omega arith
    go false = omega arith

pub some_both : {T : Type 0} (o : Option T) (P Q : T → Type 0) → IsSomeAnd o P → IsSomeAnd o Q → (x : T) × (o ≡ Some x) × P x × Q x
some_both None P Q one other = absurd one
some_both (Some x) P Q one other = (x, refl, one, other)

pub apart_back : (lowest_level : ℕ) (one other : Job) → JobsApart lowest_level one other → JobsApart lowest_level other one
apart_back lowest_level one other apart = record {
  files = each_by_in (λ file. list_any (λ taken. taken == file) one.files ≡ false) other.files
      (λ file there. any_none (λ taken. taken == file) one.files
      (each_as (λ mine. list_any (λ taken. taken == mine) other.files ≡ false) (λ mine. (mine == file) ≡ false)
      (λ mine none. ne_eqb mine file (λ is. let w : (file == mine) ≡ false = each_in (λ taken. (taken == mine) ≡ false) file other.files (none_any (λ taken. taken == mine) other.files none) there in
      let v : (file == mine) ≡ true = eq-eqb file mine (sym is) in let u : true ≡ false = sym v ∙ w in cc)) one.files apart.files));
  flush = and_swaps (is_flush other) (is_flush one) ∙ apart.flush;
  lone = λ here there. let p = apart.lone there here in (p.1, p.0);
  outputs = λ here e. let p : 1 ≤ one.level = (let q : other.level ≡ one.level = e in omega arith) in meet_swaps other.range one.range ∙ apart.outputs p (sym e);
}

-- jobs that are left
abbrev pub is_other : ℕ → Job → Bool
is_other number job = not (job.number == number)

pub fewer_run : (lowest_level : ℕ) (jobs : List Job) (family : FamilyView) (test : Job → Bool) → JobsRun lowest_level jobs family → JobsRun lowest_level (filter test jobs) family
fewer_run lowest_level jobs family test run = record {
  each = each_filter (IsRunning lowest_level family) test jobs run.each;
  ranges = each_filter (λ (job : Job). job.range ≡ joint_range job.inputs) test jobs run.ranges;
  apart = pairs_filter (JobsApart lowest_level) test jobs run.apart;
}

module _ (core : Core) (job : Job) (change : FamilyView → FamilyView) where
  abbrev next : Core
  next = installed_by_id core job change

  -- what holds of the changed family and of the others
  pub for_next : (P : FamilyView → Type 0)
      → ((named : List ℕ × FamilyView) → In named core.families → (named.1.id == job.family) ≡ true → P (change named.1))
      → ((named : List ℕ × FamilyView) → In named core.families → (named.1.id == job.family) ≡ false → P named.1)
      → ForEach next P
  for_next P changed same =
      each_map (λ (named : List ℕ × FamilyView). P named.1) (λ named. (named.0, cond (named.1.id == job.family) (change named.1) named.1)) core.families
      (each_by_in (λ named. P (cond (named.1.id == job.family) (change named.1) named.1)) core.families
      (λ named there. elim (cases_Bool (named.1.id == job.family)) [
        | inl is ↦ subst P (sym (cond-true (named.1.id == job.family) (change named.1) named.1 is)) (changed named there is)
        | inr not_so ↦ subst P (sym (cond-false (named.1.id == job.family) (change named.1) named.1 not_so)) (same named there not_so)
      ]))

  -- the jobs of a family that are left
  pub jobs_left : (family : FamilyView) → filter (λ (one : Job). one.family == family.id) (without_job job.number core.jobs) ≡ filter (is_other job.number) (jobs_of core family)
  jobs_left family = filter_swap (λ (one : Job). one.family == family.id) (is_other job.number) core.jobs

  pub keeps_next : (family : FamilyView) (one : Job) → KeepsReads core family one → KeepsReads next family one
  keeps_next family one keeps = record { live = keeps.live; began = keeps.began; numbers = keeps.numbers; within = keeps.within; nothing = keeps.nothing; flag = keeps.flag }

  pub noted_next : AreNoted core → AreNoted next
  noted_next are = record {
    numbers = pairs_filter (λ one other. one.number ≡ other.number → ⊥) (is_other job.number) core.jobs are.numbers;
    made = λ more. each_filter (λ one. one.number ≤ core.jobs_made) (is_other job.number) core.jobs (are.made more);
    families = each_filter (λ one. one.family < core.next_family) (is_other job.number) core.jobs are.families;
    outputs = each_filter HasOutputs (is_other job.number) core.jobs are.outputs;
    live = are.live;
  }

  -- a family that isn't changed
  pub jobs_same : IsSoundCore core → (named : List ℕ × FamilyView) → In named core.families → JobsRun (lowest_level next) (jobs_of next named.1) named.1
  jobs_same own named there =
      subst (λ (jobs : List Job). JobsRun (lowest_level core) jobs named.1) (sym (jobs_left named.1))
      (fewer_run (lowest_level core) (jobs_of core named.1) named.1 (is_other job.number) (each_in (λ (named : List ℕ × FamilyView). JobsRun (lowest_level core) (jobs_of core named.1) named.1) named core.families own.jobs there))

  pub kept_same : IsSoundCore core → (named : List ℕ × FamilyView) → In named core.families → Each (KeepsReads next named.1) (jobs_of next named.1)
  kept_same own named there =
      subst (Each (KeepsReads next named.1)) (sym (jobs_left named.1))
      (each_filter (KeepsReads next named.1) (is_other job.number) (jobs_of core named.1)
      (each_as (KeepsReads core named.1) (KeepsReads next named.1) (keeps_next named.1) (jobs_of core named.1) (each_in (λ (named : List ℕ × FamilyView). Each (KeepsReads core named.1) (jobs_of core named.1)) named core.families own.kept there)))

  -- ---- tables

  abbrev family_tables : List ℕ × FamilyView → List FileEntries
  family_tables named = tables_in named.1.levels

  abbrev step : List ℕ × FamilyView → List ℕ × FamilyView
  step named = (named.0, cond (named.1.id == job.family) (change named.1) named.1)

  unchanged : (f : ℕ) (families : List (List ℕ × FamilyView)) → Each (λ named. (named.1.id == job.family) ≡ false) families
      → hits f (flat_map family_tables (map step families)) ≡ hits f (flat_map family_tables families)
  unchanged f [] each = refl
  unchanged f (named ∷ families) each =
      hits_join f (family_tables (step named)) (flat_map family_tables (map step families))
      ∙ ap (λ (view : FamilyView). hits f (tables_in view.levels) + hits f (flat_map family_tables (map step families))) (cond-false (named.1.id == job.family) (change named.1) named.1 each.0)
      ∙ ap (λ (n : ℕ). hits f (family_tables named) + n) (unchanged f families each.1)
      ∙ sym (hits_join f (family_tables named) (flat_map family_tables families))

  -- at most so many more where one family is changed
  changed_hits : (f n : ℕ) (families : List (List ℕ × FamilyView)) → ((family : FamilyView) → hits f (tables_in (change family).levels) ≤ n + hits f (tables_in family.levels))
      → Pairwise (λ one other. one.1.id ≡ other.1.id → ⊥) families
      → hits f (flat_map family_tables (map step families)) ≤ n + hits f (flat_map family_tables families)
  changed_hits f n [] more ids = omega arith
  changed_hits f n (named ∷ families) more ids =
      let a : hits f (family_tables (step named) ++ flat_map family_tables (map step families)) ≡ hits f (family_tables (step named)) + hits f (flat_map family_tables (map step families)) = hits_join f (family_tables (step named)) (flat_map family_tables (map step families)) in
      let b : hits f (family_tables named ++ flat_map family_tables families) ≡ hits f (family_tables named) + hits f (flat_map family_tables families) = hits_join f (family_tables named) (flat_map family_tables families) in
      elim (cases_Bool (named.1.id == job.family)) [
        | inl is ↦
            let e : hits f (family_tables (step named)) ≡ hits f (tables_in (change named.1).levels) = ap (λ (view : FamilyView). hits f (tables_in view.levels)) (cond-true (named.1.id == job.family) (change named.1) named.1 is) in
            let m : hits f (tables_in (change named.1).levels) ≤ n + hits f (tables_in named.1.levels) = more named.1 in
            let r : hits f (flat_map family_tables (map step families)) ≡ hits f (flat_map family_tables families) =
            unchanged f families (each_as (λ other. named.1.id ≡ other.1.id → ⊥) (λ other. (other.1.id == job.family) ≡ false)
            (λ other differ. ne_eqb other.1.id job.family (λ same. differ (eqb-true named.1.id job.family is ∙ sym same))) families ids.0) in
            omega arith
        | inr not_so ↦
            let e : hits f (family_tables (step named)) ≡ hits f (tables_in named.1.levels) = ap (λ (view : FamilyView). hits f (tables_in view.levels)) (cond-false (named.1.id == job.family) (change named.1) named.1 not_so) in
            let r : hits f (flat_map family_tables (map step families)) ≤ n + hits f (flat_map family_tables families) = changed_hits f n families more ids.1 in
            omega arith
      ]

  -- where tables that are there differ from one another and from the new ones, they still do with the new ones in place
  hits_next : (others outputs : List FileEntries) → IdsDiffer core → Pairwise Differ (outputs ++ (others ++ all_tables core)) → ((f : ℕ) (family : FamilyView) → hits f (tables_in (change family).levels) ≤ hits f outputs + hits f (tables_in family.levels))
      → (f : ℕ) → hits f others + hits f (all_tables next) ≤ 1
  hits_next others outputs ids differ more f =
      let h : hits f (outputs ++ (others ++ all_tables core)) ≤ 1 = once_hits (outputs ++ (others ++ all_tables core)) differ f in
      let a : hits f (outputs ++ (others ++ all_tables core)) ≡ hits f outputs + hits f (others ++ all_tables core) = hits_join f outputs (others ++ all_tables core) in
      let b : hits f (others ++ all_tables core) ≡ hits f others + hits f (all_tables core) = hits_join f others (all_tables core) in
      let c : hits f (all_tables next) ≤ hits f outputs + hits f (all_tables core) = changed_hits f (hits f outputs) core.families (more f) ids in
      omega arith

  pub files_next : (outputs : List FileEntries) → IdsDiffer core → Pairwise Differ (all_tables core) → AreFresh core outputs → ((f : ℕ) (family : FamilyView) → hits f (tables_in (change family).levels) ≤ hits f outputs + hits f (tables_in family.levels))
      → Pairwise Differ (all_tables next)
  files_next outputs ids placed fresh more = hits_once (all_tables next) (λ f.
      let h : 0 + hits f (all_tables next) ≤ 1 = hits_next [] outputs ids (pairs_join Differ outputs (all_tables core) fresh.differ placed fresh.placed) more f in omega arith)

  pub turn_next : (outputs : List FileEntries) → IdsDiffer core → Pairwise Differ (turn_files core ++ all_tables core) → AreFresh core outputs → ((f : ℕ) (family : FamilyView) → hits f (tables_in (change family).levels) ≤ hits f outputs + hits f (tables_in family.levels))
      → Pairwise Differ (turn_files core ++ all_tables next)
  turn_next outputs ids taken fresh more = hits_once (turn_files core ++ all_tables next) (λ f.
      let h : hits f (turn_files core) + hits f (all_tables next) ≤ 1 = hits_next (turn_files core) outputs ids (pairs_join Differ outputs (turn_files core ++ all_tables core) fresh.differ taken (apart_of_both outputs fresh.turn fresh.placed)) more f in
      let b : hits f (turn_files core ++ all_tables next) ≡ hits f (turn_files core) + hits f (all_tables next) = hits_join f (turn_files core) (all_tables next) in omega arith)
    where
      apart_of_both : (tables : List FileEntries) → Each (λ table. Each (Differ table) (turn_files core)) tables → Each (λ table. Each (Differ table) (all_tables core)) tables
          → Each (λ table. Each (Differ table) (turn_files core ++ all_tables core)) tables
      apart_of_both [] h k = tt
      apart_of_both (table ∷ tables) h k = (each_join (Differ table) (turn_files core) (all_tables core) h.0 k.0, apart_of_both tables h.1 k.1)

-- the turn's files and those in place differ
pub taken_differ : (core : Core) → IfSome core.turn (λ turn. IsTurn core turn × NamesThere core turn.parts × IsRequest turn.parts) → Pairwise Differ (all_tables core) → Pairwise Differ (turn_files core ++ all_tables core)
taken_differ core turn files = go core.turn turn
  where
    go : (o : Option Turn) → IfSome o (λ turn. IsTurn core turn × NamesThere core turn.parts × IsRequest turn.parts) → Pairwise Differ (unwrap_or (option_map (λ turn. files_in_parts turn.parts) o) [] ++ all_tables core)
    go None t = files
    go (Some one) t = t.0.fresh

-- a table with a fresh file number is no input of a compaction that runs
pub not_input : (family : FamilyView) (job : Job) (output : FileEntries) → map (λ table. table.file) (input_tables family job) ≡ job.files → Each (Differ output) (tables_in family.levels) → is_input job output ≡ false
not_input family job output e differ =
    subst (λ (files : List ℕ). list_any (λ file. file == output.file) files ≡ false) e
    (any_none (λ file. file == output.file) (map (λ table. table.file) (input_tables family job))
    (each_map (λ file. (file == output.file) ≡ false) (λ table. table.file) (input_tables family job)
    (each_filter (λ (table : FileEntries). (table.file == output.file) ≡ false) (is_input job) (tables_in family.levels)
    (each_as (Differ output) (λ table. (table.file == output.file) ≡ false) (λ table other. ne_eqb table.file output.file (λ is. other (sym is))) (tables_in family.levels) differ))))

-- outputs differ from a family's tables
pub outputs_differ : (core : Core) (outputs : List FileEntries) → AreFresh core outputs → (named : List ℕ × FamilyView) → In named core.families → Each (λ output. Each (Differ output) (tables_in named.1.levels)) outputs
outputs_differ core outputs fresh named there =
    each_as (λ output. Each (Differ output) (all_tables core)) (λ output. Each (Differ output) (tables_in named.1.levels))
    (λ output differ. each_in (λ (one : List ℕ × FamilyView). Each (Differ output) (tables_in one.1.levels)) named core.families
    (flat_map_each (Differ output) (λ (one : List ℕ × FamilyView). tables_in one.1.levels) core.families differ) there)
    outputs fresh.placed
