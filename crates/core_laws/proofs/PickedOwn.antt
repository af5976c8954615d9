-- After FlushPicked and CompactPicked: jobs of `Represents`; the number of a new job.
use Rattle.std.proofs.Common.{◌≡◌, ℕ, zero, suc, ◌+◌, ◌<◌, ◌≤◌, Bool, true, false, cond, leb, List, [], ◌∷◌, ◌++◌, length, Option, Some, None, refl, sym, ap, subst, ◌∙◌, ◌⊎◌, inl, inr, arith, append-nil}
use Rattle.std.specs.Prelude.{◌==◌, nat_lt, Contains}
use Rattle.std.specs.List.{flat_map, list_any, AllByRecursion as Each}
use Rattle.std.specs.Option.{option_map, option_and_then}
use Rattle.std.specs.BTreeMap.{is_at}
use Rattle.std.proofs.lemmas.Bool.{cases_Bool, cases_lt, eqb-true, eqb-false, ne_eqb, ltb-true, ltb-false, le-leb, lt-leb, and_left, cond-true, cond-false, or_cases}
use Rattle.st_base.specs.Bytes.{bytes_cmp}
use Rattle.st_base.specs.Map.{value_at}
use Rattle.st_base.specs.declared.entry.Entry.{Entry}
use Rattle.base_laws.proofs.Lists.{each_all, each_as, each_back, each_front, each_join, none_any}
use Rattle.core_model.specs.Compaction.{without_last}
use Rattle.core_laws.specs.SoundCore.{IsSoundCore, IdsDiffer, IdsGiven, FlushPickedKeepsSound, CompactPickedKeepsSound}
use Rattle.core_model.specs.Pick.{least_unused, next_job, job_count, flush_of, compaction_of, picked, with_job, joint_range}
use Rattle.core_model.specs.Picture.{FamilyView, Job, Core, lowest_level, runs_of, tables_in, memories, is_flush, jobs_of, live_numbers}
use Rattle.core_model.specs.RelationParts.{ForEach, IsView, LevelsApart, NumbersWithin, IsRunning, JobsApart, JobsRun, KeepsReads, IsKept, NumbersFall, HasOutputs, AreNoted, IsSortedRun}
use Rattle.core_model.specs.Step.{flush_job, compact_job, free_oldest, has_flush, last_element, Notes}
use Rattle.core_laws.proofs.Lists.{pairs_join, pairs_front, pairs_back, filter_join}
use Rattle.core_laws.proofs.OutputsExist.{picked_falls, memory_falls}
use Rattle.core_laws.proofs.Members.{In, each_in, pairs_in, each_by_in, Differ}
use Rattle.core_laws.proofs.PickedRuns.{picked_good, picked_runs}
use Rattle.core_laws.proofs.NamedLists.{map_some}
use Rattle.st_order.specs.Columns.{Pairwise}
use Rattle.core_model.specs.WellPicked.{IsWellPicked}
use Rattle.core_laws.proofs.PickedJobs.{five}
use Rattle.job_model.specs.Drops.{DontFall}

-- ---- the least number that no job has

abbrev one_if : Bool → ℕ
one_if true = 1
one_if false = 0

-- how many jobs have a number from n on
abbrev over : ℕ → List Job → ℕ
over n [] = 0
over n (job ∷ jobs) = one_if (leb n job.number) + over n jobs

over_length : (n : ℕ) (jobs : List Job) → over n jobs ≤ length jobs
over_length n [] = omega arith
over_length n (job ∷ jobs) = let h : over n jobs ≤ length jobs = over_length n jobs in let o : one_if (leb n job.number) ≤ 1 = most (leb n job.number) in omega arith
  where
    most : (b : Bool) → one_if b ≤ 1
    most true = omega arith
    most false = omega arith

over_less : (n : ℕ) (jobs : List Job) → over (n + 1) jobs ≤ over n jobs
over_less n [] = omega arith
over_less n (job ∷ jobs) = let h : over (n + 1) jobs ≤ over n jobs = over_less n jobs in let o : one_if (leb (n + 1) job.number) ≤ one_if (leb n job.number) = less in omega arith
  where
    less : one_if (leb (n + 1) job.number) ≤ one_if (leb n job.number)
    less = elim (cases_lt n job.number) [
      | inl lt ↦ let a : one_if (leb n job.number) ≡ 1 = ap one_if (le-leb n job.number (omega arith)) in let b : one_if (leb (n + 1) job.number) ≡ 1 = ap one_if (le-leb (n + 1) job.number (omega arith)) in omega arith
      | inr le ↦ let b : one_if (leb (n + 1) job.number) ≡ 0 = ap one_if (lt-leb (n + 1) job.number (omega arith)) in omega arith
    ]

over_any : (n : ℕ) (jobs : List Job) → list_any (λ job. job.number == n) jobs ≡ true → over (n + 1) jobs + 1 ≤ over n jobs
over_any n [] e = absurd cc
over_any n (job ∷ jobs) e = elim (or_cases (job.number == n) (list_any (λ job. job.number == n) jobs) e) [
  | inl here ↦
      let is : job.number ≡ n = eqb-true job.number n here in
      let a : one_if (leb n job.number) ≡ 1 = ap one_if (le-leb n job.number (omega arith)) in
      let b : one_if (leb (n + 1) job.number) ≡ 0 = ap one_if (lt-leb (n + 1) job.number (omega arith)) in
      let h : over (n + 1) jobs ≤ over n jobs = over_less n jobs in omega arith
  | inr there ↦
      let h : over (n + 1) jobs + 1 ≤ over n jobs = over_any n jobs there in
      let l : over (n + 1) (job ∷ []) ≤ over n (job ∷ []) = over_less n (job ∷ []) in omega arith
]

over_none : (n : ℕ) (jobs : List Job) → over n jobs ≡ 0 → Each (λ job. (job.number == n) ≡ false) jobs
over_none n [] e = tt
over_none n (job ∷ jobs) e = (ne_eqb job.number n (λ is. let a : one_if (leb n job.number) ≡ 1 = ap one_if (le-leb n job.number (omega arith)) in absurd (omega arith)), over_none n jobs (omega arith))

unused : (tries n : ℕ) (jobs : List Job) → over n jobs ≤ tries → Each (λ job. (job.number == least_unused tries n jobs) ≡ false) jobs
unused zero n jobs le = over_none n jobs (omega arith)
unused (suc tries) n jobs le = go (list_any (λ job. job.number == n) jobs) refl (λ e. unused tries (n + 1) jobs (let h : over (n + 1) jobs + 1 ≤ over n jobs = over_any n jobs e in omega arith))
  where
    go : (b : Bool) → list_any (λ job. job.number == n) jobs ≡ b → (list_any (λ job. job.number == n) jobs ≡ true → Each (λ job. (job.number == least_unused tries (n + 1) jobs) ≡ false) jobs)
        → Each (λ job. (job.number == cond b (least_unused tries (n + 1) jobs) n) ≡ false) jobs
    go true e more = more e
    go false e more = none_any (λ job. job.number == n) jobs e

-- no noted job has the next job's number
pub next_unused : (core : Core) → AreNoted core → Each (λ (job : Job). job.number ≡ next_job core → ⊥) core.jobs × (job_count core < 18446744073709551615 → (next_job core ≤ job_count core) × (core.jobs_made ≤ job_count core) × (core.jobs_made < 18446744073709551615))
next_unused core are = go (nat_lt core.jobs_made 18446744073709551615) refl
  where
    go : (b : Bool) → nat_lt core.jobs_made 18446744073709551615 ≡ b
        → Each (λ (job : Job). job.number ≡ cond b (core.jobs_made + 1) (least_unused (length core.jobs) 1 core.jobs) → ⊥) core.jobs
        × (cond b (core.jobs_made + 1) core.jobs_made < 18446744073709551615 → (cond b (core.jobs_made + 1) (least_unused (length core.jobs) 1 core.jobs) ≤ cond b (core.jobs_made + 1) core.jobs_made) × (core.jobs_made ≤ cond b (core.jobs_made + 1) core.jobs_made) × (core.jobs_made < 18446744073709551615))
    go true e = (
      each_as (λ (job : Job). job.number ≤ core.jobs_made) (λ (job : Job). job.number ≡ core.jobs_made + 1 → ⊥) (λ job le is. absurd (omega arith)) core.jobs (are.made (ltb-true core.jobs_made 18446744073709551615 e)),
      (λ more. (omega arith, omega arith, omega arith)),
    )
    go false e = (
      each_as (λ (job : Job). (job.number == least_unused (length core.jobs) 1 core.jobs) ≡ false) (λ (job : Job). job.number ≡ least_unused (length core.jobs) 1 core.jobs → ⊥)
          (λ job other is. eqb-false job.number (least_unused (length core.jobs) 1 core.jobs) other is) core.jobs (unused (length core.jobs) 1 core.jobs (over_length 1 core.jobs)),
      (λ more. let le : 18446744073709551615 ≤ core.jobs_made = ltb-false core.jobs_made 18446744073709551615 e in absurd (omega arith)),
    )

-- ---- a job that is noted

value_in : {X : Type 0} (pairs : List (List ℕ × X)) (name : List ℕ) (value : X) → value_at pairs name ≡ Some value → (key : List ℕ) × In (key, value) pairs
value_in [] name value e = absurd cc
value_in (pair ∷ pairs) name value e = go (is_at (bytes_cmp name) pair.0) e (λ f. value_in pairs name value f)
  where
    go : (b : Bool) → cond b (Some pair.1) (value_at pairs name) ≡ Some value → (value_at pairs name ≡ Some value → (key : List ℕ) × In (key, value) pairs) → (key : List ℕ) × In (key, value) (pair ∷ pairs)
    go true e more = let w : pair.1 ≡ value = cc in (pair.0, inl (ap (λ v. (pair.0, v)) (sym w)))
    go false e more = ((more e).0, inr (more e).1)

module _ (core : Core) (key : List ℕ) (family : FamilyView) (job : Job) (own : IsSoundCore core) (ids : IdsDiffer core) (given : IdsGiven core) (here : In {X = List ℕ × FamilyView} (key, family) core.families)
    (mine : job.family ≡ family.id) (number : job.number ≡ next_job core)
    (runs : JobsRun (lowest_level core) (jobs_of core family ++ job ∷ []) family) (keeps : KeepsReads core family job) (can : HasOutputs job) where
  abbrev next : Core
  next = with_job core job

  keeps_next : (view : FamilyView) (one : Job) → KeepsReads core view one → KeepsReads next view one
  keeps_next view one keeps = record { live = keeps.live; began = keeps.began; numbers = keeps.numbers; within = keeps.within; nothing = keeps.nothing; flag = keeps.flag }

  -- the family of that id is the one
  the_one : (named : List ℕ × FamilyView) → In named core.families → (job.family == named.1.id) ≡ true → named.1 ≡ family
  the_one named there is =
      elim (each_in (λ (other : List ℕ × FamilyView). ((key, family) ≡ other) ⊎ (family.id ≡ other.1.id → ⊥)) named core.families
      (pairs_in {X = List ℕ × FamilyView} (λ one other. one.1.id ≡ other.1.id → ⊥) (λ one other differ e. differ (sym e)) (key, family) core.families ids here) there) [
        | inl same ↦ ap (λ (other : List ℕ × FamilyView). other.1) (sym same)
        | inr differ ↦ absurd (differ (sym mine ∙ eqb-true job.family named.1.id is))
      ]

  jobs_more : (view : FamilyView) → jobs_of next view ≡ jobs_of core view ++ cond (job.family == view.id) (job ∷ []) []
  jobs_more view = filter_join (λ (one : Job). one.family == view.id) core.jobs (job ∷ [])

  -- what holds of each family with its jobs
  for_jobs : (P : FamilyView → List Job → Type 0) → ForEach core (λ view. P view (jobs_of core view)) → P family (jobs_of core family ++ job ∷ []) → ForEach next (λ view. P view (jobs_of next view))
  for_jobs P old new =
      each_by_in (λ (named : List ℕ × FamilyView). P named.1 (jobs_of next named.1)) core.families
      (λ named there. subst (P named.1) (sym (jobs_more named.1))
      (elim (cases_Bool (job.family == named.1.id)) [
        | inl is ↦
            subst (λ (more : List Job). P named.1 (jobs_of core named.1 ++ more)) (sym (cond-true (job.family == named.1.id) (job ∷ []) [] is))
            (subst (λ (view : FamilyView). P view (jobs_of core view ++ job ∷ [])) (sym (the_one named there is)) new)
        | inr other ↦
            subst (λ (more : List Job). P named.1 (jobs_of core named.1 ++ more)) (sym (cond-false (job.family == named.1.id) (job ∷ []) [] other))
            (subst (P named.1) (sym (append-nil (jobs_of core named.1))) (each_in (λ (one : List ℕ × FamilyView). P one.1 (jobs_of core one.1)) named core.families old there))
      ]))

  picked_own : IsSoundCore next
  picked_own =
      let u = next_unused core own.noted in
      record {
        apart = own.apart;
        jobs = for_jobs (λ view jobs. JobsRun (lowest_level core) jobs view) own.jobs runs;
        kept = for_jobs (λ view jobs. Each (KeepsReads next view) jobs)
            (each_as (λ (named : List ℕ × FamilyView). Each (KeepsReads core named.1) (jobs_of core named.1)) (λ (named : List ℕ × FamilyView). Each (KeepsReads next named.1) (jobs_of core named.1))
            (λ named each. each_as (KeepsReads core named.1) (KeepsReads next named.1) (keeps_next named.1) (jobs_of core named.1) each) core.families own.kept)
            (each_join (KeepsReads next family) (jobs_of core family) (job ∷ [])
            (each_as (KeepsReads core family) (KeepsReads next family) (keeps_next family) (jobs_of core family) (each_in (λ (named : List ℕ × FamilyView). Each (KeepsReads core named.1) (jobs_of core named.1)) (key, family) core.families own.kept here))
            (keeps_next family job keeps, tt));
        views = own.views;
        files = own.files;
        noted = record {
          numbers = pairs_join (λ (one other : Job). one.number ≡ other.number → ⊥) core.jobs (job ∷ []) own.noted.numbers (tt, tt)
              (each_as (λ (one : Job). one.number ≡ next_job core → ⊥) (λ (one : Job). Each (λ (other : Job). one.number ≡ other.number → ⊥) (job ∷ [])) (λ one differ. ((λ e. differ (e ∙ number)), tt)) core.jobs u.0);
          made = λ more. let l = u.1 more in
              each_join (λ (one : Job). one.number ≤ job_count core) core.jobs (job ∷ [])
              (each_as (λ (one : Job). one.number ≤ core.jobs_made) (λ (one : Job). one.number ≤ job_count core) (λ one le. let k : core.jobs_made ≤ job_count core = l.1 in omega arith) core.jobs (own.noted.made l.2))
              (subst (λ (n : ℕ). n ≤ job_count core) (sym number) l.0, tt);
          families = each_join (λ (one : Job). one.family < core.next_family) core.jobs (job ∷ []) own.noted.families
              (subst (λ (n : ℕ). n < core.next_family) (sym mine) (each_in (λ (named : List ℕ × FamilyView). named.1.id < core.next_family) (key, family) core.families given here), tt);
          outputs = each_join HasOutputs core.jobs (job ∷ []) own.noted.outputs (can, tt);
          live = own.noted.live;
        };
      }

-- ---- options

and_then_some : {X Y : Type 0} (f : X → Option Y) (o : Option X) (y : Y) → option_and_then f o ≡ Some y → (x : X) × (o ≡ Some x) × (f x ≡ Some y)
and_then_some f None y e = absurd cc
and_then_some f (Some x) y e = (x, refl, e)

pub noted_some : (core : Core) (o : Option Job) → (answer : Rattle.core_model.specs.declared.reply.CoreReply.CoreReply) (after : Core) → Notes core o answer after → (job : Job) × (o ≡ Some job) × (after ≡ with_job core job)
noted_some core None answer after notes = absurd notes
noted_some core (Some job) answer after notes = (job, refl, notes.1)

-- ---- a flush that is picked

last_there : {X : Type 0} (xs : List X) (x : X) → last_element xs ≡ Some x → xs ≡ without_last xs ++ x ∷ []
last_there [] x e = absurd cc
last_there (y ∷ []) x e = let w : y ≡ x = cc in ap (λ z. z ∷ []) w
last_there (y ∷ z ∷ xs) x e = ap (λ rest. y ∷ rest) (last_there (z ∷ xs) x e)

in_contains : {X : Type 0} (x : X) (xs : List X) → In x xs → Contains xs x
in_contains x [] there = absurd there
in_contains x (y ∷ ys) (inl is) = (0, omega arith, sym is)
in_contains x (y ∷ ys) (inr there) = let c = in_contains x ys there in (suc c.0, omega arith, c.2)

pub taken_down : (core : Core) (job : Job) → job.live ≡ live_numbers core → Each (IsKept job) (live_numbers core)
taken_down core job e = each_by_in (IsKept job) (live_numbers core) (λ number there. inl (subst (λ (live : List ℕ). Contains live number) (sym e) (in_contains number (live_numbers core) there)))

oldest_cases : (core : Core) (family : FamilyView) (oldest : List Entry) → free_oldest core family ≡ Some oldest → (has_flush core family ≡ false) × (last_element family.sealed ≡ Some oldest)
oldest_cases core family oldest e = go (has_flush core family) refl e
  where
    go : (b : Bool) → has_flush core family ≡ b → cond b None (last_element family.sealed) ≡ Some oldest → (has_flush core family ≡ false) × (last_element family.sealed ≡ Some oldest)
    go true is e = absurd cc
    go false is e = (is, e)

module _ (core : Core) (family : FamilyView) (oldest : List Entry) (free : has_flush core family ≡ false) (last : last_element family.sealed ≡ Some oldest)
    (run : JobsRun (lowest_level core) (jobs_of core family) family) (within : NumbersWithin core.last family) where
  abbrev flush : Job
  flush = flush_of core family oldest

  others_apart : Each (λ (one : Job). JobsApart (lowest_level core) one flush) (jobs_of core family)
  others_apart = each_as (λ (one : Job). is_flush one ≡ false) (λ (one : Job). JobsApart (lowest_level core) one flush)
      (λ one compacts. record {
        files = each_all (λ (file : ℕ). false ≡ false) (λ file. refl) one.files;
        flush = and_left (is_flush one) true compacts;
        lone = λ some none. absurd (omega arith);
        outputs = λ some none. absurd (let e : one.level ≡ 0 = none in omega arith);
      }) (jobs_of core family) (none_any is_flush (jobs_of core family) free)

  flush_runs : JobsRun (lowest_level core) (jobs_of core family ++ flush ∷ []) family
  flush_runs = record {
    each = each_join (IsRunning (lowest_level core) family) (jobs_of core family) (flush ∷ []) run.each
        (((λ none. record { one = refl; oldest = last_there family.sealed oldest last; files = refl; drops = refl }), (λ some. absurd (omega arith))), tt);
    ranges = each_join (λ (one : Job). one.range ≡ joint_range one.inputs) (jobs_of core family) (flush ∷ []) run.ranges (refl, tt);
    apart = pairs_join (JobsApart (lowest_level core)) (jobs_of core family) (flush ∷ []) run.apart (tt, tt)
        (each_as (λ (one : Job). JobsApart (lowest_level core) one flush) (λ (one : Job). Each (JobsApart (lowest_level core) one) (flush ∷ [])) (λ one apart. (apart, tt)) (jobs_of core family) others_apart);
  }

  flush_outputs : IsView family → DontFall (live_numbers core) → HasOutputs flush
  flush_outputs view live = record {
    level = omega arith;
    live = live;
    drops = record { proper = tt; apart = tt };
    columns = memory_falls oldest (of_last IsSortedRun (each_front IsSortedRun (memories family) (runs_of (tables_in family.levels)) view.rows).1).ordered;
    flush = λ flush. (refl, (of_last (λ entries. 1 ≤ length entries) view.sealed, tt), refl);
  }
    where
      of_last : (P : List Entry → Type 0) → Each P family.sealed → P oldest
      of_last P each = (each_back P (without_last family.sealed) (oldest ∷ []) (subst (Each P) (last_there family.sealed oldest last) each)).0

  flush_keeps : KeepsReads core family flush
  flush_keeps = record {
    live = taken_down core flush refl;
    began = omega arith;
    numbers =
        let front : Each (Each (λ (entry : Entry). entry.number ≤ core.last)) (memories family) = each_front (Each (λ (entry : Entry). entry.number ≤ core.last)) (memories family) (runs_of (tables_in family.levels)) within in
        each_back (Each (λ (entry : Entry). entry.number ≤ core.last)) (without_last family.sealed) (oldest ∷ []) (subst (Each (Each (λ (entry : Entry). entry.number ≤ core.last))) (last_there family.sealed oldest last) front.1);
    within = tt;
    nothing = tt;
    flag = λ flag. refl;
  }

pub flush_picked_own : FlushPickedKeepsSound
flush_picked_own core name answer after own ids given within does =
    let n = noted_some core (flush_job core name) answer after does in
    let f = and_then_some (λ family. option_map (flush_of core family) (free_oldest core family)) (value_at core.families name) n.0 n.1 in
    let o = map_some (flush_of core f.0) (free_oldest core f.0) n.0 f.2 in
    let c = oldest_cases core f.0 o.0 o.1 in
    let h = value_in core.families name f.0 f.1 in
    let run : JobsRun (lowest_level core) (jobs_of core f.0) f.0 = each_in (λ (named : List ℕ × FamilyView). JobsRun (lowest_level core) (jobs_of core named.1) named.1) (h.0, f.0) core.families own.jobs h.1 in
    let bound : NumbersWithin core.last f.0 = each_in (λ (named : List ℕ × FamilyView). NumbersWithin core.last named.1) (h.0, f.0) core.families within h.1 in
    let view : IsView f.0 = each_in (λ (named : List ℕ × FamilyView). IsView named.1) (h.0, f.0) core.families own.views h.1 in
    subst IsSoundCore (ap (with_job core) o.2 ∙ sym n.2)
    (picked_own core h.0 f.0 (flush_of core f.0 o.0) own ids given h.1 refl refl (flush_runs core f.0 o.0 c.0 c.1 run bound) (flush_keeps core f.0 o.0 c.0 c.1 run bound) (flush_outputs core f.0 o.0 c.0 c.1 run bound view own.noted.live))

-- ---- a compaction that is picked

flat_pairs : {X Y : Type 0} (R : Y → Y → Type 0) (f : X → List Y) (xs : List X) → Pairwise R (flat_map f xs) → Each (λ x. Pairwise R (f x)) xs
flat_pairs R f [] pairs = tt
flat_pairs R f (x ∷ xs) pairs = (pairs_front R (f x) (flat_map f xs) pairs, flat_pairs R f xs (pairs_back R (f x) (flat_map f xs) pairs))

pub compact_picked_own : CompactPickedKeepsSound
compact_picked_own core name whole answer after own ids given within falls does =
    let n = noted_some core (compact_job core name whole) answer after does in
    let f = and_then_some (λ family. option_map (compaction_of core family) (picked core family whole)) (value_at core.families name) n.0 n.1 in
    let o = map_some (compaction_of core f.0) (picked core f.0 whole) n.0 f.2 in
    let h = value_in core.families name f.0 f.1 in
    let run : JobsRun (lowest_level core) (jobs_of core f.0) f.0 = each_in (λ (named : List ℕ × FamilyView). JobsRun (lowest_level core) (jobs_of core named.1) named.1) (h.0, f.0) core.families own.jobs h.1 in
    let bound : NumbersWithin core.last f.0 = each_in (λ (named : List ℕ × FamilyView). NumbersWithin core.last named.1) (h.0, f.0) core.families within h.1 in
    let view : IsView f.0 = each_in (λ (named : List ℕ × FamilyView). IsView named.1) (h.0, f.0) core.families own.views h.1 in
    let apart : LevelsApart f.0 = each_in (λ (named : List ℕ × FamilyView). LevelsApart named.1) (h.0, f.0) core.families own.apart h.1 in
    let files : Pairwise Differ (tables_in f.0.levels) = each_in (λ (named : List ℕ × FamilyView). Pairwise Differ (tables_in named.1.levels)) (h.0, f.0) core.families
    (flat_pairs Differ (λ (named : List ℕ × FamilyView). tables_in named.1.levels) core.families own.files) h.1 in
    let p = picked_runs core f.0 whole o.0 view apart bound files run o.1 in
    let down : NumbersFall f.0 = each_in (λ (named : List ℕ × FamilyView). NumbersFall named.1) (h.0, f.0) core.families falls h.1 in
    let columns = picked_falls core f.0 whole o.0 view apart down files o.1 in
    let good : IsWellPicked core f.0 o.0 = picked_good core f.0 whole o.0 view apart files o.1 in
    let positive : 1 ≤ (compaction_of core f.0 o.0).level = good.positive in
    let low : (compaction_of core f.0 o.0).level ≤ lowest_level core = good.compacts.level in
    let six : lowest_level core ≤ 6 = (five core).1 in
    subst IsSoundCore (ap (with_job core) o.2 ∙ sym n.2)
    (picked_own core h.0 f.0 (compaction_of core f.0 o.0) own ids given h.1 refl refl p.0 p.1 (record { level = omega arith; columns = columns; live = own.noted.live; drops = good.drops; flush = λ flush. absurd (let e : o.0.level ≡ 0 = eqb-true o.0.level 0 flush in omega arith) }))
