-- What is picked runs beside the others, and keeps reads.
use Rattle.std.proofs.Common.{◌≡◌, ℕ, ◌+◌, ◌<◌, zero, suc, ◌≤◌, ◌⊎◌, Bool, true, false, cond, ◌&&◌, not, List, [], ◌∷◌, ◌++◌, length, take, drop, Some, None, refl, sym, ap, ap₂, subst, ◌∙◌, inl, inr, arith, add-one}
use Rattle.std.specs.Prelude.{map, nat_lt, IsFalse, ◌==◌, Contains}
use Rattle.std.specs.List.{list_any, AllByRecursion as Each}
use Rattle.std.proofs.lemmas.Bool.{cases_Bool, cases_lt, and_parts, and_right, ne_eqb, eq-eqb, eqb-false, lt-ltb, ltb-true, false≢true}
use Rattle.std.proofs.lemmas.List.Elements.{recursion_from_All, All-contains_itself}
use Rattle.st_base.specs.Order.{in_order}
use Rattle.st_base.specs.declared.entry.KeyRange.{KeyRange}
use Rattle.st_base.specs.Range.{is_in_range, meet, range_of}
use Rattle.base_laws.proofs.Lists.{any_none, each_as, each_back, each_join, each_map, each_passed, map_each, none_any}
use Rattle.base_laws.proofs.Ranges.{both_within_meet, range_has_keys, range_is_proper}
use Rattle.core_laws.specs.Claims.{PickedRuns}
use Rattle.core_model.specs.Pick.{joint_range, is_free_job, PickedTables, pick, pick_whole, picked, lower_ranges, compaction_of}
use Rattle.core_model.specs.Picture.{FileEntries, FamilyView, Job, Core, lowest_level, level_at, runs_of, tables_in, memories, table_range, is_input, is_flush, jobs_of, running_of, live_numbers}
use Rattle.core_model.specs.RelationParts.{IsView, LevelsApart, NumbersWithin, IsCompacting, IsRunning, JobsApart, KeepsReads, IsKept}
use Rattle.core_laws.proofs.Keys.{joint_has_ranges, LiesIn, within_lies}
use Rattle.core_laws.proofs.Middle.{tables_ordered}
use Rattle.job_laws.proofs.DropRuns.{runs_are_clear, runs_within, rising_each, IsProper, HasEnds, IsClear}
use Rattle.core_laws.proofs.TableParts.{part_self, part_front, part_each, Differ, files, each_swap, take_drop}
use Rattle.core_laws.proofs.PickCases.{IsPick, free_same, pick_is, with_next}
use Rattle.core_laws.proofs.PickedJobs.{five, pick_part, pick_compacts, whole_inputs, whole_compacts}
use Rattle.core_laws.proofs.Lists.{pairs_join}
use Rattle.core_laws.proofs.ByPlace.{each_both}
use Rattle.core_model.specs.WellPicked.{IsPartOf, IsWellPicked}
use Rattle.st_order.specs.Columns.{Pairwise}
use Rattle.job_model.specs.Drops.{drop_runs, rising_keys, AreApart}
use Rattle.job_model.specs.Level.{runs_in}
use Rattle.job_laws.proofs.Ranges.{drop_runs_apart}
use Rattle.st_base.specs.declared.entry.Entry.{Entry}
use Rattle.core_laws.proofs.LevelLists.{map_append}

-- the job's ranges of dropping stand by key
picked_drops : (core : Core) (family : FamilyView) (chosen : PickedTables) → AreApart (compaction_of core family chosen).drops
picked_drops core family chosen = go core.behind
  where
    go : (b : Bool) → AreApart (cond b [] (drop_runs (lower_ranges family chosen.level) (rising_keys (runs_of chosen.inputs))))
    go true = record { proper = tt; apart = tt }
    go false = drop_runs_apart (lower_ranges family chosen.level) (runs_of chosen.inputs)

-- the ranges of the tables below a level
runs_joined_ranges : (levels : List (List FileEntries)) → map range_of (runs_in (map runs_of levels)) ≡ map table_range (tables_in levels)
runs_joined_ranges [] = refl
runs_joined_ranges (tables ∷ levels) =
    map_append range_of (runs_of tables) (runs_in (map runs_of levels))
    ∙ ap₂ (λ (front rest : List KeyRange). front ++ rest) (own tables) (runs_joined_ranges levels)
    ∙ sym (map_append table_range tables (tables_in levels))
  where
    own : (here : List FileEntries) → map range_of (runs_of here) ≡ map table_range here
    own [] = refl
    own (table ∷ here) = ap (λ (rest : List KeyRange). table_range table ∷ rest) (own here)

runs_dropped : (n : ℕ) (levels : List (List FileEntries)) → drop n (map runs_of levels) ≡ map runs_of (drop n levels)
runs_dropped zero levels = refl
runs_dropped (suc n) [] = refl
runs_dropped (suc n) (tables ∷ levels) = runs_dropped n levels

lower_are : (family : FamilyView) (level : ℕ) → lower_ranges family level ≡ map table_range (tables_in (drop (level + 1) family.levels))
lower_are family level = ap (λ (levels : List (List (List Entry))). map range_of (runs_in levels)) (runs_dropped (level + 1) family.levels) ∙ runs_joined_ranges (drop (level + 1) family.levels)

pick_good : (core : Core) (family : FamilyView) (n : ℕ) (inputs : List FileEntries) → IsView family → LevelsApart family → Pairwise Differ (tables_in family.levels)
    → n ≤ 3 → IsPick family n inputs → is_free_job (running_of core family) (lowest_level core) (n + 1) inputs ≡ true → IsWellPicked core family (record { level = n + 1; inputs = inputs })
pick_good core family n inputs view apart differ le pick free = record {
  compacts =
      subst (λ all. IsCompacting (lowest_level core) family (compaction_of core family (record { level = n + 1; inputs = all }))) (sym pick.is)
      (subst (λ k. IsCompacting (lowest_level core) family (compaction_of core family (record { level = k; inputs = with_next pick.top (level_at family k) }))) (sym (add-one n))
      (pick_compacts core family n pick.top view apart differ le pick.some pick.part pick.whole));
  part =
      subst (λ all. IsPartOf all (tables_in family.levels)) (sym pick.is)
      (subst (λ k. IsPartOf (with_next pick.top (level_at family k)) (tables_in family.levels)) (sym (add-one n)) (pick_part family n pick.top view le pick.part));
  positive = omega arith;
  free = inr (free, omega (arith, (five core).0));
  drops = picked_drops core family (record { level = n + 1; inputs = inputs });
}

whole_good : (core : Core) (family : FamilyView) (jobs : List Job) (chosen : PickedTables) → IsView family → Pairwise Differ (tables_in family.levels) → jobs_of core family ≡ jobs
    → pick_whole jobs (lowest_level core) family ≡ Some chosen → IsWellPicked core family chosen
whole_good core family (job ∷ jobs) chosen view differ none e = absurd cc
whole_good core family [] chosen view differ none e = split (nat_lt 0 (length (whole_inputs family (lowest_level core)))) refl e
  where
    split : (b : Bool) → nat_lt 0 (length (whole_inputs family (lowest_level core))) ≡ b
        → cond b (Some (record { level = lowest_level core; inputs = whole_inputs family (lowest_level core) })) None ≡ Some chosen → IsWellPicked core family chosen
    split false less e' = absurd cc
    split true less e' =
        let same : record { level = lowest_level core; inputs = whole_inputs family (lowest_level core) } ≡ chosen = cc in
        subst (IsWellPicked core family) same (record {
          compacts = whole_compacts core family view differ (ltb-true 0 (length (whole_inputs family (lowest_level core))) less);
          part = subst (IsPartOf (whole_inputs family (lowest_level core))) (sym (take_drop family.levels (lowest_level core + 1))) (part_front (part_self (whole_inputs family (lowest_level core))) (tables_in (drop (lowest_level core + 1) family.levels)));
          positive = omega (arith, (five core).0);
          free = inl none;
          drops = picked_drops core family (record { level = lowest_level core; inputs = whole_inputs family (lowest_level core) });
        })

pub picked_good : (core : Core) (family : FamilyView) (whole : Bool) (chosen : PickedTables) → IsView family → LevelsApart family → Pairwise Differ (tables_in family.levels)
    → picked core family whole ≡ Some chosen → IsWellPicked core family chosen
picked_good core family true chosen view apart differ e = whole_good core family (jobs_of core family) chosen view differ refl e
picked_good core family false chosen view apart differ e =
    let p = pick_is (running_of core family) (lowest_level core) family chosen e in
    subst (λ level. IsWellPicked core family (record { level = level; inputs = chosen.inputs })) (sym p.2)
    (pick_good core family p.0 chosen.inputs view apart differ p.1 p.3 p.4)

-- ---- beside a running job

-- what a free job shows of a running one
pub record IsBeside (lowest_level level : ℕ) (inputs : List FileEntries) (job : Job) : Type 0 where
  pub lone : (job.level == lowest_level) ≡ false
  pub files : Each (λ table. is_input job table ≡ false) inputs
  pub range : (job.level == level && meet job.range (joint_range (runs_of inputs))) ≡ false

not_true : (b : Bool) → not b ≡ true → b ≡ false
not_true true e = absurd cc
not_true false e = refl

free_beside : (running : List Job) (lowest_level level : ℕ) (inputs : List FileEntries) → is_free_job running lowest_level level inputs ≡ true → Each (IsBeside lowest_level level inputs) running
free_beside running lowest_level level inputs free =
    let lone : Job → Bool = λ (job : Job). job.level == lowest_level in
    let taken : FileEntries → Bool = λ (table : FileEntries). list_any (λ job. is_input job table) running in
    let met : Job → Bool = λ (job : Job). job.level == level && meet job.range (joint_range (runs_of inputs)) in
    let p = and_parts (not (list_any lone running) && not (list_any taken inputs)) (not (list_any met running)) (sym (free_same running lowest_level level inputs) ∙ free) in
    let q = and_parts (not (list_any lone running)) (not (list_any taken inputs)) p.0 in
    each_as (λ job. (lone job ≡ false) × ((Each (λ table. is_input job table ≡ false) inputs) × (met job ≡ false))) (IsBeside lowest_level level inputs)
    (λ job all. record { lone = all.0; files = all.1.0; range = all.1.1 }) running
    (each_both (λ job. lone job ≡ false) (λ job. (Each (λ table. is_input job table ≡ false) inputs) × (met job ≡ false)) running (none_any lone running (not_true (list_any lone running) q.0))
    (each_both (λ job. Each (λ table. is_input job table ≡ false) inputs) (λ job. met job ≡ false) running
    (each_swap (λ table job. is_input job table ≡ false) inputs running
    (each_as (λ table. taken table ≡ false) (λ table. Each (λ job. is_input job table ≡ false) running) (λ table none. none_any (λ job. is_input job table) running none) inputs (none_any taken inputs (not_true (list_any taken inputs) q.1))))
    (none_any met running (not_true (list_any met running) p.1))))

eqb_back : (m n : ℕ) → (m == n) ≡ false → (n == m) ≡ false
eqb_back m n e = ne_eqb n m (λ same. eqb-false m n e (sym same))

-- none of the job's files is an input's
no_file : (files' : List ℕ) (inputs : List FileEntries) → Each (λ table. list_any (λ file. file == table.file) files' ≡ false) inputs → Each (λ file. IsFalse (list_any (λ taken. taken == file) (files inputs))) files'
no_file files' inputs each =
    each_as (λ file. Each (λ table. (file == table.file) ≡ false) inputs) (λ file. IsFalse (list_any (λ taken. taken == file) (files inputs)))
    (λ file others. any_none (λ taken. taken == file) (files inputs)
    (each_map (λ taken. (taken == file) ≡ false) (λ table. table.file) inputs (each_as (λ table. (file == table.file) ≡ false) (λ table. (table.file == file) ≡ false) (λ table e. eqb_back file table.file e) inputs others)))
    files'
    (each_swap (λ table file. (file == table.file) ≡ false) inputs files'
    (each_as (λ table. list_any (λ file. file == table.file) files' ≡ false) (λ table. Each (λ file. (file == table.file) ≡ false) files') (λ table none. none_any (λ file. file == table.file) files' none) inputs each))

beside_apart : (core : Core) (family : FamilyView) (chosen : PickedTables) (old : Job) → IsWellPicked core family chosen → chosen.level < lowest_level core → IsRunning (lowest_level core) family old
    → (nat_lt 0 old.level ≡ true → IsBeside (lowest_level core) chosen.level chosen.inputs old) → JobsApart (lowest_level core) old (compaction_of core family chosen)
beside_apart core family chosen old good low runs beside = record {
  files = elim (cases_lt 0 old.level) [
    | inl lt ↦ no_file old.files chosen.inputs (beside (lt-ltb 0 old.level lt)).files
    | inr ge ↦ subst (Each (λ file. IsFalse (list_any (λ taken. taken == file) (files chosen.inputs)))) (sym (runs.0 (omega arith)).files) tt
  ];
  flush = and_right (is_flush old) (chosen.level == 0) (ne_eqb chosen.level 0 (λ e. omega (arith, good.positive)));
  lone = λ here there. (below_lowest here, low);
  outputs = λ here same. second (old.level == chosen.level) (meet old.range (joint_range (runs_of chosen.inputs))) (eq-eqb old.level chosen.level same) (beside (lt-ltb 0 old.level here)).range;
}
  where
    second : (x y : Bool) → x ≡ true → (x && y) ≡ false → y ≡ false
    second true y e f = f
    second false y e f = absurd cc

    below_lowest : 1 ≤ old.level → old.level < lowest_level core
    below_lowest here =
        let differs : old.level ≡ lowest_level core → ⊥ = eqb-false old.level (lowest_level core) (beside (lt-ltb 0 old.level here)).lone in
        let most : old.level ≤ lowest_level core = (runs.1 here).level in
        elim (cases_lt old.level (lowest_level core)) [ inl lt ↦ lt | inr ge ↦ absurd (differs (omega arith)) ]

pub picked_apart : (core : Core) (family : FamilyView) (chosen : PickedTables) → IsWellPicked core family chosen → Each (IsRunning (lowest_level core) family) (jobs_of core family)
    → Each (λ old. JobsApart (lowest_level core) old (compaction_of core family chosen)) (jobs_of core family)
picked_apart core family chosen good each = split good.free
  where
    split : (jobs_of core family ≡ []) ⊎ ((is_free_job (running_of core family) (lowest_level core) chosen.level chosen.inputs ≡ true) × (chosen.level < lowest_level core))
        → Each (λ old. JobsApart (lowest_level core) old (compaction_of core family chosen)) (jobs_of core family)
    split (inl none) = subst (Each (λ old. JobsApart (lowest_level core) old (compaction_of core family chosen))) (sym none) tt
    split (inr (free, low)) =
        each_as (λ old. IsRunning (lowest_level core) family old × (nat_lt 0 old.level ≡ true → IsBeside (lowest_level core) chosen.level chosen.inputs old)) (λ old. JobsApart (lowest_level core) old (compaction_of core family chosen))
        (λ old both. beside_apart core family chosen old good low both.0 both.1) (jobs_of core family)
        (each_both (IsRunning (lowest_level core) family) (λ old. nat_lt 0 old.level ≡ true → IsBeside (lowest_level core) chosen.level chosen.inputs old) (jobs_of core family) each
        (each_passed (IsBeside (lowest_level core) chosen.level chosen.inputs) (λ job. nat_lt 0 job.level) (jobs_of core family) (free_beside (running_of core family) (lowest_level core) chosen.level chosen.inputs free)))

-- ---- reads

each_cond : {X : Type 0} (P : X → Type 0) (b : Bool) (xs : List X) → Each P xs → Each P (cond b [] xs)
each_cond P true xs each = tt
each_cond P false xs each = each

cond_none : {X : Type 0} (b : Bool) (xs : List X) → b ≡ true → cond b [] xs ≡ []
cond_none true xs e = refl
cond_none false xs e = absurd cc

not_within : (run range : KeyRange) (key : List ℕ) → meet run range ≡ false → is_in_range range key ≡ true → is_in_range run key ≡ false
not_within run range key apart within = elim (cases_Bool (is_in_range run key)) [
  | inl is_so ↦ absurd (false≢true (sym apart ∙ both_within_meet run range key is_so within))
  | inr not_so ↦ not_so
]

pub picked_keeps : (core : Core) (family : FamilyView) (chosen : PickedTables) → IsView family → NumbersWithin core.last family → IsWellPicked core family chosen → KeepsReads core family (compaction_of core family chosen)
picked_keeps core family chosen view within good = record {
  live = each_as (Contains (live_numbers core)) (IsKept (compaction_of core family chosen)) (λ number there. inl there) (live_numbers core)
      (recursion_from_All (Contains (live_numbers core)) (live_numbers core) (All-contains_itself (live_numbers core)));
  began = omega arith;
  numbers = each_map (Each (λ entry. entry.number ≤ core.last)) (λ table. table.entries) chosen.inputs
      (part_each (λ table. Each (λ entry. entry.number ≤ core.last) table.entries) good.part
      (map_each (Each (λ entry. entry.number ≤ core.last)) (λ table. table.entries) (tables_in family.levels) (each_back (Each (λ entry. entry.number ≤ core.last)) (memories family) (runs_of (tables_in family.levels)) within)));
  within = each_cond (HasEnds range) core.behind runs ends;
  nothing = each_cond (λ run. Each (Each (λ entry. IsFalse (is_in_range run entry.key))) (runs_of lower)) core.behind runs clear;
  flag = λ is. cond_none core.behind runs is;
}
  where
    range : KeyRange
    range = joint_range (runs_of chosen.inputs)

    lower : List FileEntries
    lower = tables_in (drop (chosen.level + 1) family.levels)

    runs : List KeyRange
    runs = drop_runs (lower_ranges family chosen.level) (rising_keys (runs_of chosen.inputs))

    ordered : Each (λ table. in_order table.entries ≡ true) chosen.inputs
    ordered = part_each (λ table. in_order table.entries ≡ true) good.part (tables_ordered family view)

    lower_ordered : Each (λ table. in_order table.entries ≡ true) (tables_in (drop (chosen.level + 1) family.levels))
    lower_ordered =
        each_back (λ table. in_order table.entries ≡ true) (tables_in (take (chosen.level + 1) family.levels)) lower
        (subst (Each (λ table. in_order table.entries ≡ true)) (take_drop family.levels (chosen.level + 1)) (tables_ordered family view))

    ends : Each (HasEnds (joint_range (runs_of chosen.inputs))) (drop_runs (lower_ranges family chosen.level) (rising_keys (runs_of chosen.inputs)))
    ends =
        runs_within range (lower_ranges family chosen.level) (rising_keys (runs_of chosen.inputs))
        (rising_each (λ key. is_in_range range key ≡ true) (runs_of chosen.inputs)
        (each_map (Each (λ entry. is_in_range range entry.key ≡ true)) (λ table. table.entries) chosen.inputs
        (each_as (λ table. (in_order table.entries ≡ true) × LiesIn range (table_range table)) (λ table. Each (λ entry. is_in_range range entry.key ≡ true) table.entries)
        (λ table both. each_as (λ entry. is_in_range (table_range table) entry.key ≡ true) (λ entry. is_in_range range entry.key ≡ true) (λ entry is. within_lies range (table_range table) entry.key both.1 is) table.entries (range_has_keys table.entries both.0))
        chosen.inputs
        (each_both (λ table. in_order table.entries ≡ true) (λ table. LiesIn range (table_range table)) chosen.inputs ordered
        (map_each (λ entries. LiesIn range (range_of entries)) (λ table. table.entries) chosen.inputs (joint_has_ranges (runs_of chosen.inputs)))))))

    clear : Each (λ run. Each (Each (λ entry. IsFalse (is_in_range run entry.key))) (runs_of (tables_in (drop (chosen.level + 1) family.levels)))) (drop_runs (lower_ranges family chosen.level) (rising_keys (runs_of chosen.inputs)))
    clear =
        each_as (IsClear (lower_ranges family chosen.level)) (λ run. Each (Each (λ entry. IsFalse (is_in_range run entry.key))) (runs_of lower)) one_clear runs
        (runs_are_clear (lower_ranges family chosen.level) (rising_keys (runs_of chosen.inputs))
        (subst (Each IsProper) (sym (lower_are family chosen.level)) (each_map IsProper table_range lower (each_as (λ table. in_order table.entries ≡ true) (λ table. IsProper (table_range table)) (λ table is. range_is_proper table.entries is) lower lower_ordered))))
      where
        one_clear : (run : KeyRange) → IsClear (lower_ranges family chosen.level) run → Each (Each (λ entry. IsFalse (is_in_range run entry.key))) (runs_of lower)
        one_clear run is =
            each_map (Each (λ entry. IsFalse (is_in_range run entry.key))) (λ table. table.entries) lower
            (each_as (λ table. (in_order table.entries ≡ true) × (meet run (table_range table) ≡ false)) (λ table. Each (λ entry. IsFalse (is_in_range run entry.key)) table.entries)
            (λ table both. each_as (λ entry. is_in_range (table_range table) entry.key ≡ true) (λ entry. IsFalse (is_in_range run entry.key)) (λ entry in'. not_within run (table_range table) entry.key both.1 in') table.entries (range_has_keys table.entries both.0))
            lower
            (each_both (λ table. in_order table.entries ≡ true) (λ table. meet run (table_range table) ≡ false) lower lower_ordered (map_each (λ range'. meet run range' ≡ false) table_range lower (subst (Each (λ range'. meet run range' ≡ false)) (lower_are family chosen.level) is))))

pub picked_runs : PickedRuns
picked_runs core family whole chosen view apart within differ run is =
    let good : IsWellPicked core family chosen = picked_good core family whole chosen view apart differ is in
    let job : Job = compaction_of core family chosen in (
      record {
        each = each_join (IsRunning (lowest_level core) family) (jobs_of core family) (job ∷ []) run.each (((λ e. absurd (omega (arith, good.positive))), (λ le. good.compacts)), tt);
        ranges = each_join (λ one. one.range ≡ joint_range one.inputs) (jobs_of core family) (job ∷ []) run.ranges (refl, tt);
        apart = pairs_join (JobsApart (lowest_level core)) (jobs_of core family) (job ∷ []) run.apart (tt, tt)
            (each_as (λ old. JobsApart (lowest_level core) old job) (λ old. Each (JobsApart (lowest_level core) old) (job ∷ [])) (λ old apart'. (apart', tt)) (jobs_of core family) (picked_apart core family chosen good run.each));
      },
      picked_keeps core family chosen view within good,
    )
