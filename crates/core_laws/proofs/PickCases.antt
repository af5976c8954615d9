-- Which inputs picking gives, case by case.
use Rattle.std.proofs.Common.{◌≡◌, ℕ, zero, suc, ◌+◌, ◌≤◌, ◌⊎◌, Bool, true, false, cond, ◌&&◌, List, [], ◌∷◌, ◌++◌, length, Option, Some, None, refl, sym, ap, ap₂, subst, ◌∙◌, ◌||◌, inl, inr, arith}
use Rattle.std.specs.Prelude.{filter, find, map, not, ◌==◌, IsTrue}
use Rattle.std.specs.Option.{option_map, option_or}
use Rattle.std.specs.List.{list_any, AllByRecursion as Each}
use Rattle.std.proofs.lemmas.Bool.{cases_Bool, and_parts, and_cases, leb-true, false≢true}
use Rattle.st_base.specs.Bytes.{at_most, below}
use Rattle.st_base.specs.Order.{in_order}
use Rattle.st_base.specs.declared.entry.Entry.{Entry}
use Rattle.st_base.specs.declared.entry.KeyRange.{KeyRange}
use Rattle.st_base.specs.Range.{meet, range_of, has_key}
use Rattle.base_laws.proofs.Keys.{at_most_below, at_most_trans, below_at_most, below_at_most_below, below_not, not_at_most}
use Rattle.base_laws.proofs.Lists.{each_as, each_join, each_map, map_each}
use Rattle.base_laws.proofs.Ranges.{has_key_within, range_has_keys, within_parts}
use Rattle.core_model.specs.Pick.{PickedTables, busy, chosen_of, is_free_job, joint_range, pick, ranged}
use Rattle.st_base.specs.declared.running.Ranged.{Ranged}
use Rattle.st_base.specs.declared.running.Running.{Running}
use Rattle.job_model.specs.Pick.{candidates_of, is_free_among, is_over_of, joint_of, joint_shown, pick_from, pick_in, pick_of, takes, with_next_of}
use Rattle.job_laws.proofs.Shown.{any_map, picks_of_shown}
use Rattle.core_laws.specs.Laws.{PickingSeesRanges}
use Rattle.core_model.specs.Picture.{FileEntries, FamilyView, Job, is_input, lowest_level, level_at, runs_of, table_range}
use Rattle.core_model.specs.RelationParts.{IsLevel, ShareNoKey}
use Rattle.core_laws.proofs.Keys.{joint_has_ranges, LiesIn}
use Rattle.core_laws.proofs.LevelLists.{pairs_with}
use Rattle.job_laws.proofs.DropRuns.{IsProper}
use Rattle.core_laws.proofs.TableParts.{part_self, part_alone}
use Rattle.core_laws.proofs.NamedLists.{map_some}
use Rattle.core_model.specs.WellPicked.{IsPartOf}
use Rattle.st_order.specs.Columns.{Pairwise}

-- ---- tables of a level

-- a table by key comes wholly before the other
abbrev pub Before : FileEntries → FileEntries → Type 0
Before one other = IsTrue (below (table_range one).last (table_range other).first)

pub before_share_no_key : (one other : FileEntries) → in_order one.entries ≡ true → in_order other.entries ≡ true → Before one other → ShareNoKey one.entries other.entries
before_share_no_key one other here there before key has = elim (cases_Bool (has_key other.entries key)) [
  | inl too ↦
      let p = within_parts (table_range one) key (has_key_within (table_range one) key one.entries (range_has_keys one.entries here) has) in
      let q = within_parts (table_range other) key (has_key_within (table_range other) key other.entries (range_has_keys other.entries there) too) in
      absurd (false≢true (sym (below_not key (table_range other).first (at_most_below key (table_range one).last (table_range other).first p.1 before)) ∙ q.0))
  | inr hasn't ↦ hasn't
]

pub level_shares_no_key : (tables : List FileEntries) → Each (λ table. in_order table.entries ≡ true) tables → IsLevel tables → Pairwise (λ one other. ShareNoKey one.entries other.entries) tables
level_shares_no_key tables ordered level =
    pairs_with (λ table. in_order table.entries ≡ true) Before (λ one other. ShareNoKey one.entries other.entries) before_share_no_key tables ordered level

-- ---- joint ranges and a table beside them

-- all inputs before a key, or behind one: so is their joint range
joint_before : (key : List ℕ) (inputs : List (List Entry)) → 1 ≤ length inputs → Each (λ entries. below (range_of entries).last key ≡ true) inputs → below (joint_range inputs).last key ≡ true
joint_before key [] some each = absurd (omega arith)
joint_before key (entries ∷ []) some each = each.0
joint_before key (entries ∷ other ∷ more) some each = either (below (range_of entries).last (joint_range (other ∷ more)).last) each.0 (joint_before key (other ∷ more) (omega arith) each.1)
  where
    either : (b : Bool) → below (range_of entries).last key ≡ true → below (joint_range (other ∷ more)).last key ≡ true → below (cond b (joint_range (other ∷ more)).last (range_of entries).last) key ≡ true
    either true p q = q
    either false p q = p

joint_behind : (key : List ℕ) (inputs : List (List Entry)) → 1 ≤ length inputs → Each (λ entries. below key (range_of entries).first ≡ true) inputs → below key (joint_range inputs).first ≡ true
joint_behind key [] some each = absurd (omega arith)
joint_behind key (entries ∷ []) some each = each.0
joint_behind key (entries ∷ other ∷ more) some each = either (below (joint_range (other ∷ more)).first (range_of entries).first) each.0 (joint_behind key (other ∷ more) (omega arith) each.1)
  where
    either : (b : Bool) → below key (range_of entries).first ≡ true → below key (joint_range (other ∷ more)).first ≡ true → below key (cond b (joint_range (other ∷ more)).first (range_of entries).first) ≡ true
    either true p q = q
    either false p q = p

pub length_entries : (tables : List FileEntries) → length (runs_of tables) ≡ length tables
length_entries [] = refl
length_entries (table ∷ tables) = ap suc (length_entries tables)

pub length_both : (one other : List FileEntries) → length one ≤ length (one ++ other)
length_both [] other = omega arith
length_both (table ∷ one) other = omega (arith, length_both one other)

-- a table that meets neither the joint range of the top nor one of the tables that meet it, doesn't meet the joint range of all
pub beside_joint : (top met : List FileEntries) (table : FileEntries) → 1 ≤ length top → IsProper (table_range table)
    → meet (table_range table) (joint_range (runs_of top)) ≡ false
    → Each (λ other. (meet (table_range other) (joint_range (runs_of top)) ≡ true) × (Before other table ⊎ Before table other)) met
    → meet (joint_range (runs_of (top ++ met))) (table_range table) ≡ false
beside_joint top met table some proper apart sides = split (and_cases (at_most range.first joint.last) (at_most joint.first range.last) apart)
  where
    range : KeyRange
    range = table_range table

    joint : KeyRange
    joint = joint_range (runs_of top)

    tops : Each (λ one. LiesIn (joint_range (runs_of top)) (table_range one)) top
    tops = map_each (λ entries. LiesIn (joint_range (runs_of top)) (range_of entries)) (λ one. one.entries) top (joint_has_ranges (runs_of top))

    all_some : 1 ≤ length (runs_of (top ++ met))
    all_some = omega (arith, length_entries (top ++ met), length_both top met)

    Sided : FileEntries → Type 0
    Sided other = (meet (table_range other) (joint_range (runs_of top)) ≡ true) × (Before other table ⊎ Before table other)

    -- the table is behind
    met_before : at_most (table_range table).first (joint_range (runs_of top)).last ≡ false → (other : FileEntries) → Sided other → below (table_range other).last (table_range table).first ≡ true
    met_before behind other (meets, inl before) = before
    met_before behind other (meets, inr after) =
        let p = and_parts (at_most (table_range other).first joint.last) (at_most joint.first (table_range other).last) meets in
        absurd (false≢true (sym behind ∙ at_most_trans range.first range.last joint.last proper (at_most_trans range.last (table_range other).first joint.last (below_at_most range.last (table_range other).first after) p.0)))

    met_behind : at_most (joint_range (runs_of top)).first (table_range table).last ≡ false → (other : FileEntries) → Sided other → below (table_range table).last (table_range other).first ≡ true
    met_behind before other (meets, inr after) = after
    met_behind before other (meets, inl earlier) =
        let p = and_parts (at_most (table_range other).first joint.last) (at_most joint.first (table_range other).last) meets in
        absurd (false≢true (sym before ∙ at_most_trans joint.first range.first range.last (at_most_trans joint.first (table_range other).last range.first p.1 (below_at_most (table_range other).last range.first earlier)) proper))

    and_second : (x y : Bool) → y ≡ false → (x && y) ≡ false
    and_second true y e = e
    and_second false y e = refl

    and_first : (x y : Bool) → x ≡ false → (x && y) ≡ false
    and_first true y e = absurd cc
    and_first false y e = refl

    split : (at_most (table_range table).first (joint_range (runs_of top)).last ≡ false) ⊎ (at_most (joint_range (runs_of top)).first (table_range table).last ≡ false)
        → meet (joint_range (runs_of (top ++ met))) (table_range table) ≡ false
    split (inl behind) =
        and_second (at_most (joint_range (runs_of (top ++ met))).first range.last) (at_most range.first (joint_range (runs_of (top ++ met))).last)
        (below_not (joint_range (runs_of (top ++ met))).last range.first
        (joint_before range.first (runs_of (top ++ met)) all_some
        (each_map (λ entries. below (range_of entries).last range.first ≡ true) (λ one. one.entries) (top ++ met)
        (each_join (λ one. below (table_range one).last range.first ≡ true) top met
        (each_as (λ one. LiesIn joint (table_range one)) (λ one. below (table_range one).last range.first ≡ true)
        (λ one lies. at_most_below (table_range one).last joint.last range.first lies.last (not_at_most range.first joint.last behind)) top tops)
        (each_as Sided (λ one. below (table_range one).last range.first ≡ true) (met_before behind) met sides)))))
    split (inr before) =
        and_first (at_most (joint_range (runs_of (top ++ met))).first range.last) (at_most range.first (joint_range (runs_of (top ++ met))).last)
        (below_not range.last (joint_range (runs_of (top ++ met))).first
        (joint_behind range.last (runs_of (top ++ met)) all_some
        (each_map (λ entries. below range.last (range_of entries).first ≡ true) (λ one. one.entries) (top ++ met)
        (each_join (λ one. below range.last (table_range one).first ≡ true) top met
        (each_as (λ one. LiesIn joint (table_range one)) (λ one. below range.last (table_range one).first ≡ true)
        (λ one lies. below_at_most_below range.last joint.first (table_range one).first (not_at_most joint.first range.last before) lies.first) top tops)
        (each_as Sided (λ one. below range.last (table_range one).first ≡ true) (met_behind before) met sides)))))

-- ---- what picking chooses

-- the tables whose ranges meet this one
abbrev pub tables_meeting : KeyRange → List FileEntries → List FileEntries
tables_meeting range tables = filter (λ table. meet (table_range table) range) tables

-- these tables, and those of the next level that meet their joint range
abbrev pub with_next : List FileEntries → List FileEntries → List FileEntries
with_next tables next = tables ++ tables_meeting (joint_range (runs_of tables)) next

ranges_same : (tables : List FileEntries) → map (λ (table : FileEntries). (ranged table).range) tables ≡ map range_of (runs_of tables)
ranges_same [] = refl
ranges_same (table ∷ tables) = ap (λ (rest : List KeyRange). table_range table ∷ rest) (ranges_same tables)

joint_same : (tables : List FileEntries) → joint_shown ranged tables ≡ joint_range (runs_of tables)
joint_same tables = ap joint_of (ranges_same tables)

next_same : (tables next : List FileEntries) → with_next_of ranged tables next ≡ with_next tables next
next_same tables next = ap (λ joint. tables ++ filter (λ table. meet (table_range table) joint) next) (joint_same tables)

-- a job of these inputs is free, told by jobs and tables
abbrev pub IsFreeBeside : List Job → ℕ → ℕ → List FileEntries → Bool
IsFreeBeside running lowest_level level inputs =
    (not (list_any (λ job. job.level == lowest_level) running)
    && not (list_any (λ table. list_any (λ job. is_input job table) running) inputs))
    && not (list_any (λ job. job.level == level && meet job.range (joint_range (runs_of inputs))) running)

any_as : {X : Type 0} (p q : X → Bool) → ((x : X) → p x ≡ q x) → (xs : List X) → list_any p xs ≡ list_any q xs
any_as p q same [] = refl
any_as p q same (x ∷ xs) = ap₂ (λ (a b : Bool). a || b) (same x) (any_as p q same xs)

pub free_same : (running : List Job) (lowest_level level : ℕ) (inputs : List FileEntries) → is_free_job running lowest_level level inputs ≡ IsFreeBeside running lowest_level level inputs
free_same running lowest_level level inputs =
    ap₂ (λ (a b : Bool). a && b)
    (ap₂ (λ (a b : Bool). not a && not b)
    (any_map busy (λ (job : Running). job.level == lowest_level) (λ (job : Job). job.level == lowest_level) (λ job. refl) running)
    (any_as (λ (table : FileEntries). list_any (takes (ranged table).file) (map busy running)) (λ table. list_any (λ job. is_input job table) running)
    (λ table. any_map busy (takes (ranged table).file) (λ (job : Job). is_input job table) (λ job. refl) running) inputs))
    (ap not (any_map busy (λ (job : Running). job.level == level && meet job.range (joint_shown ranged inputs)) (λ (job : Job). job.level == level && meet job.range (joint_range (runs_of inputs)))
    (λ job. ap (λ range. job.level == level && meet job.range range) (joint_same inputs)) running))

-- tables that stand at a level, at the front of the inputs, then those of the next level that meet their joint range
pub record IsPick (family : FamilyView) (n : ℕ) (inputs : List FileEntries) : Type 0 where
  pub top : List FileEntries
  pub some : 1 ≤ length top
  pub part : IsPartOf top (level_at family n)
  pub whole : n ≡ 0 → top ≡ level_at family 0
  pub is : inputs ≡ with_next top (level_at family (n + 1))

find_each : {X : Type 0} (P : X → Type 0) (test : X → Bool) (xs : List X) (x : X) → Each P xs → find test xs ≡ Some x → P x × (test x ≡ true)
find_each P test [] x each e = absurd cc
find_each P test (y ∷ ys) x each e = split (test y) refl e (find_each P test ys x each.1)
  where
    split : (b : Bool) → test y ≡ b → cond b (Some y) (find test ys) ≡ Some x → (find test ys ≡ Some x → P x × (test x ≡ true)) → P x × (test x ≡ true)
    split true passes found rest =
        let same : y ≡ x = cc in
        (subst P same each.0, subst (λ z. test z ≡ true) same passes)
    split false fails found rest = rest found

-- a job that is picked at a level is a pick, and free
pick_at_is : (running : List Job) (lowest_level : ℕ) (family : FamilyView) (n : ℕ) (inputs : List FileEntries) → pick_in ranged (map busy running) lowest_level family.levels n ≡ Some inputs
    → IsPick family n inputs × (is_free_job running lowest_level (n + 1) inputs ≡ true)
pick_at_is running lowest_level family n inputs e = over (is_over_of ranged n (level_at family n)) refl e
  where
    all_picks : (k : ℕ) → n ≡ k → is_over_of ranged n (level_at family n) ≡ true → Each (IsPick family n) (candidates_of ranged k (level_at family n) (level_at family (n + 1)))
    all_picks zero is over' = (
      record {
        top = level_at family n;
        some = omega (arith, leb-true 4 (length (level_at family n)) (subst (λ k. is_over_of ranged k (level_at family n) ≡ true) is over'));
        part = part_self (level_at family n);
        whole = λ e'. ap (level_at family) e';
        is = next_same (level_at family n) (level_at family (n + 1));
      },
      tt,
    )
    all_picks (suc k) is over' =
        each_map (IsPick family n) (λ table. with_next_of ranged (table ∷ []) (level_at family (n + 1))) (level_at family n)
        (each_as (λ table. IsPartOf (table ∷ []) (level_at family n)) (λ table. IsPick family n (with_next_of ranged (table ∷ []) (level_at family (n + 1))))
        (λ table p. record { top = table ∷ []; some = omega arith; part = p; whole = λ e'. absurd (omega (arith, e', is)); is = next_same (table ∷ []) (level_at family (n + 1)) })
        (level_at family n) (part_alone (level_at family n)))

    over : (b : Bool) → is_over_of ranged n (level_at family n) ≡ b
        → cond b (find (is_free_among ranged (map busy running) lowest_level (n + 1)) (candidates_of ranged n (level_at family n) (level_at family (n + 1)))) None ≡ Some inputs
        → IsPick family n inputs × (is_free_job running lowest_level (n + 1) inputs ≡ true)
    over true is found = find_each (IsPick family n) (is_free_among ranged (map busy running) lowest_level (n + 1)) (candidates_of ranged n (level_at family n) (level_at family (n + 1))) inputs (all_picks n refl is) found
    over false is found = absurd cc

some_or : {X : Type 0} (x y : Option X) (z : X) → option_or x y ≡ Some z → (x ≡ Some z) ⊎ (y ≡ Some z)
some_or None y z e = inr e
some_or (Some x) y z e = inl e

-- the pick of a level, and the choice of its inputs and output level
abbrev IsChoice : List Job → ℕ → FamilyView → PickedTables → Type 0
IsChoice running lowest_level family chosen =
    (n : ℕ) × (n ≤ 3) × (chosen.level ≡ n + 1) × IsPick family n chosen.inputs × (is_free_job running lowest_level (n + 1) chosen.inputs ≡ true)

pick_from_is : (running : List Job) (lowest_level : ℕ) (family : FamilyView) (more n : ℕ) (choice : ℕ × List FileEntries) → n + more ≤ 4
    → pick_from ranged (map busy running) lowest_level family.levels more n ≡ Some choice → IsChoice running lowest_level family (chosen_of choice)
pick_from_is running lowest_level family zero n choice le e = absurd cc
pick_from_is running lowest_level family (suc more) n choice le e =
    step (some_or (here (pick_in ranged (map busy running) lowest_level family.levels n)) (pick_from ranged (map busy running) lowest_level family.levels more (n + 1)) choice e)
    (pick_from_is running lowest_level family more (n + 1) choice (omega arith))
  where
    here : Option (List FileEntries) → Option (ℕ × List FileEntries)
    here found = option_map (λ (inputs : List FileEntries). (n + 1, inputs)) found

    step : (here (pick_in ranged (map busy running) lowest_level family.levels n) ≡ Some choice) ⊎ (pick_from ranged (map busy running) lowest_level family.levels more (n + 1) ≡ Some choice)
        → (pick_from ranged (map busy running) lowest_level family.levels more (n + 1) ≡ Some choice → IsChoice running lowest_level family (chosen_of choice)) → IsChoice running lowest_level family (chosen_of choice)
    step (inr later) rest = rest later
    step (inl found) rest =
        let p = map_some (λ (inputs : List FileEntries). (n + 1, inputs)) (pick_in ranged (map busy running) lowest_level family.levels n) choice found in
        let q = pick_at_is running lowest_level family n choice.1 (p.1 ∙ ap Some (ap (λ (one : ℕ × List FileEntries). one.1) p.2)) in
        (n, omega arith, sym (ap (λ (one : ℕ × List FileEntries). one.0) p.2), q.0, q.1)

-- of the levels 0 to 3
pub pick_is : (running : List Job) (lowest_level : ℕ) (family : FamilyView) (chosen : PickedTables) → pick running lowest_level family ≡ Some chosen
    → (n : ℕ) × (n ≤ 3) × (chosen.level ≡ n + 1) × IsPick family n chosen.inputs × (is_free_job running lowest_level (n + 1) chosen.inputs ≡ true)
pick_is running lowest_level family chosen e =
    let p = map_some chosen_of (pick_of ranged (map busy running) lowest_level family.levels) chosen e in
    subst (IsChoice running lowest_level family) p.2 (pick_from_is running lowest_level family 4 0 p.0 (omega arith) p.1)

-- ---- what picking looks at

pub picking_sees_ranges : PickingSeesRanges
picking_sees_ranges running lowest family = picks_of_shown ranged (map busy running) lowest family.levels ∙ by (pick_of ranged (map busy running) lowest family.levels)
  where
    by : (found : Option (ℕ × List FileEntries)) → option_map {U = ℕ × List Ranged} (λ (choice : ℕ × List FileEntries). (choice.0, map ranged choice.1)) found
        ≡ option_map {U = ℕ × List Ranged} (λ (chosen : PickedTables). (chosen.level, map ranged chosen.inputs)) (option_map chosen_of found)
    by (Some choice) = refl
    by None = refl
