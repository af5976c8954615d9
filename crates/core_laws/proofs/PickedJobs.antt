-- A job that is picked stands where it may, beside those that run.
use Rattle.std.proofs.Common.{◌≡◌, ℕ, zero, suc, ◌+◌, ◌≤◌, ◌⊎◌, Bool, true, false, cond, List, [], ◌∷◌, ◌++◌, length, take, drop, refl, sym, ap, subst, ◌∙◌, inl, inr, arith, append_assoc, add-one}
use Rattle.std.specs.Prelude.{filter, slice_get, unwrap_or, IsTrue, IsFalse}
use Rattle.std.specs.List.{AllByRecursion as Each}
use Rattle.std.proofs.lemmas.Bool.{cases_Bool, cases_lt, false≢true}
use Rattle.st_base.specs.Order.{in_order}
use Rattle.st_base.specs.declared.entry.KeyRange.{KeyRange}
use Rattle.st_base.specs.Range.{meet}
use Rattle.base_laws.proofs.Lists.{each_all, each_as, each_front, each_passed}
use Rattle.base_laws.proofs.Ranges.{range_is_proper}
use Rattle.core_model.specs.Pick.{joint_range, compaction_of}
use Rattle.core_model.specs.Picture.{FileEntries, FamilyView, Job, Core, lowest_level, level_at, runs_of, tables_in, table_range, has_file}
use Rattle.core_model.specs.RelationParts.{IsView, IsLevel, LevelsApart, IsCompacting, IsInputLevel, ShareNoKey}
use Rattle.core_laws.proofs.LevelLists.{each_level, pairs_with}
use Rattle.core_laws.proofs.Middle.{tables_ordered}
use Rattle.core_laws.proofs.TableParts.{part_self, part_behind, part_both, part_front, part_filter, part_each, Differ, files, has_own_files, has_file_behind, part_is_filter, pairs_any, outside, drop_level, take_level, take_drop, level_of_take, level_of_drop, a_level}
use Rattle.core_laws.proofs.PickCases.{Before, level_shares_no_key, beside_joint, length_entries, length_both, tables_meeting, with_next}
use Rattle.core_laws.proofs.ByPlace.{each_both}
use Rattle.core_model.specs.WellPicked.{IsPartOf}
use Rattle.st_order.specs.Columns.{Pairwise}

pairs_of_firsts : {X : Type 0} (R : X → X → Type 0) (xs ys : List X) → Each (λ x. (y : X) → R x y) xs → Pairwise R ys → Pairwise R (xs ++ ys)
pairs_of_firsts R [] ys each pairs = pairs
pairs_of_firsts R (x ∷ xs) ys each pairs = (each_all (R x) each.0 (xs ++ ys), pairs_of_firsts R xs ys each.1 pairs)

pairs_of_seconds : {X : Type 0} (R : X → X → Type 0) (xs : List X) → Each (λ y. (x : X) → R x y) xs → Pairwise R xs
pairs_of_seconds R [] each = tt
pairs_of_seconds R (x ∷ xs) each = (each_as (λ y. (z : _) → R z y) (R x) (λ y all. all x) xs each.1, pairs_of_seconds R xs each.1)

no_input : (test : FileEntries → Bool) (P : FileEntries → Type 0) (tables : List FileEntries) → Each (λ table. test table ≡ false) tables → Each (λ table. IsTrue (test table) → P table) tables
no_input test P tables each = each_as (λ table. test table ≡ false) (λ table. IsTrue (test table) → P table) (λ table fails passes. absurd (false≢true (sym fails ∙ passes))) tables each

-- ---- picked at a level

pub level_ordered : (family : FamilyView) (n : ℕ) → IsView family → Each (λ table. in_order table.entries ≡ true) (level_at family n)
level_ordered family n view = each_level (λ table. in_order table.entries ≡ true) family.levels n (tables_ordered family view)

pub level_is_level : (family : FamilyView) (n : ℕ) → LevelsApart family → IsLevel (level_at family (suc n))
level_is_level family n apart = go family.levels apart
  where
    go : (levels : List (List FileEntries)) → Each IsLevel (drop 1 levels) → IsLevel (unwrap_or (slice_get levels (suc n)) [])
    go [] each = tt
    go (level ∷ levels) each = a_level IsLevel levels n tt each

pub four_parts : (family : FamilyView) (n : ℕ) → IsView family → n ≤ 3
    → tables_in family.levels ≡ tables_in (take n family.levels) ++ ((level_at family n ++ level_at family (suc n)) ++ tables_in (drop (suc (suc n)) family.levels))
four_parts family n view le =
    take_drop family.levels n
    ∙ ap (λ rest. tables_in (take n family.levels) ++ rest)
    (drop_level family.levels n (omega (arith, view.levels))
    ∙ ap (λ rest. level_at family n ++ rest) (drop_level family.levels (suc n) (omega (arith, view.levels)))
    ∙ sym (append_assoc (level_at family n) (level_at family (suc n)) (tables_in (drop (suc (suc n)) family.levels))))

-- the tables that a pick takes
abbrev pub pick_inputs : FamilyView → ℕ → List FileEntries → List FileEntries
pick_inputs family n top = with_next top (level_at family (suc n))

abbrev pub pick_job : Core → FamilyView → ℕ → List FileEntries → Job
pick_job core family n top = compaction_of core family (record { level = suc n; inputs = pick_inputs family n top })

pub pick_part : (family : FamilyView) (n : ℕ) (top : List FileEntries) → IsView family → n ≤ 3 → IsPartOf top (level_at family n) → IsPartOf (pick_inputs family n top) (tables_in family.levels)
pick_part family n top view le part =
    subst (IsPartOf (pick_inputs family n top)) (sym (four_parts family n view le))
    (part_behind (tables_in (take n family.levels))
    (part_front (part_both part (part_filter (λ table. meet (table_range table) (joint_range (runs_of top))) (level_at family (suc n)))) (tables_in (drop (suc (suc n)) family.levels))))

pub five : (core : Core) → (5 ≤ lowest_level core) × (lowest_level core ≤ 6)
five core = split core.behind
  where
    split : (b : Bool) → (5 ≤ cond b 5 6) × (cond b 5 6 ≤ 6)
    split true = (omega arith, omega arith)
    split false = (omega arith, omega arith)

pub pick_compacts : (core : Core) (family : FamilyView) (n : ℕ) (top : List FileEntries) → IsView family → LevelsApart family → Pairwise Differ (tables_in family.levels)
    → n ≤ 3 → 1 ≤ length top → IsPartOf top (level_at family n) → (n ≡ 0 → top ≡ level_at family 0)
    → IsCompacting (lowest_level core) family (pick_job core family n top)
pick_compacts core family n top view apart differ le some part whole = record {
  level = omega (arith, (five core).0);
  some = omega (arith, length_entries inputs, length_both top (tables_meeting joint next));
  files = ap files is_filter;
  inputs = ap runs_of is_filter;
  levels = λ m. at_level m;
  clear = clear;
  below = below';
}
  where
    next : List FileEntries
    next = level_at family (suc n)

    joint : KeyRange
    joint = joint_range (runs_of top)

    inputs : List FileEntries
    inputs = pick_inputs family n top

    test : FileEntries → Bool
    test = has_file (files inputs)

    A : List FileEntries
    A = tables_in (take n family.levels)

    C : List FileEntries
    C = tables_in (drop (suc (suc n)) family.levels)

    is_filter : filter (has_file (files (pick_inputs family n top))) (tables_in family.levels) ≡ pick_inputs family n top
    is_filter = part_is_filter (pick_part family n top view le part) differ

    out : Each (λ table. has_file (files (pick_inputs family n top)) table ≡ false) (tables_in (take n family.levels)) × Each (λ table. has_file (files (pick_inputs family n top)) table ≡ false) (tables_in (drop (suc (suc n)) family.levels))
    out = outside A (level_at family n ++ next) C inputs (subst (Pairwise Differ) (four_parts family n view le) differ)
        (part_both part (part_filter (λ table. meet (table_range table) joint) next))

    at_level : (m : ℕ) → Each (λ table. IsTrue (has_file (files (pick_inputs family n top)) table) → IsInputLevel (lowest_level core) (suc n) m) (level_at family m)
    at_level m = elim (cases_lt m n) [
      | inl lt ↦ no_input test (λ table. IsInputLevel (lowest_level core) (suc n) m) (level_at family m) (level_of_take (λ table. test table ≡ false) family.levels n m lt out.0)
      | inr ge ↦ elim (cases_lt m (suc (suc n))) [
        | inl lt ↦ each_all (λ table. IsTrue (test table) → IsInputLevel (lowest_level core) (suc n) m) (λ table passes. record { above = omega arith; near = inr (omega arith) }) (level_at family m)
        | inr far ↦ no_input test (λ table. IsInputLevel (lowest_level core) (suc n) m) (level_at family m) (level_of_drop (λ table. test table ≡ false) family.levels (suc (suc n)) m far out.1)
      ]
    ]

    -- a table of the next level that isn't an input doesn't meet the joint range of the top
    not_met : Each (λ table. IsFalse (has_file (files (pick_inputs family n top)) table) → meet (table_range table) (joint_range (runs_of top)) ≡ false) (level_at family (suc n))
    not_met =
        each_as (λ table. meet (table_range table) joint ≡ true → test table ≡ true) (λ table. IsFalse (test table) → meet (table_range table) joint ≡ false) turned next
        (each_passed (λ table. test table ≡ true) (λ table. meet (table_range table) joint) next
        (each_as (λ table. has_file (files (tables_meeting joint next)) table ≡ true) (λ table. test table ≡ true) (λ table has. has_file_behind top (tables_meeting joint next) table has) (tables_meeting joint next) (has_own_files (tables_meeting joint next))))
      where
        turned : (table : FileEntries) → (meet (table_range table) joint ≡ true → test table ≡ true) → IsFalse (test table) → meet (table_range table) joint ≡ false
        turned table met fails = elim (cases_Bool (meet (table_range table) joint)) [
          | inl is_so ↦ absurd (false≢true (sym fails ∙ met is_so))
          | inr not_so ↦ not_so
        ]

    -- each table of the next level, and each that meets, by sides
    Sided : FileEntries → Type 0
    Sided table = Each (λ other. (meet (table_range other) joint ≡ true) × ((other ≡ table) ⊎ (Before table other ⊎ Before other table))) (tables_meeting joint next)

    sided : Each (λ table. Each (λ other. (meet (table_range other) (joint_range (runs_of top)) ≡ true) × ((other ≡ table) ⊎ (Before table other ⊎ Before other table))) (tables_meeting (joint_range (runs_of top)) (level_at family (suc n)))) (level_at family (suc n))
    sided =
        each_as (λ table. Each (λ other. (other ≡ table) ⊎ (Before table other ⊎ Before other table)) next) Sided
        (λ table ways. each_both (λ other. meet (table_range other) joint ≡ true) (λ other. (other ≡ table) ⊎ (Before table other ⊎ Before other table)) (tables_meeting joint next)
        passing (part_each (λ other. (other ≡ table) ⊎ (Before table other ⊎ Before other table)) (part_filter (λ one. meet (table_range one) joint) next) ways))
        next (pairs_any Before next (level_is_level family n apart))
      where
        passing : Each (λ other. meet (table_range other) joint ≡ true) (tables_meeting joint next)
        passing = go next
          where
            go : (tables : List FileEntries) → Each (λ other. meet (table_range other) joint ≡ true) (filter (λ one. meet (table_range one) joint) tables)
            go [] = tt
            go (table ∷ tables) = keep (meet (table_range table) joint) refl (go tables)
              where
                keep : (b : Bool) → meet (table_range table) joint ≡ b → Each (λ other. meet (table_range other) joint ≡ true) (filter (λ one. meet (table_range one) joint) tables)
                    → Each (λ other. meet (table_range other) joint ≡ true) (cond b (table ∷ filter (λ one. meet (table_range one) joint) tables) (filter (λ one. meet (table_range one) joint) tables))
                keep true e rest = (e, rest)
                keep false e rest = rest

    clear : Each (λ table. IsFalse (has_file (files (pick_inputs family n top)) table) → IsFalse (meet (joint_range (runs_of (pick_inputs family n top))) (table_range table))) (level_at family (suc n))
    clear =
        each_as Known (λ table. IsFalse (test table) → IsFalse (meet (joint_range (runs_of inputs)) (table_range table))) one_clear next
        (each_both (λ table. in_order table.entries ≡ true) (λ table. (IsFalse (test table) → meet (table_range table) joint ≡ false) × Sided table) next (level_ordered family (suc n) view)
        (each_both (λ table. IsFalse (test table) → meet (table_range table) joint ≡ false) Sided next not_met sided))
      where
        Known : FileEntries → Type 0
        Known table = (in_order table.entries ≡ true) × ((IsFalse (test table) → meet (table_range table) joint ≡ false) × Sided table)

        one_clear : (table : FileEntries) → (in_order table.entries ≡ true) × ((IsFalse (test table) → meet (table_range table) joint ≡ false) × Sided table) → IsFalse (test table) → IsFalse (meet (joint_range (runs_of inputs)) (table_range table))
        one_clear table known fails =
            let beside : meet (table_range table) joint ≡ false = known.1.0 fails in
            beside_joint top (tables_meeting joint next) table some (range_is_proper table.entries known.0) beside
            (each_as (λ other. (meet (table_range other) joint ≡ true) × ((other ≡ table) ⊎ (Before table other ⊎ Before other table))) (λ other. (meet (table_range other) joint ≡ true) × (Before other table ⊎ Before table other))
            (ways beside) (tables_meeting joint next) known.1.1)
          where
            ways : meet (table_range table) joint ≡ false → (other : FileEntries) → (meet (table_range other) joint ≡ true) × ((other ≡ table) ⊎ (Before table other ⊎ Before other table))
                → (meet (table_range other) joint ≡ true) × (Before other table ⊎ Before table other)
            ways beside other (meets, inl same) = absurd (false≢true (sym beside ∙ subst (λ one. meet (table_range one) joint ≡ true) same meets))
            ways beside other (meets, inr (inl after)) = (meets, inr after)
            ways beside other (meets, inr (inr before)) = (meets, inl before)

    Behind : FileEntries → FileEntries → Type 0
    Behind one other = IsTrue (test one) → IsFalse (test other) → ShareNoKey one.entries other.entries

    -- at the level itself: all are inputs, or it stands by key
    own : (k : ℕ) → n ≡ k → Pairwise (λ one other. IsTrue (has_file (files (pick_inputs family n top)) one) → IsFalse (has_file (files (pick_inputs family n top)) other) → ShareNoKey one.entries other.entries) (level_at family n)
    own zero is =
        pairs_of_seconds Behind (level_at family n)
        (each_as (λ table. test table ≡ true) (λ other. (one : FileEntries) → Behind one other) (λ other passes one is_input fails. absurd (false≢true (sym fails ∙ passes))) (level_at family n)
        (subst (λ tables. Each (λ table. test table ≡ true) tables) (whole is ∙ sym (ap (level_at family) is)) (has_front_files top (tables_meeting joint next))))
      where
        has_front_files : (front back : List FileEntries) → Each (λ table. has_file (files (front ++ back)) table ≡ true) front
        has_front_files front back = each_front (λ table. has_file (files (front ++ back)) table ≡ true) front back (has_own_files (front ++ back))
    own (suc k) is =
        pairs_with (λ table. in_order table.entries ≡ true) (λ one other. ShareNoKey one.entries other.entries) Behind (λ one other here there share is_input fails. share) (level_at family n) (level_ordered family n view)
        (level_shares_no_key (level_at family n) (level_ordered family n view) (subst (λ m. IsLevel (level_at family m)) (sym is) (level_is_level family k apart)))

    below' : Pairwise (λ one other. IsTrue (has_file (files (pick_inputs family n top)) one) → IsFalse (has_file (files (pick_inputs family n top)) other) → ShareNoKey one.entries other.entries) (tables_in (take (suc n) family.levels))
    below' =
        subst (Pairwise Behind) (sym (take_level family.levels n (omega (arith, view.levels))))
        (pairs_of_firsts Behind A (level_at family n)
        (each_as (λ table. test table ≡ false) (λ one. (other : FileEntries) → Behind one other) (λ one fails other passes. absurd (false≢true (sym fails ∙ passes))) A out.0)
        (own n refl))

-- ---- picked whole

abbrev pub whole_inputs : FamilyView → ℕ → List FileEntries
whole_inputs family low = tables_in (take (low + 1) family.levels)

pub whole_compacts : (core : Core) (family : FamilyView) → IsView family → Pairwise Differ (tables_in family.levels) → 1 ≤ length (whole_inputs family (lowest_level core))
    → IsCompacting (lowest_level core) family (compaction_of core family (record { level = lowest_level core; inputs = whole_inputs family (lowest_level core) }))
whole_compacts core family view differ some = record {
  level = omega arith;
  some = omega (arith, length_entries inputs);
  files = ap files is_filter;
  inputs = ap runs_of is_filter;
  levels = λ m. at_level m;
  clear = each_as (λ table. test table ≡ true) (λ table. IsFalse (test table) → IsFalse (meet (joint_range (runs_of inputs)) (table_range table)))
      (λ table passes fails. absurd (false≢true (sym fails ∙ passes))) (level_at family low) (level_of_take (λ table. test table ≡ true) family.levels (low + 1) low (omega arith) (has_own_files inputs));
  below = pairs_of_seconds Behind (tables_in (take low family.levels))
      (each_as (λ table. test table ≡ true) (λ other. (one : FileEntries) → Behind one other) (λ other passes one is_input fails. absurd (false≢true (sym fails ∙ passes))) (tables_in (take low family.levels))
      (each_front (λ table. test table ≡ true) (tables_in (take low family.levels)) (level_at family low)
      (subst (λ tables. Each (λ table. test table ≡ true) tables) (ap (λ k. tables_in (take k family.levels)) (add-one low) ∙ take_level family.levels low (omega (arith, view.levels, (five core).1))) (has_own_files inputs))));
}
  where
    low : ℕ
    low = lowest_level core

    inputs : List FileEntries
    inputs = whole_inputs family low

    test : FileEntries → Bool
    test = has_file (files inputs)

    Behind : FileEntries → FileEntries → Type 0
    Behind one other = IsTrue (test one) → IsFalse (test other) → ShareNoKey one.entries other.entries

    C : List FileEntries
    C = tables_in (drop (low + 1) family.levels)

    two : tables_in family.levels ≡ whole_inputs family (lowest_level core) ++ tables_in (drop (lowest_level core + 1) family.levels)
    two = take_drop family.levels (low + 1)

    is_filter : filter (has_file (files (whole_inputs family (lowest_level core)))) (tables_in family.levels) ≡ whole_inputs family (lowest_level core)
    is_filter = part_is_filter (subst (IsPartOf inputs) (sym two) (part_front (part_self inputs) C)) differ

    at_level : (m : ℕ) → Each (λ table. IsTrue (has_file (files (whole_inputs family (lowest_level core))) table) → IsInputLevel (lowest_level core) (lowest_level core) m) (level_at family m)
    at_level m = elim (cases_lt m (low + 1)) [
      | inl lt ↦ each_all (λ table. IsTrue (test table) → IsInputLevel low low m) (λ table passes. record { above = omega arith; near = inl refl }) (level_at family m)
      | inr far ↦ no_input test (λ table. IsInputLevel low low m) (level_at family m)
          (level_of_drop (λ table. test table ≡ false) family.levels (low + 1) m far (outside [] inputs C inputs (subst (Pairwise Differ) two differ) (part_self inputs)).1)
    ]
