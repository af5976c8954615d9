-- The inputs of a job are the middle of each column, and its outputs take their place.
use Rattle.std.proofs.Common.{◌≡◌, ℕ, suc, ◌+◌, ◌<◌, ◌≤◌, ◌⊎◌, Bool, true, false, cond, not, List, [], ◌∷◌, ◌++◌, length, take, drop, refl, sym, ap, subst, ◌∙◌, inl, inr, arith, append_assoc, append-nil, add-one}
use Rattle.std.specs.Prelude.{map, filter, slice_get, unwrap_or, set, IsTrue, IsFalse, ◌||◌}
use Rattle.std.specs.List.{AllByRecursion as Each}
use Rattle.std.proofs.lemmas.Bool.{cases_Bool, or_parts, false≢true}
use Rattle.st_base.specs.Bytes.{below, same}
use Rattle.st_base.specs.Order.{in_order}
use Rattle.st_base.specs.declared.entry.Entry.{Entry}
use Rattle.st_base.specs.declared.entry.KeyRange.{KeyRange}
use Rattle.st_base.proofs.Same.{same_true}
use Rattle.st_base.specs.Range.{is_in_range, meet, range_of, has_key}
use Rattle.base_laws.proofs.Lists.{append_none, each_all, each_as, each_back, each_map, each_passing, filter_none, filter_whole, map_each}
use Rattle.base_laws.proofs.Ranges.{both_within_meet, has_key_within, range_has_keys}
use Rattle.core_laws.specs.Claims.{JointHasKeys, Compacts, AreOutputsOf, InputsAreMiddle, OutputsAreMiddle, DropsHaveNothingBelow, FlushIsMiddle, upper_runs, lower_runs}
use Rattle.core_model.specs.Compaction.{without_last, with_flushed, with_compacted, staying, put_all}
use Rattle.core_model.specs.Pick.{joint_range}
use Rattle.core_model.specs.Picture.{FileEntries, FamilyView, Job, lowest_level, level_at, runs_of, tables_in, memories, walk, table_range, is_input, put_by_key}
use Rattle.core_model.specs.RelationParts.{IsView, IsInputLevel, ShareNoKey, input_tables, IsSortedRun}
use Rattle.core_model.specs.Step.{joined_entries}
use Rattle.core_laws.proofs.Keys.{joint_has_ranges, LiesIn, within_lies}
use Rattle.core_laws.proofs.LevelLists.{set_split, filter_levels, pairs_with, map_append, levels_split, each_drop, each_level}
use Rattle.core_laws.proofs.Lists.{filter_join}
use Rattle.core_laws.proofs.ByPlace.{each_both, flat_join}
use Rattle.core_laws.proofs.JointRange.{order_back, order_front}
use Rattle.st_order.specs.Columns.{Pairwise, of_key, column}
use Rattle.job_model.specs.Column.{compacted, kept}
use Rattle.job_model.specs.Drops.{covers}

-- ---- columns of tables

-- the key's entries in these tables
abbrev pub in_tables : List ℕ → List FileEntries → List Entry
in_tables key tables = column key (runs_of tables)

pub column_append : (key : List ℕ) (one other : List (List Entry)) → column key (one ++ other) ≡ column key one ++ column key other
column_append key one other = flat_join (of_key key) one other

pub in_append : (key : List ℕ) (one other : List FileEntries) → in_tables key (one ++ other) ≡ in_tables key one ++ in_tables key other
in_append key one other = ap (column key) (map_append (λ table. table.entries) one other) ∙ column_append key (runs_of one) (runs_of other)

-- no entry of the key stands in these entries
abbrev pub Lacks : List ℕ → List Entry → Type 0
Lacks key entries = of_key key entries ≡ []

pub lacks : (key : List ℕ) (entries : List Entry) → has_key entries key ≡ false → Lacks key entries
lacks key [] e = refl
lacks key (entry ∷ entries) e =
    let p = or_parts (same entry.key key) (has_key entries key) e in
    ap (λ b. cond b (entry ∷ of_key key entries) (of_key key entries)) p.0 ∙ lacks key entries p.1

pub column_none : (key : List ℕ) (runs : List (List Entry)) → Each (Lacks key) runs → column key runs ≡ []
column_none key [] each = refl
column_none key (entries ∷ runs) each = ap (λ rest. rest ++ column key runs) each.0 ∙ column_none key runs each.1

pub in_none : (key : List ℕ) (tables : List FileEntries) → Each (λ table. Lacks key table.entries) tables → in_tables key tables ≡ []
in_none key tables each = column_none key (runs_of tables) (each_map (Lacks key) (λ table. table.entries) tables each)

-- a filter that takes nothing of the key leaves its column to the others
pub others_have : (test : FileEntries → Bool) (key : List ℕ) (tables : List FileEntries) → in_tables key (filter test tables) ≡ [] → in_tables key tables ≡ in_tables key (filter (λ table. not (test table)) tables)
others_have test key [] e = refl
others_have test key (table ∷ tables) e = split (others_have test key tables) (test table) e
  where
    split : (in_tables key (filter test tables) ≡ [] → in_tables key tables ≡ in_tables key (filter (λ one. not (test one)) tables)) → (b : Bool) → in_tables key (cond b (table ∷ filter test tables) (filter test tables)) ≡ []
        → of_key key table.entries ++ in_tables key tables ≡ in_tables key (cond (not b) (table ∷ filter (λ one. not (test one)) tables) (filter (λ one. not (test one)) tables))
    split rest true none =
        let p = append_none (of_key key table.entries) (in_tables key (filter test tables)) none in
        ap (λ front. front ++ in_tables key tables) p.0 ∙ rest p.1
    split rest false none = ap (λ one. of_key key table.entries ++ one) (rest none)

pub those_have : (test : FileEntries → Bool) (key : List ℕ) (tables : List FileEntries) → in_tables key (filter (λ table. not (test table)) tables) ≡ [] → in_tables key tables ≡ in_tables key (filter test tables)
those_have test key [] e = refl
those_have test key (table ∷ tables) e = split (those_have test key tables) (test table) e
  where
    split : (in_tables key (filter (λ one. not (test one)) tables) ≡ [] → in_tables key tables ≡ in_tables key (filter test tables)) → (b : Bool) → in_tables key (cond (not b) (table ∷ filter (λ one. not (test one)) tables) (filter (λ one. not (test one)) tables)) ≡ []
        → of_key key table.entries ++ in_tables key tables ≡ in_tables key (cond b (table ∷ filter test tables) (filter test tables))
    split rest true none = ap (λ one. of_key key table.entries ++ one) (rest none)
    split rest false none =
        let p = append_none (of_key key table.entries) (in_tables key (filter (λ one. not (test one)) tables)) none in
        ap (λ front. front ++ in_tables key tables) p.0 ∙ rest p.1

-- where no other comes behind one that passes and has its key, the others come first
pub others_first : (test : FileEntries → Bool) (key : List ℕ) (tables : List FileEntries)
    → Pairwise (λ one other. IsTrue (test one) → IsFalse (test other) → ShareNoKey one.entries other.entries) tables
    → in_tables key tables ≡ in_tables key (filter (λ table. not (test table)) tables) ++ in_tables key (filter test tables)
others_first test key [] pairs = refl
others_first test key (table ∷ tables) pairs = split (others_first test key tables pairs.1) (test table) refl
  where
    S : List FileEntries
    S = filter (λ one. not (test one)) tables

    I : List FileEntries
    I = filter test tables

    here : List Entry
    here = of_key key table.entries

    with_key : in_tables key tables ≡ in_tables key S ++ in_tables key I → test table ≡ true → (b : Bool) → has_key table.entries key ≡ b → here ++ in_tables key tables ≡ in_tables key S ++ (here ++ in_tables key I)
    with_key rest passes true has =
        let none : in_tables key S ≡ [] =
        in_none key S (each_passing (λ one. Lacks key one.entries) (λ one. not (test one)) tables
        (each_as (λ other. IsTrue (test table) → IsFalse (test other) → ShareNoKey table.entries other.entries) (λ other. not (test other) ≡ true → Lacks key other.entries)
        (λ other share fails. lacks key other.entries (share passes (negated (test other) fails) key has)) tables pairs.0)) in
        ap (λ one. here ++ one) (rest ∙ ap (λ one. one ++ in_tables key I) none) ∙ sym (ap (λ one. one ++ (here ++ in_tables key I)) none)
      where
        negated : (b : Bool) → not b ≡ true → b ≡ false
        negated true e = absurd cc
        negated false e = refl
    with_key rest passes false hasn't =
        let none : here ≡ [] = lacks key table.entries hasn't in
        ap (λ one. one ++ in_tables key tables) none ∙ rest ∙ sym (ap (λ one. in_tables key S ++ (one ++ in_tables key I)) none)

    split : in_tables key tables ≡ in_tables key S ++ in_tables key I → (b : Bool) → test table ≡ b → here ++ in_tables key tables ≡ in_tables key (cond (not b) (table ∷ S) S) ++ in_tables key (cond b (table ∷ I) I)
    split rest true passes = with_key rest passes (has_key table.entries key) refl
    split rest false fails = ap (λ one. here ++ one) rest ∙ sym (append_assoc here (in_tables key S) (in_tables key I))

-- ---- the inputs of a compaction

-- a key of the inputs lies in a range that has theirs
key_within : (range : KeyRange) (key : List ℕ) (inputs : List (List Entry)) → Each (λ entries. LiesIn range (range_of entries)) inputs → Each (λ entries. in_order entries ≡ true) inputs
    → 1 ≤ length (column key inputs) → is_in_range range key ≡ true
key_within range key [] lies ordered some = absurd (omega arith)
key_within range key (entries ∷ inputs) lies ordered some = elim (cases_Bool (has_key entries key)) [
  | inl has ↦ within_lies range (range_of entries) key lies.0 (has_key_within (range_of entries) key entries (range_has_keys entries ordered.0) has)
  | inr hasn't ↦ key_within range key inputs lies.1 ordered.1 (subst (λ front. 1 ≤ length (front ++ column key inputs)) (lacks key entries hasn't) some)
]

-- the joint range of inputs in order has each key that has an entry
pub joint_has_keys : JointHasKeys
joint_has_keys inputs key ordered some = key_within (joint_range inputs) key inputs (joint_has_ranges inputs) ordered some

pub tables_ordered : (family : FamilyView) → IsView family → Each (λ table. in_order table.entries ≡ true) (tables_in family.levels)
tables_ordered family view =
    each_as (λ table. IsSortedRun table.entries) (λ table. in_order table.entries ≡ true) (λ table rows. rows.ordered) (tables_in family.levels)
    (map_each IsSortedRun (λ table. table.entries) (tables_in family.levels) (each_back IsSortedRun (memories family) (runs_of (tables_in family.levels)) view.rows))

pub inputs_ordered : (lowest_level : ℕ) (family : FamilyView) (job : Job) → Compacts lowest_level family job → Each (λ entries. in_order entries ≡ true) job.inputs
inputs_ordered lowest_level family job compacts =
    subst (λ inputs. Each (λ entries. in_order entries ≡ true) inputs) compacts.running.inputs
    (each_map (λ entries. in_order entries ≡ true) (λ table. table.entries) (input_tables family job)
    (each_passing (λ table. in_order table.entries ≡ true) (is_input job) (tables_in family.levels)
    (each_as (λ table. in_order table.entries ≡ true) (λ table. is_input job table ≡ true → in_order table.entries ≡ true) (λ table ordered passes. ordered) (tables_in family.levels) (tables_ordered family compacts.view))))

-- the tables above the output level, and those below it
abbrev pub tables_above : FamilyView → Job → List FileEntries
tables_above family job = tables_in (take job.level family.levels)

abbrev pub tables_below : FamilyView → Job → List FileEntries
tables_below family job = tables_in (drop (job.level + 1) family.levels)

pub tables_split : (family : FamilyView) (n : ℕ) → n < length family.levels → tables_in family.levels ≡ tables_in (take n family.levels) ++ (level_at family n ++ tables_in (drop (n + 1) family.levels))
tables_split family n lt =
    ap tables_in (levels_split family.levels n lt)
    ∙ flat_join (λ level. level) (take n family.levels) (level_at family n ∷ drop (suc n) family.levels)
    ∙ ap (λ k. tables_in (take n family.levels) ++ (level_at family n ++ tables_in (drop k family.levels))) (sym (add-one n))

pub level_lt : (lowest_level : ℕ) (family : FamilyView) (job : Job) → Compacts lowest_level family job → job.level < length family.levels
level_lt lowest_level family job compacts = omega (arith, compacts.view.levels, compacts.running.level, compacts.bottom)

-- no input stands below the output level
pub none_below : (lowest_level : ℕ) (family : FamilyView) (job : Job) → Compacts lowest_level family job → Each (λ table. is_input job table ≡ false) (tables_below family job)
none_below lowest_level family job compacts =
    each_drop (λ table. is_input job table ≡ false) family.levels (job.level + 1)
    (λ n le. each_as (λ table. IsTrue (is_input job table) → IsInputLevel lowest_level job.level n) (λ table. is_input job table ≡ false) (not_there n le) (level_at family n) (compacts.running.levels n))
  where
    not_there : (n : ℕ) → job.level + 1 ≤ n → (table : FileEntries) → (IsTrue (is_input job table) → IsInputLevel lowest_level job.level n) → is_input job table ≡ false
    not_there n le table near = elim (cases_Bool (is_input job table)) [
      | inl is_so ↦ absurd (omega (arith, (near is_so).above))
      | inr not_so ↦ not_so
    ]

-- the inputs stand above the output level or at it
pub inputs_split : (lowest_level : ℕ) (family : FamilyView) (job : Job) (key : List ℕ) → Compacts lowest_level family job
    → column key job.inputs ≡ in_tables key (filter (is_input job) (tables_above family job)) ++ in_tables key (filter (is_input job) (level_at family job.level))
inputs_split lowest_level family job key compacts =
    let p : FileEntries → Bool = is_input job in
    let A : List FileEntries = tables_above family job in
    let B : List FileEntries = level_at family job.level in
    let C : List FileEntries = tables_below family job in
    sym (ap (column key) compacts.running.inputs)
    ∙ ap (λ tables. in_tables key (filter p tables)) (tables_split family job.level (level_lt lowest_level family job compacts))
    ∙ ap (in_tables key) (filter_join p A (B ++ C))
    ∙ in_append key (filter p A) (filter p (B ++ C))
    ∙ ap (λ tables. in_tables key (filter p A) ++ in_tables key tables) (filter_join p B C ∙ ap (λ none. filter p B ++ none) (filter_none p C (none_below lowest_level family job compacts)) ∙ append-nil (filter p B))

-- where the inputs have the key, no other table of the output level has it
pub none_beside : (lowest_level : ℕ) (family : FamilyView) (job : Job) (key : List ℕ) → Compacts lowest_level family job → 1 ≤ length (column key job.inputs)
    → in_tables key (staying job.files (level_at family job.level)) ≡ []
none_beside lowest_level family job key compacts some =
    in_none key (staying job.files (level_at family job.level)) (each_passing (λ table. Lacks key table.entries) (λ table. not (is_input job table)) (level_at family job.level)
    (each_as Both (λ table. not (is_input job table) ≡ true → Lacks key table.entries) lacking (level_at family job.level)
    (each_both (λ table. in_order table.entries ≡ true) (λ table. IsFalse (is_input job table) → IsFalse (meet job.range (table_range table))) (level_at family job.level)
    (each_level (λ table. in_order table.entries ≡ true) family.levels job.level (tables_ordered family compacts.view)) compacts.running.clear)))
  where
    Both : FileEntries → Type 0
    Both table = (in_order table.entries ≡ true) × (IsFalse (is_input job table) → IsFalse (meet job.range (table_range table)))

    negated : (b : Bool) → not b ≡ true → b ≡ false
    negated true e = absurd cc
    negated false e = refl

    within : is_in_range job.range key ≡ true
    within = subst (λ range. is_in_range range key ≡ true) (sym compacts.range) (joint_has_keys job.inputs key (inputs_ordered lowest_level family job compacts) some)

    lacking : (table : FileEntries) → Both table → not (is_input job table) ≡ true → Lacks key table.entries
    lacking table both fails = elim (cases_Bool (has_key table.entries key)) [
      | inl has ↦ absurd (false≢true (sym (both.1 (negated (is_input job table) fails))
          ∙ both_within_meet job.range (table_range table) key within (has_key_within (table_range table) key table.entries (range_has_keys table.entries both.0) has)))
      | inr hasn't ↦ lacks key table.entries hasn't
    ]

-- at the output level the inputs may be taken as the first
pub level_splits : (lowest_level : ℕ) (family : FamilyView) (job : Job) (key : List ℕ) → Compacts lowest_level family job
    → in_tables key (level_at family job.level) ≡ in_tables key (filter (is_input job) (level_at family job.level)) ++ in_tables key (staying job.files (level_at family job.level))
level_splits lowest_level family job key compacts = split (column key job.inputs) refl
  where
    B : List FileEntries
    B = level_at family job.level

    split : (found : List Entry) → column key job.inputs ≡ found → in_tables key B ≡ in_tables key (filter (is_input job) B) ++ in_tables key (staying job.files B)
    split [] none =
        let p = append_none (in_tables key (filter (is_input job) (tables_above family job))) (in_tables key (filter (is_input job) B)) (sym (inputs_split lowest_level family job key compacts) ∙ none) in
        others_have (is_input job) key B p.1 ∙ sym (ap (λ front. front ++ in_tables key (staying job.files B)) p.1)
    split (entry ∷ entries) some =
        let none : in_tables key (staying job.files B) ≡ [] = none_beside lowest_level family job key compacts (omega (arith, ap length some)) in
        those_have (is_input job) key B none ∙ sym (append-nil (in_tables key (filter (is_input job) B))) ∙ sym (ap (λ rest. in_tables key (filter (is_input job) B) ++ rest) none)

pub regroup : (M sA iA iB sB C : List Entry) → M ++ ((sA ++ iA) ++ ((iB ++ sB) ++ C)) ≡ (M ++ sA) ++ ((iA ++ iB) ++ (sB ++ C))
regroup M sA iA iB sB C = simp append_assoc

pub upper_column : (family : FamilyView) (job : Job) (key : List ℕ) → column key (upper_runs family job) ≡ column key (memories family) ++ in_tables key (staying job.files (tables_above family job))
upper_column family job key = column_append key (memories family) (runs_of (staying job.files (tables_above family job)))

pub lower_column : (family : FamilyView) (job : Job) (key : List ℕ) → column key (lower_runs family job) ≡ in_tables key (staying job.files (level_at family job.level)) ++ in_tables key (tables_below family job)
lower_column family job key = column_append key (runs_of (staying job.files (level_at family job.level))) (runs_of (tables_below family job))

pub inputs_are_middle : InputsAreMiddle
inputs_are_middle lowest_level family job key compacts =
    let p : FileEntries → Bool = is_input job in
    let A : List FileEntries = tables_above family job in
    let B : List FileEntries = level_at family job.level in
    let C : List FileEntries = tables_below family job in
    let M : List Entry = column key (memories family) in
    column_append key (memories family) (runs_of (tables_in family.levels))
    ∙ ap (λ tables. M ++ in_tables key tables) (tables_split family job.level (level_lt lowest_level family job compacts))
    ∙ ap (λ rest. M ++ rest) (in_append key A (B ++ C) ∙ ap (λ rest. in_tables key A ++ rest) (in_append key B C))
    ∙ ap (λ rest. M ++ (rest ++ (in_tables key B ++ in_tables key C))) (others_first p key A compacts.running.below)
    ∙ ap (λ rest. M ++ ((in_tables key (staying job.files A) ++ in_tables key (filter p A)) ++ (rest ++ in_tables key C))) (level_splits lowest_level family job key compacts)
    ∙ regroup M (in_tables key (staying job.files A)) (in_tables key (filter p A)) (in_tables key (filter p B)) (in_tables key (staying job.files B)) (in_tables key C)
    ∙ sym (ap (λ rest. (M ++ in_tables key (staying job.files A)) ++ (rest ++ (in_tables key (staying job.files B) ++ in_tables key C))) (inputs_split lowest_level family job key compacts))
    ∙ sym (ap (λ rest. rest ++ (column key job.inputs ++ (in_tables key (staying job.files B) ++ in_tables key C))) (upper_column family job key))
    ∙ sym (ap (λ rest. column key (upper_runs family job) ++ (column key job.inputs ++ rest)) (lower_column family job key))

-- ---- its outputs

-- a table that lacks the key, or comes among tables that lack it, may be put anywhere
put_lacking : (key : List ℕ) (table : FileEntries) (tables : List FileEntries) → Lacks key table.entries → in_tables key (put_by_key table tables) ≡ in_tables key tables
put_lacking key table [] none = ap (λ front. front ++ []) none
put_lacking key table (other ∷ others) none = split (below (table_range table).first (table_range other).first) (put_lacking key table others none)
  where
    split : (b : Bool) → in_tables key (put_by_key table others) ≡ in_tables key others → in_tables key (cond b (table ∷ other ∷ others) (other ∷ put_by_key table others)) ≡ of_key key other.entries ++ in_tables key others
    split true rest = ap (λ front. front ++ (of_key key other.entries ++ in_tables key others)) none
    split false rest = ap (λ one. of_key key other.entries ++ one) rest

put_among_lacking : (key : List ℕ) (table : FileEntries) (tables : List FileEntries) → in_tables key tables ≡ [] → in_tables key (put_by_key table tables) ≡ of_key key table.entries
put_among_lacking key table [] none = append-nil (of_key key table.entries)
put_among_lacking key table (other ∷ others) none =
    let p = append_none (of_key key other.entries) (in_tables key others) none in
    split p.0 p.1 (below (table_range table).first (table_range other).first) (put_among_lacking key table others p.1)
  where
    split : Lacks key other.entries → in_tables key others ≡ [] → (b : Bool) → in_tables key (put_by_key table others) ≡ of_key key table.entries
        → in_tables key (cond b (table ∷ other ∷ others) (other ∷ put_by_key table others)) ≡ of_key key table.entries
    split here rest true e = ap (λ one. of_key key table.entries ++ one) (ap (λ front. front ++ in_tables key others) here ∙ rest) ∙ append-nil (of_key key table.entries)
    split here rest false e = ap (λ front. front ++ in_tables key (put_by_key table others)) here ∙ e

put_column : (key : List ℕ) (table : FileEntries) (tables : List FileEntries) → (Lacks key table.entries) ⊎ (in_tables key tables ≡ [])
    → in_tables key (put_by_key table tables) ≡ of_key key table.entries ++ in_tables key tables
put_column key table tables (inl none) = put_lacking key table tables none ∙ sym (ap (λ front. front ++ in_tables key tables) none)
put_column key table tables (inr none) = put_among_lacking key table tables none ∙ sym (ap (λ rest. of_key key table.entries ++ rest) none ∙ append-nil (of_key key table.entries))

-- of two tables one at least lacks the key
abbrev pub OneLacks : List ℕ → FileEntries → FileEntries → Type 0
OneLacks key one other = (Lacks key one.entries) ⊎ (Lacks key other.entries)

pub put_all_column : (key : List ℕ) (outputs tables : List FileEntries) → Pairwise (OneLacks key) outputs → Each (λ table. (Lacks key table.entries) ⊎ (in_tables key tables ≡ [])) outputs
    → in_tables key (put_all outputs tables) ≡ in_tables key outputs ++ in_tables key tables
put_all_column key [] tables pairs each = refl
put_all_column key (table ∷ outputs) tables pairs each = split (of_key key table.entries) refl (put_all_column key outputs (put_by_key table tables) pairs.1)
  where
    after : List FileEntries
    after = put_by_key table tables

    here : List Entry
    here = of_key key table.entries

    placed : in_tables key (put_by_key table tables) ≡ of_key key table.entries ++ in_tables key tables
    placed = put_column key table tables each.0

    same_lacking : in_tables key after ≡ in_tables key tables → (other : FileEntries) → (Lacks key other.entries) ⊎ (in_tables key tables ≡ []) → (Lacks key other.entries) ⊎ (in_tables key after ≡ [])
    same_lacking e other (inl none) = inl none
    same_lacking e other (inr none) = inr (e ∙ none)

    -- the table has the key: no other output has it, and the tables lack it
    other_lacks : (entry : Entry) (entries : List Entry) → of_key key table.entries ≡ entry ∷ entries → (other : FileEntries) → OneLacks key table other → Lacks key other.entries
    other_lacks entry entries has other (inl none) = absurd (no_cons (sym none ∙ has))
      where
        no_cons : [] ≡ entry ∷ entries → ⊥
        no_cons e = cc
    other_lacks entry entries has other (inr none) = none

    split : (found : List Entry) → of_key key table.entries ≡ found
        → (Each (λ other. (Lacks key other.entries) ⊎ (in_tables key after ≡ [])) outputs → in_tables key (put_all outputs after) ≡ in_tables key outputs ++ in_tables key after)
        → in_tables key (put_all outputs after) ≡ (of_key key table.entries ++ in_tables key outputs) ++ in_tables key tables
    split [] none rest =
        let same : in_tables key after ≡ in_tables key tables = placed ∙ ap (λ front. front ++ in_tables key tables) none in
        rest (each_as (λ other. (Lacks key other.entries) ⊎ (in_tables key tables ≡ [])) (λ other. (Lacks key other.entries) ⊎ (in_tables key after ≡ [])) (same_lacking same) outputs each.1)
        ∙ ap (λ one. in_tables key outputs ++ one) same
        ∙ sym (ap (λ front. (front ++ in_tables key outputs) ++ in_tables key tables) none)
    split (entry ∷ entries) has rest =
        let lacking : Each (λ other. Lacks key other.entries) outputs = each_as (OneLacks key table) (λ other. Lacks key other.entries) (other_lacks entry entries has) outputs pairs.0 in
        let none : in_tables key outputs ≡ [] = in_none key outputs lacking in
        rest (each_as (λ other. Lacks key other.entries) (λ other. (Lacks key other.entries) ⊎ (in_tables key after ≡ [])) (λ other lack. inl lack) outputs lacking)
        ∙ ap (λ front. front ++ in_tables key after) none
        ∙ placed
        ∙ ap (λ front. front ++ in_tables key tables) (sym (append-nil (of_key key table.entries)) ∙ ap (λ one. of_key key table.entries ++ one) (sym none))

pub parts_in_order : (tables : List FileEntries) → in_order (joined_entries tables) ≡ true → Each (λ table. in_order table.entries ≡ true) tables
parts_in_order [] e = tt
parts_in_order (table ∷ tables) e = (order_front table.entries (joined_entries tables) e, parts_in_order tables (order_back table.entries (joined_entries tables) e))

pub joined_column : (key : List ℕ) (tables : List FileEntries) → of_key key (joined_entries tables) ≡ in_tables key tables
joined_column key [] = refl
joined_column key (table ∷ tables) = filter_join (λ entry. same entry.key key) table.entries (joined_entries tables) ∙ ap (λ rest. of_key key table.entries ++ rest) (joined_column key tables)

pub apart_lack : (key : List ℕ) (one other : FileEntries) → in_order one.entries ≡ true → in_order other.entries ≡ true → IsFalse (meet (table_range one) (table_range other)) → OneLacks key one other
apart_lack key one other here there apart = elim (cases_Bool (has_key one.entries key)) [
  | inl has ↦ elim (cases_Bool (has_key other.entries key)) [
    | inl too ↦ absurd (false≢true (sym apart ∙ both_within_meet (table_range one) (table_range other) key
        (has_key_within (table_range one) key one.entries (range_has_keys one.entries here) has)
        (has_key_within (table_range other) key other.entries (range_has_keys other.entries there) too)))
    | inr hasn't ↦ inr (lacks key other.entries hasn't)
  ]
  | inr hasn't ↦ inl (lacks key one.entries hasn't)
]

-- the tables once the outputs are installed
pub tables_after : (lowest_level : ℕ) (family : FamilyView) (job : Job) (outputs : List FileEntries) → Compacts lowest_level family job
    → tables_in (with_compacted job outputs family).levels ≡ staying job.files (tables_above family job) ++ (put_all outputs (staying job.files (level_at family job.level)) ++ tables_below family job)
tables_after lowest_level family job outputs compacts =
    let placed : List FileEntries = put_all outputs (staying job.files (level_at family job.level)) in
    let stays : FileEntries → Bool = λ (table : FileEntries). not (is_input job table) in
    set_split (staying job.files) family.levels job.level placed (level_lt lowest_level family job compacts)
    ∙ ap (λ front. front ++ (placed ++ tables_in (map (staying job.files) (drop (suc job.level) family.levels)))) (filter_levels stays (take job.level family.levels))
    ∙ ap (λ rest. staying job.files (tables_above family job) ++ (placed ++ rest))
    (filter_levels stays (drop (suc job.level) family.levels)
    ∙ ap (λ n. staying job.files (tables_in (drop n family.levels))) (sym (add-one job.level))
    ∙ filter_whole stays (tables_below family job) (each_as (λ table. is_input job table ≡ false) (λ table. stays table ≡ true) (λ table e. ap not e) (tables_below family job) (none_below lowest_level family job compacts)))

-- the outputs have what is left of the key's column
pub outputs_column : (job : Job) (outputs : List FileEntries) (key : List ℕ) → AreOutputsOf job outputs → in_tables key outputs ≡ compacted job.live (covers job.drops key) (column key job.inputs)
outputs_column job outputs key are = sym (joined_column key outputs) ∙ are.joined.columns key

pub outputs_lack : (job : Job) (outputs : List FileEntries) (key : List ℕ) → AreOutputsOf job outputs → Pairwise (OneLacks key) outputs
outputs_lack job outputs key are =
    pairs_with (λ table. in_order table.entries ≡ true) (λ one other. IsFalse (meet (table_range one) (table_range other))) (OneLacks key)
    (λ one other here there apart. apart_lack key one other here there apart) outputs (parts_in_order outputs are.joined.ordered) are.apart

pub compacted_none : (live : List ℕ) (may : Bool) → compacted live may [] ≡ []
compacted_none live true = refl
compacted_none live false = refl

-- among the tables of their level
pub placed_column : (lowest_level : ℕ) (family : FamilyView) (job : Job) (outputs : List FileEntries) (key : List ℕ) → Compacts lowest_level family job → AreOutputsOf job outputs
    → in_tables key (put_all outputs (staying job.files (level_at family job.level))) ≡ in_tables key outputs ++ in_tables key (staying job.files (level_at family job.level))
placed_column lowest_level family job outputs key compacts are =
    put_all_column key outputs (staying job.files (level_at family job.level)) (outputs_lack job outputs key are) (split (column key job.inputs) refl)
  where
    each_lacks : (tables : List FileEntries) → in_tables key tables ≡ [] → Each (λ table. (Lacks key table.entries) ⊎ (in_tables key (staying job.files (level_at family job.level)) ≡ [])) tables
    each_lacks [] none = tt
    each_lacks (table ∷ tables) none =
        let p = append_none (of_key key table.entries) (in_tables key tables) none in
        (inl p.0, each_lacks tables p.1)

    split : (found : List Entry) → column key job.inputs ≡ found → Each (λ table. (Lacks key table.entries) ⊎ (in_tables key (staying job.files (level_at family job.level)) ≡ [])) outputs
    split [] none = each_lacks outputs (outputs_column job outputs key are ∙ ap (compacted job.live (covers job.drops key)) none ∙ compacted_none job.live (covers job.drops key))
    split (entry ∷ entries) some =
        each_all (λ table. (Lacks key table.entries) ⊎ (in_tables key (staying job.files (level_at family job.level)) ≡ []))
        (λ table. inr (none_beside lowest_level family job key compacts (omega (arith, ap length some)))) outputs

pub regroup_outputs : (M sA O sB C : List Entry) → M ++ (sA ++ ((O ++ sB) ++ C)) ≡ (M ++ sA) ++ (O ++ (sB ++ C))
regroup_outputs M sA O sB C = simp append_assoc

pub outputs_are_middle : OutputsAreMiddle
outputs_are_middle lowest_level family job outputs key compacts are =
    let sA : List FileEntries = staying job.files (tables_above family job) in
    let sB : List FileEntries = staying job.files (level_at family job.level) in
    let C : List FileEntries = tables_below family job in
    let M : List Entry = column key (memories family) in
    column_append key (memories family) (runs_of (tables_in (with_compacted job outputs family).levels))
    ∙ ap (λ tables. M ++ in_tables key tables) (tables_after lowest_level family job outputs compacts)
    ∙ ap (λ rest. M ++ rest) (in_append key sA (put_all outputs sB ++ C) ∙ ap (λ rest. in_tables key sA ++ rest) (in_append key (put_all outputs sB) C))
    ∙ ap (λ rest. M ++ (in_tables key sA ++ (rest ++ in_tables key C))) (placed_column lowest_level family job outputs key compacts are)
    ∙ regroup_outputs M (in_tables key sA) (in_tables key outputs) (in_tables key sB) (in_tables key C)
    ∙ ap (λ rest. (M ++ in_tables key sA) ++ (rest ++ (in_tables key sB ++ in_tables key C))) (outputs_column job outputs key are)
    ∙ sym (ap (λ rest. rest ++ (compacted job.live (covers job.drops key) (column key job.inputs) ++ (in_tables key sB ++ in_tables key C))) (upper_column family job key))
    ∙ sym (ap (λ rest. column key (upper_runs family job) ++ (compacted job.live (covers job.drops key) (column key job.inputs) ++ rest)) (lower_column family job key))

-- ---- where tombstones may go

lacks_outside : (range : KeyRange) (key : List ℕ) (entries : List Entry) → is_in_range range key ≡ true → Each (λ entry. IsFalse (is_in_range range entry.key)) entries → Lacks key entries
lacks_outside range key [] within each = refl
lacks_outside range key (entry ∷ entries) within each = elim (cases_Bool (same entry.key key)) [
  | inl is_so ↦ absurd (false≢true (sym each.0 ∙ subst (λ k. is_in_range range k ≡ true) (sym (same_true entry.key key is_so)) within))
  | inr not_so ↦ ap (λ b. cond b (entry ∷ of_key key entries) (of_key key entries)) not_so ∙ lacks_outside range key entries within each.1
]

covered_lacks : (key : List ℕ) (drops : List KeyRange) (runs : List (List Entry)) → covers drops key ≡ true
    → Each (λ range. Each (Each (λ entry. IsFalse (is_in_range range entry.key))) runs) drops → Each (Lacks key) runs
covered_lacks key [] runs covered each = absurd (false≢true covered)
covered_lacks key (range ∷ drops) runs covered each = elim (cases_Bool (is_in_range range key)) [
  | inl within ↦ each_as (Each (λ entry. IsFalse (is_in_range range entry.key))) (Lacks key) (λ entries outside. lacks_outside range key entries within outside) runs each.0
  | inr outside ↦ covered_lacks key drops runs (subst (λ b. (b || covers drops key) ≡ true) outside covered) each.1
]

pub drops_have_nothing_below : DropsHaveNothingBelow
drops_have_nothing_below core family job key compacts keeps covered some =
    lower_column family job key
    ∙ ap (λ front. front ++ in_tables key (tables_below family job)) (none_beside (lowest_level core) family job key compacts some)
    ∙ column_none key (runs_of (tables_below family job)) (covered_lacks key job.drops (runs_of (tables_below family job)) covered keeps.nothing)

-- ---- a flush

flushed_tables : (levels : List (List FileEntries)) (output : FileEntries) → 1 ≤ length levels → tables_in (set levels 0 (output ∷ unwrap_or (slice_get levels 0) [])) ≡ output ∷ tables_in levels
flushed_tables [] output some = absurd (omega arith)
flushed_tables (level ∷ levels) output some = refl

pub regroup_flush : (M wl I T : List Entry) → (M ++ (wl ++ I)) ++ T ≡ (M ++ wl) ++ (I ++ T)
regroup_flush M wl I T = simp append_assoc

pub flush_is_middle : FlushIsMiddle
flush_is_middle family job output key view flush is = (before, after)
  where
    wl : List (List Entry)
    wl = without_last family.sealed

    T : List Entry
    T = in_tables key (tables_in family.levels)

    before : column key (walk family) ≡ column key (family.mem ∷ without_last family.sealed) ++ (column key job.inputs ++ in_tables key (tables_in family.levels))
    before =
        column_append key (memories family) (runs_of (tables_in family.levels))
        ∙ ap (λ sealed. column key (family.mem ∷ sealed) ++ T) flush.oldest
        ∙ ap (λ rest. (of_key key family.mem ++ rest) ++ T) (column_append key wl job.inputs)
        ∙ regroup_flush (of_key key family.mem) (column key wl) (column key job.inputs) T

    after : column key (walk (with_flushed output family)) ≡ column key (family.mem ∷ without_last family.sealed) ++ (kept job.live (column key job.inputs) ++ in_tables key (tables_in family.levels))
    after =
        column_append key (family.mem ∷ wl) (runs_of (tables_in (with_flushed output family).levels))
        ∙ ap (λ tables. column key (family.mem ∷ wl) ++ in_tables key tables) (flushed_tables family.levels output (omega (arith, view.levels)))
        ∙ ap (λ one. column key (family.mem ∷ wl) ++ (one ++ T)) (is.columns key)
