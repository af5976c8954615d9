-- Where a file stands in the column of each key.
use Rattle.std.proofs.Common.{◌≡◌, ℕ, zero, suc, ◌+◌, ◌<◌, ◌≤◌, Bool, true, false, cond, List, [], ◌∷◌, ◌++◌, set, length, Option, Some, None, unwrap_or, refl, sym, ap, ap₂, ◌∙◌, arith, append_assoc, append-nil}
use Rattle.std.specs.Prelude.{slice_get}
use Rattle.std.specs.List.{list_any, AllByRecursion as Each}
use Rattle.std.proofs.lemmas.Bool.{false≢true, or_parts, not-true}
use Rattle.std.proofs.lemmas.List.{map-append}
use Rattle.st_base.specs.Bytes.{below}
use Rattle.st_base.specs.declared.entry.Entry.{Entry}
use Rattle.st_base.specs.declared.entry.KeyRange.{KeyRange}
use Rattle.st_base.specs.Range.{is_in_range, meet, under_number, key_at_front}
use Rattle.base_laws.proofs.Ranges.{both_within_meet, range_has_keys, under_each}
use Rattle.core_laws.specs.Claims.{FileHeadsColumn, FileEndsColumn}
use Rattle.core_model.specs.Commit.{put_table, put_file, renumbered}
use Rattle.core_model.specs.Level.{is_free_level, level_rule}
use Rattle.core_model.specs.Picture.{FileEntries, FamilyView, Job, level_at, runs_of, tables_in, memories, walk, table_range, put_by_key}
use Rattle.core_model.specs.Request.{IsStagedTable}
use Rattle.core_laws.proofs.LevelRule.{rule_passes, stop_no_entry, rule_within}
use Rattle.job_laws.proofs.RangeKeys.{of_key_outside, of_key_inside, nothing_within}
use Rattle.core_laws.proofs.Middle.{column_append}
use Rattle.core_laws.proofs.InstalledLevels.{tables_rows}
use Rattle.st_order.specs.Columns.{of_key, column}
use Rattle.st_order.specs.Least.{least_within}
use Rattle.core_model.specs.RelationParts.{IsSortedRun}

-- ---- each

pub each_append : {X : Type 0} (P : X → Type 0) (xs ys : List X) → Each P (xs ++ ys) → Each P xs × Each P ys
each_append P [] ys each = (tt, each)
each_append P (x ∷ xs) ys each = let parts = each_append P xs ys each.1 in ((each.0, parts.0), parts.1)

-- what holds of each table holds of each at a level
pub each_level : (P : FileEntries → Type 0) (levels : List (List FileEntries)) (n : ℕ) → Each P (tables_in levels) → Each P (unwrap_or (slice_get levels n) [])
each_level P [] n each = tt
each_level P (tables ∷ levels) zero each = (each_append P tables (tables_in levels) each).0
each_level P (tables ∷ levels) (suc n) each = each_level P levels n (each_append P tables (tables_in levels) each).1

pub each_entries : (P : List Entry → Type 0) (tables : List FileEntries) → Each P (runs_of tables) → Each (λ table. P table.entries) tables
each_entries P [] each = tt
each_entries P (table ∷ tables) each = (each.0, each_entries P tables each.1)

-- ---- columns

abbrev pub level_column : List ℕ → List (List FileEntries) → List Entry
level_column key levels = column key (runs_of (tables_in levels))

pub level_column_cons : (key : List ℕ) (tables : List FileEntries) (levels : List (List FileEntries)) → level_column key (tables ∷ levels) ≡ column key (runs_of tables) ++ level_column key levels
level_column_cons key tables levels = ap (column key) (map-append (λ (table : FileEntries). table.entries) tables (tables_in levels)) ∙ column_append key (runs_of tables) (runs_of (tables_in levels))

pub walk_column : (key : List ℕ) (family : FamilyView) → column key (walk family) ≡ column key (memories family) ++ level_column key family.levels
walk_column key family = column_append key (memories family) (runs_of (tables_in family.levels))

-- no entry of the runs in the range: no column
pub column_inside : (range : KeyRange) (key : List ℕ) (runs : List (List Entry)) → Each (Each (λ entry. is_in_range range entry.key ≡ false)) runs → is_in_range range key ≡ true → column key runs ≡ []
column_inside range key [] each here = refl
column_inside range key (run ∷ runs) each here = ap₂ (λ one other. one ++ other) (of_key_inside range key run each.0 here) (column_inside range key runs each.1 here)

pub least_inside : (range : KeyRange) (key : List ℕ) (runs : List (List Entry)) → least_within range runs ≡ None → is_in_range range key ≡ true → column key runs ≡ []
least_inside range key runs e here = column_inside range key runs (nothing_within range runs e) here

-- ---- a table put among others

pub nil_left : {X : Type 0} (xs ys : List X) → xs ++ ys ≡ [] → xs ≡ []
nil_left [] ys e = refl
nil_left (x ∷ xs) ys e = absurd cc

pub nil_right : {X : Type 0} (xs ys : List X) → xs ++ ys ≡ [] → ys ≡ []
nil_right [] ys e = e
nil_right (x ∷ xs) ys e = absurd cc

-- among tables without the key
pub put_column : (key : List ℕ) (table : FileEntries) (tables : List FileEntries) → column key (runs_of tables) ≡ [] → column key (runs_of (put_by_key table tables)) ≡ of_key key table.entries
put_column key table [] e = append-nil (of_key key table.entries)
put_column key table (other ∷ tables) e = step (below (key_at_front table.entries) (key_at_front other.entries)) (put_column key table tables (nil_right (of_key key other.entries) (column key (runs_of tables)) e))
  where
    step : (b : Bool) → column key (runs_of (put_by_key table tables)) ≡ of_key key table.entries → column key (runs_of (cond b (table ∷ other ∷ tables) (other ∷ put_by_key table tables))) ≡ of_key key table.entries
    step true rest = ap (λ behind. of_key key table.entries ++ behind) e ∙ append-nil (of_key key table.entries)
    step false rest = ap (λ front. front ++ column key (runs_of (put_by_key table tables))) (nil_left (of_key key other.entries) (column key (runs_of tables)) e) ∙ rest

-- a table without the key
pub put_none : (key : List ℕ) (table : FileEntries) (tables : List FileEntries) → of_key key table.entries ≡ [] → column key (runs_of (put_by_key table tables)) ≡ column key (runs_of tables)
put_none key table [] e = append-nil (of_key key table.entries) ∙ e
put_none key table (other ∷ tables) e = step (below (key_at_front table.entries) (key_at_front other.entries)) (put_none key table tables e)
  where
    step : (b : Bool) → column key (runs_of (put_by_key table tables)) ≡ column key (runs_of tables) → column key (runs_of (cond b (table ∷ other ∷ tables) (other ∷ put_by_key table tables))) ≡ of_key key other.entries ++ column key (runs_of tables)
    step true rest = ap (λ front. front ++ (of_key key other.entries ++ column key (runs_of tables))) e
    step false rest = ap (λ behind. of_key key other.entries ++ behind) rest

-- the table at level n, by key
abbrev pub put_at : ℕ → FileEntries → List (List FileEntries) → List (List FileEntries)
put_at n table levels = set levels n (put_by_key table (unwrap_or (slice_get levels n) []))

pub at_heads : (key : List ℕ) (table : FileEntries) (n : ℕ) (levels : List (List FileEntries)) → n < length levels → ((m : ℕ) → m ≤ n → column key (runs_of (unwrap_or (slice_get levels m) [])) ≡ [])
    → level_column key (put_at n table levels) ≡ of_key key table.entries ++ level_column key levels
at_heads key table n [] lt none = absurd (omega arith)
at_heads key table zero (tables ∷ levels) lt none =
    level_column_cons key (put_by_key table tables) levels
    ∙ ap (λ front. front ++ level_column key levels) (put_column key table tables (none 0 (omega arith)))
    ∙ ap (λ behind. of_key key table.entries ++ behind) (sym (level_column_cons key tables levels ∙ ap (λ front. front ++ level_column key levels) (none 0 (omega arith))))
at_heads key table (suc n) (tables ∷ levels) lt none =
    level_column_cons key tables (put_at n table levels)
    ∙ ap (λ front. front ++ level_column key (put_at n table levels)) (none 0 (omega arith))
    ∙ at_heads key table n levels (omega arith) (λ m le. none (suc m) (omega arith))
    ∙ ap (λ behind. of_key key table.entries ++ behind) (sym (level_column_cons key tables levels ∙ ap (λ front. front ++ level_column key levels) (none 0 (omega arith))))

at_ends : (key : List ℕ) (table : FileEntries) (n : ℕ) (levels : List (List FileEntries)) → length levels ≡ n + 1 → column key (runs_of (unwrap_or (slice_get levels n) [])) ≡ []
    → level_column key (put_at n table levels) ≡ level_column key levels ++ of_key key table.entries
at_ends key table n [] long none = absurd (omega arith)
at_ends key table zero (tables ∷ []) long none =
    level_column_cons key (put_by_key table tables) []
    ∙ append-nil (column key (runs_of (put_by_key table tables)))
    ∙ put_column key table tables none
    ∙ ap (λ front. front ++ of_key key table.entries) (sym (level_column_cons key tables [] ∙ append-nil (column key (runs_of tables)) ∙ none))
at_ends key table zero (tables ∷ other ∷ levels) long none = absurd (omega arith)
at_ends key table (suc n) (tables ∷ levels) long none =
    level_column_cons key tables (put_at n table levels)
    ∙ ap (λ behind. column key (runs_of tables) ++ behind) (at_ends key table n levels (omega arith) none)
    ∙ sym (append_assoc (column key (runs_of tables)) (level_column key levels) (of_key key table.entries))
    ∙ ap (λ front. front ++ of_key key table.entries) (sym (level_column_cons key tables levels))

at_none : (key : List ℕ) (table : FileEntries) (n : ℕ) (levels : List (List FileEntries)) → of_key key table.entries ≡ [] → level_column key (put_at n table levels) ≡ level_column key levels
at_none key table n [] e = refl
at_none key table zero (tables ∷ levels) e =
    level_column_cons key (put_by_key table tables) levels ∙ ap (λ front. front ++ level_column key levels) (put_none key table tables e) ∙ sym (level_column_cons key tables levels)
at_none key table (suc n) (tables ∷ levels) e =
    level_column_cons key tables (put_at n table levels) ∙ ap (λ behind. column key (runs_of tables) ++ behind) (at_none key table n levels e) ∙ sym (level_column_cons key tables levels)

pub zero_heads : (key : List ℕ) (table : FileEntries) (levels : List (List FileEntries)) → 0 < length levels → level_column key (put_table 0 table levels) ≡ of_key key table.entries ++ level_column key levels
zero_heads key table [] lt = absurd (omega arith)
zero_heads key table (tables ∷ levels) lt = refl

pub table_none : (key : List ℕ) (table : FileEntries) (n : ℕ) (levels : List (List FileEntries)) → of_key key table.entries ≡ [] → level_column key (put_table n table levels) ≡ level_column key levels
table_none key table zero [] e = refl
table_none key table zero (tables ∷ levels) e = ap (λ front. front ++ level_column key (tables ∷ levels)) e
table_none key table (suc n) levels e = at_none key table (suc n) levels e

-- ---- a file of the rule's level

-- an entry of a staged file lies in its range, under any number
pub staged_within : (table : FileEntries) (number : ℕ) → IsStagedTable table → Each (λ entry. is_in_range (table_range table) entry.key ≡ true) (under_number number table.entries)
staged_within table number staged = under_each (λ key. is_in_range (table_range table) key ≡ true) number table.entries (range_has_keys table.entries staged.rows.ordered)

-- a passed level has no entry of the key
pub passed_column : (levels : List (List FileEntries)) (running : List Job) (range : KeyRange) (lowest : ℕ) (key : List ℕ) (m : ℕ) → is_in_range range key ≡ true
    → 0 < (level_rule levels running range lowest).level → m ≤ (level_rule levels running range lowest).level → column key (runs_of (unwrap_or (slice_get levels m) [])) ≡ []
passed_column levels running range lowest key m here positive le = step (slice_get levels m) refl
  where
    step : (found : Option (List FileEntries)) → slice_get levels m ≡ found → column key (runs_of (unwrap_or found [])) ≡ []
    step None is = refl
    step (Some tables) is = least_inside range key (runs_of tables) (stop_no_entry running m range tables (rule_passes levels running range lowest m tables positive le is)) here

rule_heads : (key : List ℕ) (running : List Job) (range : KeyRange) (lowest : ℕ) (table : FileEntries) (levels : List (List FileEntries)) → is_in_range range key ≡ true → lowest < length levels
    → level_column key (put_table (level_rule levels running range lowest).level table levels) ≡ of_key key table.entries ++ level_column key levels
rule_heads key running range lowest table levels here long = step (level_rule levels running range lowest).level refl
  where
    step : (level : ℕ) → (level_rule levels running range lowest).level ≡ level → level_column key (put_table level table levels) ≡ of_key key table.entries ++ level_column key levels
    step zero is = zero_heads key table levels (omega arith)
    step (suc n) is = at_heads key table (suc n) levels (omega (arith, rule_within levels running range lowest)) (λ m le. passed_column levels running range lowest key m here (omega arith) (omega arith))

pub file_heads_column : FileHeadsColumn
file_heads_column family running table lowest number key view staged low memory = step (is_in_range (table_range table) key) refl
  where
    level : ℕ
    level = (level_rule family.levels running (table_range table) lowest).level

    after : FamilyView
    after = put_file level number table family

    step : (b : Bool) → is_in_range (table_range table) key ≡ b → column key (walk after) ≡ of_key key (under_number number table.entries) ++ column key (walk family)
    step true here =
        let none : column key (memories family) ≡ [] = least_inside (table_range table) key (memories family) memory here in
        walk_column key after
        ∙ ap (λ front. front ++ level_column key after.levels) none
        ∙ rule_heads key running (table_range table) lowest (renumbered number table) family.levels here (omega (arith, view.levels))
        ∙ ap (λ behind. of_key key (under_number number table.entries) ++ behind) (sym (walk_column key family ∙ ap (λ front. front ++ level_column key family.levels) none))
    step false out =
        let none : of_key key (under_number number table.entries) ≡ [] = of_key_outside (table_range table) key (under_number number table.entries) (staged_within table number staged) out in
        walk_column key after
        ∙ ap (λ behind. column key (memories family) ++ behind) (table_none key (renumbered number table) level family.levels none)
        ∙ sym (walk_column key family)
        ∙ ap (λ front. front ++ column key (walk family)) (sym none)

-- ---- a file behind

-- no table that meets the range has a key of it
pub free_column : (range : KeyRange) (key : List ℕ) (tables : List FileEntries) → Each (λ table. IsSortedRun table.entries) tables → is_free_level range tables ≡ true → is_in_range range key ≡ true → column key (runs_of tables) ≡ []
free_column range key tables rows free here = none tables rows (not-true (list_any (λ table. meet (table_range table) range) tables) free)
  where
    outside : (table : FileEntries) → meet (table_range table) range ≡ false → (b : Bool) → is_in_range (table_range table) key ≡ b → b ≡ false
    outside table apart true is = absurd (false≢true (sym apart ∙ both_within_meet (table_range table) range key is here))
    outside table apart false is = refl

    none : (some : List FileEntries) → Each (λ table. IsSortedRun table.entries) some → list_any (λ table. meet (table_range table) range) some ≡ false → column key (runs_of some) ≡ []
    none [] rows e = refl
    none (table ∷ some) rows e =
        let parts = or_parts (meet (table_range table) range) (list_any (λ table. meet (table_range table) range) some) e in
        ap₂ (λ one other. one ++ other)
        (of_key_outside (table_range table) key table.entries (range_has_keys table.entries rows.0.ordered) (outside table parts.0 (is_in_range (table_range table) key) refl))
        (none some rows.1 parts.1)

pub file_ends_column : FileEndsColumn
file_ends_column family table key view staged free = step (is_in_range (table_range table) key) refl
  where
    after : FamilyView
    after = put_file 6 0 table family

    step : (b : Bool) → is_in_range (table_range table) key ≡ b → column key (walk after) ≡ column key (walk family) ++ of_key key (under_number 0 table.entries)
    step true here =
        walk_column key after
        ∙ ap (λ behind. column key (memories family) ++ behind)
        (at_ends key (renumbered 0 table) 6 family.levels (omega (arith, view.levels))
        (free_column (table_range table) key (level_at family 6) (each_level (λ one. IsSortedRun one.entries) family.levels 6 (tables_rows family view)) free here))
        ∙ sym (append_assoc (column key (memories family)) (level_column key family.levels) (of_key key (under_number 0 table.entries)))
        ∙ ap (λ front. front ++ of_key key (under_number 0 table.entries)) (sym (walk_column key family))
    step false out =
        let none : of_key key (under_number 0 table.entries) ≡ [] = of_key_outside (table_range table) key (under_number 0 table.entries) (staged_within table 0 staged) out in
        walk_column key after
        ∙ ap (λ behind. column key (memories family) ++ behind) (table_none key (renumbered 0 table) 6 family.levels none)
        ∙ sym (walk_column key family)
        ∙ sym (append-nil (column key (walk family)))
        ∙ ap (λ behind. column key (walk family) ++ behind) (sym none)
