-- What one file keeps of a family, field by field: numbers, levels, keys, rows, reads.
use Rattle.std.proofs.Common.{◌≡◌, ℕ, zero, suc, ◌+◌, ◌<◌, ◌≤◌, Bool, true, false, cond, List, [], ◌∷◌, ◌++◌, set, take, length, Option, Some, None, unwrap_or, Ordering, Less, Equal, Greater, is_lt, refl, sym, ap, ap₂, subst, subst₂, ◌∙◌, inl, inr, ◌⊎◌, arith}
use Rattle.std.specs.Prelude.{slice_get, nat_le}
use Rattle.std.specs.Option.{option_map}
use Rattle.std.specs.List.{AllByRecursion as Each}
use Rattle.std.proofs.lemmas.Bool.{false≢true, and_parts, and_from, le-leb, lt-leb, cases_lt, cases_eq}
use Rattle.std.proofs.lemmas.List.{map-append, length-set, length-take, take-set-le}
use Rattle.st_base.specs.Bytes.{bytes_cmp, below}
use Rattle.st_base.specs.Order.{comes_before, rises, rises_behind, in_order}
use Rattle.st_base.specs.declared.entry.Entry.{Entry}
use Rattle.st_base.proofs.Ordered.{key_up}
use Rattle.st_model.specs.declared.refusal.Why.{Why}
use Rattle.st_base.specs.Range.{is_in_range, under_number, with_number}
use Rattle.base_laws.proofs.Lists.{each_join}
use Rattle.core_laws.specs.Claims.{mark_of_key, mark_or}
use Rattle.core_model.specs.Commit.{put_table, put_file, renumbered}
use Rattle.core_model.specs.Level.{is_free_level, level_rule}
use Rattle.core_model.specs.Picture.{FileEntries, FamilyView, Job, level_at, runs_of, tables_in, memories, above, walk, find_mark, table_range, put_by_key}
use Rattle.core_model.specs.Request.{IsStagedTable}
use Rattle.core_model.specs.RelationParts.{IsView, HasEntry, NumbersFall, NumbersWithin, IsSortedRun, FitsSizes}
use Rattle.job_model.specs.Column.{Falls, first_at, found_at}
use Rattle.core_laws.proofs.FileColumns.{put_at, each_append, each_level, level_column, column_inside, staged_within, file_heads_column, file_ends_column, table_none, put_none, put_column, at_heads, zero_heads, free_column, passed_column, least_inside, each_entries}
use Rattle.core_laws.proofs.FileJobs.{each_of, table_all, entries_all}
use Rattle.core_laws.proofs.FileReads.{of_under, of_key_one}
use Rattle.core_laws.proofs.LevelRule.{rule_within, no_cause_no_key}
use Rattle.job_laws.proofs.RangeKeys.{of_key_outside, nothing_within}
use Rattle.core_laws.proofs.Middle.{column_append}
use Rattle.core_laws.proofs.InstalledLevels.{column_each, tables_rows}
use Rattle.st_order.specs.Columns.{of_key, column, FallStrictly}
use Rattle.st_order.specs.Least.{least_within}

-- ---- what is found of a key

pub found_append : (s : ℕ) (xs ys : List Entry) → found_at s (xs ++ ys) ≡ mark_or (found_at s xs) (found_at s ys)
found_append s [] ys = refl
found_append s (x ∷ xs) ys = step (nat_le x.number s) (found_append s xs ys)
  where
    step : (b : Bool) → found_at s (xs ++ ys) ≡ mark_or (found_at s xs) (found_at s ys)
        → option_map (λ (entry : Entry). entry.mark) (cond b (Some x) (first_at s (xs ++ ys))) ≡ mark_or (option_map (λ (entry : Entry). entry.mark) (cond b (Some x) (first_at s xs))) (found_at s ys)
    step true e = refl
    step false e = e

found_under : (n s : ℕ) (xs : List Entry) → n ≤ s → found_at s (under_number n xs) ≡ found_at 0 (under_number 0 xs)
found_under n s [] le = refl
found_under n s (x ∷ xs) le = ap (λ b. option_map (λ (entry : Entry). entry.mark) (cond b (Some (with_number n x)) (first_at s (under_number n xs)))) (le-leb n s le)

found_above : (n s : ℕ) (xs : List Entry) → s < n → found_at s (under_number n xs) ≡ None
found_above n s [] lt = refl
found_above n s (x ∷ xs) lt = ap (λ b. option_map (λ (entry : Entry). entry.mark) (cond b (Some (with_number n x)) (first_at s (under_number n xs)))) (lt-leb n s lt) ∙ found_above n s xs lt

-- the file's entry is found from its number on
found_file : (key : List ℕ) (n s : ℕ) (entries : List Entry) → n ≤ s → found_at s (of_key key (under_number n entries)) ≡ mark_of_key entries key
found_file key n s entries le = ap (found_at s) (of_under key n entries) ∙ found_under n s (of_key key entries) le ∙ sym (ap (found_at 0) (of_under key 0 entries))

found_later : (key : List ℕ) (n s : ℕ) (entries : List Entry) → s < n → found_at s (of_key key (under_number n entries)) ≡ None
found_later key n s entries lt = ap (found_at s) (of_under key n entries) ∙ found_above n s (of_key key entries) lt

-- where no entry is above the last number, later numbers read as it does
pub found_last : (last s : ℕ) (xs : List Entry) → Each (λ entry. entry.number ≤ last) xs → last ≤ s → found_at s xs ≡ found_at last xs
found_last last s [] each le = refl
found_last last s (x ∷ xs) each le =
    ap (λ b. option_map (λ (entry : Entry). entry.mark) (cond b (Some x) (first_at s xs))) (le-leb x.number s (omega (arith, each.0)))
    ∙ sym (ap (λ b. option_map (λ (entry : Entry). entry.mark) (cond b (Some x) (first_at last xs))) (le-leb x.number last each.0))

-- ---- reads

-- what a file of the rule's level does to reads
pub rule_reads_below : (family : FamilyView) (running : List Job) (table : FileEntries) (lowest number s : ℕ) (key : List ℕ) → IsView family → IsStagedTable table → lowest ≤ 6 → least_within (table_range table) (memories family) ≡ None
    → s < number → find_mark (put_file (level_rule family.levels running (table_range table) lowest).level number table family) s key ≡ find_mark family s key
rule_reads_below family running table lowest number s key view staged low memory lt =
    ap (found_at s) (file_heads_column family running table lowest number key view staged low memory)
    ∙ found_append s (of_key key (under_number number table.entries)) (column key (walk family))
    ∙ ap (λ found. mark_or found (find_mark family s key)) (found_later key number s table.entries lt)

pub rule_reads_at : (family : FamilyView) (running : List Job) (table : FileEntries) (lowest number s : ℕ) (key : List ℕ) → IsView family → IsStagedTable table → lowest ≤ 6 → least_within (table_range table) (memories family) ≡ None
    → number ≤ s → find_mark (put_file (level_rule family.levels running (table_range table) lowest).level number table family) s key ≡ mark_or (mark_of_key table.entries key) (find_mark family s key)
rule_reads_at family running table lowest number s key view staged low memory le =
    ap (found_at s) (file_heads_column family running table lowest number key view staged low memory)
    ∙ found_append s (of_key key (under_number number table.entries)) (column key (walk family))
    ∙ ap (λ found. mark_or found (find_mark family s key)) (found_file key number s table.entries le)

pub behind_reads_core : (family : FamilyView) (table : FileEntries) (s : ℕ) (key : List ℕ) → IsView family → IsStagedTable table → is_free_level (table_range table) (level_at family 6) ≡ true
    → find_mark (put_file 6 0 table family) s key ≡ mark_or (find_mark family s key) (mark_of_key table.entries key)
behind_reads_core family table s key view staged free =
    ap (found_at s) (file_ends_column family table key view staged free)
    ∙ found_append s (column key (walk family)) (of_key key (under_number 0 table.entries))
    ∙ ap (mark_or (find_mark family s key)) (found_file key 0 s table.entries (omega arith))

-- ---- numbers fall

-- the next number, or 0 without a cause
abbrev pub IsNext : ℕ → ℕ → Option Why → Type 0
IsNext last number cause = (number ≡ last + 1) ⊎ ((number ≡ 0) × (cause ≡ None))

-- the file's column has at most one entry, under its number
one_entry : (key : List ℕ) (number : ℕ) (table : FileEntries) → IsStagedTable table → (of_key key (under_number number table.entries) ≡ []) ⊎ ((entry : Entry) × (of_key key (under_number number table.entries) ≡ entry ∷ []) × (entry.number ≡ number))
one_entry key number table staged = step (of_key_one key table.entries staged.keys)
  where
    step : (of_key key table.entries ≡ []) ⊎ ((entry : Entry) × (of_key key table.entries ≡ entry ∷ [])) → (of_key key (under_number number table.entries) ≡ []) ⊎ ((entry : Entry) × (of_key key (under_number number table.entries) ≡ entry ∷ []) × (entry.number ≡ number))
    step (inl none) = inl (of_under key number table.entries ∙ ap (under_number number) none)
    step (inr (entry, one)) = inr (with_number number entry, of_under key number table.entries ∙ ap (under_number number) one, refl)

-- heading both parts
heads_fall : (number : ℕ) (file upper lower : List Entry) → (file ≡ []) ⊎ ((entry : Entry) × (file ≡ entry ∷ []) × (entry.number ≡ number)) → Each (λ other. other.number < number) upper → Each (λ other. other.number < number) lower → Falls upper lower → Falls (file ++ upper) lower
heads_fall number file upper lower (inl none) one other falls = subst (λ front. Falls (front ++ upper) lower) (sym none) falls
heads_fall number file upper lower (inr (entry, is, at)) one other falls = subst (λ front. Falls (front ++ upper) lower) (sym is) (record {
  above = (subst (λ n. Each (λ (other : Entry). other.number < n) upper) (sym at) one, falls.above);
  below = falls.below;
  across = (each_of (λ (other : Entry). other.number < number) (λ other. (other.number < entry.number) ⊎ (other.number ≡ 0)) lower (λ other lt. inl (omega arith)) other, falls.across);
})

-- alone
alone_falls : (number : ℕ) (file : List Entry) → (file ≡ []) ⊎ ((entry : Entry) × (file ≡ entry ∷ []) × (entry.number ≡ number)) → Falls [] file
alone_falls number file (inl none) = subst (Falls []) (sym none) (record { above = tt; below = tt; across = tt })
alone_falls number file (inr (entry, is, at)) = subst (Falls []) (sym is) (record { above = tt; below = (tt, tt); across = tt })

-- behind both parts, where the last level has nothing
behind_falls : (file upper : List Entry) → (file ≡ []) ⊎ ((entry : Entry) × (file ≡ entry ∷ []) × (entry.number ≡ 0)) → FallStrictly upper → Falls upper file
behind_falls file upper one falls = record { above = falls; below = (alone_falls 0 file one).below; across = each_of (λ (entry : Entry). Unit {0}) (λ entry. Each (λ other. (other.number < entry.number) ⊎ (other.number ≡ 0)) file) upper (λ entry _. zeros entry one) (all upper) }
  where
    all : (xs : List Entry) → Each (λ entry. Unit {0}) xs
    all [] = tt
    all (x ∷ xs) = (tt, all xs)

    zeros : (entry : Entry) → (file ≡ []) ⊎ ((entry : Entry) × (file ≡ entry ∷ []) × (entry.number ≡ 0)) → Each (λ other. (other.number < entry.number) ⊎ (other.number ≡ 0)) file
    zeros entry (inl none) = subst (Each (λ other. (other.number < entry.number) ⊎ (other.number ≡ 0))) (sym none) tt
    zeros entry (inr (only, is, at)) = subst (Each (λ other. (other.number < entry.number) ⊎ (other.number ≡ 0))) (sym is) (inr at, tt)

-- ---- the levels above the last

take_at : (n k : ℕ) (table : FileEntries) (levels : List (List FileEntries)) → n < k → take k (put_at n table levels) ≡ put_at n table (take k levels)
take_at n zero table levels lt = absurd (omega arith)
take_at n (suc k) table [] lt = refl
take_at zero (suc k) table (tables ∷ levels) lt = refl
take_at (suc n) (suc k) table (tables ∷ levels) lt = ap (λ rest. tables ∷ rest) (take_at n k table levels (omega arith))

take_zero : (k : ℕ) (table : FileEntries) (levels : List (List FileEntries)) → 0 < k → take k (put_table 0 table levels) ≡ put_table 0 table (take k levels)
take_zero zero table levels lt = absurd (omega arith)
take_zero (suc k) table [] lt = refl
take_zero (suc k) table (tables ∷ levels) lt = refl

slice_take : {X : Type 0} (k : ℕ) (xs : List X) (m : ℕ) → m < k → slice_get (take k xs) m ≡ slice_get xs m
slice_take zero xs m lt = absurd (omega arith)
slice_take (suc k) [] m lt = refl
slice_take (suc k) (x ∷ xs) zero lt = refl
slice_take (suc k) (x ∷ xs) (suc m) lt = slice_take k xs m (omega arith)

pub slice_set_other : {X : Type 0} (xs : List X) (n m : ℕ) (x : X) → (n ≡ m → ⊥) → slice_get (set xs n x) m ≡ slice_get xs m
slice_set_other [] n m x other = refl
slice_set_other (y ∷ ys) zero zero x other = absurd (other refl)
slice_set_other (y ∷ ys) zero (suc m) x other = refl
slice_set_other (y ∷ ys) (suc n) zero x other = refl
slice_set_other (y ∷ ys) (suc n) (suc m) x other = slice_set_other ys n m x (λ e. other (ap suc e))

pub slice_set_same : {X : Type 0} (xs : List X) (n : ℕ) (x : X) → n < length xs → slice_get (set xs n x) n ≡ Some x
slice_set_same [] n x lt = absurd (omega arith)
slice_set_same (y ∷ ys) zero x lt = refl
slice_set_same (y ∷ ys) (suc n) x lt = slice_set_same ys n x (omega arith)

-- a level that the table isn't put at
pub other_level : (level : ℕ) (table : FileEntries) (levels : List (List FileEntries)) (m : ℕ) → (level ≡ m → ⊥) → slice_get (put_table level table levels) m ≡ slice_get levels m
other_level zero table levels m other = slice_set_other levels 0 m (table ∷ unwrap_or (slice_get levels 0) []) other
other_level (suc n) table levels m other = slice_set_other levels (suc n) m (put_by_key table (unwrap_or (slice_get levels (suc n)) [])) other

levels_none : (key : List ℕ) (levels : List (List FileEntries)) → ((m : ℕ) → m < length levels → column key (runs_of (unwrap_or (slice_get levels m) [])) ≡ []) → level_column key levels ≡ []
levels_none key [] none = refl
levels_none key (tables ∷ levels) none =
    ap (column key) (map-append (λ (table : FileEntries). table.entries) tables (tables_in levels))
    ∙ column_append key (runs_of tables) (runs_of (tables_in levels))
    ∙ ap₂ (λ one other. one ++ other) (none 0 (omega arith)) (levels_none key levels (λ m lt. none (suc m) (omega arith)))

above_column : (key : List ℕ) (family : FamilyView) (k : ℕ) → column key (above family k) ≡ column key (memories family) ++ level_column key (take k family.levels)
above_column key family k = column_append key (memories family) (runs_of (tables_in (take k family.levels)))

abbrev pub last_column : List ℕ → FamilyView → List Entry
last_column key family = column key (runs_of (level_at family 6))

-- ---- where the file stands in the two parts

runs_parts : (P : List Entry → Type 0) (family : FamilyView) → Each P (walk family) → Each P (above family 6) × Each P (runs_of (level_at family 6))
runs_parts P family each =
    let parts = each_append P (memories family) (runs_of (tables_in family.levels)) each in
    let tables : Each (λ table. P table.entries) (tables_in family.levels) = each_entries P (tables_in family.levels) parts.1 in (
      each_join P (memories family) (runs_of (tables_in (take 6 family.levels))) parts.0 (entries_all P (tables_in (take 6 family.levels)) (take_each (λ table. P table.entries) 6 family.levels tables)),
      entries_all P (level_at family 6) (each_level (λ table. P table.entries) family.levels 6 tables),
    )
  where
    take_each : (Q : FileEntries → Type 0) (k : ℕ) (levels : List (List FileEntries)) → Each Q (tables_in levels) → Each Q (tables_in (take k levels))
    take_each Q zero levels each = tt
    take_each Q (suc k) [] each = tt
    take_each Q (suc k) (tables ∷ levels) each = let parts = each_append Q tables (tables_in levels) each in each_join Q tables (tables_in (take k levels)) parts.0 (take_each Q k levels parts.1)

-- at the head of the upper part, or alone in the last level
abbrev Parted : List Entry → List Entry → List Entry → List Entry → List Entry → Type 0
Parted file upper lower upper_after lower_after =
    ((upper_after ≡ file ++ upper) × (lower_after ≡ lower)) ⊎ ((upper ≡ []) × (lower ≡ []) × (upper_after ≡ []) × (lower_after ≡ file))

module _ (family : FamilyView) (running : List Job) (table : FileEntries) (lowest number : ℕ) (view : IsView family) (staged : IsStagedTable table) (low : lowest ≤ 6) (memory : least_within (table_range table) (memories family) ≡ None) where
  abbrev pub level : ℕ
  level = (level_rule family.levels running (table_range table) lowest).level

  abbrev pub after : FamilyView
  after = put_file level number table family

  abbrev file_column : List ℕ → List Entry
  file_column key = of_key key (under_number number table.entries)

  parted_outside : (key : List ℕ) → is_in_range (table_range table) key ≡ false → Parted (file_column key) (column key (above family 6)) (last_column key family) (column key (above after 6)) (last_column key after)
  parted_outside key out = inl (step level refl)
    where
      none : file_column key ≡ []
      none = of_key_outside (table_range table) key (under_number number table.entries) (staged_within table number staged) out

      upper_from : (n : ℕ) → level_column key (take 6 (put_table n (renumbered number table) family.levels)) ≡ level_column key (take 6 family.levels)
      upper_from n = elim (cases_lt n 6) [
        | inl lt ↦ ap (level_column key) (same_take n lt) ∙ table_none key (renumbered number table) n (take 6 family.levels) none
        | inr le ↦ ap (level_column key) (kept_take n le)
      ]
        where
          same_take : (n : ℕ) → n < 6 → take 6 (put_table n (renumbered number table) family.levels) ≡ put_table n (renumbered number table) (take 6 family.levels)
          same_take zero lt = take_zero 6 (renumbered number table) family.levels (omega arith)
          same_take (suc n) lt = take_at (suc n) 6 (renumbered number table) family.levels lt

          kept_take : (n : ℕ) → 6 ≤ n → take 6 (put_table n (renumbered number table) family.levels) ≡ take 6 family.levels
          kept_take zero le = absurd (omega arith)
          kept_take (suc n) le = take-set-le 6 family.levels (suc n) (put_by_key (renumbered number table) (unwrap_or (slice_get family.levels (suc n)) [])) le

      lower_from : (n : ℕ) → column key (runs_of (unwrap_or (slice_get (put_table n (renumbered number table) family.levels) 6) [])) ≡ last_column key family
      lower_from n = elim (cases_eq n 6) [
        | inl at ↦ subst (λ m. column key (runs_of (unwrap_or (slice_get (put_table m (renumbered number table) family.levels) 6) [])) ≡ last_column key family) (sym at)
            (ap (λ found. column key (runs_of (unwrap_or found []))) (slice_set_same family.levels 6 (put_by_key (renumbered number table) (level_at family 6)) (omega (arith, view.levels)))
            ∙ put_none key (renumbered number table) (level_at family 6) none)
        | inr other ↦ ap (λ found. column key (runs_of (unwrap_or found []))) (other_level n (renumbered number table) family.levels 6 other)
      ]

      step : (n : ℕ) → level ≡ n → (column key (above after 6) ≡ file_column key ++ column key (above family 6)) × (last_column key after ≡ last_column key family)
      step n is = (
        above_column key after 6 ∙ ap (λ behind. column key (memories family) ++ behind) (upper_from level) ∙ sym (above_column key family 6) ∙ ap (λ front. front ++ column key (above family 6)) (sym none),
        lower_from level,
      )

  parted_inside : (key : List ℕ) → is_in_range (table_range table) key ≡ true → Parted (file_column key) (column key (above family 6)) (last_column key family) (column key (above after 6)) (last_column key after)
  parted_inside key here = elim (cases_lt level 6) [ inl lt ↦ inl (up level refl lt) | inr le ↦ inr (last (omega (arith, rule_within family.levels running (table_range table) lowest))) ]
    where
      no_memory : column key (memories family) ≡ []
      no_memory = least_inside (table_range table) key (memories family) memory here

      long : length (take 6 family.levels) ≡ 6
      long = length-take 6 family.levels ∙ omega (arith, view.levels)

      passes : (m : ℕ) → 0 < level → m ≤ level → column key (runs_of (unwrap_or (slice_get family.levels m) [])) ≡ []
      passes m positive le = passed_column family.levels running (table_range table) lowest key m here positive le

      up_take : (n : ℕ) → level ≡ n → n < 6 → level_column key (take 6 (put_table n (renumbered number table) family.levels)) ≡ file_column key ++ level_column key (take 6 family.levels)
      up_take zero is lt = ap (level_column key) (take_zero 6 (renumbered number table) family.levels (omega arith)) ∙ zero_heads key (renumbered number table) (take 6 family.levels) (omega (arith, long))
      up_take (suc n) is lt =
          ap (level_column key) (take_at (suc n) 6 (renumbered number table) family.levels lt)
          ∙ at_heads key (renumbered number table) (suc n) (take 6 family.levels) (omega (arith, long))
          (λ m le. ap (λ found. column key (runs_of (unwrap_or found []))) (slice_take 6 family.levels m (omega arith)) ∙ passes m (omega arith) (omega arith))

      up : (n : ℕ) → level ≡ n → n < 6 → (column key (above after 6) ≡ file_column key ++ column key (above family 6)) × (last_column key after ≡ last_column key family)
      up n is lt = (
        above_column key after 6
            ∙ ap (λ front. front ++ level_column key (take 6 after.levels)) no_memory
            ∙ up_take level refl (omega arith)
            ∙ ap (λ behind. file_column key ++ behind) (sym (above_column key family 6 ∙ ap (λ front. front ++ level_column key (take 6 family.levels)) no_memory)),
        ap (λ found. column key (runs_of (unwrap_or found []))) (other_level level (renumbered number table) family.levels 6 (λ e. absurd (omega arith))),
      )

      last : level ≡ 6 → (column key (above family 6) ≡ []) × (last_column key family ≡ []) × (column key (above after 6) ≡ []) × (last_column key after ≡ file_column key)
      last is = (upper, passes 6 (omega arith) (omega arith), upper_after, lower_after)
        where
          upper_levels : level_column key (take 6 family.levels) ≡ []
          upper_levels = levels_none key (take 6 family.levels) (λ m lt. ap (λ found. column key (runs_of (unwrap_or found []))) (slice_take 6 family.levels m (omega (arith, long))) ∙ passes m (omega arith) (omega (arith, long)))

          upper : column key (above family 6) ≡ []
          upper = above_column key family 6 ∙ ap₂ (λ one other. one ++ other) no_memory upper_levels

          upper_after : column key (above after 6) ≡ []
          upper_after =
              above_column key after 6
              ∙ ap₂ (λ one other. one ++ other) no_memory
              (ap (λ n. level_column key (take 6 (put_table n (renumbered number table) family.levels))) is
              ∙ ap (level_column key) (take-set-le 6 family.levels 6 (put_by_key (renumbered number table) (level_at family 6)) (omega arith)) ∙ upper_levels)

          lower_after : last_column key after ≡ file_column key
          lower_after =
              ap (λ n. column key (runs_of (unwrap_or (slice_get (put_table n (renumbered number table) family.levels) 6) []))) is
              ∙ ap (λ found. column key (runs_of (unwrap_or found []))) (slice_set_same family.levels 6 (put_by_key (renumbered number table) (level_at family 6)) (omega (arith, view.levels)))
              ∙ put_column key (renumbered number table) (level_at family 6) (passes 6 (omega arith) (omega arith))

  parted : (key : List ℕ) → Parted (file_column key) (column key (above family 6)) (last_column key family) (column key (above after 6)) (last_column key after)
  parted key = step (is_in_range (table_range table) key) refl
    where
      step : (b : Bool) → is_in_range (table_range table) key ≡ b → Parted (file_column key) (column key (above family 6)) (last_column key family) (column key (above after 6)) (last_column key after)
      step true here = parted_inside key here
      step false out = parted_outside key out

  -- all entries of the two parts are below the number
  are_below : (last : ℕ) (key : List ℕ) → NumbersWithin last family → number ≡ last + 1 → Each (λ other. other.number < number) (column key (above family 6)) × Each (λ other. other.number < number) (last_column key family)
  are_below last key within is = (less (column key (above family 6)) parts.0, less (last_column key family) parts.1)
    where
      less : (xs : List Entry) → Each (λ other. other.number ≤ last) xs → Each (λ other. other.number < number) xs
      less xs each = each_of (λ (other : Entry). other.number ≤ last) (λ other. other.number < number) xs (λ other le. omega arith) each

      parts : Each (λ other. other.number ≤ last) (column key (above family 6)) × Each (λ other. other.number ≤ last) (last_column key family)
      parts =
          let runs = runs_parts (Each (λ entry. entry.number ≤ last)) family within in
          (column_each (λ other. other.number ≤ last) key (above family 6) runs.0, column_each (λ other. other.number ≤ last) key (runs_of (level_at family 6)) runs.1)

  -- without a cause there are none
  are_none : (key : List ℕ) → (level_rule family.levels running (table_range table) lowest).cause ≡ None → is_in_range (table_range table) key ≡ true → (column key (above family 6) ≡ []) × (last_column key family ≡ [])
  are_none key cause here =
      let runs = runs_parts (Each (λ entry. is_in_range (table_range table) entry.key ≡ false)) family
      (each_join (Each (λ entry. is_in_range (table_range table) entry.key ≡ false)) (memories family) (runs_of (tables_in family.levels)) (nothing_within (table_range table) (memories family) memory) (no_cause_no_key family.levels running (table_range table) lowest cause)) in
      (column_inside (table_range table) key (above family 6) runs.0 here, column_inside (table_range table) key (runs_of (level_at family 6)) runs.1 here)

  pub rule_falls : (last : ℕ) → NumbersFall family → NumbersWithin last family → IsNext last number (level_rule family.levels running (table_range table) lowest).cause → NumbersFall after
  rule_falls last falls within next key = step (parted key)
    where
      no_key : is_in_range (table_range table) key ≡ false → file_column key ≡ []
      no_key out = of_key_outside (table_range table) key (under_number number table.entries) (staged_within table number staged) out

      early : (level_rule family.levels running (table_range table) lowest).cause ≡ None → (b : Bool) → is_in_range (table_range table) key ≡ b → (file_column key ≡ []) ⊎ (Each (λ other. other.number < number) (column key (above family 6)) × Each (λ other. other.number < number) (last_column key family))
      early cause true here = let none = are_none key cause here in inr (subst (Each (λ other. other.number < number)) (sym none.0) tt, subst (Each (λ other. other.number < number)) (sym none.1) tt)
      early cause false out = inl (no_key out)

      both_below : IsNext last number (level_rule family.levels running (table_range table) lowest).cause → (file_column key ≡ []) ⊎ (Each (λ other. other.number < number) (column key (above family 6)) × Each (λ other. other.number < number) (last_column key family))
      both_below (inl is) = inr (are_below last key within is)
      both_below (inr (at, cause)) = early cause (is_in_range (table_range table) key) refl

      head : (file_column key ≡ []) ⊎ (Each (λ other. other.number < number) (column key (above family 6)) × Each (λ other. other.number < number) (last_column key family)) → Falls (file_column key ++ column key (above family 6)) (last_column key family)
      head (inl none) = subst (λ front. Falls (front ++ column key (above family 6)) (last_column key family)) (sym none) (falls key)
      head (inr (one, other)) = heads_fall number (file_column key) (column key (above family 6)) (last_column key family) (one_entry key number table staged) one other (falls key)

      step : Parted (file_column key) (column key (above family 6)) (last_column key family) (column key (above after 6)) (last_column key after) → Falls (column key (above after 6)) (last_column key after)
      step (inl (up, low)) = subst₂ (λ one other. Falls one other) (sym up) (sym low) (head (both_below next))
      step (inr (no_up, no_low, up, low)) = subst₂ (λ one other. Falls one other) (sym up) (sym low) (alone_falls number (file_column key) (one_entry key number table staged))

-- ---- a file behind

pub behind_upper : (family : FamilyView) (table : FileEntries) → take 6 (put_file 6 0 table family).levels ≡ take 6 family.levels
behind_upper family table = take-set-le 6 family.levels 6 (put_by_key (renumbered 0 table) (level_at family 6)) (omega arith)

pub behind_last : (family : FamilyView) (table : FileEntries) → IsView family → level_at (put_file 6 0 table family) 6 ≡ put_by_key (renumbered 0 table) (level_at family 6)
behind_last family table view = ap (λ found. unwrap_or found []) (slice_set_same family.levels 6 (put_by_key (renumbered 0 table) (level_at family 6)) (omega (arith, view.levels)))

pub behind_numbers_fall : (family : FamilyView) (table : FileEntries) → IsView family → IsStagedTable table → is_free_level (table_range table) (level_at family 6) ≡ true → NumbersFall family → NumbersFall (put_file 6 0 table family)
behind_numbers_fall family table view staged free falls key = step (is_in_range (table_range table) key) refl
  where
    after : FamilyView
    after = put_file 6 0 table family

    file : List Entry
    file = of_key key (under_number 0 table.entries)

    same_up : column key (above (put_file 6 0 table family) 6) ≡ column key (above family 6)
    same_up = ap (λ levels. column key (memories family ++ runs_of (tables_in levels))) (behind_upper family table)

    low_is : last_column key (put_file 6 0 table family) ≡ column key (runs_of (put_by_key (renumbered 0 table) (level_at family 6)))
    low_is = ap (λ tables. column key (runs_of tables)) (behind_last family table view)

    step : (b : Bool) → is_in_range (table_range table) key ≡ b → Falls (column key (above (put_file 6 0 table family) 6)) (last_column key (put_file 6 0 table family))
    step true here = subst₂ (λ one other. Falls one other) (sym same_up)
        (sym (low_is ∙ put_column key (renumbered 0 table) (level_at family 6) (free_column (table_range table) key (level_at family 6) (each_level (λ one. IsSortedRun one.entries) family.levels 6 (tables_rows family view)) free here)))
        (behind_falls (of_key key (under_number 0 table.entries)) (column key (above family 6)) (one_entry key 0 table staged) (falls key).above)
    step false out = subst₂ (λ one other. Falls one other) (sym same_up)
        (sym (low_is ∙ put_none key (renumbered 0 table) (level_at family 6) (of_key_outside (table_range table) key (under_number 0 table.entries) (staged_within table 0 staged) out)))
        (falls key)

-- ---- numbers within

pub walk_each : (P : List Entry → Type 0) (family : FamilyView) (level number : ℕ) (table : FileEntries) → P (under_number number table.entries) → Each P (walk family) → Each P (walk (put_file level number table family))
walk_each P family level number table here each =
    let parts = each_append P (memories family) (runs_of (tables_in family.levels)) each in
    each_join P (memories family) (runs_of (tables_in (put_file level number table family).levels)) parts.0
    (entries_all P (tables_in (put_file level number table family).levels) (table_all (λ one. P one.entries) (renumbered number table) level family.levels here (each_entries P (tables_in family.levels) parts.1)))

under_number_within : (number last : ℕ) (entries : List Entry) → number ≤ last → Each (λ entry. entry.number ≤ last) (under_number number entries)
under_number_within number last [] le = tt
under_number_within number last (x ∷ xs) le = (le, under_number_within number last xs le)

pub file_within : (family : FamilyView) (level number last more : ℕ) (table : FileEntries) → last ≤ more → number ≤ more → NumbersWithin last family → NumbersWithin more (put_file level number table family)
file_within family level number last more table le at within =
    walk_each (Each (λ entry. entry.number ≤ more)) family level number table (under_number_within number more table.entries at)
    (each_of (Each (λ entry. entry.number ≤ last)) (Each (λ entry. entry.number ≤ more)) (walk family) (λ run. each_of (λ (entry : Entry). entry.number ≤ last) (λ entry. entry.number ≤ more) run (λ entry up. omega arith)) within)

-- ---- rows

key_up_before : (one other : Entry) (number : ℕ) → below one.key other.key ≡ true → comes_before (with_number number one) (with_number number other) ≡ true
key_up_before one other number lt = ap is_lt (key_up one.key other.key number number (is_less (bytes_cmp one.key other.key) lt))
  where
    is_less : (o : Ordering) → is_lt o ≡ true → o ≡ Less
    is_less Less e = refl
    is_less Equal e = absurd (false≢true e)
    is_less Greater e = absurd (false≢true e)

under_order : (number : ℕ) (x : Entry) (xs : List Entry) → rises_behind (λ one other. below one.key other.key) x xs ≡ true → rises_behind comes_before (with_number number x) (under_number number xs) ≡ true
under_order number x [] e = refl
under_order number x (y ∷ ys) e =
    let parts = and_parts (below x.key y.key) (rises_behind (λ one other. below one.key other.key) y ys) e in
    and_from (comes_before (with_number number x) (with_number number y)) (rises_behind comes_before (with_number number y) (under_number number ys)) (key_up_before x y number parts.0) (under_order number y ys parts.1)

pub staged_rows : (number : ℕ) (table : FileEntries) → IsStagedTable table → IsSortedRun (under_number number table.entries)
staged_rows number table staged = record { ordered = ordered table.entries staged.keys; within = fits table.entries staged.rows.within }
  where
    ordered : (entries : List Entry) → rises (λ one other. below one.key other.key) entries ≡ true → in_order (under_number number entries) ≡ true
    ordered [] e = refl
    ordered (x ∷ xs) e = under_order number x xs e

    fits : (entries : List Entry) → Each FitsSizes entries → Each FitsSizes (under_number number entries)
    fits [] each = tt
    fits (x ∷ xs) each = (each.0, fits xs each.1)

pub under_length : (number : ℕ) (entries : List Entry) → length (under_number number entries) ≡ length entries
under_length number [] = refl
under_length number (x ∷ xs) = ap suc (under_length number xs)

pub put_length : (level : ℕ) (table : FileEntries) (levels : List (List FileEntries)) → length (put_table level table levels) ≡ length levels
put_length zero table levels = length-set levels 0 (table ∷ unwrap_or (slice_get levels 0) [])
put_length (suc n) table levels = length-set levels (suc n) (put_by_key table (unwrap_or (slice_get levels (suc n)) []))

pub file_view : (family : FamilyView) (level number : ℕ) (table : FileEntries) → IsView family → IsStagedTable table → IsView (put_file level number table family)
file_view family level number table view staged = record {
  levels = put_length level (renumbered number table) family.levels ∙ view.levels;
  rows = walk_each IsSortedRun family level number table (staged_rows number table staged) view.rows;
  filled = table_all HasEntry (renumbered number table) level family.levels (omega (arith, staged.some, under_length number table.entries)) view.filled;
  sealed = view.sealed;
  order = view.order;
}

-- ---- levels
