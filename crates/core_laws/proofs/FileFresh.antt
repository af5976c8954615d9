-- File numbers, and what is left of a request, once a file is in place.
use Rattle.std.proofs.Common.{◌≡◌, ℕ, zero, suc, Bool, true, false, cond, List, [], ◌∷◌, ◌++◌, map, filter, flat_map, Some, is_eq, unwrap_or, refl, sym, ap, ap₂, subst, ◌∙◌}
use Rattle.std.specs.Prelude.{◌==◌}
use Rattle.std.specs.List.{list_any, AllByRecursion as Each}
use Rattle.std.proofs.lemmas.Bool.{false≢true, or_from, ne_eqb}
use Rattle.st_base.specs.Bytes.{same, below, bytes_cmp}
use Rattle.st_base.specs.Map.{value_at, changed_at}
use Rattle.st_base.proofs.Same.{same_true}
use Rattle.st_base.specs.Range.{key_at_front}
use Rattle.base_laws.proofs.Lists.{each_join}
use Rattle.core_model.specs.Commit.{put_table, put_file, renumbered, RequestFile}
use Rattle.core_model.specs.Picture.{FileEntries, FamilyView, Job, tables_in, put_by_key, is_input}
use Rattle.core_model.specs.Step.{HaveOtherFiles}
use Rattle.core_laws.specs.Underway.{files_left}
use Rattle.core_laws.proofs.FileColumns.{put_at, each_append}
use Rattle.core_laws.proofs.FileJobs.{table_all, pairs_append, each_with}
use Rattle.core_laws.proofs.FileReads.{not_below_self}
use Rattle.core_laws.proofs.Lists.{pairs_join}
use Rattle.core_laws.proofs.InstalledLevels.{put_each}
use Rattle.st_order.specs.Columns.{Pairwise}

-- ---- one table more among tables that differ from it

module _ (R : FileEntries → FileEntries → Type 0) (back : (one other : FileEntries) → R one other → R other one) where
  pub flip_each : (table : FileEntries) (tables : List FileEntries) → Each (R table) tables → Each (λ one. R one table) tables
  flip_each table [] each = tt
  flip_each table (other ∷ tables) each = (back table other each.0, flip_each table tables each.1)

  key_more : (table : FileEntries) (tables : List FileEntries) → Each (R table) tables → Pairwise R tables → Pairwise R (put_by_key table tables)
  key_more table [] each pairs = (tt, tt)
  key_more table (other ∷ tables) each pairs = step (below (key_at_front table.entries) (key_at_front other.entries)) (key_more table tables each.1 pairs.1)
    where
      step : (b : Bool) → Pairwise R (put_by_key table tables) → Pairwise R (cond b (table ∷ other ∷ tables) (other ∷ put_by_key table tables))
      step true rest = (each, pairs)
      step false rest = (put_each (R other) table tables (back table other each.0) pairs.0, rest)

  at_more : (table : FileEntries) (level : ℕ) (levels : List (List FileEntries)) → Each (R table) (tables_in levels) → Pairwise R (tables_in levels) → Pairwise R (tables_in (put_at level table levels))
  at_more table level [] each pairs = pairs
  at_more table zero (tables ∷ levels) each pairs =
      let new = each_append (R table) tables (tables_in levels) each in
      let parts = pairs_append R tables (tables_in levels) pairs in
      pairs_join R (put_by_key table tables) (tables_in levels) (key_more table tables new.0 parts.0) parts.1 (put_each (λ one. Each (R one) (tables_in levels)) table tables new.1 parts.2)
  at_more table (suc level) (tables ∷ levels) each pairs =
      let new = each_append (R table) tables (tables_in levels) each in
      let parts = pairs_append R tables (tables_in levels) pairs in
      pairs_join R tables (tables_in (put_at level table levels)) parts.0 (at_more table level levels new.1 parts.1)
      (each_with (λ one. R one table) (λ one. Each (R one) (tables_in levels)) (λ one. Each (R one) (tables_in (put_at level table levels))) tables
      (λ one here all. table_at one here all) (flip_each table tables new.0) parts.2)
    where
      table_at : (one : FileEntries) → R one table → Each (R one) (tables_in levels) → Each (R one) (tables_in (put_at level table levels))
      table_at one here all = at_all level levels all
        where
          at_all : (n : ℕ) (some : List (List FileEntries)) → Each (R one) (tables_in some) → Each (R one) (tables_in (put_at n table some))
          at_all n [] all = all
          at_all zero (ts ∷ some) all = let parts = each_append (R one) ts (tables_in some) all in each_join (R one) (put_by_key table ts) (tables_in some) (put_each (R one) table ts here parts.0) parts.1
          at_all (suc n) (ts ∷ some) all = let parts = each_append (R one) ts (tables_in some) all in each_join (R one) ts (tables_in (put_at n table some)) parts.0 (at_all n some parts.1)

  table_more : (table : FileEntries) (level : ℕ) (levels : List (List FileEntries)) → Each (R table) (tables_in levels) → Pairwise R (tables_in levels) → Pairwise R (tables_in (put_table level table levels))
  table_more table zero [] each pairs = pairs
  table_more table zero (tables ∷ levels) each pairs = (each, pairs)
  table_more table (suc level) levels each pairs = at_more table (suc level) levels each pairs

-- ---- in all families

abbrev pub tables_in_here : List (List ℕ × FamilyView) → List FileEntries
tables_in_here families = flat_map (λ named. tables_in named.1.levels) families

pub in_family : (P : FileEntries → Type 0) (families : List (List ℕ × FamilyView)) (q : List ℕ) (family : FamilyView) → Each P (tables_in_here families) → value_at families q ≡ Some family → Each P (tables_in family.levels)
in_family P [] q family each e = absurd cc
in_family P (pair ∷ families) q family each e =
    let parts = each_append P (tables_in pair.1.levels) (tables_in_here families) each in
    step (is_eq (bytes_cmp q pair.0)) e parts.0 (in_family P families q family parts.1)
  where
    step : (b : Bool) → cond b (Some pair.1) (value_at families q) ≡ Some family → Each P (tables_in pair.1.levels) → (value_at families q ≡ Some family → Each P (tables_in family.levels)) → Each P (tables_in family.levels)
    step true e here rest = subst (λ one. Each P (tables_in one.levels)) (ap (λ found. unwrap_or found pair.1) e) here
    step false e here rest = rest e

module _ (name : List ℕ) (level number : ℕ) (table : FileEntries) where
  pub changed_all : (P : FileEntries → Type 0) (families : List (List ℕ × FamilyView)) → P (renumbered number table) → Each P (tables_in_here families) → Each P (tables_in_here (changed_at families name (put_file level number table)))
  changed_all P [] here each = tt
  changed_all P (pair ∷ families) here each =
      let parts = each_append P (tables_in pair.1.levels) (tables_in_here families) each in
      each_join P (tables_in (cond (same pair.0 name) (put_file level number table pair.1) pair.1).levels) (tables_in_here (changed_at families name (put_file level number table)))
      (step (same pair.0 name) parts.0) (changed_all P families here parts.1)
    where
      step : (b : Bool) → Each P (tables_in pair.1.levels) → Each P (tables_in (cond b (put_file level number table pair.1) pair.1).levels)
      step true each = table_all P (renumbered number table) level pair.1.levels here each
      step false each = each

  -- behind the name none changes
  none_changed : (families : List (List ℕ × FamilyView)) → Each (λ pair. below name pair.0 ≡ true) families → changed_at families name (put_file level number table) ≡ families
  none_changed [] up = refl
  none_changed (pair ∷ families) up = ap₂ (λ one more. one ∷ more) (step (same pair.0 name) refl) (none_changed families up.1)
    where
      step : (b : Bool) → same pair.0 name ≡ b → ◌≡◌ {A = List ℕ × FamilyView} (pair.0, cond b (put_file level number table pair.1) pair.1) pair
      step true at = absurd (false≢true (sym (not_below_self name) ∙ ap (below name) (sym (same_true pair.0 name at)) ∙ up.0))
      step false at = refl

  pub changed_fresh : (families : List (List ℕ × FamilyView)) → Pairwise (λ one other. below one.0 other.0 ≡ true) families → Each (HaveOtherFiles table) (tables_in_here families) → Pairwise HaveOtherFiles (tables_in_here families)
      → Pairwise HaveOtherFiles (tables_in_here (changed_at families name (put_file level number table)))
  changed_fresh [] rise each pairs = tt
  changed_fresh (pair ∷ families) rise each pairs = step (same pair.0 name) refl (changed_fresh families rise.1 new.1 parts.1)
    where
      new : Each (HaveOtherFiles table) (tables_in pair.1.levels) × Each (HaveOtherFiles table) (tables_in_here families)
      new = each_append (HaveOtherFiles table) (tables_in pair.1.levels) (tables_in_here families) each

      parts : Pairwise HaveOtherFiles (tables_in pair.1.levels) × Pairwise HaveOtherFiles (tables_in_here families) × Each (λ one. Each (HaveOtherFiles one) (tables_in_here families)) (tables_in pair.1.levels)
      parts = pairs_append HaveOtherFiles (tables_in pair.1.levels) (tables_in_here families) pairs

      back : (one other : FileEntries) → HaveOtherFiles one other → HaveOtherFiles other one
      back one other differ e = differ (sym e)

      step : (b : Bool) → same pair.0 name ≡ b → Pairwise HaveOtherFiles (tables_in_here (changed_at families name (put_file level number table)))
          → Pairwise HaveOtherFiles (tables_in (cond b (put_file level number table pair.1) pair.1).levels ++ tables_in_here (changed_at families name (put_file level number table)))
      step true at rest =
          subst (λ some. Pairwise HaveOtherFiles (tables_in (put_file level number table pair.1).levels ++ tables_in_here some)) (sym (none_changed families (subst (λ k. Each (λ other. below k other.0 ≡ true) families) (same_true pair.0 name at) rise.0)))
          (pairs_join HaveOtherFiles (tables_in (put_file level number table pair.1).levels) (tables_in_here families)
          (table_more HaveOtherFiles back (renumbered number table) level pair.1.levels new.0 parts.0) parts.1
          (table_all (λ one. Each (HaveOtherFiles one) (tables_in_here families)) (renumbered number table) level pair.1.levels new.1 parts.2))
      step false at rest =
          pairs_join HaveOtherFiles (tables_in pair.1.levels) (tables_in_here (changed_at families name (put_file level number table))) parts.0 rest
          (each_with (λ one. HaveOtherFiles one table) (λ one. Each (HaveOtherFiles one) (tables_in_here families)) (λ one. Each (HaveOtherFiles one) (tables_in_here (changed_at families name (put_file level number table)))) (tables_in pair.1.levels)
          (λ one here all. changed_all (HaveOtherFiles one) families here all) (flip_each HaveOtherFiles back table (tables_in pair.1.levels) new.0) parts.2)

  -- what is left stays fresh
  pub left_fresh : (rest : List RequestFile) (families : List (List ℕ × FamilyView)) → Pairwise (λ one other. below one.0 other.0 ≡ true) families
      → Pairwise HaveOtherFiles (table ∷ files_left rest ++ tables_in_here families) → Pairwise HaveOtherFiles (files_left rest ++ tables_in_here (changed_at families name (put_file level number table)))
  left_fresh rest families rise pairs =
      let new = each_append (HaveOtherFiles table) (files_left rest) (tables_in_here families) pairs.0 in
      let parts = pairs_append HaveOtherFiles (files_left rest) (tables_in_here families) pairs.1 in
      pairs_join HaveOtherFiles (files_left rest) (tables_in_here (changed_at families name (put_file level number table))) parts.0 (changed_fresh families rise new.1 parts.1)
      (each_with (λ one. HaveOtherFiles one table) (λ one. Each (HaveOtherFiles one) (tables_in_here families)) (λ one. Each (HaveOtherFiles one) (tables_in_here (changed_at families name (put_file level number table)))) (files_left rest)
      (λ one here all. changed_all (HaveOtherFiles one) families here all) (flip_each HaveOtherFiles (λ one other differ e. differ (sym e)) table (files_left rest) new.0) parts.2)

-- ---- a fresh file is no input

pub not_an_input : (table : FileEntries) (job : Job) (tables : List FileEntries) → Each (HaveOtherFiles table) tables → map (λ (one : FileEntries). one.file) (filter (is_input job) tables) ≡ job.files → is_input job table ≡ false
not_an_input table job tables each is = subst (λ files. list_any (λ file. file == table.file) files ≡ false) is (none (is_input job) tables each)
  where
    none : (p : FileEntries → Bool) (some : List FileEntries) → Each (HaveOtherFiles table) some → list_any (λ file. file == table.file) (map (λ (one : FileEntries). one.file) (filter p some)) ≡ false
    none p [] each = refl
    none p (one ∷ some) each = step (p one) (none p some each.1)
      where
        step : (b : Bool) → list_any (λ file. file == table.file) (map (λ (one : FileEntries). one.file) (filter p some)) ≡ false → list_any (λ file. file == table.file) (map (λ (one : FileEntries). one.file) (cond b (one ∷ filter p some) (filter p some))) ≡ false
        step true rest = or_from (one.file == table.file) (list_any (λ file. file == table.file) (map (λ (one : FileEntries). one.file) (filter p some))) (ne_eqb one.file table.file (λ e. each.0 (sym e))) rest
        step false rest = rest
