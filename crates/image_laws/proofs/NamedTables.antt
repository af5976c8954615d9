-- A file that is no table of the core is no table that is named.
use Rattle.std.proofs.Common.{◌≡◌, ◌≢◌, ℕ, zero, suc, ◌≤◌, Bool, true, false, cond, ◌||◌, List, [], ◌∷◌, map, flat_map, subst, sym, refl, ap, ◌∙◌, arith}
use Rattle.std.specs.Prelude.{◌==◌, nat_lt, nat_le}
use Rattle.std.specs.List.{list_any, AllByRecursion as Each, AllZip}
use Rattle.std.proofs.lemmas.Bool.{and_parts, eqb-true, leb-true}
use Rattle.st_base.specs.Bytes.{below}
use Rattle.base_laws.proofs.Lists.{each_back, each_front, each_join, each_passed}
use Rattle.core_model.specs.Picture.{FamilyView, FileEntries, tables_in, put_by_key}
use Rattle.st_base.specs.Range.{key_at_front}
use Rattle.manifest_edits.specs.Edits.{Placement, NamedFamily, may_place, is_file, tables_named}
use Rattle.manifest_edits.specs.Logs.{LogOp}
use Rattle.store_image.specs.Parts.{ImageParts, log_ops_of, image_levels, level_of, placed_at, by_key, table_at}
use Rattle.store_image.specs.Tie.{IsTiedFamily}
use Rattle.image_laws.specs.Laws.{NotTableNotNamed}

-- ---- tables by key are the same tables

put_back : (P : FileEntries → Type 0) (table : FileEntries) (tables : List FileEntries) → Each P (put_by_key table tables) → P table × Each P tables
put_back P table [] h = h
put_back P table (other ∷ others) h = go (below (key_at_front table.entries) (key_at_front other.entries)) h (put_back P table others)
  where
    go : (b : Bool) → Each P (cond b (table ∷ other ∷ others) (other ∷ put_by_key table others)) → (Each P (put_by_key table others) → P table × Each P others) → P table × Each P (other ∷ others)
    go true h rest = h
    go false h rest = let back = rest h.1 in (back.0, (h.0, back.1))

by_key_back : (P : FileEntries → Type 0) (tables : List FileEntries) → Each P (by_key tables) → Each P tables
by_key_back P [] h = tt
by_key_back P (table ∷ tables) h = let back = put_back P table (by_key tables) h in (back.0, by_key_back P tables back.1)

-- ---- one family

module _ (parts : ImageParts) (file : ℕ) where
  abbrev Other : FileEntries → Type 0
  Other table = table.file ≢ file

  abbrev Elsewhere : Placement → Type 0
  Elsewhere placed = placed.file ≢ file

  map_back : (placed : List Placement) → Each Other (map (table_at parts) placed) → Each Elsewhere placed
  map_back [] h = tt
  map_back (one ∷ placed) h = (h.0, map_back placed h.1)

  -- what is placed at level n
  abbrev AtLevel : List Placement → ℕ → Type 0
  AtLevel placed n = Each (λ (one : Placement). (one.level == n) ≡ true → Elsewhere one) placed

  from_levels : (placed : List Placement) (ns : List ℕ) → Each Other (tables_in (map (level_of parts placed) ns)) → Each (AtLevel placed) ns
  from_levels placed [] h = tt
  from_levels placed (n ∷ ns) h = (
    each_passed Elsewhere (λ (one : Placement). one.level == n) placed (map_back (placed_at n placed) (by_key_back Other (map (table_at parts) (placed_at n placed)) (each_front Other (level_of parts placed n) (tables_in (map (level_of parts placed) ns)) h))),
    from_levels placed ns (each_back Other (level_of parts placed n) (tables_in (map (level_of parts placed) ns)) h),
  )

  pick : (P : ℕ → Type 0) → P 0 → Each P (1 ∷ 2 ∷ 3 ∷ 4 ∷ 5 ∷ 6 ∷ []) → (n : ℕ) → n ≤ 6 → P n
  pick P low h zero le = low
  pick P low h (suc zero) le = h.0
  pick P low h (suc (suc zero)) le = h.1.0
  pick P low h (suc (suc (suc zero))) le = h.1.1.0
  pick P low h (suc (suc (suc (suc zero)))) le = h.1.1.1.0
  pick P low h (suc (suc (suc (suc (suc zero))))) le = h.1.1.1.1.0
  pick P low h (suc (suc (suc (suc (suc (suc zero)))))) le = h.1.1.1.1.1.0
  pick P low h (suc (suc (suc (suc (suc (suc (suc n))))))) le = absurd (omega arith)

  itself : (n : ℕ) → (n == n) ≡ true
  itself n = grind arith

  each_placed : (placed : List Placement) → Each (λ one. may_place one ≡ true) placed → ((n : ℕ) → n ≤ 6 → AtLevel placed n) → Each Elsewhere placed
  each_placed [] may at = tt
  each_placed (one ∷ placed) may at = (
    (at one.level (leb-true one.level 6 (and_parts (nat_lt 1 one.file) (nat_le one.level 6) may.0).1)).0 (itself one.level),
    each_placed placed may.1 (λ n le. (at n le).1),
  )

  placed_elsewhere : (placed : List Placement) → Each (λ one. may_place one ≡ true) placed → Each Other (tables_in (image_levels parts placed)) → Each Elsewhere placed
  placed_elsewhere placed may h = each_placed placed may (pick (AtLevel placed)
      (each_passed Elsewhere (λ (one : Placement). one.level == 0) placed (map_back (placed_at 0 placed) (each_front Other (map (table_at parts) (placed_at 0 placed)) (tables_in (map (level_of parts placed) (1 ∷ 2 ∷ 3 ∷ 4 ∷ 5 ∷ 6 ∷ []))) h)))
      (from_levels placed (1 ∷ 2 ∷ 3 ∷ 4 ∷ 5 ∷ 6 ∷ []) (each_back Other (map (table_at parts) (placed_at 0 placed)) (tables_in (map (level_of parts placed) (1 ∷ 2 ∷ 3 ∷ 4 ∷ 5 ∷ 6 ∷ []))) h)))

  -- ---- all families

  families_elsewhere : (ops : List LogOp) (last : ℕ) (cs : List (List ℕ × FamilyView)) (ns : List (List ℕ × NamedFamily)) → AllZip (IsTiedFamily parts ops last) cs ns → Each (λ one. may_place one ≡ true) (flat_map (λ (family : List ℕ × NamedFamily). family.1.tables) ns)
      → Each Other (flat_map (λ (named : List ℕ × FamilyView). tables_in named.1.levels) cs) → Each Elsewhere (flat_map (λ (family : List ℕ × NamedFamily). family.1.tables) ns)
  families_elsewhere ops last [] [] tied may h = tt
  families_elsewhere ops last [] (n ∷ ns) tied may h = absurd tied
  families_elsewhere ops last (c ∷ cs) [] tied may h = absurd tied
  families_elsewhere ops last (c ∷ cs) (n ∷ ns) tied may h =
      each_join Elsewhere n.1.tables (flat_map (λ (family : List ℕ × NamedFamily). family.1.tables) ns)
      (placed_elsewhere n.1.tables (each_front (λ one. may_place one ≡ true) n.1.tables (flat_map (λ (family : List ℕ × NamedFamily). family.1.tables) ns) may)
      (subst (λ levels. Each Other (tables_in levels)) (sym tied.0.levels) (each_front Other (tables_in c.1.levels) (flat_map (λ (named : List ℕ × FamilyView). tables_in named.1.levels) cs) h)))
      (families_elsewhere ops last cs ns tied.1 (each_back (λ one. may_place one ≡ true) n.1.tables (flat_map (λ (family : List ℕ × NamedFamily). family.1.tables) ns) may)
      (each_back Other (tables_in c.1.levels) (flat_map (λ (named : List ℕ × FamilyView). tables_in named.1.levels) cs) h))

none_named : (file : ℕ) (placed : List Placement) → Each (λ one. one.file ≢ file) placed → list_any (is_file file) placed ≡ false
none_named file [] h = refl
none_named file (one ∷ placed) h = ap (λ b. b || list_any (is_file file) placed) (go (one.file == file) refl) ∙ none_named file placed h.1
  where
    go : (b : Bool) → (one.file == file) ≡ b → (one.file == file) ≡ false
    go true e = absurd (h.0 (eqb-true one.file file e))
    go false e = e

pub not_table_not_named : NotTableNotNamed
not_table_not_named core files begun parts file tied may h =
    none_named file (tables_named files.named) (families_elsewhere parts file (log_ops_of parts files.named.logs) core.last core.families files.named.families tied.holds.families may h)
