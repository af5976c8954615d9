-- The live pairs of a merged walk are those of the model's family.
use Rattle.std.proofs.Common.{◌≡◌, ℕ, zero, suc, ◌≤◌, ◌<◌, ◌⊎◌, Bool, true, false, cond, ◌&&◌, List, [], ◌∷◌, ◌++◌, length, map, take, Option, Some, None, refl, sym, ap, subst, ◌∙◌, inl, inr, append-nil, append_assoc, arith}
use Rattle.std.specs.Prelude.{Contains, filter, filter_map, find, flat_map, is_some, nat_le, option_map, slice_get, unwrap_or}
use Rattle.std.specs.List.{AllByRecursion as Each}
use Rattle.st_base.specs.Bytes.{same}
use Rattle.st_base.specs.Map.{value_at}
use Rattle.st_base.specs.Range.{is_in_range}
use Rattle.st_base.specs.Rows.{newest}
use Rattle.st_base.specs.declared.entry.Entry.{Entry}
use Rattle.st_base.specs.declared.entry.KeyRange.{KeyRange}
use Rattle.st_base.specs.declared.entry.Mark.{Mark}
use Rattle.st_base.specs.declared.entry.Mark.TheVariants.{Put, Gone}
use Rattle.base_laws.proofs.Lists.{each_as, each_join}
use Rattle.base_laws.proofs.Maps.{found_each}
use Rattle.st_order.specs.Columns.{column, of_key}
use Rattle.job_model.specs.Column.{Falls, found_at}
use Rattle.core_model.specs.Picture.{FamilyView, FileEntries, above, find_mark, level_at, memories, runs_of, tables_in, walk}
use Rattle.core_model.specs.RelationParts.{NumbersFall}
use Rattle.core_model.specs.StatePicture.{RepresentsState, StatePicture}
use Rattle.core_laws.proofs.LevelLists.{map_append}
use Rattle.core_laws.proofs.ReopenedFamily.{newest_rise}
use Rattle.core_laws.proofs.ToldByColumns.{maps_are_one}
use Rattle.st_merge.specs.Scan.{KeyValue, cut_pairs, live_pairs, mark_value, value_found}
use Rattle.st_merge.proofs.Readable.{found_in_scan, scan_rises}
use Rattle.st_model.specs.Contents.{newest_marks}
use Rattle.st_model.specs.Early.{read_numbers}
use Rattle.st_model.specs.Read.{read, value_of}
use Rattle.st_model.specs.Scan.{marked_keys, pairs_in, pairs_within, scanned}
use Rattle.st_model.specs.Sound.{KeysRise}
use Rattle.st_model.specs.State.{family_of}
use Rattle.st_model.specs.declared.state.ModelFamily.{ModelFamily}
use Rattle.st_model.specs.declared.state.ModelState.{ModelState}
use Rattle.st_order.specs.Columns.{FallStrictly, FallWeakly}
use Rattle.st_order.specs.Sorted.{merged}
use Rattle.st_order.proofs.Columns.{has_columns}
use Rattle.st_version.proofs.Found.{newest_found}
use Rattle.view_laws.specs.Laws.{ScansAreTheModels, ScansReadTheWalk}
use Rattle.view_laws.proofs.Cutting.{cut_is_scanned}
use Rattle.view_laws.proofs.Living.{has, has_key_of, has_passing, keys_passing, keys_up, pairs_up, rise_from, value_in}
use Rattle.view_laws.proofs.Marked.{unmarked_reads_none}

-- ---- numbers don't rise along the walk

weaker : (xs : List Entry) → FallStrictly xs → FallWeakly xs
weaker [] falls = tt
weaker (x ∷ xs) falls = (each_as (λ (y : Entry). y.number < x.number) (λ (y : Entry). y.number ≤ x.number) (λ y lt. omega arith) xs falls.0, weaker xs falls.1)

both_weaker : (xs ys : List Entry) → Falls xs ys → FallWeakly (xs ++ ys)
both_weaker [] ys falls = weaker ys falls.below
both_weaker (x ∷ xs) ys falls = (
  each_join (λ (y : Entry). y.number ≤ x.number) xs ys
      (each_as (λ (y : Entry). y.number < x.number) (λ (y : Entry). y.number ≤ x.number) (λ y lt. omega arith) xs falls.above.0)
      (each_as (λ (y : Entry). (y.number < x.number) ⊎ (y.number ≡ 0)) (λ (y : Entry). y.number ≤ x.number) (λ y low. at_most y low) ys falls.across.0),
  both_weaker xs ys (record { above = falls.above.1; below = falls.below; across = falls.across.1 }),
)
  where
    at_most : (y : Entry) → (y.number < x.number) ⊎ (y.number ≡ 0) → y.number ≤ x.number
    at_most y (inl lt) = omega arith
    at_most y (inr e) = omega arith

flat_join : (key : List ℕ) (xs ys : List (List Entry)) → column key (xs ++ ys) ≡ column key xs ++ column key ys
flat_join key [] ys = refl
flat_join key (x ∷ xs) ys = ap (λ rest. of_key key x ++ rest) (flat_join key xs ys) ∙ sym (append_assoc (of_key key x) (column key xs) (column key ys))

-- the tables of all levels are those above the last one, and its own
split : (levels : List (List FileEntries)) (n : ℕ) → length levels ≡ suc n → tables_in levels ≡ tables_in (take n levels) ++ unwrap_or (slice_get levels n) []
split [] n e = absurd (omega arith)
split (level ∷ []) zero e = append-nil level
split (level ∷ next ∷ levels) zero e = absurd (omega arith)
split (level ∷ levels) (suc n) e =
    ap (λ rest. level ++ rest) (split levels n (omega arith))
    ∙ sym (append_assoc level (tables_in (take n levels)) (unwrap_or (slice_get levels n) []))

walk_is : (family : FamilyView) → length family.levels ≡ 7 → walk family ≡ above family 6 ++ runs_of (level_at family 6)
walk_is family seven =
    ap (λ tables. memories family ++ runs_of tables) (split family.levels 6 seven)
    ∙ ap (λ runs. memories family ++ runs) (map_append (λ (table : FileEntries). table.entries) (tables_in (take 6 family.levels)) (level_at family 6))
    ∙ sym (append_assoc (memories family) (runs_of (tables_in (take 6 family.levels))) (runs_of (level_at family 6)))

falls_along : (family : FamilyView) (key : List ℕ) → length family.levels ≡ 7 → NumbersFall family → FallWeakly (column key (walk family))
falls_along family key seven falls =
    subst FallWeakly (sym (ap (column key) (walk_is family seven) ∙ flat_join key (above family 6) (runs_of (level_at family 6)))) (both_weaker (column key (above family 6)) (column key (runs_of (level_at family 6))) (falls key))

-- ---- reads

found_value : (found : Option (ℕ × Mark)) → value_found found ≡ value_of (option_map (λ one. one.1) found)
found_value None = refl
found_value (Some found) = by found.1
  where
    by : (mark : Mark) → mark_value mark ≡ value_of (Some mark)
    by Gone = refl
    by (Put value) = refl

-- a read of the merged walk finds what a read along the walk finds
read_merged : (family : FamilyView) (number : ℕ) (key : List ℕ) → length family.levels ≡ 7 → NumbersFall family → value_found (newest (merged (walk family)) key number) ≡ value_of (find_mark family number key)
read_merged family number key seven falls =
    found_value (newest (merged (walk family)) key number)
    ∙ ap value_of (newest_found (merged (walk family)) key number ∙ ap (found_at number) (has_columns (walk family) key (falls_along family key seven falls)))

module _ (family : FamilyView) (kept : ModelFamily) (number : ℕ) (range : KeyRange) (seven : length family.levels ≡ 7) (falls : NumbersFall family) (rise : KeysRise kept.base)
    (reads : (key : List ℕ) → value_of (find_mark family number key) ≡ read kept number key) where
  abbrev keys : List (List ℕ)
  keys = filter (is_in_range range) (marked_keys kept)

  in_scan : (key : List ℕ) → value_at (live_pairs range number (merged (walk family))) key ≡ cond (is_in_range range key) (read kept number key) None
  in_scan key = found_in_scan range number (walk family) key ∙ ap (λ found. cond (is_in_range range key) found None) (read_merged family number key seven falls ∙ reads key)

  marked : (key : List ℕ) (r : Bool) (found : Option Mark) → value_at (newest_marks kept) key ≡ found → cond (r && is_some found) (read kept number key) None ≡ cond r (read kept number key) None
  marked key false found e = refl
  marked key true (Some mark) e = refl
  marked key true None e = sym (unmarked_reads_none kept number key e)

  in_model : (key : List ℕ) → value_at (pairs_within kept number range) key ≡ cond (is_in_range range key) (read kept number key) None
  in_model key =
      value_in (read kept number) keys key
      ∙ ap (λ b. cond b (read kept number key) None) (has_passing (is_in_range range) (marked_keys kept) key ∙ ap (λ b. is_in_range range key && b) (has_key_of (newest_marks kept) key))
      ∙ marked key (is_in_range range key) (value_at (newest_marks kept) key) refl

  pub pairs_are : live_pairs range number (merged (walk family)) ≡ pairs_within kept number range
  pairs_are = maps_are_one (live_pairs range number (merged (walk family))) (pairs_within kept number range)
      (rise_from (live_pairs range number (merged (walk family))) (scan_rises range number (walk family)))
      (pairs_up (read kept number) keys (keys_passing (is_in_range range) (marked_keys kept) (keys_up (newest_marks kept) (newest_rise kept rise))))
      (λ key. in_scan key ∙ sym (in_model key))

pub scans_read_the_walk : ScansReadTheWalk
scans_read_the_walk family kept number range limit seven falls rise reads =
    cut_is_scanned limit 0 (live_pairs range number (merged (walk family))) (omega arith)
    ∙ ap (scanned limit 0) (pairs_are family kept number range seven falls rise reads)

pub scans_are : ScansAreTheModels
scans_are picture place state name family kept number range limit is has_family has_kept reads =
    scans_read_the_walk family kept number range limit
    (found_each (λ (one : FamilyView). length one.levels ≡ 7) picture.families name family (each_as _ (λ named. length named.1.levels ≡ 7) (λ named view. view.levels) picture.families is.views) has_family)
    (found_each NumbersFall picture.families name family is.falls has_family)
    (found_each (λ (one : ModelFamily). KeysRise one.base) state.families name kept is.sound.bases has_kept)
    (λ key. is.reads name family kept has_family has_kept number key reads)
    ∙ ap (scanned limit 0) (sym (ap (λ found. unwrap_or (option_map (λ one. pairs_within one number range) found) []) has_kept))
