-- A file that meets no table of its level leaves the levels by key.
use Rattle.std.proofs.Common.{◌≡◌, ℕ, zero, suc, ◌<◌, Bool, true, false, cond, List, [], ◌∷◌, ◌++◌, map, set, drop, unwrap_or, refl, sym, ap, ap₂, subst, ◌∙◌, inl, inr, ◌⊎◌, arith}
use Rattle.std.specs.Prelude.{slice_get, fold}
use Rattle.std.specs.List.{list_any, AllByRecursion as Each}
use Rattle.std.proofs.lemmas.Bool.{false≢true, or_parts, and_from, and_cases, not-true}
use Rattle.std.proofs.lemmas.List.{drop-set-lt}
use Rattle.st_base.specs.Bytes.{at_most, below}
use Rattle.st_base.specs.declared.entry.KeyRange.{KeyRange}
use Rattle.st_model.specs.declared.state.ModelFamily.{ModelFamily}
use Rattle.st_model.specs.Contents.{put_range, sorted_ranges}
use Rattle.st_base.specs.Range.{meet, range_of, key_at_front}
use Rattle.base_laws.proofs.Keys.{at_most_below, at_most_trans, below_at_most, below_trans, not_at_most, not_below}
use Rattle.base_laws.proofs.Ranges.{same_range}
use Rattle.core_model.specs.Commit.{put_file, renumbered}
use Rattle.core_model.specs.Level.{is_free_level}
use Rattle.core_model.specs.Picture.{FileEntries, FamilyView, level_at, table_range, put_by_key}
use Rattle.core_model.specs.Request.{IsStagedTable}
use Rattle.core_model.specs.RelationParts.{IsView, HasEntry, IsLevel, LevelsApart, IsSortedRun}
use Rattle.core_laws.proofs.FileColumns.{each_level}
use Rattle.core_laws.proofs.FileFields.{behind_last}
use Rattle.core_laws.proofs.FileJobs.{each_of}
use Rattle.core_laws.proofs.FileReads.{not_below_self}
use Rattle.core_laws.proofs.InstalledLevels.{put_each, tables_rows}
use Rattle.core_laws.proofs.JointRange.{front_le_end}

-- a range isn't upside down, and doesn't meet the new one
abbrev IsBeside : KeyRange → FileEntries → Type 0
IsBeside range table = (at_most (table_range table).first (table_range table).last ≡ true) × (meet (table_range table) range ≡ false)

abbrev IsLeft : FileEntries → FileEntries → Type 0
IsLeft one other = below (table_range one).last (table_range other).first ≡ true

left_of : (new other : FileEntries) → at_most (table_range new).first (table_range new).last ≡ true → IsBeside (table_range new) other → below (table_range new).first (table_range other).first ≡ true → IsLeft new other
left_of new other upright beside lt = step (and_cases (at_most (table_range other).first (table_range new).last) (at_most (table_range new).first (table_range other).last) beside.1)
  where
    step : (at_most (table_range other).first (table_range new).last ≡ false) ⊎ (at_most (table_range new).first (table_range other).last ≡ false) → IsLeft new other
    step (inl up) = not_at_most (table_range other).first (table_range new).last up
    step (inr up) = absurd (false≢true (sym (not_below_self (table_range other).first)
        ∙ at_most_below (table_range other).first (table_range other).last (table_range other).first beside.0
        (below_trans (table_range other).last (table_range new).first (table_range other).first (not_at_most (table_range new).first (table_range other).last up) lt)))

right_of : (new other : FileEntries) → at_most (table_range new).first (table_range new).last ≡ true → IsBeside (table_range new) other → below (table_range new).first (table_range other).first ≡ false → IsLeft other new
right_of new other upright beside not_lt = step (and_cases (at_most (table_range other).first (table_range new).last) (at_most (table_range new).first (table_range other).last) beside.1)
  where
    step : (at_most (table_range other).first (table_range new).last ≡ false) ⊎ (at_most (table_range new).first (table_range other).last ≡ false) → IsLeft other new
    step (inr up) = not_at_most (table_range new).first (table_range other).last up
    step (inl up) = absurd (false≢true (sym up ∙ at_most_trans (table_range other).first (table_range new).first (table_range new).last (not_below (table_range new).first (table_range other).first not_lt) upright))

put_level : (new : FileEntries) (tables : List FileEntries) → at_most (table_range new).first (table_range new).last ≡ true → Each (IsBeside (table_range new)) tables → IsLevel tables → IsLevel (put_by_key new tables)
put_level new [] upright beside apart = (tt, tt)
put_level new (other ∷ tables) upright beside apart = step (below (key_at_front new.entries) (key_at_front other.entries)) refl (put_level new tables upright beside.1 apart.1)
  where
    step : (b : Bool) → below (key_at_front new.entries) (key_at_front other.entries) ≡ b → IsLevel (put_by_key new tables) → IsLevel (cond b (new ∷ other ∷ tables) (other ∷ put_by_key new tables))
    step true lt rest =
        let left : IsLeft new other = left_of new other upright beside.0 lt in (
          (
            left,
            each_of (IsLeft other) (IsLeft new) tables (λ more right. below_trans (table_range new).last (table_range other).first (table_range more).first left
                (at_most_below (table_range other).first (table_range other).last (table_range more).first beside.0.0 right)) apart.0,
          ),
          apart,
        )
    step false not_lt rest = (put_each (IsLeft other) new tables (right_of new other upright beside.0 not_lt) apart.0, rest)

-- the ranges are put as the tables are
put_ranges : (new : FileEntries) (tables : List FileEntries) → at_most (table_range new).first (table_range new).last ≡ true → Each (IsBeside (table_range new)) tables → map table_range (put_by_key new tables) ≡ put_range (table_range new) (map table_range tables)
put_ranges new [] upright beside = refl
put_ranges new (other ∷ tables) upright beside = step (below (key_at_front new.entries) (key_at_front other.entries)) refl (at_most (key_at_front new.entries) (key_at_front other.entries)) refl (put_ranges new tables upright beside.1)
  where
    step : (b : Bool) → below (key_at_front new.entries) (key_at_front other.entries) ≡ b → (c : Bool) → at_most (key_at_front new.entries) (key_at_front other.entries) ≡ c → map table_range (put_by_key new tables) ≡ put_range (table_range new) (map table_range tables)
        → map table_range (cond b (new ∷ other ∷ tables) (other ∷ put_by_key new tables)) ≡ cond c (table_range new ∷ table_range other ∷ map table_range tables) (table_range other ∷ put_range (table_range new) (map table_range tables))
    step true lt true le rest = refl
    step true lt false le rest = absurd (false≢true (sym le ∙ below_at_most (key_at_front new.entries) (key_at_front other.entries) lt))
    step false lt false le rest = ap (λ more. table_range other ∷ more) rest
    step false lt true le rest = absurd (false≢true (sym beside.0.1 ∙ and_from (at_most (table_range other).first (table_range new).last) (at_most (table_range new).first (table_range other).last)
        (at_most_trans (table_range other).first (table_range new).first (table_range new).last (not_below (table_range new).first (table_range other).first lt) upright)
        (at_most_trans (table_range new).first (table_range other).first (table_range other).last le beside.0.0)))

-- ---- the tables of a free level are beside the new range

beside_each : (range : KeyRange) (tables : List FileEntries) → Each HasEntry tables → Each (λ table. IsSortedRun table.entries) tables → is_free_level range tables ≡ true → Each (IsBeside range) tables
beside_each range tables filled rows free = each tables filled rows (not-true (list_any (λ table. meet (table_range table) range) tables) free)
  where
    each : (some : List FileEntries) → Each HasEntry some → Each (λ table. IsSortedRun table.entries) some → list_any (λ table. meet (table_range table) range) some ≡ false → Each (IsBeside range) some
    each [] filled rows e = tt
    each (table ∷ some) filled rows e =
        let parts = or_parts (meet (table_range table) range) (list_any (λ table. meet (table_range table) range) some) e in
        ((front_le_end table.entries filled.0 rows.0.ordered, parts.0), each some filled.1 rows.1 parts.1)

-- at a level of a view
beside_at : (family : FamilyView) (level number : ℕ) (table : FileEntries) → IsView family → is_free_level (table_range table) (level_at family level) ≡ true → Each (IsBeside (table_range (renumbered number table))) (level_at family level)
beside_at family level number table view free =
    subst (λ range. Each (IsBeside range) (level_at family level)) (sym (same_range number table.entries))
    (beside_each (table_range table) (level_at family level) (each_level HasEntry family.levels level view.filled) (each_level (λ one. IsSortedRun one.entries) family.levels level (tables_rows family view)) free)

upright : (number : ℕ) (table : FileEntries) → IsStagedTable table → at_most (table_range (renumbered number table)).first (table_range (renumbered number table)).last ≡ true
upright number table staged = subst (λ range. at_most range.first range.last ≡ true) (sym (same_range number table.entries)) (front_le_end table.entries staged.some staged.rows.ordered)

set_each : {X : Type 0} (P : X → Type 0) (xs : List X) (n : ℕ) (x : X) → P x → Each P xs → Each P (set xs n x)
set_each P [] n x here each = tt
set_each P (y ∷ ys) zero x here each = (here, each.1)
set_each P (y ∷ ys) (suc n) x here each = (each.0, set_each P ys n x here each.1)

each_slice : (P : List FileEntries → Type 0) (levels : List (List FileEntries)) (n : ℕ) → P [] → Each P levels → P (unwrap_or (slice_get levels n) [])
each_slice P [] n none each = none
each_slice P (tables ∷ levels) zero none each = each.0
each_slice P (tables ∷ levels) (suc n) none each = each_slice P levels n none each.1

set_behind : (levels : List (List FileEntries)) (n : ℕ) (tables : List FileEntries) → drop 1 (set levels (suc n) tables) ≡ set (drop 1 levels) n tables
set_behind [] n tables = refl
set_behind (here ∷ levels) n tables = refl

slice_behind : (levels : List (List FileEntries)) (n : ℕ) → slice_get levels (suc n) ≡ slice_get (drop 1 levels) n
slice_behind [] n = refl
slice_behind (here ∷ levels) n = refl

pub file_apart : (family : FamilyView) (level number : ℕ) (table : FileEntries) → IsView family → IsStagedTable table → (0 < level → is_free_level (table_range table) (level_at family level) ≡ true) → LevelsApart family → LevelsApart (put_file level number table family)
file_apart family zero number table view staged free apart = subst (Each IsLevel) (sym (drop-set-lt 1 family.levels 0 (renumbered number table ∷ unwrap_or (slice_get family.levels 0) []) (omega arith))) apart
file_apart family (suc n) number table view staged free apart =
    subst (Each IsLevel) (sym (set_behind family.levels n (put_by_key (renumbered number table) (level_at family (suc n)))))
    (set_each IsLevel (drop 1 family.levels) n (put_by_key (renumbered number table) (level_at family (suc n)))
    (put_level (renumbered number table) (level_at family (suc n)) (upright number table staged) (beside_at family (suc n) number table view (free (omega arith)))
    (ap_level (each_slice IsLevel (drop 1 family.levels) n tt apart)))
    apart)
  where
    ap_level : IsLevel (unwrap_or (slice_get (drop 1 family.levels) n) []) → IsLevel (level_at family (suc n))
    ap_level here = subst (λ found. IsLevel (unwrap_or found [])) (sym (slice_behind family.levels n)) here

-- ---- the ranges of files behind

sorted_more : (ranges : List KeyRange) (range : KeyRange) → sorted_ranges (ranges ++ range ∷ []) ≡ put_range range (sorted_ranges ranges)
sorted_more ranges range = more [] ranges
  where
    more : (sorted some : List KeyRange) → fold (λ sorted one. put_range one sorted) sorted (some ++ range ∷ []) ≡ put_range range (fold (λ sorted one. put_range one sorted) sorted some)
    more sorted [] = refl
    more sorted (one ∷ some) = more (put_range one sorted) some

pub behind_ranges : (family : FamilyView) (kept : ModelFamily) (table : FileEntries) → IsView family → IsStagedTable table → is_free_level (table_range table) (level_at family 6) ≡ true
    → map table_range (level_at family 6) ≡ sorted_ranges kept.ranges → map table_range (level_at (put_file 6 0 table family) 6) ≡ sorted_ranges (kept.ranges ++ range_of table.entries ∷ [])
behind_ranges family kept table view staged free is =
    ap (map table_range) (behind_last family table view)
    ∙ put_ranges (renumbered 0 table) (level_at family 6) (upright 0 table staged) (beside_at family 6 0 table view free)
    ∙ ap₂ put_range (same_range 0 table.entries) is
    ∙ sym (sorted_more kept.ranges (range_of table.entries))
