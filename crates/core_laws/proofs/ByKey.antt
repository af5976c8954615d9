-- The tables of levels from 1 on stand by key.
use Rattle.std.proofs.Common.{◌≡◌, ◌<◌, true, List, [], ◌∷◌, length, map, arith}
use Rattle.std.specs.Prelude.{drop, IsTrue}
use Rattle.std.specs.List.{AllByRecursion as Each}
use Rattle.st_base.specs.Bytes.{below}
use Rattle.st_base.specs.Order.{in_order}
use Rattle.st_base.specs.Range.{range_of}
use Rattle.st_base.specs.declared.entry.Entry.{Entry}
use Rattle.base_laws.proofs.Lists.{each_as, each_back, each_front, each_map}
use Rattle.job_model.specs.ByKey.{IsByKey}
use Rattle.core_model.specs.Picture.{FileEntries, runs_of, tables_in}
use Rattle.core_model.specs.RelationParts.{HasEntry, IsLevel}
use Rattle.core_laws.proofs.Members.{pairs_map}
use Rattle.core_laws.proofs.Middle.{tables_ordered}
use Rattle.core_laws.specs.Laws.{LevelsStandByKey}

abbrev IsOrdered : FileEntries → Type 0
IsOrdered table = in_order table.entries ≡ true

level_by_key : (tables : List FileEntries) → IsLevel tables → Each IsOrdered tables → Each HasEntry tables → IsByKey (runs_of tables)
level_by_key tables apart ordered filled = record {
  ordered = each_map (λ entries. in_order entries ≡ true) (λ table. table.entries) tables ordered;
  filled = each_map (λ entries. 0 < length entries) (λ table. table.entries) tables (each_as HasEntry (λ table. 0 < length table.entries) (λ table some. omega (arith, some)) tables filled);
  apart = pairs_map (λ (one other : List Entry). IsTrue (below (range_of one).last (range_of other).first)) (λ (table : FileEntries). table.entries) tables apart;
}

levels_by_key : (levels : List (List FileEntries)) → Each IsLevel levels → Each IsOrdered (tables_in levels) → Each HasEntry (tables_in levels) → Each IsByKey (map (λ (tables : List FileEntries). runs_of tables) levels)
levels_by_key [] apart ordered filled = tt
levels_by_key (tables ∷ levels) apart ordered filled = (
  level_by_key tables apart.0 (each_front IsOrdered tables (tables_in levels) ordered) (each_front HasEntry tables (tables_in levels) filled),
  levels_by_key levels apart.1 (each_back IsOrdered tables (tables_in levels) ordered) (each_back HasEntry tables (tables_in levels) filled),
)

behind_first : (P : FileEntries → Type 0) (levels : List (List FileEntries)) → Each P (tables_in levels) → Each P (tables_in (drop 1 levels))
behind_first P [] each = tt
behind_first P (tables ∷ levels) each = each_back P tables (tables_in levels) each

pub levels_stand_by_key : LevelsStandByKey
levels_stand_by_key family view apart =
    levels_by_key (drop 1 family.levels) apart (behind_first IsOrdered family.levels (tables_ordered family view)) (behind_first HasEntry family.levels view.filled)
