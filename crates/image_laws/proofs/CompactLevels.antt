-- Levels 1 to 6 of what is named rise by first keys, where the core stands for a state.
use Rattle.std.proofs.Common.{◌≡◌, ℕ, zero, suc, ◌≤◌, true, List, [], ◌∷◌, sym, subst, arith}
use Rattle.std.specs.Prelude.{drop}
use Rattle.std.specs.List.{AllByRecursion as Each, AllZip}
use Rattle.st_base.specs.Bytes.{at_most}
use Rattle.st_model.specs.declared.state.ModelState.{ModelState}
use Rattle.base_laws.proofs.Lists.{each_back, each_front}
use Rattle.core_model.specs.Relation.{Represents}
use Rattle.core_model.specs.Picture.{FileEntries, FamilyView, Core, memories, runs_of, tables_in, table_range}
use Rattle.core_model.specs.RelationParts.{IsLevel, IsView, LevelsApart, IsSortedRun}
use Rattle.manifest_edits.specs.Edits.{NamedFamily, Named}
use Rattle.store_image.specs.Parts.{ImageParts, image_levels, level_of}
use Rattle.store_image.specs.Tie.{IsTiedFamily}
use Rattle.image_laws.proofs.Apart.{range_ordered, level_rises}
use Rattle.image_laws.proofs.Levels.{IsBelow}
use Rattle.manifest_edits.specs.Logs.{LogOp}
use Rattle.st_order.specs.Columns.{Pairwise}

abbrev pub IsRight : FileEntries → Type 0
IsRight table = at_most (table_range table).first (table_range table).last ≡ true

right_tables : (tables : List FileEntries) → Each IsSortedRun (runs_of tables) → Each IsRight tables
right_tables [] rows = tt
right_tables (table ∷ tables) rows = (range_ordered table.entries rows.0, right_tables tables rows.1)

right_levels : (levels : List (List FileEntries)) → Each IsRight (tables_in levels) → Each (Each IsRight) levels
right_levels [] h = tt
right_levels (level ∷ levels) h = (each_front IsRight level (tables_in levels) h, right_levels levels (each_back IsRight level (tables_in levels) h))

-- a family's levels from 1 on stand by first keys
pub view_rises : (family : FamilyView) → IsView family → Each (Each IsRight) family.levels
view_rises family view = right_levels family.levels (right_tables (tables_in family.levels) (each_back IsSortedRun (memories family) (runs_of (tables_in family.levels)) view.rows))

abbrev pub LevelsRise : ImageParts → List ℕ × NamedFamily → Type 0
LevelsRise parts there = (n : ℕ) → 1 ≤ n → n ≤ 6 → Pairwise IsBelow (level_of parts there.1.tables n)

family_rises : (parts : ImageParts) (ops : List LogOp) (last : ℕ) (here : List ℕ × FamilyView) (there : List ℕ × NamedFamily) → IsTiedFamily parts ops last here there → IsView here.1 → LevelsApart here.1 → LevelsRise parts there
family_rises parts ops last here there tied view apart =
    pick (subst (λ levels. Each IsLevel (drop 1 levels)) (sym tied.levels) apart) (subst (Each (Each IsRight)) (sym tied.levels) (view_rises here.1 view))
  where
    pick : Each IsLevel (drop 1 (image_levels parts there.1.tables)) → Each (Each IsRight) (image_levels parts there.1.tables) → LevelsRise parts there
    pick apart right zero low high = absurd (omega arith)
    pick apart right (suc zero) low high = level_rises (level_of parts there.1.tables 1) apart.0 right.1.0
    pick apart right (suc (suc zero)) low high = level_rises (level_of parts there.1.tables 2) apart.1.0 right.1.1.0
    pick apart right (suc (suc (suc zero))) low high = level_rises (level_of parts there.1.tables 3) apart.1.1.0 right.1.1.1.0
    pick apart right (suc (suc (suc (suc zero)))) low high = level_rises (level_of parts there.1.tables 4) apart.1.1.1.0 right.1.1.1.1.0
    pick apart right (suc (suc (suc (suc (suc zero))))) low high = level_rises (level_of parts there.1.tables 5) apart.1.1.1.1.0 right.1.1.1.1.1.0
    pick apart right (suc (suc (suc (suc (suc (suc zero)))))) low high = level_rises (level_of parts there.1.tables 6) apart.1.1.1.1.1.0 right.1.1.1.1.1.1.0
    pick apart right (suc (suc (suc (suc (suc (suc (suc n))))))) low high = absurd (omega arith)

families_rise : (parts : ImageParts) (ops : List LogOp) (last : ℕ) (cs : List (List ℕ × FamilyView)) (ns : List (List ℕ × NamedFamily)) → AllZip (IsTiedFamily parts ops last) cs ns → Each (λ here. IsView here.1) cs → Each (λ here. LevelsApart here.1) cs
    → Each (LevelsRise parts) ns
families_rise parts ops last [] [] tied views apart = tt
families_rise parts ops last [] (n ∷ ns) tied views apart = absurd tied
families_rise parts ops last (c ∷ cs) [] tied views apart = absurd tied
families_rise parts ops last (c ∷ cs) (n ∷ ns) tied views apart = (family_rises parts ops last c n tied.0 views.0 apart.0, families_rise parts ops last cs ns tied.1 views.1 apart.1)

-- what an installed compaction asks of the levels
pub levels_rise : (core : Core) (state : ModelState) (parts : ImageParts) (ops : List LogOp) (named : Named) → Represents core state → AllZip (IsTiedFamily parts ops core.last) core.families named.families → Each (LevelsRise parts) named.families
levels_rise core state parts ops named stands tied = families_rise parts ops core.last core.families named.families tied stands.views stands.apart
