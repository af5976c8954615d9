-- What is replaced is what the core replaces.
use Rattle.std.proofs.Common.{◌≡◌, ℕ, zero, suc, ◌≤◌, List, [], ◌∷◌, map, refl, ap, ap₂, ◌∙◌, arith}
use Rattle.std.specs.Prelude.{set, slice_get, unwrap_or}
use Rattle.base_laws.proofs.Lists.{each_all, filter_whole}
use Rattle.core_model.specs.Commit.{put_table}
use Rattle.core_model.specs.Compaction.{put_all, staying, with_compacted}
use Rattle.core_model.specs.Picture.{FamilyView, FileEntries, Job, level_at}
use Rattle.st_version.specs.Replace.{replaced, with_placed, without_files}

by_key : (level : ℕ) (outputs tables : List FileEntries) → 1 ≤ level → with_placed level outputs tables ≡ put_all outputs tables
by_key zero outputs tables le = absurd (omega arith)
by_key (suc n) outputs tables le = refl

pub compacted_same : (job : Job) (outputs : List FileEntries) (family : FamilyView) → 1 ≤ job.level → replaced job.files job.level outputs family ≡ with_compacted job outputs family
compacted_same job outputs family le =
    ap (λ (tables : List FileEntries). record family { levels = set (map (staying job.files) family.levels) job.level tables })
    (by_key job.level outputs (staying job.files (level_at family job.level)) le)

none_out : (tables : List FileEntries) → without_files [] tables ≡ tables
none_out tables = filter_whole (λ table. Rattle.std.specs.Prelude.not (Rattle.st_version.specs.Replace.is_among [] table)) tables (each_all _ (λ table. refl) tables)

none_out_each : (levels : List (List FileEntries)) → map (without_files []) levels ≡ levels
none_out_each [] = refl
none_out_each (tables ∷ levels) = ap₂ (λ (one : List FileEntries) more. one ∷ more) (none_out tables) (none_out_each levels)

one_put : (level : ℕ) (table : FileEntries) (levels : List (List FileEntries)) → set levels level (with_placed level (table ∷ []) (unwrap_or (slice_get levels level) [])) ≡ put_table level table levels
one_put zero table levels = refl
one_put (suc n) table levels = refl

pub placed_same : (level : ℕ) (table : FileEntries) (family : FamilyView) → (replaced [] level (table ∷ []) family).levels ≡ put_table level table family.levels
placed_same level table family =
    ap₂ (λ (levels : List (List FileEntries)) (tables : List FileEntries). set levels level (with_placed level (table ∷ []) tables)) (none_out_each family.levels) (none_out (unwrap_or (slice_get family.levels level) []))
    ∙ one_put level table family.levels
