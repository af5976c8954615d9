-- Tables that are added to a family and dropped from it: a commit's files, a compaction's inputs and outputs.
use Rattle.std.proofs.Common.{◌≡◌, ℕ, zero, suc, ◌≤◌, List, [], ◌∷◌, map, filter, fold, refl, ap, ◌∙◌, arith, subst}
use Rattle.std.specs.Prelude.{IsTrue, set, slice_get, unwrap_or}
use Rattle.std.specs.List.{AllZip}
use Rattle.base_laws.proofs.Lists.{each_filter}
use Rattle.core_model.specs.Commit.{put_table}
use Rattle.core_model.specs.Compaction.{staying, put_all, with_compacted}
use Rattle.core_model.specs.Picture.{FileEntries, FamilyView, Job, put_by_key, level_at}
use Rattle.manifest_edits.specs.Edits.{Placement, NamedFamily, with_table}
use Rattle.store_image.specs.Opens.{is_sound}
use Rattle.store_image.specs.Parts.{ImageParts, table_at, placed_at, image_levels, level_of}
use Rattle.store_image.specs.Tie.{IsTiedFamily}
use Rattle.image_laws.proofs.Levels.{added_level, dropped_levels, IsBelow}
use Rattle.manifest_edits.specs.Logs.{LogOp}
use Rattle.store_image.specs.Calls.{placed_stays, compacted_named}
use Rattle.st_order.specs.Columns.{Pairwise}

-- an ingested file, or an output of a compaction, at its level
pub family_added : (parts : ImageParts) (ops : List LogOp) (last after : ℕ) (here : List ℕ × FamilyView) (there : List ℕ × NamedFamily) (placed : Placement) (table : FileEntries) (n : ℕ) → IsTiedFamily parts ops last here there
    → last ≤ after → n ≤ 6 → placed.level ≡ n → table_at parts placed ≡ table → IsTrue (is_sound parts placed)
    → IsTiedFamily parts ops after (here.0, record here.1 { levels = put_table n table here.1.levels }) (there.0, with_table placed there.1)
family_added parts ops last after here there placed table n tied le small level is sound = record {
  name = tied.name;
  id = tied.id;
  levels = added_level parts placed there.1.tables n small level ∙ ap (λ one. put_table n one (image_levels parts there.1.tables)) is ∙ ap (put_table n table) tied.levels;
  memory = tied.memory;
  order = tied.order;
  flushed = let old = tied.flushed in omega arith;
  tables = (sound, tied.tables);
}

-- the inputs of a compaction
pub family_dropped : (parts : ImageParts) (ops : List LogOp) (last : ℕ) (here : List ℕ × FamilyView) (there : List ℕ × NamedFamily) (job : Job) → IsTiedFamily parts ops last here there
    → ((n : ℕ) → 1 ≤ n → n ≤ 6 → Pairwise IsBelow (level_of parts there.1.tables n))
    → IsTiedFamily parts ops last (here.0, record here.1 { levels = map (staying job.files) here.1.levels }) (there.0, record there.1 { tables = filter (placed_stays job) there.1.tables })
family_dropped parts ops last here there job tied rise = record {
  name = tied.name;
  id = tied.id;
  levels = dropped_levels parts job there.1.tables rise ∙ ap (map (staying job.files)) tied.levels;
  memory = tied.memory;
  order = tied.order;
  flushed = tied.flushed;
  tables = each_filter (λ placed. IsTrue (is_sound parts placed)) (placed_stays job) there.1.tables tied.tables;
}

-- ---- outputs put one by one are put all

put_each_level : (L : ℕ) (F : List FileEntries → List (List FileEntries)) → ((table : FileEntries) (level : List FileEntries) → put_table L table (F level) ≡ F (put_by_key table level)) → (outputs level : List FileEntries)
    → fold (λ levels table. put_table L table levels) (F level) outputs ≡ F (put_all outputs level)
put_each_level L F step [] level = refl
put_each_level L F step (table ∷ outputs) level = ap (λ levels. fold (λ levels table. put_table L table levels) levels outputs) (step table level) ∙ put_each_level L F step outputs (put_by_key table level)

pub outputs_put : (L : ℕ) (a b c d e f g outputs : List FileEntries) → 1 ≤ L → L ≤ 6 → let levels = a ∷ b ∷ c ∷ d ∷ e ∷ f ∷ g ∷ [] in
    fold (λ levels table. put_table L table levels) levels outputs ≡ set levels L (put_all outputs (unwrap_or (slice_get levels L) []))
outputs_put zero a b c d e f g outputs low high = absurd (omega arith)
outputs_put (suc zero) a b c d e f g outputs low high = put_each_level 1 (λ x. a ∷ x ∷ c ∷ d ∷ e ∷ f ∷ g ∷ []) (λ table level. refl) outputs b
outputs_put (suc (suc zero)) a b c d e f g outputs low high = put_each_level 2 (λ x. a ∷ b ∷ x ∷ d ∷ e ∷ f ∷ g ∷ []) (λ table level. refl) outputs c
outputs_put (suc (suc (suc zero))) a b c d e f g outputs low high = put_each_level 3 (λ x. a ∷ b ∷ c ∷ x ∷ e ∷ f ∷ g ∷ []) (λ table level. refl) outputs d
outputs_put (suc (suc (suc (suc zero)))) a b c d e f g outputs low high = put_each_level 4 (λ x. a ∷ b ∷ c ∷ d ∷ x ∷ f ∷ g ∷ []) (λ table level. refl) outputs e
outputs_put (suc (suc (suc (suc (suc zero))))) a b c d e f g outputs low high = put_each_level 5 (λ x. a ∷ b ∷ c ∷ d ∷ e ∷ x ∷ g ∷ []) (λ table level. refl) outputs f
outputs_put (suc (suc (suc (suc (suc (suc zero)))))) a b c d e f g outputs low high = put_each_level 6 (λ x. a ∷ b ∷ c ∷ d ∷ e ∷ f ∷ x ∷ []) (λ table level. refl) outputs g
outputs_put (suc (suc (suc (suc (suc (suc (suc n))))))) a b c d e f g outputs low high = absurd (omega arith)

-- ---- an installed compaction

compacted_levels : (L : ℕ) (job : Job) (a b c d e f g outputs : List FileEntries) → 1 ≤ L → L ≤ 6 → let levels = a ∷ b ∷ c ∷ d ∷ e ∷ f ∷ g ∷ [] in
    fold (λ levels table. put_table L table levels) (map (staying job.files) levels) outputs ≡ set (map (staying job.files) levels) L (put_all outputs (staying job.files (unwrap_or (slice_get levels L) [])))
compacted_levels zero job a b c d e f g outputs low high = absurd (omega arith)
compacted_levels (suc zero) job a b c d e f g outputs low high = outputs_put 1 (staying job.files a) (staying job.files b) (staying job.files c) (staying job.files d) (staying job.files e) (staying job.files f) (staying job.files g) outputs low high
compacted_levels (suc (suc zero)) job a b c d e f g outputs low high = outputs_put 2 (staying job.files a) (staying job.files b) (staying job.files c) (staying job.files d) (staying job.files e) (staying job.files f) (staying job.files g) outputs low high
compacted_levels (suc (suc (suc zero))) job a b c d e f g outputs low high = outputs_put 3 (staying job.files a) (staying job.files b) (staying job.files c) (staying job.files d) (staying job.files e) (staying job.files f) (staying job.files g) outputs low high
compacted_levels (suc (suc (suc (suc zero)))) job a b c d e f g outputs low high = outputs_put 4 (staying job.files a) (staying job.files b) (staying job.files c) (staying job.files d) (staying job.files e) (staying job.files f) (staying job.files g) outputs low high
compacted_levels (suc (suc (suc (suc (suc zero))))) job a b c d e f g outputs low high = outputs_put 5 (staying job.files a) (staying job.files b) (staying job.files c) (staying job.files d) (staying job.files e) (staying job.files f) (staying job.files g) outputs low high
compacted_levels (suc (suc (suc (suc (suc (suc zero)))))) job a b c d e f g outputs low high = outputs_put 6 (staying job.files a) (staying job.files b) (staying job.files c) (staying job.files d) (staying job.files e) (staying job.files f) (staying job.files g) outputs low high
compacted_levels (suc (suc (suc (suc (suc (suc (suc n))))))) job a b c d e f g outputs low high = absurd (omega arith)

-- the outputs, each placed at the level
pub record IsOutput (parts : ImageParts) (L : ℕ) (placed : Placement) (output : FileEntries) : Type 0 where
  pub level : placed.level ≡ L
  pub table : table_at parts placed ≡ output
  pub sound : IsTrue (is_sound parts placed)

all_added : (parts : ImageParts) (ops : List LogOp) (last : ℕ) (L : ℕ) (here : List ℕ × FamilyView) (there : List ℕ × NamedFamily) (placed : List Placement) (outputs : List FileEntries) → L ≤ 6 → AllZip (IsOutput parts L) placed outputs → IsTiedFamily parts ops last here there
    → IsTiedFamily parts ops last (here.0, record here.1 { levels = fold (λ levels table. put_table L table levels) here.1.levels outputs }) (there.0, fold (λ family one. with_table one family) there.1 placed)
all_added parts ops last L here there [] [] small zip tied = tied
all_added parts ops last L here there [] (output ∷ outputs) small zip tied = absurd zip
all_added parts ops last L here there (one ∷ placed) [] small zip tied = absurd zip
all_added parts ops last L here there (one ∷ placed) (output ∷ outputs) small zip tied =
    all_added parts ops last L (here.0, record here.1 { levels = put_table L output here.1.levels }) (there.0, with_table one there.1) placed outputs small zip.1
    (family_added parts ops last last here there one output L tied (omega arith) small zip.0.level zip.0.table zip.0.sound)

pub compact_family : (parts : ImageParts) (ops : List LogOp) (last : ℕ) (here : List ℕ × FamilyView) (there : List ℕ × NamedFamily) (job : Job) (placed : List Placement) (outputs : List FileEntries) → IsTiedFamily parts ops last here there
    → 1 ≤ job.level → job.level ≤ 6 → ((n : ℕ) → 1 ≤ n → n ≤ 6 → Pairwise IsBelow (level_of parts there.1.tables n)) → AllZip (IsOutput parts job.level) placed outputs
    → IsTiedFamily parts ops last (here.0, with_compacted job outputs here.1) (there.0, compacted_named job placed there.1)
compact_family parts ops last here there job placed outputs tied low high rise zip =
    subst (λ levels. IsTiedFamily parts ops last (here.0, record here.1 { levels = levels }) (there.0, compacted_named job placed there.1)) levels_are
    (all_added parts ops last job.level (here.0, record here.1 { levels = map (staying job.files) here.1.levels }) (there.0, record there.1 { tables = filter (placed_stays job) there.1.tables }) placed outputs high zip
    (family_dropped parts ops last here there job tied rise))
  where
    levels_are : fold (λ levels table. put_table job.level table levels) (map (staying job.files) here.1.levels) outputs ≡ set (map (staying job.files) here.1.levels) job.level (put_all outputs (staying job.files (level_at here.1 job.level)))
    levels_are = subst (λ levels. fold (λ levels table. put_table job.level table levels) (map (staying job.files) levels) outputs ≡ set (map (staying job.files) levels) job.level (put_all outputs (staying job.files (unwrap_or (slice_get levels job.level) [])))) tied.levels
        (compacted_levels job.level job (map (table_at parts) (placed_at 0 there.1.tables)) (level_of parts there.1.tables 1) (level_of parts there.1.tables 2) (level_of parts there.1.tables 3) (level_of parts there.1.tables 4) (level_of parts there.1.tables 5) (level_of parts there.1.tables 6) outputs low high)
