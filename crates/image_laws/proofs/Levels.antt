-- Levels after tables are added and dropped: what the manifest names stays what the core has.
use Rattle.std.proofs.Common.{◌≡◌, ℕ, zero, suc, ◌≤◌, Bool, true, false, cond, not, List, [], ◌∷◌, map, filter, refl, sym, ap, ◌∙◌, arith}
use Rattle.std.specs.Prelude.{◌==◌, IsTrue}
use Rattle.std.specs.List.{AllByRecursion as Each}
use Rattle.st_base.specs.Bytes.{below}
use Rattle.st_base.specs.Range.{key_at_front}
use Rattle.base_laws.proofs.Keys.{below_trans}
use Rattle.base_laws.proofs.Lists.{each_as, each_filter}
use Rattle.core_model.specs.Commit.{put_table}
use Rattle.core_model.specs.Compaction.{staying}
use Rattle.core_model.specs.Picture.{FileEntries, Job, put_by_key, is_input}
use Rattle.manifest_edits.specs.Edits.{Placement}
use Rattle.store_image.specs.Parts.{ImageParts, table_at, placed_at, by_key, level_of, image_levels}
use Rattle.image_laws.proofs.Lists.{filter_map}
use Rattle.image_laws.proofs.Flush.{filters_swap}
use Rattle.store_image.specs.Calls.{placed_stays}
use Rattle.st_order.specs.Columns.{Pairwise}

-- ---- a table is added

abbrev with_front : ImageParts → Placement → List Placement → ℕ → ℕ → List Placement
with_front parts placed tables k j = cond (k == j) (placed ∷ placed_at j tables) (placed_at j tables)

-- the levels, where the new table's level is this
abbrev levels_with : ImageParts → Placement → List Placement → ℕ → List (List FileEntries)
levels_with parts placed tables k =
    map (table_at parts) (with_front parts placed tables k 0) ∷ by_key (map (table_at parts) (with_front parts placed tables k 1)) ∷ by_key (map (table_at parts) (with_front parts placed tables k 2))
    ∷ by_key (map (table_at parts) (with_front parts placed tables k 3)) ∷ by_key (map (table_at parts) (with_front parts placed tables k 4)) ∷ by_key (map (table_at parts) (with_front parts placed tables k 5))
    ∷ by_key (map (table_at parts) (with_front parts placed tables k 6)) ∷ []

pub added_level : (parts : ImageParts) (placed : Placement) (tables : List Placement) (n : ℕ) → n ≤ 6 → placed.level ≡ n → image_levels parts (placed ∷ tables) ≡ put_table n (table_at parts placed) (image_levels parts tables)
added_level parts placed tables zero le e = ap (levels_with parts placed tables) e
added_level parts placed tables (suc zero) le e = ap (levels_with parts placed tables) e
added_level parts placed tables (suc (suc zero)) le e = ap (levels_with parts placed tables) e
added_level parts placed tables (suc (suc (suc zero))) le e = ap (levels_with parts placed tables) e
added_level parts placed tables (suc (suc (suc (suc zero)))) le e = ap (levels_with parts placed tables) e
added_level parts placed tables (suc (suc (suc (suc (suc zero))))) le e = ap (levels_with parts placed tables) e
added_level parts placed tables (suc (suc (suc (suc (suc (suc zero)))))) le e = ap (levels_with parts placed tables) e
added_level parts placed tables (suc (suc (suc (suc (suc (suc (suc n))))))) le e = absurd (omega arith)

-- ---- tables by key, of which some go

abbrev first_of : FileEntries → List ℕ
first_of table = key_at_front table.entries

abbrev pub IsBelow : FileEntries → FileEntries → Type 0
IsBelow one other = IsTrue (below (first_of one) (first_of other))

put_front : (table : FileEntries) (tables : List FileEntries) → Each (IsBelow table) tables → put_by_key table tables ≡ table ∷ tables
put_front table [] h = refl
put_front table (other ∷ tables) h = ap (λ b. cond b (table ∷ other ∷ tables) (other ∷ put_by_key table tables)) h.0

put_filter : (keep : FileEntries → Bool) (table : FileEntries) (tables : List FileEntries) → Pairwise IsBelow tables → filter keep (put_by_key table tables) ≡ cond (keep table) (put_by_key table (filter keep tables)) (filter keep tables)
put_filter keep table [] rise = refl
put_filter keep table (other ∷ tables) rise = go (below (first_of table) (first_of other)) refl (put_filter keep table tables rise.1)
  where
    front : IsTrue (below (first_of table) (first_of other)) → put_by_key table (filter keep (other ∷ tables)) ≡ table ∷ filter keep (other ∷ tables)
    front e = put_front table (filter keep (other ∷ tables)) (each_filter (IsBelow table) keep (other ∷ tables)
        (e, each_as (IsBelow other) (IsBelow table) (λ one h. below_trans (first_of table) (first_of other) (first_of one) e h) tables rise.0))

    behind : (c d : Bool) → below (first_of table) (first_of other) ≡ false
        → cond c (other ∷ cond d (put_by_key table (filter keep tables)) (filter keep tables)) (cond d (put_by_key table (filter keep tables)) (filter keep tables))
        ≡ cond d (put_by_key table (cond c (other ∷ filter keep tables) (filter keep tables))) (cond c (other ∷ filter keep tables) (filter keep tables))
    behind true true e = sym (ap (λ b. cond b (table ∷ other ∷ filter keep tables) (other ∷ put_by_key table (filter keep tables))) e)
    behind true false e = refl
    behind false true e = refl
    behind false false e = refl

    go : (b : Bool) → below (first_of table) (first_of other) ≡ b → filter keep (put_by_key table tables) ≡ cond (keep table) (put_by_key table (filter keep tables)) (filter keep tables)
        → filter keep (cond b (table ∷ other ∷ tables) (other ∷ put_by_key table tables)) ≡ cond (keep table) (put_by_key table (filter keep (other ∷ tables))) (filter keep (other ∷ tables))
    go true e rest = ap (λ l. cond (keep table) l (filter keep (other ∷ tables))) (sym (front e))
    go false e rest = ap (λ l. cond (keep other) (other ∷ l) l) rest ∙ behind (keep other) (keep table) e

-- a list without one of its elements still rises
put_each : (P : FileEntries → Type 0) (table : FileEntries) (tables : List FileEntries) → Each P (put_by_key table tables) → Each P tables
put_each P table [] h = tt
put_each P table (other ∷ tables) h = go (below (first_of table) (first_of other)) (put_each P table tables) h
  where
    go : (b : Bool) → (Each P (put_by_key table tables) → Each P tables) → Each P (cond b (table ∷ other ∷ tables) (other ∷ put_by_key table tables)) → Each P (other ∷ tables)
    go true rest h = h.1
    go false rest h = (h.0, rest h.1)

put_rises : (table : FileEntries) (tables : List FileEntries) → Pairwise IsBelow (put_by_key table tables) → Pairwise IsBelow tables
put_rises table [] h = tt
put_rises table (other ∷ tables) h = go (below (first_of table) (first_of other)) (put_rises table tables) h
  where
    go : (b : Bool) → (Pairwise IsBelow (put_by_key table tables) → Pairwise IsBelow tables) → Pairwise IsBelow (cond b (table ∷ other ∷ tables) (other ∷ put_by_key table tables)) → Pairwise IsBelow (other ∷ tables)
    go true rest h = h.1
    go false rest h = (put_each (IsBelow other) table tables h.0, rest h.1)

by_key_filter : (keep : FileEntries → Bool) (tables : List FileEntries) → Pairwise IsBelow (by_key tables) → by_key (filter keep tables) ≡ filter keep (by_key tables)
by_key_filter keep [] rise = refl
by_key_filter keep (table ∷ tables) rise =
    go (keep table) refl (by_key_filter keep tables (put_rises table (by_key tables) rise)) ∙ sym (put_filter keep table (by_key tables) (put_rises table (by_key tables) rise))
  where
    go : (b : Bool) → keep table ≡ b → by_key (filter keep tables) ≡ filter keep (by_key tables) → by_key (cond b (table ∷ filter keep tables) (filter keep tables)) ≡ cond (keep table) (put_by_key table (filter keep (by_key tables))) (filter keep (by_key tables))
    go true e rest = ap (put_by_key table) rest ∙ sym (ap (λ b. cond b (put_by_key table (filter keep (by_key tables))) (filter keep (by_key tables))) e)
    go false e rest = rest ∙ sym (ap (λ b. cond b (put_by_key table (filter keep (by_key tables))) (filter keep (by_key tables))) e)

-- ---- tables are dropped

abbrev stays : Job → FileEntries → Bool
stays job table = not (is_input job table)

dropped_tables : (parts : ImageParts) (job : Job) (n : ℕ) (tables : List Placement) → map (table_at parts) (placed_at n (filter (placed_stays job) tables)) ≡ filter (stays job) (map (table_at parts) (placed_at n tables))
dropped_tables parts job n tables =
    ap (map (table_at parts)) (filters_swap (λ (one : Placement). one.level == n) (placed_stays job) tables)
    ∙ sym (filter_map (table_at parts) (stays job) (placed_at n tables))

-- the levels without the job's inputs
pub dropped_levels : (parts : ImageParts) (job : Job) (tables : List Placement) → ((n : ℕ) → 1 ≤ n → n ≤ 6 → Pairwise IsBelow (level_of parts tables n)) → image_levels parts (filter (placed_stays job) tables) ≡ map (staying job.files) (image_levels parts tables)
dropped_levels parts job tables rise = λ i.
    dropped_tables parts job 0 tables i ∷ one 1 (omega arith) (omega arith) i ∷ one 2 (omega arith) (omega arith) i ∷ one 3 (omega arith) (omega arith) i ∷ one 4 (omega arith) (omega arith) i
    ∷ one 5 (omega arith) (omega arith) i ∷ one 6 (omega arith) (omega arith) i ∷ []
  where
    one : (n : ℕ) → 1 ≤ n → n ≤ 6 → level_of parts (filter (placed_stays job) tables) n ≡ staying job.files (level_of parts tables n)
    one n low high = ap by_key (dropped_tables parts job n tables) ∙ by_key_filter (stays job) (map (table_at parts) (placed_at n tables)) (rise n low high)
