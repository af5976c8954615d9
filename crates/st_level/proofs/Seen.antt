-- The level of a family as it is seen.
use Rattle.std.proofs.Common.{◌≡◌, ℕ, zero, suc, ◌<◌, List, [], ◌∷◌, map, length, Option, Some, unwrap_or, refl, sym, ap, ◌∙◌, arith}
use Rattle.std.specs.Prelude.{slice_get}
use Rattle.std.specs.List.{AllByRecursion as Each}
use Rattle.st_base.specs.declared.entry.Entry.{Entry}
use Rattle.job_model.specs.ByKey.{IsByKey}
use Rattle.st_level.specs.Stops.{AreByKey, runs_at_level}

level_seen : {T : Type 0} (rows : T → List Entry) (levels : List (List T)) (n : ℕ) → map rows (unwrap_or (slice_get levels n) []) ≡ runs_at_level (map (λ (tables : List T). map rows tables) levels) n
level_seen rows [] n = refl
level_seen rows (tables ∷ levels) zero = refl
level_seen rows (tables ∷ levels) (suc n) = level_seen rows levels n

-- the runs of the tables at a level
pub tables_seen : {T : Type 0} (rows : T → List Entry) (levels : List (List T)) (n : ℕ) (tables : List T) → slice_get levels n ≡ Some tables → map rows tables ≡ runs_at_level (map (λ (tables : List T). map rows tables) levels) n
tables_seen {T} rows levels n tables at = ap (λ (found : Option (List T)). map rows (unwrap_or found [])) (sym at) ∙ level_seen rows levels n

each_level : (P : List (List Entry) → Type 0) (levels : List (List (List Entry))) (n : ℕ) → n < length levels → Each P levels → P (runs_at_level levels n)
each_level P [] n lt each = absurd (omega arith)
each_level P (runs ∷ levels) zero lt each = each.0
each_level P (runs ∷ levels) (suc n) lt each = each_level P levels n (omega arith) each.1

pub by_key_at : (levels : List (List (List Entry))) (n : ℕ) → n < length levels → AreByKey levels → 0 < n → IsByKey (runs_at_level levels n)
by_key_at [] n lt are above = absurd (omega arith)
by_key_at (runs ∷ levels) zero lt are above = absurd (omega arith)
by_key_at (runs ∷ levels) (suc n) lt are above = each_level IsByKey levels n (omega arith) are
