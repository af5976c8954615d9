-- Picking over tables is picking over what they show.
use Rattle.std.proofs.Common.{◌≡◌, ℕ, zero, suc, ◌+◌, Bool, true, false, cond, ◌&&◌, ◌||◌, not, List, [], ◌∷◌, ◌++◌, map, Option, Some, None, refl, sym, ap, ap₂, ◌∙◌}
use Rattle.std.specs.Prelude.{filter, find, nat_le, nat_lt, ◌==◌}
use Rattle.std.specs.Option.{option_map, option_or}
use Rattle.std.specs.List.{list_any}
use Rattle.std.proofs.lemmas.List.{length-map, map-append}
use Rattle.std.proofs.lemmas.List.Folds.{fold-map}
use Rattle.st_base.specs.Range.{meet}
use Rattle.st_base.specs.declared.entry.KeyRange.{KeyRange}
use Rattle.st_base.specs.declared.running.Ranged.{Ranged}
use Rattle.st_base.specs.declared.running.Running.{Running}
use Rattle.job_model.specs.Pick.{candidates_of, charges, is_free_among, is_over_of, joint_of, joint_shown, pick_from, pick_in, pick_of, tables_at, takes, with_next_of}

-- ---- lists seen through a map

module _ {X Y : Type 0} (f : X → Y) (p : Y → Bool) (q : X → Bool) (same : (x : X) → p (f x) ≡ q x) where
  pub filter_map : (xs : List X) → filter p (map f xs) ≡ map f (filter q xs)
  filter_map [] = refl
  filter_map (x ∷ xs) = ap (λ b. cond b (f x ∷ filter p (map f xs)) (filter p (map f xs))) (same x) ∙ step (q x) (filter_map xs)
    where
      step : (b : Bool) → filter p (map f xs) ≡ map f (filter q xs) → cond b (f x ∷ filter p (map f xs)) (filter p (map f xs)) ≡ map f (cond b (x ∷ filter q xs) (filter q xs))
      step true e = ap (λ rest. f x ∷ rest) e
      step false e = e

  pub find_map : (xs : List X) → find p (map f xs) ≡ option_map f (find q xs)
  find_map [] = refl
  find_map (x ∷ xs) = ap (λ b. cond b (Some (f x)) (find p (map f xs))) (same x) ∙ step (q x) (find_map xs)
    where
      step : (b : Bool) → find p (map f xs) ≡ option_map f (find q xs) → cond b (Some (f x)) (find p (map f xs)) ≡ option_map f (cond b (Some x) (find q xs))
      step true e = refl
      step false e = e

  pub any_map : (xs : List X) → list_any p (map f xs) ≡ list_any q xs
  any_map [] = refl
  any_map (x ∷ xs) = ap₂ (λ (a b : Bool). a || b) (same x) (any_map xs)

-- ---- picking

module _ {X : Type 0} (show : X → Ranged) where
  abbrev shown : List X → List Ranged
  shown tables = map show tables

  abbrev itself : Ranged → Ranged
  itself table = table

  ranges_shown : (tables : List X) → map (λ (table : Ranged). table.range) (shown tables) ≡ map (λ (table : X). (show table).range) tables
  ranges_shown [] = refl
  ranges_shown (table ∷ tables) = ap (λ (rest : List KeyRange). (show table).range ∷ rest) (ranges_shown tables)

  same_joint : (tables : List X) → joint_shown itself (shown tables) ≡ joint_shown show tables
  same_joint tables = ap joint_of (ranges_shown tables)

  same_charges : (tables : List X) → charges itself (shown tables) ≡ charges show tables
  same_charges tables = fold-map (λ (a : ℕ) (table : Ranged). a + table.charge) show 0 tables

  same_over : (n : ℕ) (tables : List X) → is_over_of itself n (shown tables) ≡ is_over_of show n tables
  same_over zero tables = ap (nat_le 4) (length-map tables show)
  same_over (suc zero) tables = ap (nat_lt 16777216) (same_charges tables)
  same_over (suc (suc zero)) tables = ap (nat_lt 134217728) (same_charges tables)
  same_over (suc (suc (suc zero))) tables = ap (nat_lt 1073741824) (same_charges tables)
  same_over (suc (suc (suc (suc n)))) tables = refl

  same_next : (tables next : List X) → with_next_of itself (shown tables) (shown next) ≡ shown (with_next_of show tables next)
  same_next tables next =
      ap (λ (rest : List Ranged). shown tables ++ rest)
      (filter_map show (λ (table : Ranged). meet table.range (joint_shown itself (shown tables))) (λ (table : X). meet (show table).range (joint_shown show tables)) (λ table. ap (meet (show table).range) (same_joint tables)) next)
      ∙ sym (map-append show tables (filter (λ (table : X). meet (show table).range (joint_shown show tables)) next))

  same_candidates : (n : ℕ) (tables next : List X) → candidates_of itself n (shown tables) (shown next) ≡ map shown (candidates_of show n tables next)
  same_candidates zero tables next = ap (λ (one : List Ranged). one ∷ []) (same_next tables next)
  same_candidates (suc n) tables next = each tables
    where
      each : (some : List X) → map (λ (table : Ranged). with_next_of itself (table ∷ []) (shown next)) (shown some) ≡ map shown (map (λ (table : X). with_next_of show (table ∷ []) next) some)
      each [] = refl
      each (table ∷ some) = ap₂ (λ (one : List Ranged) (rest : List (List Ranged)). one ∷ rest) (same_next (table ∷ []) next) (each some)

  same_free : (running : List Running) (lowest level : ℕ) (inputs : List X) → is_free_among itself running lowest level (shown inputs) ≡ is_free_among show running lowest level inputs
  same_free running lowest level inputs =
      ap₂ (λ (a : Bool) (range : KeyRange). (not (list_any (λ (job : Running). job.level == lowest) running) && not a) && not (list_any (λ (job : Running). job.level == level && meet job.range range) running))
      (any_map show (λ (table : Ranged). list_any (takes table.file) running) (λ (table : X). list_any (takes (show table).file) running) (λ table. refl) inputs)
      (same_joint inputs)

  same_level : (levels : List (List X)) (n : ℕ) → tables_at (map shown levels) n ≡ shown (tables_at levels n)
  same_level [] n = refl
  same_level (tables ∷ levels) zero = refl
  same_level (tables ∷ levels) (suc n) = same_level levels n

  same_pick : (running : List Running) (lowest : ℕ) (levels : List (List X)) (n : ℕ) → pick_in itself running lowest (map shown levels) n ≡ option_map shown (pick_in show running lowest levels n)
  same_pick running lowest levels n =
      ap₂ (λ (one other : List Ranged). cond (is_over_of itself n one) (find (is_free_among itself running lowest (n + 1)) (candidates_of itself n one other)) None) (same_level levels n) (same_level levels (n + 1))
      ∙ ap (λ b. cond b (find (is_free_among itself running lowest (n + 1)) (candidates_of itself n (shown here) (shown next))) None) (same_over n here)
      ∙ step (is_over_of show n here)
    where
      here : List X
      here = tables_at levels n

      next : List X
      next = tables_at levels (n + 1)

      step : (b : Bool) → cond b (find (is_free_among itself running lowest (n + 1)) (candidates_of itself n (shown here) (shown next))) None
          ≡ option_map shown (cond b (find (is_free_among show running lowest (n + 1)) (candidates_of show n here next)) None)
      step true =
          ap (find (is_free_among itself running lowest (n + 1))) (same_candidates n here next)
          ∙ find_map shown (is_free_among itself running lowest (n + 1)) (is_free_among show running lowest (n + 1)) (λ inputs. same_free running lowest (n + 1) inputs) (candidates_of show n here next)
      step false = refl

  abbrev choice_shown : ℕ × List X → ℕ × List Ranged
  choice_shown choice = (choice.0, map show choice.1)

  same_from : (running : List Running) (lowest : ℕ) (levels : List (List X)) (more n : ℕ) → pick_from itself running lowest (map shown levels) more n ≡ option_map choice_shown (pick_from show running lowest levels more n)
  same_from running lowest levels zero n = refl
  same_from running lowest levels (suc more) n =
      ap₂ (λ (one : Option (List Ranged)) (rest : Option (ℕ × List Ranged)). option_or (option_map (λ (inputs : List Ranged). (n + 1, inputs)) one) rest) (same_pick running lowest levels n) (same_from running lowest levels more (n + 1))
      ∙ either (pick_in show running lowest levels n)
    where
      either : (one : Option (List X)) → option_or (option_map (λ (inputs : List Ranged). (n + 1, inputs)) (option_map shown one)) (option_map choice_shown (pick_from show running lowest levels more (n + 1)))
          ≡ option_map choice_shown (option_or (option_map (λ (inputs : List X). (n + 1, inputs)) one) (pick_from show running lowest levels more (n + 1)))
      either (Some inputs) = refl
      either None = refl

  -- what is picked of tables is what is picked of what they show
  pub picks_of_shown : (running : List Running) (lowest : ℕ) (levels : List (List X)) → pick_of itself running lowest (map shown levels) ≡ option_map choice_shown (pick_of show running lowest levels)
  picks_of_shown running lowest levels = same_from running lowest levels 4 0
