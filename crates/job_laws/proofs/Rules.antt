-- What the level rule gives: one walk, level by level.
use Rattle.std.proofs.Common.{◌≡◌, ℕ, zero, suc, ◌+◌, ◌<◌, ◌≤◌, Bool, true, false, cond, ◌&&◌, List, [], ◌∷◌, length, Option, Some, None, unwrap_or, refl, sym, subst, inl, inr, ◌⊎◌, arith}
use Rattle.std.specs.Prelude.{find, nat_le, slice_get}
use Rattle.std.specs.Option.{option_map, option_or}
use Rattle.std.specs.List.{AllByRecursion as Each}
use Rattle.std.proofs.lemmas.Bool.{and_from, and_parts, le-leb, leb-true}
use Rattle.st_base.specs.declared.entry.Entry.{Entry}
use Rattle.st_base.specs.declared.entry.KeyRange.{KeyRange}
use Rattle.st_base.specs.Range.{is_in_range}
use Rattle.base_laws.proofs.Lists.{each_join}
use Rattle.st_model.specs.declared.refusal.Why.{Why}
use Rattle.st_model.specs.declared.refusal.Why.TheVariants as whys
use Rattle.st_base.specs.declared.running.Running.{Running}
use Rattle.st_order.specs.Least.{least_within}
use Rattle.job_model.specs.Level.{LevelChoice, is_free_level, level_rule, output_meets, runs_in, stop_in, stopped, walk_from}
use Rattle.job_model.specs.Pick.{tables_at}
use Rattle.job_laws.proofs.RangeKeys.{least_none, nothing_within}
use Rattle.job_laws.specs.Laws.{LowestIsReached, NoCauseNoEntry, RuleIsFree, RuleIsWithin, RulePasses}

-- the level's runs have no entry in the range
abbrev pub HasNoneIn : KeyRange → List (List Entry) → Type 0
HasNoneIn range runs = Each (Each (λ entry. is_in_range range entry.key ≡ false)) runs

-- ---- what no stop says

module _ (running : List Running) (n : ℕ) (range : KeyRange) (runs : List (List Entry)) where
  pub stop_no_entry : stop_in running n range runs ≡ None → least_within range runs ≡ None
  stop_no_entry e = step (least_within range runs) e
    where
      step : (found : Option (List ℕ)) → option_or (option_map whys.Key found) (option_map (λ (output : Running). whys.Running output.range) (find (output_meets n range) running)) ≡ None → found ≡ None
      step None e = refl
      step (Some key) e = absurd cc

  pub stop_no_running : stop_in running n range runs ≡ None → find (output_meets n range) running ≡ None
  stop_no_running e = step (least_within range runs) (find (output_meets n range) running) e
    where
      step : (found : Option (List ℕ)) (output : Option Running) → option_or (option_map whys.Key found) (option_map (λ (output : Running). whys.Running output.range) output) ≡ None → output ≡ None
      step None None e = refl
      step None (Some output) e = absurd cc
      step (Some key) output e = absurd cc

module _ (running : List Running) (range : KeyRange) (lowest : ℕ) where
  abbrev choice : ℕ → ℕ → List (List (List Entry)) → LevelChoice
  choice found n levels = walk_from running range lowest found n levels

  abbrev is_next : ℕ → List (List Entry) → Bool
  is_next n runs = nat_le n lowest && is_free_level range runs

  -- ---- the level is free, and the walk passes each level down to it

  pub record IsRuled (n : ℕ) (levels : List (List (List Entry))) (level : ℕ) : Type 0 where
    pub index : ℕ
    pub at : level ≡ n + index
    pub within : level ≤ lowest
    pub there : index < length levels
    pub free : is_free_level range (tables_at levels index) ≡ true
    pub passed : (i : ℕ) → i ≤ index → stop_in running (n + i) range (tables_at levels i) ≡ None

  abbrev Ruled : ℕ → ℕ → List (List (List Entry)) → ℕ → Type 0
  Ruled found n levels level = (level ≡ found) ⊎ IsRuled n levels level

  deeper : (n : ℕ) (runs : List (List Entry)) (levels : List (List (List Entry))) (level : ℕ) → stop_in running n range runs ≡ None → IsRuled (n + 1) levels level → IsRuled n (runs ∷ levels) level
  deeper n runs levels level none is = record {
    index = suc is.index;
    at = let at = is.at in omega (arith, at);
    within = is.within;
    there = let there = is.there in omega (arith, there);
    free = is.free;
    passed = passed;
  }
    where
      passed : (i : ℕ) → i ≤ suc is.index → stop_in running (n + i) range (tables_at (runs ∷ levels) i) ≡ None
      passed zero le = subst (λ m. stop_in running m range runs ≡ None) (let same : n ≡ n + zero = omega arith in same) none
      passed (suc i) le = subst (λ m. stop_in running m range (tables_at levels i) ≡ None) (let same : n + 1 + i ≡ n + suc i = omega arith in same) (is.passed i (omega arith))

  here : (n : ℕ) (runs : List (List Entry)) (levels : List (List (List Entry))) (level : ℕ) → stop_in running n range runs ≡ None → is_next n runs ≡ true → level ≡ n → IsRuled n (runs ∷ levels) level
  here n runs levels level none next same = record {
    index = 0;
    at = omega (arith, same);
    within = let le = leb-true n lowest parts.0 in omega (arith, le, same);
    there = omega arith;
    free = parts.1;
    passed = passed;
  }
    where
      parts : (nat_le n lowest ≡ true) × (is_free_level range runs ≡ true)
      parts = and_parts (nat_le n lowest) (is_free_level range runs) next

      passed : (i : ℕ) → i ≤ 0 → stop_in running (n + i) range (tables_at (runs ∷ levels) i) ≡ None
      passed zero le = subst (λ m. stop_in running m range runs ≡ None) (let same : n ≡ n + zero = omega arith in same) none
      passed (suc i) le = absurd (omega arith)

  ruled_from : (found n : ℕ) (levels : List (List (List Entry))) → Ruled found n levels (choice found n levels).level
  ruled_from found n [] = inl refl
  ruled_from found n (runs ∷ levels) = step (stop_in running n range runs) refl (is_next n runs) refl (ruled_from (cond (is_next n runs) n found) (n + 1) levels)
    where
      step : (stop : Option Why) → stop_in running n range runs ≡ stop → (b : Bool) → is_next n runs ≡ b
          → Ruled (cond b n found) (n + 1) levels (choice (cond b n found) (n + 1) levels).level
          → Ruled found n (runs ∷ levels) (stopped stop found (choice (cond b n found) (n + 1) levels)).level
      step (Some why) is b next rest = inl refl
      step None is true next (inl same) = inr (here n runs levels (choice n (n + 1) levels).level is next same)
      step None is true next (inr ruled) = inr (deeper n runs levels (choice n (n + 1) levels).level is ruled)
      step None is false next (inl same) = inl same
      step None is false next (inr ruled) = inr (deeper n runs levels (choice found (n + 1) levels).level is ruled)

  -- ---- without a cause

  pub no_stop : (found n : ℕ) (levels : List (List (List Entry))) → (choice found n levels).cause ≡ None → Each (HasNoneIn range) levels
  no_stop found n [] e = tt
  no_stop found n (runs ∷ levels) e = step (stop_in running n range runs) refl e (no_stop (cond (is_next n runs) n found) (n + 1) levels)
    where
      next : LevelChoice
      next = choice (cond (is_next n runs) n found) (n + 1) levels

      step : (stop : Option Why) → stop_in running n range runs ≡ stop → (stopped stop found next).cause ≡ None → (next.cause ≡ None → Each (HasNoneIn range) levels) → Each (HasNoneIn range) (runs ∷ levels)
      step None is e rest = (nothing_within range runs (stop_no_entry running n range runs is), rest e)
      step (Some why) is e rest = absurd cc

  not_above : (found n : ℕ) (levels : List (List (List Entry))) → found ≤ n → found ≤ (choice found n levels).level
  not_above found n [] le = omega arith
  not_above found n (runs ∷ levels) le = step (stop_in running n range runs) (is_next n runs) (not_above n (n + 1) levels (omega arith)) (not_above found (n + 1) levels (omega arith))
    where
      step : (stop : Option Why) (b : Bool) → n ≤ (choice n (n + 1) levels).level → found ≤ (choice found (n + 1) levels).level → found ≤ (stopped stop found (choice (cond b n found) (n + 1) levels)).level
      step (Some why) b one other = omega arith
      step None true one other = omega arith
      step None false one other = other

  reaches : (found n : ℕ) (levels : List (List (List Entry))) (index : ℕ) → (choice found n levels).cause ≡ None → n + index ≤ lowest → index < length levels → is_free_level range (tables_at levels index) ≡ true
      → n + index ≤ (choice found n levels).level
  reaches found n [] index e le there free = absurd (omega arith)
  reaches found n (runs ∷ levels) zero e le there free = step (stop_in running n range runs) e
    where
      passes : is_next n runs ≡ true
      passes = and_from (nat_le n lowest) (is_free_level range runs) (le-leb n lowest (omega arith)) free

      up : n ≤ (choice (cond (is_next n runs) n found) (n + 1) levels).level
      up = subst (λ b. n ≤ (choice (cond b n found) (n + 1) levels).level) (sym passes) (not_above n (n + 1) levels (omega arith))

      step : (stop : Option Why) → (stopped stop found (choice (cond (is_next n runs) n found) (n + 1) levels)).cause ≡ None
          → n + zero ≤ (stopped stop found (choice (cond (is_next n runs) n found) (n + 1) levels)).level
      step None e = omega (arith, up)
      step (Some why) e = absurd cc
  reaches found n (runs ∷ levels) (suc index) e le there free =
      step (stop_in running n range runs) e (λ none. reaches (cond (is_next n runs) n found) (n + 1) levels index none (omega arith) (omega arith) free)
    where
      next : LevelChoice
      next = choice (cond (is_next n runs) n found) (n + 1) levels

      step : (stop : Option Why) → (stopped stop found next).cause ≡ None → (next.cause ≡ None → n + 1 + index ≤ next.level) → n + suc index ≤ (stopped stop found next).level
      step None e rest = let up = rest e in omega (arith, up)
      step (Some why) e rest = absurd cc

-- ---- the whole walk

pub ruled : (levels : List (List (List Entry))) (running : List Running) (range : KeyRange) (lowest : ℕ)
    → ((walk_from running range lowest 0 0 levels).level ≡ 0) ⊎ IsRuled running range lowest 0 levels (walk_from running range lowest 0 0 levels).level
ruled levels running range lowest = ruled_from running range lowest 0 0 levels

pub walk_within : (levels : List (List (List Entry))) (running : List Running) (range : KeyRange) (lowest : ℕ) → (walk_from running range lowest 0 0 levels).level ≤ lowest
walk_within levels running range lowest = step (ruled levels running range lowest)
  where
    step : ((walk_from running range lowest 0 0 levels).level ≡ 0) ⊎ IsRuled running range lowest 0 levels (walk_from running range lowest 0 0 levels).level → (walk_from running range lowest 0 0 levels).level ≤ lowest
    step (inl none) = omega (arith, none)
    step (inr ruled) = ruled.within

pub walk_passes : (levels : List (List (List Entry))) (running : List Running) (range : KeyRange) (lowest n : ℕ) (runs : List (List Entry)) → 0 < (walk_from running range lowest 0 0 levels).level
    → n ≤ (walk_from running range lowest 0 0 levels).level → slice_get levels n ≡ Some runs → stop_in running n range runs ≡ None
walk_passes levels running range lowest n runs positive le there = step (ruled levels running range lowest)
  where
    step : ((walk_from running range lowest 0 0 levels).level ≡ 0) ⊎ IsRuled running range lowest 0 levels (walk_from running range lowest 0 0 levels).level → stop_in running n range runs ≡ None
    step (inl none) = absurd (omega (arith, none, positive))
    step (inr ruled) =
        let at = ruled.at in
        subst (λ found. stop_in running n range (unwrap_or found []) ≡ None) there
        (subst (λ m. stop_in running m range (tables_at levels n) ≡ None) (let same : 0 + n ≡ n = omega arith in same) (ruled.passed n (omega (arith, at, le))))

pub walk_is_free : (levels : List (List (List Entry))) (running : List Running) (range : KeyRange) (lowest : ℕ) (runs : List (List Entry)) → 0 < (walk_from running range lowest 0 0 levels).level
    → slice_get levels (walk_from running range lowest 0 0 levels).level ≡ Some runs → is_free_level range runs ≡ true
walk_is_free levels running range lowest runs positive there = step (ruled levels running range lowest)
  where
    step : ((walk_from running range lowest 0 0 levels).level ≡ 0) ⊎ IsRuled running range lowest 0 levels (walk_from running range lowest 0 0 levels).level → is_free_level range runs ≡ true
    step (inl none) = absurd (omega (arith, none, positive))
    step (inr ruled) =
        let at = ruled.at in
        subst (λ found. is_free_level range (unwrap_or found []) ≡ true) there
        (subst (λ m. is_free_level range (tables_at levels m) ≡ true) (let same : ruled.index ≡ (walk_from running range lowest 0 0 levels).level = omega (arith, at) in same) ruled.free)

all_runs : (range : KeyRange) (levels : List (List (List Entry))) → Each (HasNoneIn range) levels → HasNoneIn range (runs_in levels)
all_runs range [] each = tt
all_runs range (runs ∷ levels) each = each_join (Each (λ entry. is_in_range range entry.key ≡ false)) runs (runs_in levels) each.0 (all_runs range levels each.1)

pub no_cause_no_key : (levels : List (List (List Entry))) (running : List Running) (range : KeyRange) (lowest : ℕ) → (walk_from running range lowest 0 0 levels).cause ≡ None → HasNoneIn range (runs_in levels)
no_cause_no_key levels running range lowest e = all_runs range levels (no_stop running range lowest 0 0 levels e)

pub walk_reaches : (levels : List (List (List Entry))) (running : List Running) (range : KeyRange) (lowest : ℕ) (runs : List (List Entry)) → (walk_from running range lowest 0 0 levels).cause ≡ None
    → slice_get levels lowest ≡ Some runs → is_free_level range runs ≡ true → (walk_from running range lowest 0 0 levels).level ≡ lowest
walk_reaches levels running range lowest runs e there free =
    let up = reaches running range lowest 0 0 levels lowest e (omega arith) (placed levels lowest there) (subst (λ found. is_free_level range (unwrap_or found []) ≡ true) (sym there) free) in
    let within = walk_within levels running range lowest in
    omega (arith, up, within)
  where
    placed : (all : List (List (List Entry))) (n : ℕ) → slice_get all n ≡ Some runs → n < length all
    placed [] n e = absurd cc
    placed (one ∷ all) zero e = omega arith
    placed (one ∷ all) (suc n) e = omega (arith, placed all n e)

-- ---- the laws

pub rule_within : RuleIsWithin
unfolding level_rule
rule_within levels running range lowest = walk_within levels running range lowest

pub rule_passes : RulePasses
unfolding level_rule
rule_passes levels running range lowest n runs positive le there = walk_passes levels running range lowest n runs positive le there

pub rule_is_free : RuleIsFree
unfolding level_rule
rule_is_free levels running range lowest runs positive there = walk_is_free levels running range lowest runs positive there

pub no_cause_no_entry : NoCauseNoEntry
unfolding level_rule
no_cause_no_entry levels running range lowest e = least_none range (runs_in levels) (no_cause_no_key levels running range lowest e)

pub lowest_is_reached : LowestIsReached
unfolding level_rule
lowest_is_reached levels running range lowest runs e there free = walk_reaches levels running range lowest runs e there free
