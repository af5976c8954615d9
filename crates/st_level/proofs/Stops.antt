-- What a level's stop tells, and a step of the walk.
use Rattle.std.proofs.Common.{◌≡◌, ℕ, suc, ◌+◌, ◌<◌, ◌≤◌, Bool, true, false, cond, not, ◌&&◌, ltb, List, [], ◌∷◌, map, drop, length, get_or, Option, Some, None, unwrap_or, refl, sym, ap, subst, ◌∙◌, inl, inr, arith}
use Rattle.std.specs.Prelude.{find, slice_get, nat_le, option_map}
use Rattle.std.specs.Option.{option_or}
use Rattle.std.specs.List.{position, position_or_len}
use Rattle.std.proofs.lemmas.Bool.{cases_lt, lt-ltb}
use Rattle.std.proofs.lemmas.List.{drop_more, drop_all}
use Rattle.std.proofs.lemmas.List.Folds.{find_at}
use Rattle.std.proofs.lemmas.Option.{slice_get-get_or, slice_get_past, unwrap_or-slice_get}
use Rattle.st_base.specs.declared.entry.Entry.{Entry}
use Rattle.st_base.specs.declared.entry.KeyRange.{KeyRange}
use Rattle.st_model.specs.declared.refusal.Why.{Why}
use Rattle.st_model.specs.declared.refusal.Why.TheVariants as whys
use Rattle.st_order.specs.Least.{least_within}
use Rattle.st_level.specs.Found.{FindsLeast}
use Rattle.st_level.specs.Stops.{TellsCause, runs_at_level}
use Rattle.job_model.specs.Level.{is_free_level, output_meets, stop_in, stopped, walk_from}
use Rattle.st_base.specs.declared.running.Running.{Running}
use Rattle.st_level.specs.declared.choice.Stop.TheVariants.{AtEntry, AtRunning}

module _ (levels : List (List (List Entry))) (running : List Running) (n : ℕ) (range : KeyRange) where
  abbrev why_running : Running → Why
  why_running job = whys.Running job.range

  abbrev runs : List (List Entry)
  runs = runs_at_level levels n

  abbrev stop : Option Why
  stop = stop_in running n range runs

  pub at_entry : (table index : ℕ) → FindsLeast range runs (Some (table, index)) → TellsCause levels running (Some (AtEntry n table index)) stop
  at_entry table index (key, has, least) = (
    whys.Key key,
    ap (λ (o : Option (List ℕ)). option_or (option_map whys.Key o) (option_map why_running (find (output_meets n range) running))) least,
    ap (λ (o : Option Entry). option_map (λ (found : Entry). whys.Key found.key) o) has.there ∙ ap (λ (k : List ℕ). Some (whys.Key k)) has.key_is,
  )

  without_entry : least_within range runs ≡ None → stop ≡ option_map why_running (find (output_meets n range) running)
  without_entry none = ap (λ (o : Option (List ℕ)). option_or (option_map whys.Key o) (option_map why_running (find (output_meets n range) running))) none

  position_is : (p : Running → Bool) (xs : List Running) (found : Option ℕ) → found ≡ position p xs → find p xs ≡ Rattle.std.specs.Option.option_and_then (λ i. slice_get xs i) found
  position_is p xs found e = find_at p xs ∙ step (cases_lt (position_or_len p xs) (length xs))
    where
      step : Rattle.std.proofs.Common.◌⊎◌ (position_or_len p xs < length xs) (length xs ≤ position_or_len p xs) → slice_get xs (position_or_len p xs) ≡ Rattle.std.specs.Option.option_and_then (λ i. slice_get xs i) found
      step (inl lt) = sym (ap (Rattle.std.specs.Option.option_and_then (λ i. slice_get xs i)) (e ∙ ap (λ b. cond b (Some (position_or_len p xs)) None) (lt-ltb (position_or_len p xs) (length xs) lt)))
      step (inr le) = slice_get_past xs (position_or_len p xs) le
          ∙ sym (ap (Rattle.std.specs.Option.option_and_then (λ i. slice_get xs i)) (e ∙ ap (λ b. cond b (Some (position_or_len p xs)) None) (Rattle.std.proofs.lemmas.Bool.le-ltb (position_or_len p xs) (length xs) le)))

  pub no_stop : least_within range runs ≡ None → None ≡ position (output_meets n range) running → TellsCause levels running None stop
  no_stop none e = without_entry none ∙ ap (option_map why_running) (position_is (output_meets n range) running None e)

  pub at_running : (index : ℕ) → least_within range runs ≡ None → Some index ≡ position (output_meets n range) running → TellsCause levels running (Some (AtRunning index)) stop
  at_running index none e = step (slice_get running index) refl
    where
      found : find (output_meets n range) running ≡ slice_get running index
      found = position_is (output_meets n range) running (Some index) e

      step : (job : Option Running) → slice_get running index ≡ job → TellsCause levels running (Some (AtRunning index)) stop
      step None at =
          let d : Running = record { inputs = []; level = 0; range = range } in
          let parts = Rattle.std.proofs.lemmas.List.Quantifiers.position-Some (output_meets n range) running index d (sym e) in
          absurd (let some : Some (get_or running index d) ≡ None = sym (slice_get-get_or running index d parts.0) ∙ at in cc)
      step (Some job) at = (
        whys.Running job.range,
        without_entry none ∙ ap (option_map why_running) (found ∙ at),
        ap (option_map why_running) at,
      )

-- ---- a step of the walk

module _ (running : List Running) (range : KeyRange) (lowest : ℕ) (levels : List (List (List Entry))) where
  level_more : (n : ℕ) → n < length levels → drop n levels ≡ runs_at_level levels n ∷ drop (n + 1) levels
  level_more n lt = drop_more levels n [] lt ∙ ap (λ (runs : List (List Entry)). runs ∷ drop (n + 1) levels) (sym (unwrap_or-slice_get levels n []))

  -- where nothing stops it
  pub walk_on : (found n next : ℕ) → n < length levels → stop_in running n range (runs_at_level levels n) ≡ None
      → next ≡ cond (nat_le n lowest && is_free_level range (runs_at_level levels n)) n found
      → walk_from running range lowest found n (drop n levels) ≡ walk_from running range lowest next (n + 1) (drop (n + 1) levels)
  walk_on found n next lt none is =
      ap (walk_from running range lowest found n) (level_more n lt)
      ∙ ap (λ (o : Option Why). stopped o found (walk_from running range lowest (cond (nat_le n lowest && is_free_level range (runs_at_level levels n)) n found) (n + 1) (drop (n + 1) levels))) none
      ∙ ap (λ at. walk_from running range lowest at (n + 1) (drop (n + 1) levels)) (sym is)

  pub walk_stops : (found n : ℕ) (why : Why) → n < length levels → stop_in running n range (runs_at_level levels n) ≡ Some why
      → walk_from running range lowest found n (drop n levels) ≡ record { level = found; cause = Some why }
  walk_stops found n why lt some =
      ap (walk_from running range lowest found n) (level_more n lt)
      ∙ ap (λ (o : Option Why). stopped o found (walk_from running range lowest (cond (nat_le n lowest && is_free_level range (runs_at_level levels n)) n found) (n + 1) (drop (n + 1) levels))) some

  pub walk_ends : (found n : ℕ) → length levels ≤ n → walk_from running range lowest found n (drop n levels) ≡ record { level = found; cause = None }
  walk_ends found n le = ap (walk_from running range lowest found n) (drop_all n levels le)
