-- One file of a request keeps the whole relation, and what is left of the request.
use Rattle.std.proofs.Common.{◌≡◌, ℕ, ◌+◌, ◌≤◌, Bool, true, false, cond, List, [], ◌∷◌, Option, Some, None, is_some, unwrap_or, refl, sym, ap, ap₂, subst, subst₂, ◌∙◌, inl, inr, arith}
use Rattle.std.specs.Prelude.{◌||◌, ◌==◌}
use Rattle.std.specs.Option.{option_map, option_or, option_and_then}
use Rattle.std.specs.List.{list_any, AllByRecursion as Each}
use Rattle.std.proofs.lemmas.Bool.{false≢true, or_from, or_parts, not-true, not_from_false, ne_eqb}
use Rattle.st_base.specs.Bytes.{same, below}
use Rattle.st_base.specs.Entries.{add_charge}
use Rattle.st_base.specs.Map.{value_at, changed_at}
use Rattle.st_base.specs.declared.entry.KeyRange.{KeyRange}
use Rattle.st_base.proofs.Same.{same_true}
use Rattle.st_model.specs.declared.refusal.Why.{Why}
use Rattle.st_model.specs.declared.state.ModelFamily.{ModelFamily}
use Rattle.st_model.specs.declared.state.ModelState.{ModelState}
use Rattle.st_model.specs.Apply.{apply_file, with_known, with_numbered, with_early, with_behind}
use Rattle.st_base.specs.Range.{meet, key_at_front, file_charge}
use Rattle.st_model.specs.Sound.{IsSound}
use Rattle.st_model.specs.State.{family_of}
use Rattle.base_laws.proofs.Maps.{found_each}
use Rattle.base_laws.proofs.Ranges.{same_range}
use Rattle.core_model.specs.Commit.{put_file, renumbered, RequestFile, Planned, comes_behind, family_at, level_choice, planned_number, plan_by_rule, plan_behind, put_planned, taken_in_plan}
use Rattle.core_model.specs.Level.{is_free_level}
use Rattle.core_model.specs.Picture.{FileEntries, FamilyView, Core, level_at, memories, table_range, put_by_key, all_tables, new_view}
use Rattle.core_model.specs.RelationParts.{IsView}
use Rattle.core_model.specs.Step.{HaveOtherFiles}
use Rattle.core_laws.specs.Underway.{IsReadyToPlace, GoTogether, files_left, IsUnderway, FileKeepsUnderway}
use Rattle.core_laws.proofs.FileChanges.{numbered_changes, early_changes, behind_changes}
use Rattle.core_laws.proofs.FileColumns.{each_append}
use Rattle.core_laws.proofs.FileFields.{behind_last}
use Rattle.core_laws.proofs.FileFresh.{left_fresh}
use Rattle.core_laws.proofs.FileJobs.{each_with, pairs_append}
use Rattle.core_laws.proofs.FileLift.{value_changed, names_rise, kept_there}
use Rattle.core_laws.proofs.FileSound.{file_sound}
use Rattle.core_laws.proofs.FileStands.{Changes, after_file, state_file, lifted}
use Rattle.core_laws.proofs.Members.{pairs_of_all}
use Rattle.st_order.specs.Columns.{Pairwise}
use Rattle.st_order.specs.Least.{least_within}

-- ---- what is left stays ready

free_more : (range : KeyRange) (table : FileEntries) (tables : List FileEntries) → meet (table_range table) range ≡ false → is_free_level range tables ≡ true → is_free_level range (put_by_key table tables) ≡ true
free_more range table tables apart free = not_from_false (list_any (λ one. meet (table_range one) range) (put_by_key table tables)) (none tables (not-true (list_any (λ one. meet (table_range one) range) tables) free))
  where
    none : (some : List FileEntries) → list_any (λ one. meet (table_range one) range) some ≡ false → list_any (λ one. meet (table_range one) range) (put_by_key table some) ≡ false
    none [] e = or_from (meet (table_range table) range) false apart refl
    none (other ∷ some) e = step (below (key_at_front table.entries) (key_at_front other.entries)) (none some (or_parts (meet (table_range other) range) (list_any (λ one. meet (table_range one) range) some) e).1)
      where
        step : (b : Bool) → list_any (λ one. meet (table_range one) range) (put_by_key table some) ≡ false → list_any (λ one. meet (table_range one) range) (cond b (table ∷ other ∷ some) (other ∷ put_by_key table some)) ≡ false
        step true rest = or_from (meet (table_range table) range) (list_any (λ one. meet (table_range one) range) (other ∷ some)) apart e
        step false rest = or_from (meet (table_range other) range) (list_any (λ one. meet (table_range one) range) (put_by_key table some)) (or_parts (meet (table_range other) range) (list_any (λ one. meet (table_range one) range) some) e).0 rest

module _ (core : Core) (state : ModelState) (wanted : RequestFile) (rest : List RequestFile) (under : IsUnderway core state (wanted ∷ rest)) where
  name : List ℕ
  name = wanted.part.family

  module _ (level number more : ℕ) (change : ModelFamily → ModelFamily) (at_six : comes_behind wanted.part ≡ true → (level ≡ 6) × (number ≡ 0)) where
    abbrev after : Core
    after = after_file core state wanted.part.family level number more wanted.table change

    ready_after : (other : RequestFile) → GoTogether wanted other → IsReadyToPlace core other → IsReadyToPlace after other
    ready_after other together ready = record {
      there = ap is_some (value_changed wanted.part.family (put_file level number wanted.table) core.families other.part.family) ∙ stays_there (value_at core.families other.part.family) (same other.part.family wanted.part.family) ∙ ready.there;
      staged = ready.staged;
      memory = λ not_behind. ap (option_and_then (λ (family : FamilyView). least_within (table_range other.table) (memories family))) (value_changed wanted.part.family (put_file level number wanted.table) core.families other.part.family)
          ∙ same_memory (value_at core.families other.part.family) (same other.part.family wanted.part.family) ∙ ready.memory not_behind;
      flag = ready.flag;
      fits = λ behind. subst (λ found. is_free_level (table_range other.table) (level_at (unwrap_or found (new_view 0)) 6) ≡ true)
          (sym (value_changed wanted.part.family (put_file level number wanted.table) core.families other.part.family))
          (fits_after behind (value_at core.families other.part.family) refl (same other.part.family wanted.part.family) refl);
    }
      where
        stays_there : (found : Option FamilyView) (b : Bool) → is_some (option_map (λ x. cond b (put_file level number wanted.table x) x) found) ≡ is_some found
        stays_there None b = refl
        stays_there (Some family) b = refl

        same_memory : (found : Option FamilyView) (b : Bool) → option_and_then (λ (family : FamilyView). least_within (table_range other.table) (memories family)) (option_map (λ x. cond b (put_file level number wanted.table x) x) found)
            ≡ option_and_then (λ (family : FamilyView). least_within (table_range other.table) (memories family)) found
        same_memory None b = refl
        same_memory (Some family) true = refl
        same_memory (Some family) false = refl

        view_of : (family : FamilyView) → value_at core.families other.part.family ≡ Some family → is_free_level (table_range other.table) (level_at family 6) ≡ true → IsView family → comes_behind other.part ≡ true → same other.part.family wanted.part.family ≡ true
            → is_free_level (table_range other.table) (level_at (put_file level number wanted.table family) 6) ≡ true
        view_of family found free view behind at =
            let e : wanted.part.family ≡ other.part.family = sym (same_true other.part.family wanted.part.family at) in
            let kind : comes_behind wanted.part ≡ true = together.kind e ∙ behind in
            let six = at_six kind in
            subst₂ (λ l n. is_free_level (table_range other.table) (level_at (put_file l n wanted.table family) 6) ≡ true) (sym six.0) (sym six.1)
            (subst (λ tables. is_free_level (table_range other.table) tables ≡ true) (sym (behind_last family wanted.table view))
            (free_more (table_range other.table) (renumbered 0 wanted.table) (level_at family 6) (subst (λ range. meet range (table_range other.table) ≡ false) (sym (same_range 0 wanted.table.entries)) (together.apart e kind)) free))

        fits_after : comes_behind other.part ≡ true → (found : Option FamilyView) → value_at core.families other.part.family ≡ found → (b : Bool) → same other.part.family wanted.part.family ≡ b
            → is_free_level (table_range other.table) (level_at (unwrap_or (option_map (λ x. cond b (put_file level number wanted.table x) x) found) (new_view 0)) 6) ≡ true
        fits_after behind None is b at = refl
        fits_after behind (Some family) is false at = subst (λ found. is_free_level (table_range other.table) (level_at (unwrap_or found (new_view 0)) 6) ≡ true) is (ready.fits behind)
        fits_after behind (Some family) is true at =
            view_of family is (subst (λ found. is_free_level (table_range other.table) (level_at (unwrap_or found (new_view 0)) 6) ≡ true) is (ready.fits behind))
            (found_each IsView core.families other.part.family family under.stands.views is) behind at

    rise : Pairwise (λ one other. below one.0 other.0 ≡ true) core.families
    rise = names_rise core.families state.families under.stands.same.families (pairs_of_all (λ one other. below one.0 other.0 ≡ true) state.families under.stands.sound.names)

    underway : core.last ≤ more → ((kept : ModelFamily) → (change kept).id ≡ kept.id)
        → ((family : FamilyView) (kept : ModelFamily) → value_at core.families wanted.part.family ≡ Some family → family_of state wanted.part.family ≡ Some kept → Changes core state wanted.part.family level number more wanted.table change family kept)
        → IsSound (state_file core state wanted.part.family level number more wanted.table change)
        → IsUnderway after (state_file core state wanted.part.family level number more wanted.table change) rest
    underway up same_id changes sound =
        let left = left_fresh wanted.part.family level number wanted.table rest core.families rise under.fresh in
        record {
          stands = lifted core state wanted.part.family level number more wanted.table change under.stands under.turn up same_id changes
              (λ family here. kept_there core.families state.families wanted.part.family family under.stands.same.families here)
              (pairs_append HaveOtherFiles (files_left rest) (all_tables after) left).1 sound;
          turn = under.turn;
          fresh = left;
          ready = each_with (GoTogether wanted) (IsReadyToPlace core) (IsReadyToPlace after) rest ready_after under.together.0 under.ready.1;
          together = under.together.1;
        }

  -- ---- the three kinds of files

  ready : IsReadyToPlace core wanted
  ready = under.ready.0

  fresh : Each (HaveOtherFiles wanted.table) (all_tables core)
  fresh = (each_append (HaveOtherFiles wanted.table) (files_left rest) (all_tables core) under.fresh.0).1

  the_family : (found : Option FamilyView) → value_at core.families wanted.part.family ≡ found → is_some found ≡ true → (family : FamilyView) × (value_at core.families wanted.part.family ≡ Some family)
  the_family None is there = absurd (false≢true there)
  the_family (Some family) is there = (family, is)

  here : (family : FamilyView) × (value_at core.families wanted.part.family ≡ Some family)
  here = the_family (value_at core.families wanted.part.family) refl ready.there

  at_here : (family : FamilyView) → value_at core.families wanted.part.family ≡ Some family → family_at core wanted.part.family ≡ family
  at_here family is = ap (λ found. unwrap_or found (new_view 0)) is

  -- the core's and the model's last number are one
  same_last : core.last ≡ state.last
  same_last = under.stands.same.last

  -- behind
  behind_file : comes_behind wanted.part ≡ true → IsUnderway (put_planned core (plan_behind wanted)) (apply_file state (taken_in_plan (plan_behind wanted))) rest
  behind_file behind =
      subst (λ one. IsUnderway (put_planned core (plan_behind wanted)) one rest) same_state
      (underway 6 0 core.last change (λ is. (refl, refl)) (omega arith) (λ kept. refl)
      (λ family kept is there. behind_changes core state under.stands wanted.part.family family kept is there wanted.table ready.staged fresh (ready.flag behind)
      (subst (λ one. is_free_level (table_range wanted.table) (level_at one 6) ≡ true) (at_here family is) (ready.fits behind)))
      (subst IsSound (sym same_state) (file_sound state (taken_in_plan (plan_behind wanted)) under.stands.sound (λ _. sym under.stands.same.behind ∙ ready.flag behind) (inl refl))))
    where
      change : ModelFamily → ModelFamily
      change one = with_known wanted.table.entries (with_behind wanted.table.entries one)

      state_with : ℕ → Bool → ModelState
      state_with last b = record state {
        last = cond (b || true) last 0;
        charge = add_charge state.charge (file_charge wanted.table.entries);
        families = changed_at state.families wanted.part.family (λ one. with_known wanted.table.entries (cond b (with_behind wanted.table.entries one) (with_early wanted.table.entries one)));
      }

      same_state : state_file core state wanted.part.family 6 0 core.last wanted.table change ≡ apply_file state (taken_in_plan (plan_behind wanted))
      same_state = ap₂ state_with same_last (sym behind)

  -- of the rule's level
  the_view : FamilyView
  the_view = family_at core wanted.part.family

  here_view : value_at core.families wanted.part.family ≡ Some (family_at core wanted.part.family)
  here_view = here.1 ∙ ap Some (sym (at_here here.0 here.1))

  memory_view : comes_behind wanted.part ≡ false → least_within (table_range wanted.table) (memories (family_at core wanted.part.family)) ≡ None
  memory_view not_behind = sym (ap (option_and_then (λ (family : FamilyView). least_within (table_range wanted.table) (memories family))) here_view) ∙ ready.memory not_behind

  abbrev with_this : ℕ → Planned
  with_this number = record {
    wanted = wanted;
    level = (level_choice core wanted).level;
    why = option_or wanted.sure (level_choice core wanted).cause;
    number = number;
    high = (plan_by_rule core wanted).high;
  }

  abbrev state_rule : ℕ → ℕ → Bool → Bool → ModelState
  state_rule number last b z = record state {
    last = cond (b || z) last number;
    charge = add_charge state.charge (file_charge wanted.table.entries);
    families = changed_at state.families wanted.part.family (λ one. with_known wanted.table.entries (cond b (with_behind wanted.table.entries one) (cond z (with_early wanted.table.entries one) (with_numbered number wanted.table.entries one))));
  }

  early_file : comes_behind wanted.part ≡ false → (level_choice core wanted).cause ≡ None → IsUnderway (put_planned core (with_this 0)) (apply_file state (taken_in_plan (with_this 0))) rest
  early_file not_behind cause =
      subst (λ one. IsUnderway (put_planned core (with_this 0)) one rest) same_state
      (underway (level_choice core wanted).level 0 core.last change (λ is. absurd (false≢true (sym not_behind ∙ is))) (omega arith) (λ kept. refl)
      (λ family kept is there. subst (λ one. Changes core state wanted.part.family (level_choice core wanted).level 0 core.last wanted.table change one kept) (at_here family is)
      (early_changes core state under.stands wanted.part.family (family_at core wanted.part.family) kept here_view there wanted.table ready.staged fresh (memory_view not_behind) cause))
      (subst IsSound (sym same_state) (file_sound state (taken_in_plan (with_this 0)) under.stands.sound (λ is. absurd (false≢true (sym not_behind ∙ is))) (inl refl))))
    where
      change : ModelFamily → ModelFamily
      change one = with_known wanted.table.entries (with_early wanted.table.entries one)

      same_state : state_file core state wanted.part.family (level_choice core wanted).level 0 core.last wanted.table change ≡ apply_file state (taken_in_plan (with_this 0))
      same_state = ap₂ (λ last b. state_rule 0 last b true) same_last (sym not_behind)

  numbered_file : comes_behind wanted.part ≡ false → IsUnderway (put_planned core (with_this (core.last + 1))) (apply_file state (taken_in_plan (with_this (core.last + 1)))) rest
  numbered_file not_behind =
      subst₂ (λ one other. IsUnderway one other rest) same_core same_state
      (underway (level_choice core wanted).level (core.last + 1) (core.last + 1) change (λ is. absurd (false≢true (sym not_behind ∙ is))) (omega arith) (λ kept. refl)
      (λ family kept is there. subst (λ one. Changes core state wanted.part.family (level_choice core wanted).level (core.last + 1) (core.last + 1) wanted.table change one kept) (at_here family is)
      (numbered_changes core state under.stands wanted.part.family (family_at core wanted.part.family) kept here_view there wanted.table ready.staged fresh (memory_view not_behind)))
      (subst IsSound (sym same_state) (file_sound state (taken_in_plan (with_this (core.last + 1))) under.stands.sound (λ is. absurd (false≢true (sym not_behind ∙ is))) (inr (ap (λ last. last + 1) same_last)))))
    where
      change : ModelFamily → ModelFamily
      change one = with_known wanted.table.entries (with_numbered (core.last + 1) wanted.table.entries one)

      not_zero : ((core.last + 1) == 0) ≡ false
      not_zero = ne_eqb (core.last + 1) 0 (λ e. absurd (omega arith))

      same_state : state_file core state wanted.part.family (level_choice core wanted).level (core.last + 1) (core.last + 1) wanted.table change ≡ apply_file state (taken_in_plan (with_this (core.last + 1)))
      same_state = ap₂ (λ b z. state_rule (core.last + 1) state.last b z) (sym not_behind) (sym not_zero)

      core_rule : Bool → Core
      core_rule z = record core {
        last = cond z core.last (core.last + 1);
        charge = add_charge core.charge (file_charge wanted.table.entries);
        families = changed_at core.families wanted.part.family (put_file (level_choice core wanted).level (core.last + 1) wanted.table);
      }

      same_core : after_file core state wanted.part.family (level_choice core wanted).level (core.last + 1) (core.last + 1) wanted.table change ≡ put_planned core (with_this (core.last + 1))
      same_core = ap core_rule (sym not_zero)

  rule_file : comes_behind wanted.part ≡ false → IsUnderway (put_planned core (plan_by_rule core wanted)) (apply_file state (taken_in_plan (plan_by_rule core wanted))) rest
  rule_file not_behind = kind (option_or wanted.sure (level_choice core wanted).cause) refl
    where
      no_cause : (sure cause : Option Why) → option_or sure cause ≡ None → cause ≡ None
      no_cause None cause e = e
      no_cause (Some why) cause e = absurd cc

      kind : (why : Option Why) → option_or wanted.sure (level_choice core wanted).cause ≡ why
          → IsUnderway (put_planned core (with_this (planned_number core.last why))) (apply_file state (taken_in_plan (with_this (planned_number core.last why)))) rest
      kind None is = early_file not_behind (no_cause wanted.sure (level_choice core wanted).cause is)
      kind (Some why) is = numbered_file not_behind

  any_file : (b : Bool) → comes_behind wanted.part ≡ b → IsUnderway (put_planned core (cond b (plan_behind wanted) (plan_by_rule core wanted))) (apply_file state (taken_in_plan (cond b (plan_behind wanted) (plan_by_rule core wanted)))) rest
  any_file true behind = behind_file behind
  any_file false not_behind = rule_file not_behind

pub file_keeps_underway : FileKeepsUnderway
file_keeps_underway core state wanted rest under = any_file core state wanted rest under (comes_behind wanted.part) refl
