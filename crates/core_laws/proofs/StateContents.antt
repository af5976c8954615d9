-- The contents of what readers see are those of each state that it stands for.
use Rattle.std.proofs.Common.{◌≡◌, ℕ, Bool, true, false, List, [], ◌∷◌, map, None, refl, sym, ap, ap₂, subst, ◌∙◌}
use Rattle.st_base.specs.declared.entry.Entry.{Entry}
use Rattle.st_model.specs.Contents.{as_entry, contents_of_family, opened, sorted_ranges}
use Rattle.st_model.specs.declared.contents.Contents.{Contents}
use Rattle.core_model.specs.Crash.{known_keys}
use Rattle.core_laws.proofs.OfState.{state_stands}
use Rattle.st_model.specs.Sound.{KeysRise}
use Rattle.st_model.specs.declared.contents.ContentsFamily.{ContentsFamily}
use Rattle.st_model.specs.declared.state.ModelFamily.{ModelFamily}
use Rattle.st_model.specs.declared.state.ModelState.{ModelState}
use Rattle.st_model.specs.declared.state.Snapshot.{Snapshot}
use Rattle.core_model.specs.Picture.{Core, FamilyView}
use Rattle.core_model.specs.StatePicture.{StateIsOpened, state_of, StateHasContents, StatePicture, state_contents_of, state_ranges}
use Rattle.core_laws.proofs.FamilyPair.{Pair, ids_zip, pairs_of_state}
use Rattle.core_laws.proofs.NamedLists.{Zipped, zip_both, zip_right, zip_to}
use Rattle.core_laws.proofs.ReopenedFamily.{charged_alike}

-- a family beside the model's, with what its contents need
abbrev Beside : Bool → ℕ → List ℕ → FamilyView → ModelFamily → Type 0
Beside behind last live family kept = Pair behind last live family kept × (KeysRise kept.base × (behind ≡ false → kept.ranges ≡ []))

ranges_alike : (behind b : Bool) (last : ℕ) (live : List ℕ) (family : FamilyView) (kept : ModelFamily) → behind ≡ b → Beside behind last live family kept → state_ranges b family ≡ sorted_ranges kept.ranges
ranges_alike behind true last live family kept is beside = beside.0.ranges is
ranges_alike behind false last live family kept is beside = ap sorted_ranges (sym (beside.1.1 is))

contents_alike : (behind : Bool) (last : ℕ) (live : List ℕ) (families : List (List ℕ × FamilyView)) (kept : List (List ℕ × ModelFamily)) → Zipped (Beside behind last live) families kept
    → map (state_contents_of behind) families ≡ map (contents_of_family behind) kept
contents_alike behind last live [] [] zip = refl
contents_alike behind last live [] (k ∷ kept) zip = absurd zip
contents_alike behind last live (f ∷ families) [] zip = absurd zip
contents_alike behind last live (f ∷ families) (k ∷ kept) zip =
    ap₂ (λ (one : ContentsFamily) (more : List ContentsFamily). one ∷ more) family_alike (contents_alike behind last live families kept zip.1)
  where
    beside : Beside behind last live f.1 k.1
    beside = zip.0.1

    marks : List Entry
    marks = (contents_of_family behind k).marks

    family_alike : state_contents_of behind f ≡ contents_of_family behind k
    family_alike = λ i. record {
      id = beside.0.id i;
      name = zip.0.0 i;
      marks = map as_entry (charged_alike behind last live f.1 k.1 beside.0 beside.1.0 i);
      ranges = ranges_alike behind behind last live f.1 k.1 refl beside i;
    }

-- a core that readers see so
abbrev seen_core : StatePicture → ℕ → ModelState → Core
seen_core picture place state = record {
  behind = picture.behind;
  capacity = 0;
  place = place;
  last = picture.last;
  charge = picture.charge;
  families = picture.families;
  next_family = state.next_family;
  live = picture.live;
  jobs = [];
  jobs_made = 0;
  turn = None;
}

pub state_has_contents : StateHasContents
state_has_contents picture place state stands =
    ap₂ (λ (last : ℕ) (behind : Bool). record { last = last; behind = behind; families = map (state_contents_of behind) picture.families }) stands.same.last stands.same.behind
    ∙ ap (λ (families : List ContentsFamily). record { last = state.last; behind = state.behind; families = families }) (contents_alike state.behind picture.last live picture.families state.families besides)
  where
    live : List ℕ
    live = map (λ (snapshot : Snapshot). snapshot.number) picture.live

    pairs : Zipped (Pair picture.behind picture.last live) picture.families state.families
    pairs = pairs_of_state (seen_core picture place state) state
        (record { place = stands.same.at; last = stands.same.last; charge = stands.same.charge; behind = stands.same.behind; families = stands.same.families; next_family = refl; live = stands.same.live })
        stands

    sound_each : Zipped (λ (family : FamilyView) (kept : ModelFamily). KeysRise kept.base) picture.families state.families
    sound_each = zip_to (λ (family : FamilyView) (kept : ModelFamily). KeysRise kept.base × (family.id ≡ kept.id)) (λ family kept. KeysRise kept.base) (λ family kept h. h.0) picture.families state.families
        (zip_right (λ (kept : ModelFamily). KeysRise kept.base) (λ (family : FamilyView) (kept : ModelFamily). family.id ≡ kept.id) picture.families state.families stands.sound.bases (ids_zip picture.families state.families stands.same.families))

    ranged_each : (b : Bool) → state.behind ≡ b → Zipped (λ (family : FamilyView) (kept : ModelFamily). state.behind ≡ false → kept.ranges ≡ []) picture.families state.families
    ranged_each true is = zip_to (λ (family : FamilyView) (kept : ModelFamily). family.id ≡ kept.id) (λ family kept. state.behind ≡ false → kept.ranges ≡ []) (λ family kept h off. absurd (let w : true ≡ false = sym is ∙ off in cc)) picture.families state.families (ids_zip picture.families state.families stands.same.families)
    ranged_each false is = zip_to (λ (family : FamilyView) (kept : ModelFamily). (kept.ranges ≡ []) × (family.id ≡ kept.id)) (λ family kept. state.behind ≡ false → kept.ranges ≡ []) (λ family kept h off. h.0) picture.families state.families
        (zip_right (λ (kept : ModelFamily). kept.ranges ≡ []) (λ (family : FamilyView) (kept : ModelFamily). family.id ≡ kept.id) picture.families state.families (stands.sound.unranged is) (ids_zip picture.families state.families stands.same.families))

    besides : Zipped (Beside state.behind picture.last live) picture.families state.families
    besides = zip_both (Pair state.behind picture.last live) (λ (family : FamilyView) (kept : ModelFamily). KeysRise kept.base × (state.behind ≡ false → kept.ranges ≡ [])) picture.families state.families
        (subst (λ b. Zipped (Pair b picture.last live) picture.families state.families) stands.same.behind pairs)
        (zip_both (λ (family : FamilyView) (kept : ModelFamily). KeysRise kept.base) (λ (family : FamilyView) (kept : ModelFamily). state.behind ≡ false → kept.ranges ≡ []) picture.families state.families sound_each (ranged_each state.behind refl))

pub state_is_opened : StateIsOpened
state_is_opened core state first stands =
    ap (λ (found : Contents). opened found (known_keys core)) (sym (state_has_contents (state_of core) core.place state (state_stands core state stands)))
