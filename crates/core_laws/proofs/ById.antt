-- The family of an id is found once and changed at its name: that is the change of each family with that id.
use Rattle.std.proofs.Common.{◌≡◌, ℕ, Bool, true, false, cond, ◌||◌, List, [], ◌∷◌, map, Option, Some, None, refl, sym, ap, subst, ◌∙◌}
use Rattle.std.specs.Prelude.{◌==◌, find}
use Rattle.std.specs.List.{list_any, AllByRecursion as Each}
use Rattle.std.specs.Ordering.{is_eq}
use Rattle.std.proofs.lemmas.Bool.{false≢true, eqb-true}
use Rattle.st_base.specs.Bytes.{bytes_cmp, same}
use Rattle.st_base.specs.Map.{changed_at}
use Rattle.st_base.proofs.Same.{same_self, same_true}
use Rattle.base_laws.proofs.Keys.{at_is}
use Rattle.base_laws.proofs.Lists.{each_as}
use Rattle.st_order.specs.Columns.{Pairwise}
use Rattle.core_model.specs.Picture.{Core, FamilyView, Job}
use Rattle.core_model.specs.Step.{changed_found, family_of_job, installed, without_job}
use Rattle.core_laws.proofs.NamedLists.{NamesDiffer}

abbrev pub ViewPair : Type 0
ViewPair = List ℕ × FamilyView

abbrev pub IdsApart : List ViewPair → Type 0
IdsApart families = Pairwise (λ one other. one.1.id ≡ other.1.id → ⊥) families

-- each family with the id changed
abbrev pub changed_id : ℕ → (FamilyView → FamilyView) → List ViewPair → List ViewPair
changed_id id change families = map (λ named. (named.0, cond (named.1.id == id) (change named.1) named.1)) families

abbrev pub installed_by_id : Core → Job → (FamilyView → FamilyView) → Core
installed_by_id core job change = record core { families = changed_id job.family change core.families; jobs = without_job job.number core.jobs }

-- ---- names

differs : (one other : List ℕ) → is_eq (bytes_cmp other one) ≡ false → same other one ≡ false
differs one other e = go (same other one) refl
  where
    go : (b : Bool) → same other one ≡ b → same other one ≡ false
    go false h = h
    go true h = absurd (false≢true (sym e ∙ at_is other one ∙ ap (λ k. same one k) (same_true other one h) ∙ same_self one))

-- ---- where no family has the id or the name

none_by_id : (id : ℕ) (change : FamilyView → FamilyView) (families : List ViewPair) → Each (λ (named : ViewPair). (named.1.id == id) ≡ false) families → changed_id id change families ≡ families
none_by_id id change [] h = refl
none_by_id id change (f ∷ fs) h =
    ap (λ b. (f.0, cond b (change f.1) f.1) ∷ changed_id id change fs) h.0 ∙ ap (λ (rest : List ViewPair). f ∷ rest) (none_by_id id change fs h.1)

none_by_name : (name : List ℕ) (change : FamilyView → FamilyView) (families : List ViewPair) → Each (λ (named : ViewPair). same named.0 name ≡ false) families → changed_at families name change ≡ families
none_by_name name change [] h = refl
none_by_name name change (f ∷ fs) h =
    ap (λ b. (f.0, cond b (change f.1) f.1) ∷ changed_at fs name change) h.0 ∙ ap (λ (rest : List ViewPair). f ∷ rest) (none_by_name name change fs h.1)

none_found : (id : ℕ) (families : List ViewPair) → find (λ (named : ViewPair). named.1.id == id) families ≡ None → Each (λ (named : ViewPair). (named.1.id == id) ≡ false) families
none_found id [] h = tt
none_found id (f ∷ fs) h = step (f.1.id == id) refl h (none_found id fs)
  where
    step : (b : Bool) → (f.1.id == id) ≡ b → cond b (Some f) (find (λ (named : ViewPair). named.1.id == id) fs) ≡ None
        → (find (λ (named : ViewPair). named.1.id == id) fs ≡ None → Each (λ (named : ViewPair). (named.1.id == id) ≡ false) fs) → Each (λ (named : ViewPair). (named.1.id == id) ≡ false) (f ∷ fs)
    step true e none rest = absurd cc
    step false e none rest = (e, rest none)

pub not_found : (id : ℕ) (families : List ViewPair) → list_any (λ (named : ViewPair). named.1.id == id) families ≡ false → find (λ (named : ViewPair). named.1.id == id) families ≡ None
not_found id [] h = refl
not_found id (f ∷ fs) h = step (f.1.id == id) h (not_found id fs)
  where
    step : (b : Bool) → (b || list_any (λ (named : ViewPair). named.1.id == id) fs) ≡ false → (list_any (λ (named : ViewPair). named.1.id == id) fs ≡ false → find (λ (named : ViewPair). named.1.id == id) fs ≡ None)
        → cond b (Some f) (find (λ (named : ViewPair). named.1.id == id) fs) ≡ None
    step true e rest = absurd (false≢true (sym e))
    step false e rest = rest e

-- ---- the family of the id is the one of its name

other_id : (one other : FamilyView) (id : ℕ) → (one.id == id) ≡ true → (one.id ≡ other.id → ⊥) → (other.id == id) ≡ false
other_id one other id here differ = step (other.id == id) refl
  where
    step : (b : Bool) → (other.id == id) ≡ b → (other.id == id) ≡ false
    step false e = e
    step true e = absurd (differ (eqb-true one.id id here ∙ sym (eqb-true other.id id e)))

each_found : (P : ViewPair → Type 0) (test : ViewPair → Bool) (xs : List ViewPair) (x : ViewPair) → Each P xs → find test xs ≡ Some x → P x
each_found P test [] x h e = absurd cc
each_found P test (y ∷ ys) x h e = step (test y) e (each_found P test ys x h.1)
  where
    step : (b : Bool) → cond b (Some y) (find test ys) ≡ Some x → (find test ys ≡ Some x → P x) → P x
    step true e rest = let here : y ≡ x = cc in subst P here h.0
    step false e rest = rest e

back : (one other : List ℕ) → same other one ≡ false → same one other ≡ false
back one other h = step (same one other) refl
  where
    step : (b : Bool) → same one other ≡ b → same one other ≡ false
    step false e = e
    step true e = absurd (false≢true (sym h ∙ ap (λ k. same other k) (same_true one other e) ∙ same_self other))

found_by_name : (id : ℕ) (change : FamilyView → FamilyView) (families : List ViewPair) (found : ViewPair) → NamesDiffer families → IdsApart families
    → find (λ (named : ViewPair). named.1.id == id) families ≡ Some found → changed_id id change families ≡ changed_at families found.0 change
found_by_name id change [] found names ids e = refl
found_by_name id change (f ∷ fs) found names ids e = step (f.1.id == id) refl e (found_by_name id change fs found names.1 ids.1)
  where
    later : Each (λ (named : ViewPair). same named.0 f.0 ≡ false) fs
    later = each_as (λ (named : ViewPair). is_eq (bytes_cmp named.0 f.0) ≡ false) (λ (named : ViewPair). same named.0 f.0 ≡ false) (λ named h. differs f.0 named.0 h) fs names.0

    step : (b : Bool) → (f.1.id == id) ≡ b → cond b (Some f) (find (λ (named : ViewPair). named.1.id == id) fs) ≡ Some found
        → (find (λ (named : ViewPair). named.1.id == id) fs ≡ Some found → changed_id id change fs ≡ changed_at fs found.0 change) → changed_id id change (f ∷ fs) ≡ changed_at (f ∷ fs) found.0 change
    step true here is rest =
        let it : f ≡ found = cc in
        subst (λ (one : ViewPair). changed_id id change (f ∷ fs) ≡ changed_at (f ∷ fs) one.0 change) it
        (ap (λ b. (f.0, cond b (change f.1) f.1) ∷ changed_id id change fs) here
        ∙ ap (λ (rest : List ViewPair). (f.0, change f.1) ∷ rest)
        (none_by_id id change fs (each_as (λ (named : ViewPair). f.1.id ≡ named.1.id → ⊥) (λ (named : ViewPair). (named.1.id == id) ≡ false) (λ named differ. other_id f.1 named.1 id here differ) fs ids.0)
        ∙ sym (none_by_name f.0 change fs later))
        ∙ sym (ap (λ b. (f.0, cond b (change f.1) f.1) ∷ changed_at fs f.0 change) (same_self f.0)))
    step false here is rest =
        let apart : same f.0 found.0 ≡ false = back f.0 found.0 (each_found (λ (named : ViewPair). same named.0 f.0 ≡ false) (λ (named : ViewPair). named.1.id == id) fs found later is) in
        ap (λ b. (f.0, cond b (change f.1) f.1) ∷ changed_id id change fs) here
        ∙ ap (λ (more : List ViewPair). (f.0, f.1) ∷ more) (rest is)
        ∙ sym (ap (λ b. (f.0, cond b (change f.1) f.1) ∷ changed_at fs found.0 change) apart)

families_same : (core : Core) (job : Job) (change : FamilyView → FamilyView) → NamesDiffer core.families → IdsApart core.families
    → changed_found (family_of_job core job) change core.families ≡ changed_id job.family change core.families
families_same core job change names ids = step (family_of_job core job) refl
  where
    step : (found : Option ViewPair) → family_of_job core job ≡ found → changed_found found change core.families ≡ changed_id job.family change core.families
    step None is = sym (none_by_id job.family change core.families (none_found job.family core.families is))
    step (Some named) is = sym (found_by_name job.family change core.families named names ids is)

-- an installation at a name is that by the id
pub installed_same : (core : Core) (job : Job) (change : FamilyView → FamilyView) → NamesDiffer core.families → IdsApart core.families → installed core job change ≡ installed_by_id core job change
installed_same core job change names ids =
    ap (λ (families : List ViewPair). record core { families = families; jobs = without_job job.number core.jobs }) (families_same core job change names ids)
