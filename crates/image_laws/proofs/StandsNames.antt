-- Of a core that stands for a state: names and ids of its families differ.
use Rattle.std.proofs.Common.{◌≡◌, ℕ, suc, ◌<◌, Bool, true, false, cond, List, [], ◌∷◌, map, length, get_or, Some, refl, sym, ap, subst, ◌∙◌, is_eq, arith}
use Rattle.std.specs.Prelude.{AllPairs, IsTrue, ◌==◌}
use Rattle.std.specs.declared.cmp.Ordering.{Ordering}
use Rattle.std.specs.declared.cmp.Ordering.TheVariants.{Less, Equal, Greater}
use Rattle.std.specs.Ordering.{is_lt}
use Rattle.std.specs.List.{AllByRecursion as Each}
use Rattle.std.proofs.lemmas.Bool.{false≢true, eqb-true}
use Rattle.st_base.specs.Bytes.{below, same, bytes_cmp}
use Rattle.st_base.specs.Map.{value_at}
use Rattle.st_base.proofs.Same.{same_is_eq, same_true, same_self}
use Rattle.st_model.specs.declared.state.ModelFamily.{ModelFamily}
use Rattle.st_model.specs.declared.state.ModelState.{ModelState}
use Rattle.base_laws.proofs.Lists.{each_as, each_map, map_each}
use Rattle.base_laws.proofs.Maps.{found_each}
use Rattle.core_laws.proofs.Lists.{pairs_as}
use Rattle.core_model.specs.Relation.{Represents}
use Rattle.core_model.specs.Picture.{Core, FamilyView}
use Rattle.image_laws.proofs.Write.{NamesFamily}
use Rattle.st_order.specs.Columns.{Pairwise}

-- ---- pairs by their places, as pairs along the list

each_of_places : {X : Type 0} (P : X → Type 0) (xs : List X) → ((j : ℕ) (d : X) → j < length xs → P (get_or xs j d)) → Each P xs
each_of_places P [] h = tt
each_of_places P (x ∷ xs) h = (h 0 x (omega arith), each_of_places P xs (λ j d lt. h (suc j) d (omega arith)))

pub pairs_of_places : {X : Type 0} (R : X → X → Type 0) (xs : List X) → AllPairs R xs → Pairwise R xs
pairs_of_places R [] h = tt
pairs_of_places R (x ∷ xs) h = (each_of_places (R x) xs (λ j d lt. h 0 (suc j) d (omega arith) (omega arith)), pairs_of_places R xs (λ i j d lt in'. h (suc i) (suc j) d (omega arith) (omega arith)))

-- ---- byte strings

pub apart_of_below : (a b : List ℕ) → IsTrue (below a b) → same b a ≡ false
apart_of_below a b h = go (same b a) refl
  where
    never : (r : Ordering) → r ≡ Less → is_eq r ≡ true → (same b a ≡ false)
    never Less e f = absurd (false≢true f)
    never Equal e f = absurd (cc e)
    never Greater e f = absurd (cc e)

    less : (r : Ordering) → IsTrue (is_lt r) → r ≡ Less
    less Less k = refl
    less Equal k = absurd (false≢true k)
    less Greater k = absurd (false≢true k)

    go : (t : Bool) → same b a ≡ t → same b a ≡ false
    go false e = e
    go true e = never (bytes_cmp a b) (less (bytes_cmp a b) h) (sym (same_is_eq a b) ∙ ap (same a) (same_true b a e) ∙ same_self a)

-- ---- names and ids

abbrev Apart : List ℕ × ℕ → List ℕ × ℕ → Type 0
Apart one other = (same other.0 one.0 ≡ false) × (one.1 ≡ other.1 → ⊥)

pairs_mapped : {X Y : Type 0} (R : Y → Y → Type 0) (f : X → Y) (xs : List X) → Pairwise (λ x y. R (f x) (f y)) xs → Pairwise R (map f xs)
pairs_mapped R f [] h = tt
pairs_mapped R f (x ∷ xs) h = (each_map (R (f x)) f xs h.0, pairs_mapped R f xs h.1)

pairs_unmapped : {X Y : Type 0} (R : Y → Y → Type 0) (f : X → Y) (xs : List X) → Pairwise R (map f xs) → Pairwise (λ x y. R (f x) (f y)) xs
pairs_unmapped R f [] h = tt
pairs_unmapped R f (x ∷ xs) h = (map_each (R (f x)) f xs h.0, pairs_unmapped R f xs h.1)

pairs_both : {X : Type 0} (R S : X → X → Type 0) (xs : List X) → Pairwise R xs → Pairwise S xs → Pairwise (λ x y. R x y × S x y) xs
pairs_both R S [] h k = tt
pairs_both {X} R S (x ∷ xs) h k = (both xs h.0 k.0, pairs_both R S xs h.1 k.1)
  where
    both : (ys : List X) → Each (R x) ys → Each (S x) ys → Each (λ y. R x y × S x y) ys
    both [] h k = tt
    both (y ∷ ys) h k = ((h.0, k.0), both ys h.1 k.1)

abbrev pub FamiliesApart : List (List ℕ × FamilyView) → Type 0
FamiliesApart families = Pairwise (λ one other. (same other.0 one.0 ≡ false) × (one.1.id ≡ other.1.id → ⊥)) families

pub families_apart : (core : Core) (state : ModelState) → Represents core state → FamiliesApart core.families
families_apart core state stands =
    pairs_unmapped Apart (λ (named : List ℕ × FamilyView). (named.0, named.1.id)) core.families
    (subst (Pairwise Apart) (sym stands.same.families)
    (pairs_mapped Apart (λ (named : List ℕ × ModelFamily). (named.0, named.1.id)) state.families
    (pairs_both (λ (one other : List ℕ × ModelFamily). same other.0 one.0 ≡ false) (λ one other. one.1.id ≡ other.1.id → ⊥) state.families
    (pairs_as (λ (one other : List ℕ × ModelFamily). IsTrue (below one.0 other.0)) (λ one other. same other.0 one.0 ≡ false) (λ one other h. apart_of_below one.0 other.0 h) state.families
    (pairs_of_places (λ (one other : List ℕ × ModelFamily). IsTrue (below one.0 other.0)) state.families stands.sound.names))
    (pairs_of_places (λ (one other : List ℕ × ModelFamily). one.1.id ≡ other.1.id → ⊥) state.families stands.sound.ids))))

-- ids are given
pub ids_given : (core : Core) (state : ModelState) → Represents core state → Each (λ here. here.1.id < core.next_family) core.families
ids_given core state stands =
    map_each (λ (pair : List ℕ × ℕ). pair.1 < core.next_family) (λ (named : List ℕ × FamilyView). (named.0, named.1.id)) core.families
    (subst (Each (λ pair. pair.1 < core.next_family)) (sym stands.same.families)
    (each_map (λ (pair : List ℕ × ℕ). pair.1 < core.next_family) (λ (named : List ℕ × ModelFamily). (named.0, named.1.id)) state.families
    (each_as (λ (named : List ℕ × ModelFamily). named.1.id < state.next_family) (λ named. named.1.id < core.next_family) (λ named h. subst (λ n. named.1.id < n) (sym stands.same.next_family) h) state.families stands.sound.next)))

-- ---- the family of a name

differs : (n m : ℕ) → (n ≡ m → ⊥) → (n == m) ≡ false
differs n m h = go (n == m) refl
  where
    go : (b : Bool) → (n == m) ≡ b → (n == m) ≡ false
    go true e = absurd (h (eqb-true n m e))
    go false e = e

itself : (n : ℕ) → (n == n) ≡ true
itself n = grind arith

-- the family of this name, by its id
pub names_family : (cs : List (List ℕ × FamilyView)) (name : List ℕ) (family : FamilyView) → FamiliesApart cs → value_at cs name ≡ Some family → NamesFamily name family.id cs
names_family [] name family apart e = tt
names_family (c ∷ cs) name family apart e = step (is_eq (bytes_cmp name c.0)) refl e (names_family cs name family apart.1)
  where
    some_is : Some c.1 ≡ Some family → c.1 ≡ family
    some_is e = cc e

    others : (ds : List (List ℕ × FamilyView)) → name ≡ c.0 → c.1 ≡ family → Each (λ other. (same other.0 c.0 ≡ false) × (c.1.id ≡ other.1.id → ⊥)) ds → NamesFamily name family.id ds
    others [] e f h = tt
    others (d ∷ ds) e f h = (ap (same d.0) e ∙ h.0.0 ∙ sym (differs family.id d.1.id (λ g. h.0.1 (ap (λ (v : FamilyView). v.id) f ∙ g))), others ds e f h.1)

    step : (b : Bool) → is_eq (bytes_cmp name c.0) ≡ b → cond b (Some c.1) (value_at cs name) ≡ Some family → (value_at cs name ≡ Some family → NamesFamily name family.id cs) → NamesFamily name family.id (c ∷ cs)
    step true is e rest =
        let here : name ≡ c.0 = same_true name c.0 (same_is_eq name c.0 ∙ is) in
        (ap (same c.0) here ∙ same_self c.0 ∙ sym (ap (λ (v : FamilyView). family.id == v.id) (some_is e) ∙ itself family.id), others cs here (some_is e) apart.0)
    step false is e rest = (turn (same c.0 name) refl ∙ sym (differs family.id c.1.id (λ g. found_each (λ (other : FamilyView). c.1.id ≡ other.id → ⊥) cs name family (each_as (λ (other : List ℕ × FamilyView). (same other.0 c.0 ≡ false) × (c.1.id ≡ other.1.id → ⊥)) (λ other. c.1.id ≡ other.1.id → ⊥) (λ other h. h.1) cs apart.0) e (sym g))), rest e)
      where
        turn : (t : Bool) → same c.0 name ≡ t → same c.0 name ≡ false
        turn false f = f
        turn true f = absurd (false≢true (sym is ∙ sym (same_is_eq name c.0) ∙ ap (same name) (same_true c.0 name f) ∙ same_self name))
