-- What right edits keep of a manifest is what its first group asks for.
use Rattle.std.proofs.Common.{◌≡◌, ℕ, Bool, true, false, ◌||◌, List, [], ◌∷◌, ◌++◌, flat_map, reverse, refl, sym, ap, subst, ◌∙◌}
use Rattle.std.specs.Prelude.{IsTrue, ◌==◌}
use Rattle.std.specs.declared.cmp.Ordering.{Ordering}
use Rattle.std.specs.declared.cmp.Ordering.TheVariants.{Less, Equal, Greater}
use Rattle.std.specs.Ordering.{is_lt, ordering_reverse}
use Rattle.std.specs.List.{list_any, AllByRecursion as Each}
use Rattle.std.proofs.lemmas.Bool.{false≢true, eqb-true}
use Rattle.std.proofs.lemmas.Cmp.{nat_list_cmp_total}
use Rattle.std.proofs.lemmas.List.{reverse-append}
use Rattle.st_base.specs.Bytes.{below, bytes_cmp}
use Rattle.base_laws.proofs.Lists.{each_as, each_back, each_front, each_join}
use Rattle.core_laws.proofs.Lists.{pairs_back, pairs_front, pairs_join}
use Rattle.manifest_edits.specs.Edits.{Placement, NamedFamily, Named, has_id, is_file, may_place}
use Rattle.store_image.specs.Recover.{IsNamed}
use Rattle.image_laws.proofs.Lists.{flat_append}
use Rattle.image_laws.proofs.RightEdits.{differ as differ_turned}
use Rattle.image_laws.proofs.StandsNames.{pairs_of_places}
use Rattle.store_image.specs.Calls.{AreNextFamilies}
use Rattle.st_order.specs.Columns.{Pairwise}

-- ---- lists

each_turned : {X : Type 0} (P : X → Type 0) (xs : List X) → Each P xs → Each P (reverse xs)
each_turned P [] h = tt
each_turned P (x ∷ xs) h = subst (Each P) (sym (reverse-append (x ∷ []) xs)) (each_join P (reverse xs) (x ∷ []) (each_turned P xs h.1) (h.0, tt))

one_each : {X : Type 0} (R : X → X → Type 0) (x : X) (xs : List X) → Each (λ y. R y x) xs → Each (λ y. Each (R y) (x ∷ [])) xs
one_each R x [] h = tt
one_each R x (y ∷ xs) h = ((h.0, tt), one_each R x xs h.1)

pairs_turned : {X : Type 0} (R : X → X → Type 0) → ((x y : X) → R x y → R y x) → (xs : List X) → Pairwise R xs → Pairwise R (reverse xs)
pairs_turned R swap [] h = tt
pairs_turned R swap (x ∷ xs) h =
    subst (Pairwise R) (sym (reverse-append (x ∷ []) xs))
    (pairs_join R (reverse xs) (x ∷ []) (pairs_turned R swap xs h.1) (tt, tt) (one_each R x (reverse xs) (each_turned (λ y. R y x) xs (each_as (R x) (λ y. R y x) (swap x) xs h.0))))

-- what is in front of one, beside it
before_one : {X : Type 0} (R : X → X → Type 0) (done : List X) (x : X) (more : List X) → Pairwise R (done ++ x ∷ more) → Each (λ y. R y x) done
before_one R [] x more h = tt
before_one R (y ∷ done) x more h = ((each_back (R y) done (x ∷ more) h.0).0, before_one R done x more h.1)

-- each of the second beside all of the first
across : {X : Type 0} (R : X → X → Type 0) (xs ys : List X) → Pairwise R (xs ++ ys) → Each (λ y. Each (λ x. R x y) xs) ys
across {X} R [] ys h = nothing ys
  where
    nothing : (ys : List X) → Each (λ y. Each (λ x. R x y) []) ys
    nothing [] = tt
    nothing (y ∷ ys) = (tt, nothing ys)
across {X} R (x ∷ xs) ys h = both ys (each_back (R x) xs ys h.0) (across R xs ys h.1)
  where
    both : (ys : List X) → Each (R x) ys → Each (λ y. Each (λ x. R x y) xs) ys → Each (λ y. Each (λ x. R x y) (x ∷ xs)) ys
    both [] a b = tt
    both (y ∷ ys) a b = ((a.0, b.0), both ys a.1 b.1)

-- ---- the parts of IsNext

greater : (a b : List ℕ) → IsTrue (below b a) → bytes_cmp a b ≡ Greater
greater a b h = nat_list_cmp_total.antisymm a b ∙ ap ordering_reverse (less (bytes_cmp b a) h)
  where
    less : (r : Ordering) → IsTrue (is_lt r) → r ≡ Less
    less Less k = refl
    less Equal k = absurd (false≢true k)
    less Greater k = absurd (false≢true k)

differs : (n m : ℕ) → (n ≡ m → ⊥) → (n == m) ≡ false
differs n m h = go (n == m) refl
  where
    go : (b : Bool) → (n == m) ≡ b → (n == m) ≡ false
    go true e = absurd (h (eqb-true n m e))
    go false e = e

no_id : (id : ℕ) (done : List (List ℕ × NamedFamily)) → Each (λ one. one.1.id ≡ id → ⊥) done → has_id id done ≡ false
no_id id [] h = refl
no_id id (one ∷ done) h = ap (λ b. b || has_id id done) (differs one.1.id id h.0) ∙ no_id id done h.1

no_file : (file : ℕ) (placed : List Placement) → Each (λ one. one.file ≡ file → ⊥) placed → list_any (is_file file) placed ≡ false
no_file file [] h = refl
no_file file (one ∷ placed) h = ap (λ b. b || list_any (is_file file) placed) (differs one.file file h.0) ∙ no_file file placed h.1

abbrev tables_in : List (List ℕ × NamedFamily) → List Placement
tables_in families = flat_map (λ one. one.1.tables) families

abbrev IsAbove : Placement → Type 0
IsAbove placed = may_place placed ≡ true

assoc : {X : Type 0} (a b c : List X) → (a ++ b) ++ c ≡ a ++ (b ++ c)
assoc [] b c = refl
assoc (x ∷ a) b c = ap (λ l. x ∷ l) (assoc a b c)

next_all : (done families : List (List ℕ × NamedFamily)) → Pairwise (λ one other. one.file ≡ other.file → ⊥) (tables_in (done ++ families)) → Pairwise (λ one other. one.1.id ≡ other.1.id → ⊥) (done ++ families)
    → Pairwise (λ one other. IsTrue (below one.0 other.0)) (done ++ families) → Each IsAbove (tables_in families) → AreNextFamilies done families
next_all done [] files ids names above = tt
next_all done (family ∷ families) files ids names above = (
  record {
    name = each_as (λ (before : List ℕ × NamedFamily). IsTrue (below before.0 family.0)) (λ before. bytes_cmp family.0 before.0 ≡ Greater) (λ before h. greater family.0 before.0 h) done
        (before_one (λ (one other : List ℕ × NamedFamily). IsTrue (below one.0 other.0)) done family families names);
    id = no_id family.1.id done (before_one (λ (one other : List ℕ × NamedFamily). one.1.id ≡ other.1.id → ⊥) done family families ids);
    new = each_turned (λ placed. (list_any (is_file placed.file) (tables_in done) ≡ false) × IsAbove placed) family.1.tables
        (news family.1.tables (each_front (λ y. Each (λ (x : Placement). x.file ≡ y.file → ⊥) (tables_in done)) family.1.tables (tables_in families) (across (λ (one other : Placement). one.file ≡ other.file → ⊥) (tables_in done) (family.1.tables ++ tables_in families) split))
        (each_front IsAbove family.1.tables (tables_in families) above));
    differ = pairs_turned (λ (one other : Placement). (one.file == other.file) ≡ false) (λ one other e. differ_turned one.file other.file e) family.1.tables
        (weaker family.1.tables (pairs_front (λ (one other : Placement). one.file ≡ other.file → ⊥) family.1.tables (tables_in families) (pairs_back (λ (one other : Placement). one.file ≡ other.file → ⊥) (tables_in done) (family.1.tables ++ tables_in families) split)));
  },
  next_all (done ++ family ∷ []) families
      (subst (λ all. Pairwise (λ (one other : Placement). one.file ≡ other.file → ⊥) (tables_in all)) (sym (assoc done (family ∷ []) families)) files)
      (subst (Pairwise (λ (one other : List ℕ × NamedFamily). one.1.id ≡ other.1.id → ⊥)) (sym (assoc done (family ∷ []) families)) ids)
      (subst (Pairwise (λ (one other : List ℕ × NamedFamily). IsTrue (below one.0 other.0))) (sym (assoc done (family ∷ []) families)) names)
      (each_back IsAbove family.1.tables (tables_in families) above),
)
  where
    split : Pairwise (λ (one other : Placement). one.file ≡ other.file → ⊥) (tables_in done ++ (family.1.tables ++ tables_in families))
    split = subst (Pairwise (λ (one other : Placement). one.file ≡ other.file → ⊥)) (flat_append (λ (one : List ℕ × NamedFamily). one.1.tables) done (family ∷ families)) files

    news : (placed : List Placement) → Each (λ y. Each (λ (x : Placement). x.file ≡ y.file → ⊥) (tables_in done)) placed → Each IsAbove placed → Each (λ placed. (list_any (is_file placed.file) (tables_in done) ≡ false) × IsAbove placed) placed
    news [] h high = tt
    news (one ∷ placed) h high = ((no_file one.file (tables_in done) h.0, high.0), news placed h.1 high.1)

    each_weaker : (one : Placement) (placed : List Placement) → Each (λ other. one.file ≡ other.file → ⊥) placed → Each (λ other. (one.file == other.file) ≡ false) placed
    each_weaker one [] h = tt
    each_weaker one (other ∷ placed) h = (differs one.file other.file h.0, each_weaker one placed h.1)

    weaker : (placed : List Placement) → Pairwise (λ (one other : Placement). one.file ≡ other.file → ⊥) placed → Pairwise (λ one other. (one.file == other.file) ≡ false) placed
    weaker [] h = tt
    weaker (one ∷ placed) h = (each_weaker one placed h.0, weaker placed h.1)

-- files above 1 in levels up to 6, no two of one number; ids that differ; names that rise
pub named_next : (named : Named) → IsNamed named → AreNextFamilies [] named.families
named_next named is = next_all [] named.families is.files is.ids (pairs_of_places (λ (one other : List ℕ × NamedFamily). IsTrue (below one.0 other.0)) named.families is.names) is.placed
