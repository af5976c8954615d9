-- The contents of the state of an opening are those that it was opened from.
use Rattle.std.proofs.Common.{◌≡◌, ℕ, Bool, true, false, cond, List, [], ◌∷◌, ◌++◌, map, filter, fold, refl, sym, ap, ◌∙◌, append-nil}
use Rattle.std.specs.Prelude.{IsTrue}
use Rattle.std.specs.List.{AllByRecursion as Each}
use Rattle.st_base.specs.Bytes.{below}
use Rattle.st_base.specs.declared.entry.Entry.{Entry}
use Rattle.st_base.specs.declared.entry.Mark.{Mark}
use Rattle.st_base.specs.declared.entry.KeyRange.{KeyRange}
use Rattle.base_laws.proofs.Keys.{below_not}
use Rattle.base_laws.proofs.Lists.{append_one, each_as, each_join}
use Rattle.st_model.specs.declared.state.ModelFamily.{ModelFamily}
use Rattle.st_model.specs.Contents.{opened_family, opened_families, is_kept, kept_marks, newest_marks, as_entry, put_range, sorted_ranges, contents_of_family}
use Rattle.store_image.specs.Claims.{OpenedHasContents}
use Rattle.st_order.specs.Columns.{Pairwise}

filter_twice : {X : Type 0} (p : X → Bool) (xs : List X) → filter p (filter p xs) ≡ filter p xs
filter_twice p [] = refl
filter_twice p (x ∷ xs) = go (p x) refl (filter_twice p xs)
  where
    go : (b : Bool) → p x ≡ b → filter p (filter p xs) ≡ filter p xs → filter p (cond b (x ∷ filter p xs) (filter p xs)) ≡ cond b (x ∷ filter p xs) (filter p xs)
    go true e rest = ap (λ b. cond b (x ∷ filter p (filter p xs)) (filter p (filter p xs))) e ∙ ap (λ l. x ∷ l) rest
    go false e rest = rest

pairs_back : (pairs : List (List ℕ × Mark)) → map {B = List ℕ × Mark} (λ (entry : Entry). (entry.key, entry.mark)) (map as_entry pairs) ≡ pairs
pairs_back [] = refl
pairs_back (pair ∷ pairs) = ap (λ l. pair ∷ l) (pairs_back pairs)

-- ---- ranges that rise stay as they are

abbrev IsBefore : KeyRange → KeyRange → Type 0
IsBefore one other = IsTrue (below one.first other.first)

put_last : (range : KeyRange) (ranges : List KeyRange) → Each (λ one. IsBefore one range) ranges → put_range range ranges ≡ ranges ++ range ∷ []
put_last range [] h = refl
put_last range (other ∷ ranges) h =
    ap (λ b. cond b (range ∷ other ∷ ranges) (other ∷ put_range range ranges)) (below_not other.first range.first h.0) ∙ ap (λ l. other ∷ l) (put_last range ranges h.1)

pub fold_ranges : (front ranges : List KeyRange) → Each (λ one. Each (IsBefore one) ranges) front → Pairwise IsBefore ranges → fold (λ sorted range. put_range range sorted) front ranges ≡ front ++ ranges
fold_ranges front [] h rise = sym (append-nil front)
fold_ranges front (range ∷ ranges) h rise =
    ap (λ l. fold (λ sorted range. put_range range sorted) l ranges) (put_last range front (each_as (λ one. Each (IsBefore one) (range ∷ ranges)) (λ one. IsBefore one range) (λ one e. e.0) front h))
    ∙ fold_ranges (front ++ range ∷ []) ranges (each_join (λ one. Each (IsBefore one) ranges) front (range ∷ []) (each_as (λ one. Each (IsBefore one) (range ∷ ranges)) (λ one. Each (IsBefore one) ranges) (λ one e. e.1) front h) (rise.0, tt)) rise.1
    ∙ append_one front range ranges

-- ---- families

family_again : (behind : Bool) (keys : List (List ℕ)) (family : List ℕ × ModelFamily) → Pairwise IsBefore (sorted_ranges family.1.ranges)
    → contents_of_family behind (opened_family keys (contents_of_family behind family)) ≡ contents_of_family behind family
family_again behind keys family rise = λ i. record {
  id = family.1.id;
  name = family.0;
  marks = marks i;
  ranges = fold_ranges [] (sorted_ranges family.1.ranges) tt rise i;
}
  where
    marks : map as_entry (kept_marks behind (map {B = List ℕ × Mark} (λ (entry : Entry). (entry.key, entry.mark)) (map as_entry (kept_marks behind (newest_marks family.1))))) ≡ map as_entry (kept_marks behind (newest_marks family.1))
    marks = ap (λ pairs. map as_entry (kept_marks behind pairs)) (pairs_back (kept_marks behind (newest_marks family.1))) ∙ ap (map as_entry) (filter_twice (λ (pair : List ℕ × Mark). is_kept behind pair.1) (newest_marks family.1))

families_again : (behind : Bool) (known : List (List (List ℕ))) (families : List (List ℕ × ModelFamily)) → Each (λ family. Pairwise IsBefore (sorted_ranges family.1.ranges)) families
    → map (contents_of_family behind) (opened_families known (map (contents_of_family behind) families)) ≡ map (contents_of_family behind) families
families_again behind known [] rise = refl
families_again behind [] (family ∷ families) rise = λ i. family_again behind [] family rise.0 i ∷ families_again behind [] families rise.1 i
families_again behind (keys ∷ known) (family ∷ families) rise = λ i. family_again behind keys family rise.0 i ∷ families_again behind known families rise.1 i

pub opened_has_contents : OpenedHasContents
opened_has_contents state known rise = λ i. record { last = state.last; behind = state.behind; families = families_again state.behind known state.families rise i }
