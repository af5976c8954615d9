-- The oldest sealed memtable, its range, and the family once it is flushed.
use Rattle.std.proofs.Common.{◌≡◌, ℕ, suc, ◌+◌, ◌-◌, ◌≤◌, Bool, true, false, cond, not, List, [], ◌∷◌, ◌++◌, length, map, filter, Option, Some, None, option_map, slice_get, refl, sym, ap, ap₂, subst, ◌∙◌, arith}
use Rattle.std.specs.Prelude.{◌&&◌, ◌||◌}
use Rattle.std.specs.List.{AllByRecursion as Each, list_any, IsLastAndRest}
use Rattle.st_base.specs.Order.{in_order}
use Rattle.st_base.specs.Range.{range_of}
use Rattle.st_base.specs.Rows.{AreRows}
use Rattle.st_base.specs.declared.entry.Entry.{Entry}
use Rattle.st_order.specs.Sorted.{joined, merged, sorted, put_in}
use Rattle.st_order.proofs.Sorted.{NotBefore, first_before, not_back, put_first, rest_ordered}
use Rattle.st_memtable.specs.Memtable.{lengths_of, one_run}
use Rattle.base_laws.proofs.Lists.{each_as}
use Rattle.core_model.specs.Commit.{put_table}
use Rattle.core_model.specs.Compaction.{with_flushed, without_last}
use Rattle.core_model.specs.Picture.{FamilyView, FileEntries}
use Rattle.core_model.specs.Step.{last_element}
use Rattle.st_version.specs.Held.{SharedMem, entries_in}
use Rattle.st_version.specs.Replace.{replaced, without_files}

-- ---- one run

sorted_itself : (xs : List Entry) → in_order xs ≡ true → sorted xs ≡ xs
sorted_itself [] h = refl
sorted_itself (x ∷ xs) h =
    ap (put_in x) (sorted_itself xs (rest_ordered x xs h))
    ∙ put_first x xs (each_as (λ y. _) (NotBefore x) (λ y before. not_back x y before) xs (first_before x xs h))

one_behind : (run : List Entry) → joined (run ∷ []) ≡ run
one_behind [] = refl
one_behind (x ∷ xs) = ap (λ (rest : List Entry). x ∷ rest) (one_behind xs)

merged_one : (run : List Entry) → in_order run ≡ true → merged (run ∷ []) ≡ run
unfolding merged
merged_one run h = ap sorted (one_behind run) ∙ sorted_itself run h

merged_none : merged [] ≡ []
unfolding merged
merged_none = refl

-- a memtable of one run has the run's range
pub run_range : (runs : List (List Entry)) (entries run : List Entry) → lengths_of runs ≡ one_run (length entries) → merged runs ≡ entries → Some run ≡ slice_get runs 0 → in_order run ≡ true
    → range_of run ≡ range_of entries
run_range [] entries run lengths is first h = absurd cc
run_range (one ∷ []) entries run lengths is first h =
    let same : run ≡ one = cc in
    ap range_of (same ∙ (sym (merged_one one (subst (λ r. in_order r ≡ true) same h)) ∙ is))
run_range (one ∷ two ∷ runs) [] run lengths is first h = absurd cc
run_range (one ∷ two ∷ runs) (entry ∷ entries) run lengths is first h = absurd cc

pub no_run_range : (runs : List (List Entry)) (entries : List Entry) → merged runs ≡ entries → None ≡ slice_get runs 0 → range_of [] ≡ range_of entries
no_run_range [] entries is none = ap range_of (sym merged_none ∙ is)
no_run_range (one ∷ runs) entries is none = absurd cc

-- ---- the oldest

module _ {X : Type 0} where
  one_less : (x y : X) (ys : List X) → length (x ∷ y ∷ ys) - 1 ≡ suc (length (y ∷ ys) - 1)
  one_less x y ys = omega arith

  pub last_is : (xs : List X) → slice_get xs (length xs - 1) ≡ last_element xs
  last_is [] = refl
  last_is (x ∷ []) = refl
  last_is (x ∷ y ∷ ys) = rw (one_less x y ys) (last_is (y ∷ ys))

  without_end : (rest : List X) (x : X) → without_last (rest ++ x ∷ []) ≡ rest
  without_end [] x = refl
  without_end (y ∷ []) x = refl
  without_end (y ∷ z ∷ rest) x = ap (λ (zs : List X). y ∷ zs) (without_end (z ∷ rest) x)

pub last_mapped : {X Y : Type 0} (f : X → Y) (xs : List X) → option_map f (last_element xs) ≡ last_element (map f xs)
last_mapped f [] = refl
last_mapped f (x ∷ []) = refl
last_mapped f (x ∷ y ∷ ys) = last_mapped f (y ∷ ys)

pub without_mapped : {X Y : Type 0} (f : X → Y) (xs : List X) → map f (without_last xs) ≡ without_last (map f xs)
without_mapped f [] = refl
without_mapped f (x ∷ []) = refl
without_mapped {X} {Y} f (x ∷ y ∷ ys) = ap (λ (zs : List Y). f x ∷ zs) (without_mapped f (y ∷ ys))

-- the front of a list is the list without its last element
pub front_is : {X Y : Type 0} (f : X → Y) (xs rest : List X) (x : X) → xs ≡ rest ++ x ∷ [] → map f rest ≡ without_last (map f xs)
front_is f xs rest x is = ap (map f) (sym (without_end rest x) ∙ ap without_last (sym is)) ∙ without_mapped f xs

-- ---- tests of jobs

-- a test of those that pass another one
pub any_filtered : {X : Type 0} (first other : X → Bool) (xs : List X) → list_any (λ x. first x && other x) xs ≡ list_any other (filter first xs)
any_filtered first other [] = refl
any_filtered first other (x ∷ xs) = step (first x) (any_filtered first other xs)
  where
    step : (b : Bool) → list_any (λ x. first x && other x) xs ≡ list_any other (filter first xs)
        → ((b && other x) || list_any (λ x. first x && other x) xs) ≡ list_any other (cond b (x ∷ filter first xs) (filter first xs))
    step true rest = ap (λ (b : Bool). other x || b) rest
    step false rest = rest

-- ---- tables

-- where no file goes, all tables stay
pub all_stay : (tables : List FileEntries) → without_files [] tables ≡ tables
all_stay [] = refl
all_stay (table ∷ tables) = ap (λ (rest : List FileEntries). table ∷ rest) (all_stay tables)

pub levels_stay : (levels : List (List FileEntries)) → map (without_files []) levels ≡ levels
levels_stay [] = refl
levels_stay (tables ∷ levels) = ap₂ (λ (one : List FileEntries) (rest : List (List FileEntries)). one ∷ rest) (all_stay tables) (levels_stay levels)

pub none_newer : (mems : List SharedMem) → length mems ≡ 0 → [] ≡ without_last (entries_in mems)
none_newer [] none = refl
none_newer (mem ∷ mems) none = absurd (let e : suc (length mems) ≡ 0 = none in omega (arith, e))

-- the family once its oldest sealed memtable is a table
pub flushed_is : (family placed : FamilyView) (table : FileEntries) (mem : List Entry) (sealed : List (List Entry)) → placed ≡ replaced [] 0 (table ∷ []) family → mem ≡ family.mem
    → sealed ≡ without_last family.sealed → (replaced [] 0 (table ∷ []) family).levels ≡ put_table 0 table family.levels → record placed { mem = mem; sealed = sealed } ≡ with_flushed table family
flushed_is family placed table mem sealed is m s law =
    ap (λ (one : FamilyView). record one { mem = mem; sealed = sealed }) is
    ∙ (ap (λ (entries : List Entry). record (replaced [] 0 (table ∷ []) family) { mem = entries; sealed = sealed }) m
    ∙ (ap (λ (left : List (List Entry)). record (replaced [] 0 (table ∷ []) family) { mem = family.mem; sealed = left }) s
    ∙ ap (λ (levels : List (List FileEntries)). record family { sealed = without_last family.sealed; levels = levels }) law))
