-- One element more, or one less that is left, in the loops over memtables and tables.
use Rattle.std.proofs.Common.{◌≡◌, ℕ, zero, suc, ◌+◌, ◌<◌, ◌≤◌, Bool, true, false, cond, List, [], ◌∷◌, ◌++◌, length, get_or, map, take, drop, Option, Some, None, refl, sym, ap, subst, ◌∙◌, append-nil, append_assoc, arith}
use Rattle.std.specs.Prelude.{filter, flat_map, not, option_map, slice_get}
use Rattle.std.specs.List.{AllByRecursion as Each}
use Rattle.std.specs.Option.{option_or}
use Rattle.std.proofs.lemmas.List.{drop_more, map-append, take_more}
use Rattle.st_base.specs.declared.entry.Entry.{Entry}
use Rattle.st_base.specs.declared.entry.Mark.{Mark}
use Rattle.st_order.specs.Columns.{column, of_key}
use Rattle.job_model.specs.Column.{found_at}
use Rattle.core_model.specs.Compaction.{put_all}
use Rattle.core_model.specs.Picture.{FileEntries, put_by_key, runs_of, tables_in}
use Rattle.st_order.proofs.Halves.{get_there}
use Rattle.st_version.specs.Held.{SharedTable, tables_of}
use Rattle.st_version.proofs.Found.{found_join}
use Rattle.st_version.proofs.FoundIn.{found_both}

module _ {X : Type 0} where
  -- what stands at an index is behind the first ones, and heads the others
  pub taken_more : (xs : List X) (i : ℕ) (x : X) → i < length xs → x ≡ get_or xs i x → take (i + 1) xs ≡ take i xs ++ x ∷ []
  taken_more xs i x lt is = take_more xs i x lt ∙ ap (λ one. take i xs ++ one ∷ []) (sym is)

  pub dropped_more : (xs : List X) (i : ℕ) (x : X) → i < length xs → x ≡ get_or xs i x → drop i xs ≡ x ∷ drop (i + 1) xs
  dropped_more xs i x lt is = drop_more xs i x lt ∙ ap (λ one. one ∷ drop (i + 1) xs) (sym is)

  pub drop_past : (xs : List X) (i : ℕ) → length xs ≤ i → drop i xs ≡ []
  drop_past xs i le = Rattle.std.proofs.lemmas.List.drop_all i xs le

  pub each_push : (P : X → Type 0) (xs : List X) (x : X) → Each P xs → P x → Each P (xs ++ x ∷ [])
  each_push P [] x each here = (here, tt)
  each_push P (y ∷ xs) x each here = (each.0, each_push P xs x each.1 here)

module _ {X : Type 0} (runs : X → List Entry) (key : List ℕ) (number : ℕ) where
  -- a run that has no mark to find: the others have it
  pub not_here : (xs : List X) (i : ℕ) (x : X) → i < length xs → x ≡ get_or xs i x → found_at number (of_key key (runs x)) ≡ None
      → found_at number (column key (map runs (drop i xs))) ≡ found_at number (column key (map runs (drop (i + 1) xs)))
  not_here xs i x lt is none =
      ap (λ some. found_at number (column key (map runs some))) (dropped_more xs i x lt is)
      ∙ found_join number (of_key key (runs x)) (column key (map runs (drop (i + 1) xs)))
      ∙ ap (λ found. option_or found (found_at number (column key (map runs (drop (i + 1) xs))))) none

  pub is_here : (xs : List X) (i : ℕ) (x : X) (mark : Mark) → i < length xs → x ≡ get_or xs i x → found_at number (of_key key (runs x)) ≡ Some mark
      → found_at number (column key (map runs (drop i xs))) ≡ Some mark
  is_here xs i x mark lt is found =
      ap (λ some. found_at number (column key (map runs some))) (dropped_more xs i x lt is)
      ∙ found_join number (of_key key (runs x)) (column key (map runs (drop (i + 1) xs)))
      ∙ ap (λ one. option_or one (found_at number (column key (map runs (drop (i + 1) xs))))) found

  pub none_left : (xs : List X) (i : ℕ) → length xs ≤ i → found_at number (column key (map runs (drop i xs))) ≡ None
  none_left xs i le = ap (λ some. found_at number (column key (map runs some))) (drop_past xs i le)

-- ---- levels

module _ {X : Type 0} (runs : X → List Entry) (key : List ℕ) (number : ℕ) where
  -- a level, and those below it
  pub level_here : (levels : List (List X)) (i : ℕ) (tables : List X) → slice_get levels i ≡ Some tables
      → found_at number (column key (map runs (flat_map (λ level. level) (drop i levels))))
      ≡ option_or (found_at number (column key (map runs tables))) (found_at number (column key (map runs (flat_map (λ level. level) (drop (i + 1) levels)))))
  level_here levels i tables at =
      let there = get_there levels i tables tables at in
      ap (λ (some : List (List X)). found_at number (column key (map runs (flat_map (λ level. level) some)))) (dropped_more levels i tables there.0 (sym there.1))
      ∙ ap (λ some. found_at number (column key some)) (map-append runs tables (flat_map (λ level. level) (drop (i + 1) levels)))
      ∙ found_both number key (map runs tables) (map runs (flat_map (λ level. level) (drop (i + 1) levels)))

-- ---- lists that grow

module _ {X Y : Type 0} (f : X → Y) where
  pub mapped_more : (front : List Y) (xs : List X) (i : ℕ) (x : X) (list more : List Y) → i < length xs → x ≡ get_or xs i x → list ≡ front ++ map f (take i xs) → more ≡ list ++ f x ∷ [] → more ≡ front ++ map f (take (i + 1) xs)
  mapped_more front xs i x list more lt is so_far pushed =
      pushed ∙ ap (λ some. some ++ f x ∷ []) so_far ∙ append_assoc front (map f (take i xs)) (f x ∷ [])
      ∙ ap (λ some. front ++ some) (sym (ap (map f) (taken_more xs i x lt is) ∙ map-append f (take i xs) (x ∷ [])))

pub flat_more : {X Z : Type 0} (g : X → List Z) (front : List Z) (xs : List X) (i : ℕ) (x : X) (list more : List Z) → i < length xs → x ≡ get_or xs i x → list ≡ front ++ flat_map g (take i xs) → more ≡ list ++ g x → more ≡ front ++ flat_map g (take (i + 1) xs)
flat_more {X} g front xs i x list more lt is so_far pushed =
    pushed ∙ ap (λ some. some ++ g x) so_far ∙ append_assoc front (flat_map g (take i xs)) (g x)
    ∙ ap (λ some. front ++ some) (sym (ap (flat_map g) (taken_more xs i x lt is) ∙ flat_end (take i xs)))
  where
    flat_end : (ys : List X) → flat_map g (ys ++ x ∷ []) ≡ flat_map g ys ++ g x
    flat_end [] = append-nil (g x)
    flat_end (y ∷ ys) = ap (λ rest. g y ++ rest) (flat_end ys) ∙ sym (append_assoc (g y) (flat_map g ys) (g x))

-- the runs of levels, level after level
levels_flat : (levels : List (List SharedTable)) → runs_of (tables_in (map tables_of levels)) ≡ flat_map (λ (tables : List SharedTable). runs_of (tables_of tables)) levels
levels_flat [] = refl
levels_flat (tables ∷ levels) =
    map-append (λ (table : FileEntries). table.entries) (tables_of tables) (tables_in (map tables_of levels))
    ∙ ap (λ runs. runs_of (tables_of tables) ++ runs) (levels_flat levels)

pub levels_more : (front : List (List Entry)) (levels : List (List SharedTable)) (i : ℕ) (tables : List SharedTable) (list more : List (List Entry)) → slice_get levels i ≡ Some tables
    → list ≡ front ++ runs_of (tables_in (map tables_of (take i levels))) → more ≡ list ++ runs_of (tables_of tables) → more ≡ front ++ runs_of (tables_in (map tables_of (take (i + 1) levels)))
levels_more front levels i tables list more at so_far pushed =
    let there = get_there levels i tables tables at in
    flat_more (λ (some : List SharedTable). runs_of (tables_of some)) front levels i tables list more there.0 (sym there.1) (so_far ∙ ap (λ runs. front ++ runs) (levels_flat (take i levels))) pushed
    ∙ ap (λ runs. front ++ runs) (sym (levels_flat (take (i + 1) levels)))

pub filter_end : {X : Type 0} (test : X → Bool) (xs : List X) (x : X) → filter test (xs ++ x ∷ []) ≡ filter test xs ++ cond (test x) (x ∷ []) []
filter_end test [] x = refl
filter_end {X} test (y ∷ xs) x = step (test y) (filter_end test xs x)
  where
    step : (b : Bool) → filter test (xs ++ x ∷ []) ≡ filter test xs ++ cond (test x) (x ∷ []) [] → cond b (y ∷ filter test (xs ++ x ∷ [])) (filter test (xs ++ x ∷ [])) ≡ cond b (y ∷ filter test xs) (filter test xs) ++ cond (test x) (x ∷ []) []
    step true rest = ap (λ some. y ∷ some) rest
    step false rest = rest

pub put_all_end : (outputs tables : List FileEntries) (table : FileEntries) → put_all (outputs ++ table ∷ []) tables ≡ put_by_key table (put_all outputs tables)
put_all_end [] tables table = refl
put_all_end (output ∷ outputs) tables table = put_all_end outputs (put_by_key output tables) table
