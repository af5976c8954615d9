-- Where along the walk of a family the first mark is found.
use Rattle.std.proofs.Common.{◌≡◌, ℕ, List, [], ◌∷◌, ◌++◌, map, Option, Some, None, refl, sym, ap, ◌∙◌, append_assoc}
use Rattle.std.specs.Prelude.{flat_map}
use Rattle.std.specs.Option.{option_or}
use Rattle.std.proofs.lemmas.List.{map-append}
use Rattle.st_base.specs.declared.entry.Entry.{Entry}
use Rattle.st_base.specs.declared.entry.Mark.{Mark}
use Rattle.st_order.specs.Columns.{column, of_key}
use Rattle.job_model.specs.Column.{found_at}
use Rattle.core_model.specs.Picture.{FamilyView, FileEntries, find_mark, runs_of, tables_in}
use Rattle.st_version.specs.Held.{SharedTable, tables_of}
use Rattle.st_version.proofs.Found.{found_join}
use Rattle.st_version.proofs.Shared.{entries_of, runs_shared}

pub or_some : (m : Mark) (one rest : Option Mark) → Some m ≡ one → Some m ≡ option_or one rest
or_some m one rest e = ap (λ found. option_or found rest) e

pub or_none : (answer one rest : Option Mark) → None ≡ one → answer ≡ rest → answer ≡ option_or one rest
or_none answer one rest e r = r ∙ ap (λ found. option_or found rest) e

column_join : (key : List ℕ) (xs ys : List (List Entry)) → column key (xs ++ ys) ≡ column key xs ++ column key ys
column_join key [] ys = refl
column_join key (x ∷ xs) ys = ap (λ rest. of_key key x ++ rest) (column_join key xs ys) ∙ sym (append_assoc (of_key key x) (column key xs) (column key ys))

pub found_both : (number : ℕ) (key : List ℕ) (xs ys : List (List Entry)) → found_at number (column key (xs ++ ys)) ≡ option_or (found_at number (column key xs)) (found_at number (column key ys))
found_both number key xs ys = ap (found_at number) (column_join key xs ys) ∙ found_join number (column key xs) (column key ys)

-- the memtable, the sealed ones, level 0, and the other levels
pub walk_found : (number : ℕ) (key : List ℕ) (mem : List Entry) (sealed : List (List Entry)) (zero : List FileEntries) (levels : List (List FileEntries))
    → found_at number (column key (mem ∷ (sealed ++ runs_of (zero ++ tables_in levels))))
    ≡ option_or (found_at number (of_key key mem)) (option_or (found_at number (column key sealed)) (option_or (found_at number (column key (runs_of zero))) (found_at number (column key (runs_of (tables_in levels))))))
walk_found number key mem sealed zero levels =
    found_join number (of_key key mem) (column key (sealed ++ runs_of (zero ++ tables_in levels)))
    ∙ ap (option_or (found_at number (of_key key mem)))
    (found_both number key sealed (runs_of (zero ++ tables_in levels))
    ∙ ap (option_or (found_at number (column key sealed)))
    (ap (λ runs. found_at number (column key runs)) (map-append (λ (table : FileEntries). table.entries) zero (tables_in levels))
    ∙ found_both number key (runs_of zero) (runs_of (tables_in levels))))

pub runs_flat : (levels : List (List SharedTable)) → map entries_of (flat_map (λ tables. tables) levels) ≡ runs_of (tables_in (map tables_of levels))
runs_flat [] = refl
runs_flat (tables ∷ levels) =
    map-append entries_of tables (flat_map (λ some. some) levels)
    ∙ ap (λ runs. runs ++ map entries_of (flat_map (λ some. some) levels)) (runs_shared tables)
    ∙ ap (λ runs. runs_of (tables_of tables) ++ runs) (runs_flat levels)
    ∙ sym (map-append (λ (table : FileEntries). table.entries) (tables_of tables) (tables_in (map tables_of levels)))

-- what is found there is the first mark of the family
pub find_at : (family : FamilyView) (id number : ℕ) (key : List ℕ) (mem : List Entry) (sealed : List (List Entry)) (zero : List FileEntries) (levels : List (List FileEntries))
    → record { id = id; mem = mem; sealed = sealed; levels = zero ∷ levels } ≡ family → (answer : Option Mark)
    → answer ≡ option_or (found_at number (of_key key mem)) (option_or (found_at number (column key sealed)) (option_or (found_at number (column key (runs_of zero))) (found_at number (column key (runs_of (tables_in levels))))))
    → answer ≡ find_mark family number key
find_at family id number key mem sealed zero levels is answer e = e ∙ sym (walk_found number key mem sealed zero levels) ∙ ap (λ one. find_mark one number key) is
