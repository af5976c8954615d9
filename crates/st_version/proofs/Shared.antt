-- Shared tables, seen as the tables; maps whose values are shared.
use Rattle.std.proofs.Common.{◌≡◌, ℕ, suc, ◌+◌, Bool, true, false, cond, not, List, [], ◌∷◌, ◌++◌, map, Option, Some, None, option_map, Bor, refl, sym, ap, subst, ◌∙◌, arith}
use Rattle.std.specs.Prelude.{length, nat_lt, unwrap_or}
use Rattle.std.proofs.lemmas.Bool.{ltb-false, or_parts}
use Rattle.std.proofs.lemmas.List.Sums.{prefix_len-le-length}
use Rattle.std.specs.List.{insert, list_any, position, position_or_len}
use Rattle.std.specs.Map.{lookup}
use Rattle.std.specs.Option.{option_copied}
use Rattle.std.proofs.lemmas.Map.Made.{lookup-map_values}
use Rattle.st_base.specs.Bytes.{below}
use Rattle.st_base.specs.Range.{key_at_front}
use Rattle.st_base.specs.declared.entry.Entry.{Entry}
use Rattle.std.specs.List.{AllByRecursion as Each}
use Rattle.st_order.specs.Columns.{column}
use Rattle.job_model.specs.Column.{found_at}
use Rattle.job_model.specs.ByKey.{IsByKey}
use Rattle.core_model.specs.Picture.{FileEntries, put_by_key, runs_of}
use Rattle.st_version.specs.Held.{SharedTable, tables_of}
use Rattle.st_version.specs.Replace.{is_among, without_files}

abbrev pub entries_of : SharedTable → List Entry
entries_of held = held.value.table.entries

pub runs_shared : (tables : List SharedTable) → map entries_of tables ≡ runs_of (tables_of tables)
runs_shared [] = refl
runs_shared (table ∷ tables) = ap (λ (runs : List (List Entry)). entries_of table ∷ runs) (runs_shared tables)

-- level 0, where it was looked up
pub zero_found : (number : ℕ) (key : List ℕ) (zero tables : List SharedTable) → Some zero ≡ Some tables → found_at number (column key (map entries_of tables)) ≡ found_at number (column key (runs_of (tables_of zero)))
zero_found number key zero tables e =
    ap (λ (some : Option (List SharedTable)). found_at number (column key (map entries_of (unwrap_or some [])))) (sym e)
    ∙ ap (λ runs. found_at number (column key runs)) (runs_shared zero)

-- tables that stand by key, as they are shared
pub each_stands : (levels : List (List SharedTable)) → Each (λ (tables : List FileEntries). IsByKey (runs_of tables)) (map tables_of levels) → Each (λ (tables : List SharedTable). IsByKey (map entries_of tables)) levels
each_stands [] each = tt
each_stands (tables ∷ levels) each = (subst IsByKey (sym (runs_shared tables)) each.0, each_stands levels each.1)

one-add : (n : ℕ) → 1 + n ≡ suc n
one-add n = omega arith

-- a table goes before the first whose first key is above its own
pub put_at_key : (tables : List SharedTable) (table : SharedTable)
    → tables_of (insert tables (position_or_len (λ other. below (key_at_front table.value.table.entries) (key_at_front other.value.table.entries)) tables) table) ≡ put_by_key table.value.table (tables_of tables)
put_at_key [] table = refl
put_at_key (other ∷ tables) table = step (below (key_at_front (entries_of table)) (key_at_front (entries_of other))) (put_at_key tables table)
  where
    index : ℕ
    index = position_or_len (λ one. below (key_at_front (entries_of table)) (key_at_front (entries_of one))) tables

    step : (b : Bool) → tables_of (insert tables index table) ≡ put_by_key table.value.table (tables_of tables)
        → tables_of (insert (other ∷ tables) (cond (not b) (1 + index) 0) table) ≡ cond b (table.value.table ∷ other.value.table ∷ tables_of tables) (other.value.table ∷ put_by_key table.value.table (tables_of tables))
    step true rest = refl
    step false rest = rw (one-add index) (ap (λ (ts : List FileEntries). other.value.table ∷ ts) rest)

-- an index is found, or is the end
pub index_is : {X : Type 0} (test : X → Bool) (xs : List X) → unwrap_or (position test xs) (length xs) ≡ position_or_len test xs
index_is test xs = step (nat_lt (position_or_len test xs) (length xs)) refl
  where
    step : (b : Bool) → nat_lt (position_or_len test xs) (length xs) ≡ b → unwrap_or (cond b (Some (position_or_len test xs)) None) (length xs) ≡ position_or_len test xs
    step true e = refl
    step false e = omega (arith, ltb-false (position_or_len test xs) (length xs) e, prefix_len-le-length (λ x. not (test x)) xs)

-- where none goes, all stay
pub all_stay : (files : List ℕ) (tables : List SharedTable) → list_any (λ (held : SharedTable). is_among files held.value.table) tables ≡ false → tables_of tables ≡ without_files files (tables_of tables)
all_stay files [] none = refl
all_stay files (table ∷ tables) none =
    let parts = or_parts (is_among files table.value.table) (list_any (λ (held : SharedTable). is_among files held.value.table) tables) none in
    ap (λ (rest : List FileEntries). table.value.table ∷ rest) (all_stay files tables parts.1)
    ∙ sym (ap (λ b. cond (not b) (table.value.table ∷ without_files files (tables_of tables)) (without_files files (tables_of tables))) parts.0)

-- ---- values of maps

-- a function of what a reference points to
copied_map : {X Y : Type 0} (f : X → Y) (found : Option (Bor X)) → option_map (λ one. f one.now) found ≡ option_map f (option_copied found)
copied_map f None = refl
copied_map f (Some one) = refl

-- what a look-up finds, where each value is seen by `f`
pub found_seen : {K X Y : Type 0} (f : X → Y) (test : K → Bool) (pairs : List (K × X)) (seen : List (K × Y)) (found : Option (Bor X))
    → map {B = K × Y} (λ pair. (pair.0, f pair.1)) pairs ≡ seen → option_copied found ≡ lookup test pairs
    → option_map (λ one. f one.now) found ≡ lookup test seen
found_seen f test pairs seen found e h = copied_map f found ∙ (ap (option_map f) h ∙ (sym (lookup-map_values f test pairs) ∙ ap (lookup test) e))
