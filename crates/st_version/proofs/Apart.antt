-- Tables that don't meet, told by tests.
use Rattle.std.proofs.Common.{◌≡◌, ℕ, ◌<◌, Bool, true, false, ◌||◌, List, [], ◌∷◌, length, get_or, map, refl, sym, subst, ◌∙◌, arith}
use Rattle.std.specs.List.{list_any, AllByRecursion as Each}
use Rattle.std.proofs.lemmas.Bool.{false≢true, or_parts}
use Rattle.std.proofs.lemmas.List.{length-map}
use Rattle.st_base.specs.Range.{meet}
use Rattle.st_order.specs.Columns.{Pairwise}
use Rattle.core_model.specs.Picture.{FileEntries, table_range}
use Rattle.core_model.specs.RelationParts.{HasEntry}
use Rattle.st_order.proofs.Halves.{each_at}
use Rattle.st_order.proofs.Mapped.{mapped_there}
use Rattle.st_version.specs.Held.{SharedTable, tables_of}
use Rattle.st_version.specs.Replace.{DontMeet}

abbrev meets_any : FileEntries → List SharedTable → Bool
meets_any table others = list_any (λ (other : SharedTable). meet (table_range table) (table_range other.value.table)) others

pub none_meets : (table : FileEntries) (others : List SharedTable) → meets_any table others ≡ false → Each (DontMeet table) (tables_of others)
none_meets table [] e = tt
none_meets table (other ∷ others) e =
    let parts = or_parts (meet (table_range table) (table_range other.value.table)) (meets_any table others) e in
    (parts.0, none_meets table others parts.1)

pub one_meets : (table : FileEntries) (others : List SharedTable) → meets_any table others ≡ true → Each (DontMeet table) (tables_of others) → ⊥
one_meets table [] e each = absurd cc
one_meets table (other ∷ others) e each = step (meet (table_range table) (table_range other.value.table)) each.0 e (λ g. one_meets table others g each.1)
  where
    step : (b : Bool) → b ≡ false → (b || meets_any table others) ≡ true → (meets_any table others ≡ true → ⊥) → ⊥
    step true f g rest = absurd (false≢true (sym f))
    step false f g rest = rest g

-- one table less in front
pub rest_all : (tables left others : List SharedTable) (first : SharedTable) → left ≡ first ∷ others → Each (DontMeet first.value.table) (tables_of others)
    → (Pairwise DontMeet (tables_of left) → Pairwise DontMeet (tables_of tables)) → Pairwise DontMeet (tables_of others) → Pairwise DontMeet (tables_of tables)
rest_all tables left others first is each all pairs = all (subst (λ some. Pairwise DontMeet (tables_of some)) (sym is) (each, pairs))

pub rest_pairs : (tables left others : List SharedTable) (first : SharedTable) → left ≡ first ∷ others
    → (Pairwise DontMeet (tables_of tables) → Pairwise DontMeet (tables_of left)) → Pairwise DontMeet (tables_of tables) → Each (DontMeet first.value.table) (tables_of others) × Pairwise DontMeet (tables_of others)
rest_pairs tables left others first is rest pairs = subst (λ some. Pairwise DontMeet (tables_of some)) is (rest pairs)

-- a table without entries is not filled
pub not_filled : (tables : List SharedTable) (i : ℕ) (table : SharedTable) → i < length tables → table ≡ get_or tables i table → length table.value.table.entries ≡ 0 → Each HasEntry (tables_of tables) → ⊥
not_filled tables i table lt is none each =
    let there : HasEntry (get_or (tables_of tables) i table.value.table) = each_at HasEntry (tables_of tables) i table.value.table each (let long = length-map tables (λ (held : SharedTable). held.value.table) in omega (arith, long)) in
    let here : HasEntry table.value.table = subst HasEntry (mapped_there (λ (held : SharedTable). held.value.table) tables i table table.value.table lt is) there in
    omega (arith, here, none)
