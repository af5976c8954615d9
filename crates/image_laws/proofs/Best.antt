-- The mark of the greatest number is the first along the walk.
use Rattle.std.proofs.Common.{◌≡◌, ℕ, ◌+◌, ◌<◌, ◌≤◌, Bool, true, false, cond, ◌&&◌, ◌||◌, List, [], ◌∷◌, ◌++◌, map, fold, Option, Some, None, refl, sym, ap, subst, ◌∙◌, inl, inr, append-nil, arith}
use Rattle.std.specs.Prelude.{nat_lt, ◌==◌, ◌⊎◌, take, drop, slice_get, unwrap_or}
use Rattle.std.specs.List.{AllByRecursion as Each}
use Rattle.std.specs.Option.{option_map}
use Rattle.std.proofs.lemmas.Bool.{le-leb, le-ltb}
use Rattle.st_base.specs.Bytes.{same}
use Rattle.st_base.specs.declared.entry.Entry.{Entry}
use Rattle.base_laws.proofs.Lists.{each_as, each_filter, each_join}
use Rattle.core_laws.proofs.LevelLists.{map_append}
use Rattle.core_laws.proofs.Lists.{filter_join, pairs_as, pairs_filter, pairs_join}
use Rattle.core_model.specs.Picture.{FileEntries, FamilyView, runs_of, tables_in, memories, walk, find_mark, above, level_at}
use Rattle.core_model.specs.RelationParts.{NumbersFall, NumbersWithin}
use Rattle.job_model.specs.Column.{Falls, first_at, found_at}
use Rattle.store_image.specs.Image.{Ranked, ranked, ranked_levels, all_ranked, is_better, better, best, ranked_of, image_mark}
use Rattle.manifest_edits.specs.Edits.{Placement}
use Rattle.store_image.specs.Parts.{ImageParts, image_levels, level_of, table_at, placed_at}
use Rattle.store_image.specs.Opens.{OpenedImageFamily, image_entries_of}
use Rattle.image_laws.proofs.Lists.{filter_map, flat_append, column_joined}
use Rattle.st_order.specs.Columns.{Pairwise, column, of_key}

abbrev entry_in : Ranked → Entry
entry_in one = one.entry

-- ---- the entries of the ranked list

map_ranked : (rank : ℕ) (entries : List Entry) → map entry_in (ranked rank entries) ≡ entries
map_ranked rank [] = refl
map_ranked rank (entry ∷ entries) = ap (λ l. entry ∷ l) (map_ranked rank entries)

map_ranked_levels : (rank : ℕ) (levels : List (List FileEntries)) → map entry_in (ranked_levels rank levels) ≡ image_entries_of (tables_in levels)
map_ranked_levels rank [] = refl
map_ranked_levels rank (level ∷ levels) =
    map_append entry_in (ranked rank (image_entries_of level)) (ranked_levels (rank + 1) levels)
    ∙ ap (λ l. l ++ map entry_in (ranked_levels (rank + 1) levels)) (map_ranked rank (image_entries_of level))
    ∙ ap (λ l. image_entries_of level ++ l) (map_ranked_levels (rank + 1) levels)
    ∙ sym (flat_append (λ (table : FileEntries). table.entries) level (tables_in levels))

pub ranked_column : (family : OpenedImageFamily) (key : List ℕ) → map entry_in (ranked_of key (all_ranked family)) ≡ of_key key family.counted ++ column key (runs_of (tables_in family.levels))
ranked_column family key =
    sym (filter_map entry_in (λ (entry : Entry). same entry.key key) (all_ranked family))
    ∙ ap (of_key key) (map_append entry_in (ranked 0 family.counted) (ranked_levels 1 family.levels) ∙ ap (λ l. l ++ map entry_in (ranked_levels 1 family.levels)) (map_ranked 0 family.counted) ∙ ap (λ l. family.counted ++ l) (map_ranked_levels 1 family.levels))
    ∙ filter_join (λ (entry : Entry). same entry.key key) family.counted (image_entries_of (tables_in family.levels))
    ∙ ap (λ l. of_key key family.counted ++ l) (column_joined key (tables_in family.levels))

-- ---- ranks rise

abbrev NotAbove : Ranked → Ranked → Type 0
NotAbove one other = one.rank ≤ other.rank

each_ranked : (n rank : ℕ) (entries : List Entry) → n ≤ rank → Each (λ (one : Ranked). n ≤ one.rank) (ranked rank entries)
each_ranked n rank [] h = tt
each_ranked n rank (entry ∷ entries) h = (h, each_ranked n rank entries h)

each_levels : (n rank : ℕ) (levels : List (List FileEntries)) → n ≤ rank → Each (λ (one : Ranked). n ≤ one.rank) (ranked_levels rank levels)
each_levels n rank [] h = tt
each_levels n rank (level ∷ levels) h = each_join (λ (one : Ranked). n ≤ one.rank) (ranked rank (image_entries_of level)) (ranked_levels (rank + 1) levels) (each_ranked n rank (image_entries_of level) h) (each_levels n (rank + 1) levels (omega arith))

pairs_ranked : (rank : ℕ) (entries : List Entry) → Pairwise NotAbove (ranked rank entries)
pairs_ranked rank [] = tt
pairs_ranked rank (entry ∷ entries) = (each_ranked rank rank entries (omega arith), pairs_ranked rank entries)

across : (rank : ℕ) (entries : List Entry) (others : List Ranked) → Each (λ (one : Ranked). rank ≤ one.rank) others → Each (λ one. Each (NotAbove one) others) (ranked rank entries)
across rank [] others h = tt
across rank (entry ∷ entries) others h = (h, across rank entries others h)

pairs_levels : (rank : ℕ) (levels : List (List FileEntries)) → Pairwise NotAbove (ranked_levels rank levels)
pairs_levels rank [] = tt
pairs_levels rank (level ∷ levels) =
    pairs_join NotAbove (ranked rank (image_entries_of level)) (ranked_levels (rank + 1) levels) (pairs_ranked rank (image_entries_of level)) (pairs_levels (rank + 1) levels)
    (across rank (image_entries_of level) (ranked_levels (rank + 1) levels) (each_levels rank (rank + 1) levels (omega arith)))

pub ranks_rise : (family : OpenedImageFamily) → Pairwise NotAbove (all_ranked family)
ranks_rise family =
    pairs_join NotAbove (ranked 0 family.counted) (ranked_levels 1 family.levels) (pairs_ranked 0 family.counted) (pairs_levels 1 family.levels)
    (across 0 family.counted (ranked_levels 1 family.levels) (each_levels 0 1 family.levels (omega arith)))

-- ---- the first is the best

abbrev AtMost : Entry → Entry → Type 0
AtMost one other = other.number ≤ one.number

not_better : (one other : Ranked) → one.entry.number ≤ other.entry.number → other.rank ≤ one.rank → is_better one other ≡ false
not_better one other number rank =
    ap (λ b. b || (other.entry.number == one.entry.number && nat_lt one.rank other.rank)) (le-ltb other.entry.number one.entry.number number)
    ∙ ap (λ b. (other.entry.number == one.entry.number) && b) (le-ltb one.rank other.rank rank)
    ∙ never (other.entry.number == one.entry.number)
  where
    never : (b : Bool) → (b && false) ≡ false
    never true = refl
    never false = refl

keeps_best : (x : Ranked) (xs : List Ranked) → Each (λ other. is_better other x ≡ false) xs → fold better (Some x) xs ≡ Some x
keeps_best x [] h = refl
keeps_best x (y ∷ ys) h = ap (λ b. fold better (cond b (Some y) (Some x)) ys) h.0 ∙ keeps_best x ys h.1

abbrev head_of : {X : Type 0} → List X → Option X
head_of [] = None
head_of (x ∷ xs) = Some x

-- a list whose ranks rise and whose numbers fall
first_best : (xs : List Ranked) → Pairwise NotAbove xs → Pairwise AtMost (map entry_in xs) → option_map entry_in (best xs) ≡ head_of (map entry_in xs)
first_best [] ranks numbers = refl
first_best (x ∷ xs) ranks numbers = ap (option_map entry_in) (keeps_best x xs (worse xs ranks.0 numbers.0))
  where
    worse : (ys : List Ranked) → Each (NotAbove x) ys → Each (AtMost x.entry) (map entry_in ys) → Each (λ other. is_better other x ≡ false) ys
    worse [] r n = tt
    worse (y ∷ ys) r n = (not_better y x n.0 r.0, worse ys r.1 n.1)

first_found : (last : ℕ) (xs : List Entry) → Each (λ entry. entry.number ≤ last) xs → first_at last xs ≡ head_of xs
first_found last [] h = refl
first_found last (x ∷ xs) h = ap (λ b. cond b (Some x) (first_at last xs)) (le-leb x.number last h.0)

-- the column of the key: operations first
abbrev pub opened_column : OpenedImageFamily → List ℕ → List Entry
opened_column family key = of_key key family.counted ++ column key (runs_of (tables_in family.levels))

-- the mark by numbers is the first that a read finds
pub mark_is_first : (family : OpenedImageFamily) (last : ℕ) (key : List ℕ) → Pairwise AtMost (opened_column family key) → Each (λ entry. entry.number ≤ last) (opened_column family key)
    → image_mark family key ≡ found_at last (opened_column family key)
mark_is_first family last key falls within =
    marks (best (ranked_of key (all_ranked family)))
    ∙ ap (option_map (λ (entry : Entry). entry.mark))
    (first_best (ranked_of key (all_ranked family)) (pairs_filter NotAbove (λ (one : Ranked). same one.entry.key key) (all_ranked family) (ranks_rise family)) (subst (Pairwise AtMost) (sym (ranked_column family key)) falls)
    ∙ ap head_of (ranked_column family key)
    ∙ sym (first_found last (opened_column family key) within))
  where
    marks : (found : Option Ranked) → option_map (λ (one : Ranked). one.entry.mark) found ≡ option_map (λ (entry : Entry). entry.mark) (option_map entry_in found)
    marks None = refl
    marks (Some one) = refl

-- ---- a family of the core that has the same columns

-- numbers fall along the walk
at_most_both : (upper lower : List Entry) → Falls upper lower → Pairwise AtMost (upper ++ lower)
at_most_both upper lower falls =
    pairs_join AtMost upper lower (pairs_as (λ one other. other.number < one.number) AtMost (λ one other h. omega arith) upper falls.above)
    (pairs_as (λ one other. other.number < one.number) AtMost (λ one other h. omega arith) lower falls.below)
    (each_as (λ one. Each (λ other. (other.number < one.number) ⊎ (other.number ≡ 0)) lower) (λ one. Each (AtMost one) lower)
    (λ one. each_as (λ other. (other.number < one.number) ⊎ (other.number ≡ 0)) (AtMost one) (λ other h. weak one other h) lower) upper falls.across)
  where
    weak : (one other : Entry) → (other.number < one.number) ⊎ (other.number ≡ 0) → other.number ≤ one.number
    weak one other (inl h) = omega arith
    weak one other (inr h) = omega arith

-- seven levels in two: those above the last one, and it
tables_two : (a b c d e f g : List FileEntries) → let levels = a ∷ b ∷ c ∷ d ∷ e ∷ f ∷ g ∷ [] in tables_in levels ≡ tables_in (take 6 levels) ++ unwrap_or (slice_get levels 6) []
tables_two a b c d e f g =
    flat_append {X = List FileEntries} (λ level. level) (a ∷ b ∷ c ∷ d ∷ e ∷ f ∷ []) (g ∷ []) ∙ ap (λ l. tables_in (a ∷ b ∷ c ∷ d ∷ e ∷ f ∷ []) ++ l) (append-nil g)

abbrev pub IsSeven : List (List FileEntries) → Type 0
IsSeven levels = tables_in levels ≡ tables_in (take 6 levels) ++ unwrap_or (slice_get levels 6) []

pub levels_seven : (parts : ImageParts) (placed : List Placement) → IsSeven (image_levels parts placed)
levels_seven parts placed = tables_two (map (table_at parts) (placed_at 0 placed)) (level_of parts placed 1) (level_of parts placed 2) (level_of parts placed 3) (level_of parts placed 4) (level_of parts placed 5) (level_of parts placed 6)

abbrev pub IsLower : List (List FileEntries) → Type 0
IsLower levels = tables_in (drop 6 levels) ≡ unwrap_or (slice_get levels 6) []

pub levels_lower : (parts : ImageParts) (placed : List Placement) → IsLower (image_levels parts placed)
levels_lower parts placed = append-nil (level_of parts placed 6)

pub column_append : (key : List ℕ) (one other : List (List Entry)) → column key (one ++ other) ≡ column key one ++ column key other
column_append key one other = flat_append (of_key key) one other

column_tables : (key : List ℕ) (one other : List FileEntries) → column key (runs_of (one ++ other)) ≡ column key (runs_of one) ++ column key (runs_of other)
column_tables key one other = ap (column key) (map_append (λ (table : FileEntries). table.entries) one other) ∙ column_append key (runs_of one) (runs_of other)

assoc : {Z : Type 0} (a b c : List Z) → a ++ (b ++ c) ≡ (a ++ b) ++ c
assoc [] b c = refl
assoc (z ∷ a) b c = ap (λ l. z ∷ l) (assoc a b c)

-- the walk in two: above the last level, and the last level
pub column_two : (key : List ℕ) (family : FamilyView) → IsSeven family.levels → column key (walk family) ≡ column key (above family 6) ++ column key (runs_of (level_at family 6))
column_two key family seven =
    column_append key (memories family) (runs_of (tables_in family.levels))
    ∙ ap (λ l. column key (memories family) ++ l) (ap (λ tables. column key (runs_of tables)) seven ∙ column_tables key (tables_in (take 6 family.levels)) (level_at family 6))
    ∙ assoc (column key (memories family)) (column key (runs_of (tables_in (take 6 family.levels)))) (column key (runs_of (level_at family 6)))
    ∙ ap (λ l. l ++ column key (runs_of (level_at family 6))) (sym (column_append key (memories family) (runs_of (tables_in (take 6 family.levels)))))

-- what holds of each entry of the runs holds of each of a column
pub each_column : (P : Entry → Type 0) (key : List ℕ) (runs : List (List Entry)) → Each (Each P) runs → Each P (column key runs)
each_column P key [] h = tt
each_column P key (run ∷ runs) h = each_join P (of_key key run) (column key runs) (each_filter P (λ (entry : Entry). same entry.key key) run h.0) (each_column P key runs h.1)

-- a family of the image and one of the core, with the same columns
pub record HasColumns (opened : OpenedImageFamily) (family : FamilyView) : Type 0 where
  pub seven : IsSeven family.levels
  pub lower : IsLower family.levels
  pub levels : opened.levels ≡ family.levels
  pub memory : (key : List ℕ) → column key (memories family) ≡ of_key key opened.counted

pub columns_same : (opened : OpenedImageFamily) (family : FamilyView) (key : List ℕ) → HasColumns opened family → opened_column opened key ≡ column key (walk family)
columns_same opened family key has =
    ap (λ l. l ++ column key (runs_of (tables_in opened.levels))) (sym (has.memory key))
    ∙ ap (λ levels. column key (memories family) ++ column key (runs_of (tables_in levels))) has.levels
    ∙ sym (column_append key (memories family) (runs_of (tables_in family.levels)))

-- the mark by numbers is the mark that a read now finds
pub mark_found : (opened : OpenedImageFamily) (family : FamilyView) (last : ℕ) (key : List ℕ) → HasColumns opened family → NumbersFall family → NumbersWithin last family
    → image_mark opened key ≡ find_mark family last key
mark_found opened family last key has falls within =
    mark_is_first opened last key
    (subst (Pairwise AtMost) (sym (columns_same opened family key has ∙ column_two key family has.seven)) (at_most_both (column key (above family 6)) (column key (runs_of (level_at family 6))) (falls key)))
    (subst (Each (λ entry. entry.number ≤ last)) (sym (columns_same opened family key has)) (each_column (λ entry. entry.number ≤ last) key (walk family) within))
    ∙ ap (found_at last) (columns_same opened family key has)
