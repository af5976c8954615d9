-- One pass along the tables of a level finds those that meet another one.
use Rattle.std.proofs.Common.{◌≡◌, ℕ, zero, suc, ◌+◌, ◌&&◌, ◌||◌, Bool, true, false, cond, not, List, [], ◌∷◌, ◌++◌, drop, flat_map, map, filter, Option, Some, None, refl, sym, ap, subst, ◌∙◌, inl, inr, eq-eqb, arith}
use Rattle.std.specs.Prelude.{◌==◌, slice_get}
use Rattle.std.specs.List.{list_any, AllByRecursion as Each}
use Rattle.std.proofs.lemmas.Bool.{and_from, cases_Bool, eqb-false, false≢true, ne_eqb, or_parts}
use Rattle.st_base.specs.Bytes.{at_most, below}
use Rattle.st_base.specs.Range.{key_at_end, key_at_front, meet}
use Rattle.base_laws.proofs.Keys.{at_most_itself, at_most_trans, below_at_most, not_below}
use Rattle.base_laws.proofs.Lists.{any_left, any_none, any_right, append_one, each_as, each_both, each_join, each_push, each_there}
use Rattle.core_model.specs.Picture.{FileEntries, table_range}
use Rattle.st_order.specs.Columns.{Pairwise}
use Rattle.store_image.specs.Opens.{image_files_meeting, least_file, meets_other}
use Rattle.st_version.specs.Held.{SharedTable, tables_of}
use Rattle.st_version.specs.Replace.{AreTables}
use Rattle.base_laws.proofs.Ranges.{range_is_proper}
use Rattle.opening_checks.specs.Least.{lesser_of}
use Rattle.opening_checks.specs.Meeting.{AreByFirstKey, StandsBefore, farther, is_amiss, is_reached, least_along, met_file, reaches_next}
use Rattle.opening_checks.proofs.Bools.{and_none, any_as, or_right, other_file}
use Rattle.opening_checks.proofs.Lesser.{least_join, lesser_joins, none_right, of_file}

abbrev first : FileEntries → List ℕ
first table = key_at_front table.entries

abbrev last : FileEntries → List ℕ
last table = key_at_end table.entries

-- the table's first key is at most its last
abbrev pub IsProper : FileEntries → Type 0
IsProper table = at_most (first table) (last table) ≡ true

abbrev hits : FileEntries → FileEntries → Bool
hits table other = not (other.file == table.file) && meet (table_range table) (table_range other)

-- ---- keys

no_way : (a b c : List ℕ) → at_most a c ≡ false → at_most b c ≡ true → at_most a b ≡ false
no_way a b c not_ac bc = elim (cases_Bool (at_most a b)) [
  | inl ab ↦ absurd (false≢true (sym not_ac ∙ at_most_trans a b c ab bc))
  | inr not_ab ↦ not_ab
]

no_start : (a b c : List ℕ) → at_most a c ≡ false → at_most a b ≡ true → at_most b c ≡ false
no_start a b c not_ac ab = elim (cases_Bool (at_most b c)) [
  | inl bc ↦ absurd (false≢true (sym not_ac ∙ at_most_trans a b c ab bc))
  | inr not_bc ↦ not_bc
]

-- ---- pairs around an element

module _ {X : Type 0} (R : X → X → Type 0) where
  pairs_to : (xs : List X) (y : X) (ys : List X) → Pairwise R (xs ++ y ∷ ys) → Each (λ x. R x y) xs
  pairs_to [] y ys pairs = tt
  pairs_to (x ∷ xs) y ys pairs = (each_there (R x) xs y ys pairs.0, pairs_to xs y ys pairs.1)

  pairs_from : (xs ys : List X) → Pairwise R (xs ++ ys) → Pairwise R ys
  pairs_from [] ys pairs = pairs
  pairs_from (x ∷ xs) ys pairs = pairs_from xs ys pairs.1

-- ---- how far the tables in front reach

abbrev Reaches : Option (List ℕ) → List FileEntries → Type 0
Reaches None front = front ≡ []
Reaches (Some key) front =
    Each (λ table. at_most (last table) key ≡ true) front × (list_any (λ table. at_most key (last table)) front ≡ true)

reaches_more : (reach : Option (List ℕ)) (front : List FileEntries) (table : FileEntries) → Reaches reach front → Reaches (Some (farther reach table)) (front ++ table ∷ [])
reaches_more None front table none =
    subst (λ some. Reaches (Some (last table)) (some ++ table ∷ [])) (sym none) ((at_most_itself (last table), tt), ap (λ t. t || false) (at_most_itself (last table)))
reaches_more (Some key) front table (each, any) = step (below key (last table)) refl
  where
    step : (t : Bool) → below key (last table) ≡ t → Reaches (Some (cond t (last table) key)) (front ++ table ∷ [])
    step true less = (
      each_push (λ one. at_most (last one) (last table) ≡ true) front table
          (each_as (λ one. at_most (last one) key ≡ true) (λ one. at_most (last one) (last table) ≡ true)
          (λ one le. at_most_trans (last one) key (last table) le (below_at_most key (last table) less)) front each)
          (at_most_itself (last table)),
      any_right (λ one. at_most (last table) (last one)) front (table ∷ []) (ap (λ t. t || false) (at_most_itself (last table))),
    )
    step false more = (
      each_push (λ one. at_most (last one) key ≡ true) front table each (not_below key (last table) more),
      any_left (λ one. at_most key (last one)) front (table ∷ []) any,
    )

-- ---- one table

module _ (table : FileEntries) (proper : IsProper table) where
  meets_front : (reach : Option (List ℕ)) (front : List FileEntries) → Each (λ one. StandsBefore one table) front → Reaches reach front → is_reached reach table ≡ true → list_any (hits table) front ≡ true
  meets_front None front before reaches e = absurd (false≢true e)
  meets_front (Some key) front before reaches e =
      any_as (λ one. at_most key (last one)) (hits table) front
      (each_as (λ one. StandsBefore one table) (λ one. at_most key (last one) ≡ true → hits table one ≡ true)
      (λ one stands far. and_from (not (one.file == table.file)) (meet (table_range table) (table_range one)) (other_file one.file table.file stands.differs)
      (and_from (at_most (first table) (last one)) (at_most (first one) (last table))
      (at_most_trans (first table) key (last one) e far) (at_most_trans (first one) (first table) (last table) stands.starts proper)))
      front before) reaches.1

  none_front : (reach : Option (List ℕ)) (front : List FileEntries) → Reaches reach front → is_reached reach table ≡ false → Each (λ one. hits table one ≡ false) front
  none_front None front reaches e = subst (Each (λ one. hits table one ≡ false)) (sym reaches) tt
  none_front (Some key) front reaches e =
      each_as (λ one. at_most (last one) key ≡ true) (λ one. hits table one ≡ false)
      (λ one le. ap (λ t. not (one.file == table.file) && (t && at_most (first one) (last table))) (no_way (first table) (last one) key e le) ∙ and_none (not (one.file == table.file)))
      front reaches.0

  itself : hits table table ≡ false
  itself = ap (λ t. not t && meet (table_range table) (table_range table)) (eq-eqb table.file table.file refl)

  meets_back : (back : List FileEntries) → Each (StandsBefore table) back → Each IsProper back → reaches_next table back ≡ true → list_any (hits table) back ≡ true
  meets_back [] behind proper e = absurd (false≢true e)
  meets_back (next ∷ back) behind propers e =
      ap (λ t. t || list_any (hits table) back)
      (and_from (not (next.file == table.file)) (meet (table_range table) (table_range next)) (other_file next.file table.file (λ is. behind.0.differs (sym is)))
      (and_from (at_most (first table) (last next)) (at_most (first next) (last table))
      (at_most_trans (first table) (first next) (last next) behind.0.starts propers.0) e))

  none_back : (back : List FileEntries) → AreByFirstKey back → reaches_next table back ≡ false → Each (λ one. hits table one ≡ false) back
  none_back [] level e = tt
  none_back (next ∷ back) level e =
      each_as (λ one. at_most (first next) (first one) ≡ true) (λ one. hits table one ≡ false)
      (λ one le. ap (λ t. not (one.file == table.file) && (at_most (first table) (last one) && t)) (no_start (first next) (first one) (last table) e le)
      ∙ ap (λ t. not (one.file == table.file) && t) (and_none (at_most (first table) (last one))) ∙ and_none (not (one.file == table.file)))
      (next ∷ back) (at_most_itself (first next), each_as (StandsBefore next) (λ one. at_most (first next) (first one) ≡ true) (λ one stands. stands.starts) back level.0)

  module _ (reach : Option (List ℕ)) (front back : List FileEntries) (level : AreByFirstKey (front ++ table ∷ back)) (propers : Each IsProper back) (reaches : Reaches reach front) where
    before : Each (λ one. StandsBefore one table) front
    before = pairs_to StandsBefore front table back level

    behind : AreByFirstKey (table ∷ back)
    behind = pairs_from StandsBefore front (table ∷ back) level

    pub is_met : meets_other (front ++ table ∷ back) table ≡ (is_reached reach table || reaches_next table back)
    is_met = by_cases (is_reached reach table) refl (reaches_next table back) refl
      where
        by_cases : (r : Bool) → is_reached reach table ≡ r → (n : Bool) → reaches_next table back ≡ n → list_any (hits table) (front ++ table ∷ back) ≡ (r || n)
        by_cases true e n f = any_left (hits table) front (table ∷ back) (meets_front reach front before reaches e)
        by_cases false e true f = any_right (hits table) front (table ∷ back) (or_right (hits table table) (list_any (hits table) back) (meets_back back behind.0 propers f))
        by_cases false e false f =
            any_none (hits table) (front ++ table ∷ back)
            (each_join (λ one. hits table one ≡ false) front (table ∷ back) (none_front reach front reaches e) (itself, none_back back behind.1 f))

-- ---- the pass

abbrev files_met : List FileEntries → List FileEntries → List ℕ
files_met all tables = map (λ table. table.file) (filter (meets_other all) tables)

along : (all front back : List FileEntries) (reach : Option (List ℕ)) → all ≡ front ++ back → AreByFirstKey all → Each IsProper back → Reaches reach front → least_along reach back ≡ least_file (files_met all back)
along all front [] reach e level propers reaches = refl
along all front (table ∷ back) reach e level propers reaches =
    let rest = along all (front ++ table ∷ []) back (Some (farther reach table)) (e ∙ sym (append_one front table back)) level propers.1 (reaches_more reach front table reaches) in
    let met : meets_other all table ≡ (is_reached reach table || reaches_next table back) =
    ap (λ (some : List FileEntries). meets_other some table) e ∙ is_met table propers.0 reach front back (subst AreByFirstKey e level) propers.1 reaches in
    ap (lesser_of (met_file reach table back)) rest ∙ pick (is_reached reach table || reaches_next table back)
    ∙ sym (ap (λ t. least_file (map (λ (one : FileEntries). one.file) (cond t (table ∷ filter (meets_other all) back) (filter (meets_other all) back)))) met)
  where
    pick : (t : Bool) → lesser_of (cond t (Some table.file) None) (least_file (files_met all back)) ≡ least_file (map (λ (one : FileEntries). one.file) (cond t (table ∷ filter (meets_other all) back) (filter (meets_other all) back)))
    pick true = sym (of_file table.file (least_file (files_met all back)))
    pick false = refl

pub least_is : (tables : List FileEntries) → AreByFirstKey tables → Each IsProper tables → least_along None tables ≡ least_file (files_met tables tables)
least_is tables level propers = along tables [] tables None refl level propers refl

-- ---- the steps of the pass

pub along_step : (whole least next met : Option ℕ) (reach after : Option (List ℕ)) (left others : List FileEntries) (table : FileEntries)
    → whole ≡ lesser_of least (least_along reach left) → left ≡ table ∷ others → met ≡ met_file reach table others → next ≡ lesser_of least met → after ≡ Some (farther reach table)
    → whole ≡ lesser_of next (least_along after others)
along_step whole least next met reach after left others table is left_is met_is next_is after_is =
    is ∙ ap (λ some. lesser_of least (least_along reach some)) left_is
    ∙ lesser_joins least (met_file reach table others) (least_along (Some (farther reach table)) others)
    ∙ ap (λ one. lesser_of one (least_along (Some (farther reach table)) others)) (ap (lesser_of least) (sym met_is) ∙ sym next_is)
    ∙ ap (λ some. lesser_of next (least_along some others)) (sym after_is)

pub along_ends : (whole least : Option ℕ) (reach : Option (List ℕ)) (left : List FileEntries) → whole ≡ lesser_of least (least_along reach left) → left ≡ [] → least ≡ whole
along_ends whole least reach left is none = sym (is ∙ ap (λ some. lesser_of least (least_along reach some)) none ∙ none_right least)

pub proper_all : (tables : List FileEntries) → AreTables tables → Each IsProper tables
proper_all [] are = tt
proper_all (table ∷ tables) are = (range_is_proper table.entries are.0.ordered, proper_all tables are.1)

-- the tables of one level, and those of the levels below it
pub level_here : (levels : List (List SharedTable)) (n : ℕ) (tables : List SharedTable) → slice_get levels n ≡ Some tables
    → least_file (flat_map image_files_meeting (drop n (map tables_of levels))) ≡ lesser_of (least_file (image_files_meeting (tables_of tables))) (least_file (flat_map image_files_meeting (drop (n + 1) (map tables_of levels))))
level_here [] n tables at = absurd cc
level_here (some ∷ levels) zero tables at =
    let is : some ≡ tables = cc in
    least_join (image_files_meeting (tables_of some)) (flat_map image_files_meeting (map tables_of levels))
    ∙ ap (λ one. lesser_of (least_file (image_files_meeting (tables_of one))) (least_file (flat_map image_files_meeting (map tables_of levels)))) is
level_here (some ∷ levels) (suc n) tables at =
    level_here levels n tables at
    ∙ ap (λ m. lesser_of (least_file (image_files_meeting (tables_of tables))) (least_file (flat_map image_files_meeting (drop m (map tables_of (some ∷ levels)))))) (let e : suc (n + 1) ≡ suc n + 1 = omega arith in e)

-- ---- tables that are told to stand by their first keys

-- one table less in front
pub rest_before : (tables left others : List SharedTable) (first_one : SharedTable) → left ≡ first_one ∷ others → Each (StandsBefore first_one.value.table) (tables_of others)
    → (AreByFirstKey (tables_of left) → AreByFirstKey (tables_of tables)) → AreByFirstKey (tables_of others) → AreByFirstKey (tables_of tables)
rest_before tables left others first_one is each all pairs = all (subst (λ some. AreByFirstKey (tables_of some)) (sym is) (each, pairs))

pub rest_pairs : (tables left others : List SharedTable) (first_one : SharedTable) → left ≡ first_one ∷ others
    → (AreByFirstKey (tables_of tables) → AreByFirstKey (tables_of left)) → AreByFirstKey (tables_of tables) → Each (StandsBefore first_one.value.table) (tables_of others) × AreByFirstKey (tables_of others)
rest_pairs tables left others first_one is rest pairs = subst (λ some. AreByFirstKey (tables_of some)) is (rest pairs)

-- a table stands before another one exactly where this isn't amiss
stands_if : (one other : FileEntries) → is_amiss one other ≡ false → StandsBefore one other
stands_if one other e =
    let parts = or_parts (not (at_most (first one) (first other))) (one.file == other.file) e in
    record { starts = is_true (at_most (first one) (first other)) parts.0; differs = eqb-false one.file other.file parts.1 }
  where
    is_true : (b : Bool) → not b ≡ false → b ≡ true
    is_true true f = refl
    is_true false f = absurd (false≢true (sym f))

right_if : (one other : FileEntries) → StandsBefore one other → is_amiss one other ≡ false
right_if one other stands = ap (λ t. not t || (one.file == other.file)) stands.starts ∙ ne_eqb one.file other.file stands.differs

abbrev pub any_amiss : FileEntries → List SharedTable → Bool
any_amiss table others = list_any (λ (other : SharedTable). is_amiss table other.value.table) others

pub none_amiss : (table : FileEntries) (others : List SharedTable) → any_amiss table others ≡ false → Each (StandsBefore table) (tables_of others)
none_amiss table [] e = tt
none_amiss table (other ∷ others) e =
    let parts = or_parts (is_amiss table other.value.table) (any_amiss table others) e in
    (stands_if table other.value.table parts.0, none_amiss table others parts.1)

all_right : (table : FileEntries) (others : List SharedTable) → Each (StandsBefore table) (tables_of others) → any_amiss table others ≡ false
all_right table [] each = refl
all_right table (other ∷ others) each = ap (λ t. t || any_amiss table others) (right_if table other.value.table each.0) ∙ all_right table others each.1

pub one_amiss : (table : FileEntries) (others : List SharedTable) → any_amiss table others ≡ true → Each (StandsBefore table) (tables_of others) → ⊥
one_amiss table others e each = false≢true (sym (all_right table others each) ∙ e)
