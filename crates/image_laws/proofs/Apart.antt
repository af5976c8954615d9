-- Levels that an opening makes stand by key and apart, where it found no two tables that meet.
use Rattle.std.proofs.Common.{◌≡◌, ℕ, Bool, true, false, cond, ◌&&◌, not, List, [], ◌∷◌, map, filter, refl, sym, ap, ◌∙◌, true≢false, arith}
use Rattle.std.specs.Prelude.{IsTrue, ◌==◌}
use Rattle.std.specs.declared.cmp.Ordering.{Ordering}
use Rattle.std.specs.declared.cmp.Ordering.TheVariants.{Less, Equal, Greater}
use Rattle.std.specs.Ordering.{is_lt, is_le, ordering_reverse}
use Rattle.std.specs.List.{AllByRecursion as Each}
use Rattle.std.proofs.lemmas.Bool.{false≢true}
use Rattle.std.proofs.lemmas.Cmp.{nat_list_cmp_total}
use Rattle.st_base.specs.Bytes.{below, at_most, bytes_cmp}
use Rattle.st_base.specs.Order.{comes_before, rises_behind}
use Rattle.st_base.specs.declared.entry.Entry.{Entry}
use Rattle.st_base.specs.Range.{meet, key_at_front, key_at_end}
use Rattle.base_laws.proofs.Keys.{at_most_itself, at_most_trans, below_at_most, below_not, comes_before_key}
use Rattle.base_laws.proofs.Lists.{each_as, none_any}
use Rattle.core_model.specs.Picture.{FileEntries, put_by_key, table_range}
use Rattle.core_model.specs.RelationParts.{IsLevel, IsSortedRun}
use Rattle.store_image.specs.Opens.{meets_other, image_files_meeting}
use Rattle.store_image.specs.Parts.{by_key}
use Rattle.st_order.specs.Columns.{Pairwise}

-- ---- byte strings

-- what isn't at most is above
not_le : (a b : List ℕ) → at_most b a ≡ false → IsTrue (below a b)
not_le a b h = go (bytes_cmp b a) refl h
  where
    go : (r : Ordering) → bytes_cmp b a ≡ r → is_le r ≡ false → IsTrue (below a b)
    go Less e h = absurd (true≢false h)
    go Equal e h = absurd (true≢false h)
    go Greater e h = ap is_lt (nat_list_cmp_total.antisymm a b ∙ ap ordering_reverse e)

-- what isn't below is at most
not_lt : (a b : List ℕ) → below b a ≡ false → at_most a b ≡ true
not_lt a b h = go (bytes_cmp b a) refl h
  where
    go : (r : Ordering) → bytes_cmp b a ≡ r → is_lt r ≡ false → at_most a b ≡ true
    go Less e h = absurd (true≢false h)
    go Equal e h = ap is_le (nat_list_cmp_total.antisymm a b ∙ ap ordering_reverse e)
    go Greater e h = ap is_le (nat_list_cmp_total.antisymm a b ∙ ap ordering_reverse e)

-- ---- rows: the first key is at most the last

both : (b c : Bool) → (b && c) ≡ true → (b ≡ true) × (c ≡ true)
both true c e = (refl, e)
both false c e = absurd (false≢true e)

pub behind_end : (entry : Entry) (entries : List Entry) → rises_behind comes_before entry entries ≡ true → at_most entry.key (key_at_end (entry ∷ entries)) ≡ true
behind_end entry [] h = at_most_itself entry.key
behind_end entry (other ∷ entries) h =
    let parts = both (comes_before entry other) (rises_behind comes_before other entries) h in
    at_most_trans entry.key other.key (key_at_end (other ∷ entries)) (comes_before_key entry other parts.0) (behind_end other entries parts.1)

pub range_ordered : (entries : List Entry) → IsSortedRun entries → at_most (key_at_front entries) (key_at_end entries) ≡ true
range_ordered [] rows = refl
range_ordered (entry ∷ entries) rows = behind_end entry entries rows.ordered

-- ---- by key

abbrev IsUpTo : FileEntries → FileEntries → Type 0
IsUpTo one other = at_most (table_range one).first (table_range other).first ≡ true

put_each : (P : FileEntries → Type 0) (table : FileEntries) (tables : List FileEntries) → P table → Each P tables → Each P (put_by_key table tables)
put_each P table [] p h = (p, tt)
put_each P table (other ∷ tables) p h = go (below (key_at_front table.entries) (key_at_front other.entries)) (put_each P table tables p h.1)
  where
    go : (b : Bool) → Each P (put_by_key table tables) → Each P (cond b (table ∷ other ∷ tables) (other ∷ put_by_key table tables))
    go true rest = (p, h)
    go false rest = (h.0, rest)

put_sorted : (table : FileEntries) (tables : List FileEntries) → Pairwise IsUpTo tables → Pairwise IsUpTo (put_by_key table tables)
put_sorted table [] h = (tt, tt)
put_sorted table (other ∷ tables) h = go (below (key_at_front table.entries) (key_at_front other.entries)) refl (put_sorted table tables h.1)
  where
    go : (b : Bool) → below (key_at_front table.entries) (key_at_front other.entries) ≡ b → Pairwise IsUpTo (put_by_key table tables) → Pairwise IsUpTo (cond b (table ∷ other ∷ tables) (other ∷ put_by_key table tables))
    go true e rest = ((below_at_most (key_at_front table.entries) (key_at_front other.entries) e, each_as (IsUpTo other) (IsUpTo table) (λ one k. at_most_trans (key_at_front table.entries) (key_at_front other.entries) (key_at_front one.entries) (below_at_most (key_at_front table.entries) (key_at_front other.entries) e) k) tables h.0), h)
    go false e rest = (put_each (IsUpTo other) table tables (not_lt (key_at_front other.entries) (key_at_front table.entries) e) h.0, rest)

pub by_key_sorted : (tables : List FileEntries) → Pairwise IsUpTo (by_key tables)
by_key_sorted [] = tt
by_key_sorted (table ∷ tables) = put_sorted table (by_key tables) (by_key_sorted tables)

-- files differ in any order
abbrev DifferFiles : FileEntries → FileEntries → Type 0
DifferFiles one other = (other.file == one.file) ≡ false

put_files : (table : FileEntries) (tables : List FileEntries) → Each (λ other. DifferFiles table other × DifferFiles other table) tables → Pairwise DifferFiles tables → Pairwise DifferFiles (put_by_key table tables)
put_files table [] h pairs = (tt, tt)
put_files table (other ∷ tables) h pairs = go (below (key_at_front table.entries) (key_at_front other.entries)) (put_files table tables h.1 pairs.1)
  where
    go : (b : Bool) → Pairwise DifferFiles (put_by_key table tables) → Pairwise DifferFiles (cond b (table ∷ other ∷ tables) (other ∷ put_by_key table tables))
    go true rest = (each_as (λ other. DifferFiles table other × DifferFiles other table) (DifferFiles table) (λ one e. e.0) (other ∷ tables) h, pairs)
    go false rest = (put_each (DifferFiles other) table tables h.0.1 pairs.0, rest)

flip : (n m : ℕ) → (n == m) ≡ false → (m == n) ≡ false
flip n m e = grind arith

pub by_key_files : (tables : List FileEntries) → Pairwise DifferFiles tables → Pairwise DifferFiles (by_key tables)
by_key_files [] h = tt
by_key_files (table ∷ tables) h = put_files table (by_key tables) (by_key_each (λ other. DifferFiles table other × DifferFiles other table) tables (each_as (DifferFiles table) (λ other. DifferFiles table other × DifferFiles other table) (λ other e. (e, flip other.file table.file e)) tables h.0)) (by_key_files tables h.1)
  where
    by_key_each : (P : FileEntries → Type 0) (tables : List FileEntries) → Each P tables → Each P (by_key tables)
    by_key_each P [] h = tt
    by_key_each P (table ∷ tables) h = put_each P table (by_key tables) h.0 (by_key_each P tables h.1)

-- ---- apart

filter_empty : {X : Type 0} (p : X → Bool) (xs : List X) → filter p xs ≡ [] → Each (λ x. p x ≡ false) xs
filter_empty p [] e = tt
filter_empty p (x ∷ xs) e = go (p x) refl e (filter_empty p xs)
  where
    go : (b : Bool) → p x ≡ b → cond b (x ∷ filter p xs) (filter p xs) ≡ [] → (filter p xs ≡ [] → Each (λ x. p x ≡ false) xs) → Each (λ x. p x ≡ false) (x ∷ xs)
    go true f e rest = absurd (cc e)
    go false f e rest = (f, rest e)

map_empty : {X Y : Type 0} (f : X → Y) (xs : List X) → map f xs ≡ [] → xs ≡ []
map_empty f [] e = refl
map_empty f (x ∷ xs) e = absurd (cc e)

abbrev IsRightTable : FileEntries → Type 0
IsRightTable table = at_most (table_range table).first (table_range table).last ≡ true

abbrev IsApart : FileEntries → FileEntries → Type 0
IsApart one other = IsTrue (below (table_range one).last (table_range other).first)

-- tables by key that don't meet stand apart
apart_pair : (one other : FileEntries) → IsUpTo one other → DifferFiles one other → IsRightTable other → (not (other.file == one.file) && meet (table_range one) (table_range other)) ≡ false → IsApart one other
apart_pair one other up differ right e =
    not_le (table_range one).last (table_range other).first
    (ap (λ b. b && at_most (table_range other).first (table_range one).last) (sym (at_most_trans (table_range one).first (table_range other).first (table_range other).last up right)) ∙ ap (λ b. not b && meet (table_range one) (table_range other)) (sym differ) ∙ e)

pub level_apart : (tables : List FileEntries) → Pairwise IsUpTo tables → Pairwise DifferFiles tables → Each IsRightTable tables → Each (λ one. Each (λ other. (not (other.file == one.file) && meet (table_range one) (table_range other)) ≡ false) tables) tables → IsLevel tables
level_apart [] up differ right meets = tt
level_apart (one ∷ tables) up differ right meets = (
  firsts tables up.0 differ.0 right.1 meets.0.1,
  level_apart tables up.1 differ.1 right.1 (each_as (λ a. Each (λ other. (not (other.file == a.file) && meet (table_range a) (table_range other)) ≡ false) (one ∷ tables)) (λ a. Each (λ other. (not (other.file == a.file) && meet (table_range a) (table_range other)) ≡ false) tables) (λ a e. e.1) tables meets.1),
)
  where
    firsts : (others : List FileEntries) → Each (IsUpTo one) others → Each (DifferFiles one) others → Each IsRightTable others → Each (λ other. (not (other.file == one.file) && meet (table_range one) (table_range other)) ≡ false) others → Each (IsApart one) others
    firsts [] up differ right meets = tt
    firsts (other ∷ others) up differ right meets = (apart_pair one other up.0 differ.0 right.0 meets.0, firsts others up.1 differ.1 right.1 meets.1)

-- a level in which an opening found no two tables that meet
pub opened_level : (tables : List FileEntries) → Pairwise DifferFiles tables → Each IsRightTable (by_key tables) → image_files_meeting (by_key tables) ≡ [] → IsLevel (by_key tables)
opened_level tables differ right e =
    level_apart (by_key tables) (by_key_sorted tables) (by_key_files tables differ) right
    (each_as (λ one. meets_other (by_key tables) one ≡ false) (λ one. Each (λ other. (not (other.file == one.file) && meet (table_range one) (table_range other)) ≡ false) (by_key tables))
    (λ one e. none_any (λ other. not (other.file == one.file) && meet (table_range one) (table_range other)) (by_key tables) e) (by_key tables)
    (filter_empty (meets_other (by_key tables)) (by_key tables) (map_empty (λ (table : FileEntries). table.file) (filter (meets_other (by_key tables)) (by_key tables)) e)))

-- apart and right, so by first keys too
pub level_rises : (tables : List FileEntries) → IsLevel tables → Each IsRightTable tables → Pairwise (λ one other. IsTrue (below (table_range one).first (table_range other).first)) tables
level_rises [] apart right = tt
level_rises (one ∷ tables) apart right = (each_as (IsApart one) (λ other. IsTrue (below (table_range one).first (table_range other).first)) (λ other h. up other h) tables apart.0, level_rises tables apart.1 right.1)
  where
    up : (other : FileEntries) → IsApart one other → IsTrue (below (table_range one).first (table_range other).first)
    up other h = not_le (table_range one).first (table_range other).first (go (at_most (table_range other).first (table_range one).first) refl)
      where
        go : (b : Bool) → at_most (table_range other).first (table_range one).first ≡ b → at_most (table_range other).first (table_range one).first ≡ false
        go false e = e
        go true e = absurd (true≢false (sym (at_most_trans (table_range other).first (table_range one).first (table_range one).last e right.0) ∙ below_not (table_range one).last (table_range other).first h))
