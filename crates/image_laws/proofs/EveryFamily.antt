-- One family of an image without damage: what is read of it stands for its family of the state.
use Rattle.std.proofs.Common.{◌≡◌, ℕ, zero, suc, ◌+◌, ◌<◌, ◌≤◌, Bool, true, false, cond, ◌&&◌, List, [], ◌∷◌, ◌++◌, length, map, Option, Some, None, refl, sym, ap, subst, ◌∙◌, arith}
use Rattle.std.specs.Prelude.{IsTrue, nat_lt, ◌==◌}
use Rattle.std.specs.declared.cmp.Ordering.{Ordering}
use Rattle.std.specs.declared.cmp.Ordering.TheVariants.{Less, Equal, Greater}
use Rattle.std.specs.Ordering.{is_lt, ordering_reverse}
use Rattle.std.specs.List.{flat_map, AllByRecursion as Each}
use Rattle.std.proofs.lemmas.Bool.{false≢true, ltb-true, eqb-true}
use Rattle.st_base.specs.Bytes.{same, below, at_most}
use Rattle.st_base.specs.Order.{position_cmp, comes_before, rises_behind, in_order}
use Rattle.st_base.specs.declared.entry.Entry.{Entry}
use Rattle.st_base.proofs.Ordered.{positions_total, positions_strict, number_down, entries_pairs}
use Rattle.st_base.proofs.Same.{same_true}
use Rattle.base_laws.proofs.Keys.{at_most_itself, at_most_trans, below_not, comes_before_key, less_of}
use Rattle.base_laws.proofs.Lists.{each_as, each_filter, each_join, each_map, filter_none}
use Rattle.core_laws.proofs.Lists.{pairs_filter, pairs_join}
use Rattle.core_model.specs.Picture.{FileEntries, runs_of, tables_in, table_range, put_by_key}
use Rattle.core_model.specs.RelationParts.{IsLevel, HasEntry, IsSortedRun, FitsSizes}
use Rattle.core_model.specs.Step.{put_in_memory}
use Rattle.st_base.specs.Range.{key_at_front, key_at_end}
use Rattle.manifest_edits.specs.Edits.{Placement}
use Rattle.store_image.specs.Opens.{is_sound, holds_table, is_table}
use Rattle.store_image.specs.Parts.{ImageParts, TableFile, entries_acting, file_entries, table_at, placed_at, by_key, level_of, image_levels}
use Rattle.store_image.specs.Recover.{mem_of}
use Rattle.image_laws.proofs.Apart.{behind_end}
use Rattle.image_laws.proofs.Recovered.{FallsTo, each_mem}
use Rattle.image_laws.proofs.RecoveredReads.{same_join}
use Rattle.image_laws.proofs.EveryEdits.{OtherFile, pairs_of_all}
use Rattle.st_order.specs.Columns.{Pairwise, column, of_key}

-- ---- entries in order

-- of two entries of one key in order the first has the greater number
less_number : (one other : Entry) → comes_before one other ≡ true → same one.key other.key ≡ true → FallsTo one other
less_number one other h s = by (nat_lt other.number one.number) refl
  where
    place : position_cmp other.key one.number other.key other.number ≡ Less
    place = less_of (position_cmp other.key one.number other.key other.number) (subst (λ k. is_lt (position_cmp k one.number other.key other.number) ≡ true) (same_true one.key other.key s) h)

    turned : (o : Ordering) → o ≡ Less → position_cmp other.key one.number other.key other.number ≡ ordering_reverse o → FallsTo one other
    turned o e f = let bad : Less ≡ Greater = sym place ∙ f ∙ ap ordering_reverse e in absurd (cc bad)

    equal : one.number ≡ other.number → FallsTo one other
    equal e =
        let back = positions_total.antisymm (other.key, other.number) (other.key, other.number) in
        let same_ : position_cmp other.key other.number other.key other.number ≡ Less = subst (λ n. position_cmp other.key n other.key other.number ≡ Less) e place in
        let bad : Less ≡ Greater = sym same_ ∙ back ∙ ap ordering_reverse same_ in
        absurd (cc bad)

    up : (c : Bool) → nat_lt one.number other.number ≡ c → nat_lt other.number one.number ≡ false → FallsTo one other
    up true e f = turned (position_cmp other.key other.number other.key one.number) (number_down other.key other.number one.number (ltb-true one.number other.number e)) (positions_total.antisymm (other.key, one.number) (other.key, other.number))
    up false e f = equal (grind arith)

    by : (b : Bool) → nat_lt other.number one.number ≡ b → FallsTo one other
    by true e = ltb-true other.number one.number e
    by false e = up (nat_lt one.number other.number) refl e

-- the entries of a key in one run fall
pub run_column_falls : (key : List ℕ) (entries : List Entry) → Pairwise (λ one other. comes_before one other ≡ true) entries → Pairwise FallsTo (of_key key entries)
run_column_falls key [] h = tt
run_column_falls key (e ∷ es) h = by (same e.key key) refl (run_column_falls key es h.1)
  where
    less : (os : List Entry) → same e.key key ≡ true → Each (λ other. comes_before e other ≡ true) os → Each (FallsTo e) (of_key key os)
    less [] s k = tt
    less (o ∷ os) s k = pick (same o.key key) refl (less os s k.1)
      where
        pick : (b : Bool) → same o.key key ≡ b → Each (FallsTo e) (of_key key os) → Each (FallsTo e) (cond b (o ∷ of_key key os) (of_key key os))
        pick true f rest = (less_number e o k.0 (same_join e.key key o.key s f), rest)
        pick false f rest = rest

    by : (b : Bool) → same e.key key ≡ b → Pairwise FallsTo (of_key key es) → Pairwise FallsTo (cond b (e ∷ of_key key es) (of_key key es))
    by true s rest = (less es s h.0, rest)
    by false s rest = rest

in_pairs : (entries : List Entry) → IsSortedRun entries → Pairwise (λ one other. comes_before one other ≡ true) entries
in_pairs entries rows = pairs_of_all (λ (one other : Entry). comes_before one other ≡ true) entries (entries_pairs entries rows.ordered)

-- ---- the keys of rows lie in their range

both : (b c : Bool) → (b && c) ≡ true → (b ≡ true) × (c ≡ true)
both true c e = (refl, e)
both false c e = absurd (false≢true e)

up_to_end : (entry : Entry) (entries : List Entry) → rises_behind comes_before entry entries ≡ true → Each (λ (e : Entry). at_most e.key (key_at_end (entry ∷ entries)) ≡ true) (entry ∷ entries)
up_to_end entry [] h = (at_most_itself entry.key, tt)
up_to_end entry (other ∷ entries) h = (behind_end entry (other ∷ entries) h, up_to_end other entries (both (comes_before entry other) (rises_behind comes_before other entries) h).1)

rows_end : (entries : List Entry) → IsSortedRun entries → Each (λ (e : Entry). at_most e.key (key_at_end entries) ≡ true) entries
rows_end [] rows = tt
rows_end (e ∷ es) rows = up_to_end e es rows.ordered

rows_front : (entries : List Entry) → IsSortedRun entries → Each (λ (e : Entry). at_most (key_at_front entries) e.key ≡ true) entries
rows_front [] rows = tt
rows_front (e ∷ es) rows = (at_most_itself e.key, each_as (λ (other : Entry). comes_before e other ≡ true) (λ other. at_most e.key other.key ≡ true) (λ other h. comes_before_key e other h) es (in_pairs (e ∷ es) rows).0)

-- ---- the tables of a level share no key

abbrev IsApart : FileEntries → FileEntries → Type 0
IsApart one other = IsTrue (below (table_range one).last (table_range other).first)

none_shared : (key : List ℕ) (one other : FileEntries) → at_most key (table_range one).last ≡ true → IsApart one other → IsSortedRun other.entries → of_key key other.entries ≡ []
none_shared key one other within apart rows = filter_none (λ (entry : Entry). same entry.key key) other.entries (each_as (λ (e : Entry). at_most (key_at_front other.entries) e.key ≡ true) (λ e. same e.key key ≡ false) not_it other.entries (rows_front other.entries rows))
  where
    not_it : (e : Entry) → at_most (key_at_front other.entries) e.key ≡ true → same e.key key ≡ false
    not_it e h = by (same e.key key) refl
      where
        by : (b : Bool) → same e.key key ≡ b → same e.key key ≡ false
        by true s = absurd (false≢true (sym (below_not (table_range one).last (table_range other).first apart)
            ∙ at_most_trans (table_range other).first key (table_range one).last (subst (λ k. at_most (table_range other).first k ≡ true) (same_true e.key key s) h) within))
        by false s = s

others_empty : (key : List ℕ) (one : FileEntries) (others : List FileEntries) → at_most key (table_range one).last ≡ true → Each (IsApart one) others → Each IsSortedRun (runs_of others) → column key (runs_of others) ≡ []
others_empty key one [] within apart rows = refl
others_empty key one (other ∷ others) within apart rows = ap (λ l. l ++ column key (runs_of others)) (none_shared key one other within apart.0 rows.0) ∙ others_empty key one others within apart.1 rows.1

key_within : (key : List ℕ) (last : List ℕ) (entries : List Entry) → Each (λ (e : Entry). at_most e.key last ≡ true) entries → Each (λ (e : Entry). at_most key last ≡ true) (of_key key entries)
key_within key last [] h = tt
key_within key last (e ∷ es) h = by (same e.key key) refl (key_within key last es h.1)
  where
    by : (b : Bool) → same e.key key ≡ b → Each (λ (e : Entry). at_most key last ≡ true) (of_key key es) → Each (λ (e : Entry). at_most key last ≡ true) (cond b (e ∷ of_key key es) (of_key key es))
    by true s rest = (subst (λ k. at_most k last ≡ true) (same_true e.key key s) h.0, rest)
    by false s rest = rest

-- numbers fall along a level that stands apart
pub level_falls : (key : List ℕ) (tables : List FileEntries) → IsLevel tables → Each IsSortedRun (runs_of tables) → Pairwise FallsTo (column key (runs_of tables))
level_falls key [] apart rows = tt
level_falls key (one ∷ tables) apart rows =
    pairs_join FallsTo (of_key key one.entries) (column key (runs_of tables)) (run_column_falls key one.entries (in_pairs one.entries rows.0)) (level_falls key tables apart.1 rows.1)
    (each_as (λ (x : Entry). at_most key (table_range one).last ≡ true) (λ x. Each (FallsTo x) (column key (runs_of tables)))
    (λ x within. subst (Each (FallsTo x)) (sym (others_empty key one tables within apart.0 rows.1)) tt) (of_key key one.entries) (key_within key (table_range one).last one.entries (rows_end one.entries rows.0)))

-- ---- a memtable of counted operations is in order

other_way : (e o : Entry) → FallsTo e o → comes_before e o ≡ false → comes_before o e ≡ true
other_way e o less later = by (position_cmp e.key e.number o.key o.number) refl
  where
    by : (r : Ordering) → position_cmp e.key e.number o.key o.number ≡ r → comes_before o e ≡ true
    by Less h = absurd (false≢true (sym later ∙ ap is_lt h))
    by Equal h = absurd (let p = (positions_strict e.key o.key e.number o.number h).1 in let lt : o.number < e.number = less in let eq : e.number ≡ o.number = p in omega arith)
    by Greater h = ap is_lt (positions_total.antisymm (o.key, o.number) (e.key, e.number) ∙ ap ordering_reverse h)

and_from : (b c : Bool) → b ≡ true → c ≡ true → (b && c) ≡ true
and_from true c e f = f
and_from false c e f = absurd (false≢true e)

put_behind : (e o : Entry) (os : List Entry) → Each (FallsTo e) os → comes_before o e ≡ true → rises_behind comes_before o os ≡ true → rises_behind comes_before o (put_in_memory e os) ≡ true
put_behind e o [] h c r = and_from (comes_before o e) true c refl
put_behind e o (p ∷ ps) h c r =
    let parts = both (comes_before o p) (rises_behind comes_before p ps) r in
    at (comes_before e p) refl parts.0 parts.1 (λ after. put_behind e p ps h.1 after parts.1)
  where
    at : (b : Bool) → comes_before e p ≡ b → comes_before o p ≡ true → rises_behind comes_before p ps ≡ true → (comes_before p e ≡ true → rises_behind comes_before p (put_in_memory e ps) ≡ true)
        → rises_behind comes_before o (cond b (e ∷ p ∷ ps) (p ∷ put_in_memory e ps)) ≡ true
    at true f up rest later = and_from (comes_before o e) (comes_before e p && rises_behind comes_before p ps) c (and_from (comes_before e p) (rises_behind comes_before p ps) f rest)
    at false f up rest later = and_from (comes_before o p) (rises_behind comes_before p (put_in_memory e ps)) up (later (other_way e p h.0 f))

put_ordered : (e : Entry) (mem : List Entry) → Each (FallsTo e) mem → in_order mem ≡ true → in_order (put_in_memory e mem) ≡ true
put_ordered e [] h r = refl
put_ordered e (o ∷ os) h r = at (comes_before e o) refl
  where
    at : (b : Bool) → comes_before e o ≡ b → in_order (cond b (e ∷ o ∷ os) (o ∷ put_in_memory e os)) ≡ true
    at true f = and_from (comes_before e o) (rises_behind comes_before o os) f r
    at false f = put_behind e o os h.1 (other_way e o h.0 f) r

mem_ordered : (entries : List Entry) → Pairwise FallsTo entries → in_order (mem_of entries) ≡ true
mem_ordered [] h = refl
mem_ordered (e ∷ es) h = put_ordered e (mem_of es) (each_mem (FallsTo e) es h.0) (mem_ordered es h.1)

pub mem_rows : (entries : List Entry) → Pairwise FallsTo entries → Each (λ entry. IsSortedRun (entry ∷ [])) entries → IsSortedRun (mem_of entries)
mem_rows entries falls rows = record { ordered = mem_ordered entries falls; within = each_mem FitsSizes entries (each_as (λ (entry : Entry). IsSortedRun (entry ∷ [])) FitsSizes (λ entry h. h.within.0) entries rows) }

-- ---- the tables of the levels are those that are placed

abbrev pub FileApart : FileEntries → FileEntries → Type 0
FileApart one other = one.file ≡ other.file → ⊥

put_table_each : (P : FileEntries → Type 0) (table : FileEntries) (tables : List FileEntries) → P table → Each P tables → Each P (put_by_key table tables)
put_table_each P table [] p h = (p, tt)
put_table_each P table (other ∷ tables) p h = go (below (key_at_front table.entries) (key_at_front other.entries)) (put_table_each P table tables p h.1)
  where
    go : (b : Bool) → Each P (put_by_key table tables) → Each P (cond b (table ∷ other ∷ tables) (other ∷ put_by_key table tables))
    go true rest = (p, h)
    go false rest = (h.0, rest)

pub by_key_each : (P : FileEntries → Type 0) (tables : List FileEntries) → Each P tables → Each P (by_key tables)
by_key_each P [] h = tt
by_key_each P (table ∷ tables) h = put_table_each P table (by_key tables) h.0 (by_key_each P tables h.1)

turned_file : (one other : FileEntries) → FileApart one other → FileApart other one
turned_file one other h e = h (sym e)

put_table_pairs : (table : FileEntries) (tables : List FileEntries) → Each (FileApart table) tables → Pairwise FileApart tables → Pairwise FileApart (put_by_key table tables)
put_table_pairs table [] h pairs = (tt, tt)
put_table_pairs table (other ∷ tables) h pairs = go (below (key_at_front table.entries) (key_at_front other.entries)) (put_table_pairs table tables h.1 pairs.1)
  where
    go : (b : Bool) → Pairwise FileApart (put_by_key table tables) → Pairwise FileApart (cond b (table ∷ other ∷ tables) (other ∷ put_by_key table tables))
    go true rest = (h, pairs)
    go false rest = (put_table_each (FileApart other) table tables (turned_file table other h.0) pairs.0, rest)

by_key_pairs : (tables : List FileEntries) → Pairwise FileApart tables → Pairwise FileApart (by_key tables)
by_key_pairs [] h = tt
by_key_pairs (table ∷ tables) h = put_table_pairs table (by_key tables) (by_key_each (FileApart table) tables h.0) (by_key_pairs tables h.1)

pub pairs_mapped : {X Y : Type 0} (R : Y → Y → Type 0) (f : X → Y) (xs : List X) → Pairwise (λ x y. R (f x) (f y)) xs → Pairwise R (map f xs)
pairs_mapped R f [] h = tt
pairs_mapped R f (x ∷ xs) h = (each_map (R (f x)) f xs h.0, pairs_mapped R f xs h.1)

-- those placed at one level, unordered
abbrev raw : ImageParts → List Placement → ℕ → List FileEntries
raw parts placed n = map (table_at parts) (placed_at n placed)

raw_each : (P : FileEntries → Type 0) (parts : ImageParts) (placed : List Placement) (n : ℕ) → Each (λ one. P (table_at parts one)) placed → Each P (raw parts placed n)
raw_each P parts placed n h = each_map P (table_at parts) (placed_at n placed) (each_filter (λ one. P (table_at parts one)) (λ (one : Placement). one.level == n) placed h)

more_each : (P : FileEntries → Type 0) (parts : ImageParts) (placed : List Placement) (ns : List ℕ) → Each (λ one. P (table_at parts one)) placed → Each P (flat_map (level_of parts placed) ns)
more_each P parts placed [] h = tt
more_each P parts placed (n ∷ ns) h = each_join P (level_of parts placed n) (flat_map (level_of parts placed) ns) (by_key_each P (raw parts placed n) (raw_each P parts placed n h)) (more_each P parts placed ns h)

pub levels_each : (P : FileEntries → Type 0) (parts : ImageParts) (placed : List Placement) → Each (λ one. P (table_at parts one)) placed → Each P (tables_in (image_levels parts placed))
levels_each P parts placed h = each_join P (raw parts placed 0) (flat_map (level_of parts placed) (1 ∷ 2 ∷ 3 ∷ 4 ∷ 5 ∷ 6 ∷ [])) (raw_each P parts placed 0 h) (more_each P parts placed (1 ∷ 2 ∷ 3 ∷ 4 ∷ 5 ∷ 6 ∷ []) h)

pub raw_pairs : (parts : ImageParts) (placed : List Placement) (n : ℕ) → Pairwise OtherFile placed → Pairwise FileApart (raw parts placed n)
raw_pairs parts placed n h = pairs_mapped FileApart (table_at parts) (placed_at n placed) (pairs_filter OtherFile (λ (one : Placement). one.level == n) placed h)

-- two levels have no table in common
flip_file : (one other : Placement) → OtherFile one other → OtherFile other one
flip_file one other h e = h (sym e)

other_level : (n m : ℕ) → (n ≡ m → ⊥) → (k : ℕ) → (k == n) ≡ true → (k == m) ≡ false
other_level n m differ k e = by (k == m) refl
  where
    by : (b : Bool) → (k == m) ≡ b → (k == m) ≡ false
    by true f = absurd (differ (sym (eqb-true k n e) ∙ eqb-true k m f))
    by false f = f

levels_differ : (n m : ℕ) → (n ≡ m → ⊥) → (placed : List Placement) → Pairwise OtherFile placed → Each (λ x. Each (OtherFile x) (placed_at m placed)) (placed_at n placed)
levels_differ n m differ [] h = tt
levels_differ n m differ (p ∷ ps) h = by (p.level == n) refl (p.level == m) refl (levels_differ n m differ ps h.1)
  where
    add : Each (λ x. Each (OtherFile x) (placed_at m ps)) (placed_at n ps) → Each (λ x. Each (OtherFile x) (p ∷ placed_at m ps)) (placed_at n ps)
    add rest = both_at (placed_at n ps) (each_filter (OtherFile p) (λ (one : Placement). one.level == n) ps h.0) rest
      where
        both_at : (xs : List Placement) → Each (OtherFile p) xs → Each (λ x. Each (OtherFile x) (placed_at m ps)) xs → Each (λ x. Each (OtherFile x) (p ∷ placed_at m ps)) xs
        both_at [] a b = tt
        both_at (x ∷ xs) a b = ((flip_file p x a.0, b.0), both_at xs a.1 b.1)

    by : (b : Bool) → (p.level == n) ≡ b → (c : Bool) → (p.level == m) ≡ c → Each (λ x. Each (OtherFile x) (placed_at m ps)) (placed_at n ps)
        → Each (λ x. Each (OtherFile x) (cond c (p ∷ placed_at m ps) (placed_at m ps))) (cond b (p ∷ placed_at n ps) (placed_at n ps))
    by true e true f rest = absurd (false≢true (sym (other_level n m differ p.level e) ∙ f))
    by true e false f rest = (each_filter (OtherFile p) (λ (one : Placement). one.level == m) ps h.0, rest)
    by false e true f rest = add rest
    by false e false f rest = rest

raw_across : (parts : ImageParts) (placed : List Placement) (n m : ℕ) → (n ≡ m → ⊥) → Pairwise OtherFile placed → Each (λ x. Each (FileApart x) (level_of parts placed m)) (raw parts placed n)
raw_across parts placed n m differ h =
    each_map (λ x. Each (FileApart x) (level_of parts placed m)) (table_at parts) (placed_at n placed)
    (each_as (λ x. Each (OtherFile x) (placed_at m placed)) (λ x. Each (FileApart (table_at parts x)) (level_of parts placed m))
    (λ x k. by_key_each (FileApart (table_at parts x)) (raw parts placed m) (each_map (FileApart (table_at parts x)) (table_at parts) (placed_at m placed) k)) (placed_at n placed) (levels_differ n m differ placed h))

spread : (parts : ImageParts) (placed : List Placement) (xs : List FileEntries) (ns : List ℕ) → Each (λ m. Each (λ x. Each (FileApart x) (level_of parts placed m)) xs) ns → Each (λ x. Each (FileApart x) (flat_map (level_of parts placed) ns)) xs
spread parts placed xs [] h = all xs
  where
    all : (ys : List FileEntries) → Each (λ x. Each (FileApart x) []) ys
    all [] = tt
    all (y ∷ ys) = (tt, all ys)
spread parts placed xs (n ∷ ns) h = join xs h.0 (spread parts placed xs ns h.1)
  where
    join : (ys : List FileEntries) → Each (λ x. Each (FileApart x) (level_of parts placed n)) ys → Each (λ x. Each (FileApart x) (flat_map (level_of parts placed) ns)) ys → Each (λ x. Each (FileApart x) (level_of parts placed n ++ flat_map (level_of parts placed) ns)) ys
    join [] a b = tt
    join (y ∷ ys) a b = (each_join (FileApart y) (level_of parts placed n) (flat_map (level_of parts placed) ns) a.0 b.0, join ys a.1 b.1)

more_pairs : (parts : ImageParts) (placed : List Placement) (ns : List ℕ) → Pairwise (λ n m. n ≡ m → ⊥) ns → Pairwise OtherFile placed → Pairwise FileApart (flat_map (level_of parts placed) ns)
more_pairs parts placed [] differ h = tt
more_pairs parts placed (n ∷ ns) differ h =
    pairs_join FileApart (level_of parts placed n) (flat_map (level_of parts placed) ns) (by_key_pairs (raw parts placed n) (raw_pairs parts placed n h)) (more_pairs parts placed ns differ.1 h)
    (spread parts placed (level_of parts placed n) ns (each_as (λ m. n ≡ m → ⊥) (λ m. Each (λ x. Each (FileApart x) (level_of parts placed m)) (level_of parts placed n))
    (λ m d. by_key_each (λ x. Each (FileApart x) (level_of parts placed m)) (raw parts placed n) (raw_across parts placed n m d h)) ns differ.0))

abbrev from : ℕ → ℕ → List ℕ
from zero n = []
from (suc k) n = n ∷ from k (n + 1)

from_above : (k n a : ℕ) → a < n → Each (λ m. a ≡ m → ⊥) (from k n)
from_above zero n a lt = tt
from_above (suc k) n a lt = ((λ e. omega arith), from_above k (n + 1) a (omega arith))

from_differ : (k n : ℕ) → Pairwise (λ n m. n ≡ m → ⊥) (from k n)
from_differ zero n = tt
from_differ (suc k) n = (from_above k (n + 1) n (omega arith), from_differ k (n + 1))

pub levels_pairs : (parts : ImageParts) (placed : List Placement) → Pairwise OtherFile placed → Pairwise FileApart (tables_in (image_levels parts placed))
levels_pairs parts placed h =
    pairs_join FileApart (raw parts placed 0) (flat_map (level_of parts placed) (1 ∷ 2 ∷ 3 ∷ 4 ∷ 5 ∷ 6 ∷ [])) (raw_pairs parts placed 0 h) (more_pairs parts placed (1 ∷ 2 ∷ 3 ∷ 4 ∷ 5 ∷ 6 ∷ []) (from_differ 6 1) h)
    (spread parts placed (raw parts placed 0) (1 ∷ 2 ∷ 3 ∷ 4 ∷ 5 ∷ 6 ∷ []) (each_as (λ m. 0 ≡ m → ⊥) (λ m. Each (λ x. Each (FileApart x) (level_of parts placed m)) (raw parts placed 0)) (λ m d. raw_across parts placed 0 m d h) (1 ∷ 2 ∷ 3 ∷ 4 ∷ 5 ∷ 6 ∷ []) (from_above 6 1 0 (omega arith))))

-- ---- a sound table has an entry

pub table_filled : (parts : ImageParts) (placed : Placement) → IsTrue (is_sound parts placed) → HasEntry (table_at parts placed)
table_filled parts placed sound = by (parts.table placed.file) sound
  where
    under : (b : Bool) (entry : Entry) (entries : List Entry) → 1 ≤ length (cond b (entry ∷ entries) (map (λ (e : Entry). record e { number = placed.number }) (entry ∷ entries)))
    under true entry entries = omega arith
    under false entry entries = omega arith

    has : (entries : List Entry) → is_table placed.number entries ≡ true → 1 ≤ length (entries_acting placed.number entries)
    has [] e = absurd (false≢true e)
    has (entry ∷ entries) e = under (placed.number == 0) entry entries

    inner : (length_ : ℕ) (entries : Option (List Entry)) → holds_table placed (Some (record { length = length_; entries = entries })) ≡ true → 1 ≤ length (entries_acting placed.number (file_entries (Some (record { length = length_; entries = entries }))))
    inner n None e = absurd (false≢true (sym (never (n == placed.length)) ∙ e))
      where
        never : (b : Bool) → (b && false) ≡ false
        never true = refl
        never false = refl
    inner n (Some entries) e = has entries (both (n == placed.length) (is_table placed.number entries) e).1

    by : (file : Option TableFile) → IsTrue (holds_table placed file) → 1 ≤ length (entries_acting placed.number (file_entries file))
    by None e = absurd (false≢true e)
    by (Some file) e = inner file.length file.entries e
