-- A crash: the state after is that of an opening.
use Rattle.std.proofs.Common.{◌≡◌, ℕ, zero, suc, ◌+◌, ◌<◌, ◌≤◌, Bool, true, false, cond, ◌&&◌, List, [], ◌∷◌, ◌++◌, length, map, filter, reverse, set, Option, Some, None, Ordering, Less, Equal, Greater, option_map, unwrap_or, is_eq, is_le, refl, sym, ap, ap₂, subst, subst₂, ◌∙◌, inl, inr, arith, append-nil}
use Rattle.std.specs.Prelude.{IsTrue, MatchBool, flat_map, nat_le, fold, take, drop, slice_get}
use Rattle.std.specs.List.{list_any, AllByRecursion as Each}
use Rattle.std.specs.Option.{option_or}
use Rattle.std.specs.Ordering.{ordering_reverse}
use Rattle.std.proofs.lemmas.Bool.{false≢true, le-leb, or_left, or_right}
use Rattle.std.proofs.lemmas.Cmp.{nat_list_cmp_total, tied_itself}
use Rattle.st_base.specs.Bytes.{bytes_cmp, same, below, at_most}
use Rattle.st_base.specs.Entries.{last_mark}
use Rattle.st_base.specs.Map.{value_at, set_at}
use Rattle.st_base.specs.Order.{comes_before}
use Rattle.st_base.specs.declared.entry.Mark.{Mark}
use Rattle.st_base.specs.declared.entry.Mark.TheVariants.{Put, Gone}
use Rattle.st_base.specs.declared.entry.Entry.{Entry}
use Rattle.st_base.specs.declared.entry.KeyRange.{KeyRange}
use Rattle.st_model.specs.declared.state.ModelFamily.{ModelFamily}
use Rattle.st_model.specs.Contents.{with_marks, newest_marks, is_kept, kept_marks, as_entry, put_range, sorted_ranges, contents_of_family, opened_family}
use Rattle.st_base.specs.Range.{keys_of, has_key, range_of, key_at_end}
use Rattle.st_model.specs.Read.{mark_at, value_of}
use Rattle.st_model.specs.Sound.{KeysRise, WritesWithin}
use Rattle.base_laws.proofs.Keys.{at_key, comes_before_key}
use Rattle.base_laws.proofs.Lists.{any_left, any_right, each_as, each_back, each_front, each_join, each_map, map_each}
use Rattle.st_base.proofs.Same.{same_self}
use Rattle.core_model.specs.Crash.{newest_of, IsFlushedByCrash, rank, Reopens}
use Rattle.core_model.specs.Picture.{FileEntries, FamilyView, Core, level_at, runs_of, tables_in, memories, above, walk, find_mark, table_range}
use Rattle.core_model.specs.RelationParts.{LevelsApart, IsLevel, IsView, HasEntry, IsSortedRun, FitsSizes}
use Rattle.job_model.specs.Column.{Falls, found_at}
use Rattle.core_model.specs.Step.{has_memory}
use Rattle.st_base.proofs.Ordered.{entries_pairs}
use Rattle.std.proofs.lemmas.Map.Lookups.{exact_bytes}
use Rattle.core_laws.proofs.ByPlace.{each_both, flat_join}
use Rattle.core_laws.proofs.ToldByColumns.{maps_are_one, none_below, marks_set, newest_is_first}
use Rattle.core_laws.proofs.FamilyPair.{IsRead, Pair}
use Rattle.core_laws.proofs.ChangesSound.{Rise, set_rise, less_of}
use Rattle.core_laws.proofs.WrittenFamily.{each_level}
use Rattle.core_laws.proofs.InstalledLevels.{column_each, from_columns}
use Rattle.core_laws.proofs.Lists.{pairs_filter}
use Rattle.core_laws.proofs.Members.{pairs_of_all}
use Rattle.core_laws.proofs.FileColumns.{each_level as tables_each}
use Rattle.st_order.specs.Columns.{Pairwise, of_key, column}

-- ---- what holds of all columns holds of all entries

pub each_of_columns : (P : Entry → Type 0) (runs : List (List Entry)) → ((key : List ℕ) → Each P (column key runs)) → Each (Each P) runs
each_of_columns P [] h = tt
each_of_columns P (run ∷ runs) h = (from_columns P run (λ key. each_front P (of_key key run) (column key runs) (h key)), each_of_columns P runs (λ key. each_back P (of_key key run) (column key runs) (h key)))

-- ---- a reopened family has the same columns

pub record Reopened (one other : FamilyView) : Type 0 where
  pub id : one.id ≡ other.id
  pub walks : (key : List ℕ) → column key (walk other) ≡ column key (walk one)
  pub aboves : (key : List ℕ) → column key (above other 6) ≡ column key (above one 6)
  pub lowest : level_at other 6 ≡ level_at one 6
  pub deeper : drop 1 other.levels ≡ drop 1 one.levels
  pub empty : Each (λ run. run ≡ []) (memories other)
  pub view : IsView other

-- the table in front of level 0
joined_walk : (key : List ℕ) (entries : List Entry) (mems rest : List (List Entry)) → of_key key entries ≡ column key mems → column key (entries ∷ rest) ≡ column key (mems ++ rest)
joined_walk key entries mems rest e = ap (λ (front : List Entry). front ++ column key rest) e ∙ sym (flat_join (of_key key) mems rest)

empty_entries : (runs : List (List Entry)) → Each (Each (λ (entry : Entry). ⊥)) runs → list_any (λ (entries : List Entry). nat_le 1 (length entries)) runs ≡ false
empty_entries [] h = refl
empty_entries ([] ∷ runs) h = empty_entries runs h.1
empty_entries ((e ∷ es) ∷ runs) h = absurd h.0.0

-- with memtables: they become a table
reopened_with : (file : ℕ) (family other : FamilyView) → IsView family → has_memory ([], family) ≡ true → IsFlushedByCrash file family other → Reopened family other
reopened_with file family other v has r = subst (Reopened family) (sym r.view) (at family.levels v.levels refl)
  where
    made : List (List FileEntries) → FamilyView
    made levels = record { id = family.id; mem = []; sealed = []; levels = set levels 0 (record { file = file; length = r.length; entries = r.entries } ∷ unwrap_or (slice_get levels 0) []) }

    each_joined : (P : Entry → Type 0) → Each (Each P) (memories family) → Each P r.entries
    each_joined P h = from_columns P r.entries (λ key. subst (Each P) (sym (r.joined.columns key)) (column_each P key (memories family) h))

    within : (runs : List (List Entry)) → Each IsSortedRun runs → Each (Each FitsSizes) runs
    within runs h = each_as IsSortedRun (Each FitsSizes) (λ run k. k.within) runs h

    filled : 1 ≤ length r.entries
    filled = by r.entries refl
      where
        by : (es : List Entry) → r.entries ≡ es → 1 ≤ length es
        by [] e = absurd (false≢true (sym (empty_entries (memories family) (each_of_columns (λ entry. ⊥) (memories family) (λ key. subst (Each (λ (entry : Entry). ⊥)) (r.joined.columns key) (subst (λ (es : List Entry). Each (λ (entry : Entry). ⊥) (of_key key es)) (sym e) tt)))) ∙ has))
        by (x ∷ xs) e = omega arith

    at : (levels : List (List FileEntries)) → length levels ≡ 7 → family.levels ≡ levels → Reopened family (made family.levels)
    at [] n e = absurd (omega arith)
    at (zero_level ∷ deeper) n e = subst (λ ls. Reopened family (made ls)) (sym e) (record {
      id = refl;
      walks = λ key. subst (λ ls. column key (walk (made (zero_level ∷ deeper))) ≡ column key (memories family ++ runs_of (tables_in ls))) (sym e)
          (joined_walk key r.entries (memories family) (runs_of (zero_level ++ tables_in deeper)) (r.joined.columns key));
      aboves = λ key. subst (λ ls. column key (above (made (zero_level ∷ deeper)) 6) ≡ column key (memories family ++ runs_of (tables_in (take 6 ls)))) (sym e)
          (joined_walk key r.entries (memories family) (runs_of (zero_level ++ tables_in (take 5 deeper))) (r.joined.columns key));
      lowest = subst (λ ls. level_at (made (zero_level ∷ deeper)) 6 ≡ unwrap_or (slice_get ls 6) []) (sym e) refl;
      deeper = subst (λ ls. drop 1 (made (zero_level ∷ deeper)).levels ≡ drop 1 ls) (sym e) refl;
      empty = (refl, tt);
      view = record {
        levels = (let len : length (zero_level ∷ deeper) ≡ 7 = n in omega arith);
        rows = (
          record { ordered = refl; within = tt },
          (
            record { ordered = r.joined.ordered; within = each_joined FitsSizes (within (memories family) (each_front IsSortedRun (memories family) (runs_of (tables_in family.levels)) v.rows)) },
            each_back IsSortedRun (memories family) (runs_of (tables_in (zero_level ∷ deeper))) (subst (λ ls. Each IsSortedRun (memories family ++ runs_of (tables_in ls))) e v.rows),
          ),
        );
        filled = (filled, subst (λ ls. Each HasEntry (tables_in ls)) e v.filled);
        sealed = tt;
        order = (tt, tt);
      };
    })

-- without any: nothing changes
no_memory : (family : FamilyView) → has_memory ([], family) ≡ false → Each (λ run. run ≡ []) (memories family)
no_memory family h = by (memories family) h
  where
    by : (runs : List (List Entry)) → list_any (λ (entries : List Entry). nat_le 1 (length entries)) runs ≡ false → Each (λ run. run ≡ []) runs
    by [] h = tt
    by ([] ∷ runs) h = (refl, by runs h)
    by ((e ∷ es) ∷ runs) h = absurd (false≢true (sym h ∙ or_left (nat_le 1 (length (e ∷ es))) (list_any (λ (entries : List Entry). nat_le 1 (length entries)) runs) (le-leb 1 (length (e ∷ es)) (omega arith))))

pub reopened : (core : Core) (first : ℕ) (before after : List ℕ × FamilyView) → IsView before.1 → Reopens core first before after → Reopened before.1 after.1
reopened core first before after v r = by (has_memory before) refl r.1
  where
    by : (b : Bool) → has_memory before ≡ b → MatchBool b (IsFlushedByCrash (first + rank core before.1.id) before.1 after.1) (after.1 ≡ before.1) → Reopened before.1 after.1
    by true e h = reopened_with (first + rank core before.1.id) before.1 after.1 v e h
    by false e h = subst (Reopened before.1) (sym h) (record { id = refl; walks = λ key. refl; aboves = λ key. refl; lowest = refl; deeper = refl; empty = no_memory before.1 e; view = v })

-- ---- the marks that an opening keeps

abbrev kept_if : (Mark → Bool) → Option Mark → Option Mark
kept_if keep None = None
kept_if keep (Some mark) = cond (keep mark) (Some mark) None

kept_value : (keep : Mark → Bool) (pairs : List (List ℕ × Mark)) (key : List ℕ) → Rise pairs → value_at (filter (λ pair. keep pair.1) pairs) key ≡ kept_if keep (value_at pairs key)
kept_value keep [] key h = refl
kept_value keep (p ∷ ps) key h = by (keep p.1) refl (is_eq (bytes_cmp key p.0)) refl (kept_value keep ps key h.1)
  where
    gone : is_eq (bytes_cmp key p.0) ≡ true → value_at ps key ≡ None
    gone e = none_below key ps (subst (λ k. Each (λ (other : List ℕ × Mark). IsTrue (below k other.0)) ps) (sym (at_key key p.0 e)) h.0)

    by : (b : Bool) → keep p.1 ≡ b → (c : Bool) → is_eq (bytes_cmp key p.0) ≡ c → value_at (filter (λ pair. keep pair.1) ps) key ≡ kept_if keep (value_at ps key)
        → value_at (cond b (p ∷ filter (λ pair. keep pair.1) ps) (filter (λ pair. keep pair.1) ps)) key ≡ kept_if keep (cond c (Some p.1) (value_at ps key))
    by true e true f rest = ap (λ t. cond t (Some p.1) (value_at (filter (λ pair. keep pair.1) ps) key)) f ∙ sym (ap (λ t. cond t (Some p.1) None) e)
    by true e false f rest = ap (λ t. cond t (Some p.1) (value_at (filter (λ pair. keep pair.1) ps) key)) f ∙ rest
    by false e true f rest = rest ∙ ap (kept_if keep) (gone f) ∙ sym (ap (λ t. cond t (Some p.1) None) e)
    by false e false f rest = rest

set_all_rise : (entries : List Entry) (marks : List (List ℕ × Mark)) → Rise marks → Rise (fold (λ marks entry. set_at marks entry.key entry.mark) marks entries)
set_all_rise [] marks h = h
set_all_rise (e ∷ es) marks h = set_all_rise es (set_at marks e.key e.mark) (set_rise marks e.key e.mark h)

marks_folded : (writes : List Entry) (marks : List (List ℕ × Mark)) → with_marks marks writes ≡ fold (λ marks entry. set_at marks entry.key entry.mark) marks writes
marks_folded [] marks = refl
marks_folded (w ∷ ws) marks = marks_folded ws (set_at marks w.key w.mark)

pub newest_rise : (kept : ModelFamily) → KeysRise kept.base → Rise (newest_marks kept)
newest_rise kept h = subst Rise (sym (marks_folded kept.writes kept.base)) (set_all_rise kept.writes kept.base (pairs_of_all (λ (x y : List ℕ × Mark). IsTrue (below x.0 y.0)) kept.base h))

pub newest_value : (kept : ModelFamily) (last : ℕ) (key : List ℕ) → WritesWithin last kept → value_at (newest_marks kept) key ≡ mark_at kept last key
newest_value kept last key h =
    ap (λ (marks : List (List ℕ × Mark)). value_at marks key) (marks_folded kept.writes kept.base)
    ∙ marks_set kept.writes kept.base key
    ∙ ap (λ (writes : List Entry). option_or (last_mark writes) (value_at kept.base key)) (all kept.writes h)
  where
    both : (s t : Bool) → t ≡ true → s ≡ (s && t)
    both true t e = sym e
    both false t e = refl

    all : (ws : List Entry) → Each (λ write. write.number ≤ last) ws → of_key key ws ≡ filter (λ write. same write.key key && nat_le write.number last) ws
    all [] h = refl
    all (w ∷ ws) h = ap₂ (λ (b : Bool) (rest : List Entry). cond b (w ∷ rest) rest) (both (same w.key key) (nat_le w.number last) (le-leb w.number last h.0)) (all ws h.1)

-- marks that read alike, and with the flag are the same, are kept alike
kept_alike : (behind : Bool) (x y : Option Mark) → value_of x ≡ value_of y → (IsTrue behind → x ≡ y) → kept_if (is_kept behind) x ≡ kept_if (is_kept behind) y
kept_alike true x y e f = ap (kept_if (is_kept true)) (f refl)
kept_alike false x y e f = as_value x ∙ ap (option_map Put) e ∙ sym (as_value y)
  where
    as_value : (o : Option Mark) → kept_if (is_kept false) o ≡ option_map Put (value_of o)
    as_value None = refl
    as_value (Some Gone) = refl
    as_value (Some (Put value)) = refl

kept_reads : (behind : Bool) (o : Option Mark) → value_of (kept_if (is_kept behind) o) ≡ value_of o
kept_reads behind None = refl
kept_reads true (Some mark) = refl
kept_reads false (Some Gone) = refl
kept_reads false (Some (Put value)) = refl

kept_all : (o : Option Mark) → kept_if (is_kept true) o ≡ o
kept_all None = refl
kept_all (Some mark) = refl

-- the base after the opening
base_is : (marks : List (List ℕ × Mark)) → map (λ (entry : Entry). (entry.key, entry.mark)) (map as_entry marks) ≡ marks
base_is [] = refl
base_is (p ∷ ps) = ap (λ (rest : List (List ℕ × Mark)). p ∷ rest) (base_is ps)

abbrev pub reborn : Bool → FamilyView → List ℕ → ModelFamily → ModelFamily
reborn behind family name kept = (opened_family (flat_map keys_of (walk family)) (contents_of_family behind (name, kept))).1

pub reborn_base : (behind : Bool) (family : FamilyView) (name : List ℕ) (kept : ModelFamily) → (reborn behind family name kept).base ≡ kept_marks behind (newest_marks kept)
reborn_base behind family name kept = base_is (kept_marks behind (newest_marks kept))

pub reborn_rise : (behind : Bool) (kept : ModelFamily) → KeysRise kept.base → Rise (kept_marks behind (newest_marks kept))
reborn_rise behind kept h = pairs_filter (λ (x y : List ℕ × Mark). IsTrue (below x.0 y.0)) (λ pair. is_kept behind pair.1) (newest_marks kept) (newest_rise kept h)

reborn_mark : (behind : Bool) (family : FamilyView) (name : List ℕ) (kept : ModelFamily) (last number : ℕ) (key : List ℕ) → KeysRise kept.base → WritesWithin last kept
    → mark_at (reborn behind family name kept) number key ≡ kept_if (is_kept behind) (mark_at kept last key)
reborn_mark behind family name kept last number key rise writes =
    ap (λ (marks : List (List ℕ × Mark)). value_at marks key) (reborn_base behind family name kept)
    ∙ kept_value (is_kept behind) (newest_marks kept) key (newest_rise kept rise)
    ∙ ap (kept_if (is_kept behind)) (newest_value kept last key writes)

-- the marks that are charged for are those of the contents
pub charged_alike : (behind : Bool) (last : ℕ) (live : List ℕ) (family : FamilyView) (kept : ModelFamily) → Pair behind last live family kept → KeysRise kept.base
    → kept_marks behind (newest_of (walk family)) ≡ kept_marks behind (newest_marks kept)
charged_alike behind last live family kept p rise = maps_are_one (kept_marks behind (newest_of (walk family))) (kept_marks behind (newest_marks kept))
    (pairs_filter (λ (x y : List ℕ × Mark). IsTrue (below x.0 y.0)) (λ pair. is_kept behind pair.1) (newest_of (walk family)) core_rise)
    (reborn_rise behind kept rise)
    (λ key. kept_value (is_kept behind) (newest_of (walk family)) key core_rise
    ∙ ap (kept_if (is_kept behind)) (newest_is_first family last key p.within)
    ∙ kept_alike behind (find_mark family last key) (mark_at kept last key) (p.reads last key (inl refl)) (λ flag. p.marks flag last key (inl refl))
    ∙ ap (kept_if (is_kept behind)) (sym (newest_value kept last key p.writes))
    ∙ sym (kept_value (is_kept behind) (newest_marks kept) key (newest_rise kept rise)))
  where
    core_rise : Rise (newest_of (walk family))
    core_rise = set_all_rise (reverse (flat_map (λ (entries : List Entry). entries) (walk family))) [] tt

-- ---- ranges that are sorted already

abbrev Sorted : List KeyRange → Type 0
Sorted ranges = Pairwise (λ one other. at_most other.first one.first ≡ false) ranges

put_last : (range : KeyRange) (sorted : List KeyRange) → Each (λ one. at_most range.first one.first ≡ false) sorted → put_range range sorted ≡ sorted ++ range ∷ []
put_last range [] h = refl
put_last range (other ∷ others) h = ap (λ b. cond b (range ∷ other ∷ others) (other ∷ put_range range others)) h.0 ∙ ap (λ (rest : List KeyRange). other ∷ rest) (put_last range others h.1)

sorted_onto : (ranges sorted : List KeyRange) → Each (λ one. Each (λ other. at_most other.first one.first ≡ false) ranges) sorted → Sorted ranges → fold (λ sorted range. put_range range sorted) sorted ranges ≡ sorted ++ ranges
sorted_onto [] sorted across h = sym (append-nil sorted)
sorted_onto (range ∷ ranges) sorted across h =
    ap (λ (front : List KeyRange). fold (λ sorted range. put_range range sorted) front ranges) (put_last range sorted (each_as (λ (one : KeyRange). Each (λ other. at_most other.first one.first ≡ false) (range ∷ ranges)) (λ one. at_most range.first one.first ≡ false) (λ one k. k.0) sorted across))
    ∙ sorted_onto ranges (sorted ++ range ∷ []) (each_join (λ one. Each (λ other. at_most other.first one.first ≡ false) ranges) sorted (range ∷ []) (each_as (λ (one : KeyRange). Each (λ other. at_most other.first one.first ≡ false) (range ∷ ranges)) (λ one. Each (λ other. at_most other.first one.first ≡ false) ranges) (λ one k. k.1) sorted across) (h.0, tt)) h.1
    ∙ assoc sorted
  where
    assoc : (xs : List KeyRange) → (xs ++ range ∷ []) ++ ranges ≡ xs ++ (range ∷ ranges)
    assoc [] = refl
    assoc (x ∷ xs) = ap (λ (rest : List KeyRange). x ∷ rest) (assoc xs)

pub sorted_stays : (ranges : List KeyRange) → Sorted ranges → sorted_ranges ranges ≡ ranges
sorted_stays ranges h = sorted_onto ranges [] tt h

pub at_most_end : (key : List ℕ) (e : Entry) (es : List Entry) → at_most key e.key ≡ true → Each (λ other. at_most key other.key ≡ true) es → at_most key (key_at_end (e ∷ es)) ≡ true
at_most_end key e [] h k = h
at_most_end key e (o ∷ os) h k = at_most_end key o os k.0 k.1

ends_of : (entries : List Entry) → 1 ≤ length entries → IsSortedRun entries → at_most (range_of entries).first (range_of entries).last ≡ true
ends_of [] n r = absurd (omega arith)
ends_of (e ∷ es) n r = at_most_end e.key e es (ap is_le (tied_itself nat_list_cmp_total e.key))
    (each_as (λ (other : Entry). comes_before e other ≡ true) (λ other. at_most e.key other.key ≡ true) (λ other h. comes_before_key e other h) es (pairs_of_all (λ (x y : Entry). comes_before x y ≡ true) (e ∷ es) (entries_pairs (e ∷ es) r.ordered)).0)

below_at_most : (a b c : List ℕ) → at_most a b ≡ true → below b c ≡ true → at_most c a ≡ false
below_at_most a b c h k = by (bytes_cmp a b) refl h
  where
    less : bytes_cmp b c ≡ Less
    less = less_of b c k

    turn : bytes_cmp a c ≡ Less → at_most c a ≡ false
    turn f = ap is_le (nat_list_cmp_total.antisymm c a ∙ ap ordering_reverse f)

    by : (o : Ordering) → bytes_cmp a b ≡ o → is_le o ≡ true → at_most c a ≡ false
    by Less f g = turn (nat_list_cmp_total.trans a b c f less)
    by Equal f g = turn (subst (λ q. bytes_cmp q c ≡ Less) (sym (exact_bytes a b f)) less)
    by Greater f g = absurd cc

level_sorted : (tables : List FileEntries) → Each (λ table. at_most (table_range table).first (table_range table).last ≡ true) tables → IsLevel tables → Sorted (map table_range tables)
level_sorted [] h k = tt
level_sorted (t ∷ ts) h k = (
  each_map (λ other. at_most other.first (table_range t).first ≡ false) table_range ts
      (each_as (λ (other : FileEntries). IsTrue (below (table_range t).last (table_range other).first)) (λ other. at_most (table_range other).first (table_range t).first ≡ false) (λ other b. below_at_most (table_range t).first (table_range t).last (table_range other).first h.0 b) ts k.0),
  level_sorted ts h.1 k.1,
)

-- every level but the first is one, and so is the last
apart_at : (levels : List (List FileEntries)) (n : ℕ) → Each IsLevel levels → IsLevel (unwrap_or (slice_get levels n) [])
apart_at [] n h = tt
apart_at (level ∷ levels) zero h = h.0
apart_at (level ∷ levels) (suc n) h = apart_at levels n h.1

at_six : (levels : List (List FileEntries)) → Each IsLevel (drop 1 levels) → IsLevel (unwrap_or (slice_get levels 6) [])
at_six [] h = tt
at_six (level ∷ levels) h = apart_at levels 5 h

pub lowest_sorted : (family : FamilyView) → IsView family → LevelsApart family → Sorted (map table_range (level_at family 6))
lowest_sorted family v apart = level_sorted (level_at family 6)
    (each_as (λ (table : FileEntries). HasEntry table × IsSortedRun table.entries) (λ table. at_most (table_range table).first (table_range table).last ≡ true) (λ table h. ends_of table.entries h.0 h.1) (level_at family 6)
    (each_both HasEntry (λ table. IsSortedRun table.entries) (level_at family 6) (tables_each HasEntry family.levels 6 v.filled) (map_each IsSortedRun (λ (table : FileEntries). table.entries) (level_at family 6) (each_level IsSortedRun family 6 v.rows))))
    (at_six family.levels apart)

-- ---- a family after the opening

pub knows_run : (run : List Entry) → Each (λ entry. list_any (λ known. same known entry.key) (keys_of run) ≡ true) run
knows_run [] = tt
knows_run (e ∷ es) = (
  or_left (same e.key e.key) (list_any (λ known. same known e.key) (keys_of es)) (same_self e.key),
  each_as (λ (entry : Entry). list_any (λ known. same known entry.key) (keys_of es) ≡ true) (λ entry. list_any (λ known. same known entry.key) (keys_of (e ∷ es)) ≡ true) (λ entry h. or_right (same e.key entry.key) (list_any (λ known. same known entry.key) (keys_of es)) h) es (knows_run es),
)

knows_all : (runs : List (List Entry)) → Each (Each (λ entry. list_any (λ known. same known entry.key) (flat_map keys_of runs) ≡ true)) runs
knows_all [] = tt
knows_all (run ∷ runs) = (
  each_as (λ (entry : Entry). list_any (λ known. same known entry.key) (keys_of run) ≡ true) (λ entry. list_any (λ known. same known entry.key) (flat_map keys_of (run ∷ runs)) ≡ true) (λ entry h. any_left (λ known. same known entry.key) (keys_of run) (flat_map keys_of runs) h) run (knows_run run),
  each_as (Each (λ (entry : Entry). list_any (λ known. same known entry.key) (flat_map keys_of runs) ≡ true)) (Each (λ entry. list_any (λ known. same known entry.key) (flat_map keys_of (run ∷ runs)) ≡ true))
      (λ other k. each_as (λ (entry : Entry). list_any (λ known. same known entry.key) (flat_map keys_of runs) ≡ true) (λ entry. list_any (λ known. same known entry.key) (flat_map keys_of (run ∷ runs)) ≡ true) (λ entry h. any_right (λ known. same known entry.key) (keys_of run) (flat_map keys_of runs) h) other k) runs (knows_all runs),
)

pub pair_reborn : (behind : Bool) (last : ℕ) (live : List ℕ) (one other : FamilyView) (name : List ℕ) (kept : ModelFamily) → Pair behind last live one kept → KeysRise kept.base → Reopened one other
    → Pair behind last [] other (reborn behind one name kept)
pair_reborn behind last live one other name kept p rise r = record {
  id = sym r.id ∙ p.id;
  reads = λ number key there.
      ap value_of (found number key there) ∙ p.reads last key (inl refl) ∙ sym (kept_reads behind (mark_at kept last key)) ∙ sym (ap value_of (reborn_mark behind one name kept last number key rise p.writes));
  marks = λ flag number key there.
      found number key there ∙ p.marks flag last key (inl refl) ∙ sym (kept_all (mark_at kept last key)) ∙ ap (λ b. kept_if (is_kept b) (mark_at kept last key)) (sym flag) ∙ sym (reborn_mark behind one name kept last number key rise p.writes);
  falls = λ key. subst₂ (λ upper lower. Falls upper (column key (runs_of lower))) (sym (r.aboves key)) (sym r.lowest) (p.falls key);
  within = each_of_columns (λ entry. entry.number ≤ last) (walk other) (λ key. subst (Each (λ entry. entry.number ≤ last)) (sym (r.walks key)) (column_each (λ entry. entry.number ≤ last) key (walk one) p.within));
  apart = subst (Each IsLevel) (sym r.deeper) p.apart;
  ranges = λ flag. ap (map table_range) r.lowest ∙ p.ranges flag ∙ sym (sorted_stays (sorted_ranges kept.ranges) (subst Sorted (p.ranges flag) (lowest_sorted one p.view p.apart)));
  known = each_of_columns (λ entry. IsTrue (list_any (λ known. same known entry.key) (flat_map keys_of (walk one)))) (walk other)
      (λ key. subst (Each (λ entry. IsTrue (list_any (λ known. same known entry.key) (flat_map keys_of (walk one))))) (sym (r.walks key)) (column_each (λ entry. IsTrue (list_any (λ known. same known entry.key) (flat_map keys_of (walk one)))) key (walk one) (knows_all (walk one))));
  written = each_as (λ (run : List Entry). run ≡ []) (Each (λ entry. IsTrue (has_key [] entry.key))) (λ run e. subst (Each (λ entry. IsTrue (has_key [] entry.key))) (sym e) tt) (memories other) r.empty;
  view = r.view;
  writes = tt;
}
  where
    found : (number : ℕ) (key : List ℕ) → IsRead last [] number → find_mark other number key ≡ find_mark one last key
    found number key (inl e) = ap₂ found_at e (r.walks key)
    found number key (inr there) = absurd (let lt : there.0 < length {A = ℕ} [] = there.1 in omega arith)
