-- Whatever opens is a core that stands for a state with these contents.
use Rattle.std.proofs.Common.{◌≡◌, ℕ, ◌≤◌, Bool, true, false, cond, ◌||◌, List, [], ◌∷◌, map, reverse, refl, sym, ap, subst, ◌∙◌, append-nil}
use Rattle.std.specs.Prelude.{IsTrue, ◌==◌}
use Rattle.std.specs.declared.cmp.Ordering.TheVariants.{Less}
use Rattle.std.specs.Ordering.{is_lt}
use Rattle.std.specs.Map.{keys_of as map_keys}
use Rattle.std.specs.List.{flat_map, list_any, AllByRecursion as Each}
use Rattle.std.proofs.lemmas.Bool.{eqb-true}
use Rattle.std.proofs.lemmas.List.{reverse-append}
use Rattle.st_base.specs.Bytes.{same, below, at_most, bytes_cmp}
use Rattle.st_base.specs.declared.entry.Entry.{Entry}
use Rattle.st_base.specs.declared.entry.Mark.{Mark}
use Rattle.st_base.specs.declared.entry.KeyRange.{KeyRange}
use Rattle.st_base.proofs.Same.{same_self}
use Rattle.base_laws.proofs.Lists.{any_left, any_right, append_none, each_as, each_back, each_front, each_join, each_map, map_each}
use Rattle.core_laws.proofs.Lists.{pairs_as}
use Rattle.core_model.specs.Crash.{newest_of}
use Rattle.core_model.specs.Picture.{FamilyView, FileEntries, runs_of, tables_in, table_range, find_mark}
use Rattle.core_model.specs.RelationParts.{NumbersFall, NumbersWithin, LevelsApart, IsLevel, HasRanges, HasEntry, IsView, HasKnownKeys, HasWritten, IsSortedRun}
use Rattle.st_model.specs.declared.state.ModelFamily.{ModelFamily}
use Rattle.st_model.specs.Contents.{as_entry, sorted_ranges, kept_marks, newest_marks, contents_of_family as model_family}
use Rattle.st_base.specs.Range.{keys_of, has_key}
use Rattle.st_model.specs.Read.{mark_at, value_of}
use Rattle.st_model.specs.Sound.{KeysRise, WritesWithin}
use Rattle.manifest_edits.specs.Edits.{Placement, NamedFamily}
use Rattle.store_image.specs.Image.{image_contents_of_family, image_keys, image_mark, image_marks}
use Rattle.store_image.specs.Opens.{OpenedImageFamily, image_family, is_sound, image_files_meeting, image_files_meeting_in, unfallen_in, image_entries_of, upper_tables}
use Rattle.store_image.specs.Parts.{ImageParts, counted_entries, table_at, placed_at, level_of, image_levels}
use Rattle.store_image.specs.Recover.{mem_of, recovered_view, recovered_family}
use Rattle.image_laws.proofs.Lists.{flat_append}
use Rattle.image_laws.proofs.Again.{fold_ranges}
use Rattle.image_laws.proofs.Apart.{opened_level, level_rises, range_ordered}
use Rattle.image_laws.proofs.Best.{HasColumns, mark_found, levels_seven, levels_lower}
use Rattle.image_laws.proofs.Maps.{IsSorted, sorted_with}
use Rattle.image_laws.proofs.Recovered.{FallsTo, each_mem, mem_column}
use Rattle.image_laws.proofs.RecoveredReads.{recovered_mark, recovered_falls, each_reverse, fold_marks}
use Rattle.image_laws.proofs.Reflect.{family_falls}
use Rattle.image_laws.proofs.Same.{marks_same}
use Rattle.image_laws.proofs.EveryEdits.{OtherFile, all_of_pairs}
use Rattle.image_laws.proofs.EveryFamily.{FileApart, levels_each, raw_pairs, pairs_mapped, table_filled, level_falls, mem_rows}
use Rattle.manifest_edits.specs.Logs.{LogOp}
use Rattle.st_order.specs.Columns.{Pairwise, of_key}

-- ---- what the state has of one family

pub record StandsFor (behind : Bool) (last : ℕ) (family : FamilyView) (kept : ModelFamily) : Type 0 where
  pub falls : NumbersFall family
  pub within : NumbersWithin last family
  pub apart : LevelsApart family
  pub ranges : IsTrue behind → HasRanges family kept
  pub marks : (key : List ℕ) → find_mark family last key ≡ mark_at kept last key
  pub known : HasKnownKeys family kept
  pub written : HasWritten family kept
  pub view : IsView family
  pub writes : WritesWithin last kept
  pub base : KeysRise kept.base
  pub none : behind ≡ false → kept.ranges ≡ []
  pub sorted : sorted_ranges kept.ranges ≡ kept.ranges
  pub rise : Pairwise (λ one other. IsTrue (below one.first other.first)) (sorted_ranges kept.ranges)

-- an image's family that the opening found whole
pub record IsWholeFamily (last : ℕ) (parts : ImageParts) (ops : List LogOp) (family : NamedFamily) : Type 0 where
  pub files : Pairwise OtherFile family.tables
  pub sound : Each (λ one. IsTrue (is_sound parts one)) family.tables
  pub falls : Pairwise FallsTo (counted_entries family ops)
  pub within : Each (λ entry. entry.number ≤ last) (counted_entries family ops)
  pub meets : image_files_meeting_in (image_family parts ops family) ≡ []
  pub unfallen : unfallen_in last (image_family parts ops family) ≡ []
  pub rows : Each IsSortedRun (runs_of (tables_in (image_levels parts family.tables)))
  pub ops_rows : Each (λ entry. IsSortedRun (entry ∷ [])) (counted_entries family ops)

-- ---- lists

each_unjoined : (P : Entry → Type 0) (tables : List FileEntries) → Each P (image_entries_of tables) → Each (Each P) (runs_of tables)
each_unjoined P [] h = tt
each_unjoined P (table ∷ tables) h = (each_front P table.entries (image_entries_of tables) h, each_unjoined P tables (each_back P table.entries (image_entries_of tables) h))

-- an entry's key is among the keys of the entries
abbrev IsIn : List (List ℕ) → Entry → Type 0
IsIn keys entry = IsTrue (list_any (λ known. same known entry.key) keys)

keys_there : (entries : List Entry) → Each (IsIn (keys_of entries)) entries
keys_there [] = tt
keys_there (e ∷ es) = (
  ap (λ b. b || list_any (λ known. same known e.key) (keys_of es)) (same_self e.key),
  each_as (IsIn (keys_of es)) (IsIn (keys_of (e ∷ es))) (λ one h. any_right (λ known. same known one.key) (e.key ∷ []) (keys_of es) h) es (keys_there es),
)

has_reversed : (entries : List Entry) → Each (λ entry. IsTrue (has_key (reverse entries) entry.key)) entries
has_reversed [] = tt
has_reversed (e ∷ es) = (
  ap (λ l. has_key l e.key) (reverse-append (e ∷ []) es) ∙ any_right (λ (entry : Entry). same entry.key e.key) (reverse es) (e ∷ []) (ap (λ b. b || false) (same_self e.key)),
  each_as (λ (one : Entry). IsTrue (has_key (reverse es) one.key)) (λ one. IsTrue (has_key (reverse (e ∷ es)) one.key))
      (λ one h. ap (λ l. has_key l one.key) (reverse-append (e ∷ []) es) ∙ any_left (λ (entry : Entry). same entry.key one.key) (reverse es) (e ∷ []) h) es (has_reversed es),
)

-- ---- maps

sorted_rise : (marks : List (List ℕ × Mark)) → IsSorted marks → Pairwise (λ (one other : List ℕ × Mark). IsTrue (below one.0 other.0)) marks
sorted_rise [] h = tt
sorted_rise (m ∷ ms) h = (firsts ms h.0, sorted_rise ms h.1)
  where
    firsts : (others : List (List ℕ × Mark)) → Each (λ y. bytes_cmp m.0 y ≡ Less) (map_keys others) → Each (λ (other : List ℕ × Mark). IsTrue (below m.0 other.0)) others
    firsts [] k = tt
    firsts (o ∷ os) k = (ap is_lt k.0, firsts os k.1)

pub newest_rises : (runs : List (List Entry)) → KeysRise (newest_of runs)
newest_rises runs = all_of_pairs (λ (one other : List ℕ × Mark). IsTrue (below one.0 other.0)) (newest_of runs)
    (sorted_rise (newest_of runs) (subst IsSorted (sym (fold_marks [] (reverse (flat_map (λ (entries : List Entry). entries) runs)))) (sorted_with [] (reverse (flat_map (λ (entries : List Entry). entries) runs)) tt)))

-- ---- one family

abbrev IsBefore : KeyRange → KeyRange → Type 0
IsBefore one other = IsTrue (below one.first other.first)

file_differs : (one other : FileEntries) → FileApart one other → (other.file == one.file) ≡ false
file_differs one other h = by (other.file == one.file) refl
  where
    by : (b : Bool) → (other.file == one.file) ≡ b → (other.file == one.file) ≡ false
    by true e = absurd (h (sym (eqb-true other.file one.file e)))
    by false e = e

abbrev HasRow : FileEntries → Type 0
HasRow table = IsSortedRun table.entries

abbrev IsRightTable : FileEntries → Type 0
IsRightTable table = at_most (table_range table).first (table_range table).last ≡ true

right_tables : (tables : List FileEntries) → Each HasRow tables → Each IsRightTable tables
right_tables tables h = each_as HasRow IsRightTable (λ table rows. range_ordered table.entries rows) tables h

-- levels of an opening that found none that meet
levels_stand : (parts : ImageParts) (placed : List Placement) (ns : List ℕ) → Pairwise OtherFile placed → Each HasRow (flat_map (level_of parts placed) ns) → flat_map image_files_meeting (map (level_of parts placed) ns) ≡ [] → Each IsLevel (map (level_of parts placed) ns)
levels_stand parts placed [] files rows none = tt
levels_stand parts placed (n ∷ ns) files rows none =
    let split = append_none (image_files_meeting (level_of parts placed n)) (flat_map image_files_meeting (map (level_of parts placed) ns)) none in (
      opened_level (map (table_at parts) (placed_at n placed)) (pairs_as FileApart (λ one other. (other.file == one.file) ≡ false) file_differs (map (table_at parts) (placed_at n placed)) (raw_pairs parts placed n files))
          (right_tables (level_of parts placed n) (each_front HasRow (level_of parts placed n) (flat_map (level_of parts placed) ns) rows)) split.0,
      levels_stand parts placed ns files (each_back HasRow (level_of parts placed n) (flat_map (level_of parts placed) ns) rows) split.1,
    )

levels_rows : (parts : ImageParts) (placed : List Placement) (ns : List ℕ) → Each HasRow (flat_map (level_of parts placed) ns) → Each (λ n. Each HasRow (level_of parts placed n)) ns
levels_rows parts placed [] h = tt
levels_rows parts placed (n ∷ ns) h = (each_front HasRow (level_of parts placed n) (flat_map (level_of parts placed) ns) h, levels_rows parts placed ns (each_back HasRow (level_of parts placed n) (flat_map (level_of parts placed) ns) h))

abbrev NumberedWithin : ℕ → Entry → Type 0
NumberedWithin last entry = entry.number ≤ last

tables_within : (last : ℕ) (parts : ImageParts) (ops : List LogOp) (family : NamedFamily) → unfallen_in last (image_family parts ops family) ≡ [] → Each (NumberedWithin last) (image_entries_of (tables_in (image_levels parts family.tables)))
tables_within last parts ops family none =
    let fall = family_falls last (image_family parts ops family) none in
    subst (λ tables. Each (NumberedWithin last) (image_entries_of tables)) (sym (levels_seven parts family.tables))
    (subst (Each (NumberedWithin last)) (sym (flat_append {X = FileEntries} (λ table. table.entries) (upper_tables (image_family parts ops family)) (level_of parts family.tables 6)))
    (each_join (NumberedWithin last) (image_entries_of (upper_tables (image_family parts ops family))) (image_entries_of (level_of parts family.tables 6)) fall.0.within
    (subst (λ tables. Each (NumberedWithin last) (image_entries_of tables)) (levels_lower parts family.tables) fall.1.within)))

pub family_stands : (behind : Bool) (last : ℕ) (parts : ImageParts) (ops : List LogOp) (family : NamedFamily) → IsWholeFamily last parts ops family
    → StandsFor behind last (recovered_view (image_family parts ops family)) (recovered_family behind (image_family parts ops family))
family_stands behind last parts ops family h = record {
  falls = recovered_falls last opened_ (levels_lower parts family.tables) h.falls h.unfallen (λ key. level_falls key (level_of parts family.tables 6) apart_.1.1.1.1.1.0 (each_map IsSortedRun (λ (table : FileEntries). table.entries) (level_of parts family.tables 6) rows_six));
  within = within_;
  apart = apart_;
  ranges = λ flag. sym (sorted_ ∙ ap (λ b. cond b ranges_ []) flag);
  marks = λ key. recovered_mark behind last opened_ key h.falls h.within within_;
  known = (
    each_mem (IsIn (image_keys opened_)) (counted_entries family ops) (each_as (IsIn (keys_of (counted_entries family ops))) (IsIn (image_keys opened_))
        (λ one k. any_left (λ known. same known one.key) (keys_of (counted_entries family ops)) (keys_of (image_entries_of (tables_in (image_levels parts family.tables)))) k) (counted_entries family ops) (keys_there (counted_entries family ops))),
    each_unjoined (IsIn (image_keys opened_)) (tables_in (image_levels parts family.tables)) (each_as (IsIn (keys_of (image_entries_of (tables_in (image_levels parts family.tables))))) (IsIn (image_keys opened_))
        (λ one k. any_right (λ known. same known one.key) (keys_of (counted_entries family ops)) (keys_of (image_entries_of (tables_in (image_levels parts family.tables)))) k) (image_entries_of (tables_in (image_levels parts family.tables))) (keys_there (image_entries_of (tables_in (image_levels parts family.tables))))),
  );
  written = (each_mem (λ entry. IsTrue (has_key (reverse (counted_entries family ops)) entry.key)) (counted_entries family ops) (has_reversed (counted_entries family ops)), tt);
  view = record {
    levels = refl;
    rows = (mem_rows (counted_entries family ops) h.falls h.ops_rows, h.rows);
    filled = levels_each HasEntry parts family.tables (each_as (λ one. IsTrue (is_sound parts one)) (λ one. HasEntry (table_at parts one)) (λ one k. table_filled parts one k) family.tables h.sound);
    sealed = tt;
    order = (tt, tt);
  };
  writes = each_reverse (λ (entry : Entry). entry.number ≤ last) (counted_entries family ops) h.within;
  base = newest_rises (runs_of (tables_in (image_levels parts family.tables)));
  none = λ off. ap (λ b. cond b ranges_ []) off;
  sorted = sorted_;
  rise = subst (Pairwise IsBefore) (sym sorted_) (rising_if behind);
}
  where
    opened_ : OpenedImageFamily
    opened_ = image_family parts ops family

    within_ : NumbersWithin last (recovered_view opened_)
    within_ = (each_mem (NumberedWithin last) (counted_entries family ops) h.within, each_unjoined (NumberedWithin last) (tables_in (image_levels parts family.tables)) (tables_within last parts ops family h.unfallen))

    below_rows : Each HasRow (flat_map (level_of parts family.tables) (1 ∷ 2 ∷ 3 ∷ 4 ∷ 5 ∷ 6 ∷ []))
    below_rows = each_back HasRow (map (table_at parts) (placed_at 0 family.tables)) (flat_map (level_of parts family.tables) (1 ∷ 2 ∷ 3 ∷ 4 ∷ 5 ∷ 6 ∷ [])) (map_each IsSortedRun (λ (table : FileEntries). table.entries) (tables_in (image_levels parts family.tables)) h.rows)

    apart_ : LevelsApart (recovered_view opened_)
    apart_ = levels_stand parts family.tables (1 ∷ 2 ∷ 3 ∷ 4 ∷ 5 ∷ 6 ∷ []) h.files below_rows h.meets

    rows_six : Each HasRow (level_of parts family.tables 6)
    rows_six = (levels_rows parts family.tables (1 ∷ 2 ∷ 3 ∷ 4 ∷ 5 ∷ 6 ∷ []) below_rows).1.1.1.1.1.0

    ranges_ : List KeyRange
    ranges_ = map table_range (level_of parts family.tables 6)

    rising : Pairwise IsBefore ranges_
    rising = pairs_mapped IsBefore table_range (level_of parts family.tables 6) (level_rises (level_of parts family.tables 6) apart_.1.1.1.1.1.0 (right_tables (level_of parts family.tables 6) rows_six))

    rising_if : (b : Bool) → Pairwise IsBefore (cond b ranges_ [])
    rising_if true = rising
    rising_if false = tt

    sorted_ : sorted_ranges (cond behind ranges_ []) ≡ cond behind ranges_ []
    sorted_ = fold_ranges [] (cond behind ranges_ []) tt (rising_if behind)

-- its contents are those of the image's family
pub family_contents : (behind : Bool) (last : ℕ) (parts : ImageParts) (ops : List LogOp) (name : List ℕ) (family : NamedFamily) → IsWholeFamily last parts ops family
    → model_family behind (name, recovered_family behind (image_family parts ops family)) ≡ image_contents_of_family behind (name, image_family parts ops family)
family_contents behind last parts ops name family h = λ i. record { id = family.id; name = name; marks = marks i; ranges = stands.sorted i }
  where
    opened_ : OpenedImageFamily
    opened_ = image_family parts ops family

    stands : StandsFor behind last (recovered_view opened_) (recovered_family behind opened_)
    stands = family_stands behind last parts ops family h

    has : HasColumns opened_ (recovered_view opened_)
    has = record {
      seven = levels_seven parts family.tables;
      lower = levels_lower parts family.tables;
      levels = refl;
      memory = λ key. append-nil (of_key key (mem_of (counted_entries family ops))) ∙ mem_column key (counted_entries family ops) h.falls;
    }

    found : (key : List ℕ) → image_mark opened_ key ≡ mark_at (recovered_family behind opened_) last key
    found key = mark_found opened_ (recovered_view opened_) last key has stands.falls stands.within ∙ stands.marks key

    marks : map as_entry (kept_marks behind (newest_marks (recovered_family behind opened_))) ≡ map as_entry (kept_marks behind (image_marks opened_))
    marks = ap (map as_entry) (sym (marks_same behind last opened_ (recovered_family behind opened_) (record { reads = λ key. ap value_of (found key); marks = λ flag key. found key }) stands.writes stands.base))
