-- What an opening tests holds where the core stands for a state.
use Rattle.std.proofs.Common.{◌≡◌, ℕ, ◌<◌, ◌≤◌, Bool, true, false, cond, ◌&&◌, ◌||◌, not, List, [], ◌∷◌, ◌++◌, map, refl, sym, ap, subst, ◌∙◌, inl, inr, zero, suc, arith}
use Rattle.std.specs.Prelude.{IsTrue, ◌⊎◌, ◌==◌, nat_lt, take, drop}
use Rattle.std.specs.List.{flat_map, list_all, AllByRecursion as Each}
use Rattle.std.proofs.lemmas.Bool.{lt-ltb, le-leb}
use Rattle.st_base.specs.Bytes.{same, below, at_most}
use Rattle.st_base.specs.declared.entry.Entry.{Entry}
use Rattle.st_base.specs.Range.{meet}
use Rattle.base_laws.proofs.Keys.{below_not}
use Rattle.base_laws.proofs.Lists.{any_none, append_one, each_as, each_back, each_front, each_join, filter_none}
use Rattle.core_laws.proofs.Lists.{filter_join, pairs_across, pairs_as, pairs_back, pairs_front, pairs_join}
use Rattle.core_model.specs.Picture.{FileEntries, FamilyView, runs_of, tables_in, table_range, memories, above, level_at}
use Rattle.core_model.specs.RelationParts.{IsLevel, LevelsApart, NumbersFall, NumbersWithin}
use Rattle.store_image.specs.Opens.{OpenedImageFamily, image_entries_of, may_follow, entries_fall, unfallen, unfallen_in, upper_tables, lower_tables, meets_other, image_files_meeting, image_files_meeting_in}
use Rattle.image_laws.proofs.Lists.{flat_append, column_joined, columns_pairs}
use Rattle.st_base.proofs.Same.{same_sym}
use Rattle.image_laws.proofs.Best.{HasColumns, column_append}
use Rattle.st_order.specs.Columns.{Pairwise, column, of_key}

-- ---- levels: no two tables meet

abbrev IsApart : FileEntries → FileEntries → Type 0
IsApart one other = IsTrue (below (table_range one).last (table_range other).first)

never : (b : Bool) → (b && false) ≡ false
never true = refl
never false = refl

-- the one before, and the one behind
no_meet : (one other : FileEntries) → IsApart one other → meet (table_range one) (table_range other) ≡ false
no_meet one other h = ap (λ b. at_most (table_range one).first (table_range other).last && b) (below_not (table_range one).last (table_range other).first h) ∙ never (at_most (table_range one).first (table_range other).last)

no_meet_back : (one other : FileEntries) → IsApart other one → meet (table_range one) (table_range other) ≡ false
no_meet_back one other h = ap (λ b. b && at_most (table_range other).first (table_range one).last) (below_not (table_range other).last (table_range one).first h)

no_other : (one other : FileEntries) → meet (table_range one) (table_range other) ≡ false → (not (other.file == one.file) && meet (table_range one) (table_range other)) ≡ false
no_other one other e = ap (λ b. not (other.file == one.file) && b) e ∙ never (not (other.file == one.file))

same_number : (n : ℕ) → (n == n) ≡ true
same_number n = grind arith

abbrev meets : FileEntries → FileEntries → Bool
meets one other = not (other.file == one.file) && meet (table_range one) (table_range other)

-- of a level in two parts, no table of the second part meets any
apart_parts : (before tables : List FileEntries) → Each (λ one. Each (IsApart one) tables) before → Pairwise IsApart tables → Each (λ one. meets_other (before ++ tables) one ≡ false) tables
apart_parts before [] h apart = tt
apart_parts before (one ∷ tables) h apart = (
  any_none (meets one) (before ++ one ∷ tables)
      (each_join (λ other. meets one other ≡ false) before (one ∷ tables)
      (each_as (λ other. Each (IsApart other) (one ∷ tables)) (λ other. meets one other ≡ false) (λ other e. no_other one other (no_meet_back one other e.0)) before h)
      (ap (λ b. not b && meet (table_range one) (table_range one)) (same_number one.file), each_as (IsApart one) (λ other. meets one other ≡ false) (λ other e. no_other one other (no_meet one other e)) tables apart.0)),
  subst (λ all. Each (λ other. meets_other all other ≡ false) tables) (append_one before one tables)
      (apart_parts (before ++ one ∷ []) tables
      (each_join (λ other. Each (IsApart other) tables) before (one ∷ []) (each_as (λ other. Each (IsApart other) (one ∷ tables)) (λ other. Each (IsApart other) tables) (λ other e. e.1) before h) (apart.0, tt))
      apart.1),
)

level_apart : (tables : List FileEntries) → IsLevel tables → image_files_meeting tables ≡ []
level_apart tables apart = ap (map (λ (table : FileEntries). table.file)) (filter_none (meets_other tables) tables (apart_parts [] tables tt apart))

levels_apart : (levels : List (List FileEntries)) → Each IsLevel levels → flat_map image_files_meeting levels ≡ []
levels_apart [] h = refl
levels_apart (level ∷ levels) h = ap (λ l. l ++ flat_map image_files_meeting levels) (level_apart level h.0) ∙ levels_apart levels h.1

pub no_meeting : (opened : OpenedImageFamily) (family : FamilyView) → HasColumns opened family → LevelsApart family → image_files_meeting_in opened ≡ []
no_meeting opened family has apart = ap (λ levels. flat_map image_files_meeting (drop 1 levels)) has.levels ∙ levels_apart (drop 1 family.levels) apart

-- ---- the walk: numbers fall

abbrev Follows : Bool → Entry → Entry → Type 0
Follows bottom before entry = may_follow bottom entry before ≡ true

all_of : {X : Type 0} (p : X → Bool) (xs : List X) → Each (λ x. p x ≡ true) xs → list_all p xs ≡ true
all_of p [] h = refl
all_of p (x ∷ xs) h = ap (λ b. b && list_all p xs) h.0 ∙ all_of p xs h.1

-- entries behind others: each may follow all before it, and none is above the last number
run_falls : (last : ℕ) (bottom : Bool) (before entries : List Entry) → Each (λ one. Each (Follows bottom one) entries) before → Pairwise (Follows bottom) entries → Each (λ entry. entry.number ≤ last) entries → entries_fall last bottom before entries ≡ true
run_falls last bottom before [] h pairs within = refl
run_falls last bottom before (entry ∷ entries) h pairs within =
    ap (λ b. (b && list_all (may_follow bottom entry) before) && entries_fall last bottom (before ++ entry ∷ []) entries) (le-leb entry.number last within.0)
    ∙ ap (λ b. b && entries_fall last bottom (before ++ entry ∷ []) entries) (all_of (may_follow bottom entry) before (each_as (λ one. Each (Follows bottom one) (entry ∷ entries)) (λ one. Follows bottom one entry) (λ one e. e.0) before h))
    ∙ run_falls last bottom (before ++ entry ∷ []) entries
    (each_join (λ one. Each (Follows bottom one) entries) before (entry ∷ []) (each_as (λ one. Each (Follows bottom one) (entry ∷ entries)) (λ one. Each (Follows bottom one) entries) (λ one e. e.1) before h) (pairs.0, tt))
    pairs.1 within.1

tables_fall : (last : ℕ) (bottom : Bool) (before : List Entry) (tables : List FileEntries) → Each (λ one. Each (Follows bottom one) (image_entries_of tables)) before → Pairwise (Follows bottom) (image_entries_of tables)
    → Each (λ entry. entry.number ≤ last) (image_entries_of tables) → unfallen last bottom before tables ≡ []
tables_fall last bottom before [] h pairs within = refl
tables_fall last bottom before (table ∷ tables) h pairs within =
    ap (λ b. cond b [] (table.file ∷ []) ++ unfallen last bottom (before ++ table.entries) tables)
    (run_falls last bottom before table.entries (each_as (λ one. Each (Follows bottom one) (table.entries ++ image_entries_of tables)) (λ one. Each (Follows bottom one) table.entries) (λ one e. each_front (Follows bottom one) table.entries (image_entries_of tables) e) before h)
    (pairs_front (Follows bottom) table.entries (image_entries_of tables) pairs) (each_front (λ (entry : Entry). entry.number ≤ last) table.entries (image_entries_of tables) within))
    ∙ tables_fall last bottom (before ++ table.entries) tables
    (each_join (λ one. Each (Follows bottom one) (image_entries_of tables)) before table.entries
    (each_as (λ one. Each (Follows bottom one) (table.entries ++ image_entries_of tables)) (λ one. Each (Follows bottom one) (image_entries_of tables)) (λ one e. each_back (Follows bottom one) table.entries (image_entries_of tables) e) before h)
    (pairs_across (Follows bottom) table.entries (image_entries_of tables) pairs))
    (pairs_back (Follows bottom) table.entries (image_entries_of tables) pairs) (each_back (λ (entry : Entry). entry.number ≤ last) table.entries (image_entries_of tables) within)

-- ---- from the columns of a family

-- numbers of a key fall, or in the last level are both 0
abbrev MayStand : Bool → Entry → Entry → Type 0
MayStand bottom one other = (other.number < one.number) ⊎ (IsTrue bottom × (other.number ≡ 0) × (one.number ≡ 0))

may : (bottom : Bool) (one other : Entry) → (same other.key one.key ≡ true → MayStand bottom one other) → Follows bottom one other
may bottom one other h = go (same one.key other.key) refl
  where
    zeros : (a b : ℕ) → a ≡ 0 → b ≡ 0 → (bottom_ : Bool) → IsTrue bottom_ → (bottom_ && (a == 0) && (b == 0)) ≡ true
    zeros a b ea eb bottom_ t = ap (λ x. x && (a == 0) && (b == 0)) t ∙ ap (λ n. (true && (n == 0)) && (b == 0)) ea ∙ ap (λ n. n == 0) eb

    right : (b : Bool) → b ≡ true → (a c : Bool) → (a || b) || c ≡ true
    right b e true c = refl
    right b e false c = ap (λ x. x || c) e

    last : (a : Bool) (c : Bool) → c ≡ true → a || c ≡ true
    last true c e = refl
    last false c e = e

    stands : MayStand bottom one other → (a : Bool) → ((a || nat_lt other.number one.number) || (bottom && (other.number == 0) && (one.number == 0))) ≡ true
    stands (inl less) a = right (nat_lt other.number one.number) (lt-ltb other.number one.number less) a (bottom && (other.number == 0) && (one.number == 0))
    stands (inr both) a = last (a || nat_lt other.number one.number) (bottom && (other.number == 0) && (one.number == 0)) (zeros other.number one.number both.1 both.2 bottom both.0)

    go : (b : Bool) → same one.key other.key ≡ b → Follows bottom one other
    go false e = ap (λ b. (not b || nat_lt other.number one.number) || (bottom && (other.number == 0) && (one.number == 0))) e
    go true e = stands (h (same_sym one.key other.key e)) (not (same one.key other.key))

-- a column of the upper entries, and one of all
abbrev upper_entries : OpenedImageFamily → List Entry
upper_entries opened = opened.counted ++ image_entries_of (upper_tables opened)

abbrev all_entries : OpenedImageFamily → List Entry
all_entries opened = upper_entries opened ++ image_entries_of (lower_tables opened)

column_upper : (opened : OpenedImageFamily) (family : FamilyView) (key : List ℕ) → HasColumns opened family → of_key key (upper_entries opened) ≡ column key (above family 6)
column_upper opened family key has =
    filter_join (λ (entry : Entry). same entry.key key) opened.counted (image_entries_of (upper_tables opened))
    ∙ ap (λ l. of_key key opened.counted ++ l) (column_joined key (upper_tables opened))
    ∙ ap (λ l. l ++ column key (runs_of (upper_tables opened))) (sym (has.memory key))
    ∙ ap (λ levels. column key (memories family) ++ column key (runs_of (tables_in (take 6 levels)))) has.levels
    ∙ sym (column_append key (memories family) (runs_of (tables_in (take 6 family.levels))))

column_lower : (opened : OpenedImageFamily) (family : FamilyView) (key : List ℕ) → HasColumns opened family → of_key key (image_entries_of (lower_tables opened)) ≡ column key (runs_of (level_at family 6))
column_lower opened family key has =
    column_joined key (lower_tables opened)
    ∙ ap (λ levels. column key (runs_of (tables_in (drop 6 levels)))) has.levels
    ∙ ap (λ tables. column key (runs_of tables)) has.lower

upper_pairs : (opened : OpenedImageFamily) (family : FamilyView) → HasColumns opened family → NumbersFall family → Pairwise (Follows false) (upper_entries opened)
upper_pairs opened family has falls =
    pairs_as (λ one other. same other.key one.key ≡ true → MayStand false one other) (Follows false) (λ one other h. may false one other h) (upper_entries opened)
    (columns_pairs (MayStand false) (upper_entries opened) (λ key. subst (Pairwise (MayStand false)) (sym (column_upper opened family key has)) (pairs_as (λ one other. other.number < one.number) (MayStand false) (λ one other h. inl h) (column key (above family 6)) (falls key).above)))

all_pairs : (opened : OpenedImageFamily) (family : FamilyView) → HasColumns opened family → NumbersFall family → Pairwise (Follows true) (all_entries opened)
all_pairs opened family has falls =
    pairs_as (λ one other. same other.key one.key ≡ true → MayStand true one other) (Follows true) (λ one other h. may true one other h) (all_entries opened)
    (columns_pairs (MayStand true) (all_entries opened) (λ key. subst (Pairwise (MayStand true))
    (sym (filter_join (λ (entry : Entry). same entry.key key) (upper_entries opened) (image_entries_of (lower_tables opened)) ∙ ap (λ l. l ++ of_key key (image_entries_of (lower_tables opened))) (column_upper opened family key has) ∙ ap (λ l. column key (above family 6) ++ l) (column_lower opened family key has)))
    (pairs_join (MayStand true) (column key (above family 6)) (column key (runs_of (level_at family 6)))
    (pairs_as (λ one other. other.number < one.number) (MayStand true) (λ one other h. inl h) (column key (above family 6)) (falls key).above)
    (pairs_as (λ one other. other.number < one.number) (MayStand true) (λ one other h. inl h) (column key (runs_of (level_at family 6))) (falls key).below)
    (each_as (λ one. Each (λ other. (other.number < one.number) ⊎ (other.number ≡ 0)) (column key (runs_of (level_at family 6)))) (λ one. Each (MayStand true one) (column key (runs_of (level_at family 6))))
    (λ one. each_as (λ other. (other.number < one.number) ⊎ (other.number ≡ 0)) (MayStand true one) (λ other h. bottom one other h) (column key (runs_of (level_at family 6)))) (column key (above family 6)) (falls key).across))))
  where
    bottom : (one other : Entry) → (other.number < one.number) ⊎ (other.number ≡ 0) → MayStand true one other
    bottom one other (inl h) = inl h
    bottom one other (inr h) = elim (zero_or one.number) [ inl z ↦ inr (refl, h, z) | inr p ↦ inl (omega arith) ]
      where
        zero_or : (n : ℕ) → (n ≡ 0) ⊎ (0 < n)
        zero_or zero = inl refl
        zero_or (suc n) = inr (omega arith)

each_joined : (P : Entry → Type 0) (tables : List FileEntries) → Each (Each P) (runs_of tables) → Each P (image_entries_of tables)
each_joined P [] h = tt
each_joined P (table ∷ tables) h = each_join P table.entries (image_entries_of tables) h.0 (each_joined P tables h.1)

joined_append : (one other : List FileEntries) → image_entries_of (one ++ other) ≡ image_entries_of one ++ image_entries_of other
joined_append one other = flat_append (λ (table : FileEntries). table.entries) one other

within_all : (opened : OpenedImageFamily) (family : FamilyView) (last : ℕ) → HasColumns opened family → NumbersWithin last family → Each (λ entry. entry.number ≤ last) (image_entries_of (upper_tables opened) ++ image_entries_of (lower_tables opened))
within_all opened family last has within =
    subst (Each (λ (entry : Entry). entry.number ≤ last))
    (ap image_entries_of has.seven ∙ ap (λ tables. image_entries_of (tables_in (take 6 family.levels) ++ tables)) (sym has.lower)
    ∙ joined_append (tables_in (take 6 family.levels)) (tables_in (drop 6 family.levels))
    ∙ ap (λ levels. image_entries_of (tables_in (take 6 levels)) ++ image_entries_of (tables_in (drop 6 levels))) (sym has.levels))
    (each_joined (λ (entry : Entry). entry.number ≤ last) (tables_in family.levels) (each_back (Each (λ (entry : Entry). entry.number ≤ last)) (memories family) (runs_of (tables_in family.levels)) within))

unfallen_none : (opened : OpenedImageFamily) (family : FamilyView) (last : ℕ) → HasColumns opened family → NumbersFall family → NumbersWithin last family
    → unfallen last false opened.counted (upper_tables opened) ≡ []
unfallen_none opened family last has falls within =
    tables_fall last false opened.counted (upper_tables opened)
    (pairs_across (Follows false) opened.counted (image_entries_of (upper_tables opened)) (upper_pairs opened family has falls))
    (pairs_back (Follows false) opened.counted (image_entries_of (upper_tables opened)) (upper_pairs opened family has falls))
    (each_front (λ (entry : Entry). entry.number ≤ last) (image_entries_of (upper_tables opened)) (image_entries_of (lower_tables opened)) (within_all opened family last has within))

pub no_unfallen : (opened : OpenedImageFamily) (family : FamilyView) (last : ℕ) → HasColumns opened family → NumbersFall family → NumbersWithin last family → unfallen_in last opened ≡ []
no_unfallen opened family last has falls within =
    ap (λ l. l ++ unfallen last true (upper_entries opened) (lower_tables opened)) (unfallen_none opened family last has falls within)
    ∙ tables_fall last true (upper_entries opened) (lower_tables opened)
    (pairs_across (Follows true) (upper_entries opened) (image_entries_of (lower_tables opened)) (all_pairs opened family has falls))
    (pairs_back (Follows true) (upper_entries opened) (image_entries_of (lower_tables opened)) (all_pairs opened family has falls))
    (each_back (λ (entry : Entry). entry.number ≤ last) (image_entries_of (upper_tables opened)) (image_entries_of (lower_tables opened)) (within_all opened family last has within))
