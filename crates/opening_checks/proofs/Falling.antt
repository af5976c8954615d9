-- Whom to blame along the walk of a family: the tables whose numbers don't fall.
use Rattle.std.proofs.Common.{◌≡◌, ℕ, zero, suc, ◌+◌, ◌<◌, ◌≤◌, ◌⊎◌, ◌&&◌, Bool, true, false, cond, List, [], ◌∷◌, ◌++◌, length, take, drop, map, Option, Some, None, refl, sym, ap, subst, ◌∙◌, inl, inr, arith, append_assoc}
use Rattle.std.specs.Prelude.{nat_le, nat_lt}
use Rattle.std.specs.List.{list_all}
use Rattle.std.proofs.lemmas.Bool.{false≢true, lt-ltb, le-ltb}
use Rattle.st_base.specs.declared.entry.Entry.{Entry}
use Rattle.core_model.specs.Picture.{FileEntries, runs_of, tables_in}
use Rattle.st_order.proofs.Least.{Has}
use Rattle.store_image.specs.Opens.{OpenedImageFamily, entries_fall, image_entries_of, least_file, may_follow, unfallen, unfallen_in}
use Rattle.opening_checks.specs.Walk.{IsFamily, IsLeastAlong, Seated, at_key, blamed, entries_at, file_of, file_list, is_right, seat, to_blame, seats_from, walk_runs}
use Rattle.opening_checks.proofs.Blame.{at_join, blame_join, has_cases, has_left, has_right, least_blame, seated_same}
use Rattle.opening_checks.proofs.Lesser.{least_same}

entries_seated : (part : ℕ) (run : List Entry) → entries_at (map (seat part) run) ≡ run
entries_seated part [] = refl
entries_seated part (entry ∷ run) = ap (λ rest. entry ∷ rest) (entries_seated part run)

walk_join : (part : ℕ) (xs ys : List (List Entry)) → seats_from part (xs ++ ys) ≡ seats_from part xs ++ seats_from (part + length xs) ys
walk_join part [] ys = ap (λ n. seats_from n ys) (let e : part ≡ part + 0 = omega arith in e)
walk_join part (x ∷ xs) ys =
    ap (λ rest. map (seat part) x ++ rest) (walk_join (suc part) xs ys ∙ ap (λ n. seats_from (suc part) xs ++ seats_from n ys) (let e : suc part + length xs ≡ part + suc (length xs) = omega arith in e))
    ∙ sym (append_assoc (map (seat part) x) (seats_from (suc part) xs) (seats_from (part + suc (length xs)) ys))

module _ (last : ℕ) (bottom : ℕ → Bool) (file : ℕ → Option ℕ) where
  abbrev files : List Entry → List Seated → List ℕ
  files = to_blame last bottom file

  -- entries of a part that is no table are never to blame
  none_of : (part : ℕ) → file part ≡ None → (before run : List Entry) → files before (map (seat part) run) ≡ []
  none_of part none before [] = refl
  none_of part none before (entry ∷ run) =
      ap (λ found. found ++ files (before ++ entry ∷ []) (map (seat part) run)) (nothing (is_right last bottom file before (seat part entry)))
      ∙ none_of part none (before ++ entry ∷ []) run
    where
      nothing : (t : Bool) → cond t [] (file_list (file part)) ≡ []
      nothing true = refl
      nothing false = ap file_list none

  -- ---- one table

  module _ (part : ℕ) (table : ℕ) (is : file part ≡ Some table) where
    abbrev falls : List Entry → List Entry → Bool
    falls = entries_fall last (bottom part)

    abbrev blame_of : List Entry → List Entry → List ℕ
    blame_of before run = files before (map (seat part) run)

    blamed_is : (before : List Entry) (entry : Entry) → blamed last bottom file before (seat part entry) ≡ cond (is_right last bottom file before (seat part entry)) [] (table ∷ [])
    blamed_is before entry = ap (λ found. cond (is_right last bottom file before (seat part entry)) [] (file_list found)) is

    no_blame : (before run : List Entry) → falls before run ≡ true → blame_of before run ≡ []
    no_blame before [] e = refl
    no_blame before (entry ∷ run) e = step (λ more. no_blame (before ++ entry ∷ []) run more) (is_right last bottom file before (seat part entry)) refl e
      where
        step : (falls (before ++ entry ∷ []) run ≡ true → blame_of (before ++ entry ∷ []) run ≡ []) → (t : Bool) → is_right last bottom file before (seat part entry) ≡ t → (t && falls (before ++ entry ∷ []) run) ≡ true → blame_of before (entry ∷ run) ≡ []
        step more true right rest =
            ap (λ found. found ++ blame_of (before ++ entry ∷ []) run) (blamed_is before entry ∙ ap (λ t. cond t [] (table ∷ [])) right)
            ∙ more rest
        step more false wrong rest = absurd (false≢true rest)

    some_blame : (before run : List Entry) → falls before run ≡ false → Has table (blame_of before run)
    some_blame before [] e = absurd (false≢true (sym e))
    some_blame before (entry ∷ run) e = step (λ more. some_blame (before ++ entry ∷ []) run more) (is_right last bottom file before (seat part entry)) refl e
      where
        step : (falls (before ++ entry ∷ []) run ≡ false → Has table (blame_of (before ++ entry ∷ []) run)) → (t : Bool) → is_right last bottom file before (seat part entry) ≡ t → (t && falls (before ++ entry ∷ []) run) ≡ false → Has table (blame_of before (entry ∷ run))
        step more true right rest = has_right table (blamed last bottom file before (seat part entry)) (blame_of (before ++ entry ∷ []) run) (more rest)
        step more false wrong rest =
            has_left table (blamed last bottom file before (seat part entry)) (blame_of (before ++ entry ∷ []) run)
            (subst (Has table) (sym (blamed_is before entry ∙ ap (λ t. cond t [] (table ∷ [])) wrong)) (inl refl))

    only_blame : (name : ℕ) (before run : List Entry) → Has name (blame_of before run) → table ≡ name
    only_blame name before [] has = absurd has
    only_blame name before (entry ∷ run) has = elim (has_cases name (blamed last bottom file before (seat part entry)) (blame_of (before ++ entry ∷ []) run) has) [
      | inl here ↦ pick (is_right last bottom file before (seat part entry)) (subst (Has name) (blamed_is before entry) here)
      | inr there ↦ only_blame name (before ++ entry ∷ []) run there
    ]
      where
        pick : (t : Bool) → Has name (cond t [] (table ∷ [])) → table ≡ name
        pick true has = absurd has
        pick false (inl here) = here
        pick false (inr there) = absurd there

    -- the table's name, where its numbers don't fall
    abbrev named : List Entry → List Entry → List ℕ
    named before run = cond (falls before run) [] (table ∷ [])

    to_named : (name : ℕ) (before run : List Entry) → Has name (blame_of before run) → Has name (named before run)
    to_named name before run has = step (falls before run) refl
      where
        step : (t : Bool) → falls before run ≡ t → Has name (cond t [] (table ∷ []))
        step true right = absurd (subst (Has name) (no_blame before run right) has)
        step false wrong = inl (only_blame name before run has)

    from_named : (name : ℕ) (before run : List Entry) → Has name (named before run) → Has name (blame_of before run)
    from_named name before run has = step (falls before run) refl has
      where
        step : (t : Bool) → falls before run ≡ t → Has name (cond t [] (table ∷ [])) → Has name (blame_of before run)
        step true right has = absurd has
        step false wrong (inl here) = subst (λ some. Has some (blame_of before run)) here (some_blame before run wrong)
        step false wrong (inr there) = absurd there

  -- ---- tables one behind the other

  -- the parts from this one on are these tables
  abbrev AreParts : Bool → ℕ → List FileEntries → Type 0
  AreParts low part [] = Unit {0}
  AreParts low part (table ∷ tables) = (bottom part ≡ low) × (file part ≡ Some table.file) × AreParts low (suc part) tables

  abbrev blame_all : ℕ → List Entry → List FileEntries → List ℕ
  blame_all part before tables = files before (seats_from part (runs_of tables))

  join_one : (part : ℕ) (before : List Entry) (table : FileEntries) (tables : List FileEntries)
      → blame_all part before (table ∷ tables) ≡ files before (map (seat part) table.entries) ++ blame_all (suc part) (before ++ table.entries) tables
  join_one part before table tables =
      blame_join last bottom file before (map (seat part) table.entries) (seats_from (suc part) (runs_of tables))
      ∙ ap (λ some. files before (map (seat part) table.entries) ++ files (before ++ some) (seats_from (suc part) (runs_of tables))) (entries_seated part table.entries)

  to_unfallen : (name : ℕ) (low : Bool) (part : ℕ) (before : List Entry) (tables : List FileEntries) → AreParts low part tables → Has name (blame_all part before tables) → Has name (unfallen last low before tables)
  to_unfallen name low part before [] parts has = absurd has
  to_unfallen name low part before (table ∷ tables) (is_low, is_file, parts) has =
      elim (has_cases name (files before (map (seat part) table.entries)) (blame_all (suc part) (before ++ table.entries) tables) (subst (Has name) (join_one part before table tables) has)) [
        | inl here ↦ has_left name (cond (entries_fall last low before table.entries) [] (table.file ∷ [])) (unfallen last low (before ++ table.entries) tables)
            (subst (λ b. Has name (cond (entries_fall last b before table.entries) [] (table.file ∷ []))) is_low (to_named part table.file is_file name before table.entries here))
        | inr there ↦ has_right name (cond (entries_fall last low before table.entries) [] (table.file ∷ [])) (unfallen last low (before ++ table.entries) tables)
            (to_unfallen name low (suc part) (before ++ table.entries) tables parts there)
      ]

  from_unfallen : (name : ℕ) (low : Bool) (part : ℕ) (before : List Entry) (tables : List FileEntries) → AreParts low part tables → Has name (unfallen last low before tables) → Has name (blame_all part before tables)
  from_unfallen name low part before [] parts has = absurd has
  from_unfallen name low part before (table ∷ tables) (is_low, is_file, parts) has =
      subst (Has name) (sym (join_one part before table tables))
      (elim (has_cases name (cond (entries_fall last low before table.entries) [] (table.file ∷ [])) (unfallen last low (before ++ table.entries) tables) has) [
        | inl here ↦ has_left name (files before (map (seat part) table.entries)) (blame_all (suc part) (before ++ table.entries) tables)
            (from_named part table.file is_file name before table.entries (subst (λ b. Has name (cond (entries_fall last b before table.entries) [] (table.file ∷ []))) (sym is_low) here))
        | inr there ↦ has_right name (files before (map (seat part) table.entries)) (blame_all (suc part) (before ++ table.entries) tables)
            (from_unfallen name low (suc part) (before ++ table.entries) tables parts there)
      ])

  -- ---- the counted operations, then the upper tables, then the lower ones

  entries_all : (part : ℕ) (tables : List FileEntries) → entries_at (seats_from part (runs_of tables)) ≡ image_entries_of tables
  entries_all part [] = refl
  entries_all part (table ∷ tables) =
      Rattle.std.proofs.lemmas.List.map-append (λ (one : Seated). one.entry) (map (seat part) table.entries) (seats_from (suc part) (runs_of tables))
      ∙ ap (λ some. some ++ entries_at (seats_from (suc part) (runs_of tables))) (entries_seated part table.entries)
      ∙ ap (λ rest. table.entries ++ rest) (entries_all (suc part) tables)

  module _ (counted : List Entry) (upper lower : List FileEntries) (none : file 0 ≡ None) (above : AreParts false 1 upper) (below : AreParts true (1 + length (runs_of upper)) lower) where
    abbrev both : List ℕ
    both = blame_all 1 counted upper ++ blame_all (1 + length (runs_of upper)) (counted ++ image_entries_of upper) lower

    walk_is : files [] (seats_from 0 (walk_runs counted (upper ++ lower))) ≡ both
    walk_is =
        blame_join last bottom file [] (map (seat 0) counted) (seats_from 1 (runs_of (upper ++ lower)))
        ∙ ap (λ found. found ++ files (entries_at (map (seat 0) counted)) (seats_from 1 (runs_of (upper ++ lower)))) (none_of 0 none [] counted)
        ∙ ap (λ some. files some (seats_from 1 (runs_of (upper ++ lower)))) (entries_seated 0 counted)
        ∙ ap (λ runs. files counted (seats_from 1 runs)) (Rattle.std.proofs.lemmas.List.map-append (λ (table : FileEntries). table.entries) upper lower)
        ∙ ap (files counted) (walk_join 1 (runs_of upper) (runs_of lower))
        ∙ blame_join last bottom file counted (seats_from 1 (runs_of upper)) (seats_from (1 + length (runs_of upper)) (runs_of lower))
        ∙ ap (λ some. blame_all 1 counted upper ++ files (counted ++ some) (seats_from (1 + length (runs_of upper)) (runs_of lower))) (entries_all 1 upper)

    abbrev all_unfallen : List ℕ
    all_unfallen = unfallen last false counted upper ++ unfallen last true (counted ++ image_entries_of upper) lower

    pub least_is : least_file (files [] (seats_from 0 (walk_runs counted (upper ++ lower)))) ≡ least_file all_unfallen
    least_is = ap least_file walk_is ∙ least_same both all_unfallen to back
      where
        to : (name : ℕ) → Has name both → Has name all_unfallen
        to name has = elim (has_cases name (blame_all 1 counted upper) (blame_all (1 + length (runs_of upper)) (counted ++ image_entries_of upper) lower) has) [
          | inl here ↦ has_left name (unfallen last false counted upper) (unfallen last true (counted ++ image_entries_of upper) lower) (to_unfallen name false 1 counted upper above here)
          | inr there ↦ has_right name (unfallen last false counted upper) (unfallen last true (counted ++ image_entries_of upper) lower) (to_unfallen name true (1 + length (runs_of upper)) (counted ++ image_entries_of upper) lower below there)
        ]

        back : (name : ℕ) → Has name all_unfallen → Has name both
        back name has = elim (has_cases name (unfallen last false counted upper) (unfallen last true (counted ++ image_entries_of upper) lower) has) [
          | inl here ↦ has_left name (blame_all 1 counted upper) (blame_all (1 + length (runs_of upper)) (counted ++ image_entries_of upper) lower) (from_unfallen name false 1 counted upper above here)
          | inr there ↦ has_right name (blame_all 1 counted upper) (blame_all (1 + length (runs_of upper)) (counted ++ image_entries_of upper) lower) (from_unfallen name true (1 + length (runs_of upper)) (counted ++ image_entries_of upper) lower below there)
        ]

-- ---- which file a part has

file_at : (front : List FileEntries) (table : FileEntries) (rest : List FileEntries) → file_of (front ++ table ∷ rest) (suc (length front)) ≡ Some table.file
file_at [] table rest = refl
file_at (x ∷ front) table rest = file_at front table rest

module _ (bottom : ℕ → Bool) (low : Bool) (last : ℕ) where
  are_parts : (all front tables rest : List FileEntries) (n : ℕ) → all ≡ front ++ (tables ++ rest) → n ≡ length front → ((i : ℕ) → n ≤ i → i < n + length tables → bottom (suc i) ≡ low)
      → AreParts last bottom (file_of all) low (suc n) tables
  are_parts all front [] rest n e long is = tt
  are_parts all front (table ∷ tables) rest n e long is = (
    is n (omega arith) (omega arith),
    ap (λ k. file_of all (suc k)) long ∙ ap (λ (some : List FileEntries). file_of some (suc (length front))) e ∙ file_at front table (tables ++ rest),
    are_parts all (front ++ table ∷ []) tables rest (suc n) (e ∙ sym (append_assoc front (table ∷ []) (tables ++ rest)))
        (let more = Rattle.std.proofs.Common.length-append front (table ∷ []) in omega (arith, long, more))
        (λ i ge lt. is i (omega arith) (omega arith)),
  )

module _ (last : ℕ) (counted : List Entry) (upper lower : List FileEntries) where
  abbrev bottom_of : ℕ → Bool
  bottom_of part = nat_lt (length upper) part

  above : AreParts last bottom_of (file_of (upper ++ lower)) false 1 upper
  above = are_parts bottom_of false last (upper ++ lower) [] upper lower 0 refl refl (λ i ge lt. le-ltb (length upper) (suc i) (omega arith))

  below : AreParts last bottom_of (file_of (upper ++ lower)) true (1 + length (runs_of upper)) lower
  below =
      let long = Rattle.std.proofs.lemmas.List.length-map upper (λ (table : FileEntries). table.entries) in
      subst (λ n. AreParts last bottom_of (file_of (upper ++ lower)) true n lower) (let e : suc (length upper) ≡ 1 + length (runs_of upper) = omega (arith, long) in e)
      (are_parts bottom_of true last (upper ++ lower) upper lower [] (length upper) (ap (λ some. upper ++ some) (sym (Rattle.std.proofs.Common.append-nil lower))) refl
      (λ i ge lt. lt-ltb (length upper) (suc i) (omega arith)))

  no_file : (tables : List FileEntries) → file_of tables 0 ≡ None
  no_file [] = refl
  no_file (table ∷ tables) = refl

  -- the least file to blame along a walk with these entries of each key is that of the tables whose numbers don't fall
  pub least_unfallen_is : (walked : List Seated) → ((key : List ℕ) → at_key key walked ≡ at_key key (seats_from 0 (walk_runs counted (upper ++ lower))))
      → least_file (to_blame last bottom_of (file_of (upper ++ lower)) [] walked)
      ≡ least_file (unfallen last false counted upper ++ unfallen last true (counted ++ image_entries_of upper) lower)
  least_unfallen_is walked columns =
      least_blame last bottom_of (file_of (upper ++ lower)) walked (seats_from 0 (walk_runs counted (upper ++ lower))) columns
      ∙ least_is last bottom_of (file_of (upper ++ lower)) counted upper lower (no_file (upper ++ lower)) above below

-- ---- a family

module _ (last : ℕ) (counted : List Entry) (levels : List (List FileEntries)) where
  abbrev upper_of : List FileEntries
  upper_of = tables_in (take 6 levels)

  abbrev lower_of_all : List FileEntries
  lower_of_all = tables_in (drop 6 levels)

  -- a walk over these counted operations and tables blames the family's tables whose numbers don't fall
  pub family_is : (family : OpenedImageFamily) → IsFamily counted levels family → (walked : List Seated)
      → ((key : List ℕ) → at_key key walked ≡ at_key key (seats_from 0 (walk_runs counted (upper_of ++ lower_of_all))))
      → least_file (to_blame last (λ part. nat_lt (length upper_of) part) (file_of (upper_of ++ lower_of_all)) [] walked) ≡ least_file (unfallen_in last family)
  family_is family is walked columns =
      least_unfallen_is last family.counted upper_of lower_of_all walked (λ key. columns key ∙ its key)
      ∙ ap (λ some. least_file (unfallen last false family.counted (tables_in (take 6 some)) ++ unfallen last true (family.counted ++ image_entries_of (tables_in (take 6 some))) (tables_in (drop 6 some)))) (sym is.levels_are)
    where
      its : (key : List ℕ) → at_key key (seats_from 0 (walk_runs counted (upper_of ++ lower_of_all))) ≡ at_key key (seats_from 0 (walk_runs family.counted (upper_of ++ lower_of_all)))
      its key =
          at_join key (map (seat 0) counted) (seats_from 1 (runs_of (upper_of ++ lower_of_all)))
          ∙ ap (λ front. front ++ at_key key (seats_from 1 (runs_of (upper_of ++ lower_of_all)))) (seated_same key 0 counted family.counted (sym (is.columns key)))
          ∙ sym (at_join key (map (seat 0) family.counted) (seats_from 1 (runs_of (upper_of ++ lower_of_all))))

  pub unfallen_same : (one other : OpenedImageFamily) → IsFamily counted levels one → IsFamily counted levels other → least_file (unfallen_in last one) ≡ least_file (unfallen_in last other)
  unfallen_same one other is_one is_other =
      sym (family_is one is_one (seats_from 0 (walk_runs counted (upper_of ++ lower_of_all))) (λ key. refl))
      ∙ family_is other is_other (seats_from 0 (walk_runs counted (upper_of ++ lower_of_all))) (λ key. refl)

-- what was found along the parts, and the tables from which they were taken
pub finished : (last upper : ℕ) (counted : List Entry) (levels : List (List FileEntries)) (tables : List FileEntries) (least : Option ℕ) → IsLeastAlong last upper counted tables least
    → tables ≡ tables_in (take 6 levels) ++ tables_in (drop 6 levels) → upper ≡ length (tables_in (take 6 levels)) → (family : OpenedImageFamily) → IsFamily counted levels family → least ≡ least_file (unfallen_in last family)
finished last upper counted levels tables least along are is_upper family is =
    along.least_is
    ∙ ap (λ (some : List FileEntries). least_file (to_blame last (λ part. nat_lt upper part) (file_of some) [] along.taken)) are
    ∙ ap (λ n. least_file (to_blame last (λ part. nat_lt n part) (file_of (tables_in (take 6 levels) ++ tables_in (drop 6 levels))) [] along.taken)) is_upper
    ∙ family_is last counted levels family is along.taken (λ key. along.columns key ∙ ap (λ (some : List FileEntries). at_key key (seats_from 0 (walk_runs counted some))) are)
