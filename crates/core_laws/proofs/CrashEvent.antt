-- Crashed: the core after it stands for the state of the opening.
use Rattle.std.proofs.Common.{◌≡◌, ℕ, ◌+◌, ◌<◌, ◌≤◌, ◌⊎◌, max, Bool, true, false, cond, ◌||◌, ◌==◌, List, [], ◌∷◌, length, map, filter, set, None, unwrap_or, refl, sym, ap, subst, subst₂, ◌∙◌, inl, inr, arith, suc}
use Rattle.std.specs.Prelude.{IsTrue, MatchBool, flat_map, nat_lt, fold, slice_get}
use Rattle.std.specs.List.{list_any, AllByRecursion as Each, AllZip}
use Rattle.std.proofs.lemmas.Bool.{false≢true, lt-ltb, le-ltb, eqb-true, eq-eqb, or_left, or_right, cases_lt, cases_order}
use Rattle.st_base.specs.Bytes.{below}
use Rattle.st_base.specs.Entries.{entry_charge, add_charge}
use Rattle.st_base.specs.declared.entry.Mark.{Mark}
use Rattle.st_model.specs.declared.contents.ContentsFamily.{ContentsFamily}
use Rattle.st_model.specs.declared.state.ModelFamily.{ModelFamily}
use Rattle.st_model.specs.declared.state.ModelState.{ModelState}
use Rattle.st_model.specs.Contents.{newest_marks, is_kept, kept_marks, as_entry, contents_of_family, sorted_ranges, contents, opened_families, marks_charge, opened}
use Rattle.st_base.specs.Range.{keys_of}
use Rattle.st_model.specs.Sound.{IsSound, KeysRise, WritesWithin}
use Rattle.base_laws.proofs.Lists.{each_all, each_as, each_back, each_front, each_join}
use Rattle.core_model.specs.Crash.{newest_of, opened_charge, IsFlushedByCrash, memory_ids, rank, Reopens, known_keys, IsCrashed}
use Rattle.core_model.specs.Event.{Crashed}
use Rattle.core_model.specs.declared.reply.CoreReply.{CoreReply}
use Rattle.core_model.specs.Relation.{Represents}
use Rattle.core_model.specs.Picture.{FileEntries, FamilyView, Core, tables_in, walk, lowest_level, live_numbers}
use Rattle.core_model.specs.Run.{IsCoreStep, Refines, next_state}
use Rattle.core_model.specs.RelationParts.{IsView, JobsRun, KeepsReads}
use Rattle.core_model.specs.Step.{has_memory, AreFilesBelow}
use Rattle.core_laws.proofs.ReopenedFamily.{Reopened, reopened, reborn, reborn_base, reborn_rise, charged_alike, pair_reborn}
use Rattle.core_laws.proofs.ByPlace.{each_both, from_pairs}
use Rattle.core_laws.proofs.PlainEvents.{not_now}
use Rattle.core_laws.proofs.NamedLists.{Zipped, zip_to, zip_right, lefts, rights, each_beside, pairs_beside, zip_turned}
use Rattle.core_laws.proofs.FamilyPair.{Pair, pairs_stand, stands_of, ids_zip, zip_ids}
use Rattle.core_laws.proofs.ChangesSound.{Rise, Families, families_of, sound_of}
use Rattle.core_laws.proofs.Lists.{pairs_across, pairs_as, pairs_back, pairs_front, pairs_join}
use Rattle.st_order.specs.Columns.{Pairwise}
use Rattle.std.proofs.lemmas.List.{length-map}

-- ---- three lists side by side

zip_reopened : (core : Core) (first : ℕ) (fs gs : List (List ℕ × FamilyView)) → Each (λ named. IsView named.1) fs → AllZip (Reopens core first) fs gs → Zipped Reopened fs gs
zip_reopened core first [] [] v h = tt
zip_reopened core first [] (g ∷ gs) v h = absurd h
zip_reopened core first (f ∷ fs) [] v h = absurd h
zip_reopened core first (f ∷ fs) (g ∷ gs) v h = ((h.0.0, reopened core first f g v.0 h.0), zip_reopened core first fs gs v.1 h.1)

abbrev known_of : List (List ℕ × FamilyView) → List (List (List ℕ))
known_of fs = map (λ named. flat_map keys_of (walk named.1)) fs

zip_crashed : (b : Bool) (Q S : FamilyView → ModelFamily → Type 0) → ((f g : FamilyView) (name : List ℕ) (k : ModelFamily) → Reopened f g → Q f k → S g (reborn b f name k))
    → (fs gs : List (List ℕ × FamilyView)) (ks : List (List ℕ × ModelFamily)) → Zipped Reopened fs gs → Zipped Q fs ks → Zipped S gs (opened_families (known_of fs) (map (contents_of_family b) ks))
zip_crashed b Q S to [] [] [] r q = tt
zip_crashed b Q S to [] [] (k ∷ ks) r q = absurd q
zip_crashed b Q S to [] (g ∷ gs) ks r q = absurd r
zip_crashed b Q S to (f ∷ fs) [] ks r q = absurd r
zip_crashed b Q S to (f ∷ fs) (g ∷ gs) [] r q = absurd q
zip_crashed b Q S to (f ∷ fs) (g ∷ gs) (k ∷ ks) r q = ((sym r.0.0 ∙ q.0.0, to f.1 g.1 k.0 k.1 r.0.1 q.0.1), zip_crashed b Q S to fs gs ks r.1 q.1)

zip_opened : (b : Bool) (Q : FamilyView → ModelFamily → Type 0) (T : ModelFamily → ModelFamily → Type 0) → ((f : FamilyView) (name : List ℕ) (k : ModelFamily) → Q f k → T k (reborn b f name k))
    → (fs : List (List ℕ × FamilyView)) (ks : List (List ℕ × ModelFamily)) → Zipped Q fs ks → Zipped T ks (opened_families (known_of fs) (map (contents_of_family b) ks))
zip_opened b Q T to [] [] q = tt
zip_opened b Q T to [] (k ∷ ks) q = absurd q
zip_opened b Q T to (f ∷ fs) [] q = absurd q
zip_opened b Q T to (f ∷ fs) (k ∷ ks) q = ((refl, to f.1 k.0 k.1 q.0.1), zip_opened b Q T to fs ks q.1)

-- ---- charge and ids

marks_charged : (b : Bool) (marks : List (List ℕ × Mark)) (charge : ℕ)
    → fold (λ sum (pair : List ℕ × Mark). cond (is_kept b pair.1) (add_charge sum (entry_charge pair.0 pair.1)) sum) charge marks ≡ marks_charge charge (map as_entry (kept_marks b marks))
marks_charged b [] charge = refl
marks_charged b (p ∷ ps) charge = by (is_kept b p.1) (marks_charged b ps)
  where
    by : (t : Bool) → ((c : ℕ) → fold (λ sum (pair : List ℕ × Mark). cond (is_kept b pair.1) (add_charge sum (entry_charge pair.0 pair.1)) sum) c ps ≡ marks_charge c (map as_entry (kept_marks b ps)))
        → fold (λ sum (pair : List ℕ × Mark). cond (is_kept b pair.1) (add_charge sum (entry_charge pair.0 pair.1)) sum) (cond t (add_charge charge (entry_charge p.0 p.1)) charge) ps
        ≡ marks_charge charge (map as_entry (cond t (p ∷ kept_marks b ps) (kept_marks b ps)))
    by true rest = rest (add_charge charge (entry_charge p.0 p.1))
    by false rest = rest charge

charge_alike : (b : Bool) (fs : List (List ℕ × FamilyView)) (ks : List (List ℕ × ModelFamily)) (charge : ℕ) → Zipped (λ f k. kept_marks b (newest_of (walk f)) ≡ kept_marks b (newest_marks k)) fs ks
    → fold (λ charge (named : List ℕ × FamilyView). fold (λ sum (pair : List ℕ × Mark). cond (is_kept b pair.1) (add_charge sum (entry_charge pair.0 pair.1)) sum) charge (newest_of (walk named.1))) charge fs
    ≡ fold (λ charge (family : ContentsFamily). marks_charge charge family.marks) charge (map (contents_of_family b) ks)
charge_alike b [] [] charge z = refl
charge_alike b [] (k ∷ ks) charge z = absurd z
charge_alike b (f ∷ fs) [] charge z = absurd z
charge_alike b (f ∷ fs) (k ∷ ks) charge z =
    charge_alike b fs ks (fold (λ sum (pair : List ℕ × Mark). cond (is_kept b pair.1) (add_charge sum (entry_charge pair.0 pair.1)) sum) charge (newest_of (walk f.1))) z.1
    ∙ ap (λ c. fold (λ charge (family : ContentsFamily). marks_charge charge family.marks) c (map (contents_of_family b) ks))
    (marks_charged b (newest_of (walk f.1)) charge ∙ ap (λ (marks : List (List ℕ × Mark)). marks_charge charge (map as_entry marks)) z.0.1)

next_alike : (b : Bool) (fs : List (List ℕ × FamilyView)) (ks : List (List ℕ × ModelFamily)) (n : ℕ) → Zipped (λ f k. f.id ≡ k.id) fs ks
    → fold (λ greatest (named : List ℕ × FamilyView). max greatest named.1.id) n fs ≡ fold (λ greatest (family : ContentsFamily). max greatest family.id) n (map (contents_of_family b) ks)
next_alike b [] [] n z = refl
next_alike b [] (k ∷ ks) n z = absurd z
next_alike b (f ∷ fs) [] n z = absurd z
next_alike b (f ∷ fs) (k ∷ ks) n z = next_alike b fs ks (max n f.1.id) z.1 ∙ ap (λ id. fold (λ greatest (family : ContentsFamily). max greatest family.id) (max n id) (map (contents_of_family b) ks)) z.0.1

next_grows : (b : Bool) (ks : List (List ℕ × ModelFamily)) (n : ℕ) → n ≤ fold (λ greatest (family : ContentsFamily). max greatest family.id) n (map (contents_of_family b) ks)
next_grows b [] n = omega arith
next_grows b (k ∷ ks) n = let h = next_grows b ks (max n k.1.id) in omega arith

below_next : (b : Bool) (ks : List (List ℕ × ModelFamily)) (n : ℕ) → Each (λ named. named.1.id < fold (λ greatest (family : ContentsFamily). max greatest family.id) n (map (contents_of_family b) ks) + 1) ks
below_next b [] n = tt
below_next b (k ∷ ks) n = ((let h = next_grows b ks (max n k.1.id) in omega arith), below_next b ks (max n k.1.id))

-- ---- sound

abbrev IsReborn : ModelFamily → ModelFamily → Type 0
IsReborn one other = (one.id ≡ other.id) × (Rise other.base × ((other.writes ≡ []) × (one.ranges ≡ [] → other.ranges ≡ [])))

opened_sound : (state : ModelState) (known : List (List (List ℕ))) → IsSound state → Zipped IsReborn state.families (opened (contents state) known).families → IsSound (opened (contents state) known)
opened_sound state known s z = sound_of (opened (contents state) known) (record {
  names = pairs_beside IsReborn (λ x y. IsTrue (below x.0 y.0)) (λ x y. IsTrue (below x.0 y.0)) (λ x x' y y' w w' r. subst₂ (λ a b. IsTrue (below a b)) w.0 w'.0 r) state.families os z f.names;
  bases = rights (λ k. KeysRise k.base) IsReborn (λ x y h. from_pairs (λ one other. IsTrue (below one.0 other.0)) y.base h.1.0) state.families os z;
  writes = rights (λ k. WritesWithin state.last k) IsReborn (λ x y h. subst (Each (λ write. write.number ≤ state.last)) (sym h.1.1.0) tt) state.families os z;
  ids = pairs_beside IsReborn (λ x y. x.1.id ≡ y.1.id → ⊥) (λ x y. x.1.id ≡ y.1.id → ⊥) (λ x x' y y' w w' r e. r (w.1.0 ∙ e ∙ sym w'.1.0)) state.families os z f.ids;
  given = each_beside IsReborn (λ x. x.1.id < next) (λ y. y.1.id < next) (λ x y w h. subst (λ n. n < next) w.1.0 h) state.families os z (below_next state.behind state.families 0);
}) (record { numbers = tt; rise = λ i j d lt in'. absurd (omega arith); taken = tt; above = tt })
    (λ flag. each_beside IsReborn (λ x. x.1.ranges ≡ []) (λ y. y.1.ranges ≡ []) (λ x y w h. w.1.1.1.1 h) state.families os z (s.unranged flag))
  where
    os : List (List ℕ × ModelFamily)
    os = (opened (contents state) known).families

    f : Families state.last state.next_family state.families
    f = families_of state s

    next : ℕ
    next = fold (λ greatest (family : ContentsFamily). max greatest family.id) 0 (map (contents_of_family state.behind) state.families) + 1

-- ---- file numbers

abbrev has_id : List ℕ → ℕ → Bool
has_id ids id = list_any (λ other. other == id) ids

abbrev count_below : List ℕ → ℕ → ℕ
count_below ids id = length (filter (λ other. nat_lt other id) ids)

count_mono : (ids : List ℕ) (a b : ℕ) → a ≤ b → count_below ids a ≤ count_below ids b
count_mono [] a b le = omega arith
count_mono (x ∷ xs) a b le = by (cases_lt x a) (cases_lt x b) (count_mono xs a b le)
  where
    by : (x < a) ⊎ (a ≤ x) → (x < b) ⊎ (b ≤ x) → count_below xs a ≤ count_below xs b → count_below (x ∷ xs) a ≤ count_below (x ∷ xs) b
    by (inl p) (inl q) h = subst₂ (λ s t. length (cond s (x ∷ filter (λ other. nat_lt other a) xs) (filter (λ other. nat_lt other a) xs)) ≤ length (cond t (x ∷ filter (λ other. nat_lt other b) xs) (filter (λ other. nat_lt other b) xs))) (sym (lt-ltb x a p)) (sym (lt-ltb x b q)) (omega arith)
    by (inl p) (inr q) h = absurd (omega arith)
    by (inr p) (inl q) h = subst₂ (λ s t. length (cond s (x ∷ filter (λ other. nat_lt other a) xs) (filter (λ other. nat_lt other a) xs)) ≤ length (cond t (x ∷ filter (λ other. nat_lt other b) xs) (filter (λ other. nat_lt other b) xs))) (sym (le-ltb x a p)) (sym (lt-ltb x b q)) (omega arith)
    by (inr p) (inr q) h = subst₂ (λ s t. length (cond s (x ∷ filter (λ other. nat_lt other a) xs) (filter (λ other. nat_lt other a) xs)) ≤ length (cond t (x ∷ filter (λ other. nat_lt other b) xs) (filter (λ other. nat_lt other b) xs))) (sym (le-ltb x a p)) (sym (le-ltb x b q)) h

count_less : (ids : List ℕ) (a b : ℕ) → a < b → has_id ids a ≡ true → count_below ids a < count_below ids b
count_less [] a b lt h = absurd (false≢true h)
count_less (x ∷ xs) a b lt h = by (x == a) refl (cases_lt x a) (cases_lt x b) (count_mono xs a b (omega arith)) (count_less xs a b lt)
  where
    pick : (s t : Bool) → nat_lt x a ≡ s → nat_lt x b ≡ t
        → length (cond s (x ∷ filter (λ other. nat_lt other a) xs) (filter (λ other. nat_lt other a) xs)) < length (cond t (x ∷ filter (λ other. nat_lt other b) xs) (filter (λ other. nat_lt other b) xs))
        → count_below (x ∷ xs) a < count_below (x ∷ xs) b
    pick s t e f k = subst₂ (λ s t. length (cond s (x ∷ filter (λ other. nat_lt other a) xs) (filter (λ other. nat_lt other a) xs)) < length (cond t (x ∷ filter (λ other. nat_lt other b) xs) (filter (λ other. nat_lt other b) xs))) (sym e) (sym f) k

    by : (t : Bool) → (x == a) ≡ t → (x < a) ⊎ (a ≤ x) → (x < b) ⊎ (b ≤ x) → count_below xs a ≤ count_below xs b → (has_id xs a ≡ true → count_below xs a < count_below xs b) → count_below (x ∷ xs) a < count_below (x ∷ xs) b
    by true e p (inl q) le more = let at : x ≡ a = eqb-true x a e in pick false true (le-ltb x a (omega arith)) (lt-ltb x b q) (omega arith)
    by true e p (inr q) le more = let at : x ≡ a = eqb-true x a e in absurd (omega arith)
    by false e (inl p) (inl q) le more = let later = more (subst (λ t. (t || has_id xs a) ≡ true) e h) in pick true true (lt-ltb x a p) (lt-ltb x b q) (omega arith)
    by false e (inl p) (inr q) le more = absurd (omega arith)
    by false e (inr p) (inl q) le more = let later = more (subst (λ t. (t || has_id xs a) ≡ true) e h) in pick false true (le-ltb x a p) (lt-ltb x b q) (omega arith)
    by false e (inr p) (inr q) le more = let later = more (subst (λ t. (t || has_id xs a) ≡ true) e h) in pick false false (le-ltb x a p) (le-ltb x b q) later

ranks_differ : (ids : List ℕ) (a b : ℕ) → (a ≡ b → ⊥) → has_id ids a ≡ true → has_id ids b ≡ true → count_below ids a ≡ count_below ids b → ⊥
ranks_differ ids a b differ ha hb e = by (cases_order a b)
  where
    by : (a ≡ b) ⊎ ((a < b) ⊎ (b < a)) → ⊥
    by (inl f) = differ f
    by (inr (inl lt)) = let k = count_less ids a b lt ha in omega arith
    by (inr (inr lt)) = let k = count_less ids b a lt hb in omega arith

-- each family with memory is ranked
ranked : (fs : List (List ℕ × FamilyView)) → Each (λ named. has_memory named ≡ true → has_id (map (λ (one : List ℕ × FamilyView). one.1.id) (filter has_memory fs)) named.1.id ≡ true) fs
ranked [] = tt
ranked (f ∷ fs) = by (has_memory f) refl (ranked fs)
  where
    ids : List ℕ
    ids = map (λ (one : List ℕ × FamilyView). one.1.id) (filter has_memory fs)

    by : (b : Bool) → has_memory f ≡ b → Each (λ named. has_memory named ≡ true → has_id ids named.1.id ≡ true) fs
        → Each (λ named. has_memory named ≡ true → has_id (map (λ (one : List ℕ × FamilyView). one.1.id) (cond b (f ∷ filter has_memory fs) (filter has_memory fs))) named.1.id ≡ true) (f ∷ fs)
    by true e rest = (
      (λ h. or_left (f.1.id == f.1.id) (has_id ids f.1.id) (eq-eqb f.1.id f.1.id refl)),
      each_as (λ (named : List ℕ × FamilyView). has_memory named ≡ true → has_id ids named.1.id ≡ true) (λ named. has_memory named ≡ true → has_id (f.1.id ∷ ids) named.1.id ≡ true) (λ named k h. or_right (f.1.id == named.1.id) (has_id ids named.1.id) (k h)) fs rest,
    )
    by false e rest = ((λ h. absurd (false≢true (sym e ∙ h))), rest)

abbrev IsRanked : Core → List ℕ × FamilyView → Type 0
IsRanked core named = has_memory named ≡ true → has_id (memory_ids core) named.1.id ≡ true

-- families with memtables, whose ids differ, have differing ranks
pub ranks_apart : (core : Core) → Pairwise (λ one other. one.1.id ≡ other.1.id → ⊥) core.families
    → Pairwise (λ one other. has_memory one ≡ true → has_memory other ≡ true → rank core one.1.id ≡ rank core other.1.id → ⊥) core.families
ranks_apart core ids = go core.families (ranked core.families) ids
  where
    go : (fs : List (List ℕ × FamilyView)) → Each (IsRanked core) fs → Pairwise (λ one other. one.1.id ≡ other.1.id → ⊥) fs
        → Pairwise (λ one other. has_memory one ≡ true → has_memory other ≡ true → rank core one.1.id ≡ rank core other.1.id → ⊥) fs
    go [] each ids = tt
    go (f ∷ fs) each ids = (
      each_as (λ (other : List ℕ × FamilyView). (f.1.id ≡ other.1.id → ⊥) × IsRanked core other) (λ (other : List ℕ × FamilyView). has_memory f ≡ true → has_memory other ≡ true → rank core f.1.id ≡ rank core other.1.id → ⊥)
          (λ other both m m' e. ranks_differ (memory_ids core) f.1.id other.1.id both.0 (each.0 m) (both.1 m') e) fs (each_both (λ (other : List ℕ × FamilyView). f.1.id ≡ other.1.id → ⊥) (IsRanked core) fs ids.0 each.1),
      go fs each.1 ids.1,
    )

count_most : (ids : List ℕ) (a : ℕ) → count_below ids a ≤ length ids
count_most [] a = omega arith
count_most (x ∷ xs) a = by (nat_lt x a) (count_most xs a)
  where
    by : (s : Bool) → count_below xs a ≤ length xs → length (cond s (x ∷ filter (λ other. nat_lt other a) xs) (filter (λ other. nat_lt other a) xs)) ≤ suc (length xs)
    by true le = omega arith
    by false le = omega arith

count_within : (ids : List ℕ) (a : ℕ) → has_id ids a ≡ true → count_below ids a < length ids
count_within [] a h = absurd (false≢true h)
count_within (x ∷ xs) a h = by (x == a) refl (cases_lt x a) (count_most xs a) (count_within xs a)
  where
    pick : (s : Bool) → nat_lt x a ≡ s → length (cond s (x ∷ filter (λ other. nat_lt other a) xs) (filter (λ other. nat_lt other a) xs)) < suc (length xs) → count_below (x ∷ xs) a < suc (length xs)
    pick s e k = subst (λ s. length (cond s (x ∷ filter (λ other. nat_lt other a) xs) (filter (λ other. nat_lt other a) xs)) < suc (length xs)) (sym e) k

    by : (t : Bool) → (x == a) ≡ t → (x < a) ⊎ (a ≤ x) → count_below xs a ≤ length xs → (has_id xs a ≡ true → count_below xs a < length xs) → count_below (x ∷ xs) a < suc (length xs)
    by true e p most more = let at : x ≡ a = eqb-true x a e in pick false (le-ltb x a (omega arith)) (omega arith)
    by false e (inl p) most more = let later = more (subst (λ t. (t || has_id xs a) ≡ true) e h) in pick true (lt-ltb x a p) (omega arith)
    by false e (inr p) most more = pick false (le-ltb x a p) (omega arith)

-- a rank is below the count of families with memtables
pub rank_below : (core : Core) → Each (λ named. has_memory named ≡ true → rank core named.1.id < length (filter has_memory core.families)) core.families
rank_below core =
    each_as (IsRanked core) (λ named. has_memory named ≡ true → rank core named.1.id < length (filter has_memory core.families))
    (λ named there m. subst (λ n. rank core named.1.id < n) (length-map (filter has_memory core.families) (λ (one : List ℕ × FamilyView). one.1.id)) (count_within (memory_ids core) named.1.id (there m)))
    core.families (ranked core.families)

abbrev Differ : FileEntries → FileEntries → Type 0
Differ one other = one.file ≡ other.file → ⊥

abbrev tables_in_here : List (List ℕ × FamilyView) → List FileEntries
tables_in_here fs = flat_map (λ (named : List ℕ × FamilyView). tables_in named.1.levels) fs

-- the tables of a reopened family: the same, or one more in front
added : (core : Core) (first : ℕ) (f g : List ℕ × FamilyView) → IsView f.1 → Reopens core first f g
    → (tables_in g.1.levels ≡ tables_in f.1.levels) ⊎ ((t : FileEntries) × (tables_in g.1.levels ≡ t ∷ tables_in f.1.levels) × (t.file ≡ first + rank core f.1.id) × (has_memory f ≡ true))
added core first f g v r = by (has_memory f) refl r.1
  where
    by : (b : Bool) → has_memory f ≡ b → MatchBool b (IsFlushedByCrash (first + rank core f.1.id) f.1 g.1) (g.1 ≡ f.1)
        → (tables_in g.1.levels ≡ tables_in f.1.levels) ⊎ ((t : FileEntries) × (tables_in g.1.levels ≡ t ∷ tables_in f.1.levels) × (t.file ≡ first + rank core f.1.id) × (has_memory f ≡ true))
    by true e h = inr (record { file = first + rank core f.1.id; length = h.length; entries = h.entries }, ap (λ (view : FamilyView). tables_in view.levels) h.view ∙ front f.1.levels v.levels, refl, e)
      where
        front : (levels : List (List FileEntries)) → length levels ≡ 7 → tables_in (set levels 0 (record { file = first + rank core f.1.id; length = h.length; entries = h.entries } ∷ unwrap_or (slice_get levels 0) [])) ≡ record { file = first + rank core f.1.id; length = h.length; entries = h.entries } ∷ tables_in levels
        front [] n = absurd (omega arith)
        front (level ∷ levels) n = refl
    by false e h = inl (ap (λ (view : FamilyView). tables_in view.levels) h)

each_added : (core : Core) (first : ℕ) (P : FileEntries → Type 0) (fs gs : List (List ℕ × FamilyView)) → Each (λ named. IsView named.1) fs → AllZip (Reopens core first) fs gs → Each P (tables_in_here fs)
    → Each (λ named. has_memory named ≡ true → (t : FileEntries) → t.file ≡ first + rank core named.1.id → P t) fs → Each P (tables_in_here gs)
each_added core first P [] [] v z h k = tt
each_added core first P [] (g ∷ gs) v z h k = absurd z
each_added core first P (f ∷ fs) [] v z h k = absurd z
each_added core first P (f ∷ fs) (g ∷ gs) v z h k =
    each_join P (tables_in g.1.levels) (tables_in_here gs) (by (added core first f g v.0 z.0)) (each_added core first P fs gs v.1 z.1 (each_back P (tables_in f.1.levels) (tables_in_here fs) h) k.1)
  where
    by : (tables_in g.1.levels ≡ tables_in f.1.levels) ⊎ ((t : FileEntries) × (tables_in g.1.levels ≡ t ∷ tables_in f.1.levels) × (t.file ≡ first + rank core f.1.id) × (has_memory f ≡ true)) → Each P (tables_in g.1.levels)
    by (inl e) = subst (Each P) (sym e) (each_front P (tables_in f.1.levels) (tables_in_here fs) h)
    by (inr w) = subst (Each P) (sym w.1) (k.0 w.3 w.0 w.2, each_front P (tables_in f.1.levels) (tables_in_here fs) h)

pairs_added : (core : Core) (first : ℕ) (fs gs : List (List ℕ × FamilyView)) → Each (λ named. IsView named.1) fs → AllZip (Reopens core first) fs gs → Each (λ table. table.file < first) (tables_in_here fs) → Pairwise Differ (tables_in_here fs)
    → Pairwise (λ one other. has_memory one ≡ true → has_memory other ≡ true → rank core one.1.id ≡ rank core other.1.id → ⊥) fs → Pairwise Differ (tables_in_here gs)
pairs_added core first [] [] v z old h r = tt
pairs_added core first [] (g ∷ gs) v z old h r = absurd z
pairs_added core first (f ∷ fs) [] v z old h r = absurd z
pairs_added core first (f ∷ fs) (g ∷ gs) v z old h r =
    pairs_join Differ (tables_in g.1.levels) (tables_in_here gs) (own (added core first f g v.0 z.0)) (pairs_added core first fs gs v.1 z.1 old_rest (pairs_back Differ (tables_in f.1.levels) (tables_in_here fs) h) r.1) (across (added core first f g v.0 z.0))
  where
    old_own : Each (λ table. table.file < first) (tables_in f.1.levels)
    old_own = each_front (λ table. table.file < first) (tables_in f.1.levels) (tables_in_here fs) old

    old_rest : Each (λ table. table.file < first) (tables_in_here fs)
    old_rest = each_back (λ table. table.file < first) (tables_in f.1.levels) (tables_in_here fs) old

    own : (tables_in g.1.levels ≡ tables_in f.1.levels) ⊎ ((t : FileEntries) × (tables_in g.1.levels ≡ t ∷ tables_in f.1.levels) × (t.file ≡ first + rank core f.1.id) × (has_memory f ≡ true)) → Pairwise Differ (tables_in g.1.levels)
    own (inl e) = subst (Pairwise Differ) (sym e) (pairs_front Differ (tables_in f.1.levels) (tables_in_here fs) h)
    own (inr w) = subst (Pairwise Differ) (sym w.1) (each_as (λ (table : FileEntries). table.file < first) (Differ w.0) (λ table lt e. let at : w.0.file ≡ first + rank core f.1.id = w.2 in absurd (omega arith)) (tables_in f.1.levels) old_own, pairs_front Differ (tables_in f.1.levels) (tables_in_here fs) h)

    -- an old table beside those of the families behind
    from_old : (x : FileEntries) → x.file < first → Each (Differ x) (tables_in_here fs) → Each (Differ x) (tables_in_here gs)
    from_old x lt d = each_added core first (Differ x) fs gs v.1 z.1 d (each_all (λ (named : List ℕ × FamilyView). has_memory named ≡ true → (t : FileEntries) → t.file ≡ first + rank core named.1.id → Differ x t) (λ named m t at e. absurd (omega arith)) fs)

    -- a new one
    from_new : (x : FileEntries) → x.file ≡ first + rank core f.1.id → has_memory f ≡ true → Each (Differ x) (tables_in_here gs)
    from_new x at m = each_added core first (Differ x) fs gs v.1 z.1
        (each_as (λ (table : FileEntries). table.file < first) (Differ x) (λ table lt e. absurd (omega arith)) (tables_in_here fs) old_rest)
        (each_as (λ (named : List ℕ × FamilyView). has_memory f ≡ true → has_memory named ≡ true → rank core f.1.id ≡ rank core named.1.id → ⊥) (λ named. has_memory named ≡ true → (t : FileEntries) → t.file ≡ first + rank core named.1.id → Differ x t)
        (λ named k m' t at' e. k m m' (let same : rank core f.1.id ≡ rank core named.1.id = omega arith in same)) fs r.0)

    old_across : Each (λ x. Each (Differ x) (tables_in_here gs)) (tables_in f.1.levels)
    old_across = each_as (λ (x : FileEntries). (x.file < first) × Each (Differ x) (tables_in_here fs)) (λ x. Each (Differ x) (tables_in_here gs)) (λ x k. from_old x k.0 k.1) (tables_in f.1.levels)
        (each_both (λ (x : FileEntries). x.file < first) (λ x. Each (Differ x) (tables_in_here fs)) (tables_in f.1.levels) old_own (pairs_across Differ (tables_in f.1.levels) (tables_in_here fs) h))

    across : (tables_in g.1.levels ≡ tables_in f.1.levels) ⊎ ((t : FileEntries) × (tables_in g.1.levels ≡ t ∷ tables_in f.1.levels) × (t.file ≡ first + rank core f.1.id) × (has_memory f ≡ true)) → Each (λ x. Each (Differ x) (tables_in_here gs)) (tables_in g.1.levels)
    across (inl e) = subst (Each (λ x. Each (Differ x) (tables_in_here gs))) (sym e) old_across
    across (inr w) = subst (Each (λ x. Each (Differ x) (tables_in_here gs))) (sym w.1) (from_new w.0 w.2 w.3, old_across)

-- ---- the whole

pub crashed_stands : (core : Core) (state : ModelState) (first : ℕ) (after : Core) → Represents core state → AreFilesBelow core first → IsCrashed first core after → Represents after (opened (contents state) (known_keys core))
crashed_stands core state first after s old c = subst (λ a. Represents a then) (sym c.core_after) (stands_of done then
    (record {
      place = refl;
      last = s.same.last;
      charge = ap (λ b. fold (λ charge (named : List ℕ × FamilyView). fold (λ sum (pair : List ℕ × Mark). cond (is_kept b pair.1) (add_charge sum (entry_charge pair.0 pair.1)) sum) charge (newest_of (walk named.1))) 0 core.families) behind_is
          ∙ charge_alike b core.families state.families 0 (zip_to Q (λ f k. kept_marks b (newest_of (walk f)) ≡ kept_marks b (newest_marks k)) (λ f k h. charged_alike b core.last (live_numbers core) f k h.1 h.0) core.families state.families sides);
      behind = s.same.behind;
      families = zip_ids gs os (zip_to (Pair b core.last []) (λ f k. f.id ≡ k.id) (λ f k p. p.id) gs os pairs);
      next_family = ap (λ n. n + 1) (next_alike b core.families state.families 0 (ids_zip core.families state.families s.same.families));
      live = refl;
    })
    (subst (λ t. Zipped (Pair t core.last []) gs os) (sym behind_is) pairs)
    (record {
      jobs = lefts (λ g. JobsRun (lowest_level done) [] g) (Pair b core.last []) (λ f k p. record { each = tt; ranges = tt; apart = tt }) gs os pairs;
      kept = lefts (λ g. Each (KeepsReads done g) []) (Pair b core.last []) (λ f k p. tt) gs os pairs;
      files = pairs_added core first core.families gs s.views c.reopened old s.files
          (pairs_as (λ (one other : List ℕ × FamilyView). (one.1.id ≡ other.1.id → ⊥) × (Ranked one × Ranked other)) (λ one other. has_memory one ≡ true → has_memory other ≡ true → rank core one.1.id ≡ rank core other.1.id → ⊥)
          (λ one other h m m' e. ranks_differ (memory_ids core) one.1.id other.1.id h.0 (h.1.0 m) (h.1.1 m') e) core.families
          (pairs_with core.families (ranked core.families)
          (pairs_beside (λ (k : ModelFamily) (f : FamilyView). f.id ≡ k.id) (λ one other. one.1.id ≡ other.1.id → ⊥) (λ one other. one.1.id ≡ other.1.id → ⊥) (λ x x' y y' w w' r e. r (sym w.1 ∙ e ∙ w'.1)) state.families core.families
          (zip_turned (λ (f : FamilyView) (k : ModelFamily). f.id ≡ k.id) core.families state.families (ids_zip core.families state.families s.same.families)) (families_of state s.sound).ids)));
      noted = record { numbers = tt; made = λ few. tt; families = tt; outputs = tt; live = tt };
    })
    tt
    (opened_sound state (known_keys core) s.sound (zip_opened b Q IsReborn (λ f name k h. (refl, (subst Rise (sym (reborn_base b f name k)) (reborn_rise b k h.0), (refl, λ e. ap sorted_ranges e)))) core.families state.families sides)))
  where
    b : Bool
    b = state.behind

    then : ModelState
    then = opened (contents state) (known_keys core)

    behind_is : core.behind ≡ state.behind
    behind_is = s.same.behind

    gs : List (List ℕ × FamilyView)
    gs = c.families

    os : List (List ℕ × ModelFamily)
    os = then.families

    done : Core
    done = record {
      behind = core.behind;
      capacity = core.capacity;
      place = 0;
      last = core.last;
      charge = opened_charge core;
      families = c.families;
      next_family = fold (λ greatest (named : List ℕ × FamilyView). max greatest named.1.id) 0 core.families + 1;
      live = [];
      jobs = [];
      jobs_made = 0;
      turn = None;
    }

    Q : FamilyView → ModelFamily → Type 0
    Q f k = KeysRise k.base × Pair state.behind core.last (live_numbers core) f k

    sides : Zipped Q core.families state.families
    sides = zip_right (λ (k : ModelFamily). KeysRise k.base) (Pair state.behind core.last (live_numbers core)) core.families state.families s.sound.bases
        (subst (λ t. Zipped (Pair t core.last (live_numbers core)) core.families state.families) s.same.behind (pairs_stand core state s))

    pairs : Zipped (Pair state.behind core.last []) c.families (opened_families (known_of core.families) (map (contents_of_family state.behind) state.families))
    pairs = zip_crashed state.behind Q (Pair state.behind core.last []) (λ f g name k r h. pair_reborn state.behind core.last (live_numbers core) f g name k h.1 h.0 r) core.families c.families state.families
        (zip_reopened core first core.families c.families s.views c.reopened) sides

    Ranked : List ℕ × FamilyView → Type 0
    Ranked named = has_memory named ≡ true → has_id (memory_ids core) named.1.id ≡ true

    pairs_with : (fs : List (List ℕ × FamilyView)) → Each Ranked fs → Pairwise (λ one other. one.1.id ≡ other.1.id → ⊥) fs → Pairwise (λ one other. (one.1.id ≡ other.1.id → ⊥) × (Ranked one × Ranked other)) fs
    pairs_with [] h r = tt
    pairs_with (f ∷ fs) h r = (
      each_as (λ (other : List ℕ × FamilyView). (f.1.id ≡ other.1.id → ⊥) × Ranked other) (λ other. (f.1.id ≡ other.1.id → ⊥) × (Ranked f × Ranked other)) (λ other k. (k.0, (h.0, k.1))) fs
          (each_both (λ (other : List ℕ × FamilyView). f.1.id ≡ other.1.id → ⊥) Ranked fs r.0 h.1),
      pairs_with fs h.1 r.1,
    )

pub crashed_refines : (core : Core) (state : ModelState) (first : ℕ) (answer : CoreReply) (after : Core) → Represents core state → IsCoreStep core (Crashed first) answer after → Refines core state (Crashed first) answer after
crashed_refines core state first answer after s (inr h) = not_now core state (Crashed first) answer after s h
crashed_refines core state first answer after s (inl h) = record {
  answer_of = λ now. tt;
  stands = subst (λ a. Represents after (next_state core state (Crashed first) a)) (sym h.1.0) (crashed_stands core state first after s h.0.0 h.1.1);
}
