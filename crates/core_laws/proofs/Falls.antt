-- Numbers fall along each column after an install.
use Rattle.std.proofs.Common.{◌≡◌, ℕ, zero, suc, ◌<◌, ◌≤◌, ◌⊎◌, Bool, true, false, cond, ◌&&◌, not, List, [], ◌∷◌, ◌++◌, length, take, drop, refl, sym, ap, subst, ◌∙◌, inl, inr, arith, append_assoc, append-nil, add-one}
use Rattle.std.specs.Prelude.{map, filter, flat_map, slice_get, unwrap_or, set, nat_le, nat_lt, IsTrue, ◌||◌}
use Rattle.std.specs.List.{AllByRecursion as Each}
use Rattle.std.proofs.lemmas.Bool.{cases_Bool, cases_lt, and_parts, leb-true, ltb-true, false≢true}
use Rattle.st_base.specs.declared.entry.Entry.{Entry}
use Rattle.base_laws.proofs.Lists.{each_as, each_back, each_front, each_join, filter_whole}
use Rattle.core_laws.specs.Claims.{KeptFalls, Compacts, AreOutputsOf}
use Rattle.core_model.specs.Compaction.{without_last, with_flushed, with_compacted, staying, put_all}
use Rattle.core_model.specs.Picture.{FileEntries, FamilyView, Job, level_at, runs_of, tables_in, memories, above, is_input}
use Rattle.core_model.specs.RelationParts.{IsView, IsFlush, IsInputLevel, NumbersFall}
use Rattle.job_model.specs.Column.{Falls, is_read_between, kept, kept_behind, is_gone, without_tombstone, compacted}
use Rattle.core_laws.proofs.Columns.{compacted_each, compacted_pairs, untombed_each}
use Rattle.core_laws.proofs.LevelLists.{filter_levels}
use Rattle.core_laws.proofs.Middle.{in_tables, in_append, column_append, tables_above, level_lt, none_below, none_beside, inputs_split, level_splits, others_first, placed_column, outputs_column, regroup, regroup_flush, regroup_outputs}
use Rattle.core_laws.proofs.Lists.{pairs_across, pairs_as, pairs_back, pairs_front, pairs_join}
use Rattle.core_laws.proofs.ByPlace.{each_both}
use Rattle.st_order.specs.Columns.{Pairwise, of_key, column, FallStrictly}
use Rattle.job_model.specs.Compaction.{IsCompaction}
use Rattle.job_model.specs.Drops.{covers}

-- ---- one column

-- numbers don't rise
abbrev pub Weakly : Entry → Entry → Type 0
Weakly one other = other.number ≤ one.number

between_less : (live : List ℕ) (number before : ℕ) → is_read_between live number before ≡ true → number < before
between_less [] number before e = absurd (false≢true e)
between_less (s ∷ live) number before e = elim (cases_Bool (nat_le number s && nat_lt s before)) [
  | inl here ↦
      let p = and_parts (nat_le number s) (nat_lt s before) here in
      omega (arith, leb-true number s p.0, ltb-true s before p.1)
  | inr not_here ↦ between_less live number before (subst (λ b. (b || is_read_between live number before) ≡ true) not_here e)
]

-- those kept behind a number are below it, and fall strictly
kept_behind_falls : (live : List ℕ) (before : ℕ) (entries : List Entry) → Each (λ entry. entry.number ≤ before) entries → Pairwise Weakly entries
    → Each (λ entry. entry.number < before) (kept_behind live before entries) × FallStrictly (kept_behind live before entries)
kept_behind_falls live before [] most pairs = (tt, tt)
kept_behind_falls live before (entry ∷ entries) most pairs = split (is_read_between live entry.number before) refl (kept_behind_falls live entry.number entries pairs.0 pairs.1)
  where
    lower : Each (λ one. one.number < entry.number) (kept_behind live entry.number entries) → Each (λ one. one.number < before) (kept_behind live entry.number entries)
    lower each = each_as (λ one. one.number < entry.number) (λ one. one.number < before) (λ one lt. omega (arith, most.0)) (kept_behind live entry.number entries) each

    split : (b : Bool) → is_read_between live entry.number before ≡ b
        → Each (λ one. one.number < entry.number) (kept_behind live entry.number entries) × FallStrictly (kept_behind live entry.number entries)
        → Each (λ one. one.number < before) (cond b (entry ∷ kept_behind live entry.number entries) (kept_behind live entry.number entries)) × FallStrictly (cond b (entry ∷ kept_behind live entry.number entries) (kept_behind live entry.number entries))
    split true is rest = ((between_less live entry.number before is, lower rest.0), (rest.0, rest.1))
    split false is rest = (lower rest.0, rest.1)

-- what is kept of a column that doesn't rise falls strictly: an entry is kept only where a live number parts it from the one before
pub kept_falls : KeptFalls
kept_falls live [] pairs = tt
kept_falls live (entry ∷ entries) pairs = kept_behind_falls live entry.number entries pairs.0 pairs.1

untombed_falls : (entries : List Entry) → FallStrictly entries → FallStrictly (without_tombstone entries)
untombed_falls [] pairs = tt
untombed_falls (entry ∷ []) pairs = last (is_gone entry.mark)
  where
    last : (b : Bool) → FallStrictly (cond b [] (entry ∷ []))
    last true = tt
    last false = pairs
untombed_falls (entry ∷ other ∷ entries) pairs = (untombed_each (λ one. one.number < entry.number) (other ∷ entries) pairs.0, untombed_falls (other ∷ entries) pairs.1)

pub compacted_falls : (live : List ℕ) (may : Bool) (entries : List Entry) → Pairwise Weakly entries → FallStrictly (compacted live may entries)
compacted_falls live true entries pairs = untombed_falls (kept live entries) (kept_falls live entries pairs)
compacted_falls live false entries pairs = kept_falls live entries pairs

-- ---- the middle, above level 6

pairs_middle : (live : List ℕ) (may : Bool) (U I L : List Entry) → FallStrictly (U ++ (I ++ L)) → FallStrictly (U ++ (compacted live may I ++ L))
pairs_middle live may U I L pairs =
    let R : Entry → Entry → Type 0 = λ (one : Entry) (other : Entry). other.number < one.number in
    let back : FallStrictly (I ++ L) = pairs_back R U (I ++ L) pairs in
    pairs_join R U (compacted live may I ++ L) (pairs_front R U (I ++ L) pairs)
    (pairs_join R (compacted live may I) L (compacted_pairs R live may I (pairs_front R I L back)) (pairs_back R I L back)
    (compacted_each (λ one. Each (R one) L) live may I (pairs_across R I L back)))
    (each_as (λ one. Each (R one) (I ++ L)) (λ one. Each (R one) (compacted live may I ++ L))
    (λ one each. each_join (R one) (compacted live may I) L (compacted_each (R one) live may I (each_front (R one) I L each)) (each_back (R one) I L each)) U (pairs_across R U (I ++ L) pairs))

-- the number is lower, or 0
abbrev pub LowerOrZero : Entry → Entry → Type 0
LowerOrZero one other = (other.number < one.number) ⊎ (other.number ≡ 0)

falls_above : (live : List ℕ) (may : Bool) (U I L bottom : List Entry) → Falls (U ++ (I ++ L)) bottom → Falls (U ++ (compacted live may I ++ L)) bottom
falls_above live may U I L bottom falls = record {
  above = pairs_middle live may U I L falls.above;
  below = falls.below;
  across =
      let P : Entry → Type 0 = λ (one : Entry). Each (LowerOrZero one) bottom in
      let rest = each_back P U (I ++ L) falls.across in
      each_join P U (compacted live may I ++ L) (each_front P U (I ++ L) falls.across)
      (each_join P (compacted live may I) L (compacted_each P live may I (each_front P I L rest)) (each_back P I L rest));
}

-- ---- the middle, into level 6

falls_bottom : (live : List ℕ) (may : Bool) (U iA iB sB : List Entry) → (iA ++ iB ≡ []) ⊎ (sB ≡ []) → Falls (U ++ iA) (iB ++ sB) → Falls U (compacted live may (iA ++ iB) ++ sB)
falls_bottom live may U iA iB sB side falls = record {
  above = pairs_front R U iA falls.above;
  below = below side;
  across =
      each_as (λ one. (Each (R one) iA) × (Each (LowerOrZero one) (iB ++ sB))) (λ one. Each (LowerOrZero one) (compacted live may (iA ++ iB) ++ sB))
      (λ one both. each_join (LowerOrZero one) (compacted live may (iA ++ iB)) sB
      (compacted_each (LowerOrZero one) live may (iA ++ iB) (each_join (LowerOrZero one) iA iB (each_as (R one) (LowerOrZero one) (λ other lt. inl lt) iA both.0) (each_front (LowerOrZero one) iB sB both.1)))
      (each_back (LowerOrZero one) iB sB both.1))
      U (each_both (λ one. Each (R one) iA) (λ one. Each (LowerOrZero one) (iB ++ sB)) U (pairs_across R U iA falls.above) (each_front (λ one. Each (LowerOrZero one) (iB ++ sB)) U iA falls.across));
}
  where
    R : Entry → Entry → Type 0
    R one other = other.number < one.number

    weakly : (one other : Entry) → LowerOrZero one other → other.number ≤ one.number
    weakly one other (inl lt) = omega arith
    weakly one other (inr none) = omega arith

    weak : Pairwise Weakly (iA ++ iB)
    weak =
        pairs_join Weakly iA iB
        (pairs_as (λ one other. other.number < one.number) Weakly (λ one other lt. omega arith) iA (pairs_back (λ one other. other.number < one.number) U iA falls.above))
        (pairs_as (λ one other. other.number < one.number) Weakly (λ one other lt. omega arith) iB (pairs_front (λ one other. other.number < one.number) iB sB falls.below))
        (each_as (λ one. Each (LowerOrZero one) (iB ++ sB)) (λ one. Each (Weakly one) iB)
        (λ one each. each_as (LowerOrZero one) (Weakly one) (weakly one) iB (each_front (LowerOrZero one) iB sB each)) iA (each_back (λ one. Each (LowerOrZero one) (iB ++ sB)) U iA falls.across))

    none_left : (b : Bool) → compacted live b [] ≡ []
    none_left true = refl
    none_left false = refl

    below : (iA ++ iB ≡ []) ⊎ (sB ≡ []) → FallStrictly (compacted live may (iA ++ iB) ++ sB)
    below (inl none) =
        subst (λ entries. FallStrictly (compacted live may entries ++ sB)) (sym none)
        (subst (λ entries. FallStrictly (entries ++ sB)) (sym (none_left may)) (pairs_back (λ one other. other.number < one.number) iB sB falls.below))
    below (inr none) =
        subst (λ entries. FallStrictly (compacted live may (iA ++ iB) ++ entries)) (sym none)
        (subst FallStrictly (sym (append-nil (compacted live may (iA ++ iB)))) (compacted_falls live may (iA ++ iB) weak))

-- ---- levels

module _ {X : Type 0} where
  take_split : (levels : List (List X)) (n m : ℕ) → n < m → m ≤ length levels
      → flat_map (λ one. one) (take m levels) ≡ flat_map (λ one. one) (take n levels) ++ (unwrap_or (slice_get levels n) [] ++ flat_map (λ one. one) (drop (suc n) (take m levels)))
  take_split [] n m lt le = absurd (omega arith)
  take_split (level ∷ levels) n zero lt le = absurd (omega arith)
  take_split (level ∷ levels) zero (suc m) lt le = refl
  take_split (level ∷ levels) (suc n) (suc m) lt le =
      ap (λ rest. level ++ rest) (take_split levels n m (omega arith) (omega arith))
      ∙ sym (append_assoc level (flat_map (λ one. one) (take n levels)) (unwrap_or (slice_get levels n) [] ++ flat_map (λ one. one) (drop (suc n) (take m levels))))

  take_map : {Y : Type 0} (f : X → Y) (xs : List X) (n : ℕ) → take n (map f xs) ≡ map f (take n xs)
  take_map f [] zero = refl
  take_map f [] (suc n) = refl
  take_map f (x ∷ xs) zero = refl
  take_map f (x ∷ xs) (suc n) = ap (λ rest. f x ∷ rest) (take_map f xs n)

module _ {X : Type 0} (change : List X → List X) where
  take_set : (levels : List (List X)) (n m : ℕ) (level : List X) → n < m → m ≤ length levels
      → flat_map (λ one. one) (take m (set (map change levels) n level)) ≡ flat_map (λ one. one) (map change (take n levels)) ++ (level ++ flat_map (λ one. one) (map change (drop (suc n) (take m levels))))
  take_set [] n m level lt le = absurd (omega arith)
  take_set (first ∷ levels) n zero level lt le = absurd (omega arith)
  take_set (first ∷ levels) zero (suc m) level lt le = ap (λ rest. level ++ flat_map (λ one. one) rest) (take_map change levels m)
  take_set (first ∷ levels) (suc n) (suc m) level lt le =
      ap (λ rest. change first ++ rest) (take_set levels n m level (omega arith) (omega arith))
      ∙ sym (append_assoc (change first) (flat_map (λ one. one) (map change (take n levels))) (level ++ flat_map (λ one. one) (map change (drop (suc n) (take m levels)))))

  pub take_set_at : (levels : List (List X)) (n : ℕ) (level : List X) → n < length levels → take n (set (map change levels) n level) ≡ map change (take n levels)
  take_set_at [] n level lt = absurd (omega arith)
  take_set_at (first ∷ levels) zero level lt = refl
  take_set_at (first ∷ levels) (suc n) level lt = ap (λ rest. change first ∷ rest) (take_set_at levels n level (omega arith))

  pub level_set_at : (levels : List (List X)) (n : ℕ) (level : List X) → n < length levels → unwrap_or (slice_get (set (map change levels) n level) n) [] ≡ level
  level_set_at [] n level lt = absurd (omega arith)
  level_set_at (first ∷ levels) zero level lt = refl
  level_set_at (first ∷ levels) (suc n) level lt = level_set_at levels n level (omega arith)

  level_map : change [] ≡ [] → (levels : List (List X)) (m : ℕ) → unwrap_or (slice_get (map change levels) m) [] ≡ change (unwrap_or (slice_get levels m) [])
  level_map none [] m = sym none
  level_map none (first ∷ levels) zero = refl
  level_map none (first ∷ levels) (suc m) = level_map none levels m

  pub level_set_below : change [] ≡ [] → (levels : List (List X)) (n m : ℕ) (level : List X) → n < m → unwrap_or (slice_get (set (map change levels) n level) m) [] ≡ change (unwrap_or (slice_get levels m) [])
  level_set_below none [] n m level lt = sym none
  level_set_below none (first ∷ levels) n zero level lt = absurd (omega arith)
  level_set_below none (first ∷ levels) zero (suc m) level lt = level_map none levels m
  level_set_below none (first ∷ levels) (suc n) (suc m) level lt = level_set_below none levels n m level (omega arith)

drop_take_each : {X : Type 0} (Q : X → Type 0) (levels : List (List X)) (k m : ℕ) → Each Q (flat_map (λ one. one) (drop k levels)) → Each Q (flat_map (λ one. one) (drop k (take m levels)))
drop_take_each Q [] zero zero each = tt
drop_take_each Q [] zero (suc m) each = tt
drop_take_each Q [] (suc k) zero each = tt
drop_take_each Q [] (suc k) (suc m) each = tt
drop_take_each Q (level ∷ levels) zero zero each = tt
drop_take_each Q (level ∷ levels) (suc k) zero each = tt
drop_take_each Q (level ∷ levels) zero (suc m) each = each_join Q level (flat_map (λ one. one) (take m levels)) (each_front Q level (flat_map (λ one. one) levels) each) (drop_take_each Q levels zero m (each_back Q level (flat_map (λ one. one) levels) each))
drop_take_each Q (level ∷ levels) (suc k) (suc m) each = drop_take_each Q levels k m each

-- ---- a compaction

-- the numbers of a key fall, with this level as the last
abbrev pub FallAt : FamilyView → ℕ → List ℕ → Type 0
FallAt family n key = Falls (column key (above family n)) (column key (runs_of (level_at family n)))

-- below the output level tables stay
pub stays_below : (low : ℕ) (family : FamilyView) (job : Job) (outputs : List FileEntries) (m : ℕ) → Compacts low family job → job.level < m → level_at (with_compacted job outputs family) m ≡ level_at family m
stays_below low family job outputs m compacts lt =
    level_set_below (staying job.files) refl family.levels job.level m (put_all outputs (staying job.files (level_at family job.level))) lt
    ∙ filter_whole (λ table. not (is_input job table)) (level_at family m)
    (each_as (λ table. IsTrue (is_input job table) → IsInputLevel low job.level m) (λ table. not (is_input job table) ≡ true) (λ table near. not_there table near) (level_at family m) (compacts.running.levels m))
  where
    not_there : (table : FileEntries) → (IsTrue (is_input job table) → IsInputLevel low job.level m) → not (is_input job table) ≡ true
    not_there table near = elim (cases_Bool (is_input job table)) [
      | inl is_so ↦ absurd (omega (arith, (near is_so).above))
      | inr not_so ↦ ap not not_so
    ]

above_level : (low : ℕ) (family : FamilyView) (job : Job) (outputs : List FileEntries) (key : List ℕ) (m : ℕ) → Compacts low family job → AreOutputsOf job outputs → job.level < m → m ≤ length family.levels
    → FallAt family m key → FallAt (with_compacted job outputs family) m key
above_level low family job outputs key m compacts are lt le falls =
    subst (λ entries. Falls (column key (above (with_compacted job outputs family) m)) (column key (runs_of entries))) (sym (stays_below low family job outputs m compacts lt))
    (subst (λ upper. Falls upper bottom) (sym after)
    (falls_above job.live (covers job.drops key) (M ++ in_tables key sA) (column key job.inputs) (in_tables key sB ++ in_tables key C) bottom
    (subst (λ upper. Falls upper bottom) before falls)))
  where
    M : List Entry
    M = column key (memories family)

    A : List FileEntries
    A = tables_above family job

    B : List FileEntries
    B = level_at family job.level

    sA : List FileEntries
    sA = staying job.files (tables_above family job)

    sB : List FileEntries
    sB = staying job.files (level_at family job.level)

    C : List FileEntries
    C = tables_in (drop (suc job.level) (take m family.levels))

    bottom : List Entry
    bottom = column key (runs_of (level_at family m))

    p : FileEntries → Bool
    p = is_input job

    before : column key (above family m) ≡ (column key (memories family) ++ in_tables key (staying job.files (tables_above family job))) ++ (column key job.inputs ++ (in_tables key (staying job.files (level_at family job.level)) ++ in_tables key (tables_in (drop (suc job.level) (take m family.levels)))))
    before =
        column_append key (memories family) (runs_of (tables_in (take m family.levels)))
        ∙ ap (λ tables. M ++ in_tables key tables) (take_split family.levels job.level m lt le)
        ∙ ap (λ rest. M ++ rest) (in_append key A (B ++ C) ∙ ap (λ rest. in_tables key A ++ rest) (in_append key B C))
        ∙ ap (λ rest. M ++ (rest ++ (in_tables key B ++ in_tables key C))) (others_first p key A compacts.running.below)
        ∙ ap (λ rest. M ++ ((in_tables key sA ++ in_tables key (filter p A)) ++ (rest ++ in_tables key C))) (level_splits low family job key compacts)
        ∙ regroup M (in_tables key sA) (in_tables key (filter p A)) (in_tables key (filter p B)) (in_tables key sB) (in_tables key C)
        ∙ sym (ap (λ rest. (M ++ in_tables key sA) ++ (rest ++ (in_tables key sB ++ in_tables key C))) (inputs_split low family job key compacts))

    stays : FileEntries → Bool
    stays table = not (is_input job table)

    behind : tables_in (map (staying job.files) (drop (suc job.level) (take m family.levels))) ≡ tables_in (drop (suc job.level) (take m family.levels))
    behind =
        filter_levels stays (drop (suc job.level) (take m family.levels))
        ∙ filter_whole stays C (each_as (λ table. is_input job table ≡ false) (λ table. stays table ≡ true) (λ table e. ap not e) C
        (drop_take_each (λ table. is_input job table ≡ false) family.levels (suc job.level) m
        (subst (λ n. Each (λ table. is_input job table ≡ false) (tables_in (drop n family.levels))) (add-one job.level) (none_below low family job compacts))))

    after : column key (above (with_compacted job outputs family) m) ≡ (column key (memories family) ++ in_tables key (staying job.files (tables_above family job))) ++ (compacted job.live (covers job.drops key) (column key job.inputs) ++ (in_tables key (staying job.files (level_at family job.level)) ++ in_tables key (tables_in (drop (suc job.level) (take m family.levels)))))
    after =
        column_append key (memories family) (runs_of (tables_in (take m (with_compacted job outputs family).levels)))
        ∙ ap (λ tables. M ++ in_tables key tables)
        (take_set (staying job.files) family.levels job.level m (put_all outputs sB) lt le
        ∙ ap (λ front. front ++ (put_all outputs sB ++ tables_in (map (staying job.files) (drop (suc job.level) (take m family.levels))))) (filter_levels stays (take job.level family.levels))
        ∙ ap (λ rest. sA ++ (put_all outputs sB ++ rest)) behind)
        ∙ ap (λ rest. M ++ rest) (in_append key sA (put_all outputs sB ++ C) ∙ ap (λ rest. in_tables key sA ++ rest) (in_append key (put_all outputs sB) C))
        ∙ ap (λ rest. M ++ (in_tables key sA ++ (rest ++ in_tables key C))) (placed_column low family job outputs key compacts are)
        ∙ regroup_outputs M (in_tables key sA) (in_tables key outputs) (in_tables key sB) (in_tables key C)
        ∙ ap (λ rest. (M ++ in_tables key sA) ++ (rest ++ (in_tables key sB ++ in_tables key C))) (outputs_column job outputs key are)

at_level : (low : ℕ) (family : FamilyView) (job : Job) (outputs : List FileEntries) (key : List ℕ) → Compacts low family job → AreOutputsOf job outputs
    → FallAt family job.level key → FallAt (with_compacted job outputs family) job.level key
at_level low family job outputs key compacts are falls =
    subst (λ upper. Falls upper (column key (runs_of (level_at (with_compacted job outputs family) job.level)))) (sym after)
    (subst (Falls (M ++ in_tables key sA)) (sym lower)
    (falls_bottom job.live (covers job.drops key) (M ++ in_tables key sA) (in_tables key (filter p A)) (in_tables key (filter p B)) (in_tables key sB) (side (column key job.inputs) refl)
    (subst (λ upper. Falls upper (in_tables key (filter p B) ++ in_tables key sB)) before
    (subst (Falls (column key (above family job.level))) (level_splits low family job key compacts) falls))))
  where
    M : List Entry
    M = column key (memories family)

    A : List FileEntries
    A = tables_above family job

    B : List FileEntries
    B = level_at family job.level

    sA : List FileEntries
    sA = staying job.files (tables_above family job)

    sB : List FileEntries
    sB = staying job.files (level_at family job.level)

    p : FileEntries → Bool
    p = is_input job

    before : column key (above family job.level) ≡ (column key (memories family) ++ in_tables key (staying job.files (tables_above family job))) ++ in_tables key (filter (is_input job) (tables_above family job))
    before =
        column_append key (memories family) (runs_of A)
        ∙ ap (λ rest. M ++ rest) (others_first p key A compacts.running.below)
        ∙ sym (append_assoc M (in_tables key sA) (in_tables key (filter p A)))

    after : column key (above (with_compacted job outputs family) job.level) ≡ column key (memories family) ++ in_tables key (staying job.files (tables_above family job))
    after =
        column_append key (memories family) (runs_of (tables_in (take job.level (with_compacted job outputs family).levels)))
        ∙ ap (λ tables. M ++ in_tables key tables)
        (ap tables_in (take_set_at (staying job.files) family.levels job.level (put_all outputs sB) (level_lt low family job compacts)) ∙ filter_levels (λ table. not (is_input job table)) (take job.level family.levels))

    lower : column key (runs_of (level_at (with_compacted job outputs family) job.level))
        ≡ compacted job.live (covers job.drops key) (in_tables key (filter (is_input job) (tables_above family job)) ++ in_tables key (filter (is_input job) (level_at family job.level))) ++ in_tables key (staying job.files (level_at family job.level))
    lower =
        ap (in_tables key) (level_set_at (staying job.files) family.levels job.level (put_all outputs sB) (level_lt low family job compacts))
        ∙ placed_column low family job outputs key compacts are
        ∙ ap (λ front. front ++ in_tables key sB) (outputs_column job outputs key are ∙ ap (compacted job.live (covers job.drops key)) (inputs_split low family job key compacts))

    side : (found : List Entry) → column key job.inputs ≡ found
        → (in_tables key (filter (is_input job) (tables_above family job)) ++ in_tables key (filter (is_input job) (level_at family job.level)) ≡ []) ⊎ (in_tables key (staying job.files (level_at family job.level)) ≡ [])
    side [] none = inl (sym (inputs_split low family job key compacts) ∙ none)
    side (entry ∷ entries) some = inr (none_beside low family job key compacts (omega (arith, ap length some)))

-- numbers fall after a compaction is installed
pub installed_falls : (low : ℕ) (family : FamilyView) (job : Job) (outputs : List FileEntries) → Compacts low family job → AreOutputsOf job outputs → NumbersFall family → NumbersFall (with_compacted job outputs family)
installed_falls low family job outputs compacts are falls key = elim (cases_lt job.level 6) [
  | inl lt ↦ above_level low family job outputs key 6 compacts are lt (omega (arith, compacts.view.levels)) (falls key)
  | inr ge ↦
      let six : job.level ≡ 6 = omega (arith, compacts.running.level, compacts.bottom) in
      subst (λ n. FallAt (with_compacted job outputs family) n key) six (at_level low family job outputs key compacts are (subst (λ n. FallAt family n key) (sym six) (falls key)))
]

-- ---- a flush

flushed_take : (levels : List (List FileEntries)) (output : FileEntries) (m : ℕ) → 1 ≤ length levels → tables_in (take (suc m) (set levels 0 (output ∷ unwrap_or (slice_get levels 0) []))) ≡ output ∷ tables_in (take (suc m) levels)
flushed_take [] output m some = absurd (omega arith)
flushed_take (level ∷ levels) output m some = refl

pub flushed_level : (levels : List (List FileEntries)) (first : List FileEntries) (m : ℕ) → unwrap_or (slice_get (set levels 0 first) (suc m)) [] ≡ unwrap_or (slice_get levels (suc m)) []
flushed_level [] first m = refl
flushed_level (level ∷ levels) first m = refl

pub flushed_falls : (family : FamilyView) (job : Job) (output : FileEntries) → IsView family → IsFlush family job → IsCompaction job.inputs job.live [] output.entries → NumbersFall family → NumbersFall (with_flushed output family)
flushed_falls family job output view flush is falls key =
    subst (λ tables. Falls (column key (above (with_flushed output family) 6)) (column key (runs_of tables))) (sym (flushed_level family.levels (output ∷ level_at family 0) 5))
    (subst (λ upper. Falls upper bottom) (sym after)
    (falls_above job.live false (of_key key family.mem ++ column key wl) (column key job.inputs) T bottom (subst (λ upper. Falls upper bottom) before (falls key))))
  where
    wl : List (List Entry)
    wl = without_last family.sealed

    T : List Entry
    T = in_tables key (tables_in (take 6 family.levels))

    bottom : List Entry
    bottom = column key (runs_of (level_at family 6))

    before : column key (above family 6) ≡ (of_key key family.mem ++ column key (without_last family.sealed)) ++ (column key job.inputs ++ in_tables key (tables_in (take 6 family.levels)))
    before =
        column_append key (memories family) (runs_of (tables_in (take 6 family.levels)))
        ∙ ap (λ sealed. column key (family.mem ∷ sealed) ++ T) flush.oldest
        ∙ ap (λ rest. (of_key key family.mem ++ rest) ++ T) (column_append key wl job.inputs)
        ∙ regroup_flush (of_key key family.mem) (column key wl) (column key job.inputs) T

    after : column key (above (with_flushed output family) 6) ≡ (of_key key family.mem ++ column key (without_last family.sealed)) ++ (kept job.live (column key job.inputs) ++ in_tables key (tables_in (take 6 family.levels)))
    after =
        column_append key (family.mem ∷ wl) (runs_of (tables_in (take 6 (with_flushed output family).levels)))
        ∙ ap (λ tables. column key (family.mem ∷ wl) ++ in_tables key tables) (flushed_take family.levels output 5 (omega (arith, view.levels)))
        ∙ ap (λ one. column key (family.mem ∷ wl) ++ (one ++ T)) (is.columns key)
