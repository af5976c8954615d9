-- Whatever opens is a core that stands for a state with these contents: all families.
use Rattle.std.proofs.Common.{◌≡◌, ℕ, ◌+◌, ◌<◌, ◌≤◌, Bool, true, false, cond, List, [], ◌∷◌, map, filter, fold, Some, None, is_eq, refl, ap, subst, arith}
use Rattle.std.specs.Prelude.{IsTrue, Contains, nat_lt, max}
use Rattle.std.specs.Option.{option_or}
use Rattle.std.specs.List.{flat_map, AllByRecursion as Each}
use Rattle.std.proofs.lemmas.Bool.{ltb-true}
use Rattle.st_base.specs.Bytes.{below, bytes_cmp}
use Rattle.st_base.specs.Map.{value_at}
use Rattle.st_base.specs.declared.entry.Entry.{Entry}
use Rattle.base_laws.proofs.Lists.{append_none, each_as, each_back, each_filter, each_front, each_join, each_map}
use Rattle.core_laws.proofs.Lists.{pairs_across, pairs_back, pairs_front, pairs_join}
use Rattle.core_model.specs.Picture.{FamilyView, Core, FileEntries, runs_of, tables_in, find_mark, lowest_level}
use Rattle.core_model.specs.RelationParts.{NumbersFall, NumbersWithin, LevelsApart, HasRanges, HasKnownKeys, HasWritten, IsView, JobsRun, KeepsReads, AreNoted, ids_of, model_ids, IsSortedRun}
use Rattle.st_model.specs.declared.state.ModelFamily.{ModelFamily}
use Rattle.st_model.specs.declared.state.Snapshot.{Snapshot}
use Rattle.st_model.specs.Contents.{sorted_ranges, contents_of_family as model_family}
use Rattle.st_model.specs.Read.{value_of, read, mark_at}
use Rattle.st_model.specs.Sound.{KeysRise, WritesWithin}
use Rattle.store_image.specs.Claims.{RangesRise}
use Rattle.manifest_edits.specs.Edits.{NamedFamily, Named, tables_named}
use Rattle.store_image.specs.Image.{image_contents_of_family}
use Rattle.store_image.specs.Opens.{OpenedImageFamily, OpenedImage, image_opened, image_family, image_damage, unsound, least_damage, is_sound, image_files_meeting_in, unfallen_in, last_op, unrisen, image_log_damage}
use Rattle.store_image.specs.Parts.{ImageParts, log_ops_of, counts_for, counted_entries, table_at, image_levels}
use Rattle.store_image.specs.Recover.{recovered_view, recovered_core, recovered_family, recovered_state, greatest_id, HasRows, HasOps, IsNamed, RecoveredStands}
use Rattle.image_laws.proofs.Recovered.{counted_falls, no_first, least_none, all_sound, logs_rise}
use Rattle.image_laws.proofs.RecoveredReads.{each_reverse}
use Rattle.image_laws.proofs.EveryEdits.{NamedPair, OtherFile, each_get, pairs_of_all, all_of_pairs}
use Rattle.image_laws.proofs.EveryFamily.{FileApart, levels_each, levels_pairs}
use Rattle.image_laws.proofs.EveryStands.{StandsFor, IsWholeFamily, family_stands, family_contents}
use Rattle.manifest_edits.specs.Logs.{LogOp, log_op_entry}
use Rattle.st_order.specs.Columns.{Pairwise}

-- ---- operations are within the last number

ops_within : (low : ℕ) (ops : List LogOp) → unrisen low ops ≡ None → (low ≤ last_op low ops) × Each (λ op. op.number ≤ last_op low ops) ops
ops_within low [] e = (omega arith, tt)
ops_within low (op ∷ ops) e = by (nat_lt low op.number) refl e (ops_within op.number ops)
  where
    up : (n : ℕ) → low < op.number → op.number ≤ n → low ≤ n
    up n a b = omega arith

    by : (b : Bool) → nat_lt low op.number ≡ b → cond b (unrisen op.number ops) (Some op.at) ≡ None
        → (unrisen op.number ops ≡ None → (op.number ≤ last_op op.number ops) × Each (λ one. one.number ≤ last_op op.number ops) ops)
        → (low ≤ last_op op.number ops) × ((op.number ≤ last_op op.number ops) × Each (λ one. one.number ≤ last_op op.number ops) ops)
    by true f e rest = let found = rest e in (up (last_op op.number ops) (ltb-true low op.number f) found.0, found)
    by false f e rest = absurd (cc e)

counted_within : (last : ℕ) (family : NamedFamily) (ops : List LogOp) → Each (λ op. op.number ≤ last) ops → Each (λ entry. entry.number ≤ last) (counted_entries family ops)
counted_within last family ops h = each_reverse (λ (entry : Entry). entry.number ≤ last) (map log_op_entry (filter (counts_for family) ops))
    (each_map (λ (entry : Entry). entry.number ≤ last) log_op_entry (filter (counts_for family) ops) (each_filter (λ op. op.number ≤ last) (counts_for family) ops h))

-- ---- whole families

abbrev opened_named : ImageParts → List LogOp → NamedPair → List ℕ × OpenedImageFamily
opened_named parts ops family = (family.0, image_family parts ops family.1)

abbrev WholePair : ℕ → ImageParts → List LogOp → NamedPair → Type 0
WholePair last parts ops family = IsWholeFamily last parts ops family.1

all_whole : (last : ℕ) (parts : ImageParts) (logs : List ℕ) (ns : List NamedPair) → image_log_damage parts 0 logs ≡ None → Each (λ op. op.number ≤ last) (log_ops_of parts logs) → Pairwise OtherFile (flat_map (λ family. family.1.tables) ns)
    → Each (λ one. IsTrue (is_sound parts one)) (flat_map (λ family. family.1.tables) ns)
    → flat_map (λ family. image_files_meeting_in family.1) (map (opened_named parts (log_ops_of parts logs)) ns) ≡ []
    → flat_map (λ family. unfallen_in last family.1) (map (opened_named parts (log_ops_of parts logs)) ns) ≡ []
    → Each (λ named. Each IsSortedRun (runs_of (tables_in named.1.levels))) (map (opened_named parts (log_ops_of parts logs)) ns)
    → Each (λ named. Each (λ entry. IsSortedRun (entry ∷ [])) named.1.counted) (map (opened_named parts (log_ops_of parts logs)) ns)
    → Each (WholePair last parts (log_ops_of parts logs)) ns
all_whole last parts logs [] none within files sound meets unfallen rows ops = tt
all_whole last parts logs (n ∷ ns) none within files sound meets unfallen rows ops =
    let first = append_none (image_files_meeting_in (image_family parts (log_ops_of parts logs) n.1)) (flat_map (λ family. image_files_meeting_in family.1) (map (opened_named parts (log_ops_of parts logs)) ns)) meets in
    let second = append_none (unfallen_in last (image_family parts (log_ops_of parts logs) n.1)) (flat_map (λ family. unfallen_in last family.1) (map (opened_named parts (log_ops_of parts logs)) ns)) unfallen in (
      record {
        files = pairs_front OtherFile n.1.tables (flat_map (λ family. family.1.tables) ns) files;
        sound = each_front (λ one. IsTrue (is_sound parts one)) n.1.tables (flat_map (λ family. family.1.tables) ns) sound;
        falls = counted_falls parts logs n.1 none;
        within = counted_within last n.1 (log_ops_of parts logs) within;
        meets = first.0;
        unfallen = second.0;
        rows = rows.0;
        ops_rows = ops.0;
      },
      all_whole last parts logs ns none within (pairs_back OtherFile n.1.tables (flat_map (λ family. family.1.tables) ns) files)
          (each_back (λ one. IsTrue (is_sound parts one)) n.1.tables (flat_map (λ family. family.1.tables) ns) sound) first.1 second.1 rows.1 ops.1,
    )

pub whole_families : (behind : Bool) (parts : ImageParts) (named : Named) → IsNamed named → image_damage parts named (image_opened behind parts named) ≡ None → HasRows (image_opened behind parts named) → HasOps (image_opened behind parts named)
    → Each (WholePair (image_opened behind parts named).last parts (log_ops_of parts named.logs)) named.families
whole_families behind parts named is none rows ops =
    all_whole last parts named.logs named.families first.0
    (each_as (λ op. op.number ≤ last_op 0 (log_ops_of parts named.logs)) (λ op. op.number ≤ last) (λ op le. up op.number (last_op 0 (log_ops_of parts named.logs)) le) (log_ops_of parts named.logs) (ops_within 0 (log_ops_of parts named.logs) (logs_rise parts 0 named.logs first.0)).1)
    is.files (all_sound parts (tables_named named) (least_none (unsound parts (tables_named named)) second.0)) (least_none meets_ third.0) (least_none falls_ third.1) rows ops
  where
    last : ℕ
    last = (image_opened behind parts named).last

    meets_ : List ℕ
    meets_ = flat_map (λ family. image_files_meeting_in family.1) (image_opened behind parts named).families

    falls_ : List ℕ
    falls_ = flat_map (λ family. unfallen_in (image_opened behind parts named).last family.1) (image_opened behind parts named).families

    first : (image_log_damage parts 0 named.logs ≡ None) × (option_or (least_damage (unsound parts (tables_named named))) (option_or (least_damage meets_) (least_damage falls_)) ≡ None)
    first = no_first (image_log_damage parts 0 named.logs) (option_or (least_damage (unsound parts (tables_named named))) (option_or (least_damage meets_) (least_damage falls_))) none

    second : (least_damage (unsound parts (tables_named named)) ≡ None) × (option_or (least_damage meets_) (least_damage falls_) ≡ None)
    second = no_first (least_damage (unsound parts (tables_named named))) (option_or (least_damage meets_) (least_damage falls_)) first.1

    third : (least_damage meets_ ≡ None) × (least_damage falls_ ≡ None)
    third = no_first (least_damage meets_) (least_damage falls_) second.1

    up : (n m : ℕ) → n ≤ m → n ≤ max named.last m
    up n m le = omega arith

-- ---- families of the core and of the state

abbrev views_of : ImageParts → List LogOp → List NamedPair → List (List ℕ × FamilyView)
views_of parts ops ns = map {B = List ℕ × FamilyView} (λ named. (named.0, recovered_view named.1)) (map (opened_named parts ops) ns)

abbrev kept_of : Bool → ImageParts → List LogOp → List NamedPair → List (List ℕ × ModelFamily)
kept_of behind parts ops ns = map {B = List ℕ × ModelFamily} (λ named. (named.0, recovered_family behind named.1)) (map (opened_named parts ops) ns)

for_both : (behind : Bool) (parts : ImageParts) (ops : List LogOp) (P : FamilyView → ModelFamily → Type 0) (ns : List NamedPair)
    → Each (λ f. P (recovered_view (image_family parts ops f.1)) (recovered_family behind (image_family parts ops f.1))) ns
    → (name : List ℕ) (family : FamilyView) (kept : ModelFamily) → value_at (views_of parts ops ns) name ≡ Some family → value_at (kept_of behind parts ops ns) name ≡ Some kept → P family kept
for_both behind parts ops P [] h name family kept here there = absurd (cc here)
for_both behind parts ops P (f ∷ ns) h name family kept here there = by (is_eq (bytes_cmp name f.0)) here there (for_both behind parts ops P ns h.1 name family kept)
  where
    by : (b : Bool) → cond b (Some (recovered_view (image_family parts ops f.1))) (value_at (views_of parts ops ns) name) ≡ Some family
        → cond b (Some (recovered_family behind (image_family parts ops f.1))) (value_at (kept_of behind parts ops ns) name) ≡ Some kept
        → (value_at (views_of parts ops ns) name ≡ Some family → value_at (kept_of behind parts ops ns) name ≡ Some kept → P family kept) → P family kept
    by true here there rest =
        let one : recovered_view (image_family parts ops f.1) ≡ family = cc here in
        let other : recovered_family behind (image_family parts ops f.1) ≡ kept = cc there in
        subst (λ k. P family k) other (subst (λ v. P v (recovered_family behind (image_family parts ops f.1))) one h.0)
    by false here there rest = rest here there

for_each : (parts : ImageParts) (ops : List LogOp) (P : FamilyView → Type 0) (ns : List NamedPair) → Each (λ f. P (recovered_view (image_family parts ops f.1))) ns → Each (λ named. P named.1) (views_of parts ops ns)
for_each parts ops P [] h = tt
for_each parts ops P (f ∷ ns) h = (h.0, for_each parts ops P ns h.1)

each_kept : (behind : Bool) (parts : ImageParts) (ops : List LogOp) (P : ModelFamily → Type 0) (ns : List NamedPair) → Each (λ f. P (recovered_family behind (image_family parts ops f.1))) ns → Each (λ named. P named.1) (kept_of behind parts ops ns)
each_kept behind parts ops P [] h = tt
each_kept behind parts ops P (f ∷ ns) h = (h.0, each_kept behind parts ops P ns h.1)

ids_same : (behind : Bool) (parts : ImageParts) (ops : List LogOp) (ns : List NamedPair) → ids_of (views_of parts ops ns) ≡ model_ids (kept_of behind parts ops ns)
ids_same behind parts ops [] = refl
ids_same behind parts ops (f ∷ ns) = ap {B = List (List ℕ × ℕ)} (λ l. (f.0, f.1.id) ∷ l) (ids_same behind parts ops ns)

kept_pairs : (behind : Bool) (parts : ImageParts) (ops : List LogOp) (R : List ℕ → ℕ → List ℕ → ℕ → Type 0) (ns : List NamedPair)
    → Pairwise (λ (one other : NamedPair). R one.0 one.1.id other.0 other.1.id) ns → Pairwise (λ (one other : List ℕ × ModelFamily). R one.0 one.1.id other.0 other.1.id) (kept_of behind parts ops ns)
kept_pairs behind parts ops R [] h = tt
kept_pairs behind parts ops R (f ∷ ns) h = (firsts ns h.0, kept_pairs behind parts ops R ns h.1)
  where
    firsts : (ms : List NamedPair) → Each (λ (other : NamedPair). R f.0 f.1.id other.0 other.1.id) ms → Each (λ (other : List ℕ × ModelFamily). R f.0 f.1.id other.0 other.1.id) (kept_of behind parts ops ms)
    firsts [] k = tt
    firsts (m ∷ ms) k = (k.0, firsts ms k.1)

families_contents : (behind : Bool) (last : ℕ) (parts : ImageParts) (ops : List LogOp) (ns : List NamedPair) → Each (WholePair last parts ops) ns → map (model_family behind) (kept_of behind parts ops ns) ≡ map (image_contents_of_family behind) (map (opened_named parts ops) ns)
families_contents behind last parts ops [] h = refl
families_contents behind last parts ops (f ∷ ns) h =
    let first = family_contents behind last parts ops f.0 f.1 h.0 in
    let rest = families_contents behind last parts ops ns h.1 in
    λ i. first i ∷ rest i

-- ---- tables have files of their own

views_each : (P : FileEntries → Type 0) (parts : ImageParts) (ops : List LogOp) (ns : List NamedPair) → Each (λ one. P (table_at parts one)) (flat_map (λ family. family.1.tables) ns) → Each P (flat_map (λ named. tables_in named.1.levels) (views_of parts ops ns))
views_each P parts ops [] h = tt
views_each P parts ops (f ∷ ns) h =
    each_join P (tables_in (image_levels parts f.1.tables)) (flat_map (λ named. tables_in named.1.levels) (views_of parts ops ns))
    (levels_each P parts f.1.tables (each_front (λ one. P (table_at parts one)) f.1.tables (flat_map (λ family. family.1.tables) ns) h))
    (views_each P parts ops ns (each_back (λ one. P (table_at parts one)) f.1.tables (flat_map (λ family. family.1.tables) ns) h))

views_files : (parts : ImageParts) (ops : List LogOp) (ns : List NamedPair) → Pairwise OtherFile (flat_map (λ family. family.1.tables) ns) → Pairwise FileApart (flat_map (λ named. tables_in named.1.levels) (views_of parts ops ns))
views_files parts ops [] h = tt
views_files parts ops (f ∷ ns) h =
    pairs_join FileApart (tables_in (image_levels parts f.1.tables)) (flat_map (λ named. tables_in named.1.levels) (views_of parts ops ns))
    (levels_pairs parts f.1.tables (pairs_front OtherFile f.1.tables (flat_map (λ family. family.1.tables) ns) h))
    (views_files parts ops ns (pairs_back OtherFile f.1.tables (flat_map (λ family. family.1.tables) ns) h))
    (levels_each (λ x. Each (FileApart x) (flat_map (λ named. tables_in named.1.levels) (views_of parts ops ns))) parts f.1.tables
    (each_as (λ one. Each (OtherFile one) (flat_map (λ family. family.1.tables) ns)) (λ one. Each (FileApart (table_at parts one)) (flat_map (λ named. tables_in named.1.levels) (views_of parts ops ns)))
    (λ one k. views_each (FileApart (table_at parts one)) parts ops ns k) f.1.tables (pairs_across OtherFile f.1.tables (flat_map (λ family. family.1.tables) ns) h)))

-- ---- ids are below the next

fold_up : (n : ℕ) (families : List (List ℕ × OpenedImageFamily)) → n ≤ fold (λ greatest (named : List ℕ × OpenedImageFamily). max greatest named.1.id) n families
fold_up n [] = omega arith
fold_up n (f ∷ fs) = le (fold_up (max n f.1.id) fs)
  where
    le : {m : ℕ} → max n f.1.id ≤ m → n ≤ m
    le h = omega arith

ids_below : (n : ℕ) (families : List (List ℕ × OpenedImageFamily)) → Each (λ named. named.1.id ≤ fold (λ greatest (named : List ℕ × OpenedImageFamily). max greatest named.1.id) n families) families
ids_below n [] = tt
ids_below n (f ∷ fs) = (le (fold_up (max n f.1.id) fs), ids_below (max n f.1.id) fs)
  where
    le : {m : ℕ} → max n f.1.id ≤ m → f.1.id ≤ m
    le h = omega arith

ids_next : (behind : Bool) (families : List (List ℕ × OpenedImageFamily)) (next : ℕ) → Each (λ named. named.1.id ≤ next) families
    → Each (λ named. named.1.id < next + 1) (map {B = List ℕ × ModelFamily} (λ named. (named.0, recovered_family behind named.1)) families)
ids_next behind [] next h = tt
ids_next behind (f ∷ fs) next h = (less h.0, ids_next behind fs next h.1)
  where
    less : f.1.id ≤ next → f.1.id < next + 1
    less h = omega arith

-- ---- the whole

only_now : (last number : ℕ) → Contains (last ∷ []) number → last ≡ number
only_now last number there = subst (λ n. last ≡ n) there.2 (each_get (λ n. last ≡ n) (last ∷ []) (refl, tt) there.0 number there.1)

none_noted : (capacity : ℕ) (opened : OpenedImage) → AreNoted (recovered_core capacity opened)
none_noted capacity opened = record { numbers = tt; made = λ few. tt; families = tt; outputs = tt; live = tt }

no_jobs : (capacity : ℕ) (opened : OpenedImage) (families : List (List ℕ × FamilyView)) → Each (λ named. JobsRun (lowest_level (recovered_core capacity opened)) [] named.1) families
no_jobs capacity opened [] = tt
no_jobs capacity opened (f ∷ fs) = (record { each = tt; ranges = tt; apart = tt }, no_jobs capacity opened fs)

none_kept : (core : Core) (families : List (List ℕ × FamilyView)) → Each (λ named. Each (KeepsReads core named.1) []) families
none_kept core [] = tt
none_kept core (f ∷ fs) = (tt, none_kept core fs)

abbrev StandsPair : Bool → ℕ → ImageParts → List LogOp → NamedPair → Type 0
StandsPair behind last parts ops f = StandsFor behind last (recovered_view (image_family parts ops f.1)) (recovered_family behind (image_family parts ops f.1))

pub recovered_stands : RecoveredStands
recovered_stands flag behind parts named capacity is none rows ops_ = (
  record {
    same = record { place = refl; last = refl; charge = refl; behind = refl; families = ids_same behind parts ops ns; next_family = refl; live = refl };
    reads = for_both behind parts ops (λ family kept. (number : ℕ) (key : List ℕ) → Contains (last ∷ []) number → value_of (find_mark family number key) ≡ read kept number key) ns
        (each_as (StandsPair behind last parts ops) (λ f. (number : ℕ) (key : List ℕ) → Contains (last ∷ []) number → value_of (find_mark (recovered_view (image_family parts ops f.1)) number key) ≡ read (recovered_family behind (image_family parts ops f.1)) number key)
        (λ f s number key there. subst (λ n. value_of (find_mark (recovered_view (image_family parts ops f.1)) n key) ≡ read (recovered_family behind (image_family parts ops f.1)) n key) (only_now last number there) (ap value_of (s.marks key))) ns stands);
    falls = for_each parts ops NumbersFall ns (each_as (StandsPair behind last parts ops) (λ f. NumbersFall (recovered_view (image_family parts ops f.1))) (λ f s. s.falls) ns stands);
    within = for_each parts ops (NumbersWithin last) ns (each_as (StandsPair behind last parts ops) (λ f. NumbersWithin last (recovered_view (image_family parts ops f.1))) (λ f s. s.within) ns stands);
    apart = for_each parts ops LevelsApart ns (each_as (StandsPair behind last parts ops) (λ f. LevelsApart (recovered_view (image_family parts ops f.1))) (λ f s. s.apart) ns stands);
    ranges = λ on. for_both behind parts ops HasRanges ns (each_as (StandsPair behind last parts ops) (λ f. HasRanges (recovered_view (image_family parts ops f.1)) (recovered_family behind (image_family parts ops f.1))) (λ f s. s.ranges on) ns stands);
    marks = λ on. for_both behind parts ops (λ family kept. (number : ℕ) (key : List ℕ) → Contains (last ∷ []) number → find_mark family number key ≡ mark_at kept number key) ns
        (each_as (StandsPair behind last parts ops) (λ f. (number : ℕ) (key : List ℕ) → Contains (last ∷ []) number → find_mark (recovered_view (image_family parts ops f.1)) number key ≡ mark_at (recovered_family behind (image_family parts ops f.1)) number key)
        (λ f s number key there. subst (λ n. find_mark (recovered_view (image_family parts ops f.1)) n key ≡ mark_at (recovered_family behind (image_family parts ops f.1)) n key) (only_now last number there) (s.marks key)) ns stands);
    known = for_both behind parts ops HasKnownKeys ns (each_as (StandsPair behind last parts ops) (λ f. HasKnownKeys (recovered_view (image_family parts ops f.1)) (recovered_family behind (image_family parts ops f.1))) (λ f s. s.known) ns stands);
    written = for_both behind parts ops HasWritten ns (each_as (StandsPair behind last parts ops) (λ f. HasWritten (recovered_view (image_family parts ops f.1)) (recovered_family behind (image_family parts ops f.1))) (λ f s. s.written) ns stands);
    jobs = no_jobs capacity opened_ (views_of parts ops ns);
    kept = none_kept (recovered_core capacity opened_) (views_of parts ops ns);
    turn = tt;
    views = for_each parts ops IsView ns (each_as (StandsPair behind last parts ops) (λ f. IsView (recovered_view (image_family parts ops f.1))) (λ f s. s.view) ns stands);
    files = views_files parts ops ns is.files;
    noted = none_noted capacity opened_;
    sound = record {
      names = all_of_pairs (λ (one other : List ℕ × ModelFamily). IsTrue (below one.0 other.0)) (kept_of behind parts ops ns)
          (kept_pairs behind parts ops (λ name n other m. IsTrue (below name other)) ns (pairs_of_all (λ (one other : NamedPair). IsTrue (below one.0 other.0)) ns is.names));
      bases = each_kept behind parts ops (λ kept. KeysRise kept.base) ns (each_as (StandsPair behind last parts ops) (λ f. KeysRise (recovered_family behind (image_family parts ops f.1)).base) (λ f s. s.base) ns stands);
      writes = each_kept behind parts ops (WritesWithin last) ns (each_as (StandsPair behind last parts ops) (λ f. WritesWithin last (recovered_family behind (image_family parts ops f.1))) (λ f s. s.writes) ns stands);
      live = tt;
      snapshots = all_of_pairs (λ (one other : Snapshot). one.id < other.id) [] tt;
      taken = tt;
      above = tt;
      ids = all_of_pairs (λ (one other : List ℕ × ModelFamily). one.1.id ≡ other.1.id → ⊥) (kept_of behind parts ops ns) (kept_pairs behind parts ops (λ name n other m. n ≡ m → ⊥) ns is.ids);
      next = ids_next behind opened_.families (greatest_id opened_.families) (ids_below 0 opened_.families);
      unranged = λ off. each_kept behind parts ops (λ kept. kept.ranges ≡ []) ns (each_as (StandsPair behind last parts ops) (λ f. (recovered_family behind (image_family parts ops f.1)).ranges ≡ []) (λ f s. s.none off) ns stands);
    };
  },
  λ i. record { last = last; behind = behind; families = families_contents behind last parts ops ns whole i },
)
  where
    ns : List NamedPair
    ns = named.families

    ops : List LogOp
    ops = log_ops_of parts named.logs

    opened_ : OpenedImage
    opened_ = image_opened behind parts named

    last : ℕ
    last = opened_.last

    whole : Each (WholePair (image_opened behind parts named).last parts (log_ops_of parts named.logs)) named.families
    whole = whole_families behind parts named is none rows ops_

    stands : Each (StandsPair behind (image_opened behind parts named).last parts (log_ops_of parts named.logs)) named.families
    stands = each_as (WholePair last parts ops) (StandsPair behind last parts ops) (λ f h. family_stands behind last parts ops f.1 h) ns whole

-- ranges of files behind begin apart
pub recovered_rise : (behind : Bool) (parts : ImageParts) (named : Named) (capacity : ℕ) → IsNamed named → image_damage parts named (image_opened behind parts named) ≡ None → HasRows (image_opened behind parts named) → HasOps (image_opened behind parts named)
    → RangesRise (recovered_state capacity (image_opened behind parts named))
recovered_rise behind parts named capacity is none rows ops_ =
    each_kept behind parts (log_ops_of parts named.logs) (λ kept. Pairwise (λ one other. IsTrue (below one.first other.first)) (sorted_ranges kept.ranges)) named.families
    (each_as (WholePair (image_opened behind parts named).last parts (log_ops_of parts named.logs)) (λ f. Pairwise (λ one other. IsTrue (below one.first other.first)) (sorted_ranges (recovered_family behind (image_family parts (log_ops_of parts named.logs) f.1)).ranges))
    (λ f h. (family_stands behind (image_opened behind parts named).last parts (log_ops_of parts named.logs) f.1 h).rise) named.families (whole_families behind parts named is none rows ops_))
