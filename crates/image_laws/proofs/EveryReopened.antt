-- An opening can come to its end: from each image without damage there is an image with the root's record open, where file numbers suffice.
use Rattle.std.proofs.Common.{◌≡◌, ℕ, ◌+◌, ◌<◌, ◌≤◌, Bool, true, false, cond, ◌&&◌, List, [], ◌∷◌, ◌++◌, length, Option, Some, None, unwrap_or, refl, sym, ap, subst, ◌∙◌, inl, inr, arith}
use Rattle.std.specs.Prelude.{◌==◌, ◌≢◌, find, flat_map, min, nat_le, nat_lt, set, slice_get, IsTrue, MatchBool}
use Rattle.std.specs.Option.{option_map}
use Rattle.std.specs.List.{AllByRecursion as Each, AllZip}
use Rattle.std.proofs.lemmas.Bool.{eqb-true, le-ltb, lt-ltb}
use Rattle.st_base.specs.Bytes.{below}
use Rattle.st_base.specs.declared.entry.Entry.{Entry}
use Rattle.base_laws.proofs.Lists.{each_all, each_as, each_back, each_both, each_front, each_join, each_map, flat_map_each, map_each}
use Rattle.st_model.specs.declared.state.ModelState.{ModelState}
use Rattle.st_order.specs.Columns.{Pairwise}
use Rattle.core_model.specs.Crash.{IsCrashed, IsFlushedByCrash, Reopens, rank}
use Rattle.core_model.specs.Event.{Crashed}
use Rattle.core_model.specs.declared.reply.CoreReply.TheVariants.{Done}
use Rattle.core_model.specs.Picture.{Core, FamilyView, FileEntries, level_at, tables_in}
use Rattle.core_model.specs.Relation.{Represents}
use Rattle.core_model.specs.RelationParts.{HasEntry, IsView}
use Rattle.core_model.specs.Run.{IsCoreStep, next_state}
use Rattle.core_model.specs.Step.{has_memory}
use Rattle.core_laws.proofs.CrashEvent.{rank_below, ranks_apart}
use Rattle.core_laws.proofs.Lists.{pairs_join}
use Rattle.manifest_edits.specs.CallEdits.{first_edits, flush_placement}
use Rattle.manifest_edits.specs.Edits.{GroupRecord, Named, Placement, files_in, may_place, table_files, tables_named}
use Rattle.manifest_edits.specs.Groups.{group_of_edits}
use Rattle.manifest_edits.specs.Logs.{LogFound, LogOp}
use Rattle.store_image.specs.Every.{AllRenamed, HasFileNumbers, IsReopened, OpeningCanEnd, log_file, manifest_file, new_table_count, root_before}
use Rattle.store_image.specs.Opens.{OpenedImage, holds_table, image_damage, image_opened, is_sound, is_table}
use Rattle.store_image.specs.Parts.{HasTableFile, ImageParts, TableFile, file_entries, image_levels, log_ops_of}
use Rattle.store_image.specs.Recover.{HasOps, HasRows, IsNamed, recovered_core, recovered_state}
use Rattle.store_image.specs.Steps.{HasLevelsOf, HasNewTable, IsReopenedNamed, SameNamed}
use Rattle.store_image.specs.Tie.{EngineFiles, IsApart, IsReadByOpening, IsTiedFamily}
use Rattle.image_laws.proofs.EveryDecoded.{decoded_has_rows}
use Rattle.image_laws.proofs.EveryEdits.{NamedPair, all_of_pairs}
use Rattle.image_laws.proofs.EveryRecovered.{recovered_stands}
use Rattle.image_laws.proofs.FirstGroup.{first_reads}
use Rattle.image_laws.proofs.FirstNamed.{named_next}
use Rattle.image_laws.proofs.Frame.{family_frame}
use Rattle.image_laws.proofs.OpeningHolds.{crash_can_come, crash_refines, opening_has_numbers}
use Rattle.image_laws.proofs.Recovered.{recovered_read}
use Rattle.image_laws.proofs.StandsNames.{pairs_of_places}

abbrev ViewPair : Type 0
ViewPair = List ℕ × FamilyView

itself : (n : ℕ) → (n == n) ≡ true
itself n = grind arith

differs : (n m : ℕ) → (n ≡ m → ⊥) → (n == m) ≡ false
differs n m h = go (n == m) refl
  where
    go : (b : Bool) → (n == m) ≡ b → (n == m) ≡ false
    go true e = absurd (h (eqb-true n m e))
    go false e = e

-- ---- what is named anew

abbrev newest : FamilyView → FileEntries
newest view = unwrap_or (slice_get (level_at view 0) 0) (record { file = 0; length = 0; entries = [] })

module _ (core : Core) (first : ℕ) where
  abbrev new_file : ViewPair → ℕ
  new_file before = first + rank core before.1.id

  -- the names of a family's new table, where `b` says whether there is one
  abbrev new_family_by : Bool → ViewPair → ViewPair → NamedPair → NamedPair
  new_family_by b before after old =
      (old.0, record { id = old.1.id; flushed = min old.1.flushed core.last; tables = cond b (flush_placement (new_file before) (newest after.1).length ∷ old.1.tables) old.1.tables })

  abbrev new_families : List ViewPair → List ViewPair → List NamedPair → List NamedPair
  new_families [] as_ ns = []
  new_families (c ∷ cs) [] ns = []
  new_families (c ∷ cs) (a ∷ as_) [] = []
  new_families (c ∷ cs) (a ∷ as_) (n ∷ ns) = new_family_by (has_memory c) c a n ∷ new_families cs as_ ns

  abbrev placed_in : List NamedPair → List Placement
  placed_in ns = flat_map (λ (family : NamedPair). family.1.tables) ns

  -- what holds of the old tables and of each new one
  new_each : (P : Placement → Type 0) (cs as_ : List ViewPair) (ns : List NamedPair) → Each P (placed_in ns)
      → Each (λ (c : ViewPair). has_memory c ≡ true → (size : ℕ) → P (flush_placement (new_file c) size)) cs → Each P (placed_in (new_families cs as_ ns))
  new_each P [] as_ ns old new = tt
  new_each P (c ∷ cs) [] ns old new = tt
  new_each P (c ∷ cs) (a ∷ as_) [] old new = tt
  new_each P (c ∷ cs) (a ∷ as_) (n ∷ ns) old new =
      each_join P (new_family_by (has_memory c) c a n).1.tables (placed_in (new_families cs as_ ns)) (by (has_memory c) refl)
      (new_each P cs as_ ns (each_back P n.1.tables (placed_in ns) old) new.1)
    where
      by : (b : Bool) → has_memory c ≡ b → Each P (new_family_by b c a n).1.tables
      by true e = (new.0 e (newest a.1).length, each_front P n.1.tables (placed_in ns) old)
      by false e = each_front P n.1.tables (placed_in ns) old

  abbrev Differ : Placement → Placement → Type 0
  Differ one other = one.file ≡ other.file → ⊥

  abbrev RanksDiffer : ViewPair → ViewPair → Type 0
  RanksDiffer one other = has_memory one ≡ true → has_memory other ≡ true → rank core one.1.id ≡ rank core other.1.id → ⊥

  across : {X : Type 0} (R : X → X → Type 0) (xs ys : List X) → Pairwise R (xs ++ ys) → Each (λ x. Each (R x) ys) xs
  across R [] ys pairs = tt
  across R (x ∷ xs) ys pairs = (each_back (R x) xs ys pairs.0, across R xs ys pairs.1)

  front_pairs : {X : Type 0} (R : X → X → Type 0) (xs ys : List X) → Pairwise R (xs ++ ys) → Pairwise R xs
  front_pairs R [] ys pairs = tt
  front_pairs R (x ∷ xs) ys pairs = (each_front (R x) xs ys pairs.0, front_pairs R xs ys pairs.1)

  back_pairs : {X : Type 0} (R : X → X → Type 0) (xs ys : List X) → Pairwise R (xs ++ ys) → Pairwise R ys
  back_pairs R [] ys pairs = pairs
  back_pairs R (x ∷ xs) ys pairs = back_pairs R xs ys pairs.1

  new_differ : (cs as_ : List ViewPair) (ns : List NamedPair) → Pairwise Differ (placed_in ns) → Each (λ (placed : Placement). placed.file < first) (placed_in ns) → Pairwise RanksDiffer cs
      → Pairwise Differ (placed_in (new_families cs as_ ns))
  new_differ [] as_ ns pairs low ranks = tt
  new_differ (c ∷ cs) [] ns pairs low ranks = tt
  new_differ (c ∷ cs) (a ∷ as_) [] pairs low ranks = tt
  new_differ (c ∷ cs) (a ∷ as_) (n ∷ ns) pairs low ranks =
      pairs_join Differ (new_family_by (has_memory c) c a n).1.tables (placed_in (new_families cs as_ ns)) (own (has_memory c))
      (new_differ cs as_ ns (back_pairs Differ n.1.tables (placed_in ns) pairs) later ranks.1) (apart (has_memory c) refl)
    where
      here : Each (λ (placed : Placement). placed.file < first) n.1.tables
      here = each_front (λ (placed : Placement). placed.file < first) n.1.tables (placed_in ns) low

      later : Each (λ (placed : Placement). placed.file < first) (placed_in ns)
      later = each_back (λ (placed : Placement). placed.file < first) n.1.tables (placed_in ns) low

      own : (b : Bool) → Pairwise Differ (new_family_by b c a n).1.tables
      own true = (each_as (λ (placed : Placement). placed.file < first) (Differ (flush_placement (new_file c) (newest a.1).length)) (λ placed lt e. omega (arith, e)) n.1.tables here, front_pairs Differ n.1.tables (placed_in ns) pairs)
      own false = front_pairs Differ n.1.tables (placed_in ns) pairs

      old_apart : Each (λ (placed : Placement). Each (Differ placed) (placed_in (new_families cs as_ ns))) n.1.tables
      old_apart =
          each_both (λ (placed : Placement). placed.file < first) (λ (placed : Placement). Each (Differ placed) (placed_in ns)) (λ (placed : Placement). Each (Differ placed) (placed_in (new_families cs as_ ns)))
          (λ placed lt differ. new_each (Differ placed) cs as_ ns differ
          (each_all (λ (other : ViewPair). has_memory other ≡ true → (size : ℕ) → Differ placed (flush_placement (new_file other) size)) (λ other has size e. omega (arith, lt, e)) cs))
          n.1.tables here (across Differ n.1.tables (placed_in ns) pairs)

      new_apart : has_memory c ≡ true → Each (Differ (flush_placement (new_file c) (newest a.1).length)) (placed_in (new_families cs as_ ns))
      new_apart has =
          new_each (Differ (flush_placement (new_file c) (newest a.1).length)) cs as_ ns
          (each_as (λ (placed : Placement). placed.file < first) (Differ (flush_placement (new_file c) (newest a.1).length)) (λ placed lt e. omega (arith, lt, e)) (placed_in ns) later)
          (each_as (RanksDiffer c) (λ (other : ViewPair). has_memory other ≡ true → (size : ℕ) → Differ (flush_placement (new_file c) (newest a.1).length) (flush_placement (new_file other) size))
          (λ other differ there size e. differ has there (let same : rank core c.1.id ≡ rank core other.1.id = omega (arith, e) in same)) cs ranks.0)

      apart : (b : Bool) → has_memory c ≡ b → Each (λ (placed : Placement). Each (Differ placed) (placed_in (new_families cs as_ ns))) (new_family_by b c a n).1.tables
      apart true has = (new_apart has, old_apart)
      apart false has = old_apart

  -- names and ids stay
  each_kept : (P : List ℕ → ℕ → Type 0) (cs as_ : List ViewPair) (ns : List NamedPair) → Each (λ (n : NamedPair). P n.0 n.1.id) ns → Each (λ (n : NamedPair). P n.0 n.1.id) (new_families cs as_ ns)
  each_kept P [] as_ ns each = tt
  each_kept P (c ∷ cs) [] ns each = tt
  each_kept P (c ∷ cs) (a ∷ as_) [] each = tt
  each_kept P (c ∷ cs) (a ∷ as_) (n ∷ ns) each = (each.0, each_kept P cs as_ ns each.1)

  pairs_kept : (R : List ℕ → ℕ → List ℕ → ℕ → Type 0) (cs as_ : List ViewPair) (ns : List NamedPair) → Pairwise (λ (one other : NamedPair). R one.0 one.1.id other.0 other.1.id) ns
      → Pairwise (λ (one other : NamedPair). R one.0 one.1.id other.0 other.1.id) (new_families cs as_ ns)
  pairs_kept R [] as_ ns pairs = tt
  pairs_kept R (c ∷ cs) [] ns pairs = tt
  pairs_kept R (c ∷ cs) (a ∷ as_) [] pairs = tt
  pairs_kept R (c ∷ cs) (a ∷ as_) (n ∷ ns) pairs = (each_kept (λ name id. R n.0 n.1.id name id) cs as_ ns pairs.0, pairs_kept R cs as_ ns pairs.1)

-- ---- one family

filled_table : (entries : List Entry) → 1 ≤ length entries → is_table 0 entries ≡ true
filled_table [] some = absurd (omega arith)
filled_table (entry ∷ entries) some = refl

-- the image has the table's file, where its number isn't below the first
abbrev HasNewFile : ImageParts → ℕ → FileEntries → Type 0
HasNewFile other first table = first ≤ table.file → HasTableFile other table

module _ (parts other : ImageParts) (core : Core) (first : ℕ) (ops : List LogOp) where
  renamed : (last : ℕ) (c a : ViewPair) (n : NamedPair) → IsTiedFamily parts ops last c n → Each (λ placed. other.table placed.file ≡ parts.table placed.file) n.1.tables → Reopens core first c a
      → Each (λ table. HasNewFile other first table × HasEntry table) (tables_in a.1.levels) → IsReopenedNamed other core.last (new_file core first c) c a n (new_family_by core first (has_memory c) c a n)
  renamed last c a n tied same reopens there = go (has_memory c) refl reopens.1
    where
      file : ℕ
      file = new_file core first c

      tied_other : IsTiedFamily other ops last c n
      tied_other = family_frame parts other ops last c n same tied

      go : (b : Bool) → has_memory c ≡ b → MatchBool b (IsFlushedByCrash file c.1 a.1) (a.1 ≡ c.1) → IsReopenedNamed other core.last file c a n (new_family_by core first b c a n)
      go false e stays = record {
        name = refl;
        id = refl;
        flushed = refl;
        sound = tied_other.tables;
        tables = subst (λ b. MatchBool b (HasNewTable other file c a n (new_family_by core first false c a n)) (HasLevelsOf other n.1.tables n.1.tables)) (sym e) refl;
      }
      go true e flushed = record {
        name = refl;
        id = refl;
        flushed = refl;
        sound = (sound, tied_other.tables);
        tables = subst (λ b. MatchBool b (HasNewTable other file c a n (new_family_by core first true c a n)) (HasLevelsOf other n.1.tables (new_family_by core first true c a n).1.tables)) (sym e)
            (record { flushed = flushed; tables = ap (λ size. image_levels other (flush_placement file size ∷ n.1.tables)) size_is; written = ap {B = FileEntries} (λ found. record { file = file; length = flushed.length; entries = file_entries found }) on_disk });
      }
        where
          table : FileEntries
          table = record { file = file; length = flushed.length; entries = flushed.entries }

          levels_are : a.1.levels ≡ set (image_levels parts n.1.tables) 0 (table ∷ unwrap_or (slice_get (image_levels parts n.1.tables) 0) [])
          levels_are = ap {A = FamilyView} (λ view. view.levels) flushed.view ∙ ap (λ (levels : List (List FileEntries)). set levels 0 (table ∷ unwrap_or (slice_get levels 0) [])) (sym tied.levels)

          size_is : (newest a.1).length ≡ flushed.length
          size_is = ap (λ (levels : List (List FileEntries)). (unwrap_or (slice_get (unwrap_or (slice_get levels 0) []) 0) (record { file = 0; length = 0; entries = [] })).length) levels_are

          here : HasNewFile other first table × HasEntry table
          here = (subst (λ (levels : List (List FileEntries)). Each (λ table. HasNewFile other first table × HasEntry table) (tables_in levels)) levels_are there).0

          on_disk : HasTableFile other table
          on_disk = here.0 (omega arith)

          sound : is_sound other (flush_placement file (newest a.1).length) ≡ true
          sound =
              ap (λ size. is_sound other (flush_placement file size)) size_is
              ∙ ap (holds_table (flush_placement file flushed.length)) on_disk
              ∙ ap (λ b. b && is_table 0 flushed.entries) (itself flushed.length) ∙ filled_table flushed.entries here.1

  abbrev IsRead : ViewPair → NamedPair → Type 0
  IsRead here there = (n : ℕ) × IsTiedFamily parts ops n here there

  all_renamed : (cs as_ : List ViewPair) (ns : List NamedPair) → AllZip IsRead cs ns → Each (λ (n : NamedPair). Each (λ placed. other.table placed.file ≡ parts.table placed.file) n.1.tables) ns
      → AllZip (Reopens core first) cs as_ → Each (λ (a : ViewPair). Each (λ table. HasNewFile other first table × HasEntry table) (tables_in a.1.levels)) as_
      → AllRenamed other core first cs as_ ns (new_families core first cs as_ ns)
  all_renamed [] [] [] tied same zip there = tt
  all_renamed [] (a ∷ as_) ns tied same zip there = absurd zip
  all_renamed [] [] (n ∷ ns) tied same zip there = absurd tied
  all_renamed (c ∷ cs) [] ns tied same zip there = absurd zip
  all_renamed (c ∷ cs) (a ∷ as_) [] tied same zip there = absurd tied
  all_renamed (c ∷ cs) (a ∷ as_) (n ∷ ns) tied same zip there =
      (renamed tied.0.0 c a n tied.0.1 same.0 zip.0 there.0, all_renamed cs as_ ns tied.1 same.1 zip.1 there.1)

-- ---- the image with the root's record open

-- a table of these, looked up by its file
abbrev table_file : List FileEntries → ℕ → Option TableFile
table_file tables file = option_map (λ (table : FileEntries). record { length = table.length; entries = Some table.entries }) (find (λ (table : FileEntries). table.file == file) tables)

find_each : (tables : List FileEntries) → Pairwise (λ one other. one.file ≡ other.file → ⊥) tables → Each (λ table. find (λ (one : FileEntries). one.file == table.file) tables ≡ Some table) tables
find_each [] pairs = tt
find_each (x ∷ xs) pairs = (
  ap (λ b. cond b (Some x) (find (λ (one : FileEntries). one.file == x.file) xs)) (itself x.file),
  each_both (λ table. x.file ≡ table.file → ⊥) (λ table. find (λ (one : FileEntries). one.file == table.file) xs ≡ Some table) (λ table. find (λ (one : FileEntries). one.file == table.file) (x ∷ xs) ≡ Some table)
      (λ table differ found. ap (λ b. cond b (Some x) (find (λ (one : FileEntries). one.file == table.file) xs)) (differs x.file table.file differ) ∙ found) xs pairs.0 (find_each xs pairs.1),
)

module _ (parts : ImageParts) (core : Core) (first : ℕ) (old : Named) (as_ : List ViewPair) where
  abbrev named_anew : Named
  named_anew = record { families = new_families core first core.families as_ old.families; logs = log_file core first ∷ []; last = core.last }

  abbrev group_anew : List GroupRecord
  group_anew = group_of_edits (λ n. n) (first_edits named_anew.families (log_file core first) core.last)

  abbrev tables_after : List FileEntries
  tables_after = flat_map (λ (named : ViewPair). tables_in named.1.levels) as_

  abbrev image_after : ImageParts
  image_after = record {
    marked = true;
    more = true;
    root = LogFound (root_before parts ++ (manifest_file core first, core.behind) ∷ []) None;
    manifest = λ file. cond (file == manifest_file core first) (LogFound group_anew None) (parts.manifest file);
    log = λ file. cond (file == log_file core first) (LogFound [] None) (parts.log file);
    table = λ file. cond (nat_lt file first) (parts.table file) (table_file tables_after file);
  }

  abbrev files_after : EngineFiles
  files_after = record { manifest = manifest_file core first; log = log_file core first; older_logs = []; root = root_before parts; root_last = (manifest_file core first, core.behind); named = named_anew }

  module _ (right : IsNamed old) (positive : 1 < first) (low : Each (λ file. file < first) (files_in old)) (ids : Pairwise (λ (one other : ViewPair). one.1.id ≡ other.1.id → ⊥) core.families) where
    low_tables : Each (λ (placed : Placement). placed.file < first) (tables_named old)
    low_tables = map_each (λ file. file < first) (λ (placed : Placement). placed.file) (tables_named old) (each_back (λ file. file < first) old.logs (table_files old) low)

    is_named : IsNamed named_anew
    is_named = record {
      files = new_differ core first core.families as_ old.families right.files low_tables (ranks_apart core ids);
      ids = pairs_kept core first (λ name id other other_id. id ≡ other_id → ⊥) core.families as_ old.families right.ids;
      names = all_of_pairs (λ (one other : NamedPair). IsTrue (below one.0 other.0)) named_anew.families
          (pairs_kept core first (λ name id other other_id. IsTrue (below name other)) core.families as_ old.families (pairs_of_places (λ (one other : NamedPair). IsTrue (below one.0 other.0)) old.families right.names));
      placed = new_each core first (λ one. may_place one ≡ true) core.families as_ old.families right.placed
          (each_all (λ (c : ViewPair). has_memory c ≡ true → (size : ℕ) → may_place (flush_placement (new_file core first c) size) ≡ true)
          (λ c has size. ap (λ b. b && nat_le 0 6) (lt-ltb 1 (new_file core first c) (omega (arith, positive)))) core.families);
    }

    -- the new tables have the numbers below the manifest's
    below_manifest : Each (λ (placed : Placement). placed.file < manifest_file core first) (tables_named named_anew)
    below_manifest =
        new_each core first (λ (placed : Placement). placed.file < manifest_file core first) core.families as_ old.families
        (each_as (λ (placed : Placement). placed.file < first) (λ (placed : Placement). placed.file < manifest_file core first) (λ placed lt. omega (arith, lt)) (tables_named old) low_tables)
        (each_as (λ (c : ViewPair). has_memory c ≡ true → rank core c.1.id < new_table_count core) (λ (c : ViewPair). has_memory c ≡ true → (size : ℕ) → (flush_placement (new_file core first c) size).file < manifest_file core first)
        (λ c less has size. let lt = less has in omega (arith, lt)) core.families (rank_below core))

    is_apart : IsApart files_after
    is_apart = record {
      manifest = (
        (λ e. omega (arith, e, positive)),
        (
          (λ e. omega (arith, e, positive)),
          (
            (λ e. omega (arith, e)),
            each_map (λ file. file ≢ manifest_file core first) (λ (placed : Placement). placed.file) (tables_named named_anew)
                (each_as (λ (placed : Placement). placed.file < manifest_file core first) (λ (placed : Placement). placed.file ≢ manifest_file core first) (λ placed lt e. omega (arith, lt, e)) (tables_named named_anew) below_manifest),
          ),
        ),
      );
      log = (
        (λ e. omega (arith, e, positive)),
        (
          (λ e. omega (arith, e, positive)),
          each_map (λ file. file ≢ log_file core first) (λ (placed : Placement). placed.file) (tables_named named_anew)
              (each_as (λ (placed : Placement). placed.file < manifest_file core first) (λ (placed : Placement). placed.file ≢ log_file core first) (λ placed lt e. omega (arith, lt, e)) (tables_named named_anew) below_manifest),
        ),
      );
    }

    is_same : SameNamed parts image_after old
    is_same = record {
      logs = each_as (λ file. file < first) (λ file. image_after.log file ≡ parts.log file)
          (λ file lt. ap (λ b. cond b (LogFound [] None) (parts.log file)) (differs file (log_file core first) (λ e. omega (arith, lt, e)))) old.logs (each_front (λ file. file < first) old.logs (table_files old) low);
      tables = each_as (λ (family : NamedPair). Each (λ (placed : Placement). placed.file < first) family.1.tables) (λ (family : NamedPair). Each (λ placed. image_after.table placed.file ≡ parts.table placed.file) family.1.tables)
          (λ family each. each_as (λ (placed : Placement). placed.file < first) (λ placed. image_after.table placed.file ≡ parts.table placed.file)
          (λ placed lt. ap (λ b. cond b (parts.table placed.file) (table_file tables_after placed.file)) (lt-ltb placed.file first lt)) family.1.tables each)
          old.families (flat_map_each (λ (placed : Placement). placed.file < first) (λ (family : NamedPair). family.1.tables) old.families low_tables);
    }

    new_there : Pairwise (λ one other. one.file ≡ other.file → ⊥) tables_after → Each (λ (a : ViewPair). Each HasEntry (tables_in a.1.levels)) as_
        → Each (λ (a : ViewPair). Each (λ table. HasNewFile image_after first table × HasEntry table) (tables_in a.1.levels)) as_
    new_there pairs filled =
        each_both (λ (a : ViewPair). Each (HasNewFile image_after first) (tables_in a.1.levels)) (λ (a : ViewPair). Each HasEntry (tables_in a.1.levels)) (λ (a : ViewPair). Each (λ table. HasNewFile image_after first table × HasEntry table) (tables_in a.1.levels))
        (λ a one two. each_both (HasNewFile image_after first) HasEntry (λ table. HasNewFile image_after first table × HasEntry table) (λ table h k. (h, k)) (tables_in a.1.levels) one two) as_
        (flat_map_each (HasNewFile image_after first) (λ (a : ViewPair). tables_in a.1.levels) as_
        (each_as (λ table. find (λ (one : FileEntries). one.file == table.file) tables_after ≡ Some table) (HasNewFile image_after first)
        (λ table found le. ap (λ b. cond b (parts.table table.file) (table_file tables_after table.file)) (le-ltb table.file first le) ∙ ap (option_map (λ (one : FileEntries). record { length = one.length; entries = Some one.entries })) found)
        tables_after (find_each tables_after pairs))) filled

-- ---- an opening

abbrev CanEnd : ImageParts → ℕ → ℕ → Named → OpenedImage → Type 0
CanEnd parts capacity first old o =
    (after : Core) × (other : ImageParts) × (files : EngineFiles) × IsCoreStep (recovered_core capacity o) (Crashed first) Done after × IsReopened parts other (recovered_core capacity o) after first old files

crash_of : (core after : Core) (first : ℕ) → IsCoreStep core (Crashed first) Done after → IsCrashed first core after
crash_of core after first (inl h) = h.1.1
crash_of core after first (inr h) = absurd (cc h.1)

ids_read : (parts : ImageParts) (ops : List LogOp) (cs : List ViewPair) (ns : List NamedPair) → AllZip (λ (here : ViewPair) (there : NamedPair). (k : ℕ) × IsTiedFamily parts ops k here there) cs ns
    → Pairwise (λ (one other : NamedPair). one.1.id ≡ other.1.id → ⊥) ns → Pairwise (λ (one other : ViewPair). one.1.id ≡ other.1.id → ⊥) cs
ids_read parts ops [] ns tied ids = tt
ids_read parts ops (c ∷ cs) [] tied ids = absurd tied
ids_read parts ops (c ∷ cs) (n ∷ ns) tied ids = (others cs ns tied.1 ids.0, ids_read parts ops cs ns tied.1 ids.1)
  where
    others : (cs : List ViewPair) (ns : List NamedPair) → AllZip (λ (here : ViewPair) (there : NamedPair). (k : ℕ) × IsTiedFamily parts ops k here there) cs ns → Each (λ (other : NamedPair). n.1.id ≡ other.1.id → ⊥) ns → Each (λ (other : ViewPair). c.1.id ≡ other.1.id → ⊥) cs
    others [] ns tied_more each = tt
    others (d ∷ ds) [] tied_more each = absurd tied_more
    others (d ∷ ds) (m ∷ ms) tied_more each = ((λ e. each.0 (tied.0.1.id ∙ e ∙ sym tied_more.0.1.id)), others ds ms tied_more.1 each.1)

ended : (flag behind : Bool) (parts : ImageParts) (named : Named) (capacity first : ℕ) → IsNamed named → image_damage parts named (image_opened behind parts named) ≡ None
    → HasRows (image_opened behind parts named) → HasOps (image_opened behind parts named) → 1 < first → Each (λ file. file < first) (files_in named)
    → HasFileNumbers (recovered_core capacity (image_opened behind parts named)) first → CanEnd parts capacity first named (image_opened behind parts named)
ended flag behind parts named capacity first right none rows ops positive low has = (
  step.0,
  image_after parts core first named crashed.families,
  files_after parts core first named crashed.families,
  step.1,
  subst (λ (after : Core). IsReopened parts (image_after parts core first named crashed.families) core after first named (files_after parts core first named crashed.families)) (sym crashed.core_after)
      (record {
        manifest_is = refl;
        log_is = refl;
        marked = refl;
        root_is = refl;
        root = refl;
        counts = refl;
        records = group_anew parts core first named crashed.families;
        manifest = ap (λ b. cond b (LogFound (group_anew parts core first named crashed.families) None) (parts.manifest (manifest_file core first))) (itself (manifest_file core first));
        read = first_reads (λ n. n) (named_anew parts core first named crashed.families).families (log_file core first) core.last
            (named_next (named_anew parts core first named crashed.families) (is_named parts core first named crashed.families right positive low ids)) (lt-ltb 1 (log_file core first) (omega (arith, positive)));
        apart = is_apart parts core first named crashed.families right positive low ids;
        families = all_renamed parts (image_after parts core first named crashed.families) core first (log_ops_of parts named.logs) core.families crashed.families named.families read
            same.tables crashed.reopened (new_there parts core first named crashed.families right positive low ids files filled);
        same = same;
        older = refl;
        logs = refl;
        empty = ap (λ b. cond b (LogFound [] None) (parts.log (log_file core first))) (itself (log_file core first));
        last = refl;
      }),
)
  where
    core : Core
    core = recovered_core capacity (image_opened behind parts named)

    state : ModelState
    state = recovered_state capacity (image_opened behind parts named)

    stands : Represents core state
    stands = (recovered_stands flag behind parts named capacity right none rows ops).0

    step : (after : Core) × IsCoreStep core (Crashed first) Done after
    step = crash_can_come core state first stands (opening_has_numbers core first has).0

    crashed : IsCrashed first core step.0
    crashed = crash_of core step.0 first step.1

    stands_after : Represents step.0 (next_state core state (Crashed first) Done)
    stands_after = (crash_refines core state first Done step.0 stands step.1).stands

    families_are : step.0.families ≡ crashed.families
    families_are = ap {A = Core} (λ one. one.families) crashed.core_after

    read : IsReadByOpening core parts named
    read = recovered_read behind parts named capacity none

    ids : Pairwise (λ (one other : ViewPair). one.1.id ≡ other.1.id → ⊥) core.families
    ids = ids_read parts (log_ops_of parts named.logs) core.families named.families read right.ids

    same : SameNamed parts (image_after parts core first named crashed.families) named
    same = is_same parts core first named crashed.families right positive low ids

    files : Pairwise (λ one other. one.file ≡ other.file → ⊥) (tables_after parts core first named crashed.families)
    files = subst (λ (families : List ViewPair). Pairwise (λ (one other : FileEntries). one.file ≡ other.file → ⊥) (flat_map (λ (pair : ViewPair). tables_in pair.1.levels) families)) families_are stands_after.files

    filled : Each (λ (a : ViewPair). Each HasEntry (tables_in a.1.levels)) crashed.families
    filled = subst (Each (λ (a : ViewPair). Each HasEntry (tables_in a.1.levels))) families_are
        (each_as (λ (a : ViewPair). IsView a.1) (λ (a : ViewPair). Each HasEntry (tables_in a.1.levels)) (λ a view. view.filled) step.0.families stands_after.views)

pub opening_can_end : OpeningCanEnd
opening_can_end flag parts o capacity first decoded opens to positive low has =
    let rows = decoded_has_rows flag parts o decoded to in
    subst (λ one. HasRows one → HasOps one → HasFileNumbers (recovered_core capacity one) first → CanEnd parts capacity first to.named one) to.is
    (λ rows ops has. ended flag to.behind parts to.named capacity first to.right to.none rows ops positive low has) rows.0 rows.1 has
