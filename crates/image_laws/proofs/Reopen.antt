-- An opening writes what a crash leaves in memory, and ties it.
use Rattle.std.proofs.Common.{◌≡◌, ℕ, ◌+◌, ◌<◌, ◌≤◌, Bool, true, false, ◌||◌, List, [], ◌∷◌, ◌++◌, None, Some, refl, sym, ap, subst, ◌∙◌, arith}
use Rattle.std.specs.Prelude.{nat_le, max, min, MatchBool, length}
use Rattle.std.specs.List.{list_any, AllByRecursion as Each, AllZip}
use Rattle.std.proofs.lemmas.Bool.{false≢true, le-leb}
use Rattle.st_base.specs.declared.entry.Entry.{Entry}
use Rattle.core_model.specs.Crash.{Reopens, IsFlushedByCrash, rank}
use Rattle.core_model.specs.Picture.{Core, FamilyView, memories}
use Rattle.core_model.specs.Step.{has_memory}
use Rattle.manifest_edits.specs.Edits.{NamedFamily, Named}
use Rattle.store_image.specs.Opens.{image_log_damage, read_damage, last_op, image_opened}
use Rattle.store_image.specs.Parts.{ImageParts, log_ops_of}
use Rattle.store_image.specs.Steps.{HasLevelsOf, HasNewTable, IsReopenedNamed, AllReopened, IsReopening}
use Rattle.store_image.specs.Tie.{IsTiedToImage, IsTiedFamily, HoldsNamed, IsReadByOpening}
use Rattle.core_model.specs.RelationParts.{MemoriesFall}
use Rattle.st_model.specs.Contents.{contents, opened}
use Rattle.store_image.specs.Claims.{OpenSwitches, opened_files}
use Rattle.image_laws.proofs.Opening.{tied_opens}
use Rattle.image_laws.proofs.Again.{opened_has_contents}
use Rattle.image_laws.proofs.Flush.{level_front}
use Rattle.image_laws.proofs.Frame.{family_frame}
use Rattle.image_laws.proofs.Install.{opens_to}
use Rattle.manifest_edits.specs.Logs.{LogOp, records_in}
use Rattle.manifest_edits.specs.CallEdits.{flush_placement}
use Rattle.st_order.specs.Columns.{of_key, column}

-- ---- no memtable has an entry

pub run_empty : (entries : List Entry) → nat_le 1 (length entries) ≡ false → entries ≡ []
run_empty [] e = refl
run_empty (entry ∷ entries) e = absurd (false≢true (sym e ∙ le-leb 1 (length (entry ∷ entries)) (omega arith)))

pub either : (b c : Bool) → (b || c) ≡ false → (b ≡ false) × (c ≡ false)
either true c e = absurd (false≢true (sym e))
either false c e = (refl, e)

pub column_empty : (key : List ℕ) (runs : List (List Entry)) → list_any (λ entries. nat_le 1 (length entries)) runs ≡ false → column key runs ≡ []
column_empty key [] e = refl
column_empty key (run ∷ runs) e =
    let parts = either (nat_le 1 (length run)) (list_any (λ entries. nat_le 1 (length entries)) runs) e in
    ap (λ l. of_key key l ++ column key runs) (run_empty run parts.0) ∙ column_empty key runs parts.1

-- ---- one family

lesser_within : (n old last : ℕ) → n ≡ min old last → n ≤ last
lesser_within n old last e = omega arith

family_reopens : (parts : ImageParts) (ops : List LogOp) (n : ℕ) (core : Core) (first : ℕ) (before after : List ℕ × FamilyView) (old new : List ℕ × NamedFamily)
    → IsTiedFamily parts ops n before old → Reopens core first before after → IsReopenedNamed parts core.last (first + rank core before.1.id) before after old new → IsTiedFamily parts [] core.last after new
family_reopens parts ops n core first before after old new tied reopens is = go (has_memory before) refl reopens.1 is.tables
  where
    go : (b : Bool) → has_memory before ≡ b → MatchBool b (IsFlushedByCrash (first + rank core before.1.id) before.1 after.1) (after.1 ≡ before.1)
        → MatchBool b (HasNewTable parts (first + rank core before.1.id) before after old new) (HasLevelsOf parts old.1.tables new.1.tables)
        → IsTiedFamily parts [] core.last after new
    go true e opened has = record {
      name = is.name ∙ tied.name ∙ reopens.0;
      id = is.id ∙ tied.id ∙ ap {A = FamilyView} (λ view. view.id) (sym opened.view);
      levels = has.tables
          ∙ level_front parts (flush_placement (first + rank core before.1.id) has.flushed.length) old.1.tables (record { file = first + rank core before.1.id; length = has.flushed.length; entries = has.flushed.entries }) before.1 refl has.written tied.levels
          ∙ ap {A = FamilyView} (λ view. view.levels) (sym has.flushed.view);
      memory = λ key. ap {A = FamilyView} (λ view. column key (memories view)) opened.view;
      order = subst MemoriesFall (sym opened.view) (tt, tt);
      flushed = lesser_within new.1.flushed old.1.flushed core.last is.flushed;
      tables = is.sound;
    }
    go false e same tables = record {
      name = is.name ∙ tied.name ∙ reopens.0;
      id = is.id ∙ tied.id ∙ ap {A = FamilyView} (λ view. view.id) (sym same);
      levels = tables ∙ tied.levels ∙ ap {A = FamilyView} (λ view. view.levels) (sym same);
      memory = λ key. ap {A = FamilyView} (λ view. column key (memories view)) same ∙ column_empty key (memories before.1) e;
      order = subst MemoriesFall (sym same) tied.order;
      flushed = lesser_within new.1.flushed old.1.flushed core.last is.flushed;
      tables = is.sound;
    }

-- ---- all of them

abbrev IsRead : ImageParts → List LogOp → List ℕ × FamilyView → List ℕ × NamedFamily → Type 0
IsRead parts ops here there = (n : ℕ) × IsTiedFamily parts ops n here there

all_reopen : (parts other : ImageParts) (ops : List LogOp) (core : Core) (first : ℕ) (cs as_ : List (List ℕ × FamilyView)) (ns ms : List (List ℕ × NamedFamily))
    → Each (λ family. Each (λ placed. other.table placed.file ≡ parts.table placed.file) family.1.tables) ns
    → AllZip (IsRead parts ops) cs ns → AllReopened other core first cs as_ ns ms → AllZip (IsTiedFamily other [] core.last) as_ ms
all_reopen parts other ops core first [] [] [] [] same tied is = tt
all_reopen parts other ops core first [] [] [] (m ∷ ms) same tied is = absurd is
all_reopen parts other ops core first [] [] (n ∷ ns) ms same tied is = absurd tied
all_reopen parts other ops core first [] (a ∷ as_) [] ms same tied is = absurd is
all_reopen parts other ops core first [] (a ∷ as_) (n ∷ ns) ms same tied is = absurd tied
all_reopen parts other ops core first (c ∷ cs) as_ [] ms same tied is = absurd tied
all_reopen parts other ops core first (c ∷ cs) [] (n ∷ ns) ms same tied is = absurd is
all_reopen parts other ops core first (c ∷ cs) (a ∷ as_) (n ∷ ns) [] same tied is = absurd is
all_reopen parts other ops core first (c ∷ cs) (a ∷ as_) (n ∷ ns) (m ∷ ms) same tied is =
    (family_reopens other ops tied.0.0 core first c a n m (family_frame parts other ops tied.0.0 c n same.0 tied.0.1) is.0.0 is.0.1, all_reopen parts other ops core first cs as_ ns ms same.1 tied.1 is.1)

-- the new manifest, with the new log, holds the core after the crash
pub reopening_holds : (core after : Core) (parts other : ImageParts) (first : ℕ) (old new : Named) (log : ℕ) → IsReadByOpening core parts old → IsReopening parts other core after first old new log → HoldsNamed after other new
reopening_holds core after parts other first old new log tied is = record {
  families = subst (λ last. AllZip (IsTiedFamily other (log_ops_of other new.logs) last) after.families new.families) (sym is.core_last)
      (subst (λ ops. AllZip (IsTiedFamily other ops core.last) after.families new.families) (sym ops)
      (all_reopen parts other (log_ops_of parts old.logs) core first core.families after.families old.families new.families is.same.tables tied is.families));
  logs = ap (image_log_damage other 0) is.logs ∙ ap (λ read. read_damage log 0 read (λ last. None)) is.empty;
  last = ap (λ ops. max new.last (last_op 0 ops)) ops ∙ ap (λ n. max n 0) is.last ∙ none_more core.last ∙ sym is.core_last;
  given = subst (Each (λ (op : LogOp). op.family < after.next_family)) (sym ops) tt;
}
  where
    ops : log_ops_of other new.logs ≡ []
    ops = ap (log_ops_of other) is.logs ∙ ap (λ read. records_in read ++ []) is.empty

    none_more : (n : ℕ) → max n 0 ≡ n
    none_more n = omega arith

-- ---- the root's record

pub open_switches : OpenSwitches
open_switches core after state known files parts other flag first manifest log named again rise behind tied reopening switched =
    let opens_ = tied_opens after (opened (contents state) known) (opened_files core files manifest log named) _ other flag again tied_after in
    opens_to flag other (image_opened after.behind other named) opens_.0 ∙ ap Some (opens_.1 ∙ opened_has_contents state known rise)
  where
    tied_after : IsTiedToImage after (opened_files core files manifest log named) [] other
    tied_after = record {
      marked = switched.marked;
      root = switched.root;
      counts = λ i. (manifest, sym behind i);
      records = switched.records;
      manifest = switched.manifest;
      read = switched.read;
      log = reopening.logs;
      apart = switched.apart;
      holds = reopening_holds core after parts other first files.named named log tied reopening;
    }
