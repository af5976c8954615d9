-- Steps on files that nothing names, and on the manifest.
use Rattle.std.proofs.Common.{◌≡◌, ℕ, ◌<◌, List, [], ◌∷◌, ◌++◌, map, None, refl, sym, ap, subst, ◌∙◌}
use Rattle.std.specs.Prelude.{◌==◌, max, IsTrue}
use Rattle.std.specs.List.{AllByRecursion as Each, AllZip}
use Rattle.base_laws.proofs.Lists.{each_filter}
use Rattle.core_model.specs.Picture.{Core, FamilyView}
use Rattle.manifest_edits.specs.Edits.{Placement, NamedFamily, Named, manifest_reading_none}
use Rattle.store_image.specs.Opens.{image_log_damage, read_damage, is_sound, last_op, holds_table}
use Rattle.store_image.specs.Parts.{ImageParts, log_ops_of, image_levels, table_at, placed_at, by_key, entries_acting, file_entries}
use Rattle.store_image.specs.Steps.{SameNamed, UnnamedStep, GroupBegun, GroupWritten}
use Rattle.store_image.specs.Tie.{EngineFiles, IsTiedFamily, HoldsNamed}
use Rattle.manifest_edits.specs.Logs.{LogFound, LogOp, records_in}
use Rattle.manifest_edits.proofs.Reading.{then, read_append, read_begun, read_whole}

-- ---- the named parts read the same

pub ops_frame : (parts other : ImageParts) (logs : List ℕ) → Each (λ file. other.log file ≡ parts.log file) logs → log_ops_of other logs ≡ log_ops_of parts logs
ops_frame parts other [] h = refl
ops_frame parts other (file ∷ logs) h = ap (λ l. records_in l ++ log_ops_of other logs) h.0 ∙ ap (λ l. records_in (parts.log file) ++ l) (ops_frame parts other logs h.1)

pub damage_frame : (parts other : ImageParts) (logs : List ℕ) → Each (λ file. other.log file ≡ parts.log file) logs → (last : ℕ) → image_log_damage other last logs ≡ image_log_damage parts last logs
damage_frame parts other [] h last = refl
damage_frame parts other (file ∷ logs) h last =
    ap (λ l. read_damage file last l (λ after. image_log_damage other after logs)) h.0
    ∙ ap (read_damage file last (parts.log file)) (λ i after. damage_frame parts other logs h.1 after i)

abbrev SameTable : ImageParts → ImageParts → Placement → Type 0
SameTable parts other placed = other.table placed.file ≡ parts.table placed.file

tables_frame : (parts other : ImageParts) (placed : List Placement) → Each (SameTable parts other) placed → map (table_at other) placed ≡ map (table_at parts) placed
tables_frame parts other [] h = refl
tables_frame parts other (one ∷ placed) h =
    ap (λ file. record { file = one.file; length = one.length; entries = entries_acting one.number (file_entries file) } ∷ map (table_at other) placed) h.0 ∙ ap (λ l. table_at parts one ∷ l) (tables_frame parts other placed h.1)

level_frame : (parts other : ImageParts) (placed : List Placement) (n : ℕ) → Each (SameTable parts other) placed → map (table_at other) (placed_at n placed) ≡ map (table_at parts) (placed_at n placed)
level_frame parts other placed n h = tables_frame parts other (placed_at n placed) (each_filter (SameTable parts other) (λ (one : Placement). one.level == n) placed h)

pub levels_frame : (parts other : ImageParts) (placed : List Placement) → Each (SameTable parts other) placed → image_levels other placed ≡ image_levels parts placed
levels_frame parts other placed h = λ i.
    level_frame parts other placed 0 h i ∷ by_key (level_frame parts other placed 1 h i) ∷ by_key (level_frame parts other placed 2 h i) ∷ by_key (level_frame parts other placed 3 h i)
    ∷ by_key (level_frame parts other placed 4 h i) ∷ by_key (level_frame parts other placed 5 h i) ∷ by_key (level_frame parts other placed 6 h i) ∷ []

sound_frame : (parts other : ImageParts) (placed : List Placement) → Each (SameTable parts other) placed → Each (λ one. IsTrue (is_sound parts one)) placed → Each (λ one. IsTrue (is_sound other one)) placed
sound_frame parts other [] h sound = tt
sound_frame parts other (one ∷ placed) h sound = (ap (holds_table one) h.0 ∙ sound.0, sound_frame parts other placed h.1 sound.1)

pub family_frame : (parts other : ImageParts) (ops : List LogOp) (last : ℕ) (here : List ℕ × FamilyView) (there : List ℕ × NamedFamily) → Each (SameTable parts other) there.1.tables → IsTiedFamily parts ops last here there → IsTiedFamily other ops last here there
family_frame parts other ops last here there same tied = record {
  name = tied.name;
  id = tied.id;
  levels = levels_frame parts other there.1.tables same ∙ tied.levels;
  memory = tied.memory;
  order = tied.order;
  flushed = tied.flushed;
  tables = sound_frame parts other there.1.tables same tied.tables;
}

pub families_frame : (parts other : ImageParts) (ops : List LogOp) (last : ℕ) (cs : List (List ℕ × FamilyView)) (ns : List (List ℕ × NamedFamily)) → Each (λ family. Each (SameTable parts other) family.1.tables) ns
    → AllZip (IsTiedFamily parts ops last) cs ns → AllZip (IsTiedFamily other ops last) cs ns
families_frame parts other ops last [] [] same tied = tt
families_frame parts other ops last [] (n ∷ ns) same tied = absurd tied
families_frame parts other ops last (c ∷ cs) [] same tied = absurd tied
families_frame parts other ops last (c ∷ cs) (n ∷ ns) same tied = (family_frame parts other ops last c n same.0 tied.0, families_frame parts other ops last cs ns same.1 tied.1)

pub holds_frame : (core : Core) (parts other : ImageParts) (named : Named) → SameNamed parts other named → HoldsNamed core parts named → HoldsNamed core other named
holds_frame core parts other named same holds =
    let ops = ops_frame parts other named.logs same.logs in
    record {
      families = subst (λ ops. AllZip (IsTiedFamily other ops core.last) core.families named.families) (sym ops) (families_frame parts other (log_ops_of parts named.logs) core.last core.families named.families same.tables holds.families);
      logs = damage_frame parts other named.logs same.logs 0 ∙ holds.logs;
      last = ap (λ ops. max named.last (last_op 0 ops)) ops ∙ holds.last;
      given = subst (Each (λ (op : LogOp). op.family < core.next_family)) (sym ops) holds.given;
    }

pub unnamed_step : UnnamedStep
unnamed_step core files begun parts other only tied = record {
  marked = only.marked ∙ tied.marked;
  root = only.root ∙ tied.root;
  counts = tied.counts;
  records = tied.records;
  manifest = only.manifest ∙ tied.manifest;
  read = tied.read;
  log = tied.log;
  apart = tied.apart;
  holds = holds_frame core parts other files.named only.same tied.holds;
}

-- ---- groups

pub group_begun : GroupBegun
group_begun core files begun parts other named group more next tied is has = record {
  marked = has.marked ∙ tied.marked;
  root = has.root ∙ tied.root;
  counts = tied.counts;
  records = has.records ++ group;
  manifest = has.after;
  read = read_append manifest_reading_none has.records group ∙ ap (λ found. then found group) has.read ∙ read_begun files.named [] group next more (λ one rest e. refl) is.counts;
  log = tied.log;
  apart = tied.apart;
  holds = holds_frame core parts other files.named has.same tied.holds;
}

pub group_written : GroupWritten
group_written core after files next begun parts other group tied behind is has same log apart holds = record {
  marked = has.marked ∙ tied.marked;
  root = has.root ∙ tied.root ∙ ap {A = EngineFiles} (λ f. LogFound (f.root ++ f.root_last ∷ []) None) (sym same);
  counts = ap {A = EngineFiles} (λ f. f.root_last) same ∙ tied.counts ∙ λ i. (ap {A = EngineFiles} (λ f. f.manifest) (sym same) i, sym behind i);
  records = has.records ++ group;
  manifest = ap {A = EngineFiles} (λ f. other.manifest f.manifest) same ∙ has.after;
  read = read_append manifest_reading_none has.records group ∙ ap (λ found. then found group) has.read ∙ read_whole files.named next.named [] group (λ one rest e. refl) is.counts is.edits is.last;
  log = log;
  apart = apart;
  holds = holds;
}
