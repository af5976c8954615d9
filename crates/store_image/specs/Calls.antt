-- The calls of the engine: the group that each appends, what is named after it, and what must hold before it.
use Rattle.std.specs.Prelude.{◌≡◌, ℕ, false, List, [], ◌∷◌, ◌++◌, ◌==◌, true, flat_map, reverse, nat_lt, ⊤, Bool, not, filter, fold, max, ◌+◌, unwrap_or, option_map, Some, map, IsTrue, IsFalse, None}
use Rattle.std.specs.declared.cmp.Ordering.TheVariants.{Greater}
use Rattle.std.specs.List.{list_any, AllByRecursion as Each}
use Rattle.st_base.specs.Bytes.{bytes_cmp}
use Rattle.manifest_edits.specs.Edits.{Edit, NamedFamily, has_id, is_file, may_place, Placement, with_table, Named, AddFamily, DropFamily, AddLog, Last, GroupRecord, put_number, has_table, changed_named, has_log}
use Rattle.core_model.specs.Picture.{Job, Core, FileEntries, FamilyView, Part, Turn, is_flush}
use Rattle.st_model.specs.declared.state.ModelState.{ModelState}
use Rattle.store_image.specs.Image.{OpensAs}
use Rattle.store_image.specs.Parts.{ImageParts}
use Rattle.store_image.specs.Tie.{EngineFiles, IsUnwritten, IsTiedToImage}
use Rattle.st_base.specs.Map.{set_at, value_at}
use Rattle.core_model.specs.Relation.{Represents}
use Rattle.manifest_edits.specs.Groups.{group_of_edits}
use Rattle.core_model.specs.Commit.{Planned, committed, plan}
use Rattle.manifest_edits.specs.CallEdits.{with_files_named, commit_edits, compact_edits, is_among_files, flush_placement, flush_edits}
use Rattle.core_model.specs.RelationParts.{files_in_parts}
use Rattle.core_model.specs.Step.{noted_job, is_there, AreOutputs}
use Rattle.st_base.specs.declared.entry.Entry.{Entry}
use Rattle.store_image.specs.Steps.{is_spent, with_flush, flushed_named, without_logs, greatest_of}
use Rattle.manifest_edits.specs.Logs.{records_in, LogFound, LogOp}
use Rattle.st_model.specs.declared.change.Op.{Op}
use Rattle.st_model.specs.Apply.{op_family, op_key, op_mark}
use Rattle.st_order.specs.Columns.{Pairwise}

-- no two of these files are equal
abbrev pub FilesAllDiffer : List ℕ → Type 0
FilesAllDiffer files = Pairwise (λ one other. (one == other) ≡ false) files

-- a family that may be named behind these: its name is greater, its id and its files are new
pub record IsNextFamily (done : List (List ℕ × NamedFamily)) (family : List ℕ × NamedFamily) : Type 0 where
  pub name : Each (λ before. bytes_cmp family.0 before.0 ≡ Greater) done
  pub id : has_id family.1.id done ≡ false
  pub new : Each (λ placed. (list_any (is_file placed.file) (flat_map (λ one. one.1.tables) done) ≡ false)
      × (may_place placed ≡ true)) (reverse family.1.tables)
  pub differ : Pairwise (λ one other. (one.file == other.file) ≡ false) (reverse family.1.tables)

-- families that may be named one after the other
abbrev pub AreNextFamilies : List (List ℕ × NamedFamily) → List (List ℕ × NamedFamily) → Type 0
AreNextFamilies done [] = ⊤
AreNextFamilies done (family ∷ families) = IsNextFamily done family × AreNextFamilies (done ++ family ∷ []) families

-- whether a file stays
abbrev pub placed_stays : Job → Placement → Bool
placed_stays job placed = not (list_any (λ file. file == placed.file) job.files)

-- without the job's inputs
abbrev pub without_inputs : Job → NamedFamily → NamedFamily
without_inputs job family = record family { tables = filter (placed_stays job) family.tables }

-- the edits of a compaction: DropTable of each input, AddTable of each output
abbrev pub compacted_named : Job → List Placement → NamedFamily → NamedFamily
compacted_named job placed family =
    fold (λ family one. with_table one family) (without_inputs job family) placed

-- the image is tied to the core, and opens to the contents of the state
pub record IsImageOf (core : Core) (state : ModelState) (files : EngineFiles) (begun : List GroupRecord)
    (parts : ImageParts) (flag : Bool) : Type 0 where
  pub tied : IsTiedToImage core files begun parts
  pub opens : OpensAs flag parts state

-- the files with this named
abbrev pub files_with : EngineFiles → Named → EngineFiles
files_with files named = record files { named = named }

-- the core stands, and the image is tied to it
pub record IsEngineAt (core : Core) (state : ModelState) (files : EngineFiles) (parts : ImageParts) : Type 0 where
  pub stands : Represents core state
  -- the records of a group that is cut off; none, where the engine isn't stopped
  pub begun : List GroupRecord
  pub tied : IsTiedToImage core files begun parts

-- a family without tables, as it is named
abbrev pub new_named_family : ℕ → NamedFamily
new_named_family id = record { id = id; flushed = 0; tables = [] }

-- the edits that make a family
abbrev pub make_edits : Core → List ℕ → List Edit
make_edits core name = AddFamily core.next_family name ∷ Last core.last ∷ []

-- the records of the group that makes a family
abbrev pub make_group : (ℕ → ℕ) → Core → List ℕ → List GroupRecord
make_group at core name = group_of_edits at (make_edits core name)

-- what is named after it
abbrev pub make_named : Core → List ℕ → Named → Named
make_named core name named = record {
  families = set_at named.families name (new_named_family core.next_family);
  logs = named.logs;
  last = max named.last core.last;
}

-- the edits that drop a family
abbrev pub drop_edits : Core → ℕ → List Edit
drop_edits core id = DropFamily id ∷ Last core.last ∷ []

-- the records of the group that drops a family
abbrev pub drop_group : (ℕ → ℕ) → Core → ℕ → List GroupRecord
drop_group at core id = group_of_edits at (drop_edits core id)

-- what is named after it
abbrev pub drop_named : Core → ℕ → Named → Named
drop_named core id named = record {
  families = filter (λ family. not (family.1.id == id)) named.families;
  logs = named.logs;
  last = max named.last core.last;
}

-- the edits that add a log
abbrev pub roll_edits : Core → ℕ → List Edit
roll_edits core file = AddLog file ∷ Last core.last ∷ []

-- the records of the group that adds a log
abbrev pub roll_group : (ℕ → ℕ) → Core → ℕ → List GroupRecord
roll_group at core file = group_of_edits at (roll_edits core file)

-- what is named after it
abbrev pub roll_named : Core → ℕ → Named → Named
roll_named core file named = record {
  families = named.families;
  logs = put_number file named.logs;
  last = max named.last core.last;
}

-- the engine's files after it: the new log is written from now on
abbrev pub roll_files : Core → ℕ → EngineFiles → EngineFiles
roll_files core file files = record files {
  named = roll_named core file files.named;
  log = file;
  older_logs = files.named.logs;
}

-- what the disk holds of the core is the same
pub record HasSameDiskFields (core after : Core) : Type 0 where
  pub behind : after.behind ≡ core.behind
  pub families : after.families ≡ core.families
  pub last : after.last ≡ core.last
  pub next_family : after.next_family ≡ core.next_family

-- whatever image is tied to the core is tied to the one after it
abbrev pub Ties : Core → Core → Type 0
Ties core after = (files : EngineFiles) (begun : List GroupRecord) (parts : ImageParts)
    → IsTiedToImage core files begun parts → IsTiedToImage after files begun parts

-- the id of the family of this name
abbrev pub family_id_at : List (List ℕ × FamilyView) → List ℕ → ℕ
family_id_at cs name = unwrap_or (option_map (λ family. family.id) (value_at cs name)) 0

-- the edit of a planned file: its family's id, and where it is placed
abbrev pub planned_placement : List (List ℕ × FamilyView) → Planned → ℕ × Placement
planned_placement cs planned = (
  family_id_at cs planned.wanted.part.family,
  record {
    level = planned.level;
    file = planned.wanted.table.file;
    length = planned.wanted.table.length;
    number = planned.number;
  },
)

-- those of all planned files, in the order of the request
abbrev pub file_edits : List (List ℕ × FamilyView) → List Planned → List (ℕ × Placement)
file_edits cs [] = []
file_edits cs (planned ∷ more) =
    planned_placement cs planned ∷ file_edits cs more

-- the file is one that nothing names
pub record IsNewFile (named : Named) (table : FileEntries) : Type 0 where
  pub new : has_table named table.file ≡ false
  pub above : nat_lt 1 table.file ≡ true

-- what is named after a commit
abbrev pub committed_named : Core → List Part → List (ℕ × Placement) → Named → Named
committed_named core request edits named = record {
  families = with_files_named edits named.families;
  logs = named.logs;
  last = max named.last (committed core request).last;
}

-- the group of a commit, and what is named after it
abbrev pub commit_files : Core → List Part → List (ℕ × Placement)
commit_files core request = file_edits core.families (plan core request)

-- the records of the group of a commit
abbrev pub commit_group : (ℕ → ℕ) → Core → List Part → List GroupRecord
commit_group at core request =
    group_of_edits at (commit_edits (commit_files core request) (committed core request).last)

-- what is named after it
abbrev pub commit_named : Core → List Part → Named → Named
commit_named core request named = committed_named core request (commit_files core request) named

-- The turn's request, before its commit: nothing names its files yet.
pub record IsCommittingRequest (core : Core) (state : ModelState) (files : EngineFiles) (parts : ImageParts)
    (turn : Turn) : Type 0 where
  pub stands : Represents core state
  pub tied : IsTiedToImage core files [] parts
  pub turn_is : core.turn ≡ Some turn
  pub new : Each (IsNewFile files.named) (files_in_parts turn.parts)
  pub unwritten : Each (λ table. IsUnwritten files table.file) (files_in_parts turn.parts)

-- where the outputs are placed, and the group
abbrev pub output_placement : ℕ → FileEntries → Placement
output_placement level table = record { level = level; file = table.file; length = table.length; number = 0 }

-- where all outputs are placed
abbrev pub output_placements : ℕ → List FileEntries → List Placement
output_placements level tables = map {B = Placement} (output_placement level) tables

-- the records of the group of an installed compaction
abbrev pub compact_group : (ℕ → ℕ) → Core → Job → List FileEntries → List GroupRecord
compact_group at core job tables =
    group_of_edits at (compact_edits job.family job.files (output_placements job.level tables) core.last)

-- what is named after it
abbrev pub compact_named : Core → Job → List FileEntries → Named → Named
compact_named core job tables named = record {
  families = changed_named job.family (compacted_named job (output_placements job.level tables)) named.families;
  logs = named.logs;
  last = max named.last core.last;
}

-- A noted compaction of a family that is there, with its outputs, before it is installed: nothing names their files.
pub record IsInstallingCompaction (core : Core) (state : ModelState) (files : EngineFiles) (parts : ImageParts)
    (number : ℕ) (job : Job) (tables : List FileEntries) : Type 0 where
  pub stands : Represents core state
  pub tied : IsTiedToImage core files [] parts
  pub noted_is : noted_job core number ≡ Some job
  pub kind : IsFalse (is_flush job)
  pub there : IsTrue (is_there core job)
  pub outputs : AreOutputs core job tables
  pub new : Each (IsNewFile files.named) tables
  pub unwritten : Each (λ table. IsUnwritten files table.file) tables

-- the first of these runs
abbrev pub first_run : List (List Entry) → List Entry
first_run [] = []
first_run (run ∷ runs) = run

-- the memtable that the job flushes
abbrev pub flushed_memory : Job → List Entry
flushed_memory job = first_run job.inputs

-- the records of the group of an installed flush
abbrev pub flush_group : (ℕ → ℕ) → Core → Job → FileEntries → List ℕ → List GroupRecord
flush_group at core job output gone =
    group_of_edits at (flush_edits job.family (flush_placement output.file output.length)
    (greatest_of (flushed_memory job)) gone core.last)

-- what is named after it
abbrev pub flush_named : Core → Job → FileEntries → List ℕ → Named → Named
flush_named core job output gone named =
    flushed_named job.family (flush_placement output.file output.length) (greatest_of (flushed_memory job))
    (is_among_files gone) core.last named

-- the logs that go leave the list of logs
abbrev pub flush_files : Core → Job → FileEntries → List ℕ → EngineFiles → EngineFiles
flush_files core job output gone files = record files {
  named = flush_named core job output gone files.named;
  log = files.log;
  older_logs = without_logs (is_among_files gone) files.older_logs;
}

-- what the families name behind the group of an installed flush
abbrev pub flush_families : Job → FileEntries → Named → List (List ℕ × NamedFamily)
flush_families job output named =
    changed_named job.family (with_flush (flush_placement output.file output.length)
    (greatest_of (flushed_memory job))) named.families

-- A noted flush of a family that is there, with its output, before it is installed: nothing names the output's file,
-- and of the older logs those go of which no operation counts behind the group, and no other.
pub record IsInstallingFlush (core : Core) (state : ModelState) (files : EngineFiles) (parts : ImageParts)
    (number : ℕ) (job : Job) (output : FileEntries) (gone : List ℕ) : Type 0 where
  pub stands : Represents core state
  pub tied : IsTiedToImage core files [] parts
  pub noted_is : noted_job core number ≡ Some job
  pub kind : IsTrue (is_flush job)
  pub there : IsTrue (is_there core job)
  pub outputs : AreOutputs core job (output ∷ [])
  pub new : IsNewFile files.named output
  pub unwritten : IsUnwritten files output.file
  pub logs : Each (λ file. has_log files.named file ≡ true) gone
  pub differ : FilesAllDiffer gone
  -- the present log stays
  pub stays : is_among_files gone files.log ≡ false
  pub spent : Each (λ file. is_among_files gone file
      ≡ is_spent parts (flush_families job output files.named) file) files.older_logs

-- the last log has these operations more
pub record HasLogMore (parts other : ImageParts) (older : List ℕ) (log : ℕ) (new : List LogOp) : Type 0 where
  pub same : Each (λ file. other.log file ≡ parts.log file) older
  pub more : other.log log ≡ LogFound (records_in (parts.log log) ++ new) None

-- an operation of a write as it is logged, in a record whose gate has this place
abbrev pub log_op_of_write : ℕ → List (List ℕ × FamilyView) → ℕ → Op → LogOp
log_op_of_write at cs last op = record {
  family = family_id_at cs (op_family op);
  number = last + 1;
  key = op_key op;
  mark = op_mark op;
  at = at;
}

-- all operations of a write
abbrev pub logged_ops : ℕ → List (List ℕ × FamilyView) → ℕ → List Op → List LogOp
logged_ops at cs last [] = []
logged_ops at cs last (op ∷ ops) = log_op_of_write at cs last op ∷ logged_ops at cs (last + 1) ops

-- the family of the operation is there
abbrev pub NamesKnownFamily : List (List ℕ × FamilyView) → Op → Type 0
NamesKnownFamily cs op = (family : FamilyView) × (value_at cs (op_family op) ≡ Some family)

-- the log has one record more, and the rest is the same
pub record HasLogged (files : EngineFiles) (parts other : ImageParts) (logged : List LogOp) : Type 0 where
  pub marked : other.marked ≡ parts.marked
  pub root : other.root ≡ parts.root
  pub manifest : other.manifest files.manifest ≡ parts.manifest files.manifest
  pub log : HasLogMore parts other files.older_logs files.log logged
  pub tables : Each (λ family. Each (λ placed. other.table placed.file
      ≡ parts.table placed.file) family.1.tables) files.named.families
