-- One step of the core: for each event, when it holds and what it does. An event that doesn't hold is answered NotNow.
use Rattle.std.specs.Prelude.{ℕ, Bool, false, ◌||◌, not, ◌==◌, ◌≡◌, ◌≤◌, ◌<◌, ◌+◌, nat_le, IsTrue, IsFalse, length, List, [], ◌∷◌, ◌++◌, filter, find, flat_map, sum_by, if◌then◌else◌, Option, Some, None, IsSomeAnd, is_some, unwrap_or}
use Rattle.std.specs.Option.{option_map, option_and_then}
use Rattle.std.specs.List.{list_any, AllByRecursion as Each}
use Rattle.st_base.specs.Entries.{mark_length, add_charge}
use Rattle.st_base.specs.Map.{value_at, set_at, without, changed_at}
use Rattle.st_base.specs.Order.{comes_before}
use Rattle.st_base.specs.declared.entry.Entry.{Entry}
use Rattle.st_model.specs.declared.change.Batch.{Batch}
use Rattle.st_model.specs.declared.change.Op.{Op}
use Rattle.st_model.specs.declared.refusal.Refusal.{Refusal}
use Rattle.st_model.specs.Answer.{is_live}
use Rattle.st_model.specs.Apply.{op_family, op_key, op_mark, op_entry, write_charge}
use Rattle.st_base.specs.Range.{entries_charge, meet}
use Rattle.core_model.specs.Commit.{outline, comes_behind, memory_key}
use Rattle.core_model.specs.Event.{Event, Write, Snap, Release, MakeFamily, DropFamily, Seal, FlushPicked, FlushInstalled, CompactPicked, CompactInstalled, JobGivenUp, TurnTaken, IngestCommitted, TurnReturned, Crashed}
use Rattle.core_model.specs.declared.reply.CoreReply.{CoreReply}
use Rattle.core_model.specs.declared.reply.CoreReply.TheVariants.{Done, JobPicked, FamilyGone, Refused}
use Rattle.core_model.specs.Pick.{picked, compaction_of, flush_of, with_job}
use Rattle.core_model.specs.Picture.{FileEntries, FamilyView, Job, Part, Core, level_at, memories, table_range, new_view, is_flush, jobs_of, all_tables}
use Rattle.core_model.specs.Request.{IsRequest}
use Rattle.core_model.specs.RelationParts.{files_in_parts, FitsSizes}
use Rattle.st_order.specs.Columns.{Pairwise}
use Rattle.job_model.specs.Compaction.{IsCompaction}

-- ---- writes

-- an entry among those of a memtable, in entry order
abbrev pub put_in_memory : Entry → List Entry → List Entry
put_in_memory entry [] = entry ∷ []
put_in_memory entry (other ∷ others) =
    if comes_before entry other then entry ∷ other ∷ others else other ∷ put_in_memory entry others

-- a family with one entry more in its memtable
abbrev pub with_memory_entry : Entry → FamilyView → FamilyView
with_memory_entry entry family = record family { mem = put_in_memory entry family.mem }

-- the families after the operations of a write, which take the next numbers
abbrev pub with_operations : ℕ → List Op → List (List ℕ × FamilyView) → List (List ℕ × FamilyView)
with_operations last [] families = families
with_operations last (op ∷ ops) families =
    with_operations (last + 1) ops (changed_at families (op_family op) (with_memory_entry (op_entry (last + 1) op)))

-- the core after an accepted write
abbrev pub with_batch : Core → Batch → Core
with_batch core batch = record core {
  place = core.place + 1;
  last = core.last + length batch.ops;
  charge = add_charge core.charge (write_charge batch.ops);
  families = with_operations core.last batch.ops core.families;
}

-- the limits of a write
pub record IsWriteWithinLimits (ops : List Op) : Type 0 where
  pub some : 1 ≤ length ops
  pub count : length ops ≤ 1000
  pub size : sum_by (λ op. length (op_key op) + mark_length (op_mark op)) ops ≤ 2097152
  -- what the types of a key and a value keep
  pub fits : Each (λ op. FitsSizes (op_entry 0 op)) ops

-- a memtable at its limit, 4 sealed ones, or 20 tables in level 0; charges are counted as far as 64 bits hold them
abbrev pub is_due : FamilyView → Bool
is_due family =
    nat_le 4194304 (entries_charge family.mem) || nat_le 4 (length family.sealed)
    || nat_le 20 (length (level_at family 0))

-- whether the family of this name has work that comes first
abbrev pub is_due_at : Core → List ℕ → Bool
is_due_at core name = unwrap_or (option_map is_due (value_at core.families name)) false

-- whether a family that the write names has work that comes first
abbrev pub is_work_first : Core → List Op → Bool
is_work_first core ops = list_any (λ op. is_due_at core (op_family op)) ops

-- ---- jobs

-- the last element of the list
abbrev pub last_element : {X : Type 0} → List X → Option X
last_element [] = None
last_element (x ∷ []) = Some x
last_element (x ∷ y ∷ xs) = last_element (y ∷ xs)

-- whether a flush of the family is noted
abbrev pub has_flush : Core → FamilyView → Bool
has_flush core family = list_any is_flush (jobs_of core family)

-- the oldest sealed memtable, where no job has it
abbrev pub free_oldest : Core → FamilyView → Option (List Entry)
free_oldest core family = if has_flush core family then None else last_element family.sealed

-- the job that picking gives
abbrev pub flush_job : Core → List ℕ → Option Job
flush_job core name =
    option_and_then (λ family. option_map (flush_of core family) (free_oldest core family))
    (value_at core.families name)

-- the job that picking a compaction gives
abbrev pub compact_job : Core → List ℕ → Bool → Option Job
compact_job core name whole =
    option_and_then (λ family. option_map (compaction_of core family) (picked core family whole))
    (value_at core.families name)

-- the noted job of this number
abbrev pub noted_job : Core → ℕ → Option Job
noted_job core number = find (λ job. job.number == number) core.jobs

-- the jobs without the one of this number
abbrev pub without_job : ℕ → List Job → List Job
without_job number jobs = filter (λ job. not (job.number == number)) jobs

-- the job's family with its name, where it is still there
abbrev pub family_of_job : Core → Job → Option (List ℕ × FamilyView)
family_of_job core job = find (λ named. named.1.id == job.family) core.families

-- the families with the one that was found changed, at its name
abbrev pub changed_found : Option (List ℕ × FamilyView) → (FamilyView → FamilyView) → List (List ℕ × FamilyView)
    → List (List ℕ × FamilyView)
changed_found None change families = families
changed_found (Some named) change families = changed_at families named.0 change

-- whether the job's family is still there
abbrev pub is_there : Core → Job → Bool
is_there core job = list_any (λ named. named.1.id == job.family) core.families

-- the core with the job's family changed, and the job forgotten
abbrev pub installed : Core → Job → (FamilyView → FamilyView) → Core
installed core job change = record core {
  families = changed_found (family_of_job core job) change core.families;
  jobs = without_job job.number core.jobs;
}

-- the files of the turn that is out
abbrev pub turn_files : Core → List FileEntries
turn_files core = unwrap_or (option_map (λ turn. files_in_parts turn.parts) core.turn) []

-- the two tables have different file numbers
abbrev pub HaveOtherFiles : FileEntries → FileEntries → Type 0
HaveOtherFiles one other = one.file ≡ other.file → ⊥

-- Of new tables: their file numbers differ, and none is the turn's or in place. Nothing is said of the tables that were
-- there.
pub record AreFresh (core : Core) (tables : List FileEntries) : Type 0 where
  pub differ : Pairwise HaveOtherFiles tables
  pub turn : Each (λ table. Each (HaveOtherFiles table) (turn_files core)) tables
  pub placed : Each (λ table. Each (HaveOtherFiles table) (all_tables core)) tables

-- the entries of all these tables
abbrev pub joined_entries : List FileEntries → List Entry
joined_entries tables = flat_map (λ table. table.entries) tables

-- outputs of a job: joined they are its compaction, each has an entry, no two meet, file numbers are fresh
pub record AreOutputs (core : Core) (job : Job) (tables : List FileEntries) : Type 0 where
  pub joined : IsCompaction job.inputs job.live job.drops (joined_entries tables)
  pub some : Each (λ table. 1 ≤ length table.entries) tables
  pub apart : Pairwise (λ one other. IsFalse (meet (table_range one) (table_range other))) tables
  pub fresh : AreFresh core tables

-- ---- when an event holds

-- no turn is out
abbrev pub NoTurn : Core → Type 0
NoTurn core = core.turn ≡ None

-- no memtable has an entry in the range of one of the part's files, unless it is taken in behind
abbrev pub IsFlushed : Core → Part → Type 0
IsFlushed core part = IsFalse (comes_behind part) → Each (λ table. memory_key core part table ≡ None) part.files

-- so it is of each part
abbrev pub IsFlushedFor : Core → List Part → Type 0
IsFlushedFor core parts = Each (IsFlushed core) parts

-- the families whose memtables have entries get one table each; how many these are
abbrev pub has_memory : List ℕ × FamilyView → Bool
has_memory named = list_any (λ entries. nat_le 1 (length entries)) (memories named.1)

-- all file numbers in place are below this one
abbrev pub AreFilesBelow : Core → ℕ → Type 0
AreFilesBelow core first = Each (λ table. table.file < first) (all_tables core)

-- the event holds: its condition is met
abbrev pub IsNow : Core → Event → Type 0
IsNow core (Write batch) = NoTurn core × IsWriteWithinLimits batch.ops × IsFalse (is_work_first core batch.ops)
IsNow core Snap = NoTurn core
IsNow core (Release id) = NoTurn core × IsTrue (is_live (outline core) id)
IsNow core (MakeFamily name) = NoTurn core
IsNow core (DropFamily name) = NoTurn core
IsNow core (Seal name) = IsSomeAnd (value_at core.families name) (λ family. 1 ≤ length family.mem)
IsNow core (FlushPicked name) = IsTrue (is_some (flush_job core name))
IsNow core (CompactPicked name whole) = IsTrue (is_some (compact_job core name whole))
IsNow core (FlushInstalled number output) =
    IsSomeAnd (noted_job core number) (λ job. IsTrue (is_flush job) × AreOutputs core job (output ∷ []))
IsNow core (CompactInstalled number outputs) =
    IsSomeAnd (noted_job core number) (λ job. IsFalse (is_flush job) × AreOutputs core job outputs)
IsNow core (JobGivenUp number) = IsTrue (is_some (noted_job core number))
IsNow core (TurnTaken parts) = NoTurn core × IsRequest parts × AreFresh core (files_in_parts parts)
IsNow core IngestCommitted = IsSomeAnd core.turn (λ turn. IsFlushedFor core turn.parts)
IsNow core TurnReturned = IsTrue (is_some core.turn)
IsNow core (Crashed first) =
    AreFilesBelow core first × (first + length (filter has_memory core.families) ≤ 18446744073709551615)

-- ---- what it does

-- the first of these
abbrev pub first_of : {X : Type 0} → List X → Option X
first_of [] = None
first_of (x ∷ xs) = Some x

-- a refusal, which changes nothing, or where there is none this answer and core
abbrev pub RefusedBy : Option Refusal → Core → Core → CoreReply → CoreReply → Core → Type 0
RefusedBy None refused done reply answer after = (answer ≡ reply) × (after ≡ done)
RefusedBy (Some refusal) refused done reply answer after = (answer ≡ Refused refusal) × (after ≡ refused)

-- the first refusal decides: the others aren't looked at
abbrev pub RefusedOr : List Refusal → Core → Core → CoreReply → CoreReply → Core → Type 0
RefusedOr refusals refused done reply answer after = RefusedBy (first_of refusals) refused done reply answer after

-- the core after a snapshot
abbrev pub with_snapshot : Core → Core
with_snapshot core = record core {
  place = core.place + 1;
  live = core.live ++ record { id = core.place + 1; number = core.last } ∷ [];
}

-- the core after the release of a snapshot
abbrev pub without_snapshot : Core → ℕ → Core
without_snapshot core id = record core { place = core.place + 1; live = filter (λ live. not (live.id == id)) core.live }

-- the core after a family was made
abbrev pub with_family : Core → List ℕ → Core
with_family core name = record core {
  place = core.place + 1;
  families = set_at core.families name (new_view core.next_family);
  next_family = core.next_family + 1;
}

-- the core after a family was dropped
abbrev pub without_family : Core → List ℕ → Core
without_family core name = record core { place = core.place + 1; families = without core.families name }

-- the core after a memtable was sealed
abbrev pub with_sealed : Core → List ℕ → Core
with_sealed core name = record core {
  families = changed_at core.families name (λ family. record family { mem = []; sealed = family.mem ∷ family.sealed });
}

-- a job was picked and is noted; with none the event doesn't hold
abbrev pub Notes : Core → Option Job → CoreReply → Core → Type 0
Notes core None answer after = ⊥
Notes core (Some job) answer after = (answer ≡ JobPicked job.number) × (after ≡ with_job core job)

-- a job of a family that is gone changes nothing but that it is forgotten
abbrev pub Installs : Core → Job → (FamilyView → FamilyView) → CoreReply → Core → Type 0
Installs core job change answer after =
    (answer ≡ (if is_there core job then Done else FamilyGone)) × (after ≡ installed core job change)

-- the core with its turn out
abbrev pub with_turn : Core → List Part → Core
with_turn core parts = record core { turn = Some (record { place = core.place; parts = parts }) }

-- the core with no turn out
abbrev pub without_turn : Core → Core
without_turn core = record core { turn = None }
