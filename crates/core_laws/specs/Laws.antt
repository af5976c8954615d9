-- What the laws say beside the claims.
use Rattle.st_model.specs.State.{new_store}
use Rattle.core_model.specs.Run.{new_core, EventDoes}
use Rattle.std.specs.Prelude.{ℕ, Bool, Some, List, [], ◌∷◌, ◌≡◌, ◌<◌, ◌^◌, drop, fold, map, IsFalse, IsTrue}
use Rattle.std.specs.List.{AllByRecursion as Each}
use Rattle.st_base.specs.Rows.{AreRows}
use Rattle.st_base.specs.declared.entry.Entry.{Entry}
use Rattle.core_model.specs.Relation.{Represents}
use Rattle.core_model.specs.Event.{Event, CompactInstalled, FlushInstalled, argument_of_part}
use Rattle.core_model.specs.declared.reply.CoreReply.{CoreReply}
use Rattle.core_model.specs.Picture.{Core, FileEntries, Part, is_flush, Job, runs_of, tables_in, FamilyView}
use Rattle.st_model.specs.declared.state.ModelState.{ModelState}
use Rattle.core_model.specs.Step.{AreFresh, IsNow, first_of, noted_job}
use Rattle.core_model.specs.Commit.{commit_refusals, outline, placed_files, plan, put_planned}
use Rattle.core_model.specs.Draft.{drafted, first_of_draft, first_unfit, sure_of}
use Rattle.st_model.specs.Refusals.{sure_cause}
use Rattle.core_model.specs.RelationParts.{LevelsApart, IsView, IsSortedRun}
use Rattle.job_model.specs.ByKey.{IsByKey}
use Rattle.job_model.specs.Pick.{pick_of}
use Rattle.core_model.specs.Pick.{PickedTables, busy, pick, picked, ranged}
use Rattle.std.specs.Option.{option_map}
use Rattle.core_model.specs.WellPicked.{IsWellPicked}
use Rattle.job_model.specs.Compaction.{IsCompaction, cut_tables}
use Rattle.st_order.specs.Columns.{Pairwise}

-- a new core stands for a new store
abbrev pub NewCoreRepresents : Type 0
NewCoreRepresents = (behind : Bool) (capacity : ℕ) → Represents (new_core behind capacity) (new_store behind)

-- an event that holds has a reply and a core after it
abbrev pub EventDoesSomething : Type 0
EventDoesSomething = (core : Core) (state : ModelState) (event : Event) → Represents core state → IsNow core event
    → (answer : CoreReply) × (after : Core) × EventDoes core event answer after

-- the compaction of a noted job, cut at any target, under fresh file numbers can be installed
abbrev pub OutputsCanBeInstalled : Type 0
OutputsCanBeInstalled = (core : Core) (number : ℕ) (job : Job) (target : ℕ) (entries : List Entry)
    (outputs : List FileEntries) → noted_job core number ≡ Some job → IsFalse (is_flush job)
    → IsCompaction job.inputs job.live job.drops entries → runs_of outputs ≡ cut_tables target entries
    → AreFresh core outputs → IsNow core (CompactInstalled number outputs)

-- each noted compaction has such outputs
abbrev pub CompactionCanBeInstalled : Type 0
CompactionCanBeInstalled = (core : Core) (state : ModelState) (number : ℕ) (job : Job) (target : ℕ)
    → Represents core state → noted_job core number ≡ Some job → IsFalse (is_flush job)
    → (entries : List Entry) × IsCompaction job.inputs job.live job.drops entries
    × (outputs : List FileEntries) × (runs_of outputs ≡ cut_tables target entries)
    × IsNow core (CompactInstalled number outputs)

-- the compaction of a noted flush, as one table under a fresh file number can be installed
abbrev pub FlushOutputCanBeInstalled : Type 0
FlushOutputCanBeInstalled = (core : Core) (state : ModelState) (number : ℕ) (job : Job) (entries : List Entry)
    (file length : ℕ) → Represents core state → noted_job core number ≡ Some job → IsTrue (is_flush job)
    → IsCompaction job.inputs job.live job.drops entries
    → AreFresh core (record { file = file; length = length; entries = entries } ∷ [])
    → IsNow core (FlushInstalled number (record { file = file; length = length; entries = entries }))

-- each noted flush has such an output
abbrev pub FlushCanBeInstalled : Type 0
FlushCanBeInstalled = (core : Core) (state : ModelState) (number : ℕ) (job : Job) → Represents core state
    → noted_job core number ≡ Some job → IsTrue (is_flush job)
    → (output : FileEntries) × IsCompaction job.inputs job.live job.drops output.entries
    × IsNow core (FlushInstalled number output)

-- what is picked is in place, near, clear and free
abbrev pub PickedIsWellPicked : Type 0
PickedIsWellPicked = (core : Core) (family : FamilyView) (whole : Bool) (chosen : PickedTables) → IsView family
    → LevelsApart family → Pairwise (λ one other. one.file ≡ other.file → ⊥) (tables_in family.levels)
    → picked core family whole ≡ Some chosen → IsWellPicked core family chosen

-- rows are a sorted run
abbrev pub RowsAreSorted : Type 0
RowsAreSorted = (entries : List Entry) → AreRows entries → IsSortedRun entries

-- a sorted run whose numbers have 64 bits is rows
abbrev pub SortedAreRows : Type 0
SortedAreRows = (entries : List Entry) → IsSortedRun entries → Each (λ entry. entry.number < 2 ^ 64) entries
    → AreRows entries

-- picking looks at the file, the range and the charge of each table alone
abbrev pub PickingSeesRanges : Type 0
PickingSeesRanges = (running : List Job) (lowest_level : ℕ) (family : FamilyView)
    → pick_of (λ table. table) (map busy running) lowest_level (map (λ tables. map ranged tables) family.levels)
    ≡ option_map (λ chosen. (chosen.level, map ranged chosen.inputs)) (pick running lowest_level family)

-- a request drafted file by file is its plan: the core with the files, and where each went
abbrev pub RequestIsDrafted : Type 0
RequestIsDrafted = (core : Core) (parts : List Part)
    → ((drafted core parts).core ≡ fold put_planned core (plan core parts))
    × ((drafted core parts).files ≡ placed_files (plan core parts))

-- and its first refusal is the first of six tests, of which no other looks at a plan
abbrev pub DraftIsRefused : Type 0
DraftIsRefused = (core : Core) (parts : List Part) → core.charge < 2 ^ 64
    → first_of (commit_refusals core parts) ≡ first_of_draft (first_unfit core 1 parts) core (drafted core parts)

-- why the files of an argument are numbered doesn't depend on its place
abbrev pub SureIsOfPart : Type 0
SureIsOfPart = (core : Core) (a : ℕ) (part : Part)
    → sure_cause (outline core) (argument_of_part a part) ≡ sure_of core part

-- the tables of each level from 1 on, as runs, stand by key: what a search by halves over them asks
abbrev pub LevelsStandByKey : Type 0
LevelsStandByKey = (family : FamilyView) → IsView family → LevelsApart family
    → Each IsByKey (map (λ tables. runs_of tables) (drop 1 family.levels))
