-- Of `Represents` what speaks of the core alone: levels, jobs, tables.
use Rattle.std.specs.Ordering.{is_eq}
use Rattle.st_base.specs.Bytes.{bytes_cmp}
use Rattle.std.specs.Prelude.{ℕ, Bool, false, ◌≡◌, ◌<◌, IsTrue, List}
use Rattle.std.specs.List.{AllByRecursion as Each}
use Rattle.st_model.specs.declared.state.ModelState.{ModelState}
use Rattle.core_model.specs.Event.{Event, FlushPicked, FlushInstalled, CompactPicked, CompactInstalled}
use Rattle.core_model.specs.declared.reply.CoreReply.{CoreReply}
use Rattle.core_model.specs.Relation.{Represents}
use Rattle.core_model.specs.Picture.{FileEntries, Core, lowest_level, jobs_of, all_tables}
use Rattle.core_model.specs.Run.{EventDoes, IsCoreStep, Refines}
use Rattle.core_model.specs.RelationParts.{ForEach, LevelsApart, IsView, JobsRun, KeepsReads, AreNoted, NumbersWithin, ForBoth, ReadsAs, HasModelMarks, NumbersFall, HasKnownKeys}
use Rattle.core_model.specs.Step.{IsNow}
use Rattle.st_order.specs.Columns.{Pairwise}

-- levels, jobs, tables and noted jobs are as they must be
pub record IsSoundCore (core : Core) : Type 0 where
  pub apart : ForEach core LevelsApart
  pub jobs : ForEach core (λ family. JobsRun (lowest_level core) (jobs_of core family) family)
  pub kept : ForEach core (λ family. Each (KeepsReads core family) (jobs_of core family))
  pub views : ForEach core IsView
  pub files : Pairwise (λ one other. one.file ≡ other.file → ⊥) (all_tables core)
  pub noted : AreNoted core

-- no two families have one id
abbrev pub IdsDiffer : Core → Type 0
IdsDiffer core = Pairwise (λ one other. one.1.id ≡ other.1.id → ⊥) core.families

-- no two families have one name
abbrev pub NamesApart : Core → Type 0
NamesApart core = Pairwise (λ one other. is_eq (bytes_cmp other.0 one.0) ≡ false) core.families

-- an installed compaction leaves a sound core sound
abbrev pub CompactInstalledKeepsSound : Type 0
CompactInstalledKeepsSound = (core : Core) (number : ℕ) (outputs : List FileEntries) (answer : CoreReply) (after : Core)
    → IsSoundCore core → IdsDiffer core → NamesApart core
    → IsNow core (CompactInstalled number outputs) → EventDoes core (CompactInstalled number outputs) answer after
    → IsSoundCore after

-- an installed flush leaves a sound core sound
abbrev pub FlushInstalledKeepsSound : Type 0
FlushInstalledKeepsSound = (core : Core) (number : ℕ) (output : FileEntries) (answer : CoreReply) (after : Core)
    → IsSoundCore core → IdsDiffer core → NamesApart core
    → IsNow core (FlushInstalled number output) → EventDoes core (FlushInstalled number output) answer after
    → IsSoundCore after

-- each family's id was given
abbrev pub IdsGiven : Core → Type 0
IdsGiven core = ForEach core (λ family. family.id < core.next_family)

-- a picked flush leaves a sound core sound
abbrev pub FlushPickedKeepsSound : Type 0
FlushPickedKeepsSound = (core : Core) (name : List ℕ) (answer : CoreReply) (after : Core) → IsSoundCore core
    → IdsDiffer core → IdsGiven core → ForEach core (NumbersWithin core.last)
    → EventDoes core (FlushPicked name) answer after → IsSoundCore after

-- a picked compaction leaves a sound core sound
abbrev pub CompactPickedKeepsSound : Type 0
CompactPickedKeepsSound = (core : Core) (name : List ℕ) (whole : Bool) (answer : CoreReply) (after : Core)
    → IsSoundCore core → IdsDiffer core → IdsGiven core → ForEach core (NumbersWithin core.last)
    → ForEach core NumbersFall
    → EventDoes core (CompactPicked name whole) answer after → IsSoundCore after

-- ---- and whole steps

-- the fields that speak of columns
pub record HasColumns (core : Core) (state : ModelState) : Type 0 where
  pub reads : ForBoth core state (ReadsAs state)
  pub falls : ForEach core NumbersFall
  pub within : ForEach core (NumbersWithin core.last)
  pub marks : IsTrue core.behind → ForBoth core state (HasModelMarks state)
  pub known : ForBoth core state HasKnownKeys

-- an event that the model doesn't see leaves columns as they must be
abbrev pub LeavesColumns : Event → Type 0
LeavesColumns event = (core : Core) (state : ModelState) (answer : CoreReply) (after : Core) → Represents core state
    → IsNow core event → EventDoes core event answer after → HasColumns after state

-- each step by this event refines the model
abbrev pub EventRefines : Event → Type 0
EventRefines event = (core : Core) (state : ModelState) (answer : CoreReply) (after : Core) → Represents core state
    → IsCoreStep core event answer after → Refines core state event answer after

-- a core that stands for a state is sound; its families' ids differ and were given
abbrev pub RepresentsSound : Type 0
RepresentsSound = (core : Core) (state : ModelState) → Represents core state
    → IsSoundCore core × IdsDiffer core × IdsGiven core

-- picking a flush refines the model
abbrev pub FlushPickedRefines : Type 0
FlushPickedRefines = (name : List ℕ) → EventRefines (FlushPicked name)

-- picking a compaction refines the model
abbrev pub CompactPickedRefines : Type 0
CompactPickedRefines = (name : List ℕ) (whole : Bool) → EventRefines (CompactPicked name whole)

-- installing a flush refines the model
abbrev pub FlushInstalledRefines : Type 0
FlushInstalledRefines = (number : ℕ) (output : FileEntries) → LeavesColumns (FlushInstalled number output)
    → EventRefines (FlushInstalled number output)

-- installing a compaction refines the model
abbrev pub CompactInstalledRefines : Type 0
CompactInstalledRefines = (number : ℕ) (outputs : List FileEntries) → LeavesColumns (CompactInstalled number outputs)
    → EventRefines (CompactInstalled number outputs)
