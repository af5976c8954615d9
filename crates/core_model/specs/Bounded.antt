-- The sizes of a core: numbers, ids, snapshots and memtables within their limits; and the capacity, which stays.
use Rattle.std.specs.Prelude.{ℕ, Bool, ◌≡◌, ◌<◌, ◌≤◌, length, List}
use Rattle.std.specs.List.{AllByRecursion as Each}
use Rattle.st_base.specs.declared.entry.Entry.{Entry}
use Rattle.st_model.specs.State.{greatest_number, last_family_id, most_snapshots}
use Rattle.st_model.specs.declared.state.ModelState.{ModelState}
use Rattle.core_model.specs.Crash.{IsCrashed}
use Rattle.core_model.specs.Event.{Event}
use Rattle.core_model.specs.declared.reply.CoreReply.{CoreReply}
use Rattle.core_model.specs.Picture.{FamilyView, Core, charge_of, memories}
use Rattle.core_model.specs.Relation.{Represents}
use Rattle.core_model.specs.RelationParts.{ForEach}
use Rattle.core_model.specs.Run.{IsCoreStep, new_core}

-- A memtable's charge stays below this: no write is taken from 4,194,304 on, and one has at most 1,000 operations with
-- 2,097,152 bytes.
abbrev pub sealed_charge : ℕ
sealed_charge = 6323456

-- the memtable is within its limit
abbrev pub IsSmallMemory : List Entry → Type 0
IsSmallMemory entries = charge_of entries < sealed_charge

-- each memtable of the family is within its limit
abbrev pub HasSmallMemories : FamilyView → Type 0
HasSmallMemories family = Each IsSmallMemory (memories family)

-- numbers, ids, snapshots and memtables are within their limits
pub record IsBounded (core : Core) : Type 0 where
  pub place : core.place ≤ greatest_number
  pub last : core.last ≤ greatest_number
  pub next_family : core.next_family ≤ last_family_id
  pub live : length core.live ≤ most_snapshots
  pub small : ForEach core HasSmallMemories

-- each event keeps it
abbrev pub StepKeepsBounds : Type 0
StepKeepsBounds = (core : Core) (state : ModelState) (event : Event) (answer : CoreReply) (after : Core)
    → Represents core state → IsBounded core → IsCoreStep core event answer after → IsBounded after

-- a new core has it
abbrev pub NewCoreIsBounded : Type 0
NewCoreIsBounded = (behind : Bool) (capacity : ℕ) → IsBounded (new_core behind capacity)

-- a crash ends in it, also of a core with greater memtables, as an opening reads it
abbrev pub CrashEndsBounded : Type 0
CrashEndsBounded = (core : Core) (state : ModelState) (first : ℕ) (after : Core) → Represents core state
    → core.last ≤ greatest_number → core.next_family ≤ last_family_id → IsCrashed first core after → IsBounded after

-- the capacity stays with each event
abbrev pub StepKeepsCapacity : Type 0
StepKeepsCapacity = (core : Core) (event : Event) (answer : CoreReply) (after : Core)
    → IsCoreStep core event answer after → after.capacity ≡ core.capacity
