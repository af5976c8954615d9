-- Steps and runs of the core, and the claim over every list of events.
use Rattle.std.specs.Prelude.{ℕ, Bool, true, false, ◌≡◌, ◌<◌, ◌≤◌, IsFalse, ◌⊎◌, length, List, [], ◌∷◌, ◌++◌, map, if◌then◌else◌, Option, Some, None, IsSomeAnd, ⊤, ◌+◌}
use Rattle.std.specs.Option.{option_map}
use Rattle.st_base.specs.Bytes.{default_family}
use Rattle.st_model.specs.declared.change.Change.{Change}
use Rattle.st_model.specs.declared.change.Change.TheVariants as change
use Rattle.st_model.specs.declared.reply.Placed.{Placed}
use Rattle.st_model.specs.declared.refusal.Refusal.{Refusal}
use Rattle.st_model.specs.declared.state.ModelState.{ModelState}
use Rattle.st_model.specs.Apply.{apply}
use Rattle.st_model.specs.Answer.{write_refusals, snap_refusals, place_spent, make_refusals, drop_refusals, unknown_families}
use Rattle.st_model.specs.Contents.{contents, opened}
use Rattle.st_model.specs.Placing.{ArePlaced, last_number_after}
use Rattle.st_model.specs.Refusals.{MayRefuse, IsFirstRefusal, shape_refusals, meeting_refusals, behind_refusals, exact_refusals, sure_refusals, is_full}
use Rattle.st_model.specs.State.{greatest_number, new_store}
use Rattle.core_model.specs.Commit.{outline, turn_refusals, commit_refusals, committed, plan, placed_files, files_taken}
use Rattle.core_model.specs.Compaction.{with_flushed, with_compacted}
use Rattle.core_model.specs.Crash.{IsCrashed, known_keys}
use Rattle.core_model.specs.Event.{request_of_parts, Event, Write, Snap, Release, MakeFamily, DropFamily, Seal, FlushPicked, FlushInstalled, CompactPicked, CompactInstalled, JobGivenUp, TurnTaken, IngestCommitted, TurnReturned, Crashed}
use Rattle.core_model.specs.declared.reply.CoreReply.{CoreReply}
use Rattle.core_model.specs.declared.reply.CoreReply.TheVariants.{BatchWritten, SnapshotTaken, At, Done, JobPicked, FamilyGone, TurnGiven, Received, NotNow, Refused}
use Rattle.core_model.specs.Relation.{Represents}
use Rattle.core_model.specs.Picture.{Part, Core, new_view}
use Rattle.core_model.specs.Step.{IsNow, RefusedOr, Notes, Installs, with_batch, with_snapshot, without_snapshot, with_family, without_family, with_sealed, with_turn, without_turn, flush_job, compact_job, noted_job, without_job}

-- what an event that holds does
abbrev pub EventDoes : Core → Event → CoreReply → Core → Type 0
EventDoes core (Write batch) answer after =
    RefusedOr (write_refusals (outline core) core.capacity batch.ops) core (with_batch core batch)
    (BatchWritten (core.place + 1) (core.last + 1) (core.last + length batch.ops)) answer after
EventDoes core Snap answer after =
    RefusedOr (snap_refusals (outline core)) core (with_snapshot core)
    (SnapshotTaken (core.place + 1) (core.place + 1) core.last) answer after
EventDoes core (Release id) answer after =
    RefusedOr (place_spent (outline core)) core (without_snapshot core id) (At (core.place + 1)) answer after
EventDoes core (MakeFamily name) answer after =
    RefusedOr (make_refusals (outline core) name) core (with_family core name) (At (core.place + 1)) answer after
EventDoes core (DropFamily name) answer after =
    RefusedOr (drop_refusals (outline core) name) core (without_family core name) (At (core.place + 1)) answer after
EventDoes core (Seal name) answer after = (answer ≡ Done) × (after ≡ with_sealed core name)
EventDoes core (FlushPicked name) answer after = Notes core (flush_job core name) answer after
EventDoes core (CompactPicked name whole) answer after = Notes core (compact_job core name whole) answer after
EventDoes core (FlushInstalled number output) answer after =
    IsSomeAnd (noted_job core number) (λ job. Installs core job (with_flushed output) answer after)
EventDoes core (CompactInstalled number outputs) answer after =
    IsSomeAnd (noted_job core number) (λ job. Installs core job (with_compacted job outputs) answer after)
EventDoes core (JobGivenUp number) answer after =
    (answer ≡ Done) × (after ≡ record core { jobs = without_job number core.jobs })
EventDoes core (TurnTaken parts) answer after =
    RefusedOr (turn_refusals core parts) core (with_turn core parts) TurnGiven answer after
EventDoes core IngestCommitted answer after =
    IsSomeAnd core.turn (λ turn.
    RefusedOr (commit_refusals core turn.parts) (without_turn core) (committed core turn.parts)
    (Received (core.place + 1) (placed_files (plan core turn.parts))) answer after)
EventDoes core TurnReturned answer after = (answer ≡ Done) × (after ≡ without_turn core)
EventDoes core (Crashed first) answer after = (answer ≡ Done) × IsCrashed first core after

-- the event holds and does its work, or it doesn't hold and changes nothing
abbrev pub IsCoreStep : Core → Event → CoreReply → Core → Type 0
IsCoreStep core event answer after =
    (IsNow core event × EventDoes core event answer after)
    ⊎ ((IsNow core event → ⊥) × (answer ≡ NotNow) × (after ≡ core))

-- ---- the model beside it

-- whether the answer refuses, or the event doesn't hold: then nothing of the model changes
abbrev pub accepts : CoreReply → Bool
accepts (BatchWritten place first last) = true
accepts (SnapshotTaken place id number) = true
accepts (At place) = true
accepts Done = true
accepts (JobPicked job) = true
accepts FamilyGone = true
accepts TurnGiven = true
accepts (Received place files) = true
accepts NotNow = false
accepts (Refused refusal) = false

-- the change of an event that is accepted, if it has one
abbrev pub change_of_event : Core → Event → Option Change
change_of_event core (Write batch) = Some (change.Write batch)
change_of_event core Snap = Some change.Snap
change_of_event core (Release id) = Some (change.Release id)
change_of_event core (MakeFamily name) = Some (change.Make name)
change_of_event core (DropFamily name) = Some (change.Drop name)
change_of_event core (Seal name) = None
change_of_event core (FlushPicked name) = None
change_of_event core (FlushInstalled number output) = None
change_of_event core (CompactPicked name whole) = None
change_of_event core (CompactInstalled number outputs) = None
change_of_event core (JobGivenUp number) = None
change_of_event core (TurnTaken parts) = None
change_of_event core IngestCommitted = option_map (λ turn. change.Ingest (files_taken (plan core turn.parts))) core.turn
change_of_event core TurnReturned = None
change_of_event core (Crashed first) = None

-- the model's state after a change, if there is one
abbrev pub applied : ModelState → Option Change → ModelState
applied state None = state
applied state (Some change) = apply state change

-- the state after an accepted event
abbrev pub state_after_event : Core → ModelState → Event → ModelState
state_after_event core state (Crashed first) = opened (contents state) (known_keys core)
state_after_event core state event = applied state (change_of_event core event)

-- the model's state after an event that was answered so
abbrev pub next_state : Core → ModelState → Event → CoreReply → ModelState
next_state core state event answer = if accepts answer then state_after_event core state event else state

-- ---- the model's answers

-- an accepted request: no refusal holds, numbers, places and capacity suffice, and the files are placed as they may be
pub record IsReceived (state : ModelState) (capacity : ℕ) (parts : List Part) (place : ℕ)
    (files : List Placed) : Type 0 where
  pub unrefused : exact_refusals state (request_of_parts parts) ≡ []
  pub fits : IsFalse (is_full state capacity (request_of_parts parts))
  pub next : place ≡ state.place + 1
  pub places : state.place < greatest_number
  pub numbers : last_number_after state.last files ≤ greatest_number
  pub placed : ArePlaced state state.last (request_of_parts parts) files

-- a request that got the turn: its own tests pass, its families are there, and files may be taken in behind where it
-- asks for it
pub record IsAllowedTurn (state : ModelState) (parts : List Part) : Type 0 where
  pub shape : shape_refusals (request_of_parts parts) ≡ []
  pub meeting : meeting_refusals (request_of_parts parts) ≡ []
  pub families : unknown_families state (map (λ part. part.family) parts) ≡ []
  pub behind : behind_refusals state (request_of_parts parts) ≡ []

-- an answer of a request at the state: the turn, a refusal that may come, or places that files may get
abbrev pub IsRequestAnswer : ModelState → ℕ → List Part → CoreReply → Type 0
IsRequestAnswer state capacity parts TurnGiven = IsAllowedTurn state parts
IsRequestAnswer state capacity parts (Refused refusal) =
    MayRefuse state capacity (request_of_parts parts) refusal
    × IsFirstRefusal (exact_refusals state (request_of_parts parts) ++ sure_refusals state (request_of_parts parts))
    refusal
IsRequestAnswer state capacity parts (Received place files) = IsReceived state capacity parts place files
IsRequestAnswer state capacity parts other = ⊥

-- the first refusal that holds, or else this answer
abbrev pub answer_or : List Refusal → CoreReply → CoreReply
answer_or [] answer = answer
answer_or (refusal ∷ refusals) answer = Refused refusal

-- what the model says of the answer to an event that holds
abbrev pub IsModelAnswer : Core → ModelState → Event → CoreReply → Type 0
IsModelAnswer core state (Write batch) answer =
    answer ≡ answer_or (write_refusals state core.capacity batch.ops)
    (BatchWritten (state.place + 1) (state.last + 1) (state.last + length batch.ops))
IsModelAnswer core state Snap answer =
    answer ≡ answer_or (snap_refusals state) (SnapshotTaken (state.place + 1) (state.place + 1) state.last)
IsModelAnswer core state (Release id) answer = answer ≡ answer_or (place_spent state) (At (state.place + 1))
IsModelAnswer core state (MakeFamily name) answer = answer ≡ answer_or (make_refusals state name) (At (state.place + 1))
IsModelAnswer core state (DropFamily name) answer = answer ≡ answer_or (drop_refusals state name) (At (state.place + 1))
IsModelAnswer core state (TurnTaken parts) answer = IsRequestAnswer state core.capacity parts answer
IsModelAnswer core state IngestCommitted answer =
    IsSomeAnd core.turn (λ turn. IsRequestAnswer state core.capacity turn.parts answer)
IsModelAnswer core state other answer = ⊤

-- ---- runs

-- one event after the other, with their answers
abbrev pub IsCoreRun : Core → List Event → List CoreReply → Core → Type 0
IsCoreRun core [] [] after = after ≡ core
IsCoreRun core [] (answer ∷ answers) after = ⊥
IsCoreRun core (event ∷ events) [] after = ⊥
IsCoreRun core (event ∷ events) (answer ∷ answers) after = (next : Core) × IsCoreStep core event answer next
    × IsCoreRun next events answers after

-- the core of a new store
abbrev pub new_core : Bool → ℕ → Core
new_core behind capacity = record {
  behind = behind;
  capacity = capacity;
  place = 0;
  last = 0;
  charge = 0;
  families = (default_family, new_view 0) ∷ [];
  next_family = 1;
  live = [];
  jobs = [];
  jobs_made = 0;
  turn = None;
}

-- a step of the core is one of the model, and the core stands for the state after it
pub record Refines (core : Core) (state : ModelState) (event : Event) (answer : CoreReply) (after : Core) : Type 0 where
  pub answer_of : IsNow core event → IsModelAnswer core state event answer
  pub stands : Represents after (next_state core state event answer)

-- each step of the core refines the model
abbrev pub StepRefines : Type 0
StepRefines = (core : Core) (state : ModelState) (event : Event) (answer : CoreReply) (after : Core)
    → Represents core state → IsCoreStep core event answer after → Refines core state event answer after

-- A run beside the model's, at one capacity. The last state is what the accepted events make of the first, one after the
-- other: a change applies, a crash opens the contents anew, and all else leaves the state.
abbrev pub RunsBeside : Core → ModelState → List Event → List CoreReply → Core → ModelState → Type 0
RunsBeside core state [] [] after last = Represents core state × (after ≡ core) × (last ≡ state)
RunsBeside core state [] (answer ∷ answers) after last = ⊥
RunsBeside core state (event ∷ events) [] after last = ⊥
RunsBeside core state (event ∷ events) (answer ∷ answers) after last =
    (next : Core) × Represents core state × IsCoreStep core event answer next × (next.capacity ≡ core.capacity)
    × (IsNow core event → IsModelAnswer core state event answer)
    × RunsBeside next (next_state core state event answer) events answers after last

-- for every list of events: the core after it stands for the last state
abbrev pub EveryRunRefines : Type 0
EveryRunRefines = (behind : Bool) (capacity : ℕ) (events : List Event) (answers : List CoreReply) (after : Core)
    → IsCoreRun (new_core behind capacity) events answers after
    → (last : ModelState) × RunsBeside (new_core behind capacity) (new_store behind) events answers after last
    × Represents after last
