-- A request under way: the files that are left to place, in the core as it is so far.
use Rattle.std.specs.Prelude.{◌≡◌, IsTrue, IsFalse, List, [], ◌∷◌, ◌++◌, map, filter_map, Some, None, is_some}
use Rattle.std.specs.List.{AllByRecursion as Each}
use Rattle.st_base.specs.Map.{value_at}
use Rattle.st_model.specs.declared.change.Change.TheVariants.{Ingest}
use Rattle.st_model.specs.declared.refusal.Refusal.{Refusal}
use Rattle.st_model.specs.declared.state.ModelState.{ModelState}
use Rattle.st_model.specs.Apply.{apply, apply_file}
use Rattle.st_base.specs.Range.{meet}
use Rattle.st_model.specs.Refusals.{MayRefuse, first_refused}
use Rattle.core_model.specs.Commit.{RequestFile, comes_behind, memory_key, family_at, request_files, plan_file, put_planned, taken_in_plan, plan, files_taken, behind_fit_refusal, number_refusal, level_refusal, commit_refusals, committed}
use Rattle.core_model.specs.Event.{IngestCommitted, request_of_parts}
use Rattle.core_model.specs.declared.reply.CoreReply.{CoreReply}
use Rattle.core_model.specs.Relation.{Represents}
use Rattle.core_model.specs.Level.{is_free_level}
use Rattle.core_model.specs.Picture.{FileEntries, Turn, Core, lowest_level, level_at, table_range, all_tables}
use Rattle.core_model.specs.Request.{IsStagedTable}
use Rattle.core_model.specs.Run.{EventDoes, Refines}
use Rattle.core_model.specs.Step.{HaveOtherFiles, IsNow, IsFlushedFor}
use Rattle.st_order.specs.Columns.{Pairwise}

-- a file that may be placed next
pub record IsReadyToPlace (core : Core) (wanted : RequestFile) : Type 0 where
  pub there : IsTrue (is_some (value_at core.families wanted.part.family))
  pub staged : IsStagedTable wanted.table
  pub memory : IsFalse (comes_behind wanted.part) → memory_key core wanted.part wanted.table ≡ None
  pub flag : IsTrue (comes_behind wanted.part) → IsTrue core.behind
  pub fits : IsTrue (comes_behind wanted.part)
      → IsTrue (is_free_level (table_range wanted.table) (level_at (family_at core wanted.part.family) 6))

-- files of one family are of one kind, and those behind don't meet
pub record GoTogether (one other : RequestFile) : Type 0 where
  pub kind : one.part.family ≡ other.part.family → comes_behind one.part ≡ comes_behind other.part
  pub apart : one.part.family ≡ other.part.family → IsTrue (comes_behind one.part)
      → IsFalse (meet (table_range one.table) (table_range other.table))

-- the tables of the files that are left to place
abbrev pub files_left : List RequestFile → List FileEntries
files_left request_files = map (λ wanted. wanted.table) request_files

-- the core stands for the state, no turn is out, and the files that are left are fresh, ready and go together
pub record IsUnderway (core : Core) (state : ModelState) (rest : List RequestFile) : Type 0 where
  pub stands : Represents core state
  pub turn : core.turn ≡ None
  pub fresh : Pairwise HaveOtherFiles (files_left rest ++ all_tables core)
  pub ready : Each (IsReadyToPlace core) rest
  pub together : Pairwise GoTogether rest

-- one file more
abbrev pub FileKeepsUnderway : Type 0
FileKeepsUnderway = (core : Core) (state : ModelState) (wanted : RequestFile) (rest : List RequestFile)
    → IsUnderway core state (wanted ∷ rest)
    → IsUnderway (put_planned core (plan_file core wanted))
    (apply_file state (taken_in_plan (plan_file core wanted))) rest

-- where a commit begins, and where it ends
abbrev pub CommitBegins : Type 0
CommitBegins = (core : Core) (state : ModelState) (turn : Turn) → Represents core state → core.turn ≡ Some turn
    → IsFlushedFor core turn.parts → commit_refusals core turn.parts ≡ []
    → IsUnderway (record core { turn = None }) state (request_files core turn.parts)

-- a commit that nothing refuses leaves a core that stands for the state with the whole request
abbrev pub CommitStands : Type 0
CommitStands = (core : Core) (state : ModelState) (turn : Turn) → Represents core state → core.turn ≡ Some turn
    → IsFlushedFor core turn.parts → commit_refusals core turn.parts ≡ []
    → Represents (committed core turn.parts) (apply state (Ingest (files_taken (plan core turn.parts))))

-- the refusals 16 and 17, where no earlier one holds
abbrev pub RefusedByNumber : Type 0
RefusedByNumber = (core : Core) (state : ModelState) (turn : Turn) (refusal : Refusal) (more : List Refusal)
    → Represents core state → core.turn ≡ Some turn → IsFlushedFor core turn.parts
    → filter_map (behind_fit_refusal core) (plan core turn.parts) ≡ []
    → filter_map number_refusal (plan core turn.parts) ≡ refusal ∷ more
    → MayRefuse state core.capacity (request_of_parts turn.parts) refusal

-- refusal 17, where no earlier one holds
abbrev pub RefusedByLevel : Type 0
RefusedByLevel = (core : Core) (state : ModelState) (turn : Turn) (refusal : Refusal) (more : List Refusal)
    → Represents core state → core.turn ≡ Some turn → IsFlushedFor core turn.parts
    → filter_map (behind_fit_refusal core) (plan core turn.parts) ≡ []
    → filter_map (level_refusal (lowest_level core)) (plan core turn.parts) ≡ refusal ∷ more
    → MayRefuse state core.capacity (request_of_parts turn.parts) refusal

-- where nothing is refused for a number, no argument has a cause that refuses it
abbrev pub UnnumberedHasNoCause : Type 0
UnnumberedHasNoCause = (core : Core) (state : ModelState) (turn : Turn) → Represents core state → core.turn ≡ Some turn
    → filter_map number_refusal (plan core turn.parts) ≡ []
    → first_refused state (request_of_parts turn.parts) ≡ None

-- the step of a commit
abbrev pub CommitRefines : Type 0
CommitRefines = (core : Core) (state : ModelState) (answer : CoreReply) (after : Core)
    → Represents core state → IsNow core IngestCommitted → EventDoes core IngestCommitted answer after
    → Refines core state IngestCommitted answer after
