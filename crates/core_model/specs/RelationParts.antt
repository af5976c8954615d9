-- Representation: the core stands for a state of the model.
use Rattle.std.specs.Prelude.{ℕ, ◌&&◌, ◌==◌, ◌≡◌, ◌≤◌, ◌<◌, ◌+◌, ◌⊎◌, IsTrue, IsFalse, length, List, [], ◌++◌, map, filter, take, drop, Contains, Some}
use Rattle.std.specs.List.{list_any, AllByRecursion as Each}
use Rattle.st_base.specs.Bytes.{below}
use Rattle.st_base.specs.Map.{value_at}
use Rattle.st_base.specs.declared.entry.Entry.{Entry}
use Rattle.st_model.specs.declared.state.ModelFamily.{ModelFamily}
use Rattle.st_model.specs.declared.state.ModelState.{ModelState}
use Rattle.st_model.specs.Contents.{sorted_ranges}
use Rattle.st_base.specs.Range.{has_key, is_in_range, meet}
use Rattle.st_model.specs.Read.{read, mark_at, value_of}
use Rattle.st_model.specs.State.{family_of, is_known}
use Rattle.st_model.specs.Early.{read_numbers}
use Rattle.core_model.specs.Compaction.{without_last}
use Rattle.core_model.specs.Pick.{joint_range}
use Rattle.core_model.specs.Picture.{FileEntries, FamilyView, Job, Part, Turn, Core, lowest_level, level_at, runs_of, tables_in, memories, above, walk, find_mark, table_range, is_flush, is_input, live_numbers, all_tables}
use Rattle.st_base.specs.Order.{in_order}
use Rattle.st_base.specs.Rows.{FitsMark}
use Rattle.st_order.specs.Columns.{Pairwise, column}
use Rattle.job_model.specs.Column.{Falls}
use Rattle.job_model.specs.Drops.{DontFall, AreApart}

-- ---- sorted runs

-- a key and a value are within their limits
abbrev pub FitsSizes : Entry → Type 0
FitsSizes entry = (length entry.key ≤ 65535) × FitsMark entry.mark

-- The entries of a memtable or a table: in entry order, keys and values within their limits. That numbers are below
-- 2^64 isn't said here, since a request is placed in the core file by file before it is refused for numbers.
pub record IsSortedRun (entries : List Entry) : Type 0 where
  pub ordered : IsTrue (in_order entries)
  pub within : Each FitsSizes entries

-- ---- for each family

-- the relation holds of each family of the core and the model's family of that name
abbrev pub ForBoth : Core → ModelState → (FamilyView → ModelFamily → Type 0) → Type 0
ForBoth core state R =
    (name : List ℕ) (family : FamilyView) (kept : ModelFamily) → value_at core.families name ≡ Some family
    → family_of state name ≡ Some kept → R family kept

-- it holds of each family of the core
abbrev pub ForEach : Core → (FamilyView → Type 0) → Type 0
ForEach core P = Each (λ named. P named.1) core.families

-- ---- 1: what both have

-- the names with the families' ids
abbrev pub ids_of : List (List ℕ × FamilyView) → List (List ℕ × ℕ)
ids_of families = map {B = List ℕ × ℕ} (λ named. (named.0, named.1.id)) families

-- the same of the model's families
abbrev pub model_ids : List (List ℕ × ModelFamily) → List (List ℕ × ℕ)
model_ids families = map {B = List ℕ × ℕ} (λ named. (named.0, named.1.id)) families

-- the core and the model's state have the same numbers, names, ids and snapshots
pub record HaveSame (core : Core) (state : ModelState) : Type 0 where
  pub place : core.place ≡ state.place
  pub last : core.last ≡ state.last
  pub charge : core.charge ≡ state.charge
  pub behind : core.behind ≡ state.behind
  pub families : ids_of core.families ≡ model_ids state.families
  pub next_family : core.next_family ≡ state.next_family
  pub live : core.live ≡ state.live

-- ---- 2 and 5: reads, now and at each live number

-- each key reads as in the model, now and at each live number
abbrev pub ReadsAs : ModelState → FamilyView → ModelFamily → Type 0
ReadsAs state family kept =
    (number : ℕ) (key : List ℕ) → Contains (read_numbers state) number
    → value_of (find_mark family number key) ≡ read kept number key

-- with the flag the mark itself is the model's: so a key has an entry exactly where it is covered
abbrev pub HasModelMarks : ModelState → FamilyView → ModelFamily → Type 0
HasModelMarks state family kept =
    (number : ℕ) (key : List ℕ) → Contains (read_numbers state) number
    → find_mark family number key ≡ mark_at kept number key

-- ---- 3: numbers fall along the walk

-- of each key numbers fall along the walk
abbrev pub NumbersFall : FamilyView → Type 0
NumbersFall family = (key : List ℕ) → Falls (column key (above family 6)) (column key (runs_of (level_at family 6)))

-- no number is above the last number
abbrev pub NumbersWithin : ℕ → FamilyView → Type 0
NumbersWithin last family = Each (Each (λ entry. entry.number ≤ last)) (walk family)

-- ---- 4: levels

-- tables of the level stand by key and don't meet
abbrev pub IsLevel : List FileEntries → Type 0
IsLevel tables = Pairwise (λ one other. IsTrue (below (table_range one).last (table_range other).first)) tables

-- from level 1 on tables of a level stand by key and don't meet
abbrev pub LevelsApart : FamilyView → Type 0
LevelsApart family = Each IsLevel (drop 1 family.levels)

-- level 6 has exactly the ranges of the model's files behind
abbrev pub HasRanges : FamilyView → ModelFamily → Type 0
HasRanges family kept = map table_range (level_at family 6) ≡ sorted_ranges kept.ranges

-- all numbers of a memtable are above all of each older one
abbrev pub IsNewer : List Entry → List Entry → Type 0
IsNewer newer older = Each (λ one. Each (λ other. other.number < one.number) older) newer

-- memtables stand one after the other by numbers
abbrev pub MemoriesFall : FamilyView → Type 0
MemoriesFall family = Pairwise IsNewer (memories family)

-- the table has an entry
abbrev pub HasEntry : FileEntries → Type 0
HasEntry table = 1 ≤ length table.entries

-- what a family keeps by itself: seven levels, each run in entry order, each table
-- and sealed memtable with an entry, memtables one after the other
pub record IsView (family : FamilyView) : Type 0 where
  pub levels : length family.levels ≡ 7
  pub rows : Each IsSortedRun (walk family)
  pub filled : Each HasEntry (tables_in family.levels)
  pub sealed : Each (λ entries. 1 ≤ length entries) family.sealed
  pub order : MemoriesFall family

-- ---- 6: known keys

-- the model knows each key of an entry
abbrev pub HasKnownKeys : FamilyView → ModelFamily → Type 0
HasKnownKeys family kept = Each (Each (λ entry. IsTrue (is_known kept entry.key))) (walk family)

-- each key of a memtable has a write
abbrev pub HasWritten : FamilyView → ModelFamily → Type 0
HasWritten family kept = Each (Each (λ entry. IsTrue (has_key kept.writes entry.key))) (memories family)

-- ---- 7: jobs

-- no key stands in both
abbrev pub ShareNoKey : List Entry → List Entry → Type 0
ShareNoKey one other = (key : List ℕ) → IsTrue (has_key one key) → IsFalse (has_key other key)

-- the inputs of a flush: the oldest sealed memtable
abbrev pub IsOldest : List (List Entry) → List (List Entry) → Type 0
IsOldest sealed inputs = sealed ≡ without_last sealed ++ inputs

-- the tables in place that are inputs of the job
abbrev pub input_tables : FamilyView → Job → List FileEntries
input_tables family job = filter (is_input job) (tables_in family.levels)

-- a flush has the oldest sealed memtable as its one input
pub record IsFlush (family : FamilyView) (job : Job) : Type 0 where
  pub one : length job.inputs ≡ 1
  pub oldest : IsOldest family.sealed job.inputs
  pub files : job.files ≡ []
  pub drops : job.drops ≡ []

-- where the inputs of a compaction may stand: at its output level, or one
-- above; of one to the lowest level, anywhere above
pub record IsInputLevel (lowest_level level n : ℕ) : Type 0 where
  pub above : n ≤ level
  pub near : (level ≡ lowest_level) ⊎ (level ≤ n + 1)

-- a compaction runs: its inputs are in place and near its output level, no other table meets its outputs
pub record IsCompacting (lowest_level : ℕ) (family : FamilyView) (job : Job) : Type 0 where
  pub level : job.level ≤ lowest_level
  -- the inputs are in place, along the walk
  pub some : 1 ≤ length job.inputs
  pub files : map (λ table. table.file) (input_tables family job) ≡ job.files
  pub inputs : runs_of (input_tables family job) ≡ job.inputs
  pub levels : (n : ℕ) → Each (λ table. IsTrue (is_input job table) → IsInputLevel lowest_level job.level n)
      (level_at family n)
  -- no other table meets the output range at the output level
  pub clear : Each (λ table. IsFalse (is_input job table) → IsFalse (meet job.range (table_range table)))
      (level_at family job.level)
  -- above the output level, no entry that isn't an input comes behind an input's entry of its key
  pub below : Pairwise (λ one other. IsTrue (is_input job one) → IsFalse (is_input job other)
      → ShareNoKey one.entries other.entries) (tables_in (take job.level family.levels))

-- the job runs, as a flush or as a compaction
abbrev pub IsRunning : ℕ → FamilyView → Job → Type 0
IsRunning lowest_level family job =
    (job.level ≡ 0 → IsFlush family job) × (1 ≤ job.level → IsCompacting lowest_level family job)

-- two jobs of a family: no input in common, one flush at most, nothing
-- beside a compaction to the lowest level, outputs apart
pub record JobsApart (lowest_level : ℕ) (one other : Job) : Type 0 where
  pub files : Each (λ file. IsFalse (list_any (λ taken. taken == file) other.files)) one.files
  pub flush : IsFalse (is_flush one && is_flush other)
  pub lone : 1 ≤ one.level → 1 ≤ other.level → (one.level < lowest_level) × (other.level < lowest_level)
  pub outputs : 1 ≤ one.level → one.level ≡ other.level → IsFalse (meet one.range other.range)

-- the jobs of a family run: each by itself, with joint ranges, and any two are apart
pub record JobsRun (lowest_level : ℕ) (jobs : List Job) (family : FamilyView) : Type 0 where
  pub each : Each (IsRunning lowest_level family) jobs
  pub ranges : Each (λ job. job.range ≡ joint_range job.inputs) jobs
  pub apart : Pairwise (JobsApart lowest_level) jobs

-- ---- 8: jobs keep reads

-- the job took the number down, or began at or below it
abbrev pub IsKept : Job → ℕ → Type 0
IsKept job number = (Contains job.live number) ⊎ (job.began ≤ number)

-- what the job will install keeps each read at a live number and now
pub record KeepsReads (core : Core) (family : FamilyView) (job : Job) : Type 0 where
  pub live : Each (IsKept job) (live_numbers core)
  pub began : job.began ≤ core.last
  pub numbers : Each (Each (λ entry. entry.number ≤ job.began)) job.inputs
  -- tombstones go only in the output range, and where nothing of the key stands below
  pub within : Each (λ range. IsTrue (is_in_range job.range range.first && is_in_range job.range range.last)) job.drops
  pub nothing : Each (λ range. Each (Each (λ entry. IsFalse (is_in_range range entry.key)))
      (runs_of (tables_in (drop (job.level + 1) family.levels)))) job.drops
  pub flag : IsTrue core.behind → job.drops ≡ []

-- the second number is less, or both are 0
abbrev pub FallOrZero : Entry → Entry → Type 0
FallOrZero one other = (other.number < one.number) ⊎ ((one.number ≡ 0) × (other.number ≡ 0))

-- What a noted job keeps by itself, also where its family goes: its output level is one of the seven; its inputs'
-- columns fall, up to numbers 0; its live numbers don't fall, and its ranges of dropping stand by key; a flush has one
-- memtable, with an entry.
pub record HasOutputs (job : Job) : Type 0 where
  pub level : job.level ≤ 6
  pub columns : (key : List ℕ) → Pairwise FallOrZero (column key job.inputs)
  pub live : DontFall job.live
  pub drops : AreApart job.drops
  pub flush : IsTrue (is_flush job) → (length job.inputs ≡ 1) × Each (λ entries. 1 ≤ length entries) job.inputs
      × (job.drops ≡ [])

-- No two noted jobs have one number; each names a family id that was given; each has outputs that can be installed.
-- Live numbers don't fall along the snapshots, so that a job takes them down in order.
pub record AreNoted (core : Core) : Type 0 where
  pub numbers : Pairwise (λ one other. one.number ≡ other.number → ⊥) core.jobs
  -- numbers are given upwards, up to the end of 64 bits; then the least that no noted job has
  pub made : core.jobs_made < 18446744073709551615 → Each (λ job. job.number ≤ core.jobs_made) core.jobs
  pub families : Each (λ job. job.family < core.next_family) core.jobs
  pub outputs : Each HasOutputs core.jobs
  pub live : DontFall (live_numbers core)

-- ---- 9: the turn

-- the tables of all parts
abbrev pub files_in_parts : List Part → List FileEntries
files_in_parts parts = tables_in (map (λ part. part.files) parts)

-- the turn that is out is of this place, and its files are fresh
pub record IsTurn (core : Core) (turn : Turn) : Type 0 where
  pub place : core.place ≡ turn.place
  -- its file numbers differ and aren't in place
  pub fresh : Pairwise (λ one other. one.file ≡ other.file → ⊥) (files_in_parts turn.parts ++ all_tables core)
