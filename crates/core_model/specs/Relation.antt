-- The whole relation: the core stands for the state.
use Rattle.std.specs.Prelude.{◌≡◌, IsTrue, IfSome}
use Rattle.std.specs.List.{AllByRecursion as Each}
use Rattle.st_model.specs.declared.state.ModelState.{ModelState}
use Rattle.st_model.specs.Sound.{IsSound}
use Rattle.core_model.specs.Picture.{Core, lowest_level, jobs_of, all_tables}
use Rattle.core_model.specs.Request.{IsRequest, NamesThere}
use Rattle.core_model.specs.RelationParts.{HaveSame, ForBoth, ForEach, ReadsAs, HasModelMarks, NumbersFall, NumbersWithin, LevelsApart, HasRanges, IsView, HasKnownKeys, HasWritten, JobsRun, KeepsReads, AreNoted, IsTurn}
use Rattle.st_order.specs.Columns.{Pairwise}

-- the core stands for the model's state
pub record Represents (core : Core) (state : ModelState) : Type 0 where
  -- 1: place, last number, charge, flag, names and ids, live snapshots
  pub same : HaveSame core state
  -- 2: reads, now and at each live number
  pub reads : ForBoth core state (ReadsAs state)
  -- 3: numbers fall along the walk, and none is above the last number
  pub falls : ForEach core NumbersFall
  pub within : ForEach core (NumbersWithin core.last)
  -- 4: levels; with the flag level 6 has exactly the ranges of the files behind
  pub apart : ForEach core LevelsApart
  pub ranges : IsTrue core.behind → ForBoth core state HasRanges
  -- 5: with the flag marks are the model's
  pub marks : IsTrue core.behind → ForBoth core state (HasModelMarks state)
  -- 6: keys of entries are known, and those of memtables were written
  pub known : ForBoth core state HasKnownKeys
  pub written : ForBoth core state HasWritten
  -- 7: jobs of families that are there
  pub jobs : ForEach core (λ family. JobsRun (lowest_level core) (jobs_of core family) family)
  -- 8: their outputs keep reads
  pub kept : ForEach core (λ family. Each (KeepsReads core family) (jobs_of core family))
  -- 9: the turn
  pub turn : IfSome core.turn (λ turn. IsTurn core turn × NamesThere core turn.parts × IsRequest turn.parts)
  -- what the types keep, and what the model keeps by itself
  pub views : ForEach core IsView
  pub files : Pairwise (λ one other. one.file ≡ other.file → ⊥) (all_tables core)
  pub noted : AreNoted core
  pub sound : IsSound state
