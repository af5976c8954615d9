-- What a request must be before it takes the turn.
use Rattle.std.specs.Prelude.{◌≡◌, ◌≤◌, IsTrue, length, List, [], map}
use Rattle.std.specs.List.{AllByRecursion as Each}
use Rattle.st_base.specs.Bytes.{below}
use Rattle.st_base.specs.Order.{rises}
use Rattle.st_model.specs.Answer.{unknown_families}
use Rattle.st_model.specs.Refusals.{shape_refusals, meeting_refusals, behind_refusals}
use Rattle.core_model.specs.Commit.{outline}
use Rattle.core_model.specs.Event.{request_of_parts}
use Rattle.core_model.specs.Picture.{FileEntries, Part, Core}
use Rattle.core_model.specs.RelationParts.{files_in_parts, IsSortedRun}

-- a staged file: entries of number 0 with strictly rising keys, at least one
pub record IsStagedTable (table : FileEntries) : Type 0 where
  pub some : 1 ≤ length table.entries
  pub zero : Each (λ entry. entry.number ≡ 0) table.entries
  pub keys : IsTrue (rises (λ one other. below one.key other.key) table.entries)
  pub rows : IsSortedRun table.entries

-- the request passes the tests of its shape, and files of one behind argument don't meet
pub record IsRequest (parts : List Part) : Type 0 where
  pub shape : shape_refusals (request_of_parts parts) ≡ []
  pub meeting : meeting_refusals (request_of_parts parts) ≡ []
  pub staged : Each IsStagedTable (files_in_parts parts)

-- its families are there, and files may be taken in behind where it asks for it
pub record NamesThere (core : Core) (parts : List Part) : Type 0 where
  pub families : unknown_families (outline core) (map (λ part. part.family) parts) ≡ []
  pub behind : behind_refusals (outline core) (request_of_parts parts) ≡ []
