use Rattle.std.proofs.Common.{length}
use Rattle.st_version.specs.Held.{tables_of}
use Rattle.opening_checks.specs.Meeting.{AreByFirstKey}
use Rattle.opening_checks.proofs.meeting.are_by_first_key.Given as goal

-- all are a level exactly where those that are left are
abbrev pub invariant-loop-first : goal.invariant-loop-first
invariant-loop-first g l = record {
  all : AreByFirstKey (tables_of l.left) → AreByFirstKey (tables_of l.tables);
  rest : AreByFirstKey (tables_of l.tables) → AreByFirstKey (tables_of l.left);
}

abbrev pub decreases-loop-first : goal.decreases-loop-first
decreases-loop-first g l = length l.left
