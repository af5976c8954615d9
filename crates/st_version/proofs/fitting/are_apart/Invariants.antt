use Rattle.std.proofs.Common.{length}
use Rattle.st_order.specs.Columns.{Pairwise}
use Rattle.st_version.specs.Held.{tables_of}
use Rattle.st_version.specs.Replace.{DontMeet}
use Rattle.st_version.proofs.fitting.are_apart.Given as goal

-- no two meet exactly where no two of those that are left do
abbrev pub invariant-loop-first : goal.invariant-loop-first
invariant-loop-first g l = record {
  all : Pairwise DontMeet (tables_of l.left) → Pairwise DontMeet (tables_of l.tables);
  rest : Pairwise DontMeet (tables_of l.tables) → Pairwise DontMeet (tables_of l.left);
}

abbrev pub decreases-loop-first : goal.decreases-loop-first
decreases-loop-first g l = length l.left
