use Rattle.std.proofs.Common.{◌+◌, take}
use Rattle.st_version.specs.Held.{tables_of}
use Rattle.opening_checks.specs.Heads.{AreHeads}
use Rattle.opening_checks.specs.Walk.{walk_runs}
use Rattle.opening_checks.proofs.unfallen.first_heads.Given as goal

-- the heads of the parts so far
abbrev pub invariant-loop-index : goal.invariant-loop-index
invariant-loop-index g l = AreHeads (take (l.index + 1) (walk_runs (g.C.Rows.rows l.counted) (tables_of l.tables))) l.heads
