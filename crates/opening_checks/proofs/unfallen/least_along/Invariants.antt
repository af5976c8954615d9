use Rattle.std.proofs.Common.{ℕ}
use Rattle.std.specs.Prelude.{length, sum_by, nat_lt}
use Rattle.st_base.specs.declared.entry.Entry.{Entry}
use Rattle.st_version.specs.Held.{tables_of}
use Rattle.opening_checks.specs.Walk.{walk_runs}
use Rattle.opening_checks.proofs.Along.{IsAlong, lefts}
use Rattle.opening_checks.proofs.unfallen.least_along.Given as goal

abbrev pub invariant-loop-head : goal.invariant-loop-head
invariant-loop-head g l = IsAlong l.last l.upper (g.C.Rows.rows l.counted) (tables_of l.tables) l.indexes.items l.heads l.passed

-- how many entries are left
abbrev pub decreases-loop-head : goal.decreases-loop-head
decreases-loop-head g l = sum_by (λ run. length run) (lefts (walk_runs (g.C.Rows.rows l.counted) (tables_of l.tables)) l.indexes.items)
