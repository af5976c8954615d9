use Rattle.std.proofs.Common.{◌≡◌, ◌+◌, drop}
use Rattle.st_base.specs.Rows.{lower_index}
use Rattle.st_base.proofs.listed.lower_index.Given as goal

-- the entries before the index come before the position
abbrev pub invariant-loop-index : goal.invariant-loop-index
invariant-loop-index l = lower_index l.entries l.key l.number ≡ l.index + lower_index (drop l.index l.entries) l.key l.number
