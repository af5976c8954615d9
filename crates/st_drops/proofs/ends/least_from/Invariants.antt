use Rattle.std.proofs.Common.{flat_map, map, take}
use Rattle.st_base.specs.Range.{keys_of}
use Rattle.st_drops.specs.Ends.{FindsLeastFrom}
use Rattle.st_drops.proofs.ends.least_from.Given as goal

abbrev pub invariant-loop-rows : goal.invariant-loop-rows
invariant-loop-rows g l = FindsLeastFrom l.bound (flat_map keys_of (take l.rows-index (map g.T.Rows.rows l.inputs))) l.found l.key
