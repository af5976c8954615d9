use Rattle.std.proofs.Common.{flat_map, map, take}
use Rattle.std.specs.Option.{option_copied}
use Rattle.st_base.specs.Range.{keys_of}
use Rattle.st_drops.specs.Ends.{IsRaised, is_before_end}
use Rattle.st_drops.proofs.ends.raise.Given as goal

abbrev pub invariant-loop-rows : goal.invariant-loop-rows
invariant-loop-rows g l = IsRaised (is_before_end (option_copied l.end)) (flat_map keys_of (take l.rows-index (map g.T.Rows.rows l.inputs))) l.fn.last l.last
