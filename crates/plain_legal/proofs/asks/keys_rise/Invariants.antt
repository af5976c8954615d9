use Rattle.std.proofs.Common.{◌≡◌, drop}
use Rattle.st_base.specs.Bytes.{below}
use Rattle.st_base.specs.Order.{rises_behind}
use Rattle.st_base.specs.Range.{keys_rise}
use Rattle.plain_legal.proofs.asks.keys_rise.Given as goal

-- the keys before the index rise, and this is the last of them
abbrev pub invariant-loop-entry : goal.invariant-loop-entry
invariant-loop-entry l = keys_rise l.entries ≡ rises_behind (λ one other. below one.key other.key) l.last (drop l.entry-index l.rest)
