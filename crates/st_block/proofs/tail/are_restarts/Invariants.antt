use Rattle.std.proofs.Common.{◌≡◌, ◌+◌, ◌*◌, ◌-◌, ltb}
use Rattle.st_base.specs.Order.{rises_behind}
use Rattle.st_block.specs.Block.{are_restarts, offsets_at}
use Rattle.st_block.proofs.tail.are_restarts.Given as goal

abbrev pub invariant-loop-index : goal.invariant-loop-index
invariant-loop-index l = are_restarts (offsets_at l.text l.at l.count) ≡ rises_behind ltb l.last (offsets_at l.text (l.at + 4 * l.index) (l.count - l.index))
