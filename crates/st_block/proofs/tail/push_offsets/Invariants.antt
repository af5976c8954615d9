use Rattle.std.proofs.Common.{◌≡◌, ◌++◌, take}
use Rattle.std.specs.List.{flat_map}
use Rattle.st_code.specs.Fixed.{fixed32}
use Rattle.st_block.proofs.tail.push_offsets.Given as goal

abbrev pub invariant-loop-offset : goal.invariant-loop-offset
invariant-loop-offset l = l.out ≡ l.fn.out ++ flat_map fixed32 (take l.offset-index l.offsets)
