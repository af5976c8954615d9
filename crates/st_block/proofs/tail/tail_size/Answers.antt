use Rattle.std.proofs.Common.{arith}
use Rattle.st_block.proofs.Writers.{tail_length}
use Rattle.st_block.proofs.tail.tail_size.Goals as goal

pub returns-clause-size : goal.returns-clause-size
returns-clause-size c = λ entries offsets e. omega (arith, tail_length entries offsets, e, c.max.ensures)
