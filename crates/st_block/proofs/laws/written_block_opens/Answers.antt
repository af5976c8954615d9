use Rattle.std.proofs.Common.{[]}
use Rattle.st_block.proofs.Tails.{block_written, pairs_again}
use Rattle.st_block.proofs.laws.written_block_opens.Goals as goal

pub returns-clause-opens : goal.returns-clause-opens
returns-clause-opens c = block_written c.numbers_read_again.ensures.varint32

pub returns-clause-entries : goal.returns-clause-entries
returns-clause-entries c = λ interval pairs. pairs_again interval 0 0 [] pairs
