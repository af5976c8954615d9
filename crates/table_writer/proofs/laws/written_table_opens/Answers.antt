use Rattle.table_writer.proofs.WrittenOpens.{written_is_table}
use Rattle.table_writer.proofs.laws.written_table_opens.Goals as goal

pub returns : goal.returns
returns c = written_is_table c.written_block_opens.ensures.opens
