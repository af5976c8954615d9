use Rattle.sst_writer.proofs.Held.{none_held, none_is}
use Rattle.sst_writer.proofs.writer.SstFileWriter.new.Goals as goal

pub invariant_of-result : goal.invariant_of-result
invariant_of-result c = none_is c.written_table_opens.ensures c.in_ok-table.table c.in_ok-last.last c.in_ok-table.ensures.kind c.in_ok-table.ensures.holds

pub returns : goal.returns
returns c = none_held c.written_table_opens.ensures c.in_ok-table.table c.in_ok-table.ensures.kind c.in_ok-table.ensures.holds
