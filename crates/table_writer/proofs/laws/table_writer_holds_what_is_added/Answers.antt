use Rattle.table_writer.proofs.Holding.{table_holds_more}
use Rattle.table_writer.proofs.laws.table_writer_holds_what_is_added.Goals as goal

pub returns : goal.returns
returns c = table_holds_more
