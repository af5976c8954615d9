use Rattle.std.proofs.Common.{ap, length, arith}
use Rattle.st_table.proofs.Lengths.{handle_short}
use Rattle.table_writer.proofs.stored_blocks.short_handle_bytes.Goals as goal

pub returns-clause-short : goal.returns-clause-short
returns-clause-short c = omega (arith, handle_short c.args.handle, ap length c.in_ok-bytes.ensures)
