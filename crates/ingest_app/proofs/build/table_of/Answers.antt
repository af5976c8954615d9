use Rattle.ingest_app.proofs.Lines.{read_gives, unread_gives}
use Rattle.ingest_app.proofs.build.table_of.Goals as goal

pub returns-in-Ok : goal.returns-in-Ok
returns-in-Ok c = read_gives c.in-Ok.writer c.args.text c.finish.result (rw c.as_slice.ensures at c.in-Ok.ensures) c.finish.ensures

pub returns-in-Err : goal.returns-in-Err
returns-in-Err c = unread_gives c.in-Err.fault c.args.text (rw c.as_slice.ensures at c.in-Err.ensures)
