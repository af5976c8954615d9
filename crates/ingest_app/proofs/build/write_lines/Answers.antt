use Rattle.ingest_app.proofs.Lines.{stops_at}
use Rattle.ingest_app.proofs.build.write_lines.Goals as goal

pub returns-in-Err : goal.returns-in-Err
returns-in-Err c = stops_at _ c.in_ok-writer.ensures c.in-Err.fault c.write_build.new.writer.writer c.args.text.now c.in-Err.ensures
