use Rattle.ingest_app.proofs.Lines.{finished_gives}
use Rattle.ingest_app.proofs.build.finish.Goals as goal

pub returns-in-Ok : goal.returns-in-Ok
returns-in-Ok c = finished_gives c.args.writer c.in-Ok.table c.in-Ok.ensures.some c.in-Ok.ensures.written
