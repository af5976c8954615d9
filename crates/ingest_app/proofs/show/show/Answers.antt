use Rattle.ingest_app.proofs.Shown.{opened_shown}
use Rattle.ingest_app.proofs.show.show.Goals as goal

pub returns-in_ok-text_of-in-Ok : goal.returns-in_ok-text_of-in-Ok
returns-in_ok-text_of-in-Ok c = opened_shown c.args.bytes c.in_ok-bytes.bytes.value c.in-Ok.table c.in_ok-text_of-in-Ok.field-0 c.in_ok-bytes.ensures.ok c.in-Ok.ensures.ok c.in_ok-text_of-in-Ok.ensures
