use Rattle.ingest_app.proofs.Answering.{if_ok_map}
use Rattle.ingest_app.proofs.Converting.{long_shown}
use Rattle.ingest_app.proofs.conversions.too_long.Goals as goal

pub returns-in-Show-clause-ends : goal.returns-in-Show-clause-ends
returns-in-Show-clause-ends c =
    rw c.in-Show.is (if_ok_map _ _ c.refused-in-Show.result (λ outcome h bytes long. long_shown bytes outcome.status outcome.text long h.0 h.1) c.refused-in-Show.ensures)
