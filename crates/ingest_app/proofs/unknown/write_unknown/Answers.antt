use Rattle.std.proofs.Common.{refl}
use Rattle.ingest_app.specs.Ended.{EndsUnknown}
use Rattle.ingest_app.proofs.Answering.{if_ok_map}
use Rattle.ingest_app.proofs.Causes.{unknown_cause, unknown_ends}
use Rattle.ingest_app.proofs.Outcomes.{ended_of}
use Rattle.ingest_app.proofs.unknown.write_unknown.Goals as goal

pub returns : goal.returns
returns g c =
    let wrote = c.write_outcome.ensures in
    let ended = ended_of g.K.Sink.tells EndsUnknown (λ text h. h) refl c.args.sink.now c.write_outcome.new.sink c.not_yet-outcome.result c.write_outcome.result
    (if_ok_map _ _ c.not_yet-outcome.result (λ outcome h. unknown_ends outcome.status outcome.text h.0 h.1) c.not_yet-outcome.ensures) wrote.wrote wrote.memory in
    record { ended = ended; cause = unknown_cause (g.K.Sink.tells c.args.sink.now) (g.K.Sink.tells c.write_outcome.new.sink) c.write_outcome.result ended }
