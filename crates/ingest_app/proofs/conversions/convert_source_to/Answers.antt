use Rattle.std.proofs.Common.{refl}
use Rattle.ingest_app.specs.Convert.{EndsSource}
use Rattle.ingest_app.proofs.Converting.{conversion_cause}
use Rattle.ingest_app.proofs.Outcomes.{done_is_quiet, ended_of}
use Rattle.ingest_app.proofs.conversions.convert_source_to.Goals as goal

pub returns : goal.returns
returns g c =
    let before = g.S.Source.tells c.args.source.now in
    let after = g.S.Source.tells c.convert_source-outcome.new.source in
    let wrote = c.write_outcome.ensures in
    let ended = ended_of g.K.Sink.tells (EndsSource c.args.form before after) (λ text h. h) refl c.args.sink.now c.write_outcome.new.sink c.convert_source-outcome.result c.write_outcome.result c.convert_source-outcome.ensures.ends wrote.wrote wrote.memory in
    record {
      ended = ended;
      cause = conversion_cause c.args.form before after (g.K.Sink.tells c.args.sink.now) (g.K.Sink.tells c.write_outcome.new.sink) c.write_outcome.result ended
          (λ done. let quiet = wrote.quiet done in (done_is_quiet c.convert_source-outcome.result c.convert_source-outcome.ensures.quiet quiet.0, quiet.1));
    }
