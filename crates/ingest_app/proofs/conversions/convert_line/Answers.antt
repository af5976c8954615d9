use Rattle.std.proofs.Common.{subst, sym}
use Rattle.ingest_app.specs.Convert.{EndsSource}
use Rattle.ingest_app.specs.Ended.{AsksConversion, ConvertingCause, EndsConverting}
use Rattle.ingest_app.specs.Form.{form_read, Convert}
use Rattle.ingest_app.specs.Outside.{EndsWriting}
use Rattle.ingest_app.specs.declared.command_line.CommandLine.{CommandLine}
use Rattle.ingest_app.proofs.Converting.{unasked_cause, unasked_ends}
use Rattle.ingest_app.proofs.Outcomes.{ends_as}
use Rattle.ingest_app.proofs.conversions.convert_line.Goals as goal

pub returns-in-Convert : goal.returns-in-Convert
returns-in-Convert g c =
    let before = g.S.Source.tells c.args.source.now in
    let after = g.S.Source.tells c.convert_source_to.new.source in
    let sink = g.K.Sink.tells c.args.sink.now in
    let took = g.K.Sink.tells c.convert_source_to.new.sink in
    let status = c.convert_source_to.result in
    record {
      ended = subst (λ (line : CommandLine). EndsWriting (EndsConverting (form_read line) before after) sink took status) (sym c.in-Convert.is)
          (ends_as (EndsSource c.in-Convert.form before after) (EndsConverting (Convert c.in-Convert.form) before after) (λ status text h. h) sink took status c.convert_source_to.ensures.ended);
      cause = subst (λ (line : CommandLine). ConvertingCause (form_read line) before after sink took status) (sym c.in-Convert.is) c.convert_source_to.ensures.cause;
    }

pub returns-in-Run : goal.returns-in-Run
returns-in-Run g c =
    let form = form_read c.args.line in
    let source = g.S.Source.tells c.args.source.now in
    let sink = g.K.Sink.tells c.args.sink.now in
    let took = g.K.Sink.tells c.write_unknown.new.sink in
    let status = c.write_unknown.result in
    let other : AsksConversion form → ⊥ = λ asks. subst (λ (line : CommandLine). AsksConversion (form_read line)) c.in-Run.is asks in
    record {
      ended = unasked_ends form source sink took status other c.write_unknown.ensures.ended;
      cause = unasked_cause form source sink took status other c.write_unknown.ensures.cause;
    }

pub returns-in-Unknown : goal.returns-in-Unknown
returns-in-Unknown g c =
    let form = form_read c.args.line in
    let source = g.S.Source.tells c.args.source.now in
    let sink = g.K.Sink.tells c.args.sink.now in
    let took = g.K.Sink.tells c.write_unknown-in-Unknown.new.sink in
    let status = c.write_unknown-in-Unknown.result in
    let other : AsksConversion form → ⊥ = λ asks. subst (λ (line : CommandLine). AsksConversion (form_read line)) c.in-Unknown.is asks in
    record {
      ended = unasked_ends form source sink took status other c.write_unknown-in-Unknown.ensures.ended;
      cause = unasked_cause form source sink took status other c.write_unknown-in-Unknown.ensures.cause;
    }
