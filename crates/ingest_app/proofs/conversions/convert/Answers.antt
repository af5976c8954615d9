use Rattle.std.proofs.Common.{map, string_bytes, subst}
use Rattle.ingest_app.specs.Ended.{ConvertingCause, EndsConverting}
use Rattle.ingest_app.specs.Form.{Form, form_of}
use Rattle.ingest_app.specs.Outside.{EndsWriting}
use Rattle.ingest_app.proofs.Converting.{asked_complete}
use Rattle.ingest_app.proofs.conversions.convert.Goals as goal

pub returns : goal.returns
returns g c =
    let before = g.S.Source.tells c.args.source.now in
    let after = g.S.Source.tells c.convert_line.new.source in
    let sink = g.K.Sink.tells c.args.sink.now in
    let took = g.K.Sink.tells c.convert_line.new.sink in
    let status = c.convert_line.result in
    let same = c.read_command_line.ensures.form in
    let cause = subst (λ (form : Form). ConvertingCause form before after sink took status) same c.convert_line.ensures.cause in
    record {
      ended = subst (λ (form : Form). EndsWriting (EndsConverting form before after) sink took status) same c.convert_line.ensures.ended;
      cause = cause;
      complete = asked_complete (form_of (map string_bytes c.args.words.now)) before after sink took status cause;
    }
