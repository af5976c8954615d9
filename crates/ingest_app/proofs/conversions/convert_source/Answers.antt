use Rattle.ingest_app.proofs.Answering.{if_ok_all}
use Rattle.ingest_app.proofs.Converting.{if_ok_both, read_converted, source_ends}
use Rattle.ingest_app.proofs.conversions.convert_source.Goals as goal

pub returns-in-Ok : goal.returns-in-Ok
returns-in-Ok g c =
    let e = c.convert_read.ensures in
    let before = g.S.Source.tells c.args.source.now in
    record {
      ends = if_ok_both _ _ _ c.convert_read.result
          (λ outcome is ends. source_ends c.args.form before (g.S.Source.tells c.read_source.new.source) outcome.status outcome.text is
          (read_converted 268435456 c.args.form before outcome.status outcome.text c.in-Ok.read c.in-Ok.ensures.within c.in-Ok.ensures.read ends)) e.status e.ends;
      quiet = if_ok_all _ c.convert_read.result (λ outcome done. c.in-Ok.ensures.quiet);
    }
