use Rattle.std.proofs.Common.{◌∙◌}
use Rattle.ingest_app.proofs.Answering.{if_ok_map}
use Rattle.ingest_app.proofs.Lines.{refused_build}
use Rattle.ingest_app.proofs.build.build.Goals as goal

pub returns-in_ok-cause-in-Err : goal.returns-in_ok-cause-in-Err
returns-in_ok-cause-in-Err c =
    let e = c.in_ok-cause-in-Err.ensures in
    if_ok_map _ _ c.refused.result
    (λ outcome h. refused_build c.args.text c.as_slice.result.now outcome.text c.in-Err.fault outcome.status c.requires c.in-Err.ensures e.memory (c.as_slice.ensures ∙ e.cause) h.0 h.1) c.refused.ensures
