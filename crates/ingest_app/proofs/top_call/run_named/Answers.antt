use Rattle.std.proofs.Common.{refl}
use Rattle.ingest_app.specs.Run.{EndsRun}
use Rattle.ingest_app.proofs.Outcomes.{done_is_quiet, ended_of}
use Rattle.ingest_app.proofs.top_call.run_named.Goals as goal

pub returns-clause-ended : goal.returns-clause-ended
returns-clause-ended g c =
    let before = g.I.Inputs.tells c.args.inputs.now in
    let after = g.I.Inputs.tells c.run_client-outcome.new.inputs in
    let disk = g.D.Disk.tells c.args.disk in
    let left = g.D.Disk.tells c.run_client-outcome.result.1 in
    ended_of g.K.Sink.tells (EndsRun c.args.name.now before after disk left) (λ text h. h) refl
    c.args.sink.now c.write_outcome.new.sink c.run_client-outcome.result.0 c.write_outcome.result c.run_client-outcome.ensures.ends c.write_outcome.ensures.wrote c.write_outcome.ensures.memory

pub returns-clause-quiet : goal.returns-clause-quiet
returns-clause-quiet g c = λ done.
    let quiet = c.write_outcome.ensures.quiet done in
    (done_is_quiet c.run_client-outcome.result.0 c.run_client-outcome.ensures.quiet quiet.0, quiet.1)
