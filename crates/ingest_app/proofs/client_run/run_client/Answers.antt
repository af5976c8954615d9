use Rattle.ingest_app.proofs.Ends.{read_ends, run_of_file}
use Rattle.ingest_app.proofs.Converting.{if_ok_three}
use Rattle.ingest_app.proofs.client_run.run_client.Goals as goal

pub returns-in-Ok-clause-ends : goal.returns-in-Ok-clause-ends
returns-in-Ok-clause-ends g c =
    let before = g.I.Inputs.tells c.args.inputs.now in
    let after = g.I.Inputs.tells c.read_file.new.inputs in
    let disk = g.D.Disk.tells c.args.disk in
    let left = g.D.Disk.tells c.run_file.result.1 in
    let e = c.run_file.ensures in
    if_ok_three _ _ _ _ c.run_file.result.0
    (λ outcome is fault ends. run_of_file c.args.name.now before after disk left outcome.status outcome.text is fault
    (read_ends 33554432 c.args.name.now before disk left outcome.status outcome.text c.in-Ok.read c.in-Ok.ensures.within c.in-Ok.ensures.read ends)) e.status e.fault e.ends
