use Rattle.std.proofs.Common.{refl}
use Rattle.ingest_app.specs.Client.{EndsAnswered, opening_of}
use Rattle.ingest_app.specs.Run.{EndsOpening, EndsScripts, one_client}
use Rattle.ingest_app.specs.declared.outcome.Outcome.{Outcome}
use Rattle.log_engine.specs.Engine.{Stands}
use Rattle.st_model.specs.declared.state.ModelState.{ModelState}
use Rattle.st_model.specs.State.{IsOpening}
use Rattle.ingest_app.proofs.Answering.{if_ok_map}
use Rattle.ingest_app.proofs.Opening.{answered_ends, opening_ends}
use Rattle.ingest_app.proofs.client_run.run_script.Goals as goal

pub returns-in-Ok-clause-ends : goal.returns-in-Ok-clause-ends
returns-in-Ok-clause-ends g c =
    let clients = one_client c.args.name.now c.args.script.now.commands in
    let before = g.D.Disk.tells c.args.disk in
    let mid = g.D.Disk.tells c.in-Ok.engine.disk in
    let after = g.D.Disk.tells c.run_engine.result.1 in
    let e = c.in-Ok.ensures in
    let opened = e.opened in
    if_ok_map (λ (outcome : Outcome). (opening : ModelState) → Stands c.in-Ok.engine opening → IsOpening opening → EndsAnswered clients opening mid after outcome.status outcome.text)
    (λ (outcome : Outcome). EndsScripts clients before after outcome.status outcome.text) c.run_engine.result.0
    (λ outcome ends. answered_ends clients outcome.text before mid after opened.from e.disk.passes c.run_engine.ensures.passes opened.read e.crash outcome.status (ends (opening_of opened.from) opened.stands (record { place = refl; live = refl })))
    c.run_engine.ensures.ends

pub returns-in-Err-clause-ends : goal.returns-in-Err-clause-ends
returns-in-Err-clause-ends g c =
    let clients = one_client c.args.name.now c.args.script.now.commands in
    let before = g.D.Disk.tells c.args.disk in
    let after = g.D.Disk.tells c.in-Err.disk in
    let e = c.in-Err.ensures in
    if_ok_map (λ (outcome : Outcome). EndsOpening c.in-Err.fault outcome.status outcome.text) (λ (outcome : Outcome). EndsScripts clients before after outcome.status outcome.text) c.unopened.result
    (λ outcome h. opening_ends clients before after c.in-Err.fault outcome.status outcome.text e.damage e.crash_err h) c.unopened.ensures
