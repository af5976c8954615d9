use Rattle.std.proofs.Common.{◌≡◌, ◌∙◌, ap, sym, subst}
use Rattle.std.specs.Prelude.{is_some}
use Rattle.ingest_app.specs.Client.{AreClientsAnswered, EndsAnswered}
use Rattle.ingest_app.specs.Run.{one_client}
use Rattle.ingest_app.specs.declared.status.Status.{Status}
use Rattle.ingest_app.proofs.Opening.{answered_as}
use Rattle.ingest_app.proofs.client_run.run_engine.Goals as goal

pub returns-in-Ok-clause-ends : goal.returns-in-Ok-clause-ends
returns-in-Ok-clause-ends g c = λ opening h fresh.
    let clients = one_client c.args.name.now c.args.script.now.commands in
    let mid = g.D.Disk.tells c.args.engine.disk in
    let after = g.D.Disk.tells c.close-disk.result in
    let stopped_is : c.is_some-stopped.result ≡ is_some c.answer_script-answered.new.engine.stopped = c.is_some-stopped.ensures ∙ ap is_some c.stopped.ensures in
    let answered = subst (λ disk. AreClientsAnswered clients c.in-Ok.text opening mid (g.D.Disk.tells disk) c.is_some-stopped.result) (sym c.close-disk.ensures)
    (subst (λ b. AreClientsAnswered clients c.in-Ok.text opening mid (g.D.Disk.tells c.answer_script-answered.new.engine.disk) b) (sym stopped_is) (c.in-Ok.ensures.answered opening h fresh)) in
    subst (λ (s : Status). EndsAnswered clients opening mid after s c.in-Ok.text) (sym c.answered_status-status.ensures)
    (answered_as clients c.in-Ok.text opening mid after c.is_some-stopped.result _ answered)
