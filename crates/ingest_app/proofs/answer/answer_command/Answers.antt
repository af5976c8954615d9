use Rattle.std.proofs.Common.{◌≡◌, None, sym, subst}
use Rattle.std.specs.Prelude.{IfOk}
use Rattle.st_device.specs.Disk.{Image, IsHonest}
use Rattle.log_engine.specs.Engine.{OpensTo, Stands, capacity_of}
use Rattle.log_engine.proofs.Writing.{tied_opens}
use Rattle.st_model.specs.declared.command.Command.{Command}
use Rattle.st_model.specs.declared.state.ModelState.{ModelState}
use Rattle.st_model.specs.Reads.{get_answer}
use Rattle.ingest_app.specs.Answer.{EngineSteps, EngineAnswers, answered_call}
use Rattle.ingest_app.specs.declared.answer.Answer.{Answer}
use Rattle.ingest_app.proofs.Answering.{get_steps, if_ok_map}
use Rattle.ingest_app.proofs.answer.answer_command.Goals as goal

pub returns-in-Write-clause-steps : goal.returns-in-Write-clause-steps
returns-in-Write-clause-steps g c =
    let old = c.args.engine.now in
    let new = c.answer_write.new.engine in
    subst (λ (command : Command). IfOk c.answer_write.result (EngineAnswers g.D.Disk.tells old new command))
    (sym c.in-Write.is) c.answer_write.ensures.steps

pub returns-in-Get-clause-steps : goal.returns-in-Get-clause-steps
returns-in-Get-clause-steps g c =
    let engine = c.args.engine.now in
    let disk = g.D.Disk.tells engine.disk in
    if_ok_map (λ (answer : Answer). (state : ModelState) → Stands engine state → (answer.place ≡ state.place) × (answer.reply ≡ get_answer state state.last c.in-Get.family c.in-Get.key))
    (EngineAnswers g.D.Disk.tells engine engine c.args.command.now) c.answer_get.result
    (λ answer says state h.
    let opens : IsHonest disk → engine.stopped ≡ None → (image : Image) → disk.now image → OpensTo state image = λ honest running image now. tied_opens engine.wal engine.store state (c.requires.ready honest running) h image now in
    subst (λ (command : Command). EngineSteps (capacity_of engine) (Stands engine) engine.stopped engine.stopped disk disk state (answered_call command answer)) (sym c.in-Get.is)
    (get_steps engine.store engine.stopped disk state c.in-Get.family c.in-Get.key answer h (says state h).0 (says state h).1
    (λ honest running image left. opens honest running image ((g.met.D.Disk.clock engine.disk).only_now image left)) opens))
    c.answer_get.ensures.answered
