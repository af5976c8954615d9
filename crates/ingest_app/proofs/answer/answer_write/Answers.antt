use Rattle.std.proofs.Common.{◌≡◌, ◌⊎◌, ⊎_elim, inl, inr, ◌∙◌, None, Err, false, ap, sym, subst}
use Rattle.st_device.specs.Disk.{Image, IsHonest, Leaves}
use Rattle.log_engine.specs.Engine.{OpensTo, Stands, capacity_of, state_written}
use Rattle.log_engine.proofs.Writing.{tied_opens}
use Rattle.st_model.specs.declared.command.Command.TheVariants.{Write}
use Rattle.st_model.specs.declared.refusal.Refusal.{Refusal}
use Rattle.st_model.specs.declared.refusal.Refusal.TheVariants.{DiskFault}
use Rattle.st_model.specs.declared.reply.Reply.TheVariants.{Refused}
use Rattle.st_model.specs.Causes.{is_stop}
use Rattle.ingest_app.specs.Answer.{EngineSteps, answered_call}
use Rattle.ingest_app.proofs.Answering.{accepted_steps, fault_or, no_stop_of, refused_steps, running_of}
use Rattle.ingest_app.proofs.answer.answer_write.Goals as goal

pub returns-in-Ok-clause-steps : goal.returns-in-Ok-clause-steps
returns-in-Ok-clause-steps g c = λ state h.
    let old = c.args.engine.now in
    let new = c.write.new.self in
    let e = c.in-Ok.ensures in
    let running : old.stopped ≡ None = running_of old.stopped (λ some. cc (e.stopped.1 some)) in
    let numbers = e.numbers state h in
    accepted_steps old.store new.store old.stopped new.stopped (g.D.Disk.tells old.disk) (g.D.Disk.tells new.disk) state c.args.batch.now c.in-Ok.wrote.place c.in-Ok.wrote.last h running (e.stop_unchanged (λ fault. cc fault) ∙ running) numbers.unrefused numbers.place numbers.last (e.accepted state h)
    (λ honest. e.crash honest running state h) (λ honest. e.after honest state h)

pub returns-in_ok-shown-in-Err-clause-steps : goal.returns-in_ok-shown-in-Err-clause-steps
returns-in_ok-shown-in-Err-clause-steps g c = λ state h.
    let old = c.args.engine.now in
    let new = c.write.new.self in
    let batch = c.args.batch.now in
    let refusal : Refusal = c.in-Err.refusal in
    let before = g.D.Disk.tells old.disk in
    let after_it = g.D.Disk.tells new.disk in
    let e = c.in-Err.ensures in
    let stops : refusal ≡ DiskFault → new.stopped ≡ None → ⊥ = λ fault none. cc (sym (e.fault (ap Err fault)) ∙ none) in
    let stays : (refusal ≡ DiskFault → ⊥) → new.stopped ≡ old.stopped = λ other. e.stop_unchanged (λ is. other (cc is)) in
    let opens : IsHonest before → old.stopped ≡ None → (image : Image) → before.now image → OpensTo state image = λ honest running image now. tied_opens old.wal old.store state (c.requires.ready honest running) h image now in
    let still : new.stopped ≡ None → (old.stopped ≡ None) × (is_stop (Refused refusal) ≡ false) = λ none. ⊎_elim
    (λ (fault : refusal ≡ DiskFault). absurd (stops fault none))
    (λ (other : refusal ≡ DiskFault → ⊥).
    let running : old.stopped ≡ None = sym (stays other) ∙ none in
    (running, no_stop_of refusal other (λ stopped. cc (sym (e.stopped.0 (ap Err stopped)) ∙ ap Rattle.std.specs.Option.is_some running))))
    (fault_or refusal) in
    let crash : IsHonest before → old.stopped ≡ None → Leaves (λ image. OpensTo state image ⊎ ((refusal ≡ DiskFault) × OpensTo (state_written state batch) image)) before after_it = λ honest running image left. ⊎_elim
    (λ (fault : refusal ≡ DiskFault). ⊎_elim (λ (b : OpensTo state image). inl b) (λ (a : OpensTo (state_written state batch) image). inr (fault, a)) (e.crash honest running state h image left))
    (λ (other : refusal ≡ DiskFault → ⊥). inl (opens honest running image ((g.met.D.Disk.clock old.disk).only_now image (subst (λ disk. (g.D.Disk.tells disk).since before.moment image) (e.untouched other) left))))
    (fault_or refusal) in
    let whole : IsHonest before → new.stopped ≡ None → (image : Image) → after_it.now image → OpensTo state image = λ honest none image now. ⊎_elim
    (λ (fault : refusal ≡ DiskFault). absurd (stops fault none))
    (λ (other : refusal ≡ DiskFault → ⊥). opens honest (sym (stays other) ∙ none) image (subst (λ disk. (g.D.Disk.tells disk).now image) (e.untouched other) now))
    (fault_or refusal) in
    subst (λ (shown : Refusal). EngineSteps (capacity_of old) (Stands new) old.stopped new.stopped before after_it state (answered_call (Write batch) (record { place = c.place.result; reply = Refused shown }))) (sym c.in_ok-shown-in-Err.ensures.same)
    (refused_steps old.store new.store old.stopped new.stopped before after_it state batch c.place.result refusal h (e.unchanged state h) (c.place.ensures state (e.unchanged state h)) c.in_ok-shown-in-Err.ensures.memory (e.refused state h) still
    (λ stopped. e.stopped.0 (ap Err stopped)) (λ some. cc (e.stopped.1 some)) crash whole)
