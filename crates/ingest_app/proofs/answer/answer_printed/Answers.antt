use Rattle.std.proofs.Common.{◌≡◌, None}
use Rattle.st_device.specs.Disk.{Image, IsHonest}
use Rattle.log_engine.specs.Engine.{OpensTo}
use Rattle.log_engine.proofs.Writing.{tied_opens}
use Rattle.ingest_app.proofs.Answering.{cut_reads, long_steps}
use Rattle.ingest_app.proofs.answer.answer_printed.Goals as goal

pub returns-then-is_cut-clause-steps : goal.returns-then-is_cut-clause-steps
returns-then-is_cut-clause-steps g c = λ state h.
    let engine = c.args.engine.now in
    let disk = g.D.Disk.tells engine.disk in
    let opens : IsHonest disk → engine.stopped ≡ None → (image : Image) → disk.now image → OpensTo state image = λ honest running image now. tied_opens engine.wal engine.store state (c.requires.ready honest running) h image now in
    long_steps engine.store engine.stopped disk state c.args.command.now c.place.result h (c.place.ensures state h)
    (cut_reads c.args.command.now _ c.is_cut.result c.is_cut.ensures c.if-is_cut.true)
    (λ honest running image left. opens honest running image ((g.met.D.Disk.clock engine.disk).only_now image left)) opens
