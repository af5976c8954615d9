use Rattle.std.proofs.Common.{◌≡◌, ◌⊎◌, None, take}
use Rattle.st_base.specs.Count.{Rose}
use Rattle.st_device.specs.Disk.{Passes}
use Rattle.log_engine.specs.Engine.{IsReadyOn, Stands, capacity_of}
use Rattle.st_model.specs.declared.state.ModelState.{ModelState}
use Rattle.st_model.specs.State.{IsOpening}
use Rattle.ingest_app.specs.Client.{commands_alone}
use Rattle.ingest_app.proofs.Along.{Along}
use Rattle.ingest_app.proofs.client.answer_script.Given as goal

-- from each state that the store stood for, the calls so far are answered
abbrev pub invariant-loop-numbered : goal.invariant-loop-numbered
invariant-loop-numbered g l = record {
  passes : Passes (g.D.Disk.tells l.initial.engine.disk) (g.D.Disk.tells l.engine.disk);
  capacity : capacity_of l.engine ≡ capacity_of l.initial.engine;
  cause : (l.engine.stopped ≡ None) ⊎ Rose (g.D.Disk.tells l.initial.engine.disk).faults (g.D.Disk.tells l.engine.disk).faults;
  ready : IsReadyOn l.engine (g.D.Disk.tells l.engine.disk);
  along : (opening : ModelState) → Stands l.initial.engine opening → IsOpening opening
      → Along l.name l.text opening (g.D.Disk.tells l.initial.engine.disk) (g.D.Disk.tells l.engine.disk) (Stands l.engine) l.engine.stopped (commands_alone (take l.numbered-index l.numbered-items));
}
