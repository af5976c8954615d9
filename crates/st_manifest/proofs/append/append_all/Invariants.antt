use Rattle.std.proofs.Common.{◌≡◌, ◌++◌, take}
use Rattle.st_device.specs.Disk.{IsHonest, OnlyFile, Passes}
use Rattle.st_gate.specs.Kind.{kind_bytes}
use Rattle.st_gate.specs.Log.{replayed}
use Rattle.st_gate.specs.Rest.{IsAtRest, records}
use Rattle.st_manifest.specs.Behind.{HasLaid}
use Rattle.st_manifest.specs.Laid.{gate_behind, laid_records}
use Rattle.st_manifest.proofs.append.append_all.Given as goal

abbrev pub invariant-loop-payload : goal.invariant-loop-payload
invariant-loop-payload g l = record {
  passes : Passes (g.D.Disk.tells l.initial.disk) (g.D.Disk.tells l.disk);
  top : (g.D.Disk.tells l.disk).top ≡ (g.D.Disk.tells l.initial.disk).top;
  kind : l.log.kind ≡ l.initial.log.kind;
  file : l.log.file ≡ l.initial.log.file;
  at : l.log.at ≡ gate_behind l.initial.log.at (take l.payload-index l.payloads);
  crash : IsHonest (g.D.Disk.tells l.initial.disk) → OnlyFile l.initial.log.file (λ this. HasLaid (records l.initial.log (g.D.Disk.tells l.initial.disk)) l.initial.log.at l.payloads (replayed (kind_bytes l.initial.log.kind) this)) (g.D.Disk.tells l.initial.disk) (g.D.Disk.tells l.disk);
  rest : IsHonest (g.D.Disk.tells l.initial.disk) → IsAtRest l.log (g.D.Disk.tells l.disk);
  all : IsHonest (g.D.Disk.tells l.initial.disk) → records l.log (g.D.Disk.tells l.disk) ≡ records l.initial.log (g.D.Disk.tells l.initial.disk) ++ take l.payload-index (laid_records l.initial.log.at l.payloads);
}
