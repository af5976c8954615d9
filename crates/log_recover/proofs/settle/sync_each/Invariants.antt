use Rattle.std.proofs.Common.{◌≡◌, ℕ, ◌<◌, slice_index}
use Rattle.st_device.specs.Disk.{IsHonest, Leaves, Passes, IsDurable}
use Rattle.log_recover.proofs.settle.sync_each.Given as goal

abbrev pub invariant-loop-name : goal.invariant-loop-name
invariant-loop-name g l = record {
  passes : Passes (g.D.Disk.tells l.initial.disk) (g.D.Disk.tells l.disk);
  top : (g.D.Disk.tells l.disk).top ≡ (g.D.Disk.tells l.initial.disk).top;
  crash : IsHonest (g.D.Disk.tells l.initial.disk) → Leaves (g.D.Disk.tells l.initial.disk).now (g.D.Disk.tells l.initial.disk) (g.D.Disk.tells l.disk);
  reads : IsHonest (g.D.Disk.tells l.initial.disk) → (file : ℕ) → (g.D.Disk.tells l.disk).reads file ≡ (g.D.Disk.tells l.initial.disk).reads file;
  settled : IsHonest (g.D.Disk.tells l.initial.disk) → (k : ℕ) → k < l.name-index → IsDurable (slice_index l.names k) (g.D.Disk.tells l.disk);
}
