use Rattle.std.proofs.Common.{◌≡◌, ℕ, ◌≤◌, ◌-◌, Some, length, take}
use Rattle.st_device.specs.Disk.{ChangesDisk, IsHonest, OnlyFile}
use Rattle.whole_files.proofs.writing.write_pieces.Given as goal

-- the first bytes are written
abbrev pub invariant-loop-at : goal.invariant-loop-at
invariant-loop-at g l = record {
  within : l.at ≤ length l.bytes;
  call : ChangesDisk (g.D.Disk.tells l.fn.disk) (g.D.Disk.tells l.disk) (g.D.Disk.tells l.fn.disk).top ⊥;
  only : IsHonest (g.D.Disk.tells l.fn.disk) → OnlyFile l.file (λ _. Unit {0}) (g.D.Disk.tells l.fn.disk) (g.D.Disk.tells l.disk);
  written : IsHonest (g.D.Disk.tells l.fn.disk) → (g.D.Disk.tells l.disk).reads l.file ≡ Some (take l.at l.bytes);
}

abbrev pub decreases-loop-at : goal.decreases-loop-at
decreases-loop-at g l = length l.bytes - l.at
