-- A store on a disk, whose log may be appended to.
use Rattle.std.specs.Prelude.{◌≡◌, ℕ, None, IsSome}
use Rattle.st_device.specs.Disk.{DiskTold, IsDurable}
use Rattle.st_wal.specs.Wal.{IsReady, operations}
use Rattle.st_wal.specs.declared.wal.Wal.{Wal}
use Rattle.log_recover.specs.Opens.{first_log_fault}

-- the mark and the log are there, and a crash now leaves them as they read
pub record IsStore (wal : Wal) (disk : DiskTold) : Type 0 where
  pub file : wal.log.file ≡ 3
  pub ready : IsReady wal disk
  pub marked : IsSome (disk.reads 1)
  pub durable : IsDurable 1 disk
  pub sound : first_log_fault 0 (operations wal disk) ≡ None

-- a crash now leaves of each file what it reads
abbrev pub IsSettled : DiskTold → Type 0
IsSettled disk = (file : ℕ) → IsDurable file disk
