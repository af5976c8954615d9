-- What an image of a disk opens to.
--
-- File 1 is the mark that the store is whole, and file 3 its write-ahead log. Without the mark the store is a new one.
-- With it the operations of the log are the store, where the log is whole, each family is `default`, and the sequence
-- numbers rise from above 0 on. Of several faults the first counts.
use Rattle.std.specs.Prelude.{◌≡◌, ◌==◌, ◌&&◌, nat_lt, ℕ, List, [], ◌∷◌, Option, Some, None, Result, Ok, Err, if◌then◌else◌, unwrap_or}
use Rattle.st_device.specs.Disk.{Image}
use Rattle.st_wal.specs.Logged.{Operations, read_as_log}
use Rattle.st_wal.specs.Logged.Operations.{Whole, Broken}
use Rattle.st_wal.specs.declared.logged.Logged.{Logged}
use Rattle.log_recover.specs.declared.fault.OpenFault.{OpenFault}
use Rattle.log_recover.specs.declared.fault.OpenFault.TheVariants.{Damaged, DiskFault, OutOfMemory}

-- a file that is damaged, and the offset from which on it is
pub record Damage : Type 0 where
  pub file : ℕ
  pub at : ℕ

-- the offset of the record of the first operation that isn't one of `default`, or whose number doesn't rise
abbrev pub first_log_fault : ℕ → List Logged → Option ℕ
first_log_fault last [] = None
first_log_fault last (op ∷ ops) = if (op.family == 0) && nat_lt last op.number then first_log_fault op.number ops else Some op.at

-- the last sequence number after these operations
abbrev pub last_number : ℕ → List Logged → ℕ
last_number last [] = last
last_number last (op ∷ ops) = last_number op.number ops

abbrev pub log_damage : ℕ → Damage
log_damage at = record { file = 3; at = at }

-- the operations, unless one is at fault
abbrev pub checked : List Logged → Option ℕ → Result (List Logged) Damage
checked ops None = Ok ops
checked ops (Some at) = Err (log_damage at)

abbrev pub log_opens : Operations → Result (List Logged) Damage
log_opens (Whole ops end) = checked ops (first_log_fault 0 ops)
log_opens (Broken ops at) = Err (log_damage (unwrap_or (first_log_fault 0 ops) at))

-- by what the mark's file and the log's file hold
abbrev pub files_open : Option (List ℕ) → Option (List ℕ) → Result (List Logged) Damage
files_open None log = Ok []
files_open (Some mark) log = log_opens (read_as_log log)

-- the operations that an image opens to, or its damage
abbrev pub opens : Image → Result (List Logged) Damage
opens image = files_open (image 1) (image 3)

-- damage is told where that is what was opened to, with its offset
abbrev pub IsDamageOf : {T : Type 0} → Result T Damage → OpenFault → Type 0
IsDamageOf opened (Damaged file at) = opened ≡ Err (record { file = file; at = at })
IsDamageOf opened DiskFault = Unit {0}
IsDamageOf opened OutOfMemory = Unit {0}
