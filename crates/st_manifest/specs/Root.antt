-- The root file: which manifest counts, and the store's flag.
--
--   version 1 (fixed32) | the manifest's file (fixed64) | behind, 0 or 1
use Rattle.std.specs.Prelude.{◌≡◌, ◌<◌, ◌==◌, ◌&&◌, ◌++◌, ◌∷◌, nat_le, IsSome, ℕ, Bool, true, false, List, [], length, slice_get, Option, Some, None, Result, Ok, Err, if◌then◌else◌}
use Rattle.st_code.specs.Fixed.{fixed32, fixed64, fixed32_at}
use Rattle.st_device.specs.Disk.{DiskTold, Image}
use Rattle.st_gate.specs.Kind.{kind_bytes}
use Rattle.st_gate.specs.Rest.{IsAtRest}
use Rattle.st_gate.specs.declared.fault.ReplayFault.{ReplayFault}
use Rattle.st_gate.specs.declared.fault.ReplayFault.TheVariants.{Damaged, DiskFault, OutOfMemory}
use Rattle.st_gate.specs.declared.gate.GateLog.{GateLog}
use Rattle.st_gate.specs.declared.kind.LogKind.TheVariants.{Root}
use Rattle.st_gate.specs.declared.record.Record.{Record}
use Rattle.manifest_edits.specs.Logs.{LogReading, LogAbsent, LogFound, records_in}
use Rattle.st_manifest.specs.Payload.{file_at}
use Rattle.st_manifest.specs.Readings.{file_reading}

abbrev pub flag_byte : Bool → ℕ
flag_byte true = 1
flag_byte false = 0

abbrev pub written_root : ℕ → Bool → List ℕ
written_root file behind = fixed32 1 ++ (fixed64 file ++ flag_byte behind ∷ [])

abbrev pub root_fields : Option ℕ → Option ℕ → Option ℕ → Option (ℕ × Bool)
root_fields None file flag = None
root_fields (Some version) None flag = None
root_fields (Some version) (Some file) None = None
root_fields (Some version) (Some file) (Some flag) =
    if version == 1 && nat_le flag 1 then Some (file, flag == 1) else None

-- the manifest and the flag of a payload; none, where it isn't of the kind
unfoldable pub root_payload : List ℕ → Option (ℕ × Bool)
root_payload bytes =
    if length bytes == 13 then root_fields (fixed32_at bytes 0) (file_at bytes 4) (slice_get bytes 12) else None

abbrev pub root_record : Record → Option (ℕ × Bool)
root_record one = root_payload one.payload

-- what a file reads as a root
abbrev pub root_read : Option (List ℕ) → LogReading (ℕ × Bool)
root_read this = file_reading root_record (kind_bytes Root) this

-- the last of these
abbrev pub last_root : Option (ℕ × Bool) → List (ℕ × Bool) → Option (ℕ × Bool)
last_root before [] = before
last_root before (one ∷ more) = last_root (Some one) more

-- the last record of a root that is whole, if it has one or one was before; or the offset of its damage
abbrev pub root_last_after : Option (ℕ × Bool) → LogReading (ℕ × Bool) → Result (Option (ℕ × Bool)) ℕ
root_last_after before LogAbsent = Err 0
root_last_after before (LogFound records None) = Ok (last_root before records)
root_last_after before (LogFound records (Some at)) = Err at

abbrev pub root_last : LogReading (ℕ × Bool) → Result (Option (ℕ × Bool)) ℕ
root_last reading = root_last_after None reading

-- no file above 1 is there
abbrev pub HasNoMore : Image → Type 0
HasNoMore image = (file : ℕ) → 1 < file → image file ≡ None

-- What an image's root says, by whether file 1 is there: its last record. A root without records is that of a new store,
-- and so is an image without file 1 and without a file above it.
abbrev pub IsRootOf : Image → Option (List ℕ) → Option (ℕ × Bool) → Type 0
IsRootOf image None found = (found ≡ None) × HasNoMore image
IsRootOf image (Some mark) found = root_last (root_read (image 0)) ≡ Ok found

-- Damage is told where the image has it: in file 1, where it isn't there beside files above it, or in the root.
abbrev pub IsRootDamage : Image → Option (List ℕ) → ReplayFault → Type 0
IsRootDamage image None (Damaged file at) =
    (file ≡ 1) × (at ≡ 0) × ((other : ℕ) × (1 < other) × IsSome (image other))
IsRootDamage image (Some mark) (Damaged file at) = (file ≡ 0) × (root_last (root_read (image 0)) ≡ Err at)
IsRootDamage image mark DiskFault = Unit {0}
IsRootDamage image mark OutOfMemory = Unit {0}

-- the root stands at its closed gate, is whole, and a crash now leaves of its file what it reads
pub record IsRootReady (root : GateLog) (disk : DiskTold) : Type 0 where
  pub kind : root.kind ≡ Root
  pub rest : IsAtRest root disk
  pub whole : root_read (disk.reads root.file) ≡ LogFound (records_in (root_read (disk.reads root.file))) None
