-- What is kept of a manifest while its records are read.
use Rattle.std.specs.Prelude.{◌≡◌, ◌≤◌, ◌+◌, ◌==◌, ◌++◌, ◌∷◌, ℕ, Bool, true, List, [], length, map, take, drop, Option, Some, None, Result, Ok, Err, if◌then◌else◌}
use Rattle.manifest_edits.specs.Edits.{Edit as NamedEdit, GroupRecord, ManifestReading, edited_by, edits_of, ends_with_last, follows_in_group, read_record}
use Rattle.manifest_edits.specs.Logs.{LogReading}
use Rattle.st_gate.specs.declared.fault.ReplayFault.{ReplayFault}
use Rattle.st_gate.specs.declared.fault.ReplayFault.TheVariants.{Damaged, DiskFault, OutOfMemory}
use Rattle.st_manifest.specs.Edit.{as_edit}
use Rattle.st_manifest.specs.Judging.{IsNamedSoFar}
use Rattle.st_manifest.specs.Manifest.{manifest_replayed}
use Rattle.st_manifest.specs.declared.replay.Replaying.{Replaying}

-- whether a record that so many follow may come behind one that had so many behind it, if there is one
abbrev pub follows_left : Option ℕ → ℕ → Bool
follows_left None next = true
follows_left (Some left) next = left == (next + 1)

-- the damage in a whole group of these edits, whose last record is at this offset
abbrev pub group_damage : Option ℕ → List NamedEdit → ℕ → Option ℕ
group_damage (Some fault) edits at = Some fault
group_damage None edits at = if ends_with_last edits then None else Some at

-- These edits are of whole groups, and so many of what was read; the others are of the group that is begun.
pub record IsReplaying (replaying : Replaying) (reading : ManifestReading) (found : List NamedEdit) : Type 0 where
  pub within : replaying.whole ≤ length replaying.edits
  pub whole : map as_edit (take replaying.whole replaying.edits) ≡ found
  pub begun : map as_edit (drop replaying.whole replaying.edits) ≡ edits_of reading.begun
  pub follows : (next : GroupRecord) → follows_in_group reading.begun next ≡ follows_left replaying.left next.left
  pub named : IsNamedSoFar replaying.index replaying.fault (edited_by reading.named reading.begun)

-- the edits of the whole groups after a record
abbrev pub found_with : List NamedEdit → List GroupRecord → GroupRecord → List NamedEdit
found_with found begun next = if next.left == 0 then found ++ edits_of (begun ++ next ∷ []) else found

-- the record was taken, where it reads so; or it shows damage
abbrev pub HasRead : Replaying → Option ℕ → List NamedEdit → Result ManifestReading ℕ → Type 0
HasRead new damage found (Err at) = damage ≡ Some at
HasRead new damage found (Ok after) = (damage ≡ None) × IsReplaying new after found

-- the same of a record at this offset that may not be of the kind
abbrev pub HasTaken : Replaying → Option ℕ → ℕ → ManifestReading → List NamedEdit → Option GroupRecord → Type 0
HasTaken new damage at reading found None = damage ≡ Some at
HasTaken new damage at reading found (Some next) =
    HasRead new damage (found_with found reading.begun next) (read_record reading next)

-- damage is told where the manifest has its first
abbrev pub IsManifestDamage : ℕ → LogReading GroupRecord → ReplayFault → Type 0
IsManifestDamage file reading (Damaged where_file at) = (where_file ≡ file) × (manifest_replayed reading ≡ Err at)
IsManifestDamage file reading DiskFault = Unit {0}
IsManifestDamage file reading OutOfMemory = Unit {0}
