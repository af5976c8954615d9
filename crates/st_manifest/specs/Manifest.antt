-- What a file reads as a manifest, and a manifest on a disk.
use Rattle.std.specs.Prelude.{◌≡◌, ◌⊎◌, ◌==◌, ◌++◌, ◌∷◌, ℕ, List, [], Option, None, Some, option_map, Result, Ok, Err, if◌then◌else◌}
use Rattle.st_device.specs.Disk.{DiskTold}
use Rattle.st_gate.specs.Kind.{kind_bytes}
use Rattle.st_gate.specs.Rest.{IsAtRest}
use Rattle.st_gate.specs.declared.kind.LogKind.TheVariants.{Manifest as ManifestKind}
use Rattle.st_gate.specs.declared.record.Record.{Record}
use Rattle.manifest_edits.specs.Edits.{Edit, GroupRecord, ManifestReading, Named, edits_of, manifest_reading_none, named_none, read_records}
use Rattle.manifest_edits.specs.Logs.{LogReading, LogAbsent, LogFound, records_in}
use Rattle.st_manifest.specs.Payload.{payload_read}
use Rattle.st_manifest.specs.Readings.{file_reading}
use Rattle.st_manifest.specs.declared.manifest.Manifest.{Manifest}

abbrev pub group_record_at : ℕ → ℕ × List Edit → GroupRecord
group_record_at at found = record { at = at; left = found.0; edits = found.1 }

-- a record as one of a group; none, where its payload isn't of the kind
abbrev pub group_record : Record → Option GroupRecord
group_record one = option_map (group_record_at one.at) (payload_read one.payload)

-- what a file reads as a manifest
abbrev pub manifest_read : Option (List ℕ) → LogReading GroupRecord
manifest_read this = file_reading group_record (kind_bytes ManifestKind) this

-- ---- whole groups

-- the records of the whole groups, where these were begun before
abbrev pub whole_records : List GroupRecord → List GroupRecord → List GroupRecord
whole_records begun [] = []
whole_records begun (next ∷ more) =
    if next.left == 0 then begun ++ next ∷ whole_records [] more else whole_records (begun ++ next ∷ []) more

-- the edits of the whole groups, where no edit is faulty and the log is whole; or the place of the first damage
abbrev pub edits_or_damage : List GroupRecord → Option ℕ → Result ManifestReading ℕ → Result (List Edit) ℕ
edits_or_damage records end (Err at) = Err at
edits_or_damage records None (Ok reading) = Ok (edits_of (whole_records [] records))
edits_or_damage records (Some at) (Ok reading) = Err at

abbrev pub manifest_replayed : LogReading GroupRecord → Result (List Edit) ℕ
manifest_replayed LogAbsent = Err 0
manifest_replayed (LogFound records end) = edits_or_damage records end (read_records manifest_reading_none records)

-- these edits, or these and the others
abbrev pub IsGroupOrNot : List Edit → List Edit → Result (List Edit) ℕ → Type 0
IsGroupOrNot edits more found = (found ≡ Ok edits) ⊎ (found ≡ Ok (edits ++ more))

-- ---- on a disk

-- the records of a manifest
abbrev pub group_records : Manifest → DiskTold → List GroupRecord
group_records manifest disk = records_in (manifest_read (disk.reads manifest.log.file))

abbrev pub named_by : Result ManifestReading ℕ → Named
named_by (Ok reading) = reading.named
named_by (Err at) = named_none

-- what its whole groups name
abbrev pub names : Manifest → DiskTold → Named
names manifest disk = named_by (read_records manifest_reading_none (group_records manifest disk))

-- The manifest is whole and stands at its closed gate, with whole groups alone, and a crash now leaves of its file what
-- it reads.
pub record IsManifestReady (manifest : Manifest) (disk : DiskTold) : Type 0 where
  pub kind : manifest.log.kind ≡ ManifestKind
  pub rest : IsAtRest manifest.log disk
  pub whole : manifest_read (disk.reads manifest.log.file) ≡ LogFound (group_records manifest disk) None
  pub right : read_records manifest_reading_none (group_records manifest disk)
      ≡ Ok (record { named = names manifest disk; begun = [] })
