-- What a begun group and a whole one do to the edits of a manifest.
use Rattle.std.specs.Prelude.{◌≡◌, ◌++◌, List, [], None, Some, Ok}
use Rattle.manifest_edits.specs.Edits.{Edit, GroupRecord, ManifestReading, Named, edited_all, edits_of, manifest_reading_none, named_none, read_records}
use Rattle.manifest_edits.specs.Groups.{IsGroup}
use Rattle.manifest_edits.specs.Logs.{LogFound}
use Rattle.st_manifest.specs.Manifest.{IsGroupOrNot, manifest_replayed}

-- behind whole groups the first records of a group add no edit, and all of them the group's
abbrev pub GroupIsAtomic : Type 0
GroupIsAtomic = (named after : Named) (before group front rest : List GroupRecord)
    → read_records manifest_reading_none before ≡ Ok (record { named = named; begun = [] }) → IsGroup named after group
    → group ≡ front ++ rest
    → IsGroupOrNot (edits_of before) (edits_of group) (manifest_replayed (LogFound (before ++ front) None))

-- The edits that are replayed of records name what the records name.
abbrev pub ReplayedNameThat : Type 0
ReplayedNameThat = (records : List GroupRecord) (edits : List Edit) → manifest_replayed (LogFound records None) ≡ Ok edits
    → (reading : ManifestReading) × ((read_records manifest_reading_none records ≡ Ok reading) × (edited_all named_none edits ≡ Some reading.named))
