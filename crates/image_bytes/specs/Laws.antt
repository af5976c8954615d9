-- What an append to a log does to the parts of an image.
use Rattle.std.specs.Prelude.{◌≡◌, ◌≢◌, ◌++◌, ◌∷◌, ℕ, List, [], map, None, Ok, Option}
use Rattle.std.specs.List.{AllByRecursion as Each}
use Rattle.st_device.specs.Disk.{Image, SameBut}
use Rattle.st_wal.specs.Logged.{IsWithOrWithout, read_as_log}
use Rattle.st_wal.specs.Logged.Operations.{Whole}
use Rattle.st_wal.specs.declared.logged.Logged.{Logged}
use Rattle.manifest_edits.specs.Edits.{GroupRecord, files_in, manifest_reading_none, read_records}
use Rattle.manifest_edits.specs.Logs.{HasAllOrNone, LogFound, with_more}
use Rattle.st_manifest.specs.Manifest.{manifest_read}
use Rattle.store_image.specs.Steps.{HasMore}
use Rattle.store_image.specs.Tie.{EngineFiles}
use Rattle.image_bytes.specs.Parts.{image_parts, log_op, log_read}

-- a log that reads as before, or with a write's operations: as `Wal::append` says of each image of a crash within it
abbrev pub WriteIsAllOrNone : Type 0
WriteIsAllOrNone = (before this : Option (List ℕ)) (ops more : List Logged) (end : ℕ) → read_as_log before ≡ Whole ops end
    → IsWithOrWithout ops more (read_as_log this) → HasAllOrNone (log_read before) (map log_op more) (log_read this)

-- a log that reads with them, as after its Ok
abbrev pub WriteIsMore : Type 0
WriteIsMore = (before this : Option (List ℕ)) (ops more : List Logged) (end far : ℕ) → read_as_log before ≡ Whole ops end
    → read_as_log this ≡ Whole (ops ++ more) far → log_read this ≡ with_more (log_read before) (map log_op more)

-- an image in which the manifest alone has changed, by some of a group's records more
abbrev pub GroupIsSomeMore : Type 0
GroupIsSomeMore = (files : EngineFiles) (image other : Image) (records more : List GroupRecord)
    → Each (λ file. file ≢ files.manifest) (0 ∷ 1 ∷ files_in files.named)
    → SameBut files.manifest image other → manifest_read (image files.manifest) ≡ LogFound records None
    → read_records manifest_reading_none records ≡ Ok (record { named = files.named; begun = [] })
    → manifest_read (other files.manifest) ≡ with_more (manifest_read (image files.manifest)) more
    → HasMore files (image_parts image) (image_parts other) more
