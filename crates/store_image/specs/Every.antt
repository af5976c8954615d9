-- Every image without damage: what it names, and what an opening of it does.
use Rattle.std.specs.Prelude.{ℕ, Bool, true, false, ⊤, ◌≡◌, ◌<◌, ◌≤◌, ◌⊎◌, ◌+◌, IsTrue, length, filter, if◌then◌else◌, List, [], ◌∷◌, ◌++◌, None, Some, Ok}
use Rattle.std.specs.List.{AllByRecursion as Each}
use Rattle.st_base.specs.Bytes.{default_family}
use Rattle.st_base.specs.declared.entry.Entry.{Entry}
use Rattle.st_model.specs.declared.state.ModelState.{ModelState}
use Rattle.st_model.specs.Contents.{contents, opened}
use Rattle.core_model.specs.Crash.{IsFlushedByCrash, known_keys, rank}
use Rattle.core_model.specs.Event.{Crashed}
use Rattle.core_model.specs.declared.reply.CoreReply.{CoreReply}
use Rattle.core_model.specs.declared.reply.CoreReply.TheVariants.{Done}
use Rattle.core_model.specs.Relation.{Represents}
use Rattle.core_model.specs.Picture.{FamilyView, Core, memories}
use Rattle.core_model.specs.Run.{IsCoreStep, Refines}
use Rattle.core_model.specs.Step.{IsNow, AreFilesBelow, has_memory}
use Rattle.manifest_edits.specs.Edits.{NamedFamily, Named, GroupRecord, files_in, manifest_reading_none, read_records}
use Rattle.store_image.specs.Image.{image_contents_in, image_contents, image_known_keys}
use Rattle.store_image.specs.Opens.{OpenedImage, image_opens, image_opened, image_damage}
use Rattle.store_image.specs.Parts.{ImageParts, file_entries, table_at}
use Rattle.store_image.specs.Recover.{recovered_core, HasRows, HasOps, IsNamed}
use Rattle.store_image.specs.Steps.{SameNamed, OnlyUnnamed, HasLevelsOf, HasNewTable, IsReopenedNamed}
use Rattle.store_image.specs.Tie.{EngineFiles, IsApart, IsTiedToImage}
use Rattle.manifest_edits.specs.Logs.{LogFound, records_in, log_op_entry}
use Rattle.manifest_edits.specs.CallEdits.{flush_placement}
use Rattle.st_order.specs.Columns.{IsJoined}
use Rattle.core_model.specs.RelationParts.{IsSortedRun, FitsSizes}

-- ---- what an image names

-- the root's last record counts: the manifest of this file reads whole, and its whole groups name this
pub record IsRooted (parts : ImageParts) (behind : Bool) (manifest : ℕ) (named : Named) : Type 0 where
  pub marked : parts.marked ≡ true
  pub before : List (ℕ × Bool)
  pub root : parts.root ≡ LogFound (before ++ (manifest, behind) ∷ []) None
  pub records : List GroupRecord
  pub reads : parts.manifest manifest ≡ LogFound records None
  pub begun : List GroupRecord
  pub read : read_records manifest_reading_none records ≡ Ok (record { named = named; begun = begun })

-- a store that has no root record yet
abbrev pub IsUnrooted : ImageParts → Type 0
IsUnrooted parts =
    ((parts.marked ≡ false) × (parts.more ≡ false)) ⊎ ((parts.marked ≡ true) × (parts.root ≡ LogFound [] None))

-- what a new store names: the family `default`
abbrev pub default_named : Named
default_named = record {
  families = (default_family, record { id = 0; flushed = 0; tables = [] }) ∷ [];
  logs = [];
  last = 0;
}

-- what an image names, under the flag of the opening: by its root, or as a new store
abbrev pub Names : Bool → ImageParts → Bool → Named → Type 0
Names flag parts behind named = ((manifest : ℕ) × IsRooted parts behind manifest named)
    ⊎ (IsUnrooted parts × (behind ≡ flag) × (named ≡ default_named))

-- an image that opens to this
pub record IsOpenedAs (flag : Bool) (parts : ImageParts) (o : OpenedImage) : Type 0 where
  pub behind : Bool
  pub named : Named
  pub names : Names flag parts behind named
  pub right : IsNamed named
  pub is : image_opened behind parts named ≡ o
  pub none : image_damage parts named (image_opened behind parts named) ≡ None

-- each image that opens is one without damage
abbrev pub EveryOpens : Type 0
EveryOpens = (flag : Bool) (parts : ImageParts) (o : OpenedImage) → image_opens flag parts ≡ Ok o
    → IsOpenedAs flag parts o

-- ---- an opening, before the root's record

-- what is named reads the same; every other file may have changed
pub record OnlyUnread (parts other : ImageParts) (manifest : ℕ) (named : Named) : Type 0 where
  pub marked : other.marked ≡ parts.marked
  pub root : other.root ≡ parts.root
  pub reads : other.manifest manifest ≡ parts.manifest manifest
  pub same : SameNamed parts other named

-- a step of the opening on a file that nothing names; a store without a root record has none that is named
abbrev pub IsWithinOpening : ImageParts → ImageParts → Type 0
IsWithinOpening parts other = ((behind : Bool) × (manifest : ℕ) × (named : Named) × IsRooted parts behind manifest named
    × OnlyUnread parts other manifest named) ⊎ (IsUnrooted parts × IsUnrooted other)

-- it opens to the same, under either flag
abbrev pub WithinOpens : Type 0
WithinOpens = (flag : Bool) (parts other : ImageParts) → IsWithinOpening parts other
    → image_opens flag other ≡ image_opens flag parts

-- ---- the core's part

-- a crash is an event that refines, and it can come (proved with the core)
abbrev pub CrashRefines : Type 0
CrashRefines = (core : Core) (state : ModelState) (first : ℕ) (answer : CoreReply) (after : Core)
    → Represents core state → IsCoreStep core (Crashed first) answer after
    → Refines core state (Crashed first) answer after

-- the crash can come wherever it holds
abbrev pub CrashSteps : Type 0
CrashSteps = (core : Core) (state : ModelState) (first : ℕ) → Represents core state → IsNow core (Crashed first)
    → (after : Core) × IsCoreStep core (Crashed first) Done after

-- ---- an opening, with the root's record

-- what the new manifest names, family by family
abbrev pub AllRenamed : ImageParts → Core → ℕ → List (List ℕ × FamilyView) → List (List ℕ × FamilyView)
    → List (List ℕ × NamedFamily) → List (List ℕ × NamedFamily) → Type 0
AllRenamed parts core first [] [] [] [] = ⊤
AllRenamed parts core first (before ∷ cs) (after ∷ as_) (old ∷ ns) (new ∷ ms) =
    IsReopenedNamed parts core.last (first + rank core before.1.id) before after old new
    × AllRenamed parts core first cs as_ ns ms
AllRenamed parts core first cs as_ ns ms = ⊥

-- how many tables an opening makes: one for each family with counted operations
abbrev pub new_table_count : Core → ℕ
new_table_count core = length (filter has_memory core.families)

-- the file of the new manifest, behind the new tables
abbrev pub manifest_file : Core → ℕ → ℕ
manifest_file core first = first + new_table_count core

-- the file of the new log, behind the manifest
abbrev pub log_file : Core → ℕ → ℕ
log_file core first = manifest_file core first + 1

-- the root's records before the opening; a store that isn't marked yet has its root made anew
abbrev pub root_before : ImageParts → List (ℕ × Bool)
root_before parts = if parts.marked then records_in parts.root else []

-- The image once the root's record is open: it counts, its manifest names each family anew and the empty log as the
-- only one; what was named reads the same.
pub record IsReopened (parts other : ImageParts) (core after : Core) (first : ℕ) (old : Named)
    (files : EngineFiles) : Type 0 where
  -- the new manifest and the new log take the file numbers behind the new tables
  pub manifest_is : files.manifest ≡ manifest_file core first
  pub log_is : files.log ≡ log_file core first
  pub marked : IsTrue other.marked
  -- the root has the records that it had, and one more
  pub root_is : files.root ≡ root_before parts
  pub root : other.root ≡ LogFound (files.root ++ files.root_last ∷ []) None
  pub counts : files.root_last ≡ (files.manifest, core.behind)
  pub records : List GroupRecord
  pub manifest : other.manifest files.manifest ≡ LogFound records None
  pub read : read_records manifest_reading_none records ≡ Ok (record { named = files.named; begun = [] })
  -- the manifest and the new log are no other named file
  pub apart : IsApart files
  pub families : AllRenamed other core first core.families after.families old.families files.named.families
  pub same : SameNamed parts other old
  pub older : files.older_logs ≡ []
  pub logs : files.named.logs ≡ files.log ∷ []
  pub empty : other.log files.log ≡ LogFound [] None
  pub last : files.named.last ≡ core.last

-- After the opening the store stands for what was opened, with the keys of its entries known (in the order of the
-- core's walk, or of the image), and the image is tied to it; so it opens to the contents that were read.
pub record OpeningEnds (flag : Bool) (other : ImageParts) (core after : Core) (files : EngineFiles)
    (o : OpenedImage) : Type 0 where
  pub stands : Represents after (opened (image_contents o) (known_keys core))
  pub stands_known : Represents after (opened (image_contents o) (image_known_keys o))
  pub tied : IsTiedToImage after files [] other
  pub kept : contents (opened (image_contents o) (known_keys core)) ≡ image_contents o
  pub again : image_contents_in flag other ≡ Some (image_contents o)

-- each opening ends as it must, where the crash is a step of the model
abbrev pub EveryOpeningEnds : Type 0
EveryOpeningEnds =
    CrashRefines → (flag later : Bool) (parts other : ImageParts) (o : OpenedImage) (capacity first : ℕ) (after : Core)
    (files : EngineFiles) → (to : IsOpenedAs flag parts o) → HasRows o → HasOps o
    → IsCoreStep (recovered_core capacity o) (Crashed first) Done after
    → IsReopened parts other (recovered_core capacity o) after first to.named files
    → OpeningEnds later other (recovered_core capacity o) after files o

-- the opening can come to its end, where file numbers suffice
abbrev pub EveryOpeningSteps : Type 0
EveryOpeningSteps =
    CrashSteps → (flag : Bool) (parts : ImageParts) (o : OpenedImage) (capacity first : ℕ) → IsOpenedAs flag parts o
    → HasRows o → HasOps o → IsNow (recovered_core capacity o) (Crashed first)
    → (after : Core) × IsCoreStep (recovered_core capacity o) (Crashed first) Done after

-- ---- by the layers that know bytes

-- what they give of every file: a table's own entries are rows, and an
-- operation's key and value are within their limits
pub record IsDecoded (parts : ImageParts) : Type 0 where
  pub tables : (file : ℕ) → IsSortedRun (file_entries (parts.table file))
  pub logs : (file : ℕ) → Each (λ op. FitsSizes (log_op_entry op)) (records_in (parts.log file))

-- so what an opening reads has rows
abbrev pub DecodedHasRows : Type 0
DecodedHasRows = (flag : Bool) (parts : ImageParts) (o : OpenedImage) → IsDecoded parts → IsOpenedAs flag parts o
    → HasRows o × HasOps o

-- The opening's crash sentence, of every image without damage: an image within it opens to the same under either
-- flag, and with the root's record to the same contents, for which the store then stands, with the keys of its
-- entries known.
abbrev pub OpeningHolds : Type 0
OpeningHolds = (flag : Bool) (parts : ImageParts) (o : OpenedImage) → IsDecoded parts → image_opens flag parts ≡ Ok o
    → IsOpenedAs flag parts o
    × ((other : ImageParts) (later : Bool) → IsWithinOpening parts other
    → image_opens later other ≡ image_opens later parts)
    × ((to : IsOpenedAs flag parts o) (later : Bool) (other : ImageParts) (capacity first : ℕ) (after : Core)
    (files : EngineFiles) → IsCoreStep (recovered_core capacity o) (Crashed first) Done after
    → IsReopened parts other (recovered_core capacity o) after first to.named files
    → OpeningEnds later other (recovered_core capacity o) after files o)

-- the whole sentence, where the crash is a step of the model
abbrev pub EveryOpening : Type 0
EveryOpening = CrashRefines → OpeningHolds

-- and it can come to its end, where file numbers suffice
abbrev pub OpeningSteps : Type 0
OpeningSteps = (flag : Bool) (parts : ImageParts) (o : OpenedImage) (capacity first : ℕ) → IsDecoded parts
    → image_opens flag parts ≡ Ok o → IsNow (recovered_core capacity o) (Crashed first)
    → (after : Core) × IsCoreStep (recovered_core capacity o) (Crashed first) Done after

-- a number that a file may have: the greatest of 64 bits is none
abbrev pub IsFileNumber : ℕ → Type 0
IsFileNumber file = file < 18446744073709551615

-- file numbers suffice for an opening's new tables, its manifest and its log, all above those of the tables in place
pub record HasFileNumbers (core : Core) (first : ℕ) : Type 0 where
  pub below : AreFilesBelow core first
  pub suffice : first + new_table_count core + 2 ≤ 18446744073709551615

-- so the crash can come, and the manifest and the log have numbers of files
abbrev pub OpeningHasNumbers : Type 0
OpeningHasNumbers = (core : Core) (first : ℕ) → HasFileNumbers core first
    → IsNow core (Crashed first) × IsFileNumber (manifest_file core first) × IsFileNumber (log_file core first)

-- it can come to its end, where the crash can come
abbrev pub EveryOpeningCanEnd : Type 0
EveryOpeningCanEnd = CrashSteps → OpeningSteps

-- From each image without damage there is an image with the root's record open, where file numbers suffice and none
-- that is named is at or above the first.
abbrev pub OpeningCanEnd : Type 0
OpeningCanEnd = (flag : Bool) (parts : ImageParts) (o : OpenedImage) (capacity first : ℕ) → IsDecoded parts
    → image_opens flag parts ≡ Ok o → (to : IsOpenedAs flag parts o) → 1 < first
    → Each (λ file. file < first) (files_in to.named) → HasFileNumbers (recovered_core capacity o) first
    → (after : Core) × (other : ImageParts) × (files : EngineFiles)
    × IsCoreStep (recovered_core capacity o) (Crashed first) Done after
    × IsReopened parts other (recovered_core capacity o) after first to.named files

-- what nothing names is removed behind the root's record: the end stays as it is
abbrev pub SweptEnds : Type 0
SweptEnds = (flag later : Bool) (other next : ImageParts) (core after : Core) (files : EngineFiles) (o : OpenedImage)
    → OpeningEnds flag other core after files o → OnlyUnnamed files other next
    → OpeningEnds later next core after files o

-- ---- the new tables

-- memtables can be joined in one way (proved with the core)
abbrev pub JoinedIsOne : Type 0
JoinedIsOne = (runs : List (List Entry)) (one other : List Entry) → IsJoined runs one → IsJoined runs other
    → one ≡ other

-- so an opening's new table is one that has the entries of one joined list
abbrev pub TableIsNew : Type 0
TableIsNew =
    (parts : ImageParts) (file : ℕ) (before after : List ℕ × FamilyView) (old new : List ℕ × NamedFamily)
    (entries : List Entry) → IsJoined (memories before.1) entries → (flushed : IsFlushedByCrash file before.1 after.1)
    → HasLevelsOf parts (flush_placement file flushed.length ∷ old.1.tables) new.1.tables
    → table_at parts (flush_placement file flushed.length)
    ≡ record { file = file; length = flushed.length; entries = entries }
    → HasNewTable parts file before after old new
