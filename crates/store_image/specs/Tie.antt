-- The tie: the image's parts hold what the core keeps in memory.
use Rattle.std.specs.Prelude.{ℕ, Bool, ◌≡◌, ◌≢◌, ◌≤◌, ◌<◌, ◌++◌, max, IsTrue, List, [], ◌∷◌, None, Ok}
use Rattle.std.specs.List.{AllByRecursion as Each, AllZip}
use Rattle.core_model.specs.Picture.{FamilyView, Core, memories}
use Rattle.core_model.specs.RelationParts.{MemoriesFall}
use Rattle.manifest_edits.specs.Edits.{NamedFamily, Named, GroupRecord, manifest_reading_none, read_records, table_files, files_in}
use Rattle.store_image.specs.Parts.{ImageParts, log_ops_of, counted_entries, image_levels}
use Rattle.store_image.specs.Opens.{last_op, image_log_damage, is_sound}
use Rattle.manifest_edits.specs.Logs.{LogFound, LogOp}
use Rattle.st_order.specs.Columns.{column, of_key}

-- a family, and what the manifest names of it
pub record IsTiedFamily (parts : ImageParts) (ops : List LogOp) (last : ℕ) (here : List ℕ × FamilyView)
    (there : List ℕ × NamedFamily) : Type 0 where
  pub name : there.0 ≡ here.0
  pub id : there.1.id ≡ here.1.id
  pub levels : image_levels parts there.1.tables ≡ here.1.levels
  -- memtables have the counted operations, and the older memtable the lesser numbers
  pub memory : (key : List ℕ) → column key (memories here.1) ≡ of_key key (counted_entries there.1 ops)
  pub order : MemoriesFall here.1
  -- what is written from now on will count
  pub flushed : there.1.flushed ≤ last
  pub tables : Each (λ placed. IsTrue (is_sound parts placed)) there.1.tables

-- what is named, and the parts that it names
pub record HoldsNamed (core : Core) (parts : ImageParts) (named : Named) : Type 0 where
  pub families : AllZip (IsTiedFamily parts (log_ops_of parts named.logs) core.last) core.families named.families
  -- logs are whole, and numbers rise over them
  pub logs : image_log_damage parts 0 named.logs ≡ None
  pub last : max named.last (last_op 0 (log_ops_of parts named.logs)) ≡ core.last
  -- no operation has an id that is yet to be given
  pub given : Each (λ op. op.family < core.next_family) (log_ops_of parts named.logs)

-- What an opening reads: the families are tied, whatever their flushed numbers are, and nothing need be known of
-- operations to come.
abbrev pub IsReadByOpening : Core → ImageParts → Named → Type 0
IsReadByOpening core parts named =
    AllZip (λ here there. (n : ℕ) × IsTiedFamily parts
    (log_ops_of parts named.logs) n here there) core.families named.families

-- what the engine keeps beside its core: the manifest's file, the log's file, the root's records, and what is named
pub record EngineFiles : Type 0 where
  pub manifest : ℕ
  pub log : ℕ
  pub older_logs : List ℕ
  pub root : List (ℕ × Bool)
  pub root_last : ℕ × Bool
  pub named : Named

-- every file that counts for what an image opens to
abbrev pub named_files : EngineFiles → List ℕ
named_files files = 0 ∷ 1 ∷ files.manifest ∷ files_in files.named

-- the two files that are written to are no other named file
pub record IsApart (files : EngineFiles) : Type 0 where
  pub manifest : Each (λ file. file ≢ files.manifest) (0 ∷ 1 ∷ files_in files.named)
  pub log : Each (λ file. file ≢ files.log) (0 ∷ 1 ∷ (files.older_logs ++ table_files files.named))

-- the file is neither of the two that are written to
pub record IsUnwritten (files : EngineFiles) (file : ℕ) : Type 0 where
  pub manifest : file ≢ files.manifest
  pub log : file ≢ files.log

-- The image's parts hold what the core keeps in memory. Of the group that is begun nothing counts; at rest none is.
pub record IsTiedToImage (core : Core) (files : EngineFiles) (begun : List GroupRecord)
    (parts : ImageParts) : Type 0 where
  pub marked : IsTrue parts.marked
  pub root : parts.root ≡ LogFound (files.root ++ files.root_last ∷ []) None
  pub counts : files.root_last ≡ (files.manifest, core.behind)
  pub records : List GroupRecord
  pub manifest : parts.manifest files.manifest ≡ LogFound records None
  pub read : read_records manifest_reading_none records ≡ Ok (record { named = files.named; begun = begun })
  -- the log that is written is the last one
  pub log : files.named.logs ≡ files.older_logs ++ files.log ∷ []
  pub apart : IsApart files
  pub holds : HoldsNamed core parts files.named
