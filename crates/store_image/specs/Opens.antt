-- What an image opens to: families with their counted operations and tables, or the first damage.
use Rattle.std.specs.Prelude.{ℕ, Bool, true, false, ◌&&◌, ◌||◌, not, ◌==◌, nat_lt, nat_le, max, List, [], ◌∷◌, ◌++◌, map, filter, flat_map, take, drop, if◌then◌else◌, Option, Some, None, Result, Ok, Err}
use Rattle.std.specs.Option.{option_map, option_or}
use Rattle.std.specs.List.{list_any, list_all}
use Rattle.st_base.specs.Bytes.{same, default_family}
use Rattle.st_base.specs.declared.entry.Entry.{Entry}
use Rattle.st_base.specs.Range.{meet}
use Rattle.core_model.specs.Picture.{FileEntries, tables_in, table_range}
use Rattle.manifest_edits.specs.Edits.{Placement, NamedFamily, Named, GroupRecord, ManifestReading, manifest_reading_none, read_records, tables_named}
use Rattle.store_image.specs.Parts.{TableFile, ImageParts, log_ops_of, counted_entries, image_levels, has_twice}
use Rattle.manifest_edits.specs.Logs.{LogReading, LogAbsent, LogFound, LogOp}

-- a damaged file, and the place of its first damage
pub record ImageDamage : Type 0 where
  pub file : ℕ
  pub at : ℕ

-- a family, with its counted operations from the newest
pub record OpenedImageFamily : Type 0 where
  pub id : ℕ
  pub counted : List Entry
  pub levels : List (List FileEntries)

-- what an image opens to: flag, last number, families
pub record OpenedImage : Type 0 where
  pub behind : Bool
  pub last : ℕ
  pub families : List (List ℕ × OpenedImageFamily)

-- ---- logs: numbers rise

-- the number of the last operation, if there is one
abbrev pub last_op : ℕ → List LogOp → ℕ
last_op last [] = last
last_op last (op ∷ ops) = last_op op.number ops

-- the place of the first operation whose number isn't above the one before
abbrev pub unrisen : ℕ → List LogOp → Option ℕ
unrisen last [] = None
unrisen last (op ∷ ops) = if nat_lt last op.number then unrisen op.number ops else Some op.at

-- this file is damaged at this place
abbrev pub damage_at : ℕ → ℕ → ImageDamage
damage_at file at = record { file = file; at = at }

-- the damage of one log, or of those behind it
abbrev pub read_damage : ℕ → ℕ → LogReading LogOp → (ℕ → Option ImageDamage) → Option ImageDamage
read_damage file last LogAbsent rest = Some (damage_at file 0)
read_damage file last (LogFound ops end) rest =
    option_or (option_map (damage_at file) (option_or (unrisen last ops) end)) (rest (last_op last ops))

-- of logs in rising order
abbrev pub image_log_damage : ImageParts → ℕ → List ℕ → Option ImageDamage
image_log_damage parts last [] = None
image_log_damage parts last (file ∷ files) =
    read_damage file last (parts.log file) (λ after. image_log_damage parts after files)

-- ---- tables

-- the least of these files, at 0
abbrev pub lesser_file : Option ℕ → ℕ → Option ℕ
lesser_file None file = Some file
lesser_file (Some other) file = if nat_lt file other then Some file else Some other

-- the least of these files
abbrev pub least_file : List ℕ → Option ℕ
least_file [] = None
least_file (file ∷ files) = lesser_file (least_file files) file

-- the damage of the least of these files
abbrev pub least_damage : List ℕ → Option ImageDamage
least_damage files = option_map (λ file. damage_at file 0) (least_file files)

-- the file is there with this length and is an own table with an entry, and with a number no key stands twice
abbrev pub is_table : ℕ → List Entry → Bool
is_table number [] = false
is_table number (entry ∷ entries) = (number == 0) || not (has_twice (entry ∷ entries))

-- whether the file is what the placement says
abbrev pub holds_table : Placement → Option TableFile → Bool
holds_table placed None = false
holds_table placed (Some file) =
    (file.length == placed.length) && elim file.entries [ None ↦ false | Some entries ↦ is_table placed.number entries ]

-- whether the image has the table that is placed
abbrev pub is_sound : ImageParts → Placement → Bool
is_sound parts placed = holds_table placed (parts.table placed.file)

-- the files that aren't the tables that are placed
abbrev pub unsound : ImageParts → List Placement → List ℕ
unsound parts placed = map (λ one. one.file) (filter (λ one. not (is_sound parts one)) placed)

-- ---- levels: no two tables meet

-- whether the table meets another one of its level
abbrev pub meets_other : List FileEntries → FileEntries → Bool
meets_other tables table =
    list_any (λ other. not (other.file == table.file) && meet (table_range table) (table_range other)) tables

-- the files of a level that meet another one
abbrev pub image_files_meeting : List FileEntries → List ℕ
image_files_meeting tables = map (λ table. table.file) (filter (meets_other tables) tables)

-- those of all levels from 1 on
abbrev pub image_files_meeting_in : OpenedImageFamily → List ℕ
image_files_meeting_in family = flat_map image_files_meeting (drop 1 family.levels)

-- ---- the walk: numbers fall

-- an entry may stand behind one of its key: its number is less, or both are 0 and it stands in the last level
abbrev pub may_follow : Bool → Entry → Entry → Bool
may_follow bottom entry before =
    not (same before.key entry.key) || nat_lt entry.number before.number
    || (bottom && (entry.number == 0) && (before.number == 0))

-- whether each entry is at most the last number and may stand behind all before it
abbrev pub entries_fall : ℕ → Bool → List Entry → List Entry → Bool
entries_fall last bottom before [] = true
entries_fall last bottom before (entry ∷ entries) =
    nat_le entry.number last && list_all (may_follow bottom entry) before
    && entries_fall last bottom (before ++ entry ∷ []) entries

-- the tables with an entry above the last number, or one that may not stand behind the entries before it
abbrev pub unfallen : ℕ → Bool → List Entry → List FileEntries → List ℕ
unfallen last bottom before [] = []
unfallen last bottom before (table ∷ tables) =
    (if entries_fall last bottom before table.entries then [] else table.file ∷ [])
    ++ unfallen last bottom (before ++ table.entries) tables

-- the tables above the last level
abbrev pub upper_tables : OpenedImageFamily → List FileEntries
upper_tables family = tables_in (take 6 family.levels)

-- the tables of the last level
abbrev pub lower_tables : OpenedImageFamily → List FileEntries
lower_tables family = tables_in (drop 6 family.levels)

-- the entries of all these tables
abbrev pub image_entries_of : List FileEntries → List Entry
image_entries_of tables = flat_map (λ table. table.entries) tables

-- the tables of a family whose numbers don't fall along the walk
abbrev pub unfallen_in : ℕ → OpenedImageFamily → List ℕ
unfallen_in last family =
    unfallen last false family.counted (upper_tables family)
    ++ unfallen last true (family.counted ++ image_entries_of (upper_tables family)) (lower_tables family)

-- ---- opening

-- what the image has of a named family
abbrev pub image_family : ImageParts → List LogOp → NamedFamily → OpenedImageFamily
image_family parts ops family = record {
  id = family.id;
  counted = counted_entries family ops;
  levels = image_levels parts family.tables;
}

-- what the image has of all that is named
abbrev pub image_opened : Bool → ImageParts → Named → OpenedImage
image_opened behind parts named = record {
  behind = behind;
  last = max named.last (last_op 0 (log_ops_of parts named.logs));
  families = map (λ family. (family.0, image_family parts (log_ops_of parts named.logs) family.1)) named.families;
}

-- the first damage of what is named
abbrev pub image_damage : ImageParts → Named → OpenedImage → Option ImageDamage
image_damage parts named opened =
    option_or (image_log_damage parts 0 named.logs)
    (option_or (least_damage (unsound parts (tables_named named)))
    (option_or (least_damage (flat_map (λ family. image_files_meeting_in family.1) opened.families))
    (least_damage (flat_map (λ family. unfallen_in opened.last family.1) opened.families))))

-- what is opened, unless there is a damage
abbrev pub opened_unless : Option ImageDamage → OpenedImage → Result OpenedImage ImageDamage
opened_unless None opened = Ok opened
opened_unless (Some damage) opened = Err damage

-- what the named files open to
abbrev pub named_opens : Bool → ImageParts → Named → Result OpenedImage ImageDamage
named_opens behind parts named =
    opened_unless (image_damage parts named (image_opened behind parts named)) (image_opened behind parts named)

-- what a manifest opens to once its records are read
abbrev pub reading_opens : Bool → ImageParts → ℕ → Option ℕ → Result ManifestReading ℕ → Result OpenedImage ImageDamage
reading_opens behind parts file end (Err at) = Err (damage_at file at)
reading_opens behind parts file (Some at) (Ok reading) = Err (damage_at file at)
reading_opens behind parts file None (Ok reading) = named_opens behind parts reading.named

-- what a manifest opens to
abbrev pub manifest_opens : Bool → ImageParts → ℕ → LogReading GroupRecord → Result OpenedImage ImageDamage
manifest_opens behind parts file LogAbsent = Err (damage_at file 0)
manifest_opens behind parts file (LogFound records end) =
    reading_opens behind parts file end (read_records manifest_reading_none records)

-- a new store has the family `default`
abbrev pub new_opened : Bool → OpenedImage
new_opened behind = record {
  behind = behind;
  last = 0;
  families = (default_family, record { id = 0; counted = []; levels = [] ∷ [] ∷ [] ∷ [] ∷ [] ∷ [] ∷ [] ∷ [] }) ∷ [];
}

-- the last record counts
abbrev pub last_root_record : {X : Type 0} → X → List X → X
last_root_record x [] = x
last_root_record x (y ∷ ys) = last_root_record y ys

-- what a store opens to by its root: the last record counts
abbrev pub root_opens : Bool → ImageParts → LogReading (ℕ × Bool) → Result OpenedImage ImageDamage
root_opens flag parts LogAbsent = Err (damage_at 0 0)
root_opens flag parts (LogFound records (Some at)) = Err (damage_at 0 at)
root_opens flag parts (LogFound [] None) = Ok (new_opened flag)
root_opens flag parts (LogFound (record_ ∷ records) None) =
    let counts = last_root_record record_ records in manifest_opens counts.1 parts counts.0 (parts.manifest counts.0)

-- what the image opens to; a new store gets the flag of the opening
abbrev pub image_opens : Bool → ImageParts → Result OpenedImage ImageDamage
image_opens flag parts =
    if parts.marked then root_opens flag parts parts.root
    else (if parts.more then Err (damage_at 1 0) else Ok (new_opened flag))
