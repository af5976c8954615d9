-- An image of the disk, decoded: what each of its files is as a root, a manifest, a log or a table. The layers that
-- know bytes give these by one function each.
use Rattle.std.specs.Prelude.{ℕ, ◌≡◌, suc, zero, Bool, false, ◌&&◌, ◌||◌, ◌==◌, ◌+◌, nat_lt, List, [], ◌∷◌, map, filter, flat_map, reverse, if◌then◌else◌, Option, Some, None, is_some}
use Rattle.st_base.specs.Count.{greatest_count}
use Rattle.st_base.specs.declared.entry.Entry.{Entry}
use Rattle.st_base.specs.Range.{under_number, has_key}
use Rattle.core_model.specs.Picture.{FileEntries, put_by_key}
use Rattle.manifest_edits.specs.Edits.{Placement, NamedFamily, GroupRecord}
use Rattle.manifest_edits.specs.Logs.{LogReading, records_in, LogOp, log_op_entry}

-- ---- files that are there

-- whether one of these many files above 1 is there
abbrev pub any_above : ℕ → (ℕ → Option (List ℕ)) → Bool
any_above zero image = false
any_above (suc n) image = is_some (image (n + 2)) || any_above n image

-- Whether a file above 1 is there: a search over all file numbers, which no proof unfolds.
unfoldable pub has_more : (ℕ → Option (List ℕ)) → Bool
has_more image = any_above greatest_count image

-- ---- files, decoded

-- a file, with its entries where it is an own table
pub record TableFile : Type 0 where
  pub length : ℕ
  pub entries : Option (List Entry)

-- an image, file by file
pub record ImageParts : Type 0 where
  -- whether file 1 is there, and whether one above it is (`has_more` of the image)
  pub marked : Bool
  pub more : Bool
  -- the manifest and the flag of each root record
  pub root : LogReading (ℕ × Bool)
  pub manifest : ℕ → LogReading GroupRecord
  pub log : ℕ → LogReading LogOp
  pub table : ℕ → Option TableFile

-- ---- operations

-- the operations of these logs, in their order
abbrev pub log_ops_of : ImageParts → List ℕ → List LogOp
log_ops_of parts logs = flat_map (λ file. records_in (parts.log file)) logs

-- an operation of the family that no table has yet
abbrev pub counts_for : NamedFamily → LogOp → Bool
counts_for family op = (op.family == family.id) && nat_lt family.flushed op.number

-- the family's counted operations, the newest first
abbrev pub counted_entries : NamedFamily → List LogOp → List Entry
counted_entries family ops = reverse (map log_op_entry (filter (counts_for family) ops))

-- ---- tables

-- all entries act under the recorded number, or under their own where it is 0
abbrev pub entries_acting : ℕ → List Entry → List Entry
entries_acting number entries = if number == 0 then entries else under_number number entries

-- the entries of a file, if it is an own table
abbrev pub file_entries : Option TableFile → List Entry
file_entries None = []
file_entries (Some file) = elim file.entries [ None ↦ [] | Some entries ↦ entries ]

-- the table that is placed, with its entries under the recorded number
abbrev pub table_at : ImageParts → Placement → FileEntries
table_at parts placed = record {
  file = placed.file;
  length = placed.length;
  entries = entries_acting placed.number (file_entries (parts.table placed.file));
}

-- the image has the table's file, an own table of this length with these entries
abbrev pub HasTableFile : ImageParts → FileEntries → Type 0
HasTableFile parts table =
    parts.table table.file ≡ Some (record { length = table.length; entries = Some table.entries })

-- those placed at a level, the newest first
abbrev pub placed_at : ℕ → List Placement → List Placement
placed_at n placed = filter (λ one. one.level == n) placed

-- tables by their first keys
abbrev pub by_key : List FileEntries → List FileEntries
by_key [] = []
by_key (table ∷ tables) = put_by_key table (by_key tables)

-- the tables of level n, by key
abbrev pub level_of : ImageParts → List Placement → ℕ → List FileEntries
level_of parts placed n = by_key (map (table_at parts) (placed_at n placed))

-- the seven levels: level 0 from the newest, the others by key
abbrev pub image_levels : ImageParts → List Placement → List (List FileEntries)
image_levels parts placed =
    map (table_at parts) (placed_at 0 placed) ∷ map (level_of parts placed) (1 ∷ 2 ∷ 3 ∷ 4 ∷ 5 ∷ 6 ∷ [])

-- a key stands twice
abbrev pub has_twice : List Entry → Bool
has_twice [] = false
has_twice (entry ∷ entries) = has_key entries entry.key || has_twice entries
