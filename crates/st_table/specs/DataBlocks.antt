-- The index and the data blocks: each index entry has the handle of a data block, under a key that parts it from the next.
use Rattle.std.specs.Prelude.{ℕ, ◌+◌, Bool, ◌&&◌, ◌||◌, ◌==◌, List, [], ◌∷◌, Result, Ok, Err, if◌then◌else◌}
use Rattle.std.specs.Ordering.{is_lt, is_le}
use Rattle.st_base.specs.declared.entry.Entry.{Entry}
use Rattle.st_base.specs.declared.faults.TableFault.{TableFault}
use Rattle.st_base.specs.declared.faults.TableFault.TheVariants.{Index}
use Rattle.st_block.specs.Block.{Cell}
use Rattle.st_block.specs.InternalKey.{internal_cmp}
use Rattle.st_block.specs.BlockContents.{BlockContents}
use Rattle.st_block.specs.declared.kind.BlockKind.TheVariants.{Data}
use Rattle.st_table.specs.Entries.{with_entries}
use Rattle.st_table.specs.Handle.{value_handle}
use Rattle.st_table.specs.Metaindex.{value_offset}
use Rattle.st_table.specs.Steps.{◌>>=◌}
use Rattle.st_table.specs.Stored.{block_at}
use Rattle.st_table.specs.declared.kind.TableKind.{TableKind}

-- the first and the last key of a block
abbrev pub first_cell_key : List Cell → List ℕ
first_cell_key [] = []
first_cell_key (cell ∷ cells) = cell.key

abbrev pub last_cell_key : List ℕ → List Cell → List ℕ
last_cell_key before [] = before
last_cell_key before (cell ∷ cells) = last_cell_key cell.key cells

-- the index key is at or after the last key of its block, and the index key before, where one is, is before its first
abbrev pub parts : ℕ → List ℕ → List Cell → List ℕ → Bool
parts block before cells key = is_le (internal_cmp (last_cell_key [] cells) key) && ((block == 0) || is_lt (internal_cmp before (first_cell_key cells)))

abbrev pub parted : Bool → ℕ → List Entry → Result (List Entry) TableFault
parted does block entries = if does then Ok entries else Err (Index block)

-- entries with those of one data block after them. Its index entry has this key and value, the value begins at an
-- offset in the file, and so many blocks stand before it, the last with an index key before.
unfoldable pub with_block : TableKind → List ℕ → ℕ → ℕ → List ℕ → List ℕ → List ℕ → List Entry → Result (List Entry) TableFault
with_block kind bytes at block before key value front = do
  handle ← value_handle bytes at value
  data' ← block_at Data bytes handle
  entries ← with_entries kind front data'.cells
  parted (parts block before data'.cells key) block entries

-- the same of all blocks that the entries of an index block name, the index block beginning at an offset in the file
abbrev pub with_blocks : TableKind → List ℕ → ℕ → ℕ → ℕ → List ℕ → List Cell → List Entry → Result (List Entry) TableFault
with_blocks kind bytes at end block before [] front = Ok front
with_blocks kind bytes at end block before (cell ∷ cells) front =
    with_block kind bytes (at + value_offset end cell cells) block before cell.key cell.value front
    >>= λ entries. with_blocks kind bytes at end (block + 1) cell.key cells entries

-- the entries of the data blocks, joined in index order
abbrev pub data_of : TableKind → List ℕ → ℕ → BlockContents → Result (List Entry) TableFault
data_of kind bytes at index = with_blocks kind bytes at index.end 0 [] index.cells []
