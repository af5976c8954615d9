-- A table of a kind, told by its offsets in the file.
use Rattle.std.specs.Prelude.{◌≡◌, ℕ, ◌+◌, ◌-◌, ◌≤◌, List, [], ◌∷◌, length, map, Option, Some, None, option_and_then, IfSome, IsTrue, Ok}
use Rattle.std.specs.List.{AllByRecursion, flat_map}
use Rattle.std.specs.Ordering.{is_lt, is_le}
use Rattle.st_base.specs.Order.{in_order}
use Rattle.st_base.specs.declared.entry.Entry.{Entry}
use Rattle.st_base.specs.declared.limits.TheConstants.{VALUE_BYTES}
use Rattle.st_block.specs.Block.{Cell, block_of, entries_end, restarts_of}
use Rattle.st_block.specs.InternalKey.{entry_under, internal_cmp, is_kind, kind_of, number_of}
use Rattle.st_block.specs.BlockContents.{BlockContents}
use Rattle.st_block.specs.declared.kind.BlockKind.{BlockKind}
use Rattle.st_block.specs.declared.kind.BlockKind.TheVariants.{Data, Index, Plain}
use Rattle.st_table.specs.DataBlocks.{first_cell_key, last_cell_key}
use Rattle.st_table.specs.Entries.{may_have}
use Rattle.st_table.specs.Footer.{checksum_of, greatest_size, magic_of, version_of}
use Rattle.st_table.specs.Handle.{handle_at}
use Rattle.st_table.specs.Metaindex.{named_in, properties_name, range_del_name}
use Rattle.st_table.specs.Properties.{bytewise, comparator_name, fixed32_value, index_type_name, property, version_name}
use Rattle.st_table.specs.Stored.{compression, contents_at, found_sum, stored_sum}
use Rattle.st_table.specs.declared.footer.Footer.{Footer}
use Rattle.st_table.specs.declared.footer.TheConstants.{CHECKSUM_TYPE, FOOTER_BYTES, FORMAT_VERSION, MAGIC}
use Rattle.st_table.specs.declared.handle.Handle.{Handle}
use Rattle.st_table.specs.declared.kind.TableKind.{TableKind}
use Rattle.st_table.specs.declared.kind.TableKind.TheVariants.{External, Own}
use Rattle.st_table.specs.declared.properties.TheConstants.{EXTERNAL_VERSION}
use Rattle.st_table.specs.declared.stored.TheConstants.{NO_COMPRESSION, TRAILER_BYTES}

-- the last 53 bytes: checksum type 1, two handles one after the other, version 2, the magic number
pub record IsFooter (bytes : List ℕ) (footer : Footer) : Type 0 where
  pub long : FOOTER_BYTES ≤ length bytes
  pub magic_is : magic_of bytes ≡ MAGIC
  pub version_is : version_of bytes ≡ FORMAT_VERSION
  pub checksum_is : checksum_of bytes ≡ CHECKSUM_TYPE
  pub index_at : ℕ
  pub behind : ℕ
  pub metaindex_is : handle_at bytes (length bytes - 52) ≡ Some (footer.metaindex, index_at)
  pub index_is : handle_at bytes index_at ≡ Some (footer.index, behind)

-- a block of a kind stands where the handle says, before the footer, not compressed and under its sum
pub record IsStored (bytes : List ℕ) (kind : BlockKind) (handle : Handle) (block : BlockContents) : Type 0 where
  pub inside : handle.offset + handle.size + TRAILER_BYTES ≤ length bytes - FOOTER_BYTES
  pub uncompressed : compression bytes handle ≡ NO_COMPRESSION
  pub sum : stored_sum bytes handle ≡ found_sum bytes handle
  pub cells_are : block_of kind (contents_at bytes handle) ≡ Ok block.cells
  pub end_is : block.end ≡ entries_end (contents_at bytes handle)
  pub kind_is : block.kind ≡ kind
  pub restarts_are : block.restarts ≡ restarts_of (contents_at bytes handle)

-- the metaindex has no range deletions, and the handle of the properties as a whole value
pub record IsMetaindex (metaindex : BlockContents) (properties : Handle) : Type 0 where
  pub no_range_deletions : named_in range_del_name metaindex ≡ None
  pub at : ℕ
  pub value : List ℕ
  pub found : named_in properties_name metaindex ≡ Some (at, value)
  pub handle_is : handle_at value 0 ≡ Some (properties, length value)

-- an external table has the known version of external files; a comparator is the bytewise one, and an index type 0
abbrev pub IsVersioned : TableKind → BlockContents → Type 0
IsVersioned External properties = option_and_then fixed32_value (property version_name properties) ≡ Some EXTERNAL_VERSION
IsVersioned Own properties = Unit {0}

pub record AreProperties (kind : TableKind) (properties : BlockContents) : Type 0 where
  pub version : IsVersioned kind properties
  pub comparator : IfSome (property comparator_name properties) (λ value. value ≡ bytewise)
  pub index_type : IfSome (property index_type_name properties) (λ value. fixed32_value value ≡ Some 0)

-- a data block: its index entry's value is its handle, as a whole, and its index key is at or after its last key and
-- the index key before, where one is, is before its first
pub record IsDataBlock (bytes : List ℕ) (before : Option (List ℕ)) (cell : Cell) (block : BlockContents) : Type 0 where
  pub handle : Handle
  pub handle_is : handle_at cell.value 0 ≡ Some (handle, length cell.value)
  pub stored : IsStored bytes Data handle block
  pub behind_last : IsTrue (is_le (internal_cmp (last_cell_key [] block.cells) cell.key))
  pub before_first : IfSome before (λ key. IsTrue (is_lt (internal_cmp key (first_cell_key block.cells))))

abbrev pub AreDataBlocks : List ℕ → Option (List ℕ) → List Cell → List BlockContents → Type 0
AreDataBlocks bytes before [] [] = Unit {0}
AreDataBlocks bytes before [] (block ∷ blocks) = ⊥
AreDataBlocks bytes before (cell ∷ cells) [] = ⊥
AreDataBlocks bytes before (cell ∷ cells) (block ∷ blocks) = IsDataBlock bytes before cell block × AreDataBlocks bytes (Some cell.key) cells blocks

-- the kind is that of a value or of a tombstone without value, the number is one that the kind of table may have, and
-- the value is within its limit
pub record IsEntry (kind : TableKind) (cell : Cell) : Type 0 where
  pub kind_fits : IsTrue (is_kind (kind_of cell.key) cell.value)
  pub number_fits : IsTrue (may_have kind (number_of cell.key))
  pub size : length cell.value ≤ VALUE_BYTES

-- the blocks of a table
pub record Blocks : Type 0 where
  pub footer : Footer
  pub metaindex : BlockContents
  pub properties_handle : Handle
  pub properties : BlockContents
  pub index : BlockContents
  pub data_blocks : List BlockContents

-- the entries of data blocks, joined
abbrev pub joined : List BlockContents → List Cell
joined blocks = flat_map (λ block. block.cells) blocks

abbrev pub entries_under : List Cell → List Entry
entries_under cells = map (λ cell. entry_under cell.key cell.value) cells

pub record AreBlocks (bytes : List ℕ) (kind : TableKind) (blocks : Blocks) (entries : List Entry) : Type 0 where
  pub size : length bytes ≤ greatest_size kind
  pub footer : IsFooter bytes blocks.footer
  pub metaindex : IsStored bytes Plain blocks.footer.metaindex blocks.metaindex
  pub names : IsMetaindex blocks.metaindex blocks.properties_handle
  pub properties : IsStored bytes Plain blocks.properties_handle blocks.properties
  pub values : AreProperties kind blocks.properties
  pub index : IsStored bytes Index blocks.footer.index blocks.index
  pub data_blocks : AreDataBlocks bytes None blocks.index.cells blocks.data_blocks
  pub fit : AllByRecursion (IsEntry kind) (joined blocks.data_blocks)
  pub entries_are : entries ≡ entries_under (joined blocks.data_blocks)
  pub ordered : IsTrue (in_order entries)

-- the bytes are a table of this kind with these entries
abbrev pub IsTable : List ℕ → TableKind → List Entry → Type 0
IsTable bytes kind entries = (blocks : Blocks) × AreBlocks bytes kind blocks entries
