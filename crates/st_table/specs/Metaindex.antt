-- Blocks of names: the metaindex, whose values are handles, and the properties.
use Rattle.std.specs.Prelude.{ℕ, ◌+◌, ◌-◌, List, [], ◌∷◌, length, Option, Some, None, Result, Err, if◌then◌else◌}
use Rattle.std.specs.Option.{is_some}
use Rattle.st_base.specs.Bytes.{same}
use Rattle.st_base.specs.declared.faults.TableFault.{TableFault}
use Rattle.st_base.specs.declared.faults.TableFault.TheVariants.{RangeDel, NoProperties}
use Rattle.st_block.specs.Block.{Cell}
use Rattle.st_block.specs.BlockContents.{BlockContents, offset_of}
use Rattle.st_table.specs.Handle.{value_handle}
use Rattle.st_table.specs.declared.handle.Handle.{Handle}
use Rattle.st_table.specs.declared.metaindex.TheConstants.{PROPERTIES_NAME, RANGE_DEL_NAME}

-- where the value of an entry begins in its block: it ends where the entries after it begin, or where all end
abbrev pub value_offset : ℕ → Cell → List Cell → ℕ
value_offset end cell cells = offset_of end cells - length cell.value

-- the value under a name, and where it begins in the block
abbrev pub value_named : List ℕ → ℕ → List Cell → Option (ℕ × List ℕ)
value_named name end [] = None
value_named name end (cell ∷ cells) = if same cell.key name then Some (value_offset end cell cells, cell.value) else value_named name end cells

-- the value under a name of a block
abbrev pub named_in : List ℕ → BlockContents → Option (ℕ × List ℕ)
named_in name block = value_named name block.end block.cells

abbrev pub properties_name : List ℕ
properties_name = PROPERTIES_NAME.now

abbrev pub range_del_name : List ℕ
range_del_name = RANGE_DEL_NAME.now

-- the handle of the properties in a metaindex block that begins at an offset in the file
abbrev pub properties_at : List ℕ → ℕ → Option (ℕ × List ℕ) → Result Handle TableFault
properties_at bytes at None = Err NoProperties
properties_at bytes at (Some found) = value_handle bytes (at + found.0) found.1

-- a table with range deletions is refused, and so is one without properties
unfoldable pub properties_handle : List ℕ → ℕ → BlockContents → Result Handle TableFault
properties_handle bytes at metaindex =
    if is_some (named_in range_del_name metaindex) then Err RangeDel else properties_at bytes at (named_in properties_name metaindex)
