-- A whole table, read in order: footer, metaindex, properties, index, data blocks.
use Rattle.std.specs.Prelude.{◌≡◌, ℕ, ◌==◌, List, map, Option, Some, None, Result, Ok, Err, if◌then◌else◌}
use Rattle.st_base.specs.Range.{with_number}
use Rattle.st_base.specs.declared.entry.Entry.{Entry}
use Rattle.st_base.specs.declared.faults.TableFault.{TableFault}
use Rattle.st_block.specs.BlockContents.{BlockContents}
use Rattle.st_block.specs.declared.kind.BlockKind.TheVariants.{Index, Plain}
use Rattle.st_table.specs.DataBlocks.{data_of}
use Rattle.st_table.specs.Footer.{footer_of}
use Rattle.st_table.specs.Metaindex.{properties_handle}
use Rattle.st_table.specs.Properties.{properties_fault}
use Rattle.st_table.specs.Steps.{◌>>=◌, unless}
use Rattle.st_table.specs.Stored.{block_at}
use Rattle.st_table.specs.declared.fault.OpenTableFault.{OpenTableFault}
use Rattle.st_table.specs.declared.fault.OpenTableFault.TheVariants.{Bad, OutOfMemory}
use Rattle.st_table.specs.declared.handle.Handle.{Handle}
use Rattle.st_table.specs.declared.kind.TableKind.{TableKind}

-- the properties block, by the metaindex block of this handle
unfoldable pub properties_of : List ℕ → Handle → Result BlockContents TableFault
properties_of bytes at = do
  metaindex ← block_at Plain bytes at
  handle ← properties_handle bytes at.offset metaindex
  block_at Plain bytes handle

-- the entries of a table, or its first fault
unfoldable pub table_of : TableKind → List ℕ → Result (List Entry) TableFault
table_of kind bytes = do
  footer ← footer_of kind bytes
  properties ← properties_of bytes footer.metaindex
  unless (properties_fault kind properties) (block_at Index bytes footer.index >>= data_of kind bytes footer.index.offset)

-- the first fault in reading order, or none where the bytes are a table of the kind
abbrev pub table_fault_of : {A : Type 0} → Result A TableFault → Option TableFault
table_fault_of (Ok value) = None
table_fault_of (Err fault) = Some fault

abbrev pub first_fault : List ℕ → TableKind → Option TableFault
first_fault bytes kind = table_fault_of (table_of kind bytes)

-- what a call answers is the first fault, unless memory ran out
abbrev pub IsFirstFault : List ℕ → TableKind → OpenTableFault → Type 0
IsFirstFault bytes kind (Bad fault) = first_fault bytes kind ≡ Some fault
IsFirstFault bytes kind OutOfMemory = Unit {0}

-- entries under the number of their table, or under their own where it is 0
abbrev pub act_under : ℕ → Entry → Entry
act_under number entry = if number == 0 then entry else with_number number entry

abbrev pub acting : ℕ → List Entry → List Entry
acting number entries = map (act_under number) entries
