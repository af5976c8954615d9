-- What a writer of an external table was given.
use Rattle.std.specs.Prelude.{◌≡◌, ℕ, Bool, true, List, [], Option, Some, None, Result, Ok, Err, if◌then◌else◌}
use Rattle.st_base.specs.Bytes.{below}
use Rattle.st_base.specs.Rows.{last_key}
use Rattle.st_base.specs.declared.entry.Entry.{Entry}
use Rattle.st_base.specs.declared.entry.Mark.{Mark}
use Rattle.st_base.specs.declared.faults.TableFault.{TableFault}
use Rattle.st_table.specs.Table.{table_of}
use Rattle.table_writer.specs.Writer.{HoldsEntries, Writer, finished_table}
use Rattle.table_writer.specs.Written.{MayBeTable}
use Rattle.st_table.specs.declared.kind.TableKind.TheVariants.{External}
use Rattle.table_writer.specs.declared.fault.AddFault.{AddFault}
use Rattle.table_writer.specs.declared.fault.AddFault.TheVariants as add
use Rattle.sst_writer.specs.declared.fault.WriterFault.{WriterFault}
use Rattle.sst_writer.specs.declared.fault.WriterFault.TheVariants.{TooLarge, OutOfMemory}

-- an entry of an external table, whose sequence number is 0
abbrev pub entry_with : List ℕ → Mark → Entry
entry_with key mark = record { key = key; number = 0; mark = mark }

-- whether a key is greater than one before it, where there is one
abbrev pub is_above : Option (List ℕ) → List ℕ → Bool
is_above None key = true
is_above (Some last) key = below last key

-- whether a key is greater than that of the last entry, where there is one
abbrev pub rises_to : List Entry → List ℕ → Bool
rises_to entries key = is_above (last_key entries) key

-- the fault of a writer that its table's writer gives
abbrev pub writer_fault : AddFault → WriterFault
writer_fault add.TooLarge = TooLarge
writer_fault add.OutOfMemory = OutOfMemory

-- ---- a writer

-- the entries that were read, or none where there is a fault
abbrev pub entries_or_none : Result (List Entry) TableFault → List Entry
entries_or_none (Ok entries) = entries
entries_or_none (Err fault) = []

-- what a table's writer was given: the entries of the table that it would finish
unfoldable pub held : Writer → List Entry
held table = entries_or_none (table_of External (finished_table table))

-- what a writer keeps: its table holds these entries, they may stand in an external table, and which key is the last
pub record IsSst (table : Writer) (empty : Bool) (last : List ℕ) : Type 0 where
  pub kind : table.kind ≡ External
  pub holds : HoldsEntries table (held table)
  pub rows : MayBeTable External (held table)
  pub last_is : last_key (held table) ≡ (if empty then None else Some last)
