-- What is kept of a table in place.
use Rattle.std.specs.Prelude.{ℕ, ◌≡◌, nat_lt, List, filter, flat_map, map, unwrap_or}
use Rattle.std.specs.declared.alloc.Global.{Global}
use Rattle.std.specs.declared.sync.Arc.{Arc}
use Rattle.core_model.specs.Picture.{FileEntries}
use Rattle.st_base.specs.Range.{entries_charge}
use Rattle.st_base.specs.Rows.{AreRows}
use Rattle.st_base.specs.declared.entry.Entry.{Entry}
use Rattle.st_memtable.specs.Memtable.{MemView, least_number}

-- a table in place: the table with its file, and the number under which its entries act, 0 for their own
pub record HeldView : Type 0 where
  pub number : ℕ
  pub table : FileEntries

-- the least number above 0 of the entries, or 0 where there is none
abbrev pub least_above_zero : List Entry → ℕ
least_above_zero entries = unwrap_or (least_number (filter (λ entry. nat_lt 0 entry.number) entries)) 0

-- the entries are rows, with this charge and this least number above 0
pub record IsHeld (entries : List Entry) (charge least : ℕ) : Type 0 where
  pub rows : AreRows entries
  pub charged : charge ≡ entries_charge entries
  pub least_is : least ≡ least_above_zero entries

abbrev pub SharedTable : Type 0
SharedTable = Arc HeldView Global

-- the tables that these share
abbrev pub tables_of : List SharedTable → List FileEntries
tables_of tables = map (λ (held : SharedTable). held.value.table) tables

abbrev pub SharedMem : Type 0
SharedMem = Arc MemView Global

-- the entries of the memtables that these share
abbrev pub entries_in : List SharedMem → List (List Entry)
entries_in memtables = map (λ (mem : SharedMem). mem.value.entries) memtables

-- their runs, one memtable behind the other
abbrev pub runs_of_memtables : List SharedMem → List (List Entry)
runs_of_memtables memtables = flat_map (λ (mem : SharedMem). mem.value.runs) memtables
