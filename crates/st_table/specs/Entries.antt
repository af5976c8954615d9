-- Entries of data blocks: an internal key with a sequence number and a kind, and a value.
use Rattle.std.specs.Prelude.{ℕ, ◌-◌, Bool, true, not, ◌==◌, nat_lt, List, [], ◌∷◌, ◌++◌, length, slice_get, Option, Some, None, Result, Ok, if◌then◌else◌}
use Rattle.st_base.specs.Order.{is_before}
use Rattle.st_base.specs.declared.entry.Entry.{Entry}
use Rattle.st_base.specs.declared.faults.TableFault.{TableFault}
use Rattle.st_base.specs.declared.faults.TableFault.TheVariants.{Kind, Number, TooLarge, Order}
use Rattle.st_base.specs.declared.limits.TheConstants.{VALUE_BYTES}
use Rattle.st_block.specs.Block.{Cell}
use Rattle.st_block.specs.InternalKey.{entry_under, is_kind, kind_of, number_of, user_key}
use Rattle.st_table.specs.Steps.{◌>>=◌, unless}
use Rattle.st_table.specs.declared.kind.TableKind.{TableKind}
use Rattle.st_table.specs.declared.kind.TableKind.TheVariants.{External, Own}

-- entries of external tables have the sequence number 0
abbrev pub may_have : TableKind → ℕ → Bool
may_have External number = number == 0
may_have Own number = true

-- whether the key and the number come after an entry, by key upwards and at one key by number downwards; the kind
-- plays no part in it, so no key and number stands twice
abbrev pub is_behind : Option Entry → List ℕ → ℕ → Bool
is_behind None key number = true
is_behind (Some before) key number = is_before key number before

-- the fault of the entry at an index of the table, after another
abbrev pub entry_fault : TableKind → ℕ → Option Entry → List ℕ → List ℕ → Option TableFault
entry_fault kind index before internal value =
    if not (is_kind (kind_of internal) value) then Some (Kind index (kind_of internal))
    else (if not (may_have kind (number_of internal)) then Some (Number index (number_of internal))
    else (if nat_lt VALUE_BYTES (length value) then Some TooLarge
    else (if not (is_behind before (user_key internal) (number_of internal)) then Some (Order index)
    else None)))

-- the last of the entries
abbrev pub last_entry : List Entry → Option Entry
last_entry entries = slice_get entries (length entries - 1)

-- entries with one more after them
abbrev pub with_cell_entry : TableKind → List Entry → List ℕ → List ℕ → Result (List Entry) TableFault
with_cell_entry kind front internal value =
    unless (entry_fault kind (length front) (last_entry front) internal value) (Ok (front ++ entry_under internal value ∷ []))

-- entries with those of a block after them
abbrev pub with_entries : TableKind → List Entry → List Cell → Result (List Entry) TableFault
with_entries kind front [] = Ok front
with_entries kind front (cell ∷ cells) = with_cell_entry kind front cell.key cell.value >>= λ entries. with_entries kind entries cells
