-- Entries in an arena: the keys and values of all lie one after the other, and each has its slot beside them.
use Rattle.std.specs.Prelude.{◌≡◌, ℕ, ◌+◌, ◌*◌, ◌≤◌, List, [], ◌∷◌, ◌++◌, length, map, slice_range, sum_by, Option, Some, None}
use Rattle.std.specs.List.{AllByRecursion}
use Rattle.st_base.specs.Entries.{entry_charge, mark_length}
use Rattle.st_base.specs.declared.entry.Entry.{Entry}
use Rattle.st_base.specs.declared.entry.Mark.{Mark}
use Rattle.st_base.specs.declared.entry.Mark.TheVariants.{Put, Gone}
use Rattle.st_base.specs.declared.limits.TheConstants.{ENTRY_CHARGE}
use Rattle.st_table.specs.declared.entry_arena.EntrySlot.{EntrySlot}

-- the mark whose value begins at an offset and ends at another; a tombstone has no end
abbrev pub mark_in : List ℕ → ℕ → Option ℕ → Mark
mark_in bytes start None = Gone
mark_in bytes start (Some end) = Put (slice_range bytes start end)

-- the entry of a slot
abbrev pub entry_in : List ℕ → EntrySlot → Entry
entry_in bytes slot = record { key = slice_range bytes slot.start slot.key_end; number = slot.number; mark = mark_in bytes slot.key_end slot.value_end }

-- a value, if there is one, ends within so many bytes, not before it begins
abbrev pub EndsValue : ℕ → ℕ → Option ℕ → Type 0
EndsValue size start None = start ≤ size
EndsValue size start (Some end) = (start ≤ end) × (end ≤ size)

-- an entry lies within so many bytes
pub record Lies (size : ℕ) (slot : EntrySlot) : Type 0 where
  pub key_ends : slot.start ≤ slot.key_end
  pub value_ends : EndsValue size slot.key_end slot.value_end

-- the entries at these slots lie in the bytes, which hold nothing else
pub record Fill (bytes : List ℕ) (slots : List EntrySlot) : Type 0 where
  pub lie : AllByRecursion (Lies (length bytes)) slots
  pub full : sum_by (λ entry. entry_charge entry.key entry.mark) (map (entry_in bytes) slots) ≡ ENTRY_CHARGE * length slots + length bytes

-- an entry was appended to the bytes, and its slot to the others
pub record AddsEntry (old new : List ℕ) (slots more : List EntrySlot) (entry : Entry) : Type 0 where
  pub at : EntrySlot
  pub appended : more ≡ slots ++ at ∷ []
  pub is : entry_in new at ≡ entry
  pub lies : Lies (length new) at
  pub longer : length new ≡ length old + length entry.key + mark_length entry.mark
