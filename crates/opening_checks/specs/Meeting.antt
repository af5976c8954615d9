-- Tables of a level that stand by their first keys, and one pass along them.
use Rattle.std.specs.Prelude.{◌≡◌, ℕ, Bool, false, ◌||◌, ◌==◌, not, IsTrue, List, [], ◌∷◌, ◌≢◌, if◌then◌else◌, Option, Some, None}
use Rattle.st_base.specs.Bytes.{at_most, below}
use Rattle.st_base.specs.Range.{key_at_end, key_at_front}
use Rattle.core_model.specs.Picture.{FileEntries}
use Rattle.st_order.specs.Columns.{Pairwise}
use Rattle.opening_checks.specs.Least.{lesser_of}

-- the first table's first key is at most the other's, and their files differ
pub record StandsBefore (one other : FileEntries) : Type 0 where
  pub starts : IsTrue (at_most (key_at_front one.entries) (key_at_front other.entries))
  pub differs : one.file ≢ other.file

-- tables by their first keys, of files that differ
abbrev pub AreByFirstKey : List FileEntries → Type 0
AreByFirstKey tables = Pairwise StandsBefore tables

-- whether the other table's first key is below the first one's, or its file is the same
abbrev pub is_amiss : FileEntries → FileEntries → Bool
is_amiss one other = not (at_most (key_at_front one.entries) (key_at_front other.entries)) || (one.file == other.file)

-- ---- the pass: tables before this one reach up to a key, if there are any

-- whether they reach this table
abbrev pub is_reached : Option (List ℕ) → FileEntries → Bool
is_reached None table = false
is_reached (Some key) table = at_most (key_at_front table.entries) key

-- whether the table reaches the next one
abbrev pub reaches_next : FileEntries → List FileEntries → Bool
reaches_next table [] = false
reaches_next table (next ∷ others) = at_most (key_at_front next.entries) (key_at_end table.entries)

-- the table's file, where it meets one before or behind it
abbrev pub met_file : Option (List ℕ) → FileEntries → List FileEntries → Option ℕ
met_file reach table others = if is_reached reach table || reaches_next table others then Some table.file else None

-- how far they reach with this table
abbrev pub farther : Option (List ℕ) → FileEntries → List ℕ
farther None table = key_at_end table.entries
farther (Some key) table = if below key (key_at_end table.entries) then key_at_end table.entries else key

-- the least file of a table that meets another one, along tables that others reach
abbrev pub least_along : Option (List ℕ) → List FileEntries → Option ℕ
least_along reach [] = None
least_along reach (table ∷ tables) = lesser_of (met_file reach table tables) (least_along (Some (farther reach table)) tables)
