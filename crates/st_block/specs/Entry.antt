-- What the code reads of an entry.
use Rattle.std.specs.Prelude.{ℕ, ◌+◌, ◌-◌, ◌*◌, ◌^◌, ◌<◌, ◌≤◌, ◌==◌, ◌&&◌, ◌≡◌, List, [], ◌∷◌, length, slice_range, if◌then◌else◌}
use Rattle.std.specs.Prelude.{Result, Ok, Err, take, true, IsTrue, ◌++◌, ◌≢◌, ◌⊎◌}
use Rattle.std.specs.List.{fold, list_all}
use Rattle.st_block.specs.Block.{Cell, Head, block_of, cells_from, entries_end, entries_of, is_long_enough, is_restart, offsets_at, restarts_of}
use Rattle.st_base.specs.declared.faults.BlockFault.{BlockFault}
use Rattle.st_base.specs.declared.faults.BlockFault.TheVariants.{Restarts, Entry}
use Rattle.st_base.specs.declared.limits.TheConstants.{INTERNAL_KEY_BYTES}
use Rattle.st_block.specs.declared.kind.BlockKind.TheVariants.{Data}
use Rattle.st_block.specs.declared.kind.BlockKind.{BlockKind}
use Rattle.st_block.specs.declared.open.CellCounts.{CellCounts}
use Rattle.st_block.specs.declared.open.Layout.{Layout}
use Rattle.st_block.specs.declared.tail.Tail.{Tail}
use Rattle.st_block.specs.declared.entry.Head.{Head as Lengths}
use Rattle.st_block.specs.declared.entry.ReadCell.{ReadCell}

abbrev pub head_of : Lengths → Head
head_of lengths = record { shared = lengths.shared; unshared = lengths.unshared; value = lengths.value; behind = lengths.behind }

-- three lengths of 32 bits
pub record AreLengths (head : Lengths) : Type 0 where
  pub shared : head.shared < 2 ^ 32
  pub unshared : head.unshared < 2 ^ 32
  pub value : head.value < 2 ^ 32

-- a head that was read at an offset, in bytes of this length
pub record IsHead (at length : ℕ) (head : Lengths) : Type 0 where
  pub lengths : AreLengths head
  pub behind : at < head.behind
  pub within : head.behind ≤ length

-- a head of an entry that fits after a key
pub record IsFitting (area before : List ℕ) (at : ℕ) (head : Lengths) : Type 0 where
  pub shared : head.shared ≤ length before
  pub room : head.shared + head.unshared ≤ INTERNAL_KEY_BYTES
  pub behind : at < head.behind
  pub within : head.behind + head.unshared + head.value ≤ length area

-- an entry that was read at an offset, with its key
abbrev pub cell_of : List ℕ → ℕ → List ℕ → ReadCell → Cell
cell_of area at key read = record { at = at; shared = read.shared; key = key; value = slice_range area read.value read.next }

-- its value lies after the offset and within bytes of this length
pub record IsRead (length at : ℕ) (read : ReadCell) : Type 0 where
  pub behind : at < read.next
  pub value : read.value ≤ read.next
  pub within : read.next ≤ length

-- the restarts that are still to come once an entry has gone by
abbrev pub pass : List ℕ → Cell → List ℕ
pass [] cell = []
pass (offset ∷ offsets) cell = if (cell.at == offset) && (cell.shared == 0) then offsets else offset ∷ offsets

-- the restarts from this index on
abbrev pub restarts_left : List ℕ → Tail → ℕ → List ℕ
restarts_left text tail met = offsets_at text (tail.end + 4 * met) (tail.count - met)

-- entries before what is still to be read
abbrev pub with_front : List Cell → Result (List Cell) BlockFault → Result (List Cell) BlockFault
with_front front (Ok cells) = Ok (front ++ cells)
with_front front (Err fault) = Err fault

-- some entries were read and tested up to an offset, and the scratch has the key of the last
pub record AreRead (kind : BlockKind) (text area : List ℕ) (tail : Tail) (before : List ℕ) (at entries met : ℕ) (front : List Cell) : Type 0 where
  pub so_far : entries_of kind area ≡ with_front front (cells_from (length area - entries) kind area before at)
  pub count : length front ≡ entries
  pub moved : entries ≤ at
  pub inside : at ≤ length area
  pub long : at ≢ 0 → IsTrue (is_long_enough kind before)
  pub restarts : fold pass (offsets_at text tail.end tail.count) front ≡ restarts_left text tail met
  pub within : met ≤ tail.count

-- the entries before a tail were tested
pub record IsTested (kind : BlockKind) (text area : List ℕ) (tail : Tail) (found : CellCounts) (cells : List Cell) : Type 0 where
  pub cells_are : entries_of kind area ≡ Ok cells
  pub count : length cells ≡ found.entries
  pub met : fold pass (offsets_at text tail.end tail.count) cells ≡ restarts_left text tail found.met
  pub within : found.met ≤ tail.count

-- how a block lies in its bytes
pub record IsLayout (kind : BlockKind) (text : List ℕ) (layout : Layout) (cells : List Cell) : Type 0 where
  pub block : block_of kind text ≡ Ok cells
  pub area : entries_of kind (take layout.end text) ≡ Ok cells
  pub first : offsets_at text layout.end layout.restarts ≡ 0 ∷ offsets_at text (layout.end + 4) (layout.restarts - 1)
  pub restarts : 0 < layout.entries → list_all (is_restart cells) (offsets_at text layout.end layout.restarts) ≡ true
  pub count : length cells ≡ layout.entries
  pub end : layout.end ≡ entries_end text
  pub offsets : offsets_at text layout.end layout.restarts ≡ restarts_of text
  pub room : layout.end + 4 * layout.restarts + 4 ≡ length text

-- the counts of a block whose restarts fit, and of one whose restarts don't, with its fault
abbrev pub MayStand : BlockKind → ℕ → CellCounts → Type 0
MayStand Data count found = (0 < found.entries) × (found.met ≡ count)
MayStand kind count found = ((found.entries ≡ 0) × (count ≡ 1)) ⊎ ((0 < found.entries) × (found.met ≡ count))

abbrev pub IsUnfit : BlockKind → ℕ → CellCounts → BlockFault → Type 0
IsUnfit Data count found fault = ((found.entries ≡ 0) × (fault ≡ Entry 0)) ⊎ ((0 < found.entries) × (found.met ≢ count) × (fault ≡ Restarts))
IsUnfit kind count found fault = ((found.entries ≡ 0) × (count ≢ 1) × (fault ≡ Restarts)) ⊎ ((0 < found.entries) × (found.met ≢ count) × (fault ≡ Restarts))
