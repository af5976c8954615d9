-- An opened block, and the offsets in it at which an entry begins, or all end.
use Rattle.std.specs.Prelude.{◌≡◌, ℕ, ◌+◌, ◌<◌, ◌≤◌, Bool, ◌==◌, List, [], ◌∷◌, length, take, slice_range, Ok, if◌then◌else◌}
use Rattle.std.specs.Result.{result_unwrap_or}
use Rattle.std.specs.Ordering.{is_lt}
use Rattle.st_base.specs.Order.{rises}
use Rattle.st_block.specs.Block.{Cell, block_of, entries_end, entries_of, offsets_at, restarts_of}
use Rattle.st_block.specs.Entry.{IsLayout}
use Rattle.st_block.specs.InternalKey.{internal_cmp, is_key_before}
use Rattle.st_block.specs.declared.kind.BlockKind.{BlockKind}
use Rattle.st_block.specs.declared.open.Layout.{Layout}

-- what a block has: its kind, where its entries end, the entries, and the restarts after them
pub record BlockContents : Type 0 where
  pub kind : BlockKind
  pub end : ℕ
  pub cells : List Cell
  pub restarts : List ℕ

-- the block is what these bytes are as a block of this kind
pub record Opens (kind : BlockKind) (text : List ℕ) (block : BlockContents) : Type 0 where
  pub cells : block_of kind text ≡ Ok block.cells
  pub kind_is : block.kind ≡ kind
  pub end : block.end ≡ entries_end text
  pub restarts : block.restarts ≡ restarts_of text
  pub within : block.end ≤ length text

-- the entries from the one at this offset on
abbrev pub cells_at : ℕ → List Cell → List Cell
cells_at at [] = []
cells_at at (cell ∷ cells) = if cell.at == at then cell ∷ cells else cells_at at cells

-- where the first of the entries begins, or where all end
abbrev pub offset_of : ℕ → List Cell → ℕ
offset_of end [] = end
offset_of end (cell ∷ cells) = cell.at

-- the key has the bytes that the first of the entries shares
abbrev pub Primes : List ℕ → List Cell → Type 0
Primes key [] = Unit {0}
Primes key (cell ∷ cells) = (cell.shared ≤ length key) × (take cell.shared key ≡ take cell.shared cell.key)

-- the offset is that of an entry, or of the end of all, and the key allows it to be read
pub record IsReadableAt (block : BlockContents) (at : ℕ) (key : List ℕ) : Type 0 where
  pub offset : offset_of block.end (cells_at at block.cells) ≡ at
  pub primes : Primes key (cells_at at block.cells)

-- the entry at an offset, with its key, its value and the offset after it, at which a reader then stands
pub record TakesCell (block : BlockContents) (at : ℕ) (key value : List ℕ) (next : ℕ) (cell : Cell) : Type 0 where
  pub first : cells_at at block.cells ≡ cell ∷ cells_at next block.cells
  pub key_is : cell.key ≡ key
  pub value_is : cell.value ≡ value
  pub shared : cell.shared ≤ length cell.key
  pub behind : IsReadableAt block next key

-- an entry that was read ends after its offset, where its value ends, and with all entries or before
pub record Advances (block : BlockContents) (at : ℕ) (value : List ℕ) (next : ℕ) : Type 0 where
  pub behind : at < next
  pub value_before : length value ≤ next
  pub within : next ≤ block.end

-- the entries from the first one on that doesn't come before a key and a number
abbrev pub cells_from_place : List ℕ → ℕ → List Cell → List Cell
cells_from_place key number [] = []
cells_from_place key number (cell ∷ cells) = if is_key_before key number cell.key then cells_from_place key number cells else cell ∷ cells

-- where that one begins, or where all end
abbrev pub lower_offset : BlockContents → List ℕ → ℕ → ℕ
lower_offset block key number = offset_of block.end (cells_from_place key number block.cells)

-- whether the keys rise as internal keys
abbrev pub internal_keys_rise : List Cell → Bool
internal_keys_rise cells = rises (λ one other. is_lt (internal_cmp one.key other.key)) cells

-- ---- how an opened block is kept

-- the entries in these bytes
abbrev pub cells_in : BlockKind → List ℕ → List Cell
cells_in kind area = result_unwrap_or (entries_of kind area) []

abbrev pub block_contents_in : BlockKind → List ℕ → Layout → BlockContents
block_contents_in kind text layout =
    record { kind = kind; end = layout.end; cells = cells_in kind (take layout.end text); restarts = offsets_at text layout.end layout.restarts }

-- the bytes from an offset on lie as the layout says
pub record Keeps (bytes : List ℕ) (from size : ℕ) (kind : BlockKind) (layout : Layout) : Type 0 where
  pub inside : from + size ≤ length bytes
  pub lies : IsLayout kind (slice_range bytes from (from + size)) layout (cells_in kind (take layout.end (slice_range bytes from (from + size))))
