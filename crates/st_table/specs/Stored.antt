-- A block as it is stored: its contents, followed by a trailer of 5 bytes.
--
--   contents | compression type (0 is none) | masked CRC-32C of the contents and that byte (fixed32)
use Rattle.std.specs.Prelude.{ℕ, ◌+◌, not, ◌==◌, List, [], ◌∷◌, ◌++◌, drop, slice_index, slice_range, Result, Ok, Err, if◌then◌else◌}
use Rattle.std.specs.Int.{w32, from_le_bytes}
use Rattle.st_base.specs.declared.faults.BlockFault.{BlockFault}
use Rattle.st_base.specs.declared.faults.TableFault.{TableFault}
use Rattle.st_base.specs.declared.faults.TableFault.TheVariants.{Compressed, Sum, Block}
use Rattle.st_code.specs.Crc.{crc32c, mask}
use Rattle.st_code.specs.Fixed.{fixed32}
use Rattle.st_block.specs.Block.{Cell, block_of, entries_end, restarts_of}
use Rattle.st_block.specs.BlockContents.{BlockContents}
use Rattle.st_block.specs.declared.kind.BlockKind.{BlockKind}
use Rattle.st_table.specs.declared.handle.Handle.{Handle}
use Rattle.st_table.specs.declared.stored.TheConstants.{NO_COMPRESSION}

-- contents with their trailer, as they are written
abbrev pub stored : List ℕ → List ℕ
stored contents = contents ++ NO_COMPRESSION ∷ fixed32 (mask (crc32c (contents ++ NO_COMPRESSION ∷ [])))

-- the contents of the block, and its trailer
abbrev pub contents_at : List ℕ → Handle → List ℕ
contents_at bytes handle = slice_range bytes handle.offset (handle.offset + handle.size)

abbrev pub compression : List ℕ → Handle → ℕ
compression bytes handle = slice_index bytes (handle.offset + handle.size)

abbrev pub stored_sum : List ℕ → Handle → ℕ
stored_sum bytes handle = from_le_bytes w32 (drop (handle.offset + handle.size + 1) bytes)

-- the sum of the contents and the compression type
abbrev pub found_sum : List ℕ → Handle → ℕ
found_sum bytes handle = mask (crc32c (slice_range bytes handle.offset (handle.offset + handle.size + 1)))

-- the entries of a block that begins at an offset in the file, and where they end
abbrev pub opened_block : BlockKind → ℕ → List ℕ → Result (List Cell) BlockFault → Result BlockContents TableFault
opened_block kind at text (Ok cells) = Ok (record { kind = kind; end = entries_end text; cells = cells; restarts = restarts_of text })
opened_block kind at text (Err fault) = Err (Block at fault)

-- the block of a handle that lies in the file, or its first fault
unfoldable pub block_at : BlockKind → List ℕ → Handle → Result BlockContents TableFault
block_at kind bytes handle =
    if not (compression bytes handle == NO_COMPRESSION) then Err (Compressed handle.offset)
    else (if not (stored_sum bytes handle == found_sum bytes handle) then Err (Sum handle.offset (stored_sum bytes handle) (found_sum bytes handle))
    else opened_block kind handle.offset (contents_at bytes handle) (block_of kind (contents_at bytes handle)))
