-- The footer: the last 53 bytes of a table.
--
--   checksum type | metaindex handle | index handle | padding to 41 bytes | version (fixed32) | magic number (fixed64)
--
-- Of RocksDB's block-based table, format version 2. A handle has 20 bytes at most, so that two of them end before the
-- version. The padding isn't looked at.
use Rattle.std.specs.Prelude.{ℕ, ◌-◌, not, ◌==◌, nat_lt, List, ◌∷◌, ◌++◌, length, drop, replicate, slice_index, Result, Ok, Err, if◌then◌else◌}
use Rattle.std.specs.Int.{w32, w64, from_le_bytes}
use Rattle.st_base.specs.declared.faults.TableFault.{TableFault}
use Rattle.st_base.specs.declared.faults.TableFault.TheVariants.{TooLarge, Short, Magic, Version, Checksum}
use Rattle.st_base.specs.declared.limits.TheConstants.{OWN_TABLE_BYTES, TABLE_BYTES}
use Rattle.st_code.specs.Fixed.{fixed32, fixed64}
use Rattle.st_table.specs.Handle.{footer_handle, handle_bytes}
use Rattle.st_table.specs.Steps.{◌>>=◌}
use Rattle.st_table.specs.declared.footer.Footer.{Footer}
use Rattle.st_table.specs.declared.footer.TheConstants.{CHECKSUM_TYPE, FOOTER_BYTES, FORMAT_VERSION, MAGIC, PADDED_BYTES}
use Rattle.st_table.specs.declared.handle.Handle.{Handle}
use Rattle.st_table.specs.declared.kind.TableKind.{TableKind}
use Rattle.st_table.specs.declared.kind.TableKind.TheVariants.{External, Own}

-- the greatest size of a file of this kind, in bytes
abbrev pub greatest_size : TableKind → ℕ
greatest_size External = TABLE_BYTES
greatest_size Own = OWN_TABLE_BYTES

-- ---- written

-- the checksum type and the handles, with zero bytes after them up to the version
abbrev pub padded : List ℕ → List ℕ
padded bytes = bytes ++ replicate (PADDED_BYTES - length bytes) 0

abbrev pub footer_bytes : Handle → Handle → List ℕ
footer_bytes metaindex index = padded (CHECKSUM_TYPE ∷ handle_bytes metaindex ++ handle_bytes index) ++ fixed32 FORMAT_VERSION ++ fixed64 MAGIC

-- ---- read

abbrev pub magic_of : List ℕ → ℕ
magic_of bytes = from_le_bytes w64 (drop (length bytes - 8) bytes)

abbrev pub version_of : List ℕ → ℕ
version_of bytes = from_le_bytes w32 (drop (length bytes - 12) bytes)

abbrev pub checksum_of : List ℕ → ℕ
checksum_of bytes = slice_index bytes (length bytes - FOOTER_BYTES)

-- the two handles after the checksum type
unfoldable pub handles_of : List ℕ → Result Footer TableFault
handles_of bytes = do
  metaindex ← footer_handle bytes (length bytes - 52)
  index ← footer_handle bytes metaindex.1
  Ok (record { metaindex = metaindex.0; index = index.0 })

-- the footer of a file of this kind, or its first fault
unfoldable pub footer_of : TableKind → List ℕ → Result Footer TableFault
footer_of kind bytes =
    if nat_lt (greatest_size kind) (length bytes) then Err TooLarge
    else (if nat_lt (length bytes) FOOTER_BYTES then Err Short
    else (if not (magic_of bytes == MAGIC) then Err Magic
    else (if not (version_of bytes == FORMAT_VERSION) then Err (Version (version_of bytes))
    else (if not (checksum_of bytes == CHECKSUM_TYPE) then Err (Checksum (checksum_of bytes))
    else handles_of bytes))))
