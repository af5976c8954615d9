-- Handles: where a block lies in a file. A handle is two varint64, the offset of the block and its size without its trailer.
use Rattle.std.specs.Prelude.{ℕ, ◌+◌, ◌-◌, ◌≤◌, Bool, ◌==◌, nat_le, List, ◌++◌, length, Option, Some, None, option_and_then, Result, Ok, Err, if◌then◌else◌}
use Rattle.std.specs.Result.{result_ok}
use Rattle.st_base.specs.declared.faults.TableFault.{TableFault}
use Rattle.st_base.specs.declared.faults.TableFault.TheVariants.{Handle as HandleFault}
use Rattle.st_code.specs.Varint.{varint, varint64_at}
use Rattle.st_table.specs.declared.footer.TheConstants.{FOOTER_BYTES}
use Rattle.st_table.specs.declared.handle.Handle.{Handle}
use Rattle.st_table.specs.declared.stored.TheConstants.{TRAILER_BYTES}

abbrev pub handle_bytes : Handle → List ℕ
handle_bytes handle = varint handle.offset ++ varint handle.size

-- the handle at an offset in the bytes, and the offset behind it
unfoldable pub handle_at : List ℕ → ℕ → Option (Handle × ℕ)
handle_at bytes at =
    option_and_then (λ offset. option_and_then (λ size. Some (record { offset = offset.0; size = size.0 }, size.1)) (result_ok (varint64_at bytes offset.1))) (result_ok (varint64_at bytes at))

-- the block and its trailer lie before the footer
abbrev pub lies : List ℕ → Handle → Bool
lies bytes handle = nat_le (handle.offset + handle.size + TRAILER_BYTES) (length bytes - FOOTER_BYTES)

-- the same of bytes that have a footer
abbrev pub LiesInFile : List ℕ → Handle → Type 0
LiesInFile bytes handle = handle.offset + handle.size + TRAILER_BYTES + FOOTER_BYTES ≤ length bytes

-- a handle of the footer, and the offset behind it; a fault names the offset in the file at which the handle begins
abbrev pub lying : List ℕ → ℕ → Option (Handle × ℕ) → Result (Handle × ℕ) TableFault
lying bytes at None = Err (HandleFault at)
lying bytes at (Some found) = if lies bytes found.0 then Ok found else Err (HandleFault at)

abbrev pub footer_handle : List ℕ → ℕ → Result (Handle × ℕ) TableFault
footer_handle bytes at = lying bytes at (handle_at bytes at)

-- a handle that is the whole of a value, which begins at an offset in the file
abbrev pub exactly : List ℕ → ℕ → ℕ → Option (Handle × ℕ) → Result Handle TableFault
exactly bytes at size None = Err (HandleFault at)
exactly bytes at size (Some found) = if (found.1 == size) then (if lies bytes found.0 then Ok found.0 else Err (HandleFault at)) else Err (HandleFault at)

abbrev pub value_handle : List ℕ → ℕ → List ℕ → Result Handle TableFault
value_handle bytes at value = exactly bytes at (length value) (handle_at value 0)
