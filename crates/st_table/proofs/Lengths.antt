-- How long what is written is: varints, stored blocks, handles, the footer.
use Rattle.std.proofs.Common.{◌≡◌, ℕ, zero, suc, ◌+◌, ◌-◌, ◌/◌, ◌%◌, ◌^◌, ◌<◌, ◌≤◌, Bool, true, false, cond, ltb, List, [], ◌∷◌, ◌++◌, length, refl, ap, arith}
use Rattle.std.specs.Prelude.{replicate}
use Rattle.std.proofs.lemmas.List.{length-append}
use Rattle.st_code.specs.Crc.{crc32c, mask}
use Rattle.st_code.specs.Fixed.{fixed32, fixed64}
use Rattle.st_code.specs.Varint.{shortest, varint}
use Rattle.st_table.specs.Footer.{footer_bytes, greatest_size, padded}
use Rattle.st_table.specs.Handle.{handle_bytes}
use Rattle.st_table.specs.Stored.{stored}
use Rattle.st_table.specs.declared.footer.TheConstants.{MAGIC}
use Rattle.st_table.specs.declared.handle.Handle.{Handle}
use Rattle.st_table.specs.declared.kind.TableKind.{TableKind}
use Rattle.st_table.specs.declared.kind.TableKind.TheVariants.{External, Own}

short_form : (most n : ℕ) → length (shortest most n) ≤ most
unfolding shortest
short_form zero n = omega arith
short_form (suc most) n = either (ltb n 128) (short_form most (n / 128))
  where
    either : (t : Bool) → length (shortest most (n / 128)) ≤ most → length (cond t (n ∷ []) ((n % 128 + 128) ∷ shortest most (n / 128))) ≤ suc most
    either true h = omega arith
    either false h = omega arith

pub varint_short : (n : ℕ) → length (varint n) ≤ 10
varint_short n = short_form 10 n

pub stored_length : (contents : List ℕ) → length (stored contents) ≡ length contents + 5
stored_length contents = omega (arith, length-append contents (0 ∷ fixed32 (mask (crc32c (contents ++ 0 ∷ [])))))

pub handle_short : (handle : Handle) → length (handle_bytes handle) ≤ 20
handle_short handle = omega (arith, length-append (varint handle.offset) (varint handle.size), varint_short handle.offset, varint_short handle.size)

pub zeros_length : (n : ℕ) → length {A = ℕ} (replicate n 0) ≡ n
zeros_length zero = refl
zeros_length (suc n) = ap suc (zeros_length n)

padded_length : (bytes : List ℕ) → length bytes ≤ 41 → length (padded bytes) ≡ 41
padded_length bytes le = omega (arith, length-append bytes (replicate (41 - length bytes) 0), zeros_length (41 - length bytes))

pub head_short : (metaindex index : Handle) → length (1 ∷ handle_bytes metaindex ++ handle_bytes index) ≤ 41
head_short metaindex index = omega (arith, length-append (1 ∷ handle_bytes metaindex) (handle_bytes index), handle_short metaindex, handle_short index)

pub footer_length : (metaindex index : Handle) → length (footer_bytes metaindex index) ≡ 53
footer_length metaindex index =
    let p = padded (1 ∷ handle_bytes metaindex ++ handle_bytes index) in
    omega (arith, padded_length (1 ∷ handle_bytes metaindex ++ handle_bytes index) (head_short metaindex index), length-append p (fixed32 2), length-append (p ++ fixed32 2) (fixed64 MAGIC))

pub limit_short : (kind : TableKind) → greatest_size kind < 2 ^ 32
limit_short External = omega arith
limit_short Own = omega arith
