-- What was written is read again: numbers, handles, the footer and stored blocks.
use Rattle.std.proofs.Common.{◌≡◌, ℕ, ◌+◌, ◌-◌, ◌^◌, ◌<◌, ◌≤◌, List, [], ◌∷◌, ◌++◌, length, take, drop, get_or, Some, Result, Ok, refl, sym, ap, ◌∙◌, append_assoc, arith}
use Rattle.std.specs.Prelude.{option_and_then, replicate, slice_index}
use Rattle.std.specs.Int.{w32, w64, from_le_bytes}
use Rattle.std.specs.Result.{result_ok}
use Rattle.std.proofs.lemmas.List.{append-nil, drop-drop, drop_at, length-append, take_at, get_or-drop}
use Rattle.std.proofs.lemmas.Nat.{from_le_bytes-to_le_bytes_4, from_le_bytes-to_le_bytes_8}
use Rattle.st_code.specs.declared.fault.CodeFault.{CodeFault}
use Rattle.st_code.proofs.Forms.{form_spelled, shortest_form}
use Rattle.st_code.proofs.Reading.{below_in}
use Rattle.st_code.specs.Crc.{crc32c, mask}
use Rattle.st_code.specs.Fixed.{fixed32, fixed64}
use Rattle.st_code.specs.Varint.{if_below, placed, spelled, varint, varint64_at}
use Rattle.st_block.specs.Block.{Cell, block_of, entries_end, restarts_of}
use Rattle.st_block.specs.BlockContents.{BlockContents}
use Rattle.st_block.specs.declared.kind.BlockKind.{BlockKind}
use Rattle.st_table.specs.Handle.{handle_at, handle_bytes}
use Rattle.st_table.specs.Footer.{footer_bytes}
use Rattle.st_table.specs.IsTable.{IsFooter, IsStored}
use Rattle.st_table.specs.Stored.{contents_at, found_sum, stored}
use Rattle.st_table.specs.declared.footer.TheConstants.{MAGIC}
use Rattle.st_table.specs.declared.handle.Handle.{Handle}
use Rattle.st_table.proofs.Lengths.{head_short, zeros_length}

-- ---- places

-- what stands behind what stands at a place
pub step : (bytes x rest : List ℕ) (at n : ℕ) → drop at bytes ≡ x ++ rest → length x ≡ n → drop (at + n) bytes ≡ rest
step bytes x rest at n e len = sym (drop-drop n at bytes) ∙ ap (λ (l : List ℕ). drop n l) e ∙ drop_at x rest n len

front_at : (bytes x rest : List ℕ) (at n : ℕ) → drop at bytes ≡ x ++ rest → length x ≡ n → take n (drop at bytes) ≡ x
front_at bytes x rest at n e len = ap (λ (l : List ℕ). take n l) e ∙ take_at x rest n len

byte_at : (bytes : List ℕ) (at byte : ℕ) (rest : List ℕ) → drop at bytes ≡ byte ∷ rest → slice_index bytes at ≡ byte
byte_at bytes at byte rest e = ap (λ (k : ℕ). get_or bytes k 0) (let k : at ≡ at + 0 = omega arith in k) ∙ sym (get_or-drop at bytes 0 0) ∙ ap (λ (l : List ℕ). get_or l 0 0) e

-- ---- numbers and handles

abbrev Number : Type 0
Number = Result (ℕ × ℕ) CodeFault

varint_here : (bytes rest : List ℕ) (at n : ℕ) → n < 2 ^ 64 → drop at bytes ≡ varint n ++ rest → varint64_at bytes at ≡ Ok (n, at + length (varint n))
varint_here bytes rest at n lt e =
    let s = shortest_form 9 n (omega arith) in
    ap (λ (l : List ℕ). placed at (if_below (2 ^ 64) (spelled 10 l))) e
    ∙ ap (λ (r : Number). placed at (if_below (2 ^ 64) r)) (form_spelled (varint n) rest n 10 s.form_of s.within)
    ∙ ap (λ (r : Number). placed at r) (below_in (2 ^ 64) (n, length (varint n)) lt)

pub handle_here : (bytes rest : List ℕ) (at : ℕ) (h : Handle) → h.offset < 2 ^ 64 → h.size < 2 ^ 64 → drop at bytes ≡ handle_bytes h ++ rest → handle_at bytes at ≡ Some (h, at + length (handle_bytes h))
unfolding handle_at
handle_here bytes rest at h o s e =
    let a = varint h.offset in
    let b = varint h.size in
    let here : drop at bytes ≡ a ++ (b ++ rest) = e ∙ append_assoc a b rest in
    let there = step bytes a (b ++ rest) at (length a) here refl in
    ap (λ (r : Number). option_and_then (λ offset. option_and_then (λ size. Some (record { offset = offset.0; size = size.0 }, size.1)) (result_ok (varint64_at bytes offset.1))) (result_ok r)) (varint_here bytes (b ++ rest) at h.offset o here)
    ∙ ap (λ (r : Number). option_and_then (λ size. Some (record { offset = h.offset; size = size.0 }, size.1)) (result_ok r)) (varint_here bytes rest (at + length a) h.size s there)
    ∙ ap (λ (n : ℕ). Some (h, n)) (let k : at + length a + length b ≡ at + length (a ++ b) = omega (arith, length-append a b) in k)

-- a handle that is a whole value
pub handle_whole : (h : Handle) → h.offset < 2 ^ 64 → h.size < 2 ^ 64 → handle_at (handle_bytes h) 0 ≡ Some (h, length (handle_bytes h))
handle_whole h o s =
    handle_here (handle_bytes h) [] 0 h o s (sym (append-nil (handle_bytes h)))
    ∙ ap (λ (n : ℕ). Some (h, n)) (let k : 0 + length (handle_bytes h) ≡ length (handle_bytes h) = omega arith in k)

-- ---- the footer

pub footer_here : (bytes : List ℕ) (at : ℕ) (metaindex index : Handle) → drop at bytes ≡ footer_bytes metaindex index → at + 53 ≡ length bytes
    → metaindex.offset < 2 ^ 64 → metaindex.size < 2 ^ 64 → index.offset < 2 ^ 64 → index.size < 2 ^ 64 → IsFooter bytes (record { metaindex = metaindex; index = index })
footer_here bytes at metaindex index e room mo ms io is =
    let m = handle_bytes metaindex in
    let i = handle_bytes index in
    let head = 1 ∷ m ++ i in
    let zeros : List ℕ = replicate (41 - length head) 0 in
    let version = fixed32 2 in
    let number = fixed64 MAGIC in
    let short = head_short metaindex index in
    let size : length (head ++ zeros) ≡ 41 = omega (arith, length-append head zeros, zeros_length (41 - length head), short) in
    let all : drop at bytes ≡ (head ++ zeros) ++ (version ++ number) = e ∙ append_assoc (head ++ zeros) version number in
    let at-version : drop (at + 41) bytes ≡ version ++ number = step bytes (head ++ zeros) (version ++ number) at 41 all size in
    let at-number : drop (at + 41 + 4) bytes ≡ number = step bytes version number (at + 41) 4 at-version refl in
    let rest = i ++ (zeros ++ (version ++ number)) in
    let first : drop at bytes ≡ (1 ∷ []) ++ (m ++ rest) =
    all ∙ append_assoc head zeros (version ++ number) ∙ append_assoc (1 ∷ m) i (zeros ++ (version ++ number)) in
    let at-metaindex : drop (at + 1) bytes ≡ m ++ rest = step bytes (1 ∷ []) (m ++ rest) at 1 first refl in
    let at-index : drop (at + 1 + length m) bytes ≡ i ++ (zeros ++ (version ++ number)) = step bytes m rest (at + 1) (length m) at-metaindex refl in
    record {
      long = omega arith;
      magic_is = ap (λ (k : ℕ). from_le_bytes w64 (drop k bytes)) (let k : length bytes - 8 ≡ at + 41 + 4 = omega arith in k) ∙ ap (λ (l : List ℕ). from_le_bytes w64 l) at-number ∙ from_le_bytes-to_le_bytes_8 MAGIC (omega arith);
      version_is = ap (λ (k : ℕ). from_le_bytes w32 (drop k bytes)) (let k : length bytes - 12 ≡ at + 41 = omega arith in k) ∙ ap (λ (l : List ℕ). from_le_bytes w32 l) at-version ∙ from_le_bytes-to_le_bytes_4 2 (omega arith);
      checksum_is = ap (λ (k : ℕ). slice_index bytes k) (let k : length bytes - 53 ≡ at = omega arith in k) ∙ byte_at bytes at 1 (m ++ rest) first;
      index_at = at + 1 + length m;
      behind = at + 1 + length m + length i;
      metaindex_is = ap (λ (k : ℕ). handle_at bytes k) (let k : length bytes - 52 ≡ at + 1 = omega arith in k) ∙ handle_here bytes rest (at + 1) metaindex mo ms at-metaindex;
      index_is = handle_here bytes (zeros ++ (version ++ number)) (at + 1 + length m) index io is at-index;
    }

-- ---- stored blocks

-- the block of these bytes
abbrev pub contents_of : BlockKind → List ℕ → List Cell → BlockContents
contents_of kind text cells = record { kind = kind; end = entries_end text; cells = cells; restarts = restarts_of text }

abbrev pub at_place : ℕ → List ℕ → Handle
at_place at text = record { offset = at; size = length text }

pub stored_here : (bytes rest : List ℕ) (at : ℕ) (kind : BlockKind) (text : List ℕ) (cells : List Cell) → drop at bytes ≡ stored text ++ rest → at + length text + 58 ≤ length bytes → block_of kind text ≡ Ok cells
    → IsStored bytes kind (at_place at text) (contents_of kind text cells)
stored_here bytes rest at kind text cells e room opens =
    let sum = mask (crc32c (text ++ 0 ∷ [])) in
    let one : drop at bytes ≡ text ++ (0 ∷ fixed32 sum ++ rest) = e ∙ append_assoc text (0 ∷ fixed32 sum) rest in
    let two : drop at bytes ≡ (text ++ 0 ∷ []) ++ (fixed32 sum ++ rest) = one ∙ sym (append_assoc text (0 ∷ []) (fixed32 sum ++ rest)) in
    let at-byte = step bytes text (0 ∷ fixed32 sum ++ rest) at (length text) one refl in
    let longer : length (text ++ 0 ∷ []) ≡ length text + 1 = omega (arith, length-append text (0 ∷ [])) in
    let at-sum : drop (at + length text + 1) bytes ≡ fixed32 sum ++ rest = ap (λ (k : ℕ). drop k bytes) (let k : at + length text + 1 ≡ at + (length text + 1) = omega arith in k) ∙ step bytes (text ++ 0 ∷ []) (fixed32 sum ++ rest) at (length text + 1) two longer in
    let contents : contents_at bytes (at_place at text) ≡ text = ap (λ (k : ℕ). take k (drop at bytes)) (let k : at + length text - at ≡ length text = omega arith in k) ∙ front_at bytes text (0 ∷ fixed32 sum ++ rest) at (length text) one refl in
    let found : found_sum bytes (at_place at text) ≡ sum =
    ap (λ (k : ℕ). mask (crc32c (take k (drop at bytes)))) (let k : at + length text + 1 - at ≡ length text + 1 = omega arith in k)
    ∙ ap (λ (l : List ℕ). mask (crc32c l)) (front_at bytes (text ++ 0 ∷ []) (fixed32 sum ++ rest) at (length text + 1) two longer) in
    record {
      inside = omega arith;
      uncompressed = byte_at bytes (at + length text) 0 (fixed32 sum ++ rest) at-byte;
      sum = ap (λ (l : List ℕ). from_le_bytes w32 l) at-sum ∙ from_le_bytes-to_le_bytes_4 sum (omega arith) ∙ sym found;
      cells_are = ap (block_of kind) contents ∙ opens;
      end_is = ap entries_end (sym contents);
      kind_is = refl;
      restarts_are = ap restarts_of (sym contents);
    }
