-- The contents of a block: entries, restart offsets, and their count.
use Rattle.std.specs.Prelude.{ℕ, zero, suc, ◌+◌, ◌-◌, ◌*◌, Bool, true, false, ◌&&◌, ◌||◌, ◌==◌, nat_lt, nat_le, List, [], ◌∷◌, ◌++◌, length, take, drop, slice_range, Option, Some, None, option_and_then, Result, Ok, Err, if◌then◌else◌}
use Rattle.std.specs.Int.{w32, from_le_bytes}
use Rattle.std.specs.List.{list_all, list_any}
use Rattle.std.specs.Ordering.{is_lt}
use Rattle.std.specs.Result.{result_ok}
use Rattle.st_base.specs.Bytes.{bytes_cmp}
use Rattle.st_base.specs.Order.{rises}
use Rattle.st_base.specs.declared.faults.BlockFault.{BlockFault}
use Rattle.st_base.specs.declared.faults.BlockFault.TheVariants.{Restarts, Entry, Order}
use Rattle.st_base.specs.declared.limits.TheConstants.{INTERNAL_KEY_BYTES}
use Rattle.st_code.specs.Varint.{varint32_at}
use Rattle.st_block.specs.InternalKey.{internal_cmp}
use Rattle.st_block.specs.declared.internal_key.TheConstants.{PACKED_BYTES}
use Rattle.st_block.specs.declared.kind.BlockKind.{BlockKind}
use Rattle.st_block.specs.declared.kind.BlockKind.TheVariants.{Data, Index, Plain}

-- an entry: where it begins in the block, how many bytes it shares with the key before, its key and its value
pub record Cell : Type 0 where
  pub at : ℕ
  pub shared : ℕ
  pub key : List ℕ
  pub value : List ℕ

-- ---- one entry

-- the three lengths that an entry begins with, and the offset after them
pub record Head : Type 0 where
  pub shared : ℕ
  pub unshared : ℕ
  pub value : ℕ
  pub behind : ℕ

unfoldable pub head_at : List ℕ → ℕ → Option Head
head_at area at =
    option_and_then (λ shared. option_and_then (λ unshared. option_and_then (λ value.
    Some (record { shared = shared.0; unshared = unshared.0; value = value.0; behind = value.1 }))
    (result_ok (varint32_at area unshared.1))) (result_ok (varint32_at area shared.1))) (result_ok (varint32_at area at))

-- it shares no more than the key before has, its key is within its limit, and it ends with the entries or before
abbrev pub fits : List ℕ → List ℕ → Head → Bool
fits area before head =
    nat_le head.shared (length before) && (nat_le (head.shared + head.unshared) INTERNAL_KEY_BYTES && nat_le (head.behind + head.unshared + head.value) (length area))

-- what an entry with this head is, and the offset after it
abbrev pub laid : List ℕ → List ℕ → ℕ → Head → Cell × ℕ
laid area before at head = (
  record {
    at = at;
    shared = head.shared;
    key = take head.shared before ++ slice_range area head.behind (head.behind + head.unshared);
    value = slice_range area (head.behind + head.unshared) (head.behind + head.unshared + head.value);
  },
  head.behind + head.unshared + head.value,
)

-- the entry at an offset after a key, and the offset after it
unfoldable pub cell_at : List ℕ → List ℕ → ℕ → Option (Cell × ℕ)
cell_at area before at = option_and_then (λ head. if fits area before head then Some (laid area before at head) else None) (head_at area at)

-- ---- entries

-- keys of data and index blocks are internal keys
abbrev pub is_long_enough : BlockKind → List ℕ → Bool
is_long_enough Data key = nat_le PACKED_BYTES (length key)
is_long_enough Index key = nat_le PACKED_BYTES (length key)
is_long_enough Plain key = true

-- keys rise; in data blocks that is not looked at
abbrev pub is_after : BlockKind → List ℕ → List ℕ → Bool
is_after Data before key = true
is_after Index before key = is_lt (internal_cmp before key)
is_after Plain before key = is_lt (bytes_cmp before key)

-- an entry that was read, or its fault; no key stands before the first
abbrev pub tested : BlockKind → List ℕ → ℕ → Option (Cell × ℕ) → Result (Cell × ℕ) BlockFault
tested kind before at None = Err (Entry at)
tested kind before at (Some found) =
    if is_long_enough kind found.0.key then (if (at == 0) || is_after kind before found.0.key then Ok found else Err (Order at)) else Err (Entry at)

abbrev pub next_cell : BlockKind → List ℕ → List ℕ → ℕ → Result (Cell × ℕ) BlockFault
next_cell kind area before at = tested kind before at (cell_at area before at)

-- one entry before the others
abbrev pub with_cell : Cell → Result (List Cell) BlockFault → Result (List Cell) BlockFault
with_cell cell (Ok cells) = Ok (cell ∷ cells)
with_cell cell (Err fault) = Err fault

abbrev pub found_then : Result (Cell × ℕ) BlockFault → (Cell × ℕ → Result (List Cell) BlockFault) → Result (List Cell) BlockFault
found_then (Ok found) behind = with_cell found.0 (behind found)
found_then (Err fault) behind = Err fault

-- the entries from an offset on, or the first fault; there are at most so many
unfoldable pub cells_from : ℕ → BlockKind → List ℕ → List ℕ → ℕ → Result (List Cell) BlockFault
cells_from zero kind area before at = Ok []
cells_from (suc most) kind area before at =
    if at == length area then Ok [] else found_then (next_cell kind area before at) (λ found. cells_from most kind area found.0.key found.1)

abbrev pub entries_of : BlockKind → List ℕ → Result (List Cell) BlockFault
entries_of kind area = cells_from (length area) kind area [] 0

-- ---- restarts

-- so many fixed32 from an offset on
abbrev pub offsets_at : List ℕ → ℕ → ℕ → List ℕ
offsets_at bytes at zero = []
offsets_at bytes at (suc count) = from_le_bytes w32 (drop at bytes) ∷ offsets_at bytes (at + 4) count

-- where the entries end, and the restart offsets after them
pub record Tail : Type 0 where
  pub end : ℕ
  pub restarts : List ℕ

-- the first restart is 0, and they rise
abbrev pub are_restarts : List ℕ → Bool
are_restarts [] = false
are_restarts (first ∷ offsets) = (first == 0) && rises nat_lt (first ∷ offsets)

-- the tail with so many restarts
abbrev pub counted_tail : List ℕ → ℕ → Option Tail
counted_tail bytes count =
    if nat_lt (length bytes) (4 * count + 4) then None
    else (if are_restarts (offsets_at bytes (length bytes - (4 * count + 4)) count)
    then Some (record { end = length bytes - (4 * count + 4); restarts = offsets_at bytes (length bytes - (4 * count + 4)) count }) else None)

unfoldable pub tail_of : List ℕ → Option Tail
tail_of bytes = if nat_lt (length bytes) 4 then None else counted_tail bytes (from_le_bytes w32 (drop (length bytes - 4) bytes))

-- where the entries end
abbrev pub tail_end : Option Tail → ℕ
tail_end None = 0
tail_end (Some tail) = tail.end

abbrev pub entries_end : List ℕ → ℕ
entries_end bytes = tail_end (tail_of bytes)

-- the restarts after them
abbrev pub tail_restarts : Option Tail → List ℕ
tail_restarts None = []
tail_restarts (Some tail) = tail.restarts

abbrev pub restarts_of : List ℕ → List ℕ
restarts_of bytes = tail_restarts (tail_of bytes)

-- whether a restart is an entry that shares nothing
abbrev pub is_restart : List Cell → ℕ → Bool
is_restart cells offset = list_any (λ cell. (cell.at == offset) && (cell.shared == 0)) cells

-- ---- the block

-- a data block has an entry; another block without entries has one restart
abbrev pub none_fit : BlockKind → List ℕ → Result (List Cell) BlockFault
none_fit Data restarts = Err (Entry 0)
none_fit Index restarts = if length restarts == 1 then Ok [] else Err Restarts
none_fit Plain restarts = if length restarts == 1 then Ok [] else Err Restarts

-- each restart is an entry that shares nothing
abbrev pub restarts_fit : BlockKind → List ℕ → List Cell → Result (List Cell) BlockFault
restarts_fit kind restarts [] = none_fit kind restarts
restarts_fit kind restarts (cell ∷ cells) = if list_all (is_restart (cell ∷ cells)) restarts then Ok (cell ∷ cells) else Err Restarts

abbrev pub fitted : BlockKind → List ℕ → Result (List Cell) BlockFault → Result (List Cell) BlockFault
fitted kind restarts (Ok cells) = restarts_fit kind restarts cells
fitted kind restarts (Err fault) = Err fault

abbrev pub entries_before : BlockKind → List ℕ → Option Tail → Result (List Cell) BlockFault
entries_before kind bytes None = Err Restarts
entries_before kind bytes (Some tail) = fitted kind tail.restarts (entries_of kind (take tail.end bytes))

-- the entries of a block, or its first fault: first the tail, then the entries in order, then each restart
abbrev pub block_of : BlockKind → List ℕ → Result (List Cell) BlockFault
block_of kind bytes = entries_before kind bytes (tail_of bytes)
