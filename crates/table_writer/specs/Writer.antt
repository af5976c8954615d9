-- What a writer of a table has so far, and the table that it finishes.
use Rattle.std.specs.Prelude.{◌≡◌, ℕ, ◌+◌, ◌*◌, ◌^◌, ◌<◌, ◌≤◌, Bool, nat_le, ◌==◌, List, [], ◌++◌, length, map, if◌then◌else◌}
use Rattle.st_base.specs.declared.entry.Entry.{Entry}
use Rattle.st_block.specs.InternalKey.{internal_key, value_under}
use Rattle.st_block.specs.Written.{Writing, pair_added, finished_block, HoldsPairs as BlockHolds}
use Rattle.st_table.specs.Footer.{greatest_size}
use Rattle.st_table.specs.Handle.{handle_bytes}
use Rattle.st_table.specs.Stored.{stored}
use Rattle.st_table.specs.declared.handle.Handle.{Handle}
use Rattle.st_table.specs.declared.kind.TableKind.{TableKind}
use Rattle.table_writer.specs.Written.{Cut, cut_of, data_bytes, index_pairs, pair_of, table_bytes}
use Rattle.table_writer.specs.declared.writer.TheConstants.{BLOCK_BYTES, RESTART_INTERVAL}

-- what a writer has so far: the closed data blocks as they are stored, the open one, and the index of the closed ones
pub record Writer : Type 0 where
  pub kind : TableKind
  pub count : ℕ
  pub blocks : List ℕ
  pub block : Writing
  pub index : Writing

-- what the entries and the restart offsets of a writer of a block have, in bytes
abbrev pub bytes_in : Writing → ℕ
bytes_in writing = length writing.entries + 4 * length writing.restarts

-- a writer of a block without entries
abbrev pub no_entries : ℕ → Writing
no_entries interval = record { interval = interval; count = 0; entries = []; restarts = []; last = [] }

-- the handle of a block that is stored behind these bytes
abbrev pub handle_behind : List ℕ → List ℕ → Handle
handle_behind blocks block = record { offset = length blocks; size = length block }

-- the index with an entry of the block that is stored behind these bytes, under a key
abbrev pub indexed_behind : Writing → List ℕ → List ℕ → List ℕ → Writing
indexed_behind index key blocks block = pair_added index key (handle_bytes (handle_behind blocks block))

-- the index with the entry of a block that begins at an offset
abbrev pub indexed_block : Writing → ℕ → Writing → Writing
indexed_block index at block = pair_added index block.last (handle_bytes (record { offset = at; size = length (finished_block block) }))

-- with a block closed, or left open
abbrev pub with_closed : Writer → Writing → Writer
with_closed writer block = record {
  kind = writer.kind;
  count = writer.count + 1;
  blocks = writer.blocks ++ stored (finished_block block);
  block = no_entries RESTART_INTERVAL;
  index = indexed_block writer.index (length writer.blocks) block;
}

abbrev pub with_open : Writer → Writing → Writer
with_open writer block = record { kind = writer.kind; count = writer.count + 1; blocks = writer.blocks; block = block; index = writer.index }

abbrev pub with_data_block : Writer → Writing → Writer
with_data_block writer block = if nat_le BLOCK_BYTES (length block.entries) then with_closed writer block else with_open writer block

-- with an internal key and a value more, or an entry
abbrev pub with_pair : Writer → List ℕ → List ℕ → Writer
with_pair writer key value = with_data_block writer (pair_added writer.block key value)

abbrev pub entry_added : Writer → Entry → Writer
entry_added writer entry = with_pair writer (internal_key entry) (value_under entry.mark)

-- the table of what was added: a block with entries is closed at the end
abbrev pub finished_with : TableKind → ℕ → List ℕ → Writing → Writing → List ℕ
finished_with kind count blocks block index = table_bytes kind count (blocks ++ stored (finished_block block)) (finished_block (indexed_block index (length blocks) block))

abbrev pub finished_table : Writer → List ℕ
finished_table writer =
    if writer.block.count == 0 then table_bytes writer.kind writer.count writer.blocks (finished_block writer.index)
    else finished_with writer.kind writer.count writer.blocks writer.block writer.index

-- the same with an internal key and a value more, and whether it is within the limit of its kind
abbrev pub finished_more : Writer → List ℕ → List ℕ → List ℕ
finished_more writer key value = finished_with writer.kind (writer.count + 1) writer.blocks (pair_added writer.block key value) writer.index

abbrev pub FitsMore : Writer → List ℕ → List ℕ → Type 0
FitsMore writer key value = length (finished_more writer key value) ≤ greatest_size writer.kind

abbrev pub fits_more : Writer → List ℕ → List ℕ → Bool
fits_more writer key value = nat_le (length (finished_more writer key value)) (greatest_size writer.kind)

-- so many entries were added, and are in these blocks
pub record HoldsCut (writer : Writer) (entries : ℕ) (cut : Cut) : Type 0 where
  pub count : writer.count ≡ entries
  pub blocks : writer.blocks ≡ data_bytes cut.closed
  pub block : BlockHolds writer.block cut.open_block
  pub block_interval : writer.block.interval ≡ RESTART_INTERVAL
  pub index : BlockHolds writer.index (index_pairs 0 cut.closed)
  pub index_interval : writer.index.interval ≡ 1

-- these entries were added
abbrev pub HoldsEntries : Writer → List Entry → Type 0
HoldsEntries writer entries = HoldsCut writer (length entries) (cut_of (map pair_of entries))

-- what a writer keeps: the finished table is within the limit of its kind, and counts fit 64 bits
pub record IsWriter (writer : Writer) : Type 0 where
  pub fits : length (finished_table writer) ≤ greatest_size writer.kind
  pub blocks_short : length writer.blocks < 2 ^ 32
  pub counted : writer.count ≤ length writer.blocks + length writer.block.entries
