-- How long what is written is.
use Rattle.std.proofs.Common.{◌≡◌, ℕ, ◌+◌, ◌-◌, ◌*◌, ◌%◌, ◌<◌, ◌≤◌, Bool, true, false, cond, eqb, leb, List, [], ◌∷◌, ◌++◌, length, refl, ap, arith}
use Rattle.std.proofs.lemmas.List.{length-append}
use Rattle.std.proofs.lemmas.Bool.{ne_eqb}
use Rattle.st_base.specs.declared.entry.Entry.{Entry}
use Rattle.st_block.proofs.Writers.{entry_length, tail_length}
use Rattle.st_block.specs.Written.{Writing, pair_added, entries_bytes, entry_bytes, finished_block, restarts_of, shared_of, written_block}
use Rattle.st_table.specs.Footer.{footer_bytes}
use Rattle.st_table.specs.Metaindex.{properties_name}
use Rattle.st_table.proofs.Lengths.{footer_length, handle_short, stored_length, varint_short}
use Rattle.table_writer.specs.Written.{Pair, ending, metaindex_block, properties_block, property_pairs, table_bytes}
use Rattle.table_writer.specs.Writer.{Writer, entry_added, finished_table, finished_with, indexed_block, with_closed, with_open}
use Rattle.st_table.specs.Handle.{handle_bytes}
use Rattle.st_block.specs.InternalKey.{internal_key, value_under}
use Rattle.st_table.specs.Stored.{stored}
use Rattle.st_table.specs.declared.handle.Handle.{Handle}
use Rattle.st_table.specs.declared.kind.TableKind.{TableKind}
use Rattle.st_table.specs.declared.kind.TableKind.TheVariants.{External, Own}

-- ---- blocks

-- what entries take at most, with a restart each
abbrev pub pairs_size : List Pair → ℕ
pairs_size [] = 0
pairs_size (pair ∷ pairs) = 34 + length pair.0 + length pair.1 + pairs_size pairs

entry_short : (shared : ℕ) (key value : List ℕ) → length (entry_bytes shared key value) ≤ 30 + length key + length value
entry_short shared key value = omega (arith, entry_length shared key value, varint_short shared, varint_short (length key - shared), varint_short (length value))

entries_short : (interval count : ℕ) (before : List ℕ) (pairs : List Pair) → length (entries_bytes interval count before pairs) + 4 * length pairs ≤ pairs_size pairs
entries_short interval count before [] = omega arith
entries_short interval count before (pair ∷ pairs) =
    let entry = entry_bytes (shared_of interval count before pair.0) pair.0 pair.1 in
    omega (arith, entries_short interval (count + 1) pair.0 pairs, entry_short (shared_of interval count before pair.0) pair.0 pair.1, length-append entry (entries_bytes interval (count + 1) pair.0 pairs))

restarts_short : (interval count at : ℕ) (before : List ℕ) (pairs : List Pair) → length (restarts_of interval count at before pairs) ≤ length pairs
restarts_short interval count at before [] = omega arith
restarts_short interval count at before (pair ∷ pairs) =
    let entry = entry_bytes (shared_of interval count before pair.0) pair.0 pair.1 in
    let here = cond (eqb (count % interval) 0) (at ∷ []) [] in
    let rest = restarts_of interval (count + 1) (at + length entry) pair.0 pairs in
    omega (arith, restarts_short interval (count + 1) (at + length entry) pair.0 pairs, length-append here rest, one (eqb (count % interval) 0))
  where
    one : (t : Bool) → length (cond t (at ∷ []) []) ≤ 1
    one true = omega arith
    one false = omega arith

pub written_short : (interval : ℕ) (pairs : List Pair) → length (written_block interval pairs) ≤ pairs_size pairs + 8
written_short interval pairs =
    omega (arith, tail_length (entries_bytes interval 0 [] pairs) (restarts_of interval 0 0 [] pairs), entries_short interval 0 [] pairs, restarts_short interval 0 0 [] pairs)

-- ---- the ending

properties_short : (kind : TableKind) (count : ℕ) → length (properties_block kind count) ≤ 500
properties_short External count = omega (arith, written_short 1 (property_pairs External count), varint_short count)
properties_short Own count = omega (arith, written_short 1 (property_pairs Own count), varint_short count)

metaindex_short : (handle : Handle) → length (metaindex_block handle) ≤ 100
metaindex_short handle = omega (arith, written_short 1 ((properties_name, handle_bytes handle) ∷ []), handle_short handle)

pub ending_short : (kind : TableKind) (count at : ℕ) (index : Handle) → length (ending kind count at index) ≤ 1000
ending_short kind count at index =
    let properties = properties_block kind count in
    let handle : Handle = record { offset = at; size = length properties } in
    let metaindex = metaindex_block handle in
    let footer = footer_bytes (record { offset = at + length (stored properties); size = length metaindex }) index in
    omega (arith, properties_short kind count, metaindex_short handle, stored_length properties, stored_length metaindex, footer_length (record { offset = at + length (stored properties); size = length metaindex }) index, length-append (stored properties) (stored metaindex), length-append (stored properties ++ stored metaindex) footer)

-- ---- the whole

pub table_length : (kind : TableKind) (count : ℕ) (blocks index : List ℕ)
    → length (table_bytes kind count blocks index) ≡ length blocks + length index + 5 + length (ending kind count (length blocks + length (stored index)) (record { offset = length blocks; size = length index }))
table_length kind count blocks index =
    let rest = ending kind count (length blocks + length (stored index)) (record { offset = length blocks; size = length index }) in
    omega (arith, stored_length index, length-append blocks (stored index), length-append (blocks ++ stored index) rest)

-- whether the block of an entry that is added stays open or is closed, the table is the same
pub finished_either : (writer : Writer) (block : Writing) (t : Bool) → 0 < block.count
    → finished_table (cond t (with_closed writer block) (with_open writer block)) ≡ finished_with writer.kind (writer.count + 1) writer.blocks block writer.index
finished_either writer block true some = refl
finished_either writer block false some =
    ap (λ (b : Bool). cond b (table_bytes writer.kind (writer.count + 1) writer.blocks (finished_block writer.index)) (finished_with writer.kind (writer.count + 1) writer.blocks block writer.index)) (ne_eqb block.count 0 (λ z. omega arith))

pub finished_added : (writer : Writer) (e : Entry)
    → finished_table (entry_added writer e) ≡ finished_with writer.kind (writer.count + 1) writer.blocks (pair_added writer.block (internal_key e) (value_under e.mark)) writer.index
finished_added writer e =
    let block = pair_added writer.block (internal_key e) (value_under e.mark) in
    finished_either writer block (leb 4096 (length block.entries)) (omega arith)

-- a block with an entry more
pub added_short : (writing : Writing) (key value : List ℕ)
    → length (pair_added writing key value).entries + 4 * length (pair_added writing key value).restarts ≤ length writing.entries + 4 * length writing.restarts + length key + length value + 34
added_short writing key value =
    let shared = shared_of writing.interval writing.count writing.last key in
    let here = cond (eqb (writing.count % writing.interval) 0) (length writing.entries ∷ []) [] in
    omega (arith, entry_short shared key value, length-append writing.entries (entry_bytes shared key value), length-append writing.restarts here, one (eqb (writing.count % writing.interval) 0))
  where
    one : (t : Bool) → length (cond t (length writing.entries ∷ []) []) ≤ 1
    one true = omega arith
    one false = omega arith

-- the parts of a finished table are no longer than it
pub parts_short : (kind : TableKind) (count : ℕ) (blocks : List ℕ) (block index : Writing)
    → length blocks + length (finished_block block) + length (finished_block (indexed_block index (length blocks) block)) + 10 ≤ length (finished_with kind count blocks block index)
parts_short kind count blocks block index =
    omega (arith, table_length kind count (blocks ++ stored (finished_block block)) (finished_block (indexed_block index (length blocks) block)), length-append blocks (stored (finished_block block)), stored_length (finished_block block))

pub whole_parts_short : (kind : TableKind) (count : ℕ) (blocks index : List ℕ) → length blocks + length index ≤ length (table_bytes kind count blocks index)
whole_parts_short kind count blocks index = omega (arith, table_length kind count blocks index)
