-- What a writer of a table keeps.
use Rattle.std.proofs.Common.{◌≡◌, ℕ, ◌+◌, ◌*◌, ◌^◌, ◌<◌, ◌≤◌, Bool, true, false, cond, eqb, List, [], ◌++◌, length, take, refl, sym, ap, subst, ◌∙◌, arith}
use Rattle.std.specs.Prelude.{IsTrue, ◌↔◌}
use Rattle.std.proofs.lemmas.Bool.{eq-eqb, ne_eqb, false≢true}
use Rattle.st_base.specs.declared.entry.Entry.{Entry}
use Rattle.std.proofs.lemmas.List.{length-append}
use Rattle.std.proofs.Math.Seq.{take-append_seam}
use Rattle.st_block.proofs.Writers.{entry_some, finished_long, finished_short, tail_length}
use Rattle.st_block.specs.Written.{Writing, pair_added, entry_bytes, finished_block, shared_of, HoldsPairs as BlockHolds}
use Rattle.st_table.specs.Footer.{greatest_size}
use Rattle.table_writer.specs.Writer.{handle_behind, IsWriter, Writer, entry_added, finished_table, finished_with, indexed_block, no_entries, with_closed, with_open}
use Rattle.table_writer.specs.Written.{ending, table_bytes}
use Rattle.st_block.specs.InternalKey.{internal_key, value_under}
use Rattle.st_table.specs.Handle.{handle_bytes}
use Rattle.st_table.specs.Stored.{stored}
use Rattle.st_table.specs.declared.handle.Handle.{Handle}
use Rattle.st_table.specs.declared.kind.TableKind.{TableKind}
use Rattle.st_table.specs.declared.kind.TableKind.TheVariants.{External, Own}
use Rattle.st_table.proofs.Lengths.{handle_short, stored_length, limit_short}
use Rattle.table_writer.proofs.Sizes.{ending_short, finished_added, finished_either, parts_short, table_length}

-- ---- how long the table is

pub total_is : (kind : TableKind) (count : ℕ) (blocks : List ℕ) (block index : Writing) (handle : List ℕ) (len size index_size before : ℕ)
    → len ≡ length blocks → size ≡ length (finished_block block) → handle ≡ handle_bytes (record { offset = len; size = size }) → index_size ≡ length (finished_block (pair_added index block.last handle)) → before ≡ len + size + 5 + index_size + 5
    → length (finished_with kind count blocks block index) ≡ before + length (ending kind count before (record { offset = len + size + 5; size = index_size }))
total_is kind count blocks block index handle len size index_size before l s h i b =
    let b' = blocks ++ stored (finished_block block) in
    let i' = finished_block (indexed_block index (length blocks) block) in
    let same : handle ≡ handle_bytes (record { offset = length blocks; size = length (finished_block block) }) =
    h ∙ ap (λ (n : ℕ). handle_bytes (record { offset = n; size = size })) l ∙ ap (λ (n : ℕ). handle_bytes (record { offset = length blocks; size = n })) s in
    let isize : index_size ≡ length i' = i ∙ ap (λ (x : List ℕ). length (finished_block (pair_added index block.last x))) same in
    let bsize : length b' ≡ len + size + 5 = omega (arith, length-append blocks (stored (finished_block block)), stored_length (finished_block block), l, s) in
    let whole : length b' + length (stored i') ≡ before = omega (arith, bsize, stored_length i', isize, b) in
    let e : length (ending kind count (length b' + length (stored i')) (record { offset = length b'; size = length i' })) ≡ length (ending kind count before (record { offset = len + size + 5; size = index_size })) =
    ap (λ (n : ℕ). length (ending kind count n (record { offset = length b'; size = length i' }))) whole
    ∙ ap (λ (n : ℕ). length (ending kind count before (record { offset = n; size = length i' }))) bsize
    ∙ ap (λ (n : ℕ). length (ending kind count before (record { offset = len + size + 5; size = n }))) (sym isize) in
    omega (arith, table_length kind count b' i', e, bsize, isize, b)

-- a bound on it with an entry more
pub at_most : (w : Writer) (key value : List ℕ)
    → length (finished_with w.kind (w.count + 1) w.blocks (pair_added w.block key value) w.index) ≤ length w.blocks + length (finished_block w.block) + length (finished_block w.index) + 2 * length key + length value + 1114
at_most w key value =
    let block = pair_added w.block key value in
    let len = length w.blocks in
    let size = length (finished_block block) in
    let handle = handle_bytes (record { offset = len; size = size }) in
    let index_size = length (finished_block (pair_added w.index key handle)) in
    let before = len + size + 5 + index_size + 5 in
    omega (arith, total_is w.kind (w.count + 1) w.blocks block w.index handle len size index_size before refl refl refl refl refl, ending_short w.kind (w.count + 1) before (record { offset = len + size + 5; size = index_size }), handle_short (record { offset = len; size = size }), finished_short w.block key value, finished_short w.index key handle, tail_length w.block.entries w.block.restarts, tail_length w.index.entries w.index.restarts)

-- a bound on a block with an entry more
pub block_at_most : (writing : Writing) (key value : List ℕ) → length (pair_added writing key value).entries ≤ length (finished_block writing) + length key + length value + 42
block_at_most writing key value = omega (arith, finished_long (pair_added writing key value), finished_short writing key value, tail_length writing.entries writing.restarts)

-- ---- a writer without entries

pub none_is : (writing : Writing) (interval : ℕ) → BlockHolds writing [] → writing.interval ≡ interval → writing ≡ no_entries interval
none_is writing interval h e =
    ap (λ (n : ℕ). let w : Writing = record { interval = n; count = writing.count; entries = writing.entries; restarts = writing.restarts; last = writing.last } in w) e
    ∙ ap (λ (n : ℕ). let w : Writing = record { interval = interval; count = n; entries = writing.entries; restarts = writing.restarts; last = writing.last } in w) (sym h.count)
    ∙ ap (λ (l : List ℕ). let w : Writing = record { interval = interval; count = 0; entries = l; restarts = writing.restarts; last = writing.last } in w) h.entries
    ∙ ap (λ (l : List ℕ). let w : Writing = record { interval = interval; count = 0; entries = []; restarts = l; last = writing.last } in w) h.restarts
    ∙ ap (λ (l : List ℕ). let w : Writing = record { interval = interval; count = 0; entries = []; restarts = []; last = l } in w) h.last

limit_long : (kind : TableKind) → 2000 ≤ greatest_size kind
limit_long External = omega arith
limit_long Own = omega arith

pub new_keeps : (kind : TableKind) (blocks : List ℕ) (block index : Writing) → blocks ≡ [] → block ≡ no_entries 16 → index ≡ no_entries 1 → IsWriter (record { kind = kind; count = 0; blocks = blocks; block = block; index = index })
new_keeps kind blocks block index b o i =
    let empty : Writer = record { kind = kind; count = 0; blocks = []; block = no_entries 16; index = no_entries 1 } in
    let base : IsWriter empty = record {
      fits = omega (arith, limit_long kind, table_length kind 0 [] (finished_block (no_entries 1)), ending_short kind 0 (0 + length (stored (finished_block (no_entries 1)))) (record { offset = 0; size = length (finished_block (no_entries 1)) }), tail_length [] []);
      blocks_short = omega arith;
      counted = omega arith;
    } in
    subst (λ (x : List ℕ). IsWriter (record { kind = kind; count = 0; blocks = x; block = block; index = index })) (sym b)
    (subst (λ (x : Writing). IsWriter (record { kind = kind; count = 0; blocks = []; block = x; index = index })) (sym o)
    (subst (λ (x : Writing). IsWriter (record { kind = kind; count = 0; blocks = []; block = no_entries 16; index = x })) (sym i) base))

-- ---- an entry more

pub grows : (writing : Writing) (key value : List ℕ) → length writing.entries + 1 ≤ length (pair_added writing key value).entries
grows writing key value =
    let entry = entry_bytes (shared_of writing.interval writing.count writing.last key) key value in
    omega (arith, length-append writing.entries entry, entry_some (shared_of writing.interval writing.count writing.last key) key value)

abbrev pub Fits : Writer → Writing → Type 0
Fits w block = length (finished_with w.kind (w.count + 1) w.blocks block w.index) ≤ greatest_size w.kind

pub block_room : (w : Writer) (block : Writing) → Fits w block → length (finished_block block) < 2 ^ 32
block_room w block room = omega (arith, room, parts_short w.kind (w.count + 1) w.blocks block w.index, limit_short w.kind)

pub index_room : (w : Writer) (block : Writing) → Fits w block → length (finished_block (indexed_block w.index (length w.blocks) block)) < 2 ^ 32
index_room w block room = omega (arith, room, parts_short w.kind (w.count + 1) w.blocks block w.index, limit_short w.kind)

pub open_keeps : (w : Writer) (block : Writing) → 0 < block.count → length w.block.entries + 1 ≤ length block.entries → Fits w block → IsWriter w → IsWriter (with_open w block)
open_keeps w block some more room h = record {
  fits = subst (λ (l : List ℕ). length l ≤ greatest_size w.kind) (sym (finished_either w block false some)) room;
  blocks_short = h.blocks_short;
  counted = omega (arith, more, h.counted);
}

pub closed_keeps : (w : Writer) (block : Writing) → 0 < block.count → length w.block.entries + 1 ≤ length block.entries → Fits w block → IsWriter w → IsWriter (with_closed w block)
closed_keeps w block some more room h =
    let size = length-append w.blocks (stored (finished_block block)) in
    record {
      fits = subst (λ (l : List ℕ). length l ≤ greatest_size w.kind) (sym (finished_either w block true some)) room;
      blocks_short = omega (arith, size, stored_length (finished_block block), room, parts_short w.kind (w.count + 1) w.blocks block w.index, limit_short w.kind);
      counted = omega (arith, size, stored_length (finished_block block), finished_long block, more, h.counted);
    }

-- ---- in the words of the code

pub taken_back : (blocks out more : List ℕ) (len : ℕ) → len ≡ length blocks → out ≡ blocks ++ more → take len out ≡ blocks
taken_back blocks out more len l e = ap (λ (n : ℕ). take n out) l ∙ ap (take (length blocks)) e ∙ take-append_seam blocks more

pub closed_is : (w : Writer) (block : Writing) (out : List ℕ) (next index : Writing) → out ≡ w.blocks ++ stored (finished_block block) → next ≡ no_entries 16 → index ≡ indexed_block w.index (length w.blocks) block
    → (let v : Writer = record { kind = w.kind; count = w.count + 1; blocks = out; block = next; index = index } in v) ≡ with_closed w block
closed_is w block out next index o n i =
    ap (λ (x : List ℕ). let v : Writer = record { kind = w.kind; count = w.count + 1; blocks = x; block = next; index = index } in v) o
    ∙ ap (λ (x : Writing). let v : Writer = record { kind = w.kind; count = w.count + 1; blocks = w.blocks ++ stored (finished_block block); block = x; index = index } in v) n
    ∙ ap (λ (x : Writing). let v : Writer = record { kind = w.kind; count = w.count + 1; blocks = w.blocks ++ stored (finished_block block); block = no_entries 16; index = x } in v) i

-- the table with an entry, by its internal key and value
pub with_entry_is : (w : Writer) (e : Entry) (key value : List ℕ) → key ≡ internal_key e → value ≡ value_under e.mark
    → length (finished_with w.kind (w.count + 1) w.blocks (pair_added w.block key value) w.index) ≡ length (finished_table (entry_added w e))
with_entry_is w e key value k v =
    ap (λ (x : List ℕ). length (finished_with w.kind (w.count + 1) w.blocks (pair_added w.block x value) w.index)) k
    ∙ ap (λ (x : List ℕ). length (finished_with w.kind (w.count + 1) w.blocks (pair_added w.block (internal_key e) x) w.index)) v
    ∙ ap length (sym (finished_added w e))

-- ---- the finished table

pub some_entries : (b : Bool) (count : ℕ) → b ≡ false → IsTrue b ↔ (count ≡ 0) → eqb count 0 ≡ false
some_entries b count f h = ne_eqb count 0 (λ e. false≢true (sym f ∙ h.1 e))

pub finished_none : (w : Writer) → w.block.count ≡ 0 → finished_table w ≡ table_bytes w.kind w.count w.blocks (finished_block w.index)
finished_none w e = ap (λ (t : Bool). cond t (table_bytes w.kind w.count w.blocks (finished_block w.index)) (finished_with w.kind w.count w.blocks w.block w.index)) (eq-eqb w.block.count 0 e)

pub finished_some : (w : Writer) → eqb w.block.count 0 ≡ false → finished_table w ≡ finished_with w.kind w.count w.blocks w.block w.index
finished_some w f = ap (λ (t : Bool). cond t (table_bytes w.kind w.count w.blocks (finished_block w.index)) (finished_with w.kind w.count w.blocks w.block w.index)) f

-- the table that is put together of data blocks and an index block
pub whole_of : (kind : TableKind) (count at : ℕ) (blocks index stored_blocks rest whole : List ℕ) (handle : Handle) → handle ≡ handle_behind blocks index → stored_blocks ≡ blocks ++ stored index → at ≡ length stored_blocks
    → rest ≡ ending kind count at handle → whole ≡ stored_blocks ++ rest → whole ≡ table_bytes kind count blocks index
whole_of kind count at blocks index stored_blocks rest whole handle h s a r w =
    let place : at ≡ length blocks + length (stored index) = omega (arith, a, ap length s, length-append blocks (stored index)) in
    w
    ∙ ap (λ (l : List ℕ). l ++ rest) s
    ∙ ap (λ (l : List ℕ). blocks ++ stored index ++ l) (r ∙ ap (λ (n : ℕ). ending kind count n handle) place ∙ ap (λ (x : Handle). ending kind count (length blocks + length (stored index)) x) h)

-- the same of the open block too
pub with_open_block : (kind : TableKind) (count : ℕ) (blocks : List ℕ) (block index : Writing) (contents last handle index_block stored_blocks : List ℕ) → contents ≡ finished_block block → last ≡ block.last
    → handle ≡ handle_bytes (handle_behind blocks contents) → index_block ≡ finished_block (pair_added index last handle) → stored_blocks ≡ blocks ++ stored contents
    → table_bytes kind count stored_blocks index_block ≡ finished_with kind count blocks block index
with_open_block kind count blocks block index contents last handle index_block stored_blocks c l h i s =
    let same : handle ≡ handle_bytes (handle_behind blocks (finished_block block)) = h ∙ ap (λ (x : List ℕ). handle_bytes (handle_behind blocks x)) c in
    ap (λ (x : List ℕ). table_bytes kind count x index_block) (s ∙ ap (λ (x : List ℕ). blocks ++ stored x) c)
    ∙ ap (λ (x : List ℕ). table_bytes kind count (blocks ++ stored (finished_block block)) x)
    (i ∙ ap (λ (x : List ℕ). finished_block (pair_added index x handle)) l ∙ ap (λ (x : List ℕ). finished_block (pair_added index block.last x)) same)
