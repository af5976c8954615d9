-- The entries that a writer of a table holds, and the table of them.
use Rattle.std.proofs.Common.{◌≡◌, ℕ, ◌+◌, Bool, true, false, cond, leb, List, [], ◌∷◌, ◌++◌, length, refl, sym, ap, subst, ◌∙◌, arith}
use Rattle.std.specs.Prelude.{map}
use Rattle.std.proofs.lemmas.Bool.{ne_eqb, eq-eqb}
use Rattle.std.proofs.lemmas.List.{append-nil, length-append, map-append}
use Rattle.std.proofs.lemmas.List.Sums.{fold-append}
use Rattle.std.proofs.lemmas.Grind.{flat_map-append}
use Rattle.st_base.specs.declared.entry.Entry.{Entry}
use Rattle.st_block.proofs.Writers.{holds_more}
use Rattle.st_block.specs.Written.{Writing, pair_added, entries_bytes, finished_block, last_pair_key, with_tail, or_zero, written_block, HoldsPairs as BlockHolds}
use Rattle.table_writer.specs.Written.{Cut, Pair, closed_with, cut_more, cut_of, data_block, data_bytes, index_pairs, pair_of, table_bytes, written_blocks, written_table}
use Rattle.table_writer.specs.Writer.{HoldsEntries, HoldsCut, Writer, entry_added, finished_table, finished_with, indexed_block, no_entries, with_closed, with_open}
use Rattle.st_table.specs.Handle.{handle_bytes}
use Rattle.st_table.specs.Stored.{stored}

-- ---- one block more

data_more : (closed : List (List Pair)) (group : List Pair) → data_bytes (closed ++ group ∷ []) ≡ data_bytes closed ++ stored (data_block group)
data_more closed group =
    flat_map-append (λ (pairs : List Pair). stored (data_block pairs)) closed (group ∷ []) ∙ ap (λ (l : List ℕ). data_bytes closed ++ l) (append-nil (stored (data_block group)))

index_more : (at : ℕ) (closed : List (List Pair)) (group : List Pair)
    → index_pairs at (closed ++ group ∷ []) ≡ index_pairs at closed ++ (last_pair_key [] group, handle_bytes (record { offset = at + length (data_bytes closed); size = length (data_block group) })) ∷ []
index_more at [] group = ap (λ (n : ℕ). let p : List Pair = (last_pair_key [] group, handle_bytes (record { offset = n; size = length (data_block group) })) ∷ [] in p) (let k : at ≡ at + 0 = omega arith in k)
index_more at (one ∷ closed) group =
    let size = length (stored (data_block one)) in
    let head : Pair = (last_pair_key [] one, handle_bytes (record { offset = at; size = length (data_block one) })) in
    ap (λ (l : List Pair). head ∷ l)
    (index_more (at + size) closed group
    ∙ ap (λ (n : ℕ). index_pairs (at + size) closed ++ (last_pair_key [] group, handle_bytes (record { offset = n; size = length (data_block group) })) ∷ [])
    (let k : at + size + length (data_bytes closed) ≡ at + length (data_bytes (one ∷ closed)) = omega (arith, length-append (stored (data_block one)) (data_bytes closed)) in k))

-- a block whose entries are these is written so
finished_is : (writing : Writing) (interval : ℕ) (pairs : List Pair) → BlockHolds writing pairs → writing.interval ≡ interval → finished_block writing ≡ written_block interval pairs
finished_is writing interval pairs h e =
    ap (λ (x : List ℕ). with_tail x (or_zero writing.restarts)) h.entries
    ∙ ap (λ (x : List ℕ). with_tail (entries_bytes writing.interval 0 [] pairs) (or_zero x)) h.restarts
    ∙ ap (λ (n : ℕ). written_block n pairs) e

-- a block is closed: how it is stored, and its index entry
pub record Closes (blocks : List ℕ) (block index : Writing) (closed : List (List Pair)) : Type 0 where
  pub stored_is : blocks ++ stored (finished_block block) ≡ data_bytes closed
  pub indexed_is : BlockHolds (indexed_block index (length blocks) block) (index_pairs 0 closed)

closes : (blocks : List ℕ) (block index : Writing) (closed : List (List Pair)) (group : List Pair) → blocks ≡ data_bytes closed → BlockHolds block group → block.interval ≡ 16 → BlockHolds index (index_pairs 0 closed)
    → Closes blocks block index (closed ++ group ∷ [])
closes blocks block index closed group b h i x =
    let is = finished_is block 16 group h i in
    let key = h.last in
    let value : handle_bytes (record { offset = length blocks; size = length (finished_block block) }) ≡ handle_bytes (record { offset = 0 + length (data_bytes closed); size = length (data_block group) }) =
    ap (λ (n : ℕ). handle_bytes (record { offset = n; size = length (finished_block block) })) (let k : length blocks ≡ 0 + length (data_bytes closed) = omega (arith, ap length b) in k)
    ∙ ap (λ (l : List ℕ). handle_bytes (record { offset = 0 + length (data_bytes closed); size = length l })) is in
    record {
      stored_is = ap (λ (l : List ℕ). l ++ stored (finished_block block)) b ∙ ap (λ (l : List ℕ). data_bytes closed ++ stored l) is ∙ sym (data_more closed group);
      indexed_is =
          subst (λ (pairs : List Pair). BlockHolds (indexed_block index (length blocks) block) pairs)
          (ap (λ (l : List ℕ). index_pairs 0 closed ++ (l, handle_bytes (record { offset = length blocks; size = length (finished_block block) })) ∷ []) key
          ∙ ap (λ (l : List ℕ). index_pairs 0 closed ++ (last_pair_key [] group, l) ∷ []) value
          ∙ sym (index_more 0 closed group))
          (holds_more index (index_pairs 0 closed) block.last (handle_bytes (record { offset = length blocks; size = length (finished_block block) })) x);
    }

-- ---- an entry more

none_held : (interval : ℕ) → BlockHolds (no_entries interval) []
none_held interval = record { count = refl; entries = refl; restarts = refl; last = refl }

cut_step : (w : Writer) (n : ℕ) (cut : Cut) (e : Entry) → HoldsCut w n cut → HoldsCut (entry_added w e) (n + 1) (cut_more cut (pair_of e))
cut_step w n cut e h =
    let pair = pair_of e in
    let block = pair_added w.block pair.0 pair.1 in
    let group = cut.open_block ++ pair ∷ [] in
    let held : BlockHolds block group = holds_more w.block cut.open_block pair.0 pair.1 h.block in
    let same : leb 4096 (length block.entries) ≡ leb 4096 (length (entries_bytes 16 0 [] group)) = ap (λ (l : List ℕ). leb 4096 (length l)) (held.entries ∙ ap (λ (i : ℕ). entries_bytes i 0 [] group) h.block_interval) in
    let c = closes w.blocks block w.index cut.closed group h.blocks held h.block_interval h.index in
    let shut : HoldsCut (with_closed w block) (n + 1) (record { closed = cut.closed ++ group ∷ []; open_block = [] }) = record {
      count = omega (arith, h.count);
      blocks = c.stored_is;
      block = none_held 16;
      block_interval = refl;
      index = c.indexed_is;
      index_interval = h.index_interval;
    } in
    let left : HoldsCut (with_open w block) (n + 1) (record { closed = cut.closed; open_block = group }) = record {
      count = omega (arith, h.count);
      blocks = h.blocks;
      block = held;
      block_interval = h.block_interval;
      index = h.index;
      index_interval = h.index_interval;
    } in
    let by : (t : Bool) → HoldsCut (cond t (with_closed w block) (with_open w block)) (n + 1) (cond t (record { closed = cut.closed ++ group ∷ []; open_block = [] }) (record { closed = cut.closed; open_block = group })) =
    λ t. elim t as (λ v. HoldsCut (cond v (with_closed w block) (with_open w block)) (n + 1) (cond v (record { closed = cut.closed ++ group ∷ []; open_block = [] }) (record { closed = cut.closed; open_block = group }))) [ true ↦ shut | false ↦ left ] in
    subst (λ (t : Bool). HoldsCut (cond t (with_closed w block) (with_open w block)) (n + 1) (cut_more cut pair)) (sym same) (by (leb 4096 (length (entries_bytes 16 0 [] group))))

pub table_holds_more : (writer : Writer) (entries : List Entry) (entry : Entry) → HoldsEntries writer entries → HoldsEntries (entry_added writer entry) (entries ++ entry ∷ [])
table_holds_more writer entries entry h =
    let start : Cut = record { closed = []; open_block = [] } in
    let cut : cut_more (cut_of (map pair_of entries)) (pair_of entry) ≡ cut_of (map pair_of (entries ++ entry ∷ [])) =
    sym (ap cut_of (map-append pair_of entries (entry ∷ [])) ∙ fold-append cut_more start (map pair_of entries) (pair_of entry ∷ [])) in
    let count : length entries + 1 ≡ length (entries ++ entry ∷ []) = omega (arith, length-append entries (entry ∷ [])) in
    subst (λ (n : ℕ). HoldsCut (entry_added writer entry) n (cut_of (map pair_of (entries ++ entry ∷ [])))) count
    (subst (λ (c : Cut). HoldsCut (entry_added writer entry) (length entries + 1) c) cut (cut_step writer (length entries) (cut_of (map pair_of entries)) entry h))

-- ---- the finished table

written_open : (w : Writer) (n : ℕ) (closed : List (List Pair)) (group : List Pair) → HoldsCut w n (record { closed = closed; open_block = group }) → finished_table w ≡ written_blocks w.kind n (closed_with closed group)
written_open w n closed [] h =
    ap (λ (t : Bool). cond t (table_bytes w.kind w.count w.blocks (finished_block w.index)) (finished_with w.kind w.count w.blocks w.block w.index)) (eq-eqb w.block.count 0 (sym h.block.count))
    ∙ ap (λ (k : ℕ). table_bytes w.kind k w.blocks (finished_block w.index)) h.count
    ∙ ap (λ (l : List ℕ). table_bytes w.kind n l (finished_block w.index)) h.blocks
    ∙ ap (λ (l : List ℕ). table_bytes w.kind n (data_bytes closed) l) (finished_is w.index 1 (index_pairs 0 closed) h.index h.index_interval)
written_open w n closed (pair ∷ pairs) h =
    let group = pair ∷ pairs in
    let c = closes w.blocks w.block w.index closed group h.blocks h.block h.block_interval h.index in
    let index = indexed_block w.index (length w.blocks) w.block in
    ap (λ (t : Bool). cond t (table_bytes w.kind w.count w.blocks (finished_block w.index)) (finished_with w.kind w.count w.blocks w.block w.index)) (ne_eqb w.block.count 0 (λ z. omega (arith, h.block.count)))
    ∙ ap (λ (k : ℕ). table_bytes w.kind k (w.blocks ++ stored (finished_block w.block)) (finished_block index)) h.count
    ∙ ap (λ (l : List ℕ). table_bytes w.kind n l (finished_block index)) c.stored_is
    ∙ ap (λ (l : List ℕ). table_bytes w.kind n (data_bytes (closed ++ group ∷ [])) l) (finished_is index 1 (index_pairs 0 (closed ++ group ∷ [])) c.indexed_is h.index_interval)

pub table_written : (writer : Writer) (entries : List Entry) → HoldsEntries writer entries → finished_table writer ≡ written_table writer.kind entries
table_written writer entries h =
    let cut = cut_of (map pair_of entries) in
    written_open writer (length entries) cut.closed cut.open_block h
