-- A table that was written is a table of its kind, with the entries that were added.
use Rattle.std.proofs.Common.{◌≡◌, ℕ, ◌+◌, ◌-◌, ◌^◌, ◌<◌, ◌≤◌, Bool, true, ◌&&◌, List, [], ◌∷◌, ◌++◌, length, drop, Option, Some, None, Ok, refl, sym, ap, subst, ◌∙◌, append_assoc, arith}
use Rattle.std.specs.Prelude.{map, IfSome}
use Rattle.std.specs.List.{AllByRecursion}
use Rattle.std.specs.Ordering.{is_le, is_lt}
use Rattle.std.proofs.lemmas.Bool.{and_parts}
use Rattle.std.proofs.lemmas.List.{drop_at, length-append, map-append}
use Rattle.st_base.specs.Order.{comes_before, in_order, rises_behind}
use Rattle.st_base.specs.declared.entry.Entry.{Entry}
use Rattle.st_block.specs.Block.{Cell, block_of, cells_from, tail_of}
use Rattle.st_block.specs.InternalKey.{internal_cmp, entry_under}
use Rattle.st_block.specs.BlockContents.{BlockContents}
use Rattle.st_block.specs.Written.{FitsBlock, GoOn, MayWrite, cells_of, last_pair_key, shared_of, entry_bytes, written_block}
use Rattle.st_block.specs.declared.kind.BlockKind.{BlockKind}
use Rattle.st_block.specs.declared.kind.BlockKind.TheVariants.{Data, Index, Plain}
use Rattle.st_table.specs.DataBlocks.{last_cell_key}
use Rattle.st_table.specs.Entries.{is_behind, last_entry}
use Rattle.st_table.specs.Footer.{greatest_size, footer_bytes}
use Rattle.st_table.specs.IsTable.{AreDataBlocks, AreProperties, IsEntry, IsMetaindex, IsTable, entries_under, joined}
use Rattle.st_table.specs.Metaindex.{properties_name}
use Rattle.table_writer.specs.Written.{MayBeTable, Pair, blocks_of, data_block, data_bytes, ending, index_pairs, metaindex_block, pair_of, properties_block, property_pairs, written_blocks, written_table}
use Rattle.st_table.specs.Handle.{handle_bytes}
use Rattle.st_table.specs.Stored.{stored}
use Rattle.st_table.specs.declared.handle.Handle.{Handle}
use Rattle.st_table.specs.declared.kind.TableKind.{TableKind}
use Rattle.st_table.specs.declared.kind.TableKind.TheVariants.{External, Own}
use Rattle.table_writer.proofs.Grouped.{NotEmpty, PairFits, before, blocks_are, entry_of_pair, internal_less, internal_same, joined_pairs, last_before, last_behind, last_key_is, last_pair, pairs_are, pairs_fit}
use Rattle.st_table.proofs.Reread.{contents_of, footer_here, handle_whole, step, stored_here}
use Rattle.st_table.proofs.Lengths.{footer_length, handle_short, limit_short, stored_length, varint_short}
use Rattle.table_writer.proofs.Sizes.{table_length}
use Rattle.st_table.proofs.Tables.{behind_in}

-- ---- cells of written pairs

abbrev cells : ℕ → List Pair → List Cell
cells interval pairs = cells_of interval 0 0 [] pairs

under_cells : (interval count at : ℕ) (key : List ℕ) (pairs : List Pair) → entries_under (cells_of interval count at key pairs) ≡ map entry_of_pair pairs
under_cells interval count at key [] = refl
under_cells interval count at key (pair ∷ pairs) = ap (λ (l : List Entry). entry_of_pair pair ∷ l) (under_cells interval (count + 1) (at + length (entry_bytes (shared_of interval count key pair.0) pair.0 pair.1)) pair.0 pairs)

cells_fit : (kind : TableKind) (interval count at : ℕ) (key : List ℕ) (pairs : List Pair) → AllByRecursion (PairFits kind) pairs → AllByRecursion (IsEntry kind) (cells_of interval count at key pairs)
cells_fit kind interval count at key [] h = tt
cells_fit kind interval count at key (pair ∷ pairs) h =
    (record { kind_fits = h.0.kind_fits; number_fits = h.0.number_fits; size = h.0.block.value }, cells_fit kind interval (count + 1) (at + length (entry_bytes (shared_of interval count key pair.0) pair.0 pair.1)) pair.0 pairs h.1)

last_cell : (interval count at : ℕ) (key : List ℕ) (pairs : List Pair) → last_cell_key key (cells_of interval count at key pairs) ≡ last_pair_key key pairs
last_cell interval count at key [] = refl
last_cell interval count at key (pair ∷ pairs) = last_cell interval (count + 1) (at + length (entry_bytes (shared_of interval count key pair.0) pair.0 pair.1)) pair.0 pairs

-- ---- what may be written

data_rest : (kind : TableKind) (key : List ℕ) (pairs : List Pair) → AllByRecursion (PairFits kind) pairs → GoOn Data key pairs
data_rest kind key [] h = tt
data_rest kind key (pair ∷ pairs) h = (refl, h.0.block, data_rest kind pair.0 pairs h.1)

may_data : (kind : TableKind) (group : List Pair) → NotEmpty group → AllByRecursion (PairFits kind) group → MayWrite Data group
may_data kind [] some h = absurd some
may_data kind (pair ∷ pairs) some h = (h.0.block, data_rest kind pair.0 pairs h.1)

all_parts : {A : Type 0} (P : A → Type 0) (xs ys : List A) → AllByRecursion P (xs ++ ys) → AllByRecursion P xs × AllByRecursion P ys
all_parts P [] ys h = (tt, h)
all_parts P (x ∷ xs) ys h = let r = all_parts P xs ys h.1 in ((h.0, r.0), r.1)

last_fits : (kind : TableKind) (pair : Pair) (pairs : List Pair) → AllByRecursion (PairFits kind) (pair ∷ pairs) → PairFits kind (last_pair pair pairs)
last_fits kind pair [] h = h.0
last_fits kind pair (other ∷ pairs) h = last_fits kind other pairs h.1

-- ---- entries behind others

rises_rest : (e : Entry) (es : List Entry) → rises_behind comes_before e es ≡ true → in_order es ≡ true
rises_rest e [] h = refl
rises_rest e (x ∷ es) h = (and_parts (comes_before e x) (rises_behind comes_before x es) h).1

order_rest : (front rest : List Entry) → in_order (front ++ rest) ≡ true → in_order rest ≡ true
order_rest [] rest h = h
order_rest (e ∷ es) rest h = order_rest es rest (rises_rest e (es ++ rest) h)

rises_part : (e : Entry) (xs ys : List Entry) → rises_behind comes_before e (xs ++ ys) ≡ true → rises_behind comes_before e xs ≡ true
rises_part e [] ys h = refl
rises_part e (x ∷ xs) ys h =
    let p = and_parts (comes_before e x) (rises_behind comes_before x (xs ++ ys)) h in
    ap (λ (t : Bool). t && rises_behind comes_before x xs) p.0 ∙ rises_part x xs ys p.1

-- the last key of what stands before, in the words of its entries
abbrev Known : List Entry → Option (List ℕ) → Type 0
Known front None = Unit {0}
Known front (Some key) = (p : Pair) × (last_entry front ≡ Some (entry_of_pair p)) × (key ≡ p.0)

behind_known : (front : List Entry) (p q : Pair) (rest : List Entry) → last_entry front ≡ Some (entry_of_pair p) → in_order (front ++ entry_of_pair q ∷ rest) ≡ true → before p q ≡ true
behind_known front p q rest l o =
    sym (ap (λ (e : Option Entry). is_behind e (entry_of_pair q).key (entry_of_pair q).number) l) ∙ behind_in front (entry_of_pair q) rest o

first_known : (front : List Entry) (key : Option (List ℕ)) (q : Pair) (rest : List Entry) → Known front key → in_order (front ++ entry_of_pair q ∷ rest) ≡ true → IfSome key (λ k. is_lt (internal_cmp k q.0) ≡ true)
first_known front None q rest k o = tt
first_known front (Some key) q rest k o = ap (λ (l : List ℕ). is_lt (internal_cmp l q.0)) k.2 ∙ internal_less k.0 q (behind_known front k.0 q rest k.1 o)

-- ---- the index

-- the entries of a group and of those behind it
entries_joined : (pair : Pair) (group : List Pair) (groups : List (List Pair)) → map entry_of_pair (joined_pairs ((pair ∷ group) ∷ groups)) ≡ entry_of_pair pair ∷ map entry_of_pair group ++ map entry_of_pair (joined_pairs groups)
entries_joined pair group groups = map-append entry_of_pair (pair ∷ group) (joined_pairs groups)

-- index keys rise, behind one that is the last key of what stands before
index_rest : (kind : TableKind) (groups : List (List Pair)) (at : ℕ) (p : Pair) (front : List Entry) → last_entry front ≡ Some (entry_of_pair p) → in_order (front ++ map entry_of_pair (joined_pairs groups)) ≡ true
    → AllByRecursion NotEmpty groups → AllByRecursion (PairFits kind) (joined_pairs groups) → GoOn Index p.0 (index_pairs at groups)
index_rest kind [] at p front l o some fit = tt
index_rest kind ([] ∷ groups) at p front l o some fit = absurd some.0
index_rest kind ((pair ∷ group) ∷ groups) at p front l o some fit =
    let here = map entry_of_pair (pair ∷ group) in
    let rest = map entry_of_pair (joined_pairs groups) in
    let order : in_order (front ++ (here ++ rest)) ≡ true = ap (λ (x : List Entry). in_order (front ++ x)) (sym (entries_joined pair group groups)) ∙ o in
    let parts = all_parts (PairFits kind) (pair ∷ group) (joined_pairs groups) fit in
    let last = last_pair pair group in
    let first : before p pair ≡ true = behind_known front p pair (map entry_of_pair group ++ rest) l order in
    let inner : rises_behind comes_before (entry_of_pair pair) (map entry_of_pair group) ≡ true = rises_part (entry_of_pair pair) (map entry_of_pair group) rest (order_rest front (here ++ rest) order) in
    let less = internal_less p last (last_before p pair group first inner) in
    let key : last_pair_key [] (pair ∷ group) ≡ last.0 = last_key_is [] pair group in
    let handle = handle_bytes (record { offset = at; size = length (data_block (pair ∷ group)) }) in
    let size = handle_short (record { offset = at; size = length (data_block (pair ∷ group)) }) in
    let fits = last_fits kind pair group parts.0 in
    let more = index_rest kind groups (at + length (stored (data_block (pair ∷ group)))) last (front ++ here) (last_behind front pair group) (ap in_order (append_assoc front here rest) ∙ order) some.1 parts.1 in (
      ap (λ (k : List ℕ). is_lt (internal_cmp p.0 k)) key ∙ less,
      subst (λ (k : List ℕ). FitsBlock Index (k, handle)) (sym key) (record { key = fits.block.key; value = omega (arith, size); long = fits.block.long }),
      subst (λ (k : List ℕ). GoOn Index k (index_pairs (at + length (stored (data_block (pair ∷ group)))) groups)) (sym key) more,
    )

may_index : (kind : TableKind) (group : List Pair) (groups : List (List Pair)) (at : ℕ) → in_order (map entry_of_pair (joined_pairs (group ∷ groups))) ≡ true → AllByRecursion NotEmpty (group ∷ groups) → AllByRecursion (PairFits kind) (joined_pairs (group ∷ groups))
    → MayWrite Index (index_pairs at (group ∷ groups))
may_index kind [] groups at o some fit = absurd some.0
may_index kind (pair ∷ group) groups at o some fit =
    let here = map entry_of_pair (pair ∷ group) in
    let rest = map entry_of_pair (joined_pairs groups) in
    let parts = all_parts (PairFits kind) (pair ∷ group) (joined_pairs groups) fit in
    let last = last_pair pair group in
    let key : last_pair_key [] (pair ∷ group) ≡ last.0 = last_key_is [] pair group in
    let handle = handle_bytes (record { offset = at; size = length (data_block (pair ∷ group)) }) in
    let size = handle_short (record { offset = at; size = length (data_block (pair ∷ group)) }) in
    let fits = last_fits kind pair group parts.0 in
    let more = index_rest kind groups (at + length (stored (data_block (pair ∷ group)))) last here (last_behind [] pair group) (ap in_order (sym (entries_joined pair group groups)) ∙ o) some.1 parts.1 in (
      subst (λ (k : List ℕ). FitsBlock Index (k, handle)) (sym key) (record { key = fits.block.key; value = omega (arith, size); long = fits.block.long }),
      subst (λ (k : List ℕ). GoOn Index k (index_pairs (at + length (stored (data_block (pair ∷ group)))) groups)) (sym key) more,
    )

-- what st_block says of a written block
abbrev pub BlocksOpen : Type 0
BlocksOpen = (kind : BlockKind) (interval : ℕ) (pairs : List (List ℕ × List ℕ)) → 0 < interval → MayWrite kind pairs → length (written_block interval pairs) < 2 ^ 32 → block_of kind (written_block interval pairs) ≡ Ok (cells_of interval 0 0 [] pairs)

empty_index : block_of Index (written_block 1 []) ≡ Ok []
unfolding tail_of cells_from
empty_index = refl

module _ (opens : BlocksOpen) (kind : TableKind) where
  index_opens : (groups : List (List Pair)) → in_order (map entry_of_pair (joined_pairs groups)) ≡ true → AllByRecursion NotEmpty groups → AllByRecursion (PairFits kind) (joined_pairs groups) → length (written_block 1 (index_pairs 0 groups)) < 2 ^ 32
      → block_of Index (written_block 1 (index_pairs 0 groups)) ≡ Ok (cells 1 (index_pairs 0 groups))
  index_opens [] o some fit small = empty_index
  index_opens (group ∷ groups) o some fit small = opens Index 1 (index_pairs 0 (group ∷ groups)) (omega arith) (may_index kind group groups 0 o some fit) small

  -- ---- data blocks

  abbrev block_of_group : List Pair → BlockContents
  block_of_group group = contents_of Data (data_block group) (cells 16 group)

  data_written : (bytes rest : List ℕ) (groups : List (List Pair)) (count place : ℕ) (key : List ℕ) (at : ℕ) (front : List Entry) (known : Option (List ℕ)) → Known front known
      → drop at bytes ≡ data_bytes groups ++ rest → at + length (data_bytes groups) + 53 ≤ length bytes → length bytes < 2 ^ 32
      → in_order (front ++ map entry_of_pair (joined_pairs groups)) ≡ true → AllByRecursion NotEmpty groups → AllByRecursion (PairFits kind) (joined_pairs groups)
      → AreDataBlocks bytes known (cells_of 1 count place key (index_pairs at groups)) (map block_of_group groups)
  data_written bytes rest [] count place key at front known k e room small o some fit = tt
  data_written bytes rest ([] ∷ groups) count place key at front known k e room small o some fit = absurd some.0
  data_written bytes rest ((pair ∷ group) ∷ groups) count place key at front known k e room small o some fit =
      let text = data_block (pair ∷ group) in
      let here = map entry_of_pair (pair ∷ group) in
      let behind = map entry_of_pair (joined_pairs groups) in
      let order : in_order (front ++ (here ++ behind)) ≡ true = ap (λ (x : List Entry). in_order (front ++ x)) (sym (entries_joined pair group groups)) ∙ o in
      let parts = all_parts (PairFits kind) (pair ∷ group) (joined_pairs groups) fit in
      let last = last_pair pair group in
      let index_key : last_pair_key [] (pair ∷ group) ≡ last.0 = last_key_is [] pair group in
      let size = length-append (stored text) (data_bytes groups) in
      let whole = stored_length text in
      let first : drop at bytes ≡ stored text ++ (data_bytes groups ++ rest) = e ∙ append_assoc (stored text) (data_bytes groups) rest in
      let next : drop (at + length (stored text)) bytes ≡ data_bytes groups ++ rest = step bytes (stored text) (data_bytes groups ++ rest) at (length (stored text)) first refl in
      let handle : Handle = record { offset = at; size = length text } in
      let opened = opens Data 16 (pair ∷ group) (omega arith) (may_data kind (pair ∷ group) tt parts.0) (omega (arith, size, whole, room, small)) in
      let pairs = index_pairs at ((pair ∷ group) ∷ groups) in (
        record {
          handle = handle;
          handle_is = handle_whole handle (omega (arith, room, small)) (omega (arith, size, whole, room, small));
          stored = stored_here bytes (data_bytes groups ++ rest) at Data text (cells 16 (pair ∷ group)) first (omega (arith, size, whole, room)) opened;
          behind_last = ap (λ (l : List ℕ). is_le (internal_cmp l (last_pair_key [] (pair ∷ group)))) (last_cell 16 0 0 [] (pair ∷ group)) ∙ internal_same (last_pair_key [] (pair ∷ group));
          before_first = first_known front known pair (map entry_of_pair group ++ behind) k order;
        },
        data_written bytes rest groups (count + 1) (place + length (entry_bytes (shared_of 1 count key (last_pair_key [] (pair ∷ group))) (last_pair_key [] (pair ∷ group)) (handle_bytes handle))) (last_pair_key [] (pair ∷ group)) (at + length (stored text)) (front ++ here) (Some (last_pair_key [] (pair ∷ group)))
            (last, last_behind front pair group, index_key) next (omega (arith, size, room)) small (ap in_order (append_assoc front here behind) ∙ order) some.1 parts.1,
      )

  joined_cells_fit : (groups : List (List Pair)) → AllByRecursion (PairFits kind) (joined_pairs groups) → AllByRecursion (IsEntry kind) (joined (map block_of_group groups))
  joined_cells_fit [] fit = tt
  joined_cells_fit (group ∷ groups) fit = let parts = all_parts (PairFits kind) group (joined_pairs groups) fit in all_both (cells 16 group) (joined (map block_of_group groups)) (cells_fit kind 16 0 0 [] group parts.0) (joined_cells_fit groups parts.1)
    where
      all_both : (xs ys : List Cell) → AllByRecursion (IsEntry kind) xs → AllByRecursion (IsEntry kind) ys → AllByRecursion (IsEntry kind) (xs ++ ys)
      all_both [] ys h g = g
      all_both (x ∷ xs) ys h g = (h.0, all_both xs ys h.1 g)

  joined_cells_are : (groups : List (List Pair)) → entries_under (joined (map block_of_group groups)) ≡ map entry_of_pair (joined_pairs groups)
  joined_cells_are [] = refl
  joined_cells_are (group ∷ groups) =
      map-append (λ (cell : Cell). entry_under cell.key cell.value) (cells 16 group) (joined (map block_of_group groups))
      ∙ ap (λ (l : List Entry). l ++ entries_under (joined (map block_of_group groups))) (under_cells 16 0 0 [] group)
      ∙ ap (λ (l : List Entry). map entry_of_pair group ++ l) (joined_cells_are groups)
      ∙ sym (map-append entry_of_pair group (joined_pairs groups))

-- ---- metaindex and properties

may_metaindex : (handle : Handle) → MayWrite Plain ((properties_name, handle_bytes handle) ∷ [])
may_metaindex handle = (record { key = omega arith; value = omega (arith, handle_short handle); long = refl }, tt)

metaindex_is : (end : ℕ) (restarts : List ℕ) (handle : Handle) → handle.offset < 2 ^ 64 → handle.size < 2 ^ 64 → IsMetaindex (record { kind = Plain; end = end; cells = cells 1 ((properties_name, handle_bytes handle) ∷ []); restarts = restarts }) handle
metaindex_is end restarts handle o s = record { no_range_deletions = refl; at = end - length (handle_bytes handle); value = handle_bytes handle; found = refl; handle_is = handle_whole handle o s }

may_properties : (kind : TableKind) (count : ℕ) → MayWrite Plain (property_pairs kind count)
may_properties External count =
    let n = varint_short count in (
      record { key = omega arith; value = omega arith; long = refl },
      (
        refl,
        record { key = omega arith; value = omega arith; long = refl },
        (
          refl,
          record { key = omega arith; value = omega arith; long = refl },
          (refl, record { key = omega arith; value = omega (arith, n); long = refl }, tt),
        ),
      ),
    )
may_properties Own count =
    let n = varint_short count in
    (record { key = omega arith; value = omega arith; long = refl }, (refl, record { key = omega arith; value = omega (arith, n); long = refl }, tt))

properties_are : (kind : TableKind) (count end : ℕ) (restarts : List ℕ) → AreProperties kind (record { kind = Plain; end = end; cells = cells 1 (property_pairs kind count); restarts = restarts })
properties_are External count end restarts = record { version = refl; comparator = refl; index_type = tt }
properties_are Own count end restarts = record { version = tt; comparator = refl; index_type = tt }

-- ---- the whole table

-- what a written table is made of
abbrev index_of : List (List Pair) → List ℕ
index_of groups = written_block 1 (index_pairs 0 groups)

written_are : BlocksOpen → (kind : TableKind) (count : ℕ) (groups : List (List Pair)) → length (written_blocks kind count groups) ≤ greatest_size kind
    → in_order (map entry_of_pair (joined_pairs groups)) ≡ true → AllByRecursion NotEmpty groups → AllByRecursion (PairFits kind) (joined_pairs groups)
    → IsTable (written_blocks kind count groups) kind (map entry_of_pair (joined_pairs groups))
written_are opens kind count groups size o some fit =
    let d = data_bytes groups in
    let i = index_of groups in
    let bytes = written_blocks kind count groups in
    let at = length d + length (stored i) in
    let index : Handle = record { offset = length d; size = length i } in
    let p = properties_block kind count in
    let ph : Handle = record { offset = at; size = length p } in
    let m = metaindex_block ph in
    let mat = at + length (stored p) in
    let mh : Handle = record { offset = mat; size = length m } in
    let f = footer_bytes mh index in
    let e = ending kind count at index in
    let si = stored_length i in
    let sp = stored_length p in
    let sm = stored_length m in
    let sf = footer_length mh index in
    let le : length e ≡ length (stored p) + length (stored m) + 53 = omega (arith, sf, length-append (stored p) (stored m), length-append (stored p ++ stored m) f) in
    let lb : length bytes ≡ length d + length i + 5 + length e = table_length kind count d i in
    let small : length bytes < 2 ^ 32 = omega (arith, size, limit_short kind) in
    let all : bytes ≡ d ++ (stored i ++ e) = append_assoc d (stored i) e in
    let at-index : drop (length d) bytes ≡ stored i ++ e = ap (λ (l : List ℕ). drop (length d) l) all ∙ drop_at d (stored i ++ e) (length d) refl in
    let at-ending : drop at bytes ≡ e = step bytes (stored i) e (length d) (length (stored i)) at-index refl in
    let at-properties : drop at bytes ≡ stored p ++ (stored m ++ f) = at-ending ∙ append_assoc (stored p) (stored m) f in
    let at-metaindex : drop mat bytes ≡ stored m ++ f = step bytes (stored p) (stored m ++ f) at (length (stored p)) at-properties refl in
    let at-footer : drop (mat + length (stored m)) bytes ≡ f = step bytes (stored m) f mat (length (stored m)) at-metaindex refl in
    let index_ok = index_opens opens kind groups o some fit (omega (arith, lb, small)) in
    let metaindex_ok = opens Plain 1 ((properties_name, handle_bytes ph) ∷ []) (omega arith) (may_metaindex ph) (omega (arith, lb, le, sm, small)) in
    let properties_ok = opens Plain 1 (property_pairs kind count) (omega arith) (may_properties kind count) (omega (arith, lb, le, sp, small)) in (
      record {
        footer = record { metaindex = mh; index = index };
        metaindex = contents_of Plain m (cells 1 ((properties_name, handle_bytes ph) ∷ []));
        properties_handle = ph;
        properties = contents_of Plain p (cells 1 (property_pairs kind count));
        index = contents_of Index i (cells 1 (index_pairs 0 groups));
        data_blocks = map (block_of_group opens kind) groups;
      },
      record {
        size = size;
        footer = footer_here bytes (mat + length (stored m)) mh index at-footer (omega (arith, lb, le, si)) (omega (arith, lb, le, si, small)) (omega (arith, lb, le, sm, small)) (omega (arith, lb, small)) (omega (arith, lb, small));
        metaindex = stored_here bytes f mat Plain m (cells 1 ((properties_name, handle_bytes ph) ∷ [])) at-metaindex (omega (arith, lb, le, si, sm)) metaindex_ok;
        names = metaindex_is _ _ ph (omega (arith, lb, le, si, small)) (omega (arith, lb, le, sp, small));
        properties = stored_here bytes (stored m ++ f) at Plain p (cells 1 (property_pairs kind count)) at-properties (omega (arith, lb, le, si, sp)) properties_ok;
        values = properties_are kind count _ _;
        index = stored_here bytes e (length d) Index i (cells 1 (index_pairs 0 groups)) at-index (omega (arith, lb, le)) index_ok;
        data_blocks = data_written opens kind bytes (stored i ++ e) groups 0 0 [] 0 [] None tt all (omega (arith, lb, le)) small o some fit;
        fit = joined_cells_fit opens kind groups fit;
        entries_are = sym (joined_cells_are opens kind groups);
        ordered = o;
      },
    )

pub written_is_table : BlocksOpen → (kind : TableKind) (entries : List Entry) → MayBeTable kind entries → length (written_table kind entries) ≤ greatest_size kind → IsTable (written_table kind entries) kind entries
written_is_table opens kind entries may size =
    let pairs = map pair_of entries in
    let groups = blocks_of pairs in
    let b = blocks_are pairs in
    let whole : map entry_of_pair (joined_pairs groups) ≡ entries = ap (λ (l : List Pair). map entry_of_pair l) b.0 ∙ pairs_are kind entries may.each in
    subst (λ (l : List Entry). IsTable (written_table kind entries) kind l) whole
    (written_are opens kind (length entries) groups size (ap in_order whole ∙ may.ordered) b.1 (subst (λ (l : List Pair). AllByRecursion (PairFits kind) l) (sym b.0) (pairs_fit kind entries may.each)))
