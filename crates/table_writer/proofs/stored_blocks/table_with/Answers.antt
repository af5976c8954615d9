use Rattle.std.proofs.Common.{ℕ, ◌≡◌, ◌<◌, ◌^◌, ◌++◌, List, length, sym, ap, subst, ◌∙◌, arith}
use Rattle.st_block.specs.Written.{pair_added, finished_block}
use Rattle.st_table.specs.Handle.{handle_bytes}
use Rattle.st_table.specs.Stored.{stored}
use Rattle.table_writer.specs.Writer.{handle_behind, indexed_block}
use Rattle.st_table.proofs.Lengths.{limit_short}
use Rattle.table_writer.proofs.Sizes.{parts_short, whole_parts_short}
use Rattle.table_writer.proofs.Writing.{with_open_block}
use Rattle.table_writer.proofs.stored_blocks.table_with.Goals as goal

pub finish_with-requires-clause-value : goal.finish_with-requires-clause-value
finish_with-requires-clause-value c = omega (arith, ap length c.as_slice-2.ensures, c.in_ok-handle.ensures.short)

pub finish_with-requires-clause-room : goal.finish_with-requires-clause-room
finish_with-requires-clause-room c =
    let blocks = c.args.blocks.now in
    let block = c.args.block.now in
    let index = c.args.index.now in
    let is : c.as_slice-2.result.now ≡ handle_bytes (handle_behind blocks (finished_block block)) =
    c.as_slice-2.ensures ∙ c.in_ok-handle.ensures.value ∙ ap handle_bytes (c.handle_behind.ensures ∙ ap (handle_behind blocks) (c.as_slice.ensures ∙ c.in_ok-contents.ensures.value)) in
    let room : length (finished_block (indexed_block index (length blocks) block)) < 2 ^ 32 = omega (arith, parts_short c.args.kind c.args.count blocks block index, c.requires, limit_short c.args.kind) in
    subst (λ (x : List ℕ). length (finished_block (pair_added index x c.as_slice-2.result.now)) < 2 ^ 32) (sym c.last_key.ensures.value)
    (subst (λ (x : List ℕ). length (finished_block (pair_added index block.last x)) < 2 ^ 32) (sym is) room)

pub whole_table-requires : goal.whole_table-requires
whole_table-requires c =
    let blocks = c.args.blocks.now in
    let out = c.push_stored.new.out in
    let whole = with_open_block c.args.kind c.args.count blocks c.args.block.now c.args.index.now c.in_ok-contents.contents c.last_key.result.now c.as_slice-2.result.now c.as_slice-4.result.now out
    c.in_ok-contents.ensures.value c.last_key.ensures.value (c.as_slice-2.ensures ∙ c.in_ok-handle.ensures.value ∙ ap handle_bytes (c.handle_behind.ensures ∙ ap (handle_behind blocks) c.as_slice.ensures)) (c.as_slice-4.ensures ∙ c.in_ok-index_block.ensures)
    (c.in_ok-push_stored.ensures.ok ∙ ap (λ (l : List ℕ). l ++ stored c.as_slice-3.result.now) c.in_ok-stored.ensures ∙ ap (λ (l : List ℕ). blocks ++ stored l) c.as_slice-3.ensures) in
    omega (arith, whole_parts_short c.args.kind c.args.count out c.as_slice-4.result.now, ap length whole, c.requires, limit_short c.args.kind)

pub returns : goal.returns
returns c =
    let blocks = c.args.blocks.now in
    let out = c.push_stored.new.out in
    c.in_ok-bytes.ensures
    ∙ with_open_block c.args.kind c.args.count blocks c.args.block.now c.args.index.now c.in_ok-contents.contents c.last_key.result.now c.as_slice-2.result.now c.as_slice-4.result.now out
    c.in_ok-contents.ensures.value c.last_key.ensures.value (c.as_slice-2.ensures ∙ c.in_ok-handle.ensures.value ∙ ap handle_bytes (c.handle_behind.ensures ∙ ap (handle_behind blocks) c.as_slice.ensures)) (c.as_slice-4.ensures ∙ c.in_ok-index_block.ensures)
    (c.in_ok-push_stored.ensures.ok ∙ ap (λ (l : List ℕ). l ++ stored c.as_slice-3.result.now) c.in_ok-stored.ensures ∙ ap (λ (l : List ℕ). blocks ++ stored l) c.as_slice-3.ensures)
