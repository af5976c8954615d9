use Rattle.std.proofs.Common.{ℕ, List, ◌++◌, ap, ◌∙◌}
use Rattle.table_writer.specs.Writer.{handle_behind}
use Rattle.table_writer.proofs.Writing.{whole_of}
use Rattle.table_writer.proofs.stored_blocks.whole_table.Goals as goal

pub returns : goal.returns
returns c =
    let out = c.push_stored.new.out in
    let ending = c.in_ok-ending.ending in
    whole_of c.args.kind c.args.count c.len.result c.args.blocks c.args.index.now out ending c.extend_from_slice.new.self c.handle_behind-handle.result
    (c.handle_behind-handle.ensures ∙ ap (λ (l : List ℕ). handle_behind l c.args.index.now) c.as_slice.ensures) c.in_ok-push_stored.ensures.ok c.len.ensures c.in_ok-ending.ensures
    (c.in_ok-extend_from_slice.ensures.ok ∙ ap (λ (l : List ℕ). out ++ l) c.as_slice-2.ensures)
