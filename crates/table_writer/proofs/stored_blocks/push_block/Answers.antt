use Rattle.std.proofs.Common.{ℕ, ◌<◌, ◌^◌, List, length, sym, ap, subst, ◌∙◌, arith}
use Rattle.st_block.specs.Written.{pair_added, finished_block}
use Rattle.st_table.specs.Handle.{handle_bytes}
use Rattle.st_table.specs.Stored.{stored}
use Rattle.table_writer.specs.Writer.{handle_behind}
use Rattle.table_writer.proofs.Writing.{taken_back}
use Rattle.table_writer.proofs.stored_blocks.push_block.Goals as goal

pub add-requires-clause-value : goal.add-requires-clause-value
add-requires-clause-value c = omega (arith, ap length c.as_slice-2.ensures, c.in_ok-handle.ensures.short)

pub add-requires-clause-room : goal.add-requires-clause-room
add-requires-clause-room c =
    let is = c.as_slice-2.ensures ∙ c.in_ok-handle.ensures.value ∙ ap handle_bytes (c.handle_behind.ensures ∙ ap (λ (l : List ℕ). handle_behind l c.args.block.now) c.as_slice.ensures) in
    subst (λ (x : List ℕ). length (finished_block (pair_added c.args.index.now c.args.last_key.now x)) < 2 ^ 32) (sym is) c.requires.room

pub returns-clause-indexed : goal.returns-clause-indexed
returns-clause-indexed c =
    let is = c.as_slice-2.ensures ∙ c.in_ok-handle.ensures.value ∙ ap handle_bytes (c.handle_behind.ensures ∙ ap (λ (l : List ℕ). handle_behind l c.args.block.now) c.as_slice.ensures) in
    c.in_default.ensures.ok ∙ ap (λ (x : List ℕ). pair_added c.args.index.now c.args.last_key.now x) is

pub returns-in-Err-clause-err : goal.returns-in-Err-clause-err
returns-in-Err-clause-err c = c.truncate.ensures ∙ taken_back c.args.blocks.now c.push_stored.new.out (stored c.args.block.now) c.len-before.result c.len-before.ensures c.in_ok-push_stored.ensures.ok
