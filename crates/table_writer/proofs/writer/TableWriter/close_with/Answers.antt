use Rattle.std.proofs.Common.{ℕ, ◌≡◌, List, ◌++◌, ◌<◌, ◌^◌, length, sym, ap, subst, ◌∙◌, arith}
use Rattle.st_block.specs.Written.{Writing, pair_added, finished_block}
use Rattle.st_table.specs.Handle.{handle_bytes}
use Rattle.st_table.specs.Stored.{stored}
use Rattle.table_writer.specs.Writer.{IsWriter, Writer, handle_behind}
use Rattle.table_writer.proofs.Writing.{Fits, block_room, closed_is, closed_keeps, grows, index_room, none_is}
use Rattle.table_writer.proofs.writer.TableWriter.close_with.Goals as goal

pub finish_with-requires-clause-room : goal.finish_with-requires-clause-room
finish_with-requires-clause-room c =
    let i = c.self.inside in
    let w : Writer = record { kind = i.kind; count = i.count; blocks = i.blocks; block = i.block; index = i.index } in
    block_room w (pair_added i.block c.args.internal.now c.args.value.now) (subst (λ (v : Writer). Fits v (pair_added v.block c.args.internal.now c.args.value.now)) (sym c.self.view_is) c.requires.room)

pub push_block-requires-clause-room : goal.push_block-requires-clause-room
push_block-requires-clause-room c =
    let i = c.self.inside in
    let w : Writer = record { kind = i.kind; count = i.count; blocks = i.blocks; block = i.block; index = i.index } in
    let block = pair_added i.block c.args.internal.now c.args.value.now in
    let room : Fits w block = subst (λ (v : Writer). Fits v (pair_added v.block c.args.internal.now c.args.value.now)) (sym c.self.view_is) c.requires.room in
    let is : c.as_slice.result.now ≡ finished_block block = c.as_slice.ensures ∙ c.in_ok-block.ensures in
    subst (λ (x : List ℕ). length (finished_block (pair_added i.index c.args.internal.now (handle_bytes (handle_behind i.blocks x)))) < 2 ^ 32) (sym is) (index_room w block room)

pub invariant_of-self : goal.invariant_of-self
invariant_of-self c =
    let i = c.self.inside in
    subst (λ (x : List ℕ). IsWriter (record { kind = i.kind; count = i.count; blocks = x; block = i.block; index = c.push_block.new.index })) (sym c.in_err-push_block.ensures.err)
    (subst (λ (x : Writing). IsWriter (record { kind = i.kind; count = i.count; blocks = i.blocks; block = i.block; index = x })) (sym c.in_err-push_block.ensures.index_err) c.self.invariant)

pub invariant_of-self-2 : goal.invariant_of-self-2
invariant_of-self-2 c =
    let i = c.self.inside in
    let w : Writer = record { kind = i.kind; count = i.count; blocks = i.blocks; block = i.block; index = i.index } in
    let block = pair_added i.block c.args.internal.now c.args.value.now in
    let room : Fits w block = subst (λ (v : Writer). Fits v (pair_added v.block c.args.internal.now c.args.value.now)) (sym c.self.view_is) c.requires.room in
    let is : c.as_slice.result.now ≡ finished_block block = c.as_slice.ensures ∙ c.in_ok-block.ensures in
    subst (λ (x : Writer). IsWriter x)
    (sym (closed_is w block c.push_block.new.blocks c.in_ok-next.next c.push_block.new.index (c.in_ok-push_block.ensures.stored ∙ ap (λ (x : List ℕ). i.blocks ++ stored x) is) (none_is c.in_ok-next.next 16 c.in_ok-next.ensures.holds c.in_ok-next.ensures.interval)
    (c.in_ok-push_block.ensures.indexed ∙ ap (λ (x : List ℕ). pair_added i.index c.args.internal.now (handle_bytes (handle_behind i.blocks x))) is)))
    (closed_keeps w block (omega arith) (grows i.block c.args.internal.now c.args.value.now) room c.self.invariant)
