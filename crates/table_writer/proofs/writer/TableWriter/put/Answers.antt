use Rattle.std.proofs.Common.{◌+◌, ◌<◌, length, sym, subst, ◌∙◌, arith}
use Rattle.std.proofs.lemmas.Bool.{leb-false}
use Rattle.st_block.specs.Written.{Writing, pair_added}
use Rattle.table_writer.specs.Writer.{IsWriter, Writer}
use Rattle.table_writer.proofs.Writing.{Fits, block_room, grows, open_keeps}
use Rattle.table_writer.proofs.writer.TableWriter.put.Goals as goal

pub overflow_add-self : goal.overflow_add-self
overflow_add-self c =
    let i = c.self.inside in
    let w : Writer = record { kind = i.kind; count = i.count; blocks = i.blocks; block = i.block; index = i.index } in
    let small : length (pair_added i.block c.args.internal.now c.args.value.now).entries < 4096 =
    subst (λ (v : Writer). length (pair_added v.block c.args.internal.now c.args.value.now).entries < 4096) (sym c.self.view_is)
    (leb-false 4096 (length (pair_added c.args.self.now.block c.args.internal.now c.args.value.now).entries) (sym c.closes_with.ensures ∙ c.if-closes_with.false)) in
    omega (arith, small, grows i.block c.args.internal.now c.args.value.now, c.self.invariant.counted, c.self.invariant.blocks_short)

pub add-requires-clause-room : goal.add-requires-clause-room
add-requires-clause-room c =
    let i = c.self.inside in
    let w : Writer = record { kind = i.kind; count = i.count; blocks = i.blocks; block = i.block; index = i.index } in
    block_room w (pair_added i.block c.args.internal.now c.args.value.now) (subst (λ (v : Writer). Fits v (pair_added v.block c.args.internal.now c.args.value.now)) (sym c.self.view_is) c.requires.room)

pub invariant_of-self-2 : goal.invariant_of-self-2
invariant_of-self-2 c =
    let i = c.self.inside in
    let w : Writer = record { kind = i.kind; count = i.count; blocks = i.blocks; block = i.block; index = i.index } in
    let block = pair_added i.block c.args.internal.now c.args.value.now in
    let room : Fits w block = subst (λ (v : Writer). Fits v (pair_added v.block c.args.internal.now c.args.value.now)) (sym c.self.view_is) c.requires.room in
    subst (λ (b : Writing). IsWriter (record { kind = i.kind; count = i.count + 1; blocks = i.blocks; block = b; index = i.index })) (sym c.in_ok-add.ensures.ok)
    (open_keeps w block (omega arith) (grows i.block c.args.internal.now c.args.value.now) room c.self.invariant)
