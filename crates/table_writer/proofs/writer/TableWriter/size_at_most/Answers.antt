use Rattle.std.proofs.Common.{◌+◌, ◌*◌, ◌≤◌, length, subst, arith}
use Rattle.st_block.specs.Written.{pair_added}
use Rattle.table_writer.specs.Writer.{Writer, finished_with}
use Rattle.table_writer.proofs.Writing.{at_most}
use Rattle.table_writer.proofs.writer.TableWriter.size_at_most.Goals as goal

pub returns : goal.returns
returns c =
    let i = c.self.inside in
    let w : Writer = record { kind = i.kind; count = i.count; blocks = i.blocks; block = i.block; index = i.index } in
    let key = c.args.internal.now in
    let value = c.args.value.now in
    let result = c.len.result + c.finished_size.result + c.finished_size-2.result + 2 * length key + length value + 114 + 1000 in
    subst (λ (v : Writer). length (finished_with v.kind (v.count + 1) v.blocks (pair_added v.block key value) v.index) ≤ result) c.self.view_is
    (omega (arith, at_most w key value, c.len.ensures, c.finished_size.ensures.size, c.finished_size-2.ensures.size))
