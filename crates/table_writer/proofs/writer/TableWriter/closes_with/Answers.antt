use Rattle.std.proofs.Common.{◌≡◌, ◌+◌, length, sym, subst, ◌∙◌, arith}
use Rattle.std.specs.Prelude.{nat_le}
use Rattle.std.proofs.lemmas.Bool.{lt-leb}
use Rattle.st_block.specs.Written.{pair_added}
use Rattle.table_writer.specs.Writer.{Writer}
use Rattle.table_writer.proofs.Writing.{block_at_most}
use Rattle.table_writer.proofs.writer.TableWriter.closes_with.Goals as goal

pub returns-else-at_most-ge-BLOCK_BYTES : goal.returns-else-at_most-ge-BLOCK_BYTES
returns-else-at_most-ge-BLOCK_BYTES c =
    let i = c.self.inside in
    let key = c.args.internal.now in
    let value = c.args.value.now in
    let most = c.finished_size.result + length key + length value + 42 in
    subst (λ (v : Writer). nat_le 4096 most ≡ nat_le 4096 (length (pair_added v.block key value).entries)) c.self.view_is
    (lt-leb 4096 most c.if-at_most-ge-BLOCK_BYTES.false
    ∙ sym (lt-leb 4096 (length (pair_added i.block key value).entries)
    (omega (arith, c.if-at_most-ge-BLOCK_BYTES.false, block_at_most i.block key value, c.finished_size.ensures.size))))
