use Rattle.std.proofs.Common.{◌≡◌, ℕ, true, ◌+◌, length, refl, sym, ap, subst, ◌∙◌, arith}
use Rattle.std.specs.Prelude.{nat_le}
use Rattle.std.proofs.lemmas.Bool.{le-leb}
use Rattle.st_block.proofs.Writers.{finished_long}
use Rattle.st_block.specs.Written.{pair_added}
use Rattle.st_table.specs.Footer.{greatest_size}
use Rattle.table_writer.specs.Writer.{Writer, finished_with}
use Rattle.table_writer.specs.Written.{ending}
use Rattle.st_table.proofs.Lengths.{handle_short}
use Rattle.table_writer.proofs.Sizes.{ending_short}
use Rattle.table_writer.proofs.Writing.{grows, total_is}
use Rattle.table_writer.proofs.writer.TableWriter.has_exact_room.Goals as goal

pub finished_size_with-index_size-requires-clause-value : goal.finished_size_with-index_size-requires-clause-value
finished_size_with-index_size-requires-clause-value c =
    omega (arith, handle_short (record { offset = c.len.result; size = c.finished_size_with-size.result }), ap length c.as_slice.ensures, ap length c.in_ok-handle_bytes.ensures)

pub overflow_add-self-inside : goal.overflow_add-self-inside
overflow_add-self-inside c =
    let i = c.self.inside in
    let block = pair_added i.block c.args.internal.now c.args.value.now in
    omega (arith, c.self.invariant.counted, c.self.invariant.blocks_short, finished_long block, grows i.block c.args.internal.now c.args.value.now, c.finished_size_with-size.ensures.size, c.finished_size_with-size.ensures.within)

pub returns-then-before-limit : goal.returns-then-before-limit
returns-then-before-limit c =
    let i = c.self.inside in
    let block = pair_added i.block c.args.internal.now c.args.value.now in
    let len = c.len.result in
    let size = c.finished_size_with-size.result in
    let index_size = c.finished_size_with-index_size.result in
    let total = total_is i.kind (i.count + 1) i.blocks block i.index c.as_slice.result.now len size index_size (len + size + 5 + index_size + 5)
    c.len.ensures c.finished_size_with-size.ensures.size (c.as_slice.ensures ∙ c.in_ok-handle_bytes.ensures) c.finished_size_with-index_size.ensures.size refl in
    subst (λ (v : Writer). true ≡ nat_le (length (finished_with v.kind (v.count + 1) v.blocks (pair_added v.block c.args.internal.now c.args.value.now) v.index)) (greatest_size v.kind)) c.self.view_is
    (sym (le-leb (length (finished_with i.kind (i.count + 1) i.blocks block i.index)) (greatest_size i.kind)
    (omega (arith, total, ending_short i.kind (i.count + 1) (len + size + 5 + index_size + 5) (record { offset = len + size + 5; size = index_size }), c.len.ensures, c.len-3.ensures, c.greatest_size-limit.ensures, c.if-before-limit.true))))

pub returns : goal.returns
returns c =
    let i = c.self.inside in
    let block = pair_added i.block c.args.internal.now c.args.value.now in
    let len = c.len.result in
    let size = c.finished_size_with-size.result in
    let index_size = c.finished_size_with-index_size.result in
    let total = total_is i.kind (i.count + 1) i.blocks block i.index c.as_slice.result.now len size index_size (len + size + 5 + index_size + 5)
    c.len.ensures c.finished_size_with-size.ensures.size (c.as_slice.ensures ∙ c.in_ok-handle_bytes.ensures) c.finished_size_with-index_size.ensures.size refl in
    let two : c.len-2.result ≡ len = c.len-2.ensures ∙ sym c.len.ensures in
    let three : c.len-3.result ≡ len = c.len-3.ensures ∙ sym c.len.ensures in
    let ending-size =
    c.len-4.ensures ∙ ap length c.in_ok-ending.ensures
    ∙ ap (λ (n : ℕ). length (ending i.kind (i.count + 1) (n + size + 5 + index_size + 5) (record { offset = c.len-2.result + size + 5; size = index_size }))) three
    ∙ ap (λ (n : ℕ). length (ending i.kind (i.count + 1) (len + size + 5 + index_size + 5) (record { offset = n + size + 5; size = index_size }))) two in
    let whole : c.len-3.result + size + 5 + index_size + 5 + c.len-4.result ≡ length (finished_with i.kind (i.count + 1) i.blocks block i.index) = omega (arith, total, ending-size, three) in
    subst (λ (v : Writer). nat_le (c.len-3.result + size + 5 + index_size + 5 + c.len-4.result) c.greatest_size-limit.result ≡ nat_le (length (finished_with v.kind (v.count + 1) v.blocks (pair_added v.block c.args.internal.now c.args.value.now) v.index)) (greatest_size v.kind)) c.self.view_is
    (ap (λ (n : ℕ). nat_le n c.greatest_size-limit.result) whole ∙ ap (nat_le (length (finished_with i.kind (i.count + 1) i.blocks block i.index))) c.greatest_size-limit.ensures)
