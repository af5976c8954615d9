use Rattle.std.proofs.Common.{◌≡◌, ◌≤◌, List, ℕ, length, sym, ap, subst, ◌∙◌, arith}
use Rattle.st_block.specs.Written.{finished_block}
use Rattle.st_table.specs.Footer.{greatest_size}
use Rattle.table_writer.specs.Writer.{Writer, finished_table, finished_with}
use Rattle.st_table.proofs.Lengths.{limit_short}
use Rattle.table_writer.proofs.Sizes.{whole_parts_short}
use Rattle.table_writer.proofs.Writing.{finished_none, finished_some, some_entries}
use Rattle.table_writer.proofs.writer.TableWriter.finished.Goals as goal

pub table_with-requires : goal.table_with-requires
table_with-requires c =
    let i = c.self.inside in
    let w : Writer = record { kind = i.kind; count = i.count; blocks = i.blocks; block = i.block; index = i.index } in
    let some = finished_some w (some_entries c.is_empty.result i.block.count c.if-is_empty.false c.is_empty.ensures) in
    subst (λ (l : List ℕ). length (finished_with i.kind i.count l i.block i.index) ≤ greatest_size i.kind) (sym c.as_slice-blocks.ensures) (omega (arith, ap length some, c.self.invariant.fits))

pub returns-clause-value : goal.returns-clause-value
returns-clause-value c =
    let i = c.self.inside in
    let w : Writer = record { kind = i.kind; count = i.count; blocks = i.blocks; block = i.block; index = i.index } in
    let some = finished_some w (some_entries c.is_empty.result i.block.count c.if-is_empty.false c.is_empty.ensures) in
    c.in_ok-bytes-2.ensures ∙ ap (λ (l : List ℕ). finished_with i.kind i.count l i.block i.index) c.as_slice-blocks.ensures ∙ sym some ∙ ap finished_table c.self.view_is

pub whole_table-requires : goal.whole_table-requires
whole_table-requires c =
    let i = c.self.inside in
    let w : Writer = record { kind = i.kind; count = i.count; blocks = i.blocks; block = i.block; index = i.index } in
    let blocks : c.in_ok-blocks.blocks ≡ i.blocks = c.in_ok-blocks.ensures ∙ c.as_slice.ensures in
    let index : c.as_slice-then-is_empty.result.now ≡ finished_block i.index = c.as_slice-then-is_empty.ensures ∙ c.in_ok-index.ensures.value in
    omega (arith, ap length (finished_none w (c.is_empty.ensures.0 c.if-is_empty.true)), whole_parts_short i.kind i.count i.blocks (finished_block i.index), c.self.invariant.fits, limit_short i.kind, ap length blocks, ap length index)
