use Rattle.std.proofs.Common.{◌≡◌, ◌-◌, ◌≤◌}
use Rattle.st_base.specs.Rows.{AreRows}
use Rattle.st_block.specs.BlockContents.{IsReadableAt, cells_at}
use Rattle.st_table.specs.DataBlocks.{data_of, with_blocks}
use Rattle.st_table.proofs.data_blocks.data_of.Given as goal

abbrev pub invariant-loop-entry : goal.invariant-loop-entry
invariant-loop-entry l = record {
  stands : IsReadableAt l.index l.offset l.scratch;
  rest : data_of l.kind l.fn.bytes.value l.at l.index ≡ with_blocks l.kind l.fn.bytes.value l.at l.index.end l.block l.before (cells_at l.offset l.index.cells) l.entries;
  rows : AreRows l.entries;
  count : l.block ≤ l.offset;
}

abbrev pub decreases-loop-entry : goal.decreases-loop-entry
decreases-loop-entry l = l.index.end - l.offset
