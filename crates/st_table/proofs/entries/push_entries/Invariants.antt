use Rattle.std.proofs.Common.{◌≡◌, ◌-◌}
use Rattle.st_base.specs.Rows.{AreRows}
use Rattle.st_block.specs.BlockContents.{IsReadableAt, cells_at}
use Rattle.st_table.specs.DataBlocks.{last_cell_key}
use Rattle.st_table.specs.Entries.{with_entries}
use Rattle.st_table.proofs.entries.push_entries.Given as goal

abbrev pub invariant-loop-entry : goal.invariant-loop-entry
invariant-loop-entry l = record {
  stands : IsReadableAt l.block l.at l.scratch;
  rest : with_entries l.kind l.fn.entries l.block.cells ≡ with_entries l.kind l.entries (cells_at l.at l.block.cells);
  rows : AreRows l.fn.entries → AreRows l.entries;
  last : last_cell_key l.fn.scratch l.block.cells ≡ last_cell_key l.scratch (cells_at l.at l.block.cells);
}

abbrev pub decreases-loop-entry : goal.decreases-loop-entry
decreases-loop-entry l = l.block.end - l.at
