use Rattle.std.proofs.Common.{◌≡◌, ◌-◌}
use Rattle.st_block.specs.BlockContents.{IsReadableAt, cells_at}
use Rattle.st_table.specs.Metaindex.{value_named}
use Rattle.st_table.proofs.metaindex.named_in.Given as goal

abbrev pub invariant-loop-entry : goal.invariant-loop-entry
invariant-loop-entry l = record {
  stands : IsReadableAt l.block l.at l.scratch;
  rest : value_named l.name l.block.end l.block.cells ≡ value_named l.name l.block.end (cells_at l.at l.block.cells);
}

abbrev pub decreases-loop-entry : goal.decreases-loop-entry
decreases-loop-entry l = l.block.end - l.at
