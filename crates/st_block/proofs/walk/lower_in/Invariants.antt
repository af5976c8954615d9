use Rattle.std.proofs.Common.{◌≡◌, ◌-◌}
use Rattle.st_block.specs.BlockContents.{IsReadableAt, cells_at, block_contents_in, cells_from_place}
use Rattle.st_block.specs.Search.{IsWalked}
use Rattle.st_block.proofs.walk.lower_in.Given as goal

abbrev pub invariant-loop-read : goal.invariant-loop-read
invariant-loop-read g l =
    let block = block_contents_in l.fn.kind l.text l.layout in
    record {
      stands : IsReadableAt block l.at l.scratch;
      place : cells_from_place l.key l.number block.cells ≡ cells_from_place l.key l.number (cells_at l.at block.cells);
      walked : IsWalked l.fn.kind l.text l.layout l.key l.number l.fn.steps l.at l.steps;
    }

abbrev pub decreases-loop-read : goal.decreases-loop-read
decreases-loop-read g l = l.layout.end - l.at
