use Rattle.std.proofs.Common.{◌≡◌, ◌+◌, ◌-◌, ◌*◌, ◌^◌, ◌<◌, ◌≤◌, ◌⊎◌, List, ◌∷◌, false, drop, take}
use Rattle.std.specs.Int.{w32, from_le_bytes}
use Rattle.st_block.specs.Block.{Cell}
use Rattle.st_block.specs.InternalKey.{is_key_before}
use Rattle.st_block.specs.BlockContents.{cells_at, cells_in}
use Rattle.st_block.specs.Search.{IsStart}
use Rattle.st_block.proofs.walk.start_of.Given as goal

abbrev pub invariant-loop-low : goal.invariant-loop-low
invariant-loop-low g l =
    let before = l.fn.steps in
    record {
      within : l.low < l.high;
      top : l.high ≤ l.layout.restarts;
      start : IsStart l.fn.kind l.text l.layout l.key l.number (from_le_bytes w32 (drop (l.layout.end + 4 * l.low) l.text));
      after : (l.high ≡ l.layout.restarts) ⊎ ((cell : Cell) (rest : List Cell) → cells_at (from_le_bytes w32 (drop (l.layout.end + 4 * l.high) l.text)) (cells_in l.fn.kind (take l.layout.end l.text)) ≡ cell ∷ rest → is_key_before l.key l.number cell.key ≡ false);
      counted : before ≤ l.steps;
      halved : 2 ^ (l.steps - before) ≤ 2 * l.layout.restarts + 1;
      still : 2 ^ (l.steps - before) * (l.high - l.low - 1) ≤ l.layout.restarts;
    }

abbrev pub decreases-loop-low : goal.decreases-loop-low
decreases-loop-low g l = l.high - l.low
