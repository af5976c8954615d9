-- The restart from which a key is looked for, and the work of looking for it.
use Rattle.std.specs.Prelude.{◌≡◌, ℕ, suc, ◌+◌, ◌-◌, ◌*◌, ◌^◌, ◌≤◌, ◌<◌, ◌⊎◌, List, [], ◌∷◌, drop, length, max, take, false, IsTrue}
use Rattle.std.specs.Int.{w32, from_le_bytes}
use Rattle.st_block.specs.Block.{Cell, is_restart}
use Rattle.st_block.specs.InternalKey.{is_key_before}
use Rattle.st_block.specs.BlockContents.{BlockContents, cells_at, cells_in}
use Rattle.st_block.specs.declared.kind.BlockKind.{BlockKind}
use Rattle.st_block.specs.declared.open.Layout.{Layout}

-- the greatest number of entries from a restart to before the next one, or to the end
abbrev pub widest : List Cell → List ℕ → ℕ
widest cells [] = 0
widest cells (from ∷ []) = length (cells_at from cells)
widest cells (from ∷ next ∷ restarts) = max (length (cells_at from cells) - length (cells_at next cells)) (widest cells (next ∷ restarts))

-- so many entries are read by halving the restarts and then walking at most from one to the next
pub record IsShort (block : BlockContents) (reads : ℕ) : Type 0 where
  pub halvings : ℕ
  pub halved : 2 ^ halvings ≤ 2 * length block.restarts + 1
  pub walked : reads ≤ halvings + widest block.cells block.restarts + 1

-- it is the first one, or its entry comes before the key and the number
pub record IsStart (kind : BlockKind) (text : List ℕ) (layout : Layout) (key : List ℕ) (number at : ℕ) : Type 0 where
  pub restart : IsTrue (is_restart (cells_in kind (take layout.end text)) at)
  pub before : (at ≡ 0) ⊎ ((cell : Cell) (rest : List Cell) → cells_at at (cells_in kind (take layout.end text)) ≡ cell ∷ rest → IsTrue (is_key_before key number cell.key))

-- it is the last one, or the entry of the next one doesn't come before them
pub record IsLast (kind : BlockKind) (text : List ℕ) (layout : Layout) (key : List ℕ) (number at : ℕ) : Type 0 where
  pub low : ℕ
  pub offset : at ≡ from_le_bytes w32 (drop (layout.end + 4 * low) text)
  pub within : low < layout.restarts
  pub after : (suc low ≡ layout.restarts) ⊎ ((cell : Cell) (rest : List Cell) → cells_at (from_le_bytes w32 (drop (layout.end + 4 * suc low) text)) (cells_in kind (take layout.end text)) ≡ cell ∷ rest → is_key_before key number cell.key ≡ false)

-- the entries from a restart to an offset were read, once that restart was found
pub record IsWalked (kind : BlockKind) (text : List ℕ) (layout : Layout) (key : List ℕ) (number before at steps : ℕ) : Type 0 where
  pub from : ℕ
  pub last : IsLast kind text layout key number from
  pub begun : ℕ
  pub counted : before ≤ begun
  pub halved : 2 ^ (begun - before) ≤ 2 * layout.restarts + 1
  pub moved : begun ≤ steps
  pub passed : begun + length (cells_at from (cells_in kind (take layout.end text))) ≡ steps + length (cells_at at (cells_in kind (take layout.end text)))
