-- How many entries a search reads.
use Rattle.std.proofs.Common.{◌≡◌, ℕ, zero, suc, ◌+◌, ◌-◌, ◌*◌, ◌^◌, ◌<◌, ◌≤◌, Bool, true, false, cond, eqb, List, [], ◌∷◌, length, drop, refl, sym, ap, subst, ◌∙◌, inl, inr, arith}
use Rattle.std.specs.Int.{w32, from_le_bytes}
use Rattle.std.proofs.Math.Nat.{le_trans, le-max_left, le-max_right, mul-le-mul_left, pow-suc}
use Rattle.std.proofs.lemmas.Bool.{cases_lt}
use Rattle.st_block.specs.Block.{Cell, offsets_at}
use Rattle.st_block.specs.InternalKey.{is_key_before}
use Rattle.st_block.specs.BlockContents.{BlockContents, cells_at, cells_from_place, block_contents_in}
use Rattle.st_block.specs.Search.{IsLast, IsShort, IsWalked, widest}
use Rattle.st_block.specs.declared.kind.BlockKind.{BlockKind}
use Rattle.st_block.specs.declared.open.Layout.{Layout}
use Rattle.st_block.proofs.Layouts.{length_offsets}

-- ---- halving

-- a width that is halved, counted from 1
pub halves : (rounds width next most : ℕ) → 2 * next ≤ width → 2 ^ rounds * width ≤ most → 2 ^ suc rounds * next ≤ most
halves rounds width next most less within =
    let same : 2 ^ rounds * 2 * next ≡ 2 ^ rounds * (2 * next) = grind arith in
    subst (λ (k : ℕ). k * next ≤ most) (sym (pow-suc 2 rounds)) (subst (λ (k : ℕ). k ≤ most) (sym same) (le_trans (mul-le-mul_left (2 ^ rounds) less) within))

pub halves_few : (rounds width most : ℕ) → 1 ≤ width → 2 ^ rounds * width ≤ most → 2 ^ suc rounds ≤ 2 * most + 1
halves_few rounds width most some within =
    let once : 2 ^ rounds * 1 ≤ most = le_trans (mul-le-mul_left (2 ^ rounds) some) within in
    let twice : 2 ^ suc rounds ≡ 2 ^ rounds * 2 = pow-suc 2 rounds in
    omega (arith, once, twice)

-- ---- the entries of an interval

off : List ℕ → ℕ → ℕ
off text at = from_le_bytes w32 (drop at text)

pub between : (cells : List Cell) (text : List ℕ) (at count low : ℕ) → suc low < count
    → length (cells_at (from_le_bytes w32 (drop (at + 4 * low) text)) cells) - length (cells_at (from_le_bytes w32 (drop (at + 4 * suc low) text)) cells) ≤ widest cells (offsets_at text at count)
between cells text at zero low lt = absurd (omega arith)
between cells text at (suc zero) low lt = absurd (omega arith)
between cells text at (suc (suc count)) zero lt =
    let here : at + 4 * 0 ≡ at = omega arith in
    let there : at + 4 * 1 ≡ at + 4 = omega arith in
    subst (λ (k : ℕ). length (cells_at (from_le_bytes w32 (drop k text)) cells) - length (cells_at (from_le_bytes w32 (drop (at + 4 * 1) text)) cells) ≤ widest cells (offsets_at text at (suc (suc count)))) (sym here)
    (subst (λ (k : ℕ). length (cells_at (from_le_bytes w32 (drop at text)) cells) - length (cells_at (from_le_bytes w32 (drop k text)) cells) ≤ widest cells (offsets_at text at (suc (suc count)))) (sym there) (le-max_left _ _))
between cells text at (suc (suc count)) (suc low) lt =
    let here : at + 4 + 4 * low ≡ at + 4 * suc low = omega arith in
    let there : at + 4 + 4 * suc low ≡ at + 4 * suc (suc low) = omega arith in
    let rest = between cells text (at + 4) (suc count) low (omega arith) in
    let moved = subst (λ (k : ℕ). length (cells_at (from_le_bytes w32 (drop (at + 4 * suc low) text)) cells) - length (cells_at (from_le_bytes w32 (drop k text)) cells) ≤ widest cells (offsets_at text (at + 4) (suc count))) there
    (subst (λ (k : ℕ). length (cells_at (from_le_bytes w32 (drop k text)) cells) - length (cells_at (from_le_bytes w32 (drop (at + 4 + 4 * suc low) text)) cells) ≤ widest cells (offsets_at text (at + 4) (suc count))) here rest) in
    le_trans moved (le-max_right _ _)

pub behind_last : (cells : List Cell) (text : List ℕ) (at count low : ℕ) → suc low ≡ count
    → length (cells_at (from_le_bytes w32 (drop (at + 4 * low) text)) cells) ≤ widest cells (offsets_at text at count)
behind_last cells text at zero low e = absurd (omega arith)
behind_last cells text at (suc zero) zero e =
    let here : at + 4 * 0 ≡ at = omega arith in
    subst (λ (k : ℕ). length (cells_at (from_le_bytes w32 (drop k text)) cells) ≤ widest cells (offsets_at text at 1)) (sym here) (omega arith)
behind_last cells text at (suc zero) (suc low) e = absurd (omega arith)
behind_last cells text at (suc (suc count)) zero e = absurd (omega arith)
behind_last cells text at (suc (suc count)) (suc low) e =
    let here : at + 4 + 4 * low ≡ at + 4 * suc low = omega arith in
    let rest = behind_last cells text (at + 4) (suc count) low (omega arith) in
    le_trans (subst (λ (k : ℕ). length (cells_at (from_le_bytes w32 (drop k text)) cells) ≤ widest cells (offsets_at text (at + 4) (suc count))) here rest) (le-max_right _ _)

-- ---- the place that is looked for stands at the next restart or before it

few_at : (at : ℕ) (cells : List Cell) → length (cells_at at cells) ≤ length cells
few_at at [] = omega arith
few_at at (cell ∷ cells) = by_place (eqb cell.at at) (few_at at cells)
  where
    by_place : (t : Bool) → length (cells_at at cells) ≤ length cells → length (cond t (cell ∷ cells) (cells_at at cells)) ≤ suc (length cells)
    by_place true h = omega arith
    by_place false h = omega (arith, h)

pub not_behind : (cells : List Cell) (next : ℕ) (key : List ℕ) (number : ℕ) → ((cell : Cell) (rest : List Cell) → cells_at next cells ≡ cell ∷ rest → is_key_before key number cell.key ≡ false)
    → length (cells_at next cells) ≤ length (cells_from_place key number cells)
not_behind [] next key number h = omega arith
not_behind (cell ∷ cells) next key number h = by_place (eqb cell.at next) refl (λ g. not_behind cells next key number g)
  where
    by_key : (t : Bool) → length (cells_at next cells) ≤ length (cells_from_place key number cells) → length (cells_at next cells) ≤ length (cond t (cells_from_place key number cells) (cell ∷ cells))
    by_key true g = g
    by_key false g = let some = few_at next cells in omega (arith, some)

    by_place : (t : Bool) → eqb cell.at next ≡ t → (((c : Cell) (rest : List Cell) → cells_at next cells ≡ c ∷ rest → is_key_before key number c.key ≡ false) → length (cells_at next cells) ≤ length (cells_from_place key number cells))
        → length (cells_at next (cell ∷ cells)) ≤ length (cells_from_place key number (cell ∷ cells))
    by_place true e behind =
        let there : cells_at next (cell ∷ cells) ≡ cell ∷ cells = ap (λ (t : Bool). cond t (cell ∷ cells) (cells_at next cells)) e in
        let stays : cells_from_place key number (cell ∷ cells) ≡ cell ∷ cells = ap (λ (t : Bool). cond t (cells_from_place key number cells) (cell ∷ cells)) (h cell cells there) in
        let one = ap length there in
        let other = ap length stays in
        omega (arith, one, other)
    by_place false e behind =
        let later : cells_at next (cell ∷ cells) ≡ cells_at next cells = ap (λ (t : Bool). cond t (cell ∷ cells) (cells_at next cells)) e in
        let rest = behind (λ c r g. h c r (later ∙ g)) in
        subst (λ (l : List Cell). length l ≤ length (cells_from_place key number (cell ∷ cells))) (sym later) (by_key (is_key_before key number cell.key) rest)

-- ---- together

module _ (kind : BlockKind) (text : List ℕ) (layout : Layout) (key : List ℕ) (number : ℕ) where
  abbrev pub block : BlockContents
  block = block_contents_in kind text layout

  interval : (from : ℕ) → IsLast kind text layout key number from → length (cells_at from block.cells) ≤ length (cells_from_place key number block.cells) + widest block.cells block.restarts
  interval from last =
      subst (λ (k : ℕ). length (cells_at k block.cells) ≤ length (cells_from_place key number block.cells) + widest block.cells block.restarts) (sym last.offset)
      (elim last.after [
        | inl end ↦ let g = behind_last block.cells text layout.end layout.restarts last.low end in omega (arith, g)
        | inr next ↦ by_next next
      ])
    where
      by_next : ((cell : Cell) (rest : List Cell) → cells_at (from_le_bytes w32 (drop (layout.end + 4 * suc last.low) text)) block.cells ≡ cell ∷ rest → is_key_before key number cell.key ≡ false)
          → length (cells_at (from_le_bytes w32 (drop (layout.end + 4 * last.low) text)) block.cells) ≤ length (cells_from_place key number block.cells) + widest block.cells block.restarts
      by_next next =
          let behind = not_behind block.cells (from_le_bytes w32 (drop (layout.end + 4 * suc last.low) text)) key number next in
          elim (cases_lt (suc last.low) layout.restarts) [
            | inl more ↦ let g = between block.cells text layout.end layout.restarts last.low more in omega (arith, g, behind)
            | inr end ↦ let g = behind_last block.cells text layout.end layout.restarts last.low (omega (arith, end, last.within)) in omega (arith, g)
          ]

  pub short : (before at steps reads : ℕ) → IsWalked kind text layout key number before at steps → length (cells_at at block.cells) ≡ length (cells_from_place key number block.cells) → reads + before ≤ suc steps → IsShort block reads
  short before at steps reads walked here few =
      let bound = interval walked.from walked.last in
      let passed = walked.passed in
      record {
        halvings = walked.begun - before;
        halved = subst (λ (k : ℕ). 2 ^ (walked.begun - before) ≤ 2 * k + 1) (sym (length_offsets text layout.end layout.restarts)) walked.halved;
        walked = omega (arith, bound, passed, walked.counted, walked.moved, here, few);
      }

  pub none_read : (reads : ℕ) → reads ≡ 0 → IsShort block reads
  none_read reads e = record { halvings = 0; halved = omega arith; walked = omega arith }
