-- Entries that are tested one after the other.
use Rattle.std.proofs.Common.{◌≡◌, ℕ, zero, suc, ◌+◌, ◌-◌, ◌<◌, ◌≤◌, Bool, cond, List, [], ◌∷◌, ◌++◌, length, Result, Ok, Err, refl, sym, ap, ◌∙◌, append_assoc, arith}
use Rattle.std.specs.Prelude.{IsTrue}
use Rattle.std.proofs.lemmas.Bool.{ne_eqb, eq-eqb}
use Rattle.std.proofs.lemmas.List.{append-nil, length-append}
use Rattle.std.proofs.lemmas.List.Sums.{fold_push}
use Rattle.st_base.specs.declared.faults.BlockFault.{BlockFault}
use Rattle.st_block.specs.Block.{Cell, cells_from, entries_of, found_then, is_long_enough, next_cell, offsets_at, with_cell}
use Rattle.st_block.specs.Entry.{AreRead, IsTested, pass, restarts_left, with_front}
use Rattle.st_block.specs.declared.kind.BlockKind.{BlockKind}
use Rattle.st_block.specs.declared.open.CellCounts.{CellCounts}
use Rattle.st_block.specs.declared.tail.Tail.{Tail}

abbrev pub Cells : Type 0
Cells = Result (List Cell) BlockFault

regroup : (front : List Cell) (cell : Cell) (read : Cells) → with_front front (with_cell cell read) ≡ with_front (front ++ cell ∷ []) read
regroup front cell (Ok cells) = ap (λ (l : List Cell). Ok l) (sym (append_assoc front (cell ∷ []) cells))
regroup front cell (Err fault) = refl

-- while there are bytes left, an entry comes first
pub cells_more : (most : ℕ) (kind : BlockKind) (area before : List ℕ) (at : ℕ) → at < length area
    → cells_from (suc most) kind area before at ≡ found_then (next_cell kind area before at) (λ found. cells_from most kind area found.0.key found.1)
unfolding cells_from
cells_more most kind area before at lt =
    ap (λ (t : Bool). cond t (Ok []) (found_then (next_cell kind area before at) (λ found. cells_from most kind area found.0.key found.1))) (ne_eqb at (length area) (λ e. omega arith))

pub cells_end : (most : ℕ) (kind : BlockKind) (area before : List ℕ) (at : ℕ) → at ≡ length area → cells_from most kind area before at ≡ Ok []
unfolding cells_from
cells_end zero kind area before at e = refl
cells_end (suc most) kind area before at e =
    ap (λ (t : Bool). cond t (Ok []) (found_then (next_cell kind area before at) (λ found. cells_from most kind area found.0.key found.1))) (eq-eqb at (length area) e)

module _ (kind : BlockKind) (text area : List ℕ) (tail : Tail) (before : List ℕ) (at entries met : ℕ) (front : List Cell) (read : AreRead kind text area tail before at entries met front) where
  pub goes_on : (cell : Cell) (next met' : ℕ) → at < length area → next_cell kind area before at ≡ Ok (cell, next) → at < next → next ≤ length area → IsTrue (is_long_enough kind cell.key)
      → pass (restarts_left text tail met) cell ≡ restarts_left text tail met' → met' ≤ tail.count → AreRead kind text area tail cell.key next (entries + 1) met' (front ++ cell ∷ [])
  goes_on cell next met' lt e up in' long passed within =
      let k : length area - entries ≡ suc (length area - (entries + 1)) = omega (arith, read.moved) in
      record {
        so_far = read.so_far
            ∙ ap (λ (n : ℕ). with_front front (cells_from n kind area before at)) k
            ∙ ap (with_front front) (cells_more (length area - (entries + 1)) kind area before at lt ∙ ap (λ (r : Result (Cell × ℕ) BlockFault). found_then r (λ found. cells_from (length area - (entries + 1)) kind area found.0.key found.1)) e)
            ∙ regroup front cell (cells_from (length area - (entries + 1)) kind area cell.key next);
        count = omega (arith, length-append front (cell ∷ []), read.count);
        moved = omega (arith, read.moved);
        inside = in';
        long = λ n. long;
        restarts = fold_push pass (offsets_at text tail.end tail.count) front cell ∙ ap (λ (l : List ℕ). pass l cell) read.restarts ∙ passed;
        within = within;
      }

  pub fails : (fault : BlockFault) → at < length area → next_cell kind area before at ≡ Err fault → entries_of kind area ≡ Err fault
  fails fault lt e =
      let k : length area - entries ≡ suc (length area - (entries + 1)) = omega (arith, read.moved) in
      read.so_far ∙ ap (λ (n : ℕ). with_front front (cells_from n kind area before at)) k
      ∙ ap (with_front front) (cells_more (length area - (entries + 1)) kind area before at lt ∙ ap (λ (r : Result (Cell × ℕ) BlockFault). found_then r (λ found. cells_from (length area - (entries + 1)) kind area found.0.key found.1)) e)

  pub is_done : (found : CellCounts) → length area ≤ at → found.entries ≡ entries → found.met ≡ met → IsTested kind text area tail found front
  is_done found le e m =
      record {
        cells_are = read.so_far ∙ ap (with_front front) (cells_end (length area - entries) kind area before at (omega (arith, read.inside))) ∙ ap (λ (l : List Cell). Ok l) (append-nil front);
        count = read.count ∙ sym e;
        met = read.restarts ∙ ap (restarts_left text tail) (sym m);
        within = omega (arith, m, read.within);
      }
