-- A block as a whole: its tail, its entries, and its restarts.
use Rattle.std.proofs.Common.{◌≡◌, ◌≢◌, ℕ, zero, suc, ◌+◌, ◌-◌, ◌*◌, ◌<◌, Bool, true, false, cond, eqb, ltb, List, [], ◌∷◌, length, take, drop, Option, Some, None, Ok, Err, refl, sym, ap, subst, ◌∙◌, inl, inr, arith}
use Rattle.std.specs.Int.{w32, from_le_bytes}
use Rattle.std.specs.List.{list_all}
use Rattle.std.proofs.lemmas.Bool.{cases_Bool, and_parts, eq-eqb, ne_eqb, eqb-true}
use Rattle.st_base.specs.Order.{rises}
use Rattle.st_base.specs.declared.faults.BlockFault.{BlockFault}
use Rattle.st_base.specs.declared.faults.BlockFault.TheVariants.{Restarts}
use Rattle.st_block.specs.Block.{Cell, Tail as Parts, are_restarts, block_of, counted_tail, entries_before, entries_of, fitted, is_restart, none_fit, offsets_at, restarts_fit, restarts_of, tail_end, tail_of, tail_restarts}
use Rattle.st_block.specs.Entry.{IsLayout, IsTested, IsUnfit, MayStand, restarts_left}
use Rattle.st_block.specs.declared.kind.BlockKind.{BlockKind}
use Rattle.st_block.specs.declared.kind.BlockKind.TheVariants.{Data, Index, Plain}
use Rattle.st_block.specs.declared.open.CellCounts.{CellCounts}
use Rattle.st_block.specs.declared.open.Layout.{Layout}
use Rattle.st_block.specs.declared.tail.Tail.{Tail}
use Rattle.st_block.proofs.Laid.{entries_laid}
use Rattle.st_block.proofs.Meeting.{met_there, there_met, laid_rising}
use Rattle.st_block.proofs.Offsets.{offsets_more}

-- ---- the tail

pub length_offsets : (text : List ℕ) (at count : ℕ) → length (offsets_at text at count) ≡ count
length_offsets text at zero = refl
length_offsets text at (suc count) = ap suc (length_offsets text (at + 4) count)

tail_rises : (text : List ℕ) (tail : Parts) → tail_of text ≡ Some tail → are_restarts tail.restarts ≡ true
unfolding tail_of
tail_rises text tail e = outer (ltb (length text) 4) (counted_tail text (from_le_bytes w32 (drop (length text - 4) text))) e (inner (from_le_bytes w32 (drop (length text - 4) text)))
  where
    outer : (t : Bool) (o : Option Parts) → cond t None o ≡ Some tail → (o ≡ Some tail → are_restarts tail.restarts ≡ true) → are_restarts tail.restarts ≡ true
    outer true o e f = absurd cc
    outer false o e f = f e

    last : (t : Bool) (parts : Parts) → cond t (Some parts) None ≡ Some tail → (t ≡ true) × (parts ≡ tail)
    last true parts e = (refl, cc)
    last false parts e = absurd cc

    first : (t : Bool) (o : Option Parts) → cond t None o ≡ Some tail → o ≡ Some tail
    first true o e = absurd cc
    first false o e = e

    inner : (count : ℕ) → counted_tail text count ≡ Some tail → are_restarts tail.restarts ≡ true
    inner count e =
        let at = length text - (4 * count + 4) in
        let parts : Parts = record { end = at; restarts = offsets_at text at count } in
        let g = last (are_restarts (offsets_at text at count)) parts (first (ltb (length text) (4 * count + 4)) (cond (are_restarts (offsets_at text at count)) (Some parts) None) e) in
        subst (λ (p : Parts). are_restarts p.restarts ≡ true) g.1 g.0

restarts_rise : (offsets : List ℕ) → are_restarts offsets ≡ true → rises ltb offsets ≡ true
restarts_rise [] e = absurd cc
restarts_rise (r ∷ rs) e = (and_parts (eqb r 0) (rises ltb (r ∷ rs)) e).1

first_is : (text : List ℕ) (at count : ℕ) → are_restarts (offsets_at text at count) ≡ true → offsets_at text at count ≡ 0 ∷ offsets_at text (at + 4) (count - 1)
first_is text at zero e = absurd cc
first_is text at (suc count) e =
    let r = from_le_bytes w32 (drop at text) in
    ap (λ (k : ℕ). k ∷ offsets_at text (at + 4) count) (eqb-true r 0 (and_parts (eqb r 0) (rises ltb (r ∷ offsets_at text (at + 4) count)) e).0)
    ∙ ap (λ (k : ℕ). 0 ∷ offsets_at text (at + 4) k) (let k : count ≡ suc count - 1 = omega arith in k)

left_none : (text : List ℕ) (tail : Tail) (met : ℕ) → met ≡ tail.count → restarts_left text tail met ≡ []
left_none text tail met e = ap (λ (k : ℕ). offsets_at text (tail.end + 4 * met) k) (let k : tail.count - met ≡ 0 = omega arith in k)

left_some : (text : List ℕ) (tail : Tail) (met : ℕ) → met < tail.count → restarts_left text tail met ≢ []
left_some text tail met lt e = let same = sym (offsets_more text tail.end tail.count met lt) ∙ e in let w : from_le_bytes w32 (drop (tail.end + 4 * met) text) ∷ offsets_at text (tail.end + 4 * (met + 1)) (tail.count - (met + 1)) ≡ [] = same in cc

-- ---- the whole

module _ (kind : BlockKind) (text : List ℕ) (tail : Tail) (found : CellCounts) (cells : List Cell)
    (there : tail_of text ≡ Some (record { end = tail.end; restarts = offsets_at text tail.end tail.count }))
    (read : IsTested kind text (take tail.end text) tail found cells) where
  whole : block_of kind text ≡ restarts_fit kind (offsets_at text tail.end tail.count) cells
  whole = ap (entries_before kind text) there ∙ ap (fitted kind (offsets_at text tail.end tail.count)) read.cells_are

  all_there : found.met ≡ tail.count → list_all (is_restart cells) (offsets_at text tail.end tail.count) ≡ true
  all_there e = met_there cells (offsets_at text tail.end tail.count) (read.met ∙ left_none text tail found.met e)

  not_all : found.met ≢ tail.count → list_all (is_restart cells) (offsets_at text tail.end tail.count) ≡ false
  not_all n =
      elim (cases_Bool (list_all (is_restart cells) (offsets_at text tail.end tail.count))) [
        | inl t ↦ absurd (left_some text tail found.met (omega (arith, read.within))
            (sym read.met ∙ there_met cells (offsets_at text tail.end tail.count) (laid_rising (take tail.end text) [] 0 cells (entries_laid kind (take tail.end text) cells read.cells_are)) (restarts_rise (offsets_at text tail.end tail.count) (tail_rises text _ there)) t))
        | inr f ↦ f
      ]

  some_fit : (t : Bool) → 0 < found.entries → list_all (is_restart cells) (offsets_at text tail.end tail.count) ≡ t → restarts_fit kind (offsets_at text tail.end tail.count) cells ≡ cond t (Ok cells) (Err Restarts)
  some_fit t some e = by_cells cells (omega (arith, read.count)) e
    where
      by_cells : (l : List Cell) → 0 < length l → list_all (is_restart l) (offsets_at text tail.end tail.count) ≡ t → restarts_fit kind (offsets_at text tail.end tail.count) l ≡ cond t (Ok l) (Err Restarts)
      by_cells [] lt e = absurd (omega arith)
      by_cells (cell ∷ l) lt e = ap (λ (t : Bool). cond t (Ok (cell ∷ l)) (Err Restarts)) e

  no_fit : found.entries ≡ 0 → restarts_fit kind (offsets_at text tail.end tail.count) cells ≡ none_fit kind (offsets_at text tail.end tail.count)
  no_fit none = by_cells cells (omega (arith, read.count))
    where
      by_cells : (l : List Cell) → length l ≡ 0 → restarts_fit kind (offsets_at text tail.end tail.count) l ≡ none_fit kind (offsets_at text tail.end tail.count)
      by_cells [] e = refl
      by_cells (cell ∷ l) e = absurd (omega arith)

  empty_is : found.entries ≡ 0 → [] ≡ cells
  empty_is none = by_cells cells (omega (arith, read.count))
    where
      by_cells : (l : List Cell) → length l ≡ 0 → [] ≡ l
      by_cells [] e = refl
      by_cells (cell ∷ l) e = absurd (omega arith)

  count_is : (k : ℕ) (t : Bool) → eqb tail.count k ≡ t → eqb (length (offsets_at text tail.end tail.count)) k ≡ t
  count_is k t e = ap (λ (n : ℕ). eqb n k) (length_offsets text tail.end tail.count) ∙ e

  pub fits_not : (fault : BlockFault) → IsUnfit kind tail.count found fault → block_of kind text ≡ Err fault
  fits_not fault h = whole ∙ by_kind kind no_fit h
    where
      restarts_wrong : (0 < found.entries) × (found.met ≢ tail.count) × (fault ≡ Restarts) → restarts_fit kind (offsets_at text tail.end tail.count) cells ≡ Err fault
      restarts_wrong p = some_fit false p.0 (not_all p.1) ∙ ap (λ (f : BlockFault). Err f) (sym p.2)

      one_wrong : (found.entries ≡ 0) × (tail.count ≢ 1) × (fault ≡ Restarts) → none_fit Index (offsets_at text tail.end tail.count) ≡ Err fault
      one_wrong p = ap (λ (t : Bool). cond t (Ok []) (Err Restarts)) (count_is 1 false (ne_eqb tail.count 1 p.1)) ∙ ap (λ (f : BlockFault). Err f) (sym p.2)

      by_kind : (k : BlockKind) → (found.entries ≡ 0 → restarts_fit kind (offsets_at text tail.end tail.count) cells ≡ none_fit k (offsets_at text tail.end tail.count)) → IsUnfit k tail.count found fault → restarts_fit kind (offsets_at text tail.end tail.count) cells ≡ Err fault
      by_kind Data none (inl p) = none p.0 ∙ ap (λ (f : BlockFault). Err f) (sym p.1)
      by_kind Data none (inr p) = restarts_wrong p
      by_kind Index none (inl p) = none p.0 ∙ one_wrong p
      by_kind Index none (inr p) = restarts_wrong p
      by_kind Plain none (inl p) = none p.0 ∙ one_wrong p
      by_kind Plain none (inr p) = restarts_wrong p

  stands : MayStand kind tail.count found → restarts_fit kind (offsets_at text tail.end tail.count) cells ≡ Ok cells
  stands h = by_kind kind no_fit h
    where
      all_right : (0 < found.entries) × (found.met ≡ tail.count) → restarts_fit kind (offsets_at text tail.end tail.count) cells ≡ Ok cells
      all_right p = some_fit true p.0 (all_there p.1)

      one_right : (found.entries ≡ 0) × (tail.count ≡ 1) → none_fit Index (offsets_at text tail.end tail.count) ≡ Ok cells
      one_right p = ap (λ (t : Bool). cond t (Ok []) (Err Restarts)) (count_is 1 true (eq-eqb tail.count 1 p.1)) ∙ ap (λ (l : List Cell). Ok l) (empty_is p.0)

      by_kind : (k : BlockKind) → (found.entries ≡ 0 → restarts_fit kind (offsets_at text tail.end tail.count) cells ≡ none_fit k (offsets_at text tail.end tail.count)) → MayStand k tail.count found → restarts_fit kind (offsets_at text tail.end tail.count) cells ≡ Ok cells
      by_kind Data none p = all_right p
      by_kind Index none (inl p) = none p.0 ∙ one_right p
      by_kind Index none (inr p) = all_right p
      by_kind Plain none (inl p) = none p.0 ∙ one_right p
      by_kind Plain none (inr p) = all_right p

  met_all : MayStand kind tail.count found → 0 < found.entries → found.met ≡ tail.count
  met_all h some = by_kind kind h
    where
      by_kind : (k : BlockKind) → MayStand k tail.count found → found.met ≡ tail.count
      by_kind Data p = p.1
      by_kind Index (inl p) = absurd (omega (arith, p.0))
      by_kind Index (inr p) = p.1
      by_kind Plain (inl p) = absurd (omega (arith, p.0))
      by_kind Plain (inr p) = p.1

  pub lies : (layout : Layout) → MayStand kind tail.count found → layout.end ≡ tail.end → layout.restarts ≡ tail.count → layout.entries ≡ found.entries → tail.end + 4 * tail.count + 4 ≡ length text → IsLayout kind text layout cells
  lies layout h e r n room =
      record {
        block = whole ∙ stands h;
        area = ap (λ (k : ℕ). entries_of kind (take k text)) e ∙ read.cells_are;
        first = subst (λ (k : ℕ). offsets_at text layout.end k ≡ 0 ∷ offsets_at text (layout.end + 4) (k - 1)) (sym r) (subst (λ (k : ℕ). offsets_at text k tail.count ≡ 0 ∷ offsets_at text (k + 4) (tail.count - 1)) (sym e) (first_is text tail.end tail.count (tail_rises text _ there)));
        restarts = λ some. subst (λ (k : ℕ). list_all (is_restart cells) (offsets_at text layout.end k) ≡ true) (sym r) (subst (λ (k : ℕ). list_all (is_restart cells) (offsets_at text k tail.count) ≡ true) (sym e) (all_there (met_all h (omega arith))));
        count = read.count ∙ sym n;
        offsets = subst (λ (k : ℕ). offsets_at text layout.end k ≡ restarts_of text) (sym r) (subst (λ (k : ℕ). offsets_at text k tail.count ≡ restarts_of text) (sym e) (sym (ap tail_restarts there)));
        end = e ∙ sym (ap tail_end there);
        room = omega arith;
      }

pub tail_fails : (kind : BlockKind) (text : List ℕ) → tail_of text ≡ None → block_of kind text ≡ Err Restarts
tail_fails kind text e = ap (entries_before kind text) e

pub entry_fails : (kind : BlockKind) (text : List ℕ) (tail : Tail) (fault : BlockFault) → tail_of text ≡ Some (record { end = tail.end; restarts = offsets_at text tail.end tail.count }) → entries_of kind (take tail.end text) ≡ Err fault → block_of kind text ≡ Err fault
entry_fails kind text tail fault there e = ap (entries_before kind text) there ∙ ap (fitted kind (offsets_at text tail.end tail.count)) e
