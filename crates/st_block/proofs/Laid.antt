-- How the entries of a block lie in its bytes, one behind the other.
use Rattle.std.proofs.Common.{◌≡◌, ℕ, zero, suc, ◌+◌, ◌-◌, ◌*◌, ◌^◌, ◌<◌, ◌≤◌, Bool, true, false, cond, eqb, ltb, ◌||◌, List, [], ◌∷◌, length, drop, Option, Some, None, Result, Ok, Err, refl, sym, ap, subst, ◌∙◌, inl, inr, arith}
use Rattle.std.specs.Prelude.{option_and_then}
use Rattle.std.specs.Result.{result_ok}
use Rattle.std.proofs.lemmas.Bool.{cases_Bool, eqb-true}
use Rattle.st_base.specs.declared.faults.BlockFault.{BlockFault}
use Rattle.st_base.specs.declared.faults.BlockFault.TheVariants.{Entry, Order}
use Rattle.st_code.specs.declared.fault.CodeFault.{CodeFault}
use Rattle.st_code.specs.declared.fault.CodeFault.TheVariants.{TooLong}
use Rattle.st_code.specs.Varint.{spelled, with_low, if_below, placed, varint32_at}
use Rattle.st_block.specs.Block.{Cell, Head, cell_at, cells_from, entries_of, fits, found_then, head_at, is_after, is_long_enough, laid, next_cell, tested, with_cell}
use Rattle.st_block.specs.declared.kind.BlockKind.{BlockKind}
use Rattle.st_block.proofs.Cells.{fits_parts}

-- ---- a varint has a byte

abbrev Number : Type 0
Number = Result (ℕ × ℕ) CodeFault

spelled_some : (most : ℕ) (bytes : List ℕ) (found : ℕ × ℕ) → spelled most bytes ≡ Ok found → 1 ≤ found.1
unfolding spelled
spelled_some zero bytes found e = absurd cc
spelled_some (suc most) [] found e = absurd cc
spelled_some (suc most) (b ∷ bytes) found e = last_or_more (ltb b 128) b (spelled most bytes) found e
  where
    low_some : (low : ℕ) (rest : Number) (found : ℕ × ℕ) → with_low low rest ≡ Ok found → 1 ≤ found.1
    low_some low (Ok high) found e = let same : (low + high.0 * 128, suc high.1) ≡ found = cc in subst (λ (f : ℕ × ℕ). 1 ≤ f.1) same (omega arith)
    low_some low (Err fault) found e = absurd cc

    last_or_more : (t : Bool) (b : ℕ) (rest : Number) (found : ℕ × ℕ) → cond t (Ok (b, 1)) (with_low (b - 128) rest) ≡ Ok found → 1 ≤ found.1
    last_or_more true b rest found e = let same : (b, 1) ≡ found = cc in subst (λ (f : ℕ × ℕ). 1 ≤ f.1) same (omega arith)
    last_or_more false b rest found e = low_some (b - 128) rest found e

placed_behind : (at limit : ℕ) (r : Number) → ((found : ℕ × ℕ) → r ≡ Ok found → 1 ≤ found.1) → (found : ℕ × ℕ) → placed at (if_below limit r) ≡ Ok found → at < found.1
placed_behind at limit (Err fault) h found e = absurd cc
placed_behind at limit (Ok number) h found e =
    elim (cases_Bool (ltb number.0 limit)) [
      | inl t ↦
          let one : 1 ≤ number.1 = h number refl in
          let same : (let read : Number = Ok (number.0, at + number.1) in read) ≡ Ok found = sym (ap (λ (t : Bool). placed at (cond t (Ok number) (Err TooLong))) t) ∙ e in
          let pair : (number.0, at + number.1) ≡ found = cc in
          subst (λ (f : ℕ × ℕ). at < f.1) pair (omega arith)
      | inr f ↦ absurd (let same : (let read : Number = Err TooLong in read) ≡ Ok found = sym (ap (λ (t : Bool). placed at (cond t (Ok number) (Err TooLong))) f) ∙ e in cc)
    ]

varint_behind : (bytes : List ℕ) (at : ℕ) (found : ℕ × ℕ) → varint32_at bytes at ≡ Ok found → at < found.1
varint_behind bytes at found e = placed_behind at (2 ^ 32) (spelled 5 (drop at bytes)) (spelled_some 5 (drop at bytes)) found e

-- ---- what was read was there

some_then : {A B : Type 0} (o : Option A) (f : A → Option B) (y : B) → option_and_then f o ≡ Some y → (x : A) × (o ≡ Some x) × (f x ≡ Some y)
some_then None f y e = absurd cc
some_then (Some x) f y e = (x, refl, e)

ok_some : (r : Number) (x : ℕ × ℕ) → result_ok r ≡ Some x → r ≡ Ok x
ok_some (Ok y) x e = let same : y ≡ x = cc in ap (λ (z : ℕ × ℕ). Ok z) same
ok_some (Err fault) x e = absurd cc

guard_some : {A : Type 0} (t : Bool) (x y : A) → cond t (Some x) None ≡ Some y → (t ≡ true) × (x ≡ y)
guard_some true x y e = (refl, cc)
guard_some false x y e = absurd cc

pub some_is : {A : Type 0} (x y : A) → Some x ≡ Some y → x ≡ y
some_is x y e = cc

pub head_behind_place : (area : List ℕ) (at : ℕ) (head : Head) → head_at area at ≡ Some head → at < head.behind
unfolding head_at
head_behind_place area at head e =
    let a = some_then (result_ok (varint32_at area at)) _ head e in
    let b = some_then (result_ok (varint32_at area a.0.1)) _ head a.2 in
    let c = some_then (result_ok (varint32_at area b.0.1)) _ head b.2 in
    let same = some_is _ head c.2 in
    let p = varint_behind area at a.0 (ok_some (varint32_at area at) a.0 a.1) in
    let q = varint_behind area a.0.1 b.0 (ok_some (varint32_at area a.0.1) b.0 b.1) in
    let r = varint_behind area b.0.1 c.0 (ok_some (varint32_at area b.0.1) c.0 c.1) in
    subst (λ (h : Head). at < h.behind) same (omega (arith, p, q, r))

-- an entry that is there
pub record IsThere (area before : List ℕ) (at : ℕ) (found : Cell × ℕ) (head : Head) : Type 0 where
  pub head_is : head_at area at ≡ Some head
  pub fitting : fits area before head ≡ true
  pub is : laid area before at head ≡ found

pub cell_there : (area before : List ℕ) (at : ℕ) (found : Cell × ℕ) → cell_at area before at ≡ Some found → (head : Head) × IsThere area before at found head
unfolding cell_at
cell_there area before at found e =
    let a = some_then (head_at area at) (λ (h : Head). cond (fits area before h) (Some (laid area before at h)) None) found e in
    let g = guard_some (fits area before a.0) (laid area before at a.0) found a.2 in
    (a.0, record { head_is = a.1; fitting = g.0; is = g.1 })

pub next_behind : (area before : List ℕ) (at : ℕ) (found : Cell × ℕ) → cell_at area before at ≡ Some found → (at < found.1) × (found.1 ≤ length area) × (found.0.at ≡ at)
next_behind area before at found e =
    let t = cell_there area before at found e in
    let p = fits_parts area before t.0 t.1.fitting in
    let h = head_behind_place area at t.0 t.1.head_is in
    subst (λ (f : Cell × ℕ). (at < f.1) × (f.1 ≤ length area) × (f.0.at ≡ at)) t.1.is (omega (arith, h), p.2, refl)

-- ---- entries, one behind the other

abbrev pub Laid : List ℕ → List ℕ → ℕ → List Cell → Type 0
Laid area before at [] = at ≡ length area
Laid area before at (cell ∷ cells) = (next : ℕ) × (cell_at area before at ≡ Some (cell, next)) × Laid area cell.key next cells

pub tested_some : (kind : BlockKind) (before : List ℕ) (at : ℕ) (o : Option (Cell × ℕ)) (found : Cell × ℕ) → tested kind before at o ≡ Ok found → o ≡ Some found
tested_some kind before at None found e = absurd cc
tested_some kind before at (Some other) found e = ap (λ (x : Cell × ℕ). Some x) (both (is_long_enough kind other.0.key) (eqb at 0 || is_after kind before other.0.key) e)
  where
    both : (s t : Bool) → cond s (cond t (Ok other) (Err (Order at))) (Err (Entry at)) ≡ Ok found → other ≡ found
    both true true e = let same : other ≡ found = cc in same
    both true false e = absurd cc
    both false t e = absurd cc

abbrev Cells : Type 0
Cells = Result (List Cell) BlockFault

pub found_ok : (r : Result (Cell × ℕ) BlockFault) (f : Cell × ℕ → Cells) (cells : List Cell) → found_then r f ≡ Ok cells → (found : Cell × ℕ) × (r ≡ Ok found) × ((rest : List Cell) × (f found ≡ Ok rest) × (found.0 ∷ rest ≡ cells))
found_ok (Err fault) f cells e = absurd cc
found_ok (Ok found) f cells e = (found, refl, more (f found) e)
  where
    more : (r : Cells) → with_cell found.0 r ≡ Ok cells → (rest : List Cell) × (r ≡ Ok rest) × (found.0 ∷ rest ≡ cells)
    more (Ok rest) e = (rest, refl, cc)
    more (Err fault) e = absurd cc

pub laid_cells : (most : ℕ) (kind : BlockKind) (area before : List ℕ) (at : ℕ) (cells : List Cell) → at ≤ length area → length area - at ≤ most → cells_from most kind area before at ≡ Ok cells → Laid area before at cells
unfolding cells_from
laid_cells zero kind area before at cells in' fuel e =
    let none : [] ≡ cells = (let none : (let read : Cells = Ok [] in read) ≡ Ok cells = e in cc) in
    subst (λ (l : List Cell). Laid area before at l) none (omega arith)
laid_cells (suc most) kind area before at cells in' fuel e =
    elim (cases_Bool (eqb at (length area))) [
      | inl t ↦
          let same : (let read : Cells = Ok [] in read) ≡ Ok cells = sym (ap (λ (t : Bool). cond t (Ok []) (found_then (next_cell kind area before at) (λ found. cells_from most kind area found.0.key found.1))) t) ∙ e in
          let none : [] ≡ cells = cc in
          subst (λ (l : List Cell). Laid area before at l) none (eqb-true _ _ t)
      | inr f ↦
          let same : found_then (next_cell kind area before at) (λ found. cells_from most kind area found.0.key found.1) ≡ Ok cells = sym (ap (λ (t : Bool). cond t (Ok []) (found_then (next_cell kind area before at) (λ found. cells_from most kind area found.0.key found.1))) f) ∙ e in
          let r = found_ok (next_cell kind area before at) (λ found. cells_from most kind area found.0.key found.1) cells same in
          let there = tested_some kind before at (cell_at area before at) r.0 r.1 in
          let p = next_behind area before at r.0 there in
          subst (λ (l : List Cell). Laid area before at l) r.2.2 (r.0.1, there, laid_cells most kind area r.0.0.key r.0.1 r.2.0 p.1 (omega (arith, p.0, p.1)) r.2.1)
    ]

pub entries_laid : (kind : BlockKind) (area : List ℕ) (cells : List Cell) → entries_of kind area ≡ Ok cells → Laid area [] 0 cells
entries_laid kind area cells e = laid_cells (length area) kind area [] 0 cells (omega arith) (omega arith) e
