-- Looking for a place from a restart on.
use Rattle.std.proofs.Common.{◌≡◌, ℕ, zero, suc, ◌+◌, ◌*◌, ◌/◌, ◌<◌, ◌≤◌, ◌⊎◌, Bool, true, false, cond, eqb, List, [], ◌∷◌, length, take, drop, Some, Ordering, Less, Equal, Greater, refl, sym, ap, subst, ◌∙◌, inl, inr, arith}
use Rattle.std.specs.Int.{w32, from_le_bytes}
use Rattle.std.specs.List.{list_all}
use Rattle.std.specs.Ordering.{nat_cmp, ordering_then, is_lt}
use Rattle.std.proofs.lemmas.Bool.{cases_Bool, cases_lt, and_parts, false≢true, lt-ltb, le-ltb}
use Rattle.std.proofs.lemmas.Cmp.{nat_list_cmp_total, alike_right}
use Rattle.std.proofs.lemmas.List.{nil_from_length, length-take}
use Rattle.st_base.specs.Bytes.{bytes_cmp}
use Rattle.st_base.specs.Order.{rises, rises_behind}
use Rattle.st_block.specs.Block.{Cell, cell_at, is_restart, offsets_at}
use Rattle.st_block.specs.Entry.{IsLayout}
use Rattle.st_block.specs.InternalKey.{internal_cmp, is_key_before, packed, user_key}
use Rattle.st_block.specs.BlockContents.{BlockContents, Primes, IsReadableAt, TakesCell, cells_at, cells_from_place, cells_in, block_contents_in, internal_keys_rise, lower_offset, offset_of}
use Rattle.st_block.specs.Search.{IsStart}
use Rattle.st_block.specs.declared.kind.BlockKind.{BlockKind}
use Rattle.st_block.specs.declared.open.Layout.{Layout}
use Rattle.st_block.proofs.Laid.{entries_laid}
use Rattle.st_block.proofs.Meeting.{laid_rising}
use Rattle.st_block.proofs.Places.{at_start, first_at, primes_of, restart_at}

-- ---- restarts by their place

pub all_at : (cells : List Cell) (text : List ℕ) (at count i : ℕ) → list_all (is_restart cells) (offsets_at text at count) ≡ true → i < count → is_restart cells (from_le_bytes w32 (drop (at + 4 * i) text)) ≡ true
all_at cells text at zero i h lt = absurd (omega arith)
all_at cells text at (suc count) zero h lt =
    let p = and_parts (is_restart cells (from_le_bytes w32 (drop at text))) (list_all (is_restart cells) (offsets_at text (at + 4) count)) h in
    subst (λ (k : ℕ). is_restart cells (from_le_bytes w32 (drop k text)) ≡ true) (let k : at ≡ at + 4 * 0 = omega arith in k) p.0
all_at cells text at (suc count) (suc i) h lt =
    let p = and_parts (is_restart cells (from_le_bytes w32 (drop at text))) (list_all (is_restart cells) (offsets_at text (at + 4) count)) h in
    subst (λ (k : ℕ). is_restart cells (from_le_bytes w32 (drop k text)) ≡ true) (let k : at + 4 + 4 * i ≡ at + 4 * suc i = omega arith in k) (all_at cells text (at + 4) count i p.1 (omega arith))

first_zero : (text : List ℕ) (at count : ℕ) (rest : List ℕ) → offsets_at text at count ≡ 0 ∷ rest → (0 < count) × (from_le_bytes w32 (drop (at + 4 * 0) text) ≡ 0)
first_zero text at zero rest e = absurd cc
first_zero text at (suc count) rest e =
    let r = from_le_bytes w32 (drop at text) in
    let zero-is : r ≡ 0 = cc in
    (omega arith, ap (λ (k : ℕ). from_le_bytes w32 (drop k text)) (let k : at + 4 * 0 ≡ at = omega arith in k) ∙ zero-is)

module _ (kind : BlockKind) (text : List ℕ) (layout : Layout) (lies : IsLayout kind text layout (cells_in kind (take layout.end text))) (some : 0 < layout.entries) (key : List ℕ) (number : ℕ) where
  pub some_restart : 0 < layout.restarts
  some_restart = (first_zero text layout.end layout.restarts _ lies.first).0

  pub start_first : IsStart kind text layout key number (from_le_bytes w32 (drop (layout.end + 4 * 0) text))
  start_first =
      record {
        restart = all_at (cells_in kind (take layout.end text)) text layout.end layout.restarts 0 (lies.restarts some) some_restart;
        before = inl (first_zero text layout.end layout.restarts _ lies.first).1;
      }

  pub start_more : (middle at : ℕ) (internal : List ℕ) → middle < layout.restarts → at ≡ from_le_bytes w32 (drop (layout.end + 4 * middle) text)
      → ((before : List ℕ) (cell : Cell) (next : ℕ) → cell_at (take layout.end text) before at ≡ Some (cell, next) → cell.shared ≡ 0 → internal ≡ cell.key) → is_key_before key number internal ≡ true
      → IsStart kind text layout key number (from_le_bytes w32 (drop (layout.end + 4 * middle) text))
  start_more middle at internal lt e key_is yes' =
      let cells = cells_in kind (take layout.end text) in
      let lie = entries_laid kind (take layout.end text) cells lies.area in
      let there = all_at cells text layout.end layout.restarts middle (lies.restarts some) lt in
      subst (λ (k : ℕ). IsStart kind text layout key number k) e (record {
        restart = subst (λ (k : ℕ). is_restart cells k ≡ true) (sym e) there;
        before = inr (λ cell rest first.
            let r = restart_at cells at (laid_rising (take layout.end text) [] 0 cells lie) (subst (λ (k : ℕ). is_restart cells k ≡ true) (sym e) there) in
            let f = first_at (take layout.end text) [] 0 cells lie at cell rest first in
            let both : r.0 ∷ r.1.0 ≡ cell ∷ rest = sym r.1.1 ∙ first in
            let same : r.0 ≡ cell = cc in
            let none : cell.shared ≡ 0 = ap (λ (c : Cell). c.shared) (sym same) ∙ r.1.2 in
            ap (is_key_before key number) (sym (key_is f.before cell f.next f.there none)) ∙ yes');
      })

  -- a restart whose entry doesn't come before the place
  pub stays_behind : (middle at : ℕ) (internal : List ℕ) → middle < layout.restarts → at ≡ from_le_bytes w32 (drop (layout.end + 4 * middle) text)
      → ((before : List ℕ) (cell : Cell) (next : ℕ) → cell_at (take layout.end text) before at ≡ Some (cell, next) → cell.shared ≡ 0 → internal ≡ cell.key) → is_key_before key number internal ≡ false
      → (cell : Cell) (rest : List Cell) → cells_at (from_le_bytes w32 (drop (layout.end + 4 * middle) text)) (cells_in kind (take layout.end text)) ≡ cell ∷ rest → is_key_before key number cell.key ≡ false
  stays_behind middle at internal lt e key_is no' cell rest first' =
      let cells = cells_in kind (take layout.end text) in
      let lie = entries_laid kind (take layout.end text) cells lies.area in
      let there = all_at cells text layout.end layout.restarts middle (lies.restarts some) lt in
      let first : cells_at at cells ≡ cell ∷ rest = subst (λ (k : ℕ). cells_at k cells ≡ cell ∷ rest) (sym e) first' in
      let r = restart_at cells at (laid_rising (take layout.end text) [] 0 cells lie) (subst (λ (k : ℕ). is_restart cells k ≡ true) (sym e) there) in
      let f = first_at (take layout.end text) [] 0 cells lie at cell rest first in
      let both : r.0 ∷ r.1.0 ≡ cell ∷ rest = sym r.1.1 ∙ first in
      let same : r.0 ≡ cell = cc in
      let none : cell.shared ≡ 0 = ap (λ (c : Cell). c.shared) (sym same) ∙ r.1.2 in
      ap (is_key_before key number) (sym (key_is f.before cell f.next f.there none)) ∙ no'

-- ---- keys before a place

less : (o : Ordering) → is_lt o ≡ true → o ≡ Less
less Less e = refl
less Equal e = absurd cc
less Greater e = absurd cc

nat_less : (a b : ℕ) → is_lt (nat_cmp a b) ≡ true → a < b
nat_less a b e = elim (cases_lt a b) [ inl lt ↦ lt | inr le ↦ absurd (false≢true (sym (ap (λ (t : Bool). is_lt (cond t Less (cond (eqb a b) Equal Greater))) (le-ltb a b le) ∙ tied (eqb a b)) ∙ e)) ]
  where
    tied : (t : Bool) → is_lt (cond t Equal Greater) ≡ false
    tied true = refl
    tied false = refl

less_nat : (a b : ℕ) → a < b → is_lt (nat_cmp a b) ≡ true
less_nat a b lt = ap (λ (t : Bool). is_lt (cond t Less (cond (eqb a b) Equal Greater))) (lt-ltb a b lt)

-- what comes before in an order by two parts
parts : (o : Ordering) (a b : ℕ) → is_lt (ordering_then o (nat_cmp a b)) ≡ true → (o ≡ Less) ⊎ ((o ≡ Equal) × (a < b))
parts Less a b e = inl refl
parts Equal a b e = inr (refl, nat_less a b e)
parts Greater a b e = absurd cc

by_first : (o : Ordering) (a b : ℕ) → o ≡ Less → is_lt (ordering_then o (nat_cmp a b)) ≡ true
by_first o a b e = ap (λ (p : Ordering). is_lt (ordering_then p (nat_cmp a b))) e

by_second : (o : Ordering) (a b : ℕ) → o ≡ Equal → a < b → is_lt (ordering_then o (nat_cmp a b)) ≡ true
by_second o a b e lt = ap (λ (p : Ordering). is_lt (ordering_then p (nat_cmp a b))) e ∙ less_nat a b lt

abbrev pub key_lt : Cell → Cell → Bool
key_lt one other = is_lt (internal_cmp one.key other.key)

-- a key that comes before one before the place comes before the place
pub chains : (one other key : List ℕ) (number : ℕ) → is_lt (internal_cmp one other) ≡ true → is_key_before key number other ≡ true → is_key_before key number one ≡ true
chains one other key number h g =
    let a = user_key one in
    let b = user_key other in
    elim (parts (bytes_cmp a b) (packed other) (packed one) h) [
      | inl up ↦ elim (parts (bytes_cmp b key) number (packed other / 256) g) [
        | inl more ↦ by_first (bytes_cmp a key) number (packed one / 256) (nat_list_cmp_total.trans a b key up more)
        | inr same ↦ by_first (bytes_cmp a key) number (packed one / 256) (sym (alike_right nat_list_cmp_total b key a same.0) ∙ up)
      ]
      | inr tied ↦
          let moved = nat_list_cmp_total.congr a b key tied.0 in
          elim (parts (bytes_cmp b key) number (packed other / 256) g) [
            | inl more ↦ by_first (bytes_cmp a key) number (packed one / 256) (moved ∙ more)
            | inr same ↦ by_second (bytes_cmp a key) number (packed one / 256) (moved ∙ same.0) (omega arith)
          ]
    ]

rest_rises : (one : Cell) (cells : List Cell) → rises_behind key_lt one cells ≡ true → rises key_lt cells ≡ true
rest_rises one [] h = refl
rest_rises one (other ∷ cells) h = (and_parts (key_lt one other) (rises_behind key_lt other cells) h).1

-- an entry before others that rise comes before each place that the first one from somewhere on comes before
comes_first : (one : Cell) (cells : List Cell) (at : ℕ) (cell : Cell) (rest : List Cell) (key : List ℕ) (number : ℕ) → rises_behind key_lt one cells ≡ true → cells_at at cells ≡ cell ∷ rest → is_key_before key number cell.key ≡ true → is_key_before key number one.key ≡ true
comes_first one [] at cell rest key number h e g = absurd cc
comes_first one (other ∷ cells) at cell rest key number h e g =
    let p = and_parts (key_lt one other) (rises_behind key_lt other cells) h in
    elim (cases_Bool (eqb other.at at)) [
      | inl t ↦
          let both : other ∷ cells ≡ cell ∷ rest = sym (ap (λ (t : Bool). cond t (other ∷ cells) (cells_at at cells)) t) ∙ e in
          let same : cell ≡ other = cc in
          chains one.key other.key key number p.0 (subst (λ (c : Cell). is_key_before key number c.key ≡ true) same g)
      | inr f ↦
          let later : cells_at at cells ≡ cell ∷ rest = sym (ap (λ (t : Bool). cond t (other ∷ cells) (cells_at at cells)) f) ∙ e in
          chains one.key other.key key number p.0 (comes_first other cells at cell rest key number p.1 later g)
    ]

pub skips : (cells : List Cell) (at : ℕ) (cell : Cell) (rest : List Cell) (key : List ℕ) (number : ℕ) → rises key_lt cells ≡ true → cells_at at cells ≡ cell ∷ rest → is_key_before key number cell.key ≡ true
    → cells_from_place key number cells ≡ cells_from_place key number (cells_at at cells)
skips [] at cell rest key number h e g = refl
skips (one ∷ cells) at cell rest key number h e g =
    elim (cases_Bool (eqb one.at at)) [
      | inl t ↦ ap (cells_from_place key number) (sym (ap (λ (t : Bool). cond t (one ∷ cells) (cells_at at cells)) t))
      | inr f ↦
          let later : cells_at at cells ≡ cell ∷ rest = sym (ap (λ (t : Bool). cond t (one ∷ cells) (cells_at at cells)) f) ∙ e in
          ap (λ (t : Bool). cond t (cells_from_place key number cells) (one ∷ cells)) (comes_first one cells at cell rest key number h later g)
          ∙ skips cells at cell rest key number (rest_rises one cells h) later g
          ∙ ap (cells_from_place key number) (sym (ap (λ (t : Bool). cond t (one ∷ cells) (cells_at at cells)) f))
    ]

-- ---- the walk

module _ (kind : BlockKind) (text : List ℕ) (layout : Layout) (lies : IsLayout kind text layout (cells_in kind (take layout.end text))) (key : List ℕ) (number : ℕ) where
  abbrev pub block : BlockContents
  block = block_contents_in kind text layout

  pub begins : (at : ℕ) (scratch : List ℕ) → IsStart kind text layout key number at → IsReadableAt block at scratch
  begins at scratch start =
      let lie = entries_laid kind (take layout.end text) block.cells lies.area in
      let r = restart_at block.cells at (laid_rising (take layout.end text) [] 0 block.cells lie) start.restart in
      record {
        offset = ap (offset_of layout.end) r.1.1 ∙ r.1.3;
        primes = subst (Primes scratch) (sym r.1.1) (omega (arith, r.1.2), ap (λ (k : ℕ). take k scratch) r.1.2 ∙ ap (λ (k : ℕ). take k r.0.key) (sym r.1.2));
      }

  pub skipped : (at : ℕ) → internal_keys_rise block.cells ≡ true → IsStart kind text layout key number at → cells_from_place key number block.cells ≡ cells_from_place key number (cells_at at block.cells)
  skipped at order start =
      let lie = entries_laid kind (take layout.end text) block.cells lies.area in
      elim start.before [
        | inl zero' ↦ ap (cells_from_place key number) (sym (subst (λ (k : ℕ). cells_at k block.cells ≡ block.cells) (sym zero') (at_start (take layout.end text) [] 0 block.cells lie).0))
        | inr first ↦
            let r = restart_at block.cells at (laid_rising (take layout.end text) [] 0 block.cells lie) start.restart in
            skips block.cells at r.0 r.1.0 key number order r.1.1 (first r.0 r.1.0 r.1.1)
      ]

  pub walks : (at next : ℕ) (scratch value : List ℕ) (cell : Cell) → TakesCell block at scratch value next cell → is_key_before key number scratch ≡ true
      → cells_from_place key number block.cells ≡ cells_from_place key number (cells_at at block.cells) → cells_from_place key number block.cells ≡ cells_from_place key number (cells_at next block.cells)
  walks at next scratch value cell takes before so_far =
      so_far ∙ ap (cells_from_place key number) takes.first
      ∙ ap (λ (t : Bool). cond t (cells_from_place key number (cells_at next block.cells)) (cell ∷ cells_at next block.cells)) (ap (is_key_before key number) takes.key_is ∙ before)

  pub stops : (at next : ℕ) (old scratch value : List ℕ) (cell : Cell) → IsReadableAt block at old → TakesCell block at scratch value next cell → is_key_before key number scratch ≡ false
      → cells_from_place key number block.cells ≡ cells_from_place key number (cells_at at block.cells) → (at ≡ lower_offset block key number) × IsReadableAt block at scratch
  stops at next old scratch value cell stands takes before so_far =
      let from : cells_from_place key number block.cells ≡ cell ∷ cells_at next block.cells =
      so_far ∙ ap (cells_from_place key number) takes.first
      ∙ ap (λ (t : Bool). cond t (cells_from_place key number (cells_at next block.cells)) (cell ∷ cells_at next block.cells)) (ap (is_key_before key number) takes.key_is ∙ before) in
      let place : cell.at ≡ at = sym (ap (offset_of layout.end) takes.first) ∙ stands.offset in (
        sym (ap (offset_of layout.end) from ∙ place),
        record {
          offset = stands.offset;
          primes = subst (Primes scratch) (sym takes.first) (subst (λ (k : List ℕ). (cell.shared ≤ length k) × (take cell.shared k ≡ take cell.shared cell.key)) takes.key_is (takes.shared, refl));
        },
      )

  pub stays : (at next : ℕ) (scratch value : List ℕ) (cell : Cell) → TakesCell block at scratch value next cell → is_key_before key number scratch ≡ false
      → cells_from_place key number block.cells ≡ cells_from_place key number (cells_at at block.cells) → length (cells_at at block.cells) ≡ length (cells_from_place key number block.cells)
  stays at next scratch value cell takes before so_far =
      ap length (takes.first
      ∙ sym (so_far ∙ ap (cells_from_place key number) takes.first
      ∙ ap (λ (t : Bool). cond t (cells_from_place key number (cells_at next block.cells)) (cell ∷ cells_at next block.cells)) (ap (is_key_before key number) takes.key_is ∙ before)))

  pub ends : (at : ℕ) (old : List ℕ) → IsReadableAt block at old → cells_at at block.cells ≡ [] → cells_from_place key number block.cells ≡ cells_from_place key number (cells_at at block.cells) → at ≡ lower_offset block key number
  ends at old stands none so_far =
      sym (ap (offset_of layout.end) (so_far ∙ ap (cells_from_place key number) none) ∙ sym (ap (offset_of layout.end) none) ∙ stands.offset)

  pub empty : (scratch : List ℕ) → layout.entries ≡ 0 → (layout.end ≡ lower_offset block key number) × IsReadableAt block layout.end scratch
  empty scratch none =
      let nil : block.cells ≡ [] = nil_from_length block.cells (lies.count ∙ none) in (
        sym (ap (λ (l : List Cell). offset_of layout.end (cells_from_place key number l)) nil),
        record {
          offset = ap (λ (l : List Cell). offset_of layout.end (cells_at layout.end l)) nil;
          primes = subst (λ (l : List Cell). Primes scratch (cells_at layout.end l)) (sym nil) tt;
        },
      )

-- a reader may begin with the first entry
pub from_start : (kind : BlockKind) (text : List ℕ) (layout : Layout) → IsLayout kind text layout (cells_in kind (take layout.end text))
    → (cells_at 0 (cells_in kind (take layout.end text)) ≡ cells_in kind (take layout.end text)) × ((key : List ℕ) → IsReadableAt (block_contents_in kind text layout) 0 key)
from_start kind text layout lies =
    let cells = cells_in kind (take layout.end text) in
    let lie = entries_laid kind (take layout.end text) cells lies.area in
    let s = at_start (take layout.end text) [] 0 cells lie in
    let end : length (take layout.end text) ≡ layout.end = omega (arith, length-take layout.end text, lies.room) in (
      s.0,
      λ key. record {
        offset = ap (offset_of layout.end) s.0 ∙ subst (λ (k : ℕ). offset_of k cells ≡ 0) end s.1;
        primes = subst (Primes key) (sym s.0) (bare key cells (primes_of (take layout.end text) [] 0 cells lie));
      },
    )
  where
    bare : (key : List ℕ) (l : List Cell) → Primes [] l → Primes key l
    bare key [] p = tt
    bare key (cell ∷ l) p =
        let none : cell.shared ≡ 0 = omega (arith, p.0) in
        (omega arith, ap (λ (k : ℕ). take k key) none ∙ ap (λ (k : ℕ). take k cell.key) (sym none))
