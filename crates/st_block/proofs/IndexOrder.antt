-- The keys of an index block rise.
use Rattle.std.proofs.Common.{◌≡◌, ◌≢◌, ℕ, zero, suc, Bool, true, false, cond, eqb, ◌||◌, List, [], ◌∷◌, length, take, Option, Some, None, Result, Ok, Err, refl, sym, ap, subst, ◌∙◌, inl, inr, arith}
use Rattle.std.specs.List.{list_all}
use Rattle.std.proofs.lemmas.Bool.{cases_Bool, and_from, ne_eqb}
use Rattle.st_base.specs.Order.{rises_behind}
use Rattle.st_base.specs.declared.faults.BlockFault.{BlockFault}
use Rattle.st_base.specs.declared.faults.BlockFault.TheVariants.{Entry, Order, Restarts}
use Rattle.st_block.specs.Block.{Cell, Tail, block_of, cells_from, entries_before, entries_of, fitted, found_then, is_after, is_long_enough, is_restart, next_cell, tail_of, tested, cell_at}
use Rattle.st_block.specs.BlockContents.{internal_keys_rise}
use Rattle.st_block.specs.declared.kind.BlockKind.TheVariants.{Index}
use Rattle.st_block.proofs.Laid.{found_ok, next_behind, tested_some}
use Rattle.st_block.proofs.Searching.{key_lt}

abbrev Cells : Type 0
Cells = Result (List Cell) BlockFault

after_of : (before : List ℕ) (at : ℕ) (o : Option (Cell × ℕ)) (found : Cell × ℕ) → at ≢ 0 → tested Index before at o ≡ Ok found → is_after Index before found.0.key ≡ true
after_of before at None found n e = absurd cc
after_of before at (Some other) found n e =
    let same : other ≡ found = some_same other found (tested_some Index before at (Some other) found e) in
    subst (λ (f : Cell × ℕ). is_after Index before f.0.key ≡ true) same (both (is_long_enough Index other.0.key) (is_after Index before other.0.key) (sym (ap (λ (t : Bool). cond (is_long_enough Index other.0.key) (cond (t || is_after Index before other.0.key) (Ok other) (Err (Order at))) (Err (Entry at))) (ne_eqb at 0 n)) ∙ e))
  where
    some_same : (x y : Cell × ℕ) → Some x ≡ Some y → x ≡ y
    some_same x y e = cc

    both : (s t : Bool) → cond s (cond t (Ok other) (Err (Order at))) (Err (Entry at)) ≡ Ok found → t ≡ true
    both true true e = refl
    both true false e = absurd cc
    both false t e = absurd cc

-- behind an entry
rises_from : (most : ℕ) (area before : List ℕ) (at : ℕ) (cells : List Cell) (one : Cell) → one.key ≡ before → at ≢ 0 → cells_from most Index area before at ≡ Ok cells → rises_behind key_lt one cells ≡ true
unfolding cells_from
rises_from zero area before at cells one same n e =
    subst (λ (l : List Cell). rises_behind key_lt one l ≡ true) (nil_is cells e) refl
  where
    nil_is : (l : List Cell) → (let read : Cells = Ok [] in read) ≡ Ok l → [] ≡ l
    nil_is l e = cc
rises_from (suc most) area before at cells one same n e =
    elim (cases_Bool (eqb at (length area))) [
      | inl t ↦
          subst (λ (l : List Cell). rises_behind key_lt one l ≡ true) (nil_is cells (sym (ap (λ (t : Bool). cond t (Ok []) (found_then (next_cell Index area before at) (λ found. cells_from most Index area found.0.key found.1))) t) ∙ e)) refl
      | inr f ↦
          let r = found_ok (next_cell Index area before at) (λ found. cells_from most Index area found.0.key found.1) cells (sym (ap (λ (t : Bool). cond t (Ok []) (found_then (next_cell Index area before at) (λ found. cells_from most Index area found.0.key found.1))) f) ∙ e) in
          let there = tested_some Index before at (cell_at area before at) r.0 r.1 in
          let p = next_behind area before at r.0 there in
          let up : is_after Index one.key r.0.0.key ≡ true = subst (λ (k : List ℕ). is_after Index k r.0.0.key ≡ true) (sym same) (after_of before at (cell_at area before at) r.0 n r.1) in
          subst (λ (l : List Cell). rises_behind key_lt one l ≡ true) r.2.2
          (and_from (key_lt one r.0.0) (rises_behind key_lt r.0.0 r.2.0) up (rises_from most area r.0.0.key r.0.1 r.2.0 r.0.0 refl (λ z. omega (arith, p.0)) r.2.1))
    ]
  where
    nil_is : (l : List Cell) → (let read : Cells = Ok [] in read) ≡ Ok l → [] ≡ l
    nil_is l e = cc

all_rise : (most : ℕ) (area : List ℕ) (cells : List Cell) → cells_from most Index area [] 0 ≡ Ok cells → internal_keys_rise cells ≡ true
unfolding cells_from
all_rise zero area cells e = subst (λ (l : List Cell). internal_keys_rise l ≡ true) (nil_is cells e) refl
  where
    nil_is : (l : List Cell) → (let read : Cells = Ok [] in read) ≡ Ok l → [] ≡ l
    nil_is l e = cc
all_rise (suc most) area cells e =
    elim (cases_Bool (eqb 0 (length area))) [
      | inl t ↦
          subst (λ (l : List Cell). internal_keys_rise l ≡ true) (nil_is cells (sym (ap (λ (t : Bool). cond t (Ok []) (found_then (next_cell Index area [] 0) (λ found. cells_from most Index area found.0.key found.1))) t) ∙ e)) refl
      | inr f ↦
          let r = found_ok (next_cell Index area [] 0) (λ found. cells_from most Index area found.0.key found.1) cells (sym (ap (λ (t : Bool). cond t (Ok []) (found_then (next_cell Index area [] 0) (λ found. cells_from most Index area found.0.key found.1))) f) ∙ e) in
          let there = tested_some Index [] 0 (cell_at area [] 0) r.0 r.1 in
          let p = next_behind area [] 0 r.0 there in
          subst (λ (l : List Cell). internal_keys_rise l ≡ true) r.2.2 (rises_from most area r.0.0.key r.0.1 r.2.0 r.0.0 refl (λ z. omega (arith, p.0)) r.2.1)
    ]
  where
    nil_is : (l : List Cell) → (let read : Cells = Ok [] in read) ≡ Ok l → [] ≡ l
    nil_is l e = cc

-- what a block has is what its entries are
fitted_ok : (restarts : List ℕ) (r : Cells) (cells : List Cell) → fitted Index restarts r ≡ Ok cells → r ≡ Ok cells
fitted_ok restarts (Err fault) cells e = absurd cc
fitted_ok restarts (Ok []) cells e = either (eqb (length restarts) 1) e
  where
    either : (t : Bool) → (let read : Cells = cond t (Ok []) (Err Restarts) in read) ≡ Ok cells → (let read : Cells = Ok [] in read) ≡ Ok cells
    either true e = e
    either false e = absurd cc
fitted_ok restarts (Ok (cell ∷ rest)) cells e = either (list_all (is_restart (cell ∷ rest)) restarts) e
  where
    either : (t : Bool) → (let read : Cells = cond t (Ok (cell ∷ rest)) (Err Restarts) in read) ≡ Ok cells → (let read : Cells = Ok (cell ∷ rest) in read) ≡ Ok cells
    either true e = e
    either false e = absurd cc

pub index_rises : (text : List ℕ) (cells : List Cell) → block_of Index text ≡ Ok cells → internal_keys_rise cells ≡ true
index_rises text cells e = by_tail (tail_of text) e
  where
    by_tail : (o : Option Tail) → entries_before Index text o ≡ Ok cells → internal_keys_rise cells ≡ true
    by_tail None e = absurd cc
    by_tail (Some tail) e = all_rise (length (take tail.end text)) (take tail.end text) cells (fitted_ok tail.restarts (entries_of Index (take tail.end text)) cells e)
