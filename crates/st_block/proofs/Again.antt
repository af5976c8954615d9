-- What was written is read again.
use Rattle.std.proofs.Common.{◌≡◌, ℕ, zero, suc, ◌+◌, ◌-◌, ◌%◌, ◌^◌, ◌<◌, ◌≤◌, Bool, true, false, cond, eqb, ◌||◌, List, [], ◌∷◌, ◌++◌, length, take, drop, Some, Result, Ok, Err, refl, sym, ap, ◌∙◌, append_assoc, arith}
use Rattle.std.specs.Prelude.{nat_eq, option_and_then, slice_range}
use Rattle.std.specs.Result.{result_ok}
use Rattle.std.specs.List.{common_prefix_len}
use Rattle.std.proofs.lemmas.Bool.{and_from, le-leb, or_right}
use Rattle.std.proofs.lemmas.List.{drop-drop, drop_at, length-append, length-drop, take_at}
use Rattle.std.proofs.lemmas.List.Sums.{common_prefix_len-le}
use Rattle.st_base.specs.declared.faults.BlockFault.{BlockFault}
use Rattle.st_base.specs.declared.faults.BlockFault.TheVariants.{Entry, Order}
use Rattle.st_code.specs.declared.fault.CodeFault.{CodeFault}
use Rattle.st_code.specs.Varint.{if_below, placed, spelled, varint, varint32_at}
use Rattle.st_block.specs.Block.{Cell, Head, cell_at, cells_from, entries_of, fits, found_then, head_at, is_after, next_cell, tested, with_cell}
use Rattle.st_block.specs.Written.{FitsBlock, GoOn, MayWrite, cells_of, entries_bytes, entry_bytes, shared_of}
use Rattle.st_block.specs.declared.kind.BlockKind.{BlockKind}
use Rattle.st_block.proofs.Cells.{fitting_is}
use Rattle.st_block.proofs.Tested.{cells_more, cells_end}
use Rattle.st_block.proofs.Writers.{entry_some, front_kept}

abbrev Number : Type 0
Number = Result (ℕ × ℕ) CodeFault

-- what stands behind a front
step : (area x rest : List ℕ) (at n : ℕ) → drop at area ≡ x ++ rest → length x ≡ n → drop (at + n) area ≡ rest
step area x rest at n e len = sym (drop-drop n at area) ∙ ap (λ (l : List ℕ). drop n l) e ∙ drop_at x rest n len

at_front : (area x rest : List ℕ) (at n : ℕ) → drop at area ≡ x ++ rest → length x ≡ n → take n (drop at area) ≡ x
at_front area x rest at n e len = ap (λ (l : List ℕ). take n l) e ∙ take_at x rest n len

placed_on : (r : Number) (at n count : ℕ) → placed 0 r ≡ Ok (n, 0 + count) → placed at r ≡ Ok (n, at + count)
placed_on (Err fault) at n count e = absurd cc
placed_on (Ok found) at n count e =
    let same : (found.0, 0 + found.1) ≡ (n, 0 + count) = pair_of (found.0, 0 + found.1) (n, 0 + count) e in
    let number : found.0 ≡ n = ap (λ (p : ℕ × ℕ). p.0) same in
    let many : 0 + found.1 ≡ 0 + count = ap (λ (p : ℕ × ℕ). p.1) same in
    ap (λ (k : ℕ). Ok (k, at + found.1)) number ∙ ap (λ (k : ℕ). Ok (n, at + k)) (let k : found.1 ≡ count = omega arith in k)
  where
    pair_of : (p q : ℕ × ℕ) → (let read : Number = Ok p in read) ≡ Ok q → p ≡ q
    pair_of p q e = cc

module _ (again : (front rest : List ℕ) (n : ℕ) → n < 2 ^ 32 → varint32_at (front ++ varint n ++ rest) (length front) ≡ Ok (n, length front + length (varint n))) where
  number_at : (area rest : List ℕ) (at n : ℕ) → n < 2 ^ 32 → drop at area ≡ varint n ++ rest → varint32_at area at ≡ Ok (n, at + length (varint n))
  number_at area rest at n lt e =
      ap (λ (l : List ℕ). placed at (if_below (2 ^ 32) (spelled 5 l))) e ∙ placed_on (if_below (2 ^ 32) (spelled 5 (varint n ++ rest))) at n (length (varint n)) (again [] rest n lt)

  head_written : (area rest : List ℕ) (at s u v : ℕ) → s < 2 ^ 32 → u < 2 ^ 32 → v < 2 ^ 32 → drop at area ≡ varint s ++ (varint u ++ (varint v ++ rest))
      → head_at area at ≡ Some (record { shared = s; unshared = u; value = v; behind = at + length (varint s) + length (varint u) + length (varint v) })
  unfolding head_at
  head_written area rest at s u v ls lu lv e =
      let p = at + length (varint s) in
      let q = p + length (varint u) in
      let e1 = step area (varint s) (varint u ++ (varint v ++ rest)) at (length (varint s)) e refl in
      let e2 = step area (varint u) (varint v ++ rest) p (length (varint u)) e1 refl in
      let build = λ (a b c : ℕ × ℕ). (let head : Head = record { shared = a.0; unshared = b.0; value = c.0; behind = c.1 } in head) in
      ap (λ (r : Number). option_and_then (λ (a : ℕ × ℕ). option_and_then (λ (b : ℕ × ℕ). option_and_then (λ (c : ℕ × ℕ). Some (build a b c)) (result_ok (varint32_at area b.1))) (result_ok (varint32_at area a.1))) (result_ok r)) (number_at area (varint u ++ (varint v ++ rest)) at s ls e)
      ∙ ap (λ (r : Number). option_and_then (λ (b : ℕ × ℕ). option_and_then (λ (c : ℕ × ℕ). Some (build (s, p) b c)) (result_ok (varint32_at area b.1))) (result_ok r)) (number_at area (varint v ++ rest) p u lu e1)
      ∙ ap (λ (r : Number). option_and_then (λ (c : ℕ × ℕ). Some (build (s, p) (u, q) c)) (result_ok r)) (number_at area rest q v lv e2)

  -- an entry that shares what it may
  cell_written : (area before key value rest : List ℕ) (at shared : ℕ) → shared ≤ length before → shared ≤ length key → take shared before ++ drop shared key ≡ key → length key ≤ 65543 → length value ≤ 1048576 → at ≤ length area
      → drop at area ≡ entry_bytes shared key value ++ rest
      → cell_at area before at ≡ Some (record { at = at; shared = shared; key = key; value = value }, at + length (entry_bytes shared key value))
  cell_written area before key value rest at shared old new front room small in' e =
      let u = length key - shared in
      let v = length value in
      let a = varint shared in
      let b = varint u in
      let c = varint v in
      let k = drop shared key in
      let parts : drop at area ≡ a ++ (b ++ (c ++ (k ++ (value ++ rest)))) = e ∙ regroup a b c k value rest in
      let behind = at + length a + length b + length c in
      let head : Head = record { shared = shared; unshared = u; value = v; behind = behind } in
      let len : length k ≡ u = length-drop shared key in
      let e3 = step area c (k ++ (value ++ rest)) (at + length a + length b) (length c) (step area b (c ++ (k ++ (value ++ rest))) (at + length a) (length b) (step area a (b ++ (c ++ (k ++ (value ++ rest)))) at (length a) parts refl) refl) refl in
      let e4 = step area k (value ++ rest) behind u e3 len in
      let whole : length (entry_bytes shared key value) ≡ length a + length b + length c + u + v = omega (arith, length-append a b, length-append (a ++ b) c, length-append (a ++ b ++ c) k, length-append (a ++ b ++ c ++ k) value, len) in
      let long : behind + u + v ≤ length area = omega (arith, whole, ap (λ (l : List ℕ). length l) e, length-append (entry_bytes shared key value) rest, length-drop at area) in
      let fit : fits area before head ≡ true = and_from _ _ (le-leb _ _ old) (and_from _ _ (le-leb (shared + u) 65543 (omega arith)) (le-leb (behind + u + v) (length area) long)) in
      let mine : take shared before ++ slice_range area behind (behind + u) ≡ key = ap (λ (l : List ℕ). take shared before ++ l) (ap (λ (n : ℕ). take n (drop behind area)) (let n : behind + u - behind ≡ u = omega arith in n) ∙ at_front area k (value ++ rest) behind u e3 len) ∙ front in
      let held : slice_range area (behind + u) (behind + u + v) ≡ value = ap (λ (n : ℕ). take n (drop (behind + u) area)) (let n : behind + u + v - (behind + u) ≡ v = omega arith in n) ∙ at_front area value rest (behind + u) v e4 refl in
      fitting_is area before at head (sym (head_written area (k ++ (value ++ rest)) at shared u v (omega arith) (omega arith) (omega arith) parts)) fit
      ∙ ap (λ (l : List ℕ). Some (record { at = at; shared = shared; key = l; value = slice_range area (behind + u) (behind + u + v) }, behind + u + v)) mine
      ∙ ap (λ (l : List ℕ). Some (record { at = at; shared = shared; key = key; value = l }, behind + u + v)) held
      ∙ ap (λ (n : ℕ). Some (record { at = at; shared = shared; key = key; value = value }, n)) (let n : behind + u + v ≡ at + length (entry_bytes shared key value) = omega (arith, whole) in n)
    where
      regroup : (a b c k w r : List ℕ) → a ++ b ++ c ++ k ++ w ++ r ≡ a ++ (b ++ (c ++ (k ++ (w ++ r))))
      regroup a b c k w r = simp append_assoc

  -- what an entry shares
  shared_fits : (interval count : ℕ) (before key : List ℕ) → (shared_of interval count before key ≤ length before) × (shared_of interval count before key ≤ length key) × (take (shared_of interval count before key) before ++ drop (shared_of interval count before key) key ≡ key)
  shared_fits interval count before key = either (eqb (count % interval) 0)
    where
      either : (t : Bool) → (cond t 0 (common_prefix_len nat_eq before key) ≤ length before) × (cond t 0 (common_prefix_len nat_eq before key) ≤ length key) × (take (cond t 0 (common_prefix_len nat_eq before key)) before ++ drop (cond t 0 (common_prefix_len nat_eq before key)) key ≡ key)
      either true = (omega arith, omega arith, refl)
      either false = let p = common_prefix_len-le nat_eq before key in (p.0, p.1, front_kept before key)

  next_written : (kind : BlockKind) (area before rest : List ℕ) (pair : List ℕ × List ℕ) (interval count at : ℕ) → FitsBlock kind pair → ((eqb at 0 || is_after kind before pair.0) ≡ true) → at ≤ length area
      → drop at area ≡ entry_bytes (shared_of interval count before pair.0) pair.0 pair.1 ++ rest
      → next_cell kind area before at ≡ Ok (record { at = at; shared = shared_of interval count before pair.0; key = pair.0; value = pair.1 }, at + length (entry_bytes (shared_of interval count before pair.0) pair.0 pair.1))
  next_written kind area before rest pair interval count at fit order in' e =
      let s = shared_of interval count before pair.0 in
      let p = shared_fits interval count before pair.0 in
      let found : Cell × ℕ = (record { at = at; shared = s; key = pair.0; value = pair.1 }, at + length (entry_bytes s pair.0 pair.1)) in
      ap (tested kind before at) (cell_written area before pair.0 pair.1 rest at s p.0 p.1 p.2 fit.key fit.value in' e)
      ∙ ap (λ (t : Bool). cond t (cond (eqb at 0 || is_after kind before pair.0) (Ok found) (Err (Order at))) (Err (Entry at))) fit.long
      ∙ ap (λ (t : Bool). cond t (Ok found) (Err (Order at))) order

  -- all entries from a place on
  cells_written : (most : ℕ) (kind : BlockKind) (area before : List ℕ) (pairs : List (List ℕ × List ℕ)) (interval count at : ℕ) → GoOn kind before pairs → at ≤ length area → length area - at ≤ most
      → drop at area ≡ entries_bytes interval count before pairs → cells_from most kind area before at ≡ Ok (cells_of interval count at before pairs)
  cells_written most kind area before [] interval count at go in' fuel e =
      cells_end most kind area before at (omega (arith, in', length-drop at area, ap (λ (l : List ℕ). length l) e))
  cells_written zero kind area before (pair ∷ pairs) interval count at go in' fuel e =
      absurd (omega (arith, in', fuel, length-drop at area, ap (λ (l : List ℕ). length l) e, entry_some (shared_of interval count before pair.0) pair.0 pair.1, length-append (entry_bytes (shared_of interval count before pair.0) pair.0 pair.1) (entries_bytes interval (count + 1) pair.0 pairs)))
  cells_written (suc most) kind area before (pair ∷ pairs) interval count at go in' fuel e =
      let rest = entries_bytes interval (count + 1) pair.0 pairs in
      let s = shared_of interval count before pair.0 in
      let entry = entry_bytes s pair.0 pair.1 in
      let size : length area - at ≡ length entry + length rest = omega (arith, length-drop at area, ap (λ (l : List ℕ). length l) e, length-append entry rest) in
      let some = entry_some s pair.0 pair.1 in
      let next = at + length entry in
      cells_more most kind area before at (omega (arith, size, some))
      ∙ ap (λ (r : Result (Cell × ℕ) BlockFault). found_then r (λ found. cells_from most kind area found.0.key found.1)) (next_written kind area before rest pair interval count at go.1 (or_right (eqb at 0) (is_after kind before pair.0) go.0) in' e)
      ∙ ap (λ (r : Result (List Cell) BlockFault). with_cell (record { at = at; shared = s; key = pair.0; value = pair.1 }) r)
      (cells_written most kind area pair.0 pairs interval (count + 1) next go.2 (omega (arith, size)) (omega (arith, size, some, fuel)) (step area entry rest at (length entry) e refl))

  pub entries_written : (kind : BlockKind) (pairs : List (List ℕ × List ℕ)) (interval : ℕ) → MayWrite kind pairs → entries_of kind (entries_bytes interval 0 [] pairs) ≡ Ok (cells_of interval 0 0 [] pairs)
  entries_written kind [] interval may = absurd may
  entries_written kind (pair ∷ pairs) interval may =
      let area = entries_bytes interval 0 [] (pair ∷ pairs) in
      let rest = entries_bytes interval (0 + 1) pair.0 pairs in
      let s = shared_of interval 0 [] pair.0 in
      let entry = entry_bytes s pair.0 pair.1 in
      let some = entry_some s pair.0 pair.1 in
      let size : length area ≡ length entry + length rest = length-append entry rest in
      let fuel : length area ≡ suc (length area - 1) = omega (arith, size, some) in
      ap (λ (k : ℕ). cells_from k kind area [] 0) fuel
      ∙ cells_more (length area - 1) kind area [] 0 (omega (arith, size, some))
      ∙ ap (λ (r : Result (Cell × ℕ) BlockFault). found_then r (λ found. cells_from (length area - 1) kind area found.0.key found.1)) (next_written kind area [] rest pair interval 0 0 may.0 refl (omega arith) refl)
      ∙ ap (λ (r : Result (List Cell) BlockFault). with_cell (record { at = 0; shared = s; key = pair.0; value = pair.1 }) r)
      (cells_written (length area - 1) kind area pair.0 pairs interval (0 + 1) (0 + length entry) may.1 (omega (arith, size)) (omega (arith, size, some)) (step area entry rest 0 (length entry) refl refl))
