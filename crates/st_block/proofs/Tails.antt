-- The tail that was written is read again, and so is the whole block.
use Rattle.std.proofs.Common.{◌≡◌, ℕ, ◌+◌, ◌-◌, ◌*◌, ◌%◌, ◌^◌, ◌<◌, ◌≤◌, Bool, true, false, cond, eqb, ltb, ◌&&◌, List, [], ◌∷◌, ◌++◌, length, take, drop, map, Some, None, Ok, Err, refl, sym, ap, subst, ◌∙◌, append_assoc, inl, inr, arith}
use Rattle.std.specs.Prelude.{nat_eq}
use Rattle.std.specs.Int.{w32, from_le_bytes}
use Rattle.std.specs.List.{common_prefix_len, flat_map, list_all}
use Rattle.std.proofs.lemmas.Bool.{cases_Bool, and_from, le-ltb, lt-ltb, eq-eqb, or_left}
use Rattle.std.proofs.lemmas.List.{drop-drop, drop_at, length-append, take_at}
use Rattle.std.proofs.lemmas.Nat.{from_le_bytes-to_le_bytes_4}
use Rattle.st_base.specs.Order.{rises_behind}
use Rattle.st_base.specs.declared.faults.BlockFault.TheVariants.{Restarts}
use Rattle.st_code.specs.Fixed.{fixed32}
use Rattle.st_code.specs.Varint.{varint, varint32_at}
use Rattle.st_block.specs.Block.{Cell, Tail, are_restarts, block_of, counted_tail, entries_before, entries_of, fitted, is_restart, offsets_at, tail_of}
use Rattle.st_block.specs.Written.{MayWrite, cells_of, entries_bytes, entry_bytes, or_zero, restarts_of, shared_of, with_tail, written_block}
use Rattle.st_block.specs.declared.kind.BlockKind.{BlockKind}
use Rattle.st_block.proofs.Again.{entries_written}
use Rattle.st_block.proofs.Meeting.{more_there}
use Rattle.st_block.proofs.Writers.{entry_some}

-- ---- offsets

abbrev AllBelow : ℕ → List ℕ → Type 0
AllBelow limit [] = Unit {0}
AllBelow limit (r ∷ rs) = (r < limit) × AllBelow limit rs

fixed_front : (n : ℕ) (rest : List ℕ) → n < 2 ^ 32 → from_le_bytes w32 (fixed32 n ++ rest) ≡ n
fixed_front n rest lt = from_le_bytes-to_le_bytes_4 n lt

length_fixed : (rs : List ℕ) → length (flat_map fixed32 rs) ≡ 4 * length rs
length_fixed [] = refl
length_fixed (r ∷ rs) = let inner = length_fixed rs in omega (arith, inner, length-append (fixed32 r) (flat_map fixed32 rs))

offsets_written : (bytes : List ℕ) (at : ℕ) (rs rest : List ℕ) → AllBelow (2 ^ 32) rs → drop at bytes ≡ flat_map fixed32 rs ++ rest → offsets_at bytes at (length rs) ≡ rs
offsets_written bytes at [] rest small e = refl
offsets_written bytes at (r ∷ rs) rest small e =
    let more = flat_map fixed32 rs ++ rest in
    let here : drop at bytes ≡ fixed32 r ++ more = e ∙ append_assoc (fixed32 r) (flat_map fixed32 rs) rest in
    let behind : drop (at + 4) bytes ≡ more = sym (drop-drop 4 at bytes) ∙ ap (λ (l : List ℕ). drop 4 l) here ∙ drop_at (fixed32 r) more 4 refl in
    ap (λ (l : List ℕ). from_le_bytes w32 l ∷ offsets_at bytes (at + 4) (length rs)) here
    ∙ ap (λ (k : ℕ). k ∷ offsets_at bytes (at + 4) (length rs)) (fixed_front r more small.0)
    ∙ ap (λ (l : List ℕ). r ∷ l) (offsets_written bytes (at + 4) rs rest small.1 behind)

-- ---- the tail

tail_written : (entries rs : List ℕ) → are_restarts rs ≡ true → AllBelow (2 ^ 32) rs → length rs < 2 ^ 32 → tail_of (with_tail entries rs) ≡ Some (record { end = length entries; restarts = rs })
unfolding tail_of
tail_written entries rs good small few =
    let n = length rs in
    let offsets = flat_map fixed32 rs in
    let bytes = with_tail entries rs in
    let front = entries ++ offsets in
    let lo = length_fixed rs in
    let lf : length front ≡ length entries + 4 * n = omega (arith, length-append entries offsets, lo) in
    let lb : length bytes ≡ length entries + 4 * n + 4 = omega (arith, length-append front (fixed32 n), lf) in
    let last : drop (length bytes - 4) bytes ≡ fixed32 n = ap (λ (k : ℕ). drop k bytes) (let k : length bytes - 4 ≡ length front = omega (arith, lb, lf) in k) ∙ drop_at front (fixed32 n) (length front) refl in
    let count : from_le_bytes w32 (drop (length bytes - 4) bytes) ≡ n = ap (λ (l : List ℕ). from_le_bytes w32 l) last ∙ from_le_bytes-to_le_bytes_4 n few in
    let end : length bytes - (4 * n + 4) ≡ length entries = omega (arith, lb) in
    let there : drop (length entries) bytes ≡ offsets ++ fixed32 n = ap (λ (l : List ℕ). drop (length entries) l) (append_assoc entries offsets (fixed32 n)) ∙ drop_at entries (offsets ++ fixed32 n) (length entries) refl in
    let are : offsets_at bytes (length entries) n ≡ rs = offsets_written bytes (length entries) rs (fixed32 n) small there in
    ap (λ (t : Bool). cond t None (counted_tail bytes (from_le_bytes w32 (drop (length bytes - 4) bytes)))) (le-ltb (length bytes) 4 (omega (arith, lb)))
    ∙ ap (counted_tail bytes) count
    ∙ ap (λ (t : Bool). cond t None (cond (are_restarts (offsets_at bytes (length bytes - (4 * n + 4)) n)) (Some (record { end = length bytes - (4 * n + 4); restarts = offsets_at bytes (length bytes - (4 * n + 4)) n })) None)) (le-ltb (length bytes) (4 * n + 4) (omega (arith, lb)))
    ∙ ap (λ (a : ℕ). cond (are_restarts (offsets_at bytes a n)) (Some (record { end = a; restarts = offsets_at bytes a n })) None) end
    ∙ ap (λ (l : List ℕ). cond (are_restarts l) (Some (record { end = length entries; restarts = l })) None) are
    ∙ ap (λ (t : Bool). cond t (Some (record { end = length entries; restarts = rs })) None) good

-- ---- restarts of what was written

restarts_rise : (interval count at low : ℕ) (before : List ℕ) (pairs : List (List ℕ × List ℕ)) → low < at → rises_behind ltb low (restarts_of interval count at before pairs) ≡ true
restarts_rise interval count at low before [] lt = refl
restarts_rise interval count at low before (pair ∷ pairs) lt =
    let s = shared_of interval count before pair.0 in
    let next = at + length (entry_bytes s pair.0 pair.1) in
    let some = entry_some s pair.0 pair.1 in
    either (eqb (count % interval) 0) (restarts_of interval (count + 1) next pair.0 pairs) (restarts_rise interval (count + 1) next at pair.0 pairs (omega (arith, some))) (restarts_rise interval (count + 1) next low pair.0 pairs (omega (arith, some)))
  where
    either : (t : Bool) (rest : List ℕ) → rises_behind ltb at rest ≡ true → rises_behind ltb low rest ≡ true → rises_behind ltb low (cond t (at ∷ []) [] ++ rest) ≡ true
    either true rest p q = and_from (ltb low at) (rises_behind ltb at rest) (lt-ltb low at lt) p
    either false rest p q = q

restarts_below : (interval count at limit : ℕ) (before : List ℕ) (pairs : List (List ℕ × List ℕ)) → at + length (entries_bytes interval count before pairs) ≤ limit → AllBelow limit (restarts_of interval count at before pairs)
restarts_below interval count at limit before [] le = tt
restarts_below interval count at limit before (pair ∷ pairs) le =
    let s = shared_of interval count before pair.0 in
    let entry = entry_bytes s pair.0 pair.1 in
    let rest = entries_bytes interval (count + 1) pair.0 pairs in
    let size = length-append entry rest in
    either (eqb (count % interval) 0) (restarts_of interval (count + 1) (at + length entry) pair.0 pairs) (restarts_below interval (count + 1) (at + length entry) limit pair.0 pairs (omega (arith, size, le))) (omega (arith, size, le, entry_some s pair.0 pair.1))
  where
    either : (t : Bool) (rest : List ℕ) → AllBelow limit rest → at < limit → AllBelow limit (cond t (at ∷ []) [] ++ rest)
    either true rest p lt = (lt, p)
    either false rest p lt = p

restarts_there : (interval count at : ℕ) (before : List ℕ) (pairs : List (List ℕ × List ℕ)) → list_all (is_restart (cells_of interval count at before pairs)) (restarts_of interval count at before pairs) ≡ true
restarts_there interval count at before [] = refl
restarts_there interval count at before (pair ∷ pairs) =
    let s = shared_of interval count before pair.0 in
    let next = at + length (entry_bytes s pair.0 pair.1) in
    let cells = cells_of interval (count + 1) next pair.0 pairs in
    let cell : Cell = record { at = at; shared = s; key = pair.0; value = pair.1 } in
    let later = more_there cell cells (restarts_of interval (count + 1) next pair.0 pairs) (restarts_there interval (count + 1) next pair.0 pairs) in
    elim (cases_Bool (eqb (count % interval) 0)) [
      | inl t ↦
          let none : s ≡ 0 = ap (λ (b : Bool). cond b 0 (common_prefix_len nat_eq before pair.0)) t in
          let here : is_restart (cell ∷ cells) at ≡ true = or_left (eqb at at && eqb s 0) (is_restart cells at) (and_from (eqb at at) (eqb s 0) (eq-eqb at at refl) (eq-eqb s 0 none)) in
          ap (λ (b : Bool). list_all (is_restart (cell ∷ cells)) (cond b (at ∷ []) [] ++ restarts_of interval (count + 1) next pair.0 pairs)) t ∙ and_from _ _ here later
      | inr f ↦ ap (λ (b : Bool). list_all (is_restart (cell ∷ cells)) (cond b (at ∷ []) [] ++ restarts_of interval (count + 1) next pair.0 pairs)) f ∙ later
    ]

pub pairs_again : (interval count at : ℕ) (before : List ℕ) (pairs : List (List ℕ × List ℕ)) → map (λ (cell : Cell). (cell.key, cell.value)) (cells_of interval count at before pairs) ≡ pairs
pairs_again interval count at before [] = refl
pairs_again interval count at before (pair ∷ pairs) =
    ap (λ (l : List (List ℕ × List ℕ)). pair ∷ l) (pairs_again interval (count + 1) (at + length (entry_bytes (shared_of interval count before pair.0) pair.0 pair.1)) pair.0 pairs)

module _ (again : (front rest : List ℕ) (n : ℕ) → n < 2 ^ 32 → varint32_at (front ++ varint n ++ rest) (length front) ≡ Ok (n, length front + length (varint n))) where
  pub block_written : (kind : BlockKind) (interval : ℕ) (pairs : List (List ℕ × List ℕ)) → 0 < interval → MayWrite kind pairs → length (written_block interval pairs) < 2 ^ 32 → block_of kind (written_block interval pairs) ≡ Ok (cells_of interval 0 0 [] pairs)
  block_written kind interval [] some may room = absurd may
  block_written kind interval (pair ∷ pairs) some may room =
      let all = pair ∷ pairs in
      let entries = entries_bytes interval 0 [] all in
      let s = shared_of interval 0 [] pair.0 in
      let next = 0 + length (entry_bytes s pair.0 pair.1) in
      let rest = restarts_of interval (0 + 1) next pair.0 pairs in
      let begins : eqb (0 % interval) 0 ≡ true = eq-eqb (0 % interval) 0 (omega arith) in
      let rs : restarts_of interval 0 0 [] all ≡ 0 ∷ rest = ap (λ (b : Bool). cond b (0 ∷ []) [] ++ rest) begins in
      let bytes : written_block interval all ≡ with_tail entries (0 ∷ rest) = ap (λ (l : List ℕ). with_tail entries (or_zero l)) rs in
      let offsets = flat_map fixed32 (0 ∷ rest) in
      let size : length (with_tail entries (0 ∷ rest)) ≡ length entries + 4 * length (0 ∷ rest) + 4 =
      omega (arith, length-append entries offsets, length-append (entries ++ offsets) (fixed32 (length (0 ∷ rest))), length_fixed (0 ∷ rest)) in
      let fits : length entries + 4 * length (0 ∷ rest) + 4 < 2 ^ 32 = omega (arith, size, ap (λ (l : List ℕ). length l) bytes, room) in
      let good : are_restarts (0 ∷ rest) ≡ true = restarts_rise interval (0 + 1) next 0 pair.0 pairs (omega (arith, entry_some s pair.0 pair.1)) in
      let small : AllBelow (2 ^ 32) (0 ∷ rest) = subst (AllBelow (2 ^ 32)) rs (restarts_below interval 0 0 (2 ^ 32) [] all (omega (arith, fits))) in
      let there : list_all (is_restart (cells_of interval 0 0 [] all)) (0 ∷ rest) ≡ true = subst (λ (l : List ℕ). list_all (is_restart (cells_of interval 0 0 [] all)) l ≡ true) rs (restarts_there interval 0 0 [] all) in
      let tail : Tail = record { end = length entries; restarts = 0 ∷ rest } in
      let area : take (length entries) (with_tail entries (0 ∷ rest)) ≡ entries = ap (λ (l : List ℕ). take (length entries) l) (append_assoc entries offsets (fixed32 (length (0 ∷ rest)))) ∙ take_at entries (offsets ++ fixed32 (length (0 ∷ rest))) (length entries) refl in
      ap (block_of kind) bytes
      ∙ ap (entries_before kind (with_tail entries (0 ∷ rest))) (tail_written entries (0 ∷ rest) good small (omega (arith, fits)))
      ∙ ap (λ (l : List ℕ). fitted kind (0 ∷ rest) (entries_of kind l)) area
      ∙ ap (fitted kind (0 ∷ rest)) (entries_written again kind all interval may)
      ∙ ap (λ (t : Bool). cond t (Ok (cells_of interval 0 0 [] all)) (Err Restarts)) there
