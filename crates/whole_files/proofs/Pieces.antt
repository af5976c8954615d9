-- A file that grows piece by piece.
use Rattle.std.proofs.Common.{◌≡◌, ℕ, ◌+◌, ◌-◌, ◌<◌, ◌≤◌, List, [], ◌++◌, length, take, drop, min, Option, Some, None, refl, sym, ◌∙◌, ap, subst, arith, append-nil}
use Rattle.std.proofs.Math.Seq.{take-add}
use Rattle.std.proofs.lemmas.List.{take_at, drop_all}
use Rattle.st_device.specs.Disk.{Both, Overwrites}

-- one piece more, behind what stands
pub piece_more : (front piece : List ℕ) (at : ℕ) (old new : Option (List ℕ)) → length front ≡ at → old ≡ Some front → Both (Overwrites at piece) old new → new ≡ Some (front ++ piece)
piece_more front piece at old None size is wrote = absurd (subst (λ o. Both (Overwrites at piece) o None) is wrote)
piece_more front piece at old (Some new) size is wrote =
    let h : Overwrites at piece front new = subst (λ o. Both (Overwrites at piece) o (Some new)) is wrote in
    ap (λ (l : List ℕ). Some l)
    (h ∙ ap (λ (l : List ℕ). l ++ piece ++ drop (at + length piece) front) (take_full front at size)
    ∙ ap (λ (l : List ℕ). front ++ piece ++ l) (drop_all (at + length piece) front (omega (arith, size))) ∙ append-nil (front ++ piece))
  where
    take_full : (l : List ℕ) (n : ℕ) → length l ≡ n → take n l ≡ l
    take_full l n e = ap (λ (k : List ℕ). take n k) (sym (append-nil l)) ∙ take_at l [] n e

-- the next n bytes, as a slice has them
pub front_more : (bytes : List ℕ) (at n : ℕ) → Some (take at bytes ++ take (at + n - at) (drop at bytes)) ≡ Some (take (at + n) bytes)
front_more bytes at n =
    let left : at + n - at ≡ n = omega arith in
    ap (λ (k : ℕ). Some (take at bytes ++ take k (drop at bytes))) left ∙ ap (λ (l : List ℕ). Some l) (sym (take-add at n bytes))
