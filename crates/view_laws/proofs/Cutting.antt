-- The first pairs of a scan, and the model's.
use Rattle.std.proofs.Common.{◌≡◌, ℕ, zero, suc, ◌+◌, ◌-◌, ◌<◌, ◌≤◌, ◌⊎◌, Bool, true, false, cond, List, [], ◌∷◌, length, refl, sym, ap, ◌∙◌, inl, inr, arith}
use Rattle.std.specs.Prelude.{nat_le, ◌==◌, ◌||◌}
use Rattle.std.proofs.lemmas.Bool.{cases_lt, false≢true, le-leb, lt-leb, ne_eqb}
use Rattle.st_merge.specs.Scan.{KeyValue, cut_pairs, pair_bytes}
use Rattle.st_model.specs.Scan.{scanned}

abbrev most : ℕ
most = 1048576

-- no pair more once the bytes are there
nothing_more : (limit bytes : ℕ) (pairs : List KeyValue) → nat_le most bytes ≡ true → scanned limit bytes pairs ≡ []
nothing_more limit bytes [] e = refl
nothing_more limit bytes (pair ∷ pairs) e = step (limit == 0) (nat_le most bytes) e
  where
    step : (a b : Bool) → b ≡ true → cond (a || b) [] (pair ∷ scanned (limit - 1) (bytes + length pair.0 + length pair.1) pairs) ≡ []
    step true b e = refl
    step false true e = refl
    step false false e = absurd cc

pub cut_is_scanned : (limit bytes : ℕ) (pairs : List KeyValue) → bytes < most → cut_pairs limit bytes pairs ≡ scanned limit bytes pairs
cut_is_scanned zero bytes [] lt = refl
cut_is_scanned zero bytes (pair ∷ pairs) lt = refl
cut_is_scanned (suc room) bytes [] lt = refl
cut_is_scanned (suc room) bytes (pair ∷ pairs) lt =
    ap (λ rest. pair ∷ rest) (rest (λ n less. cut_is_scanned room n pairs less) (nat_le most (bytes + pair_bytes pair)) refl)
    ∙ ap (λ n. pair ∷ scanned n (bytes + length pair.0 + length pair.1) pairs) (sym minus)
    ∙ sym (goes_on (pair ∷ scanned (suc room - 1) (bytes + length pair.0 + length pair.1) pairs) (suc room == 0) (nat_le most bytes) (ne_eqb (suc room) 0 (λ e. absurd (omega arith))) (lt-leb most bytes lt))
  where
    minus : suc room - 1 ≡ room
    minus = omega arith

    goes_on : (all : List KeyValue) (a b : Bool) → a ≡ false → b ≡ false → cond (a || b) [] all ≡ all
    goes_on all true b e f = absurd cc
    goes_on all false true e f = absurd cc
    goes_on all false false e f = refl

    same_bytes : bytes + pair_bytes pair ≡ bytes + length pair.0 + length pair.1
    same_bytes = omega arith

    rest : ((n : ℕ) → n < most → cut_pairs room n pairs ≡ scanned room n pairs) → (b : Bool) → nat_le most (bytes + pair_bytes pair) ≡ b → cond b [] (cut_pairs room (bytes + pair_bytes pair) pairs) ≡ scanned room (bytes + length pair.0 + length pair.1) pairs
    rest more true e = sym (nothing_more room (bytes + length pair.0 + length pair.1) pairs (ap (nat_le most) (sym same_bytes) ∙ e))
    rest more false e = more (bytes + pair_bytes pair) (below (cases_lt (bytes + pair_bytes pair) most)) ∙ ap (λ n. scanned room n pairs) same_bytes
      where
        below : (bytes + pair_bytes pair < most) ⊎ (most ≤ bytes + pair_bytes pair) → bytes + pair_bytes pair < most
        below (inl lt) = lt
        below (inr le) = absurd (let t = le-leb most (bytes + pair_bytes pair) le in false≢true (sym e ∙ t))
