-- What stands at a gate.
use Rattle.std.proofs.Common.{◌≡◌, ◌≢◌, inl, inr, ℕ, ◌+◌, ◌-◌, ◌<◌, ◌≤◌, List, [], ◌∷◌, length, get_or, take, drop, Option, Some, None, refl, sym, ◌∙◌, ap, arith, length-drop}
use Rattle.std.proofs.lemmas.List.{drop_more, drop-drop, take_all}
use Rattle.std.proofs.lemmas.Bool.{cases_lt}
use Rattle.std.proofs.lemmas.Bool.Decides.{nat_tests}
use Rattle.std.specs.Int.{w32, from_le_bytes}
use Rattle.st_code.specs.Fixed.{fixed32_at}
use Rattle.st_device.specs.Disk.{There, Reads}
use Rattle.st_gate.specs.Log.{Replayed, scan, front, gate_record, record_at, told_length, told_sum, sum_of}
use Rattle.st_gate.specs.AtGate.{IsFoundAtGate}
use Rattle.st_gate.specs.declared.record.AtGate.TheVariants.{End, Damage, Whole}
use Rattle.st_gate.proofs.Scanning.{scan_skip, IsRecord, record_is, shut_scan, open_scan, none_scan}

-- a fixed32 has four bytes
le_take : (l : List ℕ) → from_le_bytes w32 (take 4 l) ≡ from_le_bytes w32 l
le_take [] = refl
le_take (a ∷ []) = refl
le_take (a ∷ b ∷ []) = refl
le_take (a ∷ b ∷ c ∷ []) = refl
le_take (a ∷ b ∷ c ∷ d ∷ l) = refl

number_inside : (bytes : List ℕ) (at : ℕ) → at + 4 ≤ length bytes → fixed32_at bytes at ≡ Some (from_le_bytes w32 (drop at bytes))
number_inside bytes at fits = grind (arith, nat_tests)

number_short : (bytes : List ℕ) (at : ℕ) → length bytes < at + 4 → fixed32_at bytes at ≡ None
number_short bytes at short = grind (arith, nat_tests)

number_at : (bytes : List ℕ) (at n : ℕ) → Some n ≡ fixed32_at bytes at → (at + 4 ≤ length bytes) × (n ≡ from_le_bytes w32 (take 4 (drop at bytes)))
number_at bytes at n is = elim (cases_lt (length bytes) (at + 4)) [
  | inl short ↦ absurd (let e : Some n ≡ None = is ∙ number_short bytes at short in cc e)
  | inr fits ↦ (fits, (let e : Some n ≡ Some (from_le_bytes w32 (drop at bytes)) = is ∙ number_inside bytes at fits in let same : n ≡ from_le_bytes w32 (drop at bytes) = cc e in same ∙ sym (le_take (drop at bytes))))
]

no_number : (bytes : List ℕ) (at : ℕ) → None ≡ fixed32_at bytes at → length bytes < at + 4
no_number bytes at is = elim (cases_lt (length bytes) (at + 4)) [
  | inl short ↦ short
  | inr fits ↦ absurd (let e : None ≡ Some (from_le_bytes w32 (drop at bytes)) = is ∙ number_inside bytes at fits in cc e)
]

record_long : (bytes : List ℕ) → length bytes ≤ 8 + told_length bytes → record_at bytes ≡ None
record_long bytes long = grind (arith, nat_tests)

record_sum : (bytes : List ℕ) → told_sum bytes ≢ sum_of (take (told_length bytes) (drop 8 bytes)) → record_at bytes ≡ None
record_sum bytes differs = grind (arith, nat_tests)

pub shut_found : (bytes : List ℕ) (at : ℕ) → at < length bytes → get_or bytes at 0 ≢ 1 → IsFoundAtGate at End bytes
shut_found bytes at inside shut = ap (λ (l : List ℕ). scan at 0 l) (drop_more bytes at 0 inside) ∙ shut_scan at (get_or bytes at 0) (drop (at + 1) bytes) shut

-- the gate is open
module _ (bytes : List ℕ) (at : ℕ) (inside : at < length bytes) (is_open : get_or bytes at 0 ≡ 1) where
  gate_rest : drop at bytes ≡ get_or bytes at 0 ∷ drop (at + 1) bytes
  gate_rest = drop_more bytes at 0 inside

  no_record : length bytes ≤ at + 9 + told_length (drop (at + 1) bytes) → IsFoundAtGate at Damage bytes
  no_record long = ap (λ (l : List ℕ). scan at 0 l) gate_rest ∙ none_scan at (get_or bytes at 0) (drop (at + 1) bytes) is_open (record_long (drop (at + 1) bytes) (omega (arith, length-drop (at + 1) bytes)))

  pub no_length : None ≡ fixed32_at bytes (at + 1) → IsFoundAtGate at Damage bytes
  no_length none = no_record (omega (arith, no_number bytes (at + 1) none))

  pub no_sum : None ≡ fixed32_at bytes (at + 5) → IsFoundAtGate at Damage bytes
  no_sum none = no_record (omega (arith, no_number bytes (at + 5) none))

  module _ (told : ℕ) (length_is : Some told ≡ fixed32_at bytes (at + 1)) where
    length_told : told_length (drop (at + 1) bytes) ≡ told
    unfolding told_length
    length_told = sym (number_at bytes (at + 1) told length_is).1

    pub past_end : length bytes - at - 9 ≤ told → IsFoundAtGate at Damage bytes
    past_end past = no_record (omega (arith, length_told, past))

    module _ (sum : ℕ) (sum_is : Some sum ≡ fixed32_at bytes (at + 5)) (payload : List ℕ) (fits : told < length bytes - at - 9) (payload_is : payload ≡ take told (drop (at + 9) bytes)) where
      sum_told : told_sum (drop (at + 1) bytes) ≡ sum
      unfolding told_sum
      sum_told =
          ap (λ (l : List ℕ). from_le_bytes w32 (take 4 l)) (drop-drop 4 (at + 1) bytes ∙ ap (λ (n : ℕ). drop n bytes) (let e : at + 1 + 4 ≡ at + 5 = omega arith in e))
          ∙ sym (number_at bytes (at + 5) sum sum_is).1

      payload_same : take (told_length (drop (at + 1) bytes)) (drop 8 (drop (at + 1) bytes)) ≡ payload
      payload_same = ap (λ (n : ℕ). take n (drop 8 (drop (at + 1) bytes))) length_told ∙ ap (λ (l : List ℕ). take told l) (drop-drop 8 (at + 1) bytes ∙ ap (λ (n : ℕ). drop n bytes) (let e : at + 1 + 8 ≡ at + 9 = omega arith in e)) ∙ sym payload_is

      pub wrong_sum : sum_of payload ≢ sum → IsFoundAtGate at Damage bytes
      wrong_sum differs =
          ap (λ (l : List ℕ). scan at 0 l) gate_rest ∙ none_scan at (get_or bytes at 0) (drop (at + 1) bytes) is_open
          (record_sum (drop (at + 1) bytes) (λ e. differs (ap (λ (l : List ℕ). sum_of l) (sym payload_same) ∙ sym e ∙ sum_told)))

      pub right_sum : sum_of payload ≡ sum → IsFoundAtGate at (Whole (gate_record at payload)) bytes
      right_sum same =
          let size : length payload ≡ told = ap length payload_is ∙ Rattle.std.proofs.lemmas.List.length-take-le told (drop (at + 9) bytes) (omega (arith, length-drop (at + 9) bytes)) in
          let whole : IsRecord (drop (at + 1) bytes) payload = record {
            fits = omega (arith, length_told, length-drop (at + 1) bytes);
            sum = sum_told ∙ sym same;
            is = sym payload_same;
          } in (
            refl,
            ap (λ (l : List ℕ). scan at 0 l) gate_rest ∙ open_scan at (get_or bytes at 0) (drop (at + 1) bytes) payload is_open (record_is (drop (at + 1) bytes) payload whole)
                ∙ ap (λ (r : Replayed). front (gate_record at payload) r) (scan_skip (at + 9 + length payload) (8 + length payload) (drop (at + 1) bytes)
                ∙ ap (λ (l : List ℕ). scan (at + 9 + length payload) 0 l) (drop-drop (8 + length payload) (at + 1) bytes ∙ ap (λ (n : ℕ). drop n bytes) (let e : at + 1 + (8 + length payload) ≡ at + 9 + length payload = omega arith in e))),
          )

-- a read of a whole file
pub whole_read : (n : ℕ) (before after bytes : List ℕ) → length before ≡ length bytes → Reads 0 n before after bytes → take n after ≡ bytes
whole_read n before after bytes size r =
    let count : n ≡ length bytes = omega (arith, r.count, size) in
    r.given ∙ take_all n bytes (omega arith)

pub whole_there : (o : Option (List ℕ)) (n : ℕ) (before after : List ℕ) → There o (λ bytes. length bytes ≡ length before) → There o (Reads 0 n before after) → o ≡ Some (take n after)
whole_there None n before after size read = absurd size
whole_there (Some bytes) n before after size read = ap (λ (l : List ℕ). Some l) (sym (whole_read n before after bytes (sym size) read))
