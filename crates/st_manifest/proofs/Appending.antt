-- Records are laid_records behind the gate of a log at rest.
use Rattle.std.proofs.Common.{◌≡◌, inl, inr, ℕ, zero, suc, ◌+◌, ◌<◌, ◌≤◌, List, [], ◌∷◌, ◌++◌, length, take, get_or, Option, refl, sym, ◌∙◌, ap, subst, arith, append-nil, append_assoc}
use Rattle.std.proofs.lemmas.List.{take_all}
use Rattle.st_device.specs.Disk.{Clock, DiskTold, OnlyFile, Passes}
use Rattle.st_device.proofs.File.{only_start, only_twice}
use Rattle.st_gate.specs.Kind.{kind_bytes}
use Rattle.st_gate.specs.Log.{IsBeforeOrAfter, Replayed, gate_record, next_gate, replayed}
use Rattle.st_gate.specs.Log.Replayed.{Good}
use Rattle.st_gate.specs.Rest.{IsAtRest, records}
use Rattle.st_gate.specs.declared.gate.GateLog.{GateLog}
use Rattle.st_gate.specs.declared.kind.LogKind.{LogKind}
use Rattle.st_gate.specs.declared.record.Record.{Record}
use Rattle.st_manifest.specs.Behind.{HasLaid}
use Rattle.st_manifest.specs.Laid.{gate_behind, laid_records}

pub laid_length : (at : ℕ) (payloads : List (List ℕ)) → length (laid_records at payloads) ≡ length payloads
laid_length at [] = refl
laid_length at (p ∷ payloads) = ap suc (laid_length (next_gate at p) payloads)

-- one record more
laid_next : (at : ℕ) (payloads : List (List ℕ)) (i : ℕ) (payload : List ℕ) → i < length payloads → payload ≡ get_or payloads i payload → take (suc i) (laid_records at payloads) ≡ take i (laid_records at payloads) ++ gate_record (gate_behind at (take i payloads)) payload ∷ []
laid_next at [] i payload inside is = absurd (omega (arith, inside))
laid_next at (p ∷ payloads) zero payload inside is = ap (λ (l : List ℕ). gate_record at l ∷ []) (sym is)
laid_next at (p ∷ payloads) (suc i) payload inside is = ap (λ (l : List Record). gate_record at p ∷ l) (laid_next (next_gate at p) payloads i payload (omega (arith, inside)) is)

gate_next : (at : ℕ) (payloads : List (List ℕ)) (i : ℕ) (payload : List ℕ) → i < length payloads → payload ≡ get_or payloads i payload → gate_behind at (take (suc i) payloads) ≡ next_gate (gate_behind at (take i payloads)) payload
gate_next at [] i payload inside is = absurd (omega (arith, inside))
gate_next at (p ∷ payloads) zero payload inside is = ap (λ (l : List ℕ). next_gate at l) (sym is)
gate_next at (p ∷ payloads) (suc i) payload inside is = gate_next (next_gate at p) payloads i payload (omega (arith, inside)) is

after : (i : ℕ) → i + 1 ≡ suc i
after i = omega arith

pub laid_more : (at : ℕ) (payloads : List (List ℕ)) (i : ℕ) (payload : List ℕ) → i < length payloads → payload ≡ get_or payloads i payload → take (i + 1) (laid_records at payloads) ≡ take i (laid_records at payloads) ++ gate_record (gate_behind at (take i payloads)) payload ∷ []
laid_more at payloads i payload inside is = ap (λ (n : ℕ). take n (laid_records at payloads)) (after i) ∙ laid_next at payloads i payload inside is

pub gate_more : (at : ℕ) (payloads : List (List ℕ)) (i : ℕ) (payload : List ℕ) → i < length payloads → payload ≡ get_or payloads i payload → gate_behind at (take (i + 1) payloads) ≡ next_gate (gate_behind at (take i payloads)) payload
gate_more at payloads i payload inside is = ap (λ (n : ℕ). gate_behind at (take n payloads)) (after i) ∙ gate_next at payloads i payload inside is

laid_step : (rs : List Record) (at : ℕ) (payloads : List (List ℕ)) (i : ℕ) (payload : List ℕ) → i < length payloads → payload ≡ get_or payloads i payload → (log : Replayed) → IsBeforeOrAfter (rs ++ take i (laid_records at payloads)) payload (gate_behind at (take i payloads)) log → HasLaid rs at payloads log
laid_step rs at payloads i payload inside is log (inl before) = (i, before)
laid_step rs at payloads i payload inside is log (inr after) =
    let all : (rs ++ take i (laid_records at payloads)) ++ gate_record (gate_behind at (take i payloads)) payload ∷ [] ≡ rs ++ take (i + 1) (laid_records at payloads) =
    append_assoc rs (take i (laid_records at payloads)) (gate_record (gate_behind at (take i payloads)) payload ∷ []) ∙ ap (λ (l : List Record). rs ++ l) (sym (laid_more at payloads i payload inside is)) in
    (i + 1, after ∙ (λ j. Good (all j) (sym (gate_more at payloads i payload inside is) j)))

module _ (log : GateLog) (payloads : List (List ℕ)) (a : DiskTold) where
  -- what each image has of the log
  abbrev Has : Option (List ℕ) → Type 0
  Has this = HasLaid (records log a) log.at payloads (replayed (kind_bytes log.kind) this)

  pub laid_begins : Clock a → IsAtRest log a → OnlyFile log.file Has a a
  laid_begins clock rest = only_start log.file Has clock
      (λ x now. (0, ap (λ (o : Option (List ℕ)). replayed (kind_bytes log.kind) o) (rest.durable x now) ∙ rest.open_gate ∙ ap (λ (l : List Record). Good l log.at) (sym (append-nil (records log a)))))

  module _ {b : DiskTold} (mid : GateLog) (i : ℕ) (passes : Passes a b) (kind : mid.kind ≡ log.kind) (file : mid.file ≡ log.file) (at : mid.at ≡ gate_behind log.at (take i payloads)) (all : records mid b ≡ records log a ++ take i (laid_records log.at payloads))
      (only : OnlyFile log.file Has a b) (payload : List ℕ) (inside : i < length payloads) (is : payload ≡ get_or payloads i payload) where
    step_has : (this : Option (List ℕ)) → IsBeforeOrAfter (records mid b) payload mid.at (replayed (kind_bytes mid.kind) this) → Has this
    step_has this either = laid_step (records log a) log.at payloads i payload inside is (replayed (kind_bytes log.kind) this)
        (subst (λ (k : LogKind). IsBeforeOrAfter (records log a ++ take i (laid_records log.at payloads)) payload (gate_behind log.at (take i payloads)) (replayed (kind_bytes k) this)) kind
        (subst (λ (n : ℕ). IsBeforeOrAfter (records log a ++ take i (laid_records log.at payloads)) payload n (replayed (kind_bytes mid.kind) this)) at
        (subst (λ (rs : List Record). IsBeforeOrAfter rs payload mid.at (replayed (kind_bytes mid.kind) this)) all either)))

    pub laid_goes_on : {c : DiskTold} → Passes b c → OnlyFile mid.file (λ this. IsBeforeOrAfter (records mid b) payload mid.at (replayed (kind_bytes mid.kind) this)) b c → OnlyFile log.file Has a c
    laid_goes_on {c} next step = only_twice log.file Has (λ this. IsBeforeOrAfter (records mid b) payload mid.at (replayed (kind_bytes mid.kind) this)) passes next only
        (subst (λ (f : ℕ). OnlyFile f (λ this. IsBeforeOrAfter (records mid b) payload mid.at (replayed (kind_bytes mid.kind) this)) b c) file step) step_has

    pub all_goes_on : (new : List Record) → new ≡ records mid b ++ gate_record mid.at payload ∷ [] → new ≡ records log a ++ take (i + 1) (laid_records log.at payloads)
    all_goes_on new pushed =
        pushed ∙ (λ j. all j ++ gate_record (at j) payload ∷ [])
        ∙ append_assoc (records log a) (take i (laid_records log.at payloads)) (gate_record (gate_behind log.at (take i payloads)) payload ∷ [])
        ∙ ap (λ (l : List Record). records log a ++ l) (sym (laid_more log.at payloads i payload inside is))

-- all are laid_records
pub laid_whole : (rs new : List Record) (at : ℕ) (payloads : List (List ℕ)) (i : ℕ) → length payloads ≤ i → new ≡ rs ++ take i (laid_records at payloads) → new ≡ rs ++ laid_records at payloads
laid_whole rs new at payloads i past is = is ∙ ap (λ (l : List Record). rs ++ l) (take_all i (laid_records at payloads) (let size = laid_length at payloads in omega (arith, size, past)))

pub gate_whole : (new at : ℕ) (payloads : List (List ℕ)) (i : ℕ) → length payloads ≤ i → new ≡ gate_behind at (take i payloads) → new ≡ gate_behind at payloads
gate_whole new at payloads i past is = is ∙ ap (λ (l : List (List ℕ)). gate_behind at l) (take_all i payloads past)

-- the gate behind one record more
pub at_goes_on : (at : ℕ) (payloads : List (List ℕ)) (i : ℕ) (payload : List ℕ) (mid new : ℕ) → i < length payloads → payload ≡ get_or payloads i payload → mid ≡ gate_behind at (take i payloads) → new ≡ next_gate mid payload → new ≡ gate_behind at (take (i + 1) payloads)
at_goes_on at payloads i payload mid new inside is here moved = moved ∙ ap (λ (n : ℕ). next_gate n payload) here ∙ sym (gate_more at payloads i payload inside is)
