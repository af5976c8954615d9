-- A group's edits, laid into the payloads of records, and the records behind a gate.
use Rattle.std.specs.Prelude.{◌≡◌, ◌<◌, ◌==◌, ◌++◌, ◌∷◌, IsTrue, ℕ, ◌+◌, nat_le, List, [], length, map, flat_map, if◌then◌else◌, Some, None}
use Rattle.st_code.specs.Fixed.{fixed32}
use Rattle.st_gate.specs.Log.{gate_record, next_gate}
use Rattle.st_gate.specs.declared.record.Record.{Record}
use Rattle.manifest_edits.specs.Edits.{Edit, GroupRecord, ends_with_last}
use Rattle.manifest_edits.specs.Groups.{cut_edits, edit_size, group_of_edits, record_room}
use Rattle.st_manifest.specs.Payload.{fit_edits, payload_read, written_edit, written_edits}

-- the payloads of these bodies, each with how many follow it
abbrev pub numbered_bodies : List (List ℕ) → List (List ℕ)
numbered_bodies [] = []
numbered_bodies (body ∷ more) = (fixed32 (length more) ++ body) ∷ numbered_bodies more

-- the body that is being filled, and those that are closed, after an edit: a body is closed before one it hasn't room for
abbrev pub body_laid : List ℕ → Edit → List ℕ
body_laid body edit =
    if nat_le (length body + edit_size edit) record_room then body ++ written_edit edit else written_edit edit

abbrev pub bodies_laid : List (List ℕ) → List ℕ → Edit → List (List ℕ)
bodies_laid bodies body edit =
    if nat_le (length body + edit_size edit) record_room then bodies else bodies ++ body ∷ []

-- the bodies of a group, each as full as whole edits allow
abbrev pub group_bodies : List Edit → List (List ℕ)
group_bodies edits = map written_edits (cut_edits record_room edits)

-- the payloads of a group's records
abbrev pub group_payloads : List Edit → List (List ℕ)
group_payloads edits = numbered_bodies (group_bodies edits)

-- the edits of a payload
abbrev pub payload_edits : List ℕ → List Edit
payload_edits payload = elim (payload_read payload) [ None ↦ [] | Some found ↦ found.1 ]

-- the edits of a group with these payloads
abbrev pub edits_in : List (List ℕ) → List Edit
edits_in payloads = flat_map payload_edits payloads

-- the payloads of one group, whose edits are within the bounds
pub record IsGroupPayloads (payloads : List (List ℕ)) : Type 0 where
  pub cut : payloads ≡ group_payloads (edits_in payloads)
  pub fits : IsTrue (fit_edits (edits_in payloads))
  pub last : IsTrue (ends_with_last (edits_in payloads))
  pub few : length payloads < 4294967296

-- the records of these payloads, from a gate on
abbrev pub laid_records : ℕ → List (List ℕ) → List Record
laid_records at [] = []
laid_records at (payload ∷ payloads) = gate_record at payload ∷ laid_records (next_gate at payload) payloads

-- the gate behind them
abbrev pub gate_behind : ℕ → List (List ℕ) → ℕ
gate_behind at [] = at
gate_behind at (payload ∷ payloads) = gate_behind (next_gate at payload) payloads

-- the gate of the record that so many follow
abbrev pub places : ℕ → List (List ℕ) → ℕ → ℕ
places at [] left = at
places at (payload ∷ payloads) left =
    if left == length payloads then at else places (next_gate at payload) payloads left

-- the records of a group with these payloads, from a gate on
abbrev pub group_at : ℕ → List (List ℕ) → List GroupRecord
group_at at payloads = group_of_edits (places at payloads) (edits_in payloads)
