-- What the reading of a payload answers.
use Rattle.std.specs.Prelude.{◌≡◌, ◌++◌, ℕ, Bool, true, false, List, length, map, Option, Some, None}
use Rattle.manifest_edits.specs.Edits.{Edit as NamedEdit}
use Rattle.st_manifest.specs.Edit.{as_edit}
use Rattle.st_manifest.specs.Payload.{edits_at}
use Rattle.st_manifest.specs.declared.edit.Edit.{Edit}

-- these edits were appended to the others; no, where there are none
abbrev pub AddsEdits : Bool → List Edit → List Edit → Option (List NamedEdit) → Type 0
AddsEdits true old new None = ⊥
AddsEdits true old new (Some edits) = map as_edit new ≡ map as_edit old ++ edits
AddsEdits false old new None = Unit {0}
AddsEdits false old new (Some edits) = ⊥

-- the same of those behind the first four bytes
abbrev pub IsReadUpTo : Bool → List Edit → List Edit → List ℕ → Type 0
IsReadUpTo read old new bytes = AddsEdits read old new (edits_at (length bytes) bytes 4)

-- the same of a payload, with how many records follow
abbrev pub IsPayloadRead : Option ℕ → List Edit → List Edit → Option (ℕ × List NamedEdit) → Type 0
IsPayloadRead None old new None = Unit {0}
IsPayloadRead None old new (Some found) = ⊥
IsPayloadRead (Some left) old new None = ⊥
IsPayloadRead (Some left) old new (Some found) = (left ≡ found.0) × (map as_edit new ≡ map as_edit old ++ found.1)
