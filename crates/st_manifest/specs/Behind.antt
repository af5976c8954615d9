-- A gated log while records are laid behind its gate.
use Rattle.std.specs.Prelude.{◌≡◌, ◌++◌, ℕ, List, take}
use Rattle.st_gate.specs.Log.{Replayed}
use Rattle.st_gate.specs.Log.Replayed.{Good}
use Rattle.st_gate.specs.declared.record.Record.{Record}
use Rattle.st_manifest.specs.Laid.{gate_behind, laid_records}

-- the first so many of the records with these payloads stand behind those that were there, from a gate on
abbrev pub HasLaid : List Record → ℕ → List (List ℕ) → Replayed → Type 0
HasLaid records at payloads log =
    (n : ℕ) × (log ≡ Good (records ++ take n (laid_records at payloads)) (gate_behind at (take n payloads)))
