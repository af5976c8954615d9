-- What stands at a gate.
use Rattle.std.specs.Prelude.{◌≡◌, ℕ, ◌<◌, [], List, drop}
use Rattle.st_gate.specs.Log.{front, next_gate, scan}
use Rattle.st_gate.specs.Log.Replayed.{Good, Bad}
use Rattle.st_gate.specs.declared.record.AtGate.{AtGate}
use Rattle.st_gate.specs.declared.record.AtGate.TheVariants.{End, Damage, Whole}

-- the end, damage or a record, as the scan from there says
abbrev pub IsFoundAtGate : ℕ → AtGate → List ℕ → Type 0
IsFoundAtGate at End bytes = scan at 0 (drop at bytes) ≡ Good [] at
IsFoundAtGate at Damage bytes = scan at 0 (drop at bytes) ≡ Bad [] at
IsFoundAtGate at (Whole one) bytes =
    (one.at ≡ at) × (scan at 0 (drop at bytes) ≡ front one (scan (next_gate at one.payload) 0 (drop (next_gate at one.payload) bytes)))

-- a record stands in front of another byte
abbrev pub IsRecordWithin : ℕ → AtGate → ℕ → Type 0
IsRecordWithin at (Whole one) size = next_gate at one.payload < size
IsRecordWithin at End size = Unit {0}
IsRecordWithin at Damage size = Unit {0}
