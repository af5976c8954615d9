-- Where the operations of a log end.
use Rattle.std.proofs.Common.{◌≡◌, ◌≢◌, ◌⊎◌, inl, inr, ⊎_elim, ℕ, List, [], ◌∷◌, ◌++◌, Option, Some, None, refl, sym, ◌∙◌, ap, append-nil, arith}
use Rattle.st_device.specs.Disk.{DiskTold, IsDurable}
use Rattle.st_gate.specs.Damage.{IsEndOf, ended}
use Rattle.st_gate.specs.Kind.{kind_bytes}
use Rattle.st_gate.specs.Log.{Replayed, records_of, replayed}
use Rattle.st_gate.specs.Log.Replayed.{Good, Bad}
use Rattle.st_gate.specs.declared.kind.LogKind.TheVariants.{Log}
use Rattle.st_gate.specs.declared.record.Record.{Record}
use Rattle.st_gate.specs.declared.scan.LogEnd.{LogEnd}
use Rattle.st_gate.specs.declared.scan.LogEnd.TheVariants.{Gate, Damage}
use Rattle.st_wal.specs.Batch.{LogBatch, batch_of}
use Rattle.st_wal.specs.Logged.{Operations, operations_found, operations_from, operations_gate, operations_in, operations_of, read_as_log, record_in_front}
use Rattle.st_wal.specs.Logged.Operations.{Whole, Broken}
use Rattle.st_wal.specs.Wal.{IsReady, IsWalOf, operations_ended, wal_end}
use Rattle.st_wal.specs.declared.logged.Logged.{Logged}
use Rattle.st_wal.specs.declared.wal.Wal.{Wal}

-- the operations of records that were scanned
pub ended_is : (records : List Record) (end : LogEnd) (ops : List Logged) (damage : Option ℕ) → ((e : Operations) → operations_from records e ≡ operations_found ops damage e) → operations_of (ended records end) ≡ operations_ended ops (wal_end damage end)
ended_is records (Gate log) ops None read = read (Whole [] log.at) ∙ ap (λ (l : List Logged). Whole l log.at) (append-nil ops)
ended_is records (Gate log) ops (Some at) read = read (Whole [] log.at)
ended_is records (Damage place) ops None read = read (Broken [] place) ∙ ap (λ (l : List Logged). Broken l place) (append-nil ops)
ended_is records (Damage place) ops (Some at) read = read (Broken [] place)

pub end_of : (file : ℕ) (damage : Option ℕ) (end : LogEnd) → IsEndOf file Log end → IsWalOf file (wal_end damage end)
end_of file None (Gate log) is = is
end_of file None (Damage place) is = tt
end_of file (Some at) end is = tt

-- ---- a log whose gate isn't 0 is whole

broken_front : (records : List Record) (end : Operations) → operations_gate end ≡ 0 → operations_gate (operations_from records end) ≡ 0
broken_front [] end none = none
broken_front (one ∷ records) end none = go (batch_of one.payload) (operations_from records end) (broken_front records end none)
  where
    go : (batch : Option LogBatch) (rest : Operations) → operations_gate rest ≡ 0 → operations_gate (record_in_front one.at batch rest) ≡ 0
    go None rest e = refl
    go (Some batch) (Whole ops end) e = e
    go (Some batch) (Broken ops end) e = refl

good_front : (records : List Record) (at : ℕ) → (operations_gate (operations_from records (Whole [] at)) ≡ 0) ⊎ (operations_gate (operations_from records (Whole [] at)) ≡ at)
good_front [] at = inr refl
good_front (one ∷ records) at = go (batch_of one.payload) (operations_from records (Whole [] at)) (good_front records at)
  where
    go : (batch : Option LogBatch) (rest : Operations) → (operations_gate rest ≡ 0) ⊎ (operations_gate rest ≡ at) → (operations_gate (record_in_front one.at batch rest) ≡ 0) ⊎ (operations_gate (record_in_front one.at batch rest) ≡ at)
    go None rest e = inl refl
    go (Some batch) (Whole ops end) e = e
    go (Some batch) (Broken ops end) e = inl refl

whole_gate : (found : Operations) (at : ℕ) → at ≢ 0 → operations_gate found ≡ at → found ≡ Whole (operations_in found) at
whole_gate (Whole ops end) at some e = ap (λ (n : ℕ). Whole ops n) e
whole_gate (Broken ops end) at some e = absurd (some (sym e))

good_gate : (found : Replayed) (at : ℕ) → at ≢ 0 → operations_gate (operations_of found) ≡ at → found ≡ Good (records_of found) at
good_gate (Good records end) at some e = ⊎_elim
    (λ (none : operations_gate (operations_from records (Whole [] end)) ≡ 0). absurd (some (sym e ∙ none)))
    (λ (is : operations_gate (operations_from records (Whole [] end)) ≡ end). ap (λ (n : ℕ). Good records n) (sym is ∙ e)) (good_front records end)
good_gate (Bad records end) at some e = absurd (some (sym e ∙ broken_front records (Broken [] end) refl))

-- The gate's offset and a durable file are enough for a log that is ready.
pub ready_at_gate : (wal : Wal) (a : DiskTold) → wal.log.kind ≡ Log → operations_gate (read_as_log (a.reads wal.log.file)) ≡ wal.log.at → IsDurable wal.log.file a → IsReady wal a
ready_at_gate wal a kind gate durable = record {
  kind = kind;
  rest = record {
    open_gate = ap (λ k. replayed (kind_bytes k) (a.reads wal.log.file)) kind ∙ good_gate (replayed (kind_bytes Log) (a.reads wal.log.file)) wal.log.at some gate
        ∙ ap (λ k. Good (records_of (replayed (kind_bytes k) (a.reads wal.log.file))) wal.log.at) (sym kind);
    durable = durable;
  };
  whole = whole_gate (read_as_log (a.reads wal.log.file)) wal.log.at some gate;
}
  where
    some : wal.log.at ≢ 0
    some none = let e = wal.log.behind_kind in omega (arith, e, none)
