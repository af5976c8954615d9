-- A log that was replayed stands at its closed gate.
use Rattle.std.proofs.Common.{◌≡◌, ℕ, ◌+◌, List, [], ◌∷◌, length, Option, Some, None, refl, sym, ◌∙◌, ap, subst}
use Rattle.std.specs.Prelude.{IsSome}
use Rattle.st_device.specs.Disk.{DiskTold, Passes, Untouched}
use Rattle.st_gate.proofs.Rest.{at_rest}
use Rattle.st_gate.specs.Kind.{kind_bytes}
use Rattle.st_gate.specs.Log.{Replayed, records_of, replayed}
use Rattle.st_gate.specs.Log.Replayed.{Good, Bad}
use Rattle.st_gate.specs.declared.kind.LogKind.{LogKind}
use Rattle.st_gate.specs.declared.kind.LogKind.TheVariants.{Log}
use Rattle.st_gate.specs.declared.record.Record.{Record}
use Rattle.st_wal.specs.Batch.{LogBatch, batch_of}
use Rattle.st_wal.specs.Logged.{Operations, operations_from, operations_of, operations_in, read_as_log, record_in_front}
use Rattle.st_wal.specs.Logged.Operations.{Whole, Broken}
use Rattle.st_wal.specs.Wal.{operations}
use Rattle.st_wal.specs.declared.logged.Logged.{Logged}
use Rattle.st_wal.specs.declared.wal.Wal.{Wal}
use Rattle.log_recover.specs.Opens.{first_log_fault}
use Rattle.log_recover.specs.Store.{IsSettled, IsStore}

-- what is behind a record of a whole log is whole
behind_record : (at : ℕ) (batch : Option LogBatch) (rest : Operations) (ops : List Logged) (end : ℕ) → record_in_front at batch rest ≡ Whole ops end → (more : List Logged) × (rest ≡ Whole more end)
behind_record at None rest ops end is = absurd (cc is)
behind_record at (Some batch) (Whole more far) ops end is = (more, cc is)
behind_record at (Some batch) (Broken more far) ops end is = absurd (cc is)

from_broken : (records : List Record) (far : ℕ) (ops : List Logged) (end : ℕ) → operations_from records (Broken [] far) ≡ Whole ops end → ⊥
from_broken [] far ops end is = cc is
from_broken (one ∷ records) far ops end is =
    let rest = behind_record one.at (batch_of one.payload) (operations_from records (Broken [] far)) ops end is in
    from_broken records far rest.0 end rest.1

from_gate : (records : List Record) (gate : ℕ) (ops : List Logged) (end : ℕ) → operations_from records (Whole [] gate) ≡ Whole ops end → gate ≡ end
from_gate [] gate ops end is = cc is
from_gate (one ∷ records) gate ops end is =
    let rest = behind_record one.at (batch_of one.payload) (operations_from records (Whole [] gate)) ops end is in
    from_gate records gate rest.0 end rest.1

good_of : (log : Replayed) (ops : List Logged) (end : ℕ) → operations_of log ≡ Whole ops end → log ≡ Good (records_of log) end
good_of (Good records at) ops end is = ap (λ (n : ℕ). Good records n) (from_gate records at ops end is)
good_of (Bad records at) ops end is = absurd (from_broken records at ops end is)

pub replayed_store : {a b : DiskTold} (wal : Wal) (ops : List Logged) → Passes a b → Untouched a b → wal.log.kind ≡ Log → wal.log.file ≡ 3 → read_as_log (a.reads 3) ≡ Whole ops wal.log.at → IsSettled a → IsSome (a.reads 1) → first_log_fault 0 ops ≡ None
    → IsStore wal b × (operations wal b ≡ ops)
replayed_store {a} {b} wal ops passes untouched kind file whole settled marked sound =
    let reads : (f : ℕ) → b.reads f ≡ a.reads f = λ f i. untouched.reads i f in
    let log : read_as_log (b.reads wal.log.file) ≡ Whole ops wal.log.at = ap read_as_log ((λ i. b.reads (file i)) ∙ reads 3) ∙ whole in
    let same : operations wal b ≡ ops = ap operations_in log in
    let good : replayed (kind_bytes wal.log.kind) (b.reads wal.log.file) ≡ Good (records_of (replayed (kind_bytes Log) (b.reads wal.log.file))) wal.log.at =
    ap (λ (k : LogKind). replayed (kind_bytes k) (b.reads wal.log.file)) kind ∙ good_of (replayed (kind_bytes Log) (b.reads wal.log.file)) ops wal.log.at log in
    let durable : (f : ℕ) (image : _) → b.now image → image f ≡ b.reads f = λ f image now. settled f image ((untouched.now image).0 now) ∙ sym (reads f) in (
      record {
        file = file;
        ready = record {
          kind = kind;
          rest = (at_rest wal.log b (records_of (replayed (kind_bytes Log) (b.reads wal.log.file))) wal.log.at good refl (durable wal.log.file)).0;
          whole = log ∙ ap (λ (l : List Logged). Whole l wal.log.at) (sym same);
        };
        marked = subst (λ (o : Option (List ℕ)). IsSome o) (sym (reads 1)) marked;
        durable = durable 1;
        sound = ap (first_log_fault 0) same ∙ sound;
      },
      same,
    )
