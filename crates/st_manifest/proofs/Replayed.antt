-- What is replayed of a manifest's file.
use Rattle.std.proofs.Common.{◌≡◌, ◌⊎◌, inl, inr, ⊎_elim, ℕ, List, [], ◌∷◌, Option, Some, None, Result, Ok, Err, refl, sym, ◌∙◌, ap}
use Rattle.manifest_edits.specs.Edits.{Edit, GroupRecord, ManifestReading, manifest_reading_none, read_records}
use Rattle.manifest_edits.specs.Logs.{LogReading, LogFound}
use Rattle.st_gate.specs.Damage.{ended}
use Rattle.st_gate.specs.Kind.{kind_bytes}
use Rattle.st_gate.specs.Log.{replayed}
use Rattle.st_gate.specs.declared.fault.ReplayFault.{ReplayFault}
use Rattle.st_gate.specs.declared.fault.ReplayFault.TheVariants.{Damaged, DiskFault, OutOfMemory}
use Rattle.st_gate.specs.declared.kind.LogKind.TheVariants.{Manifest as ManifestKind}
use Rattle.st_gate.specs.declared.record.Record.{Record}
use Rattle.st_gate.specs.declared.scan.LogEnd.{LogEnd}
use Rattle.st_gate.specs.declared.scan.LogEnd.TheVariants.{Gate, Damage}
use Rattle.st_manifest.specs.Manifest.{edits_or_damage, group_record, manifest_read, manifest_replayed}
use Rattle.st_manifest.specs.Readings.{first_read, log_reading, reading_in_front, records_read}
use Rattle.st_manifest.specs.Replaying.{IsManifestDamage}

-- ---- records in front of damage

-- all records are of the kind
pub record AreAllOfKind (records : List Record) : Type 0 where
  pub values : List GroupRecord
  pub alone : records_read group_record records None ≡ LogFound values None
  pub damaged : (far : ℕ) → records_read group_record records (Some far) ≡ LogFound values (Some far)

-- or one isn't
pub record HasOther (records : List Record) : Type 0 where
  pub values : List GroupRecord
  pub at : ℕ
  pub alone : records_read group_record records None ≡ LogFound values (Some at)
  pub damaged : (far : ℕ) → records_read group_record records (Some far) ≡ LogFound values (Some at)

kinds_of : (records : List Record) → AreAllOfKind records ⊎ HasOther records
kinds_of [] = inl (record { values = []; alone = refl; damaged = λ far. refl })
kinds_of (one ∷ records) = go (group_record one) refl (kinds_of records)
  where
    front : LogReading GroupRecord → Option GroupRecord → LogReading GroupRecord
    front rest read = first_read one read rest

    go : (read : Option GroupRecord) → group_record one ≡ read → AreAllOfKind records ⊎ HasOther records → AreAllOfKind (one ∷ records) ⊎ HasOther (one ∷ records)
    go None e rest = inr (record {
      values = [];
      at = one.at;
      alone = ap (front (records_read group_record records None)) e;
      damaged = λ far. ap (front (records_read group_record records (Some far))) e;
    })
    go (Some value) e (inl all) = inl (record {
      values = value ∷ all.values;
      alone = ap (front (records_read group_record records None)) e ∙ ap (λ (r : LogReading GroupRecord). reading_in_front value r) all.alone;
      damaged = λ far. ap (front (records_read group_record records (Some far))) e ∙ ap (λ (r : LogReading GroupRecord). reading_in_front value r) (all.damaged far);
    })
    go (Some value) e (inr other) = inr (record {
      values = value ∷ other.values;
      at = other.at;
      alone = ap (front (records_read group_record records None)) e ∙ ap (λ (r : LogReading GroupRecord). reading_in_front value r) other.alone;
      damaged = λ far. ap (front (records_read group_record records (Some far))) e ∙ ap (λ (r : LogReading GroupRecord). reading_in_front value r) (other.damaged far);
    })

module _ (records : List Record) (far : ℕ) where
  -- damage in the records comes first
  pub damage_in_front : (at : ℕ) → manifest_replayed (records_read group_record records None) ≡ Err at → manifest_replayed (records_read group_record records (Some far)) ≡ Err at
  damage_in_front at is = ⊎_elim
      (λ (all : AreAllOfKind records). ap manifest_replayed (all.damaged far) ∙ go all.values (read_records manifest_reading_none all.values) (sym (ap manifest_replayed all.alone) ∙ is))
      (λ (other : HasOther records). ap manifest_replayed (other.damaged far) ∙ sym (ap manifest_replayed other.alone) ∙ is) (kinds_of records)
    where
      go : (values : List GroupRecord) (read : Result ManifestReading ℕ) → edits_or_damage values None read ≡ Err at → edits_or_damage values (Some far) read ≡ Err at
      go values (Err first) e = e
      go values (Ok reading) e = absurd (cc e)

  -- else it is that of the log
  pub damage_behind : (edits : List Edit) → manifest_replayed (records_read group_record records None) ≡ Ok edits → manifest_replayed (records_read group_record records (Some far)) ≡ Err far
  damage_behind edits is = ⊎_elim
      (λ (all : AreAllOfKind records). ap manifest_replayed (all.damaged far) ∙ go all.values (read_records manifest_reading_none all.values) (sym (ap manifest_replayed all.alone) ∙ is))
      (λ (other : HasOther records). absurd (never other.values other.at (read_records manifest_reading_none other.values) (sym (ap manifest_replayed other.alone) ∙ is))) (kinds_of records)
    where
      go : (values : List GroupRecord) (read : Result ManifestReading ℕ) → edits_or_damage values None read ≡ Ok edits → edits_or_damage values (Some far) read ≡ Err far
      go values (Err first) e = absurd (cc e)
      go values (Ok reading) e = refl

      never : (values : List GroupRecord) (at : ℕ) (read : Result ManifestReading ℕ) → edits_or_damage values (Some at) read ≡ Ok edits → ⊥
      never values at (Err first) e = absurd (cc e)
      never values at (Ok reading) e = absurd (cc e)

-- ---- a file

module _ (this : Option (List ℕ)) (records : List Record) where
  scan_reads : (end : LogEnd) → replayed (kind_bytes ManifestKind) this ≡ ended records end → manifest_replayed (manifest_read this) ≡ manifest_replayed (log_reading group_record (ended records end))
  scan_reads end is = go this is
    where
      go : (this : Option (List ℕ)) → replayed (kind_bytes ManifestKind) this ≡ ended records end → manifest_replayed (manifest_read this) ≡ manifest_replayed (log_reading group_record (ended records end))
      go None e = ap (λ log. manifest_replayed (log_reading group_record log)) e
      go (Some bytes) e = ap (λ log. manifest_replayed (log_reading group_record log)) e

  pub whole_file : (end : LogEnd) → replayed (kind_bytes ManifestKind) this ≡ ended records end → {log : _} → end ≡ Gate log → (edits : List Edit)
      → manifest_replayed (records_read group_record records None) ≡ Ok edits → manifest_replayed (manifest_read this) ≡ Ok edits
  whole_file end is {log} gate edits told = scan_reads (Gate log) (is ∙ ap (ended records) gate) ∙ told

  pub broken_file : (end : LogEnd) → replayed (kind_bytes ManifestKind) this ≡ ended records end → (far : ℕ) → end ≡ Damage far → (edits : List Edit)
      → manifest_replayed (records_read group_record records None) ≡ Ok edits → manifest_replayed (manifest_read this) ≡ Err far
  broken_file end is far damage edits told = scan_reads (Damage far) (is ∙ ap (ended records) damage) ∙ damage_behind records far edits told

  bad_file : (end : LogEnd) → replayed (kind_bytes ManifestKind) this ≡ ended records end → (at : ℕ) → manifest_replayed (records_read group_record records None) ≡ Err at → manifest_replayed (manifest_read this) ≡ Err at
  bad_file (Gate log) is at told = scan_reads (Gate log) is ∙ told
  bad_file (Damage far) is at told = scan_reads (Damage far) is ∙ damage_in_front records far at told

  pub bad_records : (end : LogEnd) → replayed (kind_bytes ManifestKind) this ≡ ended records end → (file : ℕ) (fault : ReplayFault)
      → IsManifestDamage file (records_read group_record records None) fault → IsManifestDamage file (manifest_read this) fault
  bad_records end is file (Damaged where_file at) told = (told.0, bad_file end is at told.1)
  bad_records end is file DiskFault told = tt
  bad_records end is file OutOfMemory told = tt
