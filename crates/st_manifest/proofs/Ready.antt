-- A manifest that is ready, before a group and after it.
use Rattle.std.proofs.Common.{◌≡◌, ℕ, List, [], ◌++◌, Option, Some, None, Ok, refl, sym, ◌∙◌, ap, subst}
use Rattle.std.specs.Prelude.{IsTrue, is_some}
use Rattle.st_device.specs.Disk.{DiskTold, OnlyFile}
use Rattle.st_device.proofs.File.{only_weaker}
use Rattle.st_gate.specs.Kind.{kind_bytes}
use Rattle.st_gate.specs.Log.{replayed}
use Rattle.st_gate.specs.Log.Replayed.{Good}
use Rattle.st_gate.specs.Rest.{IsAtRest, records}
use Rattle.st_gate.specs.declared.kind.LogKind.{LogKind}
use Rattle.st_gate.specs.declared.kind.LogKind.TheVariants.{Manifest as ManifestKind}
use Rattle.st_gate.specs.declared.record.Record.{Record}
use Rattle.manifest_edits.specs.Edits.{GroupRecord, ManifestReading, Named, edited_all, manifest_reading_none, read_records}
use Rattle.manifest_edits.specs.Logs.{HasSome, LogReading, LogFound, records_in, with_more}
use Rattle.manifest_edits.proofs.Reading.{whole_group}
use Rattle.st_manifest.specs.Behind.{HasLaid}
use Rattle.st_manifest.specs.Laid.{IsGroupPayloads, edits_in, group_at, laid_records}
use Rattle.st_manifest.specs.Manifest.{IsManifestReady, group_record, group_records, manifest_read, named_by, names}
use Rattle.st_manifest.specs.Readings.{records_read}
use Rattle.st_manifest.specs.declared.manifest.Manifest.{Manifest}
use Rattle.st_manifest.proofs.Groups.{good_reading, has_all, has_some, is_group}

-- a log of the kind that reads these records is ready
pub ready_of : (manifest : Manifest) (a : DiskTold) (groups : List GroupRecord) (named : Named) → manifest.log.kind ≡ ManifestKind → IsAtRest manifest.log a → manifest_read (a.reads manifest.log.file) ≡ LogFound groups None → read_records manifest_reading_none groups ≡ Ok (record { named = named; begun = [] })
    → IsManifestReady manifest a × (names manifest a ≡ named)
ready_of manifest a groups named kind rest reads right =
    let same : group_records manifest a ≡ groups = ap records_in reads in
    let read : read_records manifest_reading_none (group_records manifest a) ≡ Ok (record { named = named; begun = [] }) = ap (λ l. read_records manifest_reading_none l) same ∙ right in
    let name : names manifest a ≡ named = ap named_by read in (
      record {
        kind = kind;
        rest = rest;
        whole = reads ∙ ap (λ l. LogFound l None) (sym same);
        right = read ∙ ap (λ n. let reading : ManifestReading = record { named = n; begun = [] } in Ok reading) (sym name);
      },
      name,
    )

-- a new one
pub made_ready : (manifest : Manifest) (a : DiskTold) → manifest.log.kind ≡ ManifestKind → IsAtRest manifest.log a → records manifest.log a ≡ [] → IsManifestReady manifest a × (group_records manifest a ≡ [])
made_ready manifest a kind rest none =
    let good : replayed (kind_bytes ManifestKind) (a.reads manifest.log.file) ≡ Good [] manifest.log.at =
    ap (λ (k : LogKind). replayed (kind_bytes k) (a.reads manifest.log.file)) (sym kind) ∙ rest.open_gate ∙ ap (λ (l : List Record). Good l manifest.log.at) none in
    let reads : manifest_read (a.reads manifest.log.file) ≡ LogFound [] None = good_reading group_record (kind_bytes ManifestKind) (a.reads manifest.log.file) [] manifest.log.at good in
    let ready = ready_of manifest a [] Rattle.manifest_edits.specs.Edits.named_none kind rest reads refl in
    (ready.0, ap records_in reads)

after_of : {N : Type 0} (found : Option N) → IsTrue (is_some found) → (after : N) × (found ≡ Some after)
after_of None there = absurd (cc there)
after_of (Some after) there = (after, refl)

-- while a group is added
module _ (manifest : Manifest) (a : DiskTold) (ready : IsManifestReady manifest a) (payloads : List (List ℕ)) (group : IsGroupPayloads payloads) (right : IsTrue (is_some (edited_all (names manifest a) (edits_in payloads)))) where
  abbrev before : List GroupRecord
  before = group_records manifest a

  abbrev added : List GroupRecord
  added = group_at manifest.log.at payloads

  after : (named : Named) × (edited_all (names manifest a) (edits_in payloads) ≡ Some named)
  after = after_of (edited_all (names manifest a) (edits_in payloads)) right

  good : replayed (kind_bytes ManifestKind) (a.reads manifest.log.file) ≡ Good (records manifest.log a) manifest.log.at
  good = ap (λ (k : LogKind). replayed (kind_bytes k) (a.reads manifest.log.file)) (sym ready.kind) ∙ ready.rest.open_gate

  read_before : records_read group_record (records manifest.log a) None ≡ LogFound before None
  read_before = sym (good_reading group_record (kind_bytes ManifestKind) (a.reads manifest.log.file) (records manifest.log a) manifest.log.at good) ∙ ready.whole

  pub group_some : {b : DiskTold} → OnlyFile manifest.log.file (λ this. HasLaid (records manifest.log a) manifest.log.at payloads (replayed (kind_bytes manifest.log.kind) this)) a b
      → OnlyFile manifest.log.file (λ this. HasSome (manifest_read (a.reads manifest.log.file)) added (manifest_read this)) a b
  group_some {b} only = only_weaker manifest.log.file (λ this. HasLaid (records manifest.log a) manifest.log.at payloads (replayed (kind_bytes manifest.log.kind) this)) (λ this. HasSome (manifest_read (a.reads manifest.log.file)) added (manifest_read this))
      (λ this laid_records. has_some payloads group (names manifest a) after.0 manifest.log.at after.1 (records manifest.log a) before read_before this (a.reads manifest.log.file) ready.whole
      (subst (λ (k : LogKind). HasLaid (records manifest.log a) manifest.log.at payloads (replayed (kind_bytes k) this)) ready.kind laid_records)) only

  module _ {b : DiskTold} (new : Manifest) (kind : new.log.kind ≡ manifest.log.kind) (file : new.log.file ≡ manifest.log.file) (rest : IsAtRest new.log b) (all : records new.log b ≡ records manifest.log a ++ laid_records manifest.log.at payloads) where
    new_good : replayed (kind_bytes ManifestKind) (b.reads new.log.file) ≡ Good (records manifest.log a ++ laid_records manifest.log.at payloads) new.log.at
    new_good = ap (λ (k : LogKind). replayed (kind_bytes k) (b.reads new.log.file)) (sym (kind ∙ ready.kind)) ∙ rest.open_gate ∙ ap (λ (l : List Record). Good l new.log.at) all

    new_reads : manifest_read (b.reads new.log.file) ≡ LogFound (before ++ added) None
    new_reads = has_all payloads group (names manifest a) after.0 manifest.log.at after.1 (records manifest.log a) before read_before (b.reads new.log.file) new.log.at new_good

    new_right : read_records manifest_reading_none (before ++ added) ≡ Ok (record { named = after.0; begun = [] })
    new_right = whole_group (names manifest a) after.0 before added ready.right (is_group payloads group (names manifest a) after.0 manifest.log.at after.1)

    pub group_done : (manifest_read (b.reads manifest.log.file) ≡ with_more (manifest_read (a.reads manifest.log.file)) added) × IsManifestReady new b × (edited_all (names manifest a) (edits_in payloads) ≡ Some (names new b))
    group_done =
        let ended = ready_of new b (before ++ added) after.0 (kind ∙ ready.kind) rest new_reads new_right in (
          ap (λ (f : ℕ). manifest_read (b.reads f)) (sym file) ∙ new_reads ∙ ap (λ (r : LogReading GroupRecord). with_more r added) (sym ready.whole),
          ended.0,
          after.1 ∙ ap (λ n. Some n) (sym ended.1),
        )
