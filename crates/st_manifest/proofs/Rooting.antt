-- The root, before a record and after it.
use Rattle.std.proofs.Common.{◌≡◌, inl, inr, ℕ, suc, ◌+◌, ◌<◌, ◌≤◌, Bool, true, false, List, [], ◌∷◌, ◌++◌, length, drop, get_or, Option, Some, None, Ok, Err, refl, sym, ◌∙◌, ap, subst, arith}
use Rattle.std.specs.Prelude.{◌||◌, Contains, is_none, nat_lt, option_map}
use Rattle.std.specs.List.{list_any}
use Rattle.std.proofs.lemmas.Bool.{cases_lt}
use Rattle.std.proofs.lemmas.Bool.Decides.{nat_tests}
use Rattle.std.proofs.lemmas.List.{drop_all, drop_more}
use Rattle.st_code.specs.Fixed.{fixed64}
use Rattle.st_device.specs.Disk.{DiskTold, Image, OnlyFile}
use Rattle.st_device.proofs.File.{only_weaker}
use Rattle.st_gate.specs.Damage.{ended}
use Rattle.st_gate.specs.Kind.{kind_bytes}
use Rattle.st_gate.specs.declared.fault.ReplayFault.TheVariants.{Damaged}
use Rattle.st_gate.specs.declared.scan.LogEnd.{LogEnd}
use Rattle.st_gate.specs.declared.scan.LogEnd.TheVariants.{Gate, Damage}
use Rattle.st_gate.specs.Log.{IsBeforeOrAfter, gate_record, replayed}
use Rattle.st_gate.specs.Log.Replayed.{Good}
use Rattle.st_gate.specs.Rest.{IsAtRest, records}
use Rattle.st_gate.specs.declared.gate.GateLog.{GateLog}
use Rattle.st_gate.specs.declared.kind.LogKind.{LogKind}
use Rattle.st_gate.specs.declared.kind.LogKind.TheVariants.{Root}
use Rattle.st_gate.specs.declared.record.Record.{Record}
use Rattle.manifest_edits.specs.Logs.{HasAllOrNone, LogReading, LogAbsent, LogFound, records_in, with_more}
use Rattle.st_manifest.specs.Readings.{first_read, log_reading, reading_in_front, records_read}
use Rattle.st_manifest.specs.Root.{IsRootDamage, IsRootReady, flag_byte, root_fields, root_last, root_last_after, root_payload, root_read, root_record, written_root}
use Rattle.st_manifest.proofs.Again.{byte_there, file_there, fixed32_there}
use Rattle.st_manifest.proofs.Groups.{all_or_none, good_reading, one_more}

flag_again : (file : ℕ) (behind : Bool) → root_fields (Some 1) (Some file) (Some (flag_byte behind)) ≡ Some (file, behind)
flag_again file true = refl
flag_again file false = refl

-- a payload is read again
pub root_again : (file : ℕ) (behind : Bool) → file < 18446744073709551615 → root_payload (written_root file behind) ≡ Some (file, behind)
unfolding root_payload
root_again file behind lt =
    let bytes = written_root file behind in
    (λ i. root_fields (fixed32_there bytes 0 1 (fixed64 file ++ flag_byte behind ∷ []) refl (omega arith) i) (file_there bytes 4 file (flag_byte behind ∷ []) refl lt i) (byte_there bytes 12 (flag_byte behind) [] refl i))
    ∙ flag_again file behind

-- a new one
pub root_made : (root : GateLog) (a : DiskTold) → root.kind ≡ Root → IsAtRest root a → records root a ≡ [] → IsRootReady root a × (root_read (a.reads root.file) ≡ LogFound [] None)
root_made root a kind rest none =
    let reads : root_read (a.reads root.file) ≡ LogFound [] None = good_reading root_record (kind_bytes Root) (a.reads root.file) [] root.at
    (ap (λ (k : LogKind). replayed (kind_bytes k) (a.reads root.file)) (sym kind) ∙ rest.open_gate ∙ ap (λ (l : List Record). Good l root.at) none) in
    (record { kind = kind; rest = rest; whole = reads ∙ ap (λ (r : LogReading (ℕ × Bool)). LogFound (records_in r) None) (sym reads) }, reads)

-- while a record is added
module _ (root : GateLog) (a : DiskTold) (ready : IsRootReady root a) (file : ℕ) (behind : Bool) (lt : file < 18446744073709551615) where
  abbrev before : List (ℕ × Bool)
  before = records_in (root_read (a.reads root.file))

  good : replayed (kind_bytes Root) (a.reads root.file) ≡ Good (records root a) root.at
  good = ap (λ (k : LogKind). replayed (kind_bytes k) (a.reads root.file)) (sym ready.kind) ∙ ready.rest.open_gate

  read_before : records_read root_record (records root a) None ≡ LogFound before None
  read_before = sym (good_reading root_record (kind_bytes Root) (a.reads root.file) (records root a) root.at good) ∙ ready.whole

  pub root_some : {b : DiskTold} → OnlyFile root.file (λ this. IsBeforeOrAfter (records root a) (written_root file behind) root.at (replayed (kind_bytes root.kind) this)) a b
      → OnlyFile root.file (λ this. HasAllOrNone (root_read (a.reads root.file)) ((file, behind) ∷ []) (root_read this)) a b
  root_some {b} only = only_weaker root.file (λ this. IsBeforeOrAfter (records root a) (written_root file behind) root.at (replayed (kind_bytes root.kind) this)) (λ this. HasAllOrNone (root_read (a.reads root.file)) ((file, behind) ∷ []) (root_read this))
      (λ this either. all_or_none root_record (kind_bytes Root) (records root a) before root.at (written_root file behind) (file, behind) read_before (root_again file behind lt) this (a.reads root.file) ready.whole
      (subst (λ (k : LogKind). IsBeforeOrAfter (records root a) (written_root file behind) root.at (replayed (kind_bytes k) this)) ready.kind either)) only

  module _ {b : DiskTold} (new : GateLog) (kind : new.kind ≡ root.kind) (same : new.file ≡ root.file) (rest : IsAtRest new b) (all : records new b ≡ records root a ++ gate_record root.at (written_root file behind) ∷ []) where
    new_reads : root_read (b.reads new.file) ≡ LogFound (before ++ (file, behind) ∷ []) None
    new_reads = one_more root_record (kind_bytes Root) (records root a) before root.at (written_root file behind) (file, behind) read_before (root_again file behind lt) (b.reads new.file) new.at
        (ap (λ (k : LogKind). replayed (kind_bytes k) (b.reads new.file)) (sym (kind ∙ ready.kind)) ∙ rest.open_gate ∙ ap (λ (l : List Record). Good l new.at) all)

    pub root_done : (root_read (b.reads root.file) ≡ with_more (root_read (a.reads root.file)) ((file, behind) ∷ [])) × IsRootReady new b
    root_done = (
      ap (λ (f : ℕ). root_read (b.reads f)) (sym same) ∙ new_reads ∙ ap (λ (r : LogReading (ℕ × Bool)). with_more r ((file, behind) ∷ [])) (sym ready.whole),
      record { kind = kind ∙ ready.kind; rest = rest; whole = new_reads ∙ ap (λ (r : LogReading (ℕ × Bool)). LogFound (records_in r) None) (sym new_reads) },
    )

-- ---- record by record

in_front_last : (last : Option (ℕ × Bool)) (value : ℕ × Bool) (reading : LogReading (ℕ × Bool)) → root_last_after last (reading_in_front value reading) ≡ root_last_after (Some value) reading
in_front_last last value LogAbsent = refl
in_front_last last value (LogFound values None) = refl
in_front_last last value (LogFound values (Some at)) = refl

module _ (records : List Record) (i : ℕ) (last : Option (ℕ × Bool)) (so_far : root_last (records_read root_record records None) ≡ root_last_after last (records_read root_record (drop i records) None)) where
  pub root_ends : length records ≤ i → root_last (records_read root_record records None) ≡ Ok last
  root_ends past = so_far ∙ ap (λ (l : List Record). root_last_after last (records_read root_record l None)) (drop_all i records past)

  module _ (one : Record) (inside : i < length records) (is : one ≡ get_or records i one) where
    here : root_last (records_read root_record records None) ≡ root_last_after last (first_read one (root_record one) (records_read root_record (drop (i + 1) records) None))
    here = so_far ∙ ap (λ (l : List Record). root_last_after last (records_read root_record l None)) (drop_more records i one inside ∙ ap (λ (r : Record). r ∷ drop (i + 1) records) (sym is))

    pub root_stops : root_payload one.payload ≡ None → root_last (records_read root_record records None) ≡ Err one.at
    root_stops none = here ∙ ap (λ (o : Option (ℕ × Bool)). root_last_after last (first_read one o (records_read root_record (drop (i + 1) records) None))) none

    pub root_goes_on : (value : ℕ × Bool) → root_payload one.payload ≡ Some value → root_last (records_read root_record records None) ≡ root_last_after (Some value) (records_read root_record (drop (i + 1) records) None)
    root_goes_on value some = here ∙ ap (λ (o : Option (ℕ × Bool)). root_last_after last (first_read one o (records_read root_record (drop (i + 1) records) None))) some ∙ in_front_last last value (records_read root_record (drop (i + 1) records) None)

-- ---- files above 1

-- one of these numbers is above 1
pub one_above : (names : List ℕ) → list_any (λ name. nat_lt 1 name) names ≡ true → (n : ℕ) × (1 < n) × Contains names n
one_above [] is = absurd (cc is)
one_above (name ∷ names) is = elim (cases_lt 1 name) [
  | inl above ↦ (name, above, (0, omega arith, refl))
  | inr below ↦
      let rest : list_any (λ name. nat_lt 1 name) names ≡ true = ap (λ (b : Bool). b || list_any (λ name. nat_lt 1 name) names) (sym (not_above name below)) ∙ is in
      let found = one_above names rest in
      (found.0, found.1, (suc found.2.0, (let inside = found.2.1 in omega (arith, inside)), found.2.2))
]
  where
    not_above : (n : ℕ) → n ≤ 1 → nat_lt 1 n ≡ false
    not_above n le = grind (arith, nat_tests)

-- ---- the whole root

-- the first record that isn't of the kind is damage in front of any other
pub bad_first : (last : Option (ℕ × Bool)) (records : List Record) (at far : ℕ) → root_last_after last (records_read root_record records None) ≡ Err at → root_last_after last (records_read root_record records (Some far)) ≡ Err at
bad_first last [] at far is = absurd (cc is)
bad_first last (one ∷ records) at far is = go (root_record one) (λ value. bad_first (Some value) records at far) is
  where
    go : (found : Option (ℕ × Bool)) → ((value : ℕ × Bool) → root_last_after (Some value) (records_read root_record records None) ≡ Err at → root_last_after (Some value) (records_read root_record records (Some far)) ≡ Err at)
        → root_last_after last (first_read one found (records_read root_record records None)) ≡ Err at → root_last_after last (first_read one found (records_read root_record records (Some far))) ≡ Err at
    go None inner e = e
    go (Some value) inner e = in_front_last last value (records_read root_record records (Some far)) ∙ inner value (sym (in_front_last last value (records_read root_record records None)) ∙ e)

-- damage stands behind records of the kind
pub good_first : (last : Option (ℕ × Bool)) (records : List Record) (found : Option (ℕ × Bool)) (far : ℕ) → root_last_after last (records_read root_record records None) ≡ Ok found → root_last_after last (records_read root_record records (Some far)) ≡ Err far
good_first last [] found far is = refl
good_first last (one ∷ records) found far is = go (root_record one) (λ value. good_first (Some value) records found far) is
  where
    go : (read : Option (ℕ × Bool)) → ((value : ℕ × Bool) → root_last_after (Some value) (records_read root_record records None) ≡ Ok found → root_last_after (Some value) (records_read root_record records (Some far)) ≡ Err far)
        → root_last_after last (first_read one read (records_read root_record records None)) ≡ Ok found → root_last_after last (first_read one read (records_read root_record records (Some far))) ≡ Err far
    go None inner e = absurd (cc e)
    go (Some value) inner e = in_front_last last value (records_read root_record records (Some far)) ∙ inner value (sym (in_front_last last value (records_read root_record records None)) ∙ e)

-- a file's records, up to where a scan ends
scan_reads : (this : Option (List ℕ)) (records : List Record) (end : LogEnd) → replayed (kind_bytes Root) this ≡ ended records end → (at : ℕ) → root_last (log_reading root_record (ended records end)) ≡ Err at → root_last (root_read this) ≡ Err at
scan_reads (Some bytes) records end is at bad = ap (λ log. root_last (log_reading root_record log)) is ∙ bad
scan_reads None records (Gate log) is at bad = absurd (cc is)
scan_reads None records (Damage far) is at bad = ap (λ log. root_last (log_reading root_record log)) is ∙ bad

pub bad_root : (this : Option (List ℕ)) (records : List Record) (end : LogEnd) (at : ℕ) → replayed (kind_bytes Root) this ≡ ended records end → root_last (records_read root_record records None) ≡ Err at → root_last (root_read this) ≡ Err at
bad_root this records (Gate log) at is bad = scan_reads this records (Gate log) is at bad
bad_root this records (Damage far) at is bad = scan_reads this records (Damage far) is at (bad_first None records at far bad)

pub broken_root : (this : Option (List ℕ)) (records : List Record) (found : Option (ℕ × Bool)) (far : ℕ) → replayed (kind_bytes Root) this ≡ ended records (Damage far) → root_last (records_read root_record records None) ≡ Ok found → root_last (root_read this) ≡ Err far
broken_root this records found far is good = scan_reads this records (Damage far) is far (good_first None records found far good)

pub root_damage : (image : Image) (mark : Option (List ℕ)) (found : Option ℕ) (at : ℕ) → found ≡ option_map length mark → is_none found ≡ false → root_last (root_read (image 0)) ≡ Err at → IsRootDamage image mark (Damaged 0 at)
root_damage image None found at told there bad = absurd (cc (sym there ∙ ap (λ (o : Option ℕ). is_none o) told))
root_damage image (Some mark) found at told there bad = (refl, bad)
