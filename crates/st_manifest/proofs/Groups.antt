-- What a group's payloads read as, behind the records of a manifest.
use Rattle.std.proofs.Common.{◌≡◌, inl, inr, ℕ, zero, suc, ◌<◌, ◌≤◌, ◌==◌, List, [], ◌∷◌, ◌++◌, length, map, flat_map, take, drop, Option, Some, None, Bool, true, false, cond, refl, sym, ◌∙◌, ap, subst, arith, take-append-drop, length-append}
use Rattle.std.specs.Prelude.{IsTrue, option_map}
use Rattle.std.specs.List.{AllByRecursion as Each}
use Rattle.std.proofs.lemmas.Bool.Decides.{nat_tests}
use Rattle.std.proofs.lemmas.List.{take_all}
use Rattle.st_code.specs.Fixed.{fixed32}
use Rattle.st_gate.specs.Kind.{kind_bytes}
use Rattle.st_gate.specs.Log.{IsBeforeOrAfter, gate_record, next_gate, replayed}
use Rattle.st_gate.specs.Log.Replayed.{Good}
use Rattle.st_gate.specs.declared.record.Record.{Record}
use Rattle.manifest_edits.specs.Edits.{Edit, GroupRecord, Named, edited_all, ends_with_last}
use Rattle.manifest_edits.specs.Groups.{IsGroup, cut_edits, edit_size, edits_size, record_room, records_counting_down}
use Rattle.manifest_edits.specs.Logs.{LogReading, LogAbsent, LogFound, HasAllOrNone, HasSome, with_more}
use Rattle.manifest_edits.proofs.Cut.{cut_fits, cut_group as group_is, cut_joined}
use Rattle.st_manifest.specs.Laid.{IsGroupPayloads, edits_in, gate_behind, group_at, group_bodies, group_payloads, laid_records, numbered_bodies, places}
use Rattle.st_manifest.specs.Manifest.{group_record, group_record_at, manifest_read}
use Rattle.st_manifest.proofs.Fits.{FitsEdit, all_fit}
use Rattle.st_manifest.specs.Payload.{fit_edits, payload_read, written_edits}
use Rattle.st_manifest.specs.Readings.{file_reading, first_read, log_reading, reading_in_front, records_read}
use Rattle.st_gate.specs.declared.kind.LogKind.TheVariants.{Manifest}
use Rattle.st_manifest.specs.Behind.{HasLaid}
use Rattle.st_manifest.proofs.Again.{payload_again, sizes_are}
use Rattle.st_manifest.proofs.Appending.{laid_length}
use Rattle.st_manifest.proofs.Laying.{edit_small, numbered_length}

-- ---- records behind records

-- these values in front
abbrev pub values_in_front : {X : Type 0} → List X → LogReading X → LogReading X
values_in_front [] reading = reading
values_in_front (x ∷ xs) reading = reading_in_front x (values_in_front xs reading)

front_whole : {X : Type 0} (x : X) (reading : LogReading X) (values : List X) → reading_in_front x reading ≡ LogFound values None → (rest : List X) × (reading ≡ LogFound rest None) × (values ≡ x ∷ rest)
front_whole x LogAbsent values is = absurd (cc is)
front_whole x (LogFound found end) values is = (found, cc, cc)

-- a record of a whole reading has a value
pub behind_whole : {X : Type 0} (read : Record → Option X) (records more : List Record) (end : Option ℕ) (values : List X) → records_read read records None ≡ LogFound values None → records_read read (records ++ more) end ≡ values_in_front values (records_read read more end)
behind_whole read [] more end values is = let none : values ≡ [] = cc is in ap (λ l. values_in_front l (records_read read more end)) (sym none)
behind_whole {X} read (one ∷ records) more end values is = go (read one) (λ rest whole. behind_whole read records more end rest whole) is
  where
    go : (found : Option X) → ((rest : List X) → records_read read records None ≡ LogFound rest None → records_read read (records ++ more) end ≡ values_in_front rest (records_read read more end))
        → first_read one found (records_read read records None) ≡ LogFound values None → first_read one found (records_read read (records ++ more) end) ≡ values_in_front values (records_read read more end)
    go None inner e = absurd (cc e)
    go (Some value) inner e =
        let parts = front_whole value (records_read read records None) values e in
        ap (λ (r : LogReading X). reading_in_front value r) (inner parts.0 parts.1)
        ∙ ap (λ (l : List X). values_in_front l (records_read read more end)) (sym parts.2)

pub in_front_found : {X : Type 0} (xs ys : List X) (end : Option ℕ) → values_in_front xs (LogFound ys end) ≡ LogFound (xs ++ ys) end
in_front_found [] ys end = refl
in_front_found (x ∷ xs) ys end = ap (λ r. reading_in_front x r) (in_front_found xs ys end)

-- a file that is a whole log
pub good_reading : {X : Type 0} (read : Record → Option X) (kind : List ℕ) (this : Option (List ℕ)) (records : List Record) (at : ℕ) → replayed kind this ≡ Good records at → file_reading read kind this ≡ records_read read records None
good_reading read kind None records at is = absurd (cc is)
good_reading read kind (Some bytes) records at is = ap (λ log. log_reading read log) is

-- ---- a group

same_number : (n : ℕ) → (n == n) ≡ true
same_number n = grind arith

lower_number : (n m : ℕ) → n < m → (n == m) ≡ false
lower_number n m lt = grind (arith, nat_tests)

-- records by the places that count
counting_same : (f g : ℕ → ℕ) (chunks : List (List Edit)) → ((n : ℕ) → n < length chunks → f n ≡ g n) → records_counting_down f chunks ≡ records_counting_down g chunks
counting_same f g [] same = refl
counting_same f g (one ∷ chunks) same =
    (λ i. (let next : GroupRecord = record { at = same (length chunks) (omega arith) i; left = length chunks; edits = one } in next) ∷ counting_same f g chunks (λ n lt. same n (omega (arith, lt))) i)

abbrev payloads_of : List (List Edit) → List (List ℕ)
payloads_of chunks = numbered_bodies (map written_edits chunks)

bodies_length : (chunks : List (List Edit)) → length (map written_edits chunks) ≡ length chunks
bodies_length [] = refl
bodies_length (one ∷ chunks) = ap suc (bodies_length chunks)

payloads_length : (chunks : List (List Edit)) → length (payloads_of chunks) ≡ length chunks
payloads_length chunks = numbered_length (map written_edits chunks) ∙ bodies_length chunks

-- each chunk fits a record
abbrev pub AllFit : List (List Edit) → Type 0
AllFit [] = Unit {0}
AllFit (one ∷ chunks) = (Each FitsEdit one × (edits_size one ≤ 4092)) × AllFit chunks

-- the first payload, read
first_payload_read : (one : List Edit) (chunks : List (List Edit)) → length chunks < 4294967295 → Each FitsEdit one → edits_size one ≤ 4092 → payload_read (fixed32 (length (map written_edits chunks)) ++ written_edits one) ≡ Some (length chunks, one)
first_payload_read one chunks few fits small =
    ap (λ (n : ℕ). payload_read (fixed32 n ++ written_edits one)) (bodies_length chunks) ∙ payload_again (length chunks) one (omega (arith, few)) fits small

places_head : (at : ℕ) (payload : List ℕ) (payloads : List (List ℕ)) (n : ℕ) → n ≡ length payloads → places at (payload ∷ payloads) n ≡ at
places_head at payload payloads n is = ap (λ (b : Bool). cond b at (places (next_gate at payload) payloads n)) (ap (λ (m : ℕ). m == length payloads) is ∙ same_number (length payloads))

places_tail : (at : ℕ) (payload : List ℕ) (payloads : List (List ℕ)) (n : ℕ) → n < length payloads → places at (payload ∷ payloads) n ≡ places (next_gate at payload) payloads n
places_tail at payload payloads n lt = ap (λ (b : Bool). cond b at (places (next_gate at payload) payloads n)) (lower_number n (length payloads) lt)

-- the records of the chunks, by their places
laid_chunks : ℕ → List (List Edit) → List GroupRecord
laid_chunks at chunks = records_counting_down (places at (payloads_of chunks)) chunks

chunk_record : ℕ → List Edit → List (List Edit) → GroupRecord
chunk_record at one chunks = record { at = at; left = length chunks; edits = one }

abbrev first_payload : List Edit → List (List Edit) → List ℕ
first_payload one chunks = fixed32 (length (map written_edits chunks)) ++ written_edits one

laid_step : (at : ℕ) (one : List Edit) (chunks : List (List Edit)) → laid_chunks at (one ∷ chunks) ≡ chunk_record at one chunks ∷ laid_chunks (next_gate at (first_payload one chunks)) chunks
unfolding laid_chunks chunk_record
laid_step at one chunks =
    (λ i. chunk_record (places_head at (first_payload one chunks) (payloads_of chunks) (length chunks) (sym (payloads_length chunks)) i) one chunks
    ∷ counting_same (places at (payloads_of (one ∷ chunks))) (places (next_gate at (first_payload one chunks)) (payloads_of chunks)) chunks (λ n lt. places_tail at (first_payload one chunks) (payloads_of chunks) n (let size = payloads_length chunks in omega (arith, size, lt))) i)

chunks_read : (at k : ℕ) (chunks : List (List Edit)) → AllFit chunks → length chunks < 4294967296 → records_read group_record (take k (laid_records at (payloads_of chunks))) None ≡ LogFound (take k (laid_chunks at chunks)) None
unfolding laid_chunks chunk_record
chunks_read at zero chunks fit few = refl
chunks_read at (suc k) [] fit few = refl
chunks_read at (suc k) (one ∷ chunks) fit few =
    ap (λ (found : Option (ℕ × List Edit)). read_first found) (first_payload_read one chunks (omega (arith, few)) fit.0.0 fit.0.1)
    ∙ ap (λ (r : LogReading GroupRecord). reading_in_front (chunk_record at one chunks) r) (chunks_read (next_gate at (first_payload one chunks)) k chunks fit.1 (omega (arith, few)))
    ∙ ap (λ (l : List GroupRecord). LogFound (take (suc k) l) None) (sym (laid_step at one chunks))
  where
    rest : LogReading GroupRecord
    rest = records_read group_record (take k (laid_records (next_gate at (first_payload one chunks)) (payloads_of chunks))) None

    read_first : Option (ℕ × List Edit) → LogReading GroupRecord
    read_first found = first_read (gate_record at (first_payload one chunks)) (option_map (group_record_at at) found) rest

-- ---- of a group's payloads

parts_fit : (chunks : List (List Edit)) → Each FitsEdit (flat_map (λ one. one) chunks) → Each (λ one. edits_size one ≤ 4092) chunks → AllFit chunks
parts_fit [] fits small = tt
parts_fit (one ∷ chunks) fits small = let parts = each_parts one (flat_map (λ one. one) chunks) fits in ((parts.0, small.0), parts_fit chunks parts.1 small.1)
  where
    each_parts : (xs ys : List Edit) → Each FitsEdit (xs ++ ys) → Each FitsEdit xs × Each FitsEdit ys
    each_parts [] ys all = (tt, all)
    each_parts (x ∷ xs) ys all = let more = each_parts xs ys all.1 in ((all.0, more.0), more.1)

each_small : (edits : List Edit) → Each FitsEdit edits → Each (λ edit. edit_size edit ≤ 4092) edits
each_small [] all = tt
each_small (edit ∷ edits) all = (let few = edit_small edit all.0 in omega (arith, few), each_small edits all.1)

pub chunks_fit : (edits : List Edit) → Each FitsEdit edits → AllFit (cut_edits record_room edits)
chunks_fit edits fits = parts_fit (cut_edits record_room edits) (subst (λ (l : List Edit). Each FitsEdit l) (sym (cut_joined record_room edits)) fits) (cut_fits record_room edits (each_small edits fits)).fit

-- the edits of the payloads are those of the chunks
pub edits_back : (chunks : List (List Edit)) → AllFit chunks → length chunks < 4294967296 → edits_in (payloads_of chunks) ≡ flat_map (λ one. one) chunks
edits_back [] fit few = refl
edits_back (one ∷ chunks) fit few =
    (λ i. read_edits (first_payload_read one chunks (omega (arith, few)) fit.0.0 fit.0.1 i) ++ edits_back chunks fit.1 (omega (arith, few)) i)
  where
    read_edits : Option (ℕ × List Edit) → List Edit
    read_edits found = elim found [ None ↦ [] | Some found ↦ found.1 ]

-- what `Group::new` makes
pub group_made : (edits : List Edit) (bodies payloads : List (List ℕ)) → IsTrue (fit_edits edits) → IsTrue (ends_with_last edits) → bodies ≡ group_bodies edits → payloads ≡ numbered_bodies bodies → length bodies ≤ 4294967295 → IsGroupPayloads payloads × (edits_in payloads ≡ edits)
group_made edits bodies payloads fits last bodies_are numbered few =
    let chunks = cut_edits record_room edits in
    let fit = chunks_fit edits (all_fit edits fits) in
    let is : payloads ≡ group_payloads edits = numbered ∙ ap (λ (l : List (List ℕ)). numbered_bodies l) bodies_are in
    let count : length bodies ≡ length chunks = ap length bodies_are ∙ bodies_length chunks in
    let back : edits_in payloads ≡ edits = ap (λ (l : List (List ℕ)). edits_in l) is ∙ edits_back chunks fit (omega (arith, count, few)) ∙ cut_joined record_room edits in (
      record {
        cut = is ∙ ap (λ (l : List Edit). group_payloads l) (sym back);
        fits = subst (λ (l : List Edit). IsTrue (fit_edits l)) (sym back) fits;
        last = subst (λ (l : List Edit). IsTrue (ends_with_last l)) (sym back) last;
        few = let size = ap length is in let numbers = payloads_length chunks in omega (arith, size, numbers, count, few);
      },
      back,
    )

counted_length : (f : ℕ → ℕ) (chunks : List (List Edit)) → length (records_counting_down f chunks) ≡ length chunks
counted_length f [] = refl
counted_length f (one ∷ chunks) = ap suc (counted_length f chunks)

module _ (payloads : List (List ℕ)) (group : IsGroupPayloads payloads) where
  abbrev chunks : List (List Edit)
  chunks = cut_edits record_room (edits_in payloads)

  few_chunks : length chunks < 4294967296
  few_chunks = let size = ap length group.cut in let numbers = payloads_length (cut_edits record_room (edits_in payloads)) in let few = group.few in omega (arith, size, numbers, few)

  -- the first so many of its records, read
  pub group_reads : (at k : ℕ) → records_read group_record (take k (laid_records at payloads)) None ≡ LogFound (take k (group_at at payloads)) None
  unfolding laid_chunks
  group_reads at k =
      ap (λ (l : List (List ℕ)). records_read group_record (take k (laid_records at l)) None) group.cut
      ∙ chunks_read at k (cut_edits record_room (edits_in payloads)) (chunks_fit (edits_in payloads) (all_fit (edits_in payloads) group.fits)) few_chunks
      ∙ ap (λ (l : List (List ℕ)). LogFound (take k (records_counting_down (places at l) (cut_edits record_room (edits_in payloads)))) None) (sym group.cut)

  -- each fits a record
  pub group_small : Each (λ payload. length payload ≤ 4194304) payloads
  group_small = subst (λ (l : List (List ℕ)). Each (λ payload. length payload ≤ 4194304) l) (sym group.cut) (payloads_small (cut_edits record_room (edits_in payloads)) (chunks_fit (edits_in payloads) (all_fit (edits_in payloads) group.fits)))
    where
      payloads_small : (chunks : List (List Edit)) → AllFit chunks → Each (λ payload. length payload ≤ 4194304) (payloads_of chunks)
      payloads_small [] fit = tt
      payloads_small (one ∷ chunks) fit = (let size = length-append (fixed32 (length (map written_edits chunks))) (written_edits one) in let sizes = sizes_are one in let small = fit.0.1 in omega (arith, size, sizes, small), payloads_small chunks fit.1)

  module _ (before after : Named) (at : ℕ) (right : edited_all before (edits_in payloads) ≡ Some after) where
    pub is_group : IsGroup before after (group_at at payloads)
    is_group = group_is before after (places at payloads) (edits_in payloads) right group.last

    -- behind the records of a whole manifest
    module _ (records : List Record) (before_records : List GroupRecord) (whole : records_read group_record records None ≡ LogFound before_records None) where
      pub some_read : (k : ℕ) → records_read group_record (records ++ take k (laid_records at payloads)) None ≡ LogFound (before_records ++ take k (group_at at payloads)) None
      some_read k =
          behind_whole group_record records (take k (laid_records at payloads)) None before_records whole
          ∙ ap (λ (r : LogReading GroupRecord). values_in_front before_records r) (group_reads at k)
          ∙ in_front_found before_records (take k (group_at at payloads)) None

      pub has_some : (this old : Option (List ℕ)) → manifest_read old ≡ LogFound before_records None → HasLaid records at payloads (replayed (kind_bytes Manifest) this) → HasSome (manifest_read old) (group_at at payloads) (manifest_read this)
      has_some this old reads (k, is) = record {
        front = take k (group_at at payloads);
        rest = drop k (group_at at payloads);
        cut = sym (take-append-drop k (group_at at payloads));
        is = good_reading group_record (kind_bytes Manifest) this (records ++ take k (laid_records at payloads)) (gate_behind at (take k payloads)) is ∙ some_read k
            ∙ ap (λ (r : LogReading GroupRecord). with_more r (take k (group_at at payloads))) (sym reads);
      }

      all_read : records_read group_record (records ++ laid_records at payloads) None ≡ LogFound (before_records ++ group_at at payloads) None
      all_read =
          behind_whole group_record records (laid_records at payloads) None before_records whole
          ∙ ap (λ (r : LogReading GroupRecord). values_in_front before_records r)
          (ap (λ (l : List Record). records_read group_record l None) (sym (take_all (length payloads) (laid_records at payloads) (let size = laid_length at payloads in omega (arith, size))))
          ∙ group_reads at (length payloads)
          ∙ ap (λ (l : List GroupRecord). LogFound l None) (take_all (length payloads) (group_at at payloads) (let size = ap length group.cut in let numbers = payloads_length chunks in let count = counted_length (places at payloads) chunks in omega (arith, size, numbers, count))))
          ∙ in_front_found before_records (group_at at payloads) None

      pub has_all : (this : Option (List ℕ)) (end : ℕ) → replayed (kind_bytes Manifest) this ≡ Good (records ++ laid_records at payloads) end → manifest_read this ≡ LogFound (before_records ++ group_at at payloads) None
      has_all this end is = good_reading group_record (kind_bytes Manifest) this (records ++ laid_records at payloads) end is ∙ all_read

-- ---- one record

-- behind a whole log: it is as it was, or has one value more
module _ {X : Type 0} (read : Record → Option X) (kind : List ℕ) (records : List Record) (values : List X) (at : ℕ) (payload : List ℕ) (value : X) (whole : records_read read records None ≡ LogFound values None) (is : read (gate_record at payload) ≡ Some value) where
  last_read : records_read read (gate_record at payload ∷ []) None ≡ LogFound (value ∷ []) None
  last_read = ap (λ (found : Option X). first_read (gate_record at payload) found (LogFound [] None)) is

  pub one_more : (this : Option (List ℕ)) (end : ℕ) → replayed kind this ≡ Good (records ++ gate_record at payload ∷ []) end → file_reading read kind this ≡ LogFound (values ++ value ∷ []) None
  one_more this end good =
      good_reading read kind this (records ++ gate_record at payload ∷ []) end good
      ∙ behind_whole read records (gate_record at payload ∷ []) None values whole
      ∙ ap (λ (r : LogReading X). values_in_front values r) last_read ∙ in_front_found values (value ∷ []) None

  pub all_or_none : (this old : Option (List ℕ)) → file_reading read kind old ≡ LogFound values None → IsBeforeOrAfter records payload at (replayed kind this) → HasAllOrNone (file_reading read kind old) (value ∷ []) (file_reading read kind this)
  all_or_none this old reads (inl before) = inl (good_reading read kind this records at before ∙ whole ∙ sym reads)
  all_or_none this old reads (inr after) = inr (one_more this (next_gate at payload) after ∙ ap (λ (r : LogReading X). with_more r (value ∷ [])) (sym reads))
