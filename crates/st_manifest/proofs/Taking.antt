-- A manifest's records are taken one after the other.
use Rattle.std.proofs.Common.{◌≡◌, ℕ, ◌-◌, ◌+◌, ◌<◌, ◌≤◌, Bool, true, false, cond, ◌==◌, List, [], ◌∷◌, ◌++◌, length, map, take, drop, get_or, Option, Some, None, Result, Ok, Err, refl, sym, ◌∙◌, ap, subst, arith, append-nil, append_assoc, length-append}
use Rattle.std.specs.Prelude.{option_map}
use Rattle.std.proofs.lemmas.Bool.Decides.{nat_tests}
use Rattle.std.proofs.lemmas.List.{drop-append-le, drop-map, drop_all, drop_at, drop_more, length-map, take-append-drop, take-append-le, take-map, take_all}
use Rattle.manifest_edits.specs.Edits.{Edit as NamedEdit, GroupRecord, ManifestReading, Named, edited_all, edited_by, edits_of, ends_with_last, follows_in_group, group_closed, group_edited, manifest_reading_none, read_record, read_records}
use Rattle.manifest_edits.specs.Logs.{LogReading, LogAbsent, LogFound}
use Rattle.manifest_edits.proofs.Reading.{assoc_one, reading_of}
use Rattle.named_index.specs.declared.index.NamedIndex.{NamedIndex}
use Rattle.st_gate.specs.declared.record.Record.{Record}
use Rattle.st_manifest.specs.Edit.{as_edit}
use Rattle.st_manifest.specs.Judging.{IsNamedSoFar, edited_next}
use Rattle.st_manifest.specs.Manifest.{edits_or_damage, group_record, group_record_at, manifest_replayed, whole_records}
use Rattle.st_manifest.specs.Payload.{payload_read}
use Rattle.st_manifest.specs.Readings.{first_read, reading_in_front, records_read}
use Rattle.st_manifest.specs.Reads.{IsPayloadRead}
use Rattle.st_manifest.specs.Replaying.{HasRead, HasTaken, IsReplaying, follows_left, found_with, group_damage}
use Rattle.st_manifest.specs.declared.edit.Edit.{Edit}
use Rattle.st_manifest.specs.declared.replay.Replaying.{Replaying}
use Rattle.st_manifest.proofs.Atomic.{edits_append}

-- ---- one record behind others

pub follows_behind : (begun : List GroupRecord) (one next : GroupRecord) → follows_in_group (begun ++ one ∷ []) next ≡ (one.left == (next.left + 1))
follows_behind [] one next = refl
follows_behind (a ∷ []) one next = refl
follows_behind (a ∷ b ∷ begun) one next = follows_behind (b ∷ begun) one next

pub edited_behind : (named : Named) (begun : List GroupRecord) (next : GroupRecord) → edited_by named (begun ++ next ∷ []) ≡ edited_next (edited_by named begun) next
edited_behind named [] next = refl
edited_behind named (one ∷ begun) next = go (edited_all named one.edits) (λ after. edited_behind after begun next)
  where
    go : (found : Option Named) → ((after : Named) → edited_by after (begun ++ next ∷ []) ≡ edited_next (edited_by after begun) next)
        → (elim found [ None ↦ Err one.at | Some after ↦ edited_by after (begun ++ next ∷ []) ]) ≡ edited_next (elim found [ None ↦ Err one.at | Some after ↦ edited_by after begun ]) next
    go None inner = refl
    go (Some after) inner = inner after

-- ---- edits behind others

module _ (old new : List Edit) (more : List NamedEdit) (added : map as_edit new ≡ map as_edit old ++ more) where
  pub no_fewer : length old ≤ length new
  no_fewer =
      let one = ap length added ∙ length-append (map as_edit old) more in
      let two = length-map new as_edit in
      let three = length-map old as_edit in
      omega (arith, one, two, three)

  pub added_are : map as_edit (drop (length old) new) ≡ more
  added_are = sym (drop-map as_edit (length old) new) ∙ ap (λ (l : List NamedEdit). drop (length old) l) added ∙ drop_at (map as_edit old) more (length old) (length-map old as_edit)

  module _ (whole : ℕ) (within : whole ≤ length old) where
    inside : whole ≤ length (map as_edit old)
    inside = let size = length-map old as_edit in omega (arith, size, within)

    pub front_stays : map as_edit (take whole new) ≡ map as_edit (take whole old)
    front_stays = sym (take-map as_edit whole new) ∙ ap (λ (l : List NamedEdit). take whole l) added ∙ take-append-le whole (map as_edit old) more inside ∙ take-map as_edit whole old

    pub rest_grows : map as_edit (drop whole new) ≡ map as_edit (drop whole old) ++ more
    rest_grows = sym (drop-map as_edit whole new) ∙ ap (λ (l : List NamedEdit). drop whole l) added ∙ drop-append-le whole (map as_edit old) more inside ∙ ap (λ (l : List NamedEdit). l ++ more) (drop-map as_edit whole old)

    pub still_within : whole ≤ length new
    still_within = let more = no_fewer in omega (arith, more, within)

pub both_parts : (whole : ℕ) (edits : List Edit) → map as_edit edits ≡ map as_edit (take whole edits) ++ map as_edit (drop whole edits)
both_parts whole edits =
    sym (take-append-drop whole (map as_edit edits)) ∙ (λ i. take-map as_edit whole edits i ++ drop-map as_edit whole edits i)

one_record : (next : GroupRecord) → edits_of (next ∷ []) ≡ next.edits
one_record next = append-nil next.edits

pub edits_behind : (begun : List GroupRecord) (next : GroupRecord) → edits_of (begun ++ next ∷ []) ≡ edits_of begun ++ next.edits
edits_behind begun next = edits_append begun (next ∷ []) ∙ ap (λ (l : List NamedEdit). edits_of begun ++ l) (one_record next)

-- ---- a record is taken

abbrev pub closed_reading : ManifestReading → GroupRecord → Result Named ℕ → Result ManifestReading ℕ
closed_reading reading next so_far =
    group_closed (elim so_far [ Err fault ↦ Err fault | Ok after ↦ cond (ends_with_last (edits_of (reading.begun ++ next ∷ []))) (Ok after) (Err next.at) ])

abbrev pub read_so : ManifestReading → GroupRecord → Bool → Bool → Result Named ℕ → Result ManifestReading ℕ
read_so reading next follows ends so_far =
    cond follows (cond ends (closed_reading reading next so_far) (Ok (reading_of reading.named (reading.begun ++ next ∷ [])))) (Err next.at)

module _ (reading : ManifestReading) (found : List NamedEdit) (next : GroupRecord) (new : Replaying) (damage : Option ℕ) where
  reads_as : (follows ends : Bool) (so_far : Result Named ℕ) → follows_in_group reading.begun next ≡ follows → (next.left == 0) ≡ ends → edited_by reading.named (reading.begun ++ next ∷ []) ≡ so_far
      → read_record reading next ≡ read_so reading next follows ends so_far
  reads_as follows ends so_far f e s = λ i. read_so reading next (f i) (e i) (s i)

  pub taken_apart : follows_in_group reading.begun next ≡ false → damage ≡ Some next.at → HasRead new damage (found_with found reading.begun next) (read_record reading next)
  taken_apart apart is = subst (λ (r : Result ManifestReading ℕ). HasRead new damage (found_with found reading.begun next) r)
      (sym (reads_as false (next.left == 0) (edited_by reading.named (reading.begun ++ next ∷ [])) apart refl refl)) is

  pub taken_begun : follows_in_group reading.begun next ≡ true → (next.left == 0) ≡ false → damage ≡ None → IsReplaying new (reading_of reading.named (reading.begun ++ next ∷ [])) found
      → HasRead new damage (found_with found reading.begun next) (read_record reading next)
  taken_begun follows more none is =
      subst (λ (r : Result ManifestReading ℕ). HasRead new damage (found_with found reading.begun next) r)
      (sym (reads_as true false (edited_by reading.named (reading.begun ++ next ∷ [])) follows more refl))
      (none, subst (λ (l : List NamedEdit). IsReplaying new (reading_of reading.named (reading.begun ++ next ∷ [])) l) (sym (ap (λ (b : Bool). cond b (found ++ edits_of (reading.begun ++ next ∷ [])) found) more)) is)

  -- with the last record of a group
  module _ (follows : follows_in_group reading.begun next ≡ true) (ends : (next.left == 0) ≡ true) (group : List NamedEdit) (is_group : group ≡ edits_of (reading.begun ++ next ∷ []))
      (counted : new.whole ≡ length new.edits) (all : map as_edit new.edits ≡ found ++ group) (left : new.left ≡ None) where
    with_all : found_with found reading.begun next ≡ found ++ edits_of (reading.begun ++ next ∷ [])
    with_all = ap (λ (b : Bool). cond b (found ++ edits_of (reading.begun ++ next ∷ [])) found) ends

    closed_is : (after : Named) → IsNamedSoFar new.index new.fault (Ok after) → IsReplaying new (reading_of after []) (found_with found reading.begun next)
    closed_is after named = record {
      within = omega (arith, counted);
      whole = ap (λ (l : List Edit). map as_edit l) (take_all new.whole new.edits (omega (arith, counted))) ∙ all ∙ ap (λ (l : List NamedEdit). found ++ l) is_group ∙ sym with_all;
      begun = ap (λ (l : List Edit). map as_edit l) (drop_all new.whole new.edits (omega (arith, counted)));
      follows = λ other. ap (λ (l : Option ℕ). follows_left l other.left) (sym left);
      named = named;
    }

    ended_so : (fault : Option ℕ) (so_far : Result Named ℕ) (last : Bool) → IsNamedSoFar new.index fault so_far → new.fault ≡ fault
        → damage ≡ elim fault [ Some at ↦ Some at | None ↦ cond last None (Some next.at) ]
        → HasRead new damage (found_with found reading.begun next) (group_closed (elim so_far [ Err at ↦ Err at | Ok after ↦ cond last (Ok after) (Err next.at) ]))
    ended_so (Some at) (Ok after) last named same is = absurd named
    ended_so (Some at) (Err first) last named same is = is ∙ ap (λ (n : ℕ). Some n) named
    ended_so None (Err first) last named same is = absurd named
    ended_so None (Ok after) true named same is = (is, closed_is after (subst (λ (f : Option ℕ). IsNamedSoFar new.index f (Ok after)) (sym same) named))
    ended_so None (Ok after) false named same is = is

    damage_is : (fault : Option ℕ) → group_damage fault group next.at ≡ elim fault [ Some at ↦ Some at | None ↦ cond (ends_with_last (edits_of (reading.begun ++ next ∷ []))) None (Some next.at) ]
    damage_is (Some at) = refl
    damage_is None = ap (λ (l : List NamedEdit). cond (ends_with_last l) None (Some next.at)) is_group

    pub taken_whole : IsNamedSoFar new.index new.fault (edited_by reading.named (reading.begun ++ next ∷ [])) → damage ≡ group_damage new.fault group next.at
        → HasRead new damage (found_with found reading.begun next) (read_record reading next)
    taken_whole named is =
        subst (λ (r : Result ManifestReading ℕ). HasRead new damage (found_with found reading.begun next) r)
        (sym (reads_as true true (edited_by reading.named (reading.begun ++ next ∷ [])) follows ends refl))
        (ended_so new.fault (edited_by reading.named (reading.begun ++ next ∷ [])) (ends_with_last (edits_of (reading.begun ++ next ∷ []))) named refl (is ∙ damage_is new.fault))

-- what a record's payload says
pub taken_of : (new : Replaying) (damage : Option ℕ) (at : ℕ) (reading : ManifestReading) (found : List NamedEdit) (read : Option GroupRecord) (next : GroupRecord) → read ≡ Some next
    → HasRead new damage (found_with found reading.begun next) (read_record reading next) → HasTaken new damage at reading found read
taken_of new damage at reading found read next is taken = subst (λ (r : Option GroupRecord). HasTaken new damage at reading found r) (sym is) taken

pub taken_none : (new : Replaying) (damage : Option ℕ) (at : ℕ) (reading : ManifestReading) (found : List NamedEdit) (read : Option GroupRecord) → read ≡ None → damage ≡ Some at → HasTaken new damage at reading found read
taken_none new damage at reading found read is told = subst (λ (r : Option GroupRecord). HasTaken new damage at reading found r) (sym is) told

-- ---- what was read of a payload

pub nothing_read : (old new : List Edit) (o : Option (ℕ × List NamedEdit)) → IsPayloadRead None old new o → o ≡ None
nothing_read old new None is = refl
nothing_read old new (Some found) is = absurd is

pub something_read : (left : ℕ) (old new : List Edit) (o : Option (ℕ × List NamedEdit)) → IsPayloadRead (Some left) old new o
    → (edits : List NamedEdit) × ((o ≡ Some (left, edits)) × (map as_edit new ≡ map as_edit old ++ edits))
something_read left old new None is = absurd is
something_read left old new (Some found) is = (found.1, (ap (λ (n : ℕ). paired n) (sym is.0), is.1))
  where
    paired : ℕ → Option (ℕ × List NamedEdit)
    paired n = Some (n, found.1)

-- ---- one record is taken

module _ (old : Replaying) (one : Record) (left : ℕ) (edits : List Edit) (read : IsPayloadRead (Some left) old.edits edits (payload_read one.payload))
    (reading : ManifestReading) (found : List NamedEdit) (so : IsReplaying old reading found) where
  abbrev edits_read : List NamedEdit
  edits_read = (something_read left old.edits edits (payload_read one.payload) read).0

  added : map as_edit edits ≡ map as_edit old.edits ++ edits_read
  added = (something_read left old.edits edits (payload_read one.payload) read).1.1

  abbrev record_read : GroupRecord
  record_read = record { at = one.at; left = left; edits = edits_read }

  next_is : group_record one ≡ Some record_read
  next_is = ap (λ (o : Option (ℕ × List NamedEdit)). option_map (group_record_at one.at) o) (something_read left old.edits edits (payload_read one.payload) read).1.0

  pub take_apart : (new : Replaying) (damage : Option ℕ) → follows_left old.left left ≡ false → damage ≡ Some one.at → HasTaken new damage one.at reading found (group_record one)
  take_apart new damage apart is = taken_of new damage one.at reading found (group_record one) record_read next_is (taken_apart reading found record_read new damage (so.follows record_read ∙ apart) is)

  module _ (follows : follows_left old.left left ≡ true) (index : NamedIndex) (fault : Option ℕ)
      (part : List Edit) (is_part : part ≡ drop (length old.edits) edits)
      (judged : (so_far : Result Named ℕ) (k : ℕ) → IsNamedSoFar old.index old.fault so_far → IsNamedSoFar index fault (edited_next so_far (record { at = one.at; left = k; edits = map as_edit part }))) where
    comes : follows_in_group reading.begun record_read ≡ true
    comes = so.follows record_read ∙ follows

    named_now : IsNamedSoFar index fault (edited_by reading.named (reading.begun ++ record_read ∷ []))
    named_now =
        subst (λ (r : Result Named ℕ). IsNamedSoFar index fault r) (sym (edited_behind reading.named reading.begun record_read))
        (subst (λ (l : List NamedEdit). IsNamedSoFar index fault (edited_next (edited_by reading.named reading.begun) (record { at = one.at; left = left; edits = l })))
        (ap (λ (l : List Edit). map as_edit l) is_part ∙ added_are old.edits edits edits_read added) (judged (edited_by reading.named reading.begun) left so.named))

    group_is : map as_edit (drop old.whole edits) ≡ edits_of (reading.begun ++ record_read ∷ [])
    group_is =
        rest_grows old.edits edits edits_read added old.whole so.within ∙ ap (λ (l : List NamedEdit). l ++ edits_read) so.begun
        ∙ sym (edits_behind reading.begun record_read)

    pub take_begun : (left == 0) ≡ false → HasTaken (record { edits = edits; whole = old.whole; left = Some left; fault = fault; index = index }) None one.at reading found (group_record one)
    take_begun goes_on =
        let new : Replaying = record { edits = edits; whole = old.whole; left = Some left; fault = fault; index = index } in
        taken_of new None one.at reading found (group_record one) record_read next_is (taken_begun reading found record_read new None comes goes_on refl (record {
          within = still_within old.edits edits edits_read added old.whole so.within;
          whole = front_stays old.edits edits edits_read added old.whole so.within ∙ so.whole;
          begun = group_is;
          follows = λ other. follows_behind reading.begun record_read other;
          named = named_now;
        }))

    pub take_whole : (left == 0) ≡ true → (count : ℕ) → count ≡ length edits → (damage : Option ℕ) → damage ≡ group_damage fault (map as_edit (drop old.whole edits)) one.at
        → HasTaken (record { edits = edits; whole = count; left = None; fault = fault; index = index }) damage one.at reading found (group_record one)
    take_whole ends count counted damage is =
        let new : Replaying = record { edits = edits; whole = count; left = None; fault = fault; index = index } in
        taken_of new damage one.at reading found (group_record one) record_read next_is
        (taken_whole reading found record_read new damage comes ends (map as_edit (drop old.whole edits)) group_is counted
        (both_parts old.whole edits ∙ ap (λ (l : List NamedEdit). l ++ map as_edit (drop old.whole edits)) (front_stays old.edits edits edits_read added old.whole so.within ∙ so.whole)) refl named_now is)

pub positive : (n : ℕ) → 0 < n → (n == 0) ≡ false
positive n some = grind (arith, nat_tests, some)

pub nothing_left : (n : ℕ) → n ≤ 0 → (n == 0) ≡ true
nothing_left n none = grind (arith, nat_tests, none)

pub group_within : (old edits xs : List Edit) (left : ℕ) (o : Option (ℕ × List NamedEdit)) → IsPayloadRead (Some left) old edits o → (whole : ℕ) → whole ≤ length old → xs ≡ edits → whole ≤ length xs
group_within old edits xs left o read whole within same =
    let found = something_read left old edits o read in
    subst (λ (l : List Edit). whole ≤ length l) (sym same) (still_within old edits found.0 found.1.1 whole within)

pub take_nothing : (old : List Edit) (edits : List Edit) (one : Record) → IsPayloadRead None old edits (payload_read one.payload) → (new : Replaying) (damage : Option ℕ) (reading : ManifestReading) (found : List NamedEdit)
    → damage ≡ Some one.at → HasTaken new damage one.at reading found (group_record one)
take_nothing old edits one read new damage reading found is =
    taken_none new damage one.at reading found (group_record one) (ap (λ (o : Option (ℕ × List NamedEdit)). option_map (group_record_at one.at) o) (nothing_read old edits (payload_read one.payload) read)) is

-- ---- what is replayed of the rest

-- the edits of whole groups, these and those behind them
abbrev pub found_to_end : List NamedEdit → List GroupRecord → Option ℕ → Result ManifestReading ℕ → Result (List NamedEdit) ℕ
found_to_end found whole end (Err at) = Err at
found_to_end found whole None (Ok reading) = Ok (found ++ edits_of whole)
found_to_end found whole (Some at) (Ok reading) = Err at

abbrev pub replayed_on : List NamedEdit → ManifestReading → LogReading GroupRecord → Result (List NamedEdit) ℕ
replayed_on found reading LogAbsent = Err 0
replayed_on found reading (LogFound records end) = found_to_end found (whole_records reading.begun records) end (read_records reading records)

from_none : (records : List GroupRecord) (end : Option ℕ) (read : Result ManifestReading ℕ) → edits_or_damage records end read ≡ found_to_end [] (whole_records [] records) end read
from_none records end (Err at) = refl
from_none records None (Ok reading) = refl
from_none records (Some at) (Ok reading) = refl

pub replayed_from_none : (reading : LogReading GroupRecord) → manifest_replayed reading ≡ replayed_on [] manifest_reading_none reading
replayed_from_none LogAbsent = refl
replayed_from_none (LogFound records end) = from_none records end (read_records manifest_reading_none records)

regrouped : (found : List NamedEdit) (begun : List GroupRecord) (next : GroupRecord) (more : List GroupRecord) → found ++ edits_of (begun ++ next ∷ more) ≡ (found ++ edits_of (begun ++ next ∷ [])) ++ edits_of more
regrouped found begun next more =
    ap (λ (l : List GroupRecord). found ++ edits_of l) (sym (assoc_one begun next more))
    ∙ ap (λ (l : List NamedEdit). found ++ l) (edits_append (begun ++ next ∷ []) more)
    ∙ sym (append_assoc found (edits_of (begun ++ next ∷ [])) (edits_of more))

regrouped_end : (found : List NamedEdit) (begun : List GroupRecord) (next : GroupRecord) (more : List GroupRecord) (end : Option ℕ) (read : Result ManifestReading ℕ)
    → found_to_end found (begun ++ next ∷ more) end read ≡ found_to_end (found ++ edits_of (begun ++ next ∷ [])) more end read
regrouped_end found begun next more end (Err at) = refl
regrouped_end found begun next more None (Ok reading) = ap (λ (l : List NamedEdit). answered l) (regrouped found begun next more)
  where
    answered : List NamedEdit → Result (List NamedEdit) ℕ
    answered l = Ok l
regrouped_end found begun next more (Some at) (Ok reading) = refl

-- a record in front of the rest
module _ (found : List NamedEdit) (reading : ManifestReading) (next : GroupRecord) (records : List GroupRecord) (end : Option ℕ) where
  pub record_stops : (at : ℕ) → read_record reading next ≡ Err at → replayed_on found reading (LogFound (next ∷ records) end) ≡ Err at
  record_stops at is = ap (λ (r : Result ManifestReading ℕ). found_to_end found (whole_records reading.begun (next ∷ records)) end (elim r [ Err fault ↦ Err fault | Ok after ↦ read_records after records ])) is

  pub record_goes_on : (after : ManifestReading) → read_record reading next ≡ Ok after → replayed_on found reading (LogFound (next ∷ records) end) ≡ replayed_on (found_with found reading.begun next) after (LogFound records end)
  record_goes_on after is =
      ap (λ (r : Result ManifestReading ℕ). found_to_end found (whole_records reading.begun (next ∷ records)) end (elim r [ Err fault ↦ Err fault | Ok after ↦ read_records after records ])) is
      ∙ go (follows_in_group reading.begun next) (next.left == 0) (group_edited reading.named next.at (reading.begun ++ next ∷ [])) after is
    where
      go : (follows ends : Bool) (closed : Result Named ℕ) (after : ManifestReading) → cond follows (cond ends (group_closed closed) (Ok (reading_of reading.named (reading.begun ++ next ∷ [])))) (Err next.at) ≡ Ok after
          → found_to_end found (cond ends (reading.begun ++ next ∷ whole_records [] records) (whole_records (reading.begun ++ next ∷ []) records)) end (read_records after records)
          ≡ found_to_end (cond ends (found ++ edits_of (reading.begun ++ next ∷ [])) found) (whole_records after.begun records) end (read_records after records)
      go false ends closed after e = absurd (cc e)
      go true true (Err at) after e = absurd (cc e)
      go true true (Ok named) after e =
          let same : reading_of named [] ≡ after = cc e in
          subst (λ (a : ManifestReading). found_to_end found (reading.begun ++ next ∷ whole_records [] records) end (read_records a records) ≡ found_to_end (found ++ edits_of (reading.begun ++ next ∷ [])) (whole_records a.begun records) end (read_records a records))
          same (regrouped_end found reading.begun next (whole_records [] records) end (read_records (reading_of named []) records))
      go true false closed after e =
          let same : reading_of reading.named (reading.begun ++ next ∷ []) ≡ after = cc e in
          subst (λ (a : ManifestReading). found_to_end found (whole_records (reading.begun ++ next ∷ []) records) end (read_records a records) ≡ found_to_end found (whole_records a.begun records) end (read_records a records)) same refl

-- ---- the loop

-- records read as found ones
are_found : (records : List Record) → (xs : List GroupRecord) × ((end : Option ℕ) × (records_read group_record records None ≡ LogFound xs end))
are_found [] = ([], (None, refl))
are_found (one ∷ records) = go (group_record one) (are_found records)
  where
    go : (read : Option GroupRecord) → (xs : List GroupRecord) × ((end : Option ℕ) × (records_read group_record records None ≡ LogFound xs end))
        → (xs : List GroupRecord) × ((end : Option ℕ) × (first_read one read (records_read group_record records None) ≡ LogFound xs end))
    go None rest = ([], (Some one.at, refl))
    go (Some value) rest = (value ∷ rest.0, (rest.1.0, ap (λ (r : LogReading GroupRecord). reading_in_front value r) rest.1.1))

-- so far these edits were found, and the rest is replayed on what was read
pub record ReplaysOn (records : List Record) (i : ℕ) (replaying : Replaying) : Type 0 where
  pub reading : ManifestReading
  pub found : List NamedEdit
  pub so_far : IsReplaying replaying reading found
  pub rest : manifest_replayed (records_read group_record records None) ≡ replayed_on found reading (records_read group_record (drop i records) None)

pub replays_none : (records : List Record) (replaying : Replaying) → IsReplaying replaying manifest_reading_none [] → ReplaysOn records 0 replaying
replays_none records replaying is = record { reading = manifest_reading_none; found = []; so_far = is; rest = replayed_from_none (records_read group_record records None) }

module _ (records : List Record) (i : ℕ) (old : Replaying) (on : ReplaysOn records i old) where
  pub replayed_all : length records ≤ i → manifest_replayed (records_read group_record records None) ≡ Ok (map as_edit (take old.whole old.edits))
  replayed_all past =
      on.rest ∙ ap (λ (l : List Record). replayed_on on.found on.reading (records_read group_record l None)) (drop_all i records past)
      ∙ ap (λ (l : List NamedEdit). answered l) (append-nil on.found ∙ sym on.so_far.whole)
    where
      answered : List NamedEdit → Result (List NamedEdit) ℕ
      answered l = Ok l

  module _ (one : Record) (inside : i < length records) (is : one ≡ get_or records i one) (new : Replaying) (damage : Option ℕ) (taken : HasTaken new damage one.at on.reading on.found (group_record one)) where
    here : manifest_replayed (records_read group_record records None) ≡ replayed_on on.found on.reading (first_read one (group_record one) (records_read group_record (drop (i + 1) records) None))
    here = on.rest ∙ ap (λ (l : List Record). replayed_on on.found on.reading (records_read group_record l None)) (drop_more records i one inside ∙ ap (λ (r : Record). r ∷ drop (i + 1) records) (sym is))

    abbrev Shows : Type 0
    Shows = ((at : ℕ) → damage ≡ Some at → manifest_replayed (records_read group_record records None) ≡ Err at) × (damage ≡ None → ReplaysOn records (i + 1) new)

    here_as : (read : Option GroupRecord) → group_record one ≡ read
        → manifest_replayed (records_read group_record records None) ≡ replayed_on on.found on.reading (first_read one read (records_read group_record (drop (i + 1) records) None))
    here_as read e = here ∙ ap (λ (o : Option GroupRecord). replayed_on on.found on.reading (first_read one o (records_read group_record (drop (i + 1) records) None))) e

    module _ (next : GroupRecord) (e : group_record one ≡ Some next) where
      abbrev xs : List GroupRecord
      xs = (are_found (drop (i + 1) records)).0

      abbrev end : Option ℕ
      end = (are_found (drop (i + 1) records)).1.0

      in_front : manifest_replayed (records_read group_record records None) ≡ replayed_on on.found on.reading (LogFound (next ∷ xs) end)
      in_front = here_as (Some next) e ∙ ap (λ (r : LogReading GroupRecord). replayed_on on.found on.reading (reading_in_front next r)) (are_found (drop (i + 1) records)).1.1

      shown : (r : Result ManifestReading ℕ) → read_record on.reading next ≡ r → HasRead new damage (found_with on.found on.reading.begun next) r → Shows
      shown (Err first) r is = (
        (λ at told. in_front ∙ record_stops on.found on.reading next xs end at (r ∙ stopped first at (cc (sym is ∙ told)))),
        (λ none. absurd (cc (sym is ∙ none))),
      )
        where
          stopped : (n m : ℕ) → n ≡ m → ◌≡◌ {A = Result ManifestReading ℕ} (Err n) (Err m)
          stopped n m same = ap (λ (k : ℕ). failed k) same
            where
              failed : ℕ → Result ManifestReading ℕ
              failed k = Err k
      shown (Ok after) r is = (
        (λ at told. absurd (cc (sym is.0 ∙ told))),
        (λ none. record {
          reading = after;
          found = found_with on.found on.reading.begun next;
          so_far = is.1;
          rest = in_front ∙ record_goes_on on.found on.reading next xs end after r
              ∙ ap (λ (l : LogReading GroupRecord). replayed_on (found_with on.found on.reading.begun next) after l) (sym (are_found (drop (i + 1) records)).1.1);
        }),
      )

    shows : (read : Option GroupRecord) → group_record one ≡ read → HasTaken new damage one.at on.reading on.found read → Shows
    shows None e is = (
      (λ at told. here_as None e ∙ ap (λ (n : ℕ). failed n) (cc (sym is ∙ told))),
      (λ none. absurd (cc (sym is ∙ none))),
    )
      where
        failed : ℕ → Result (List NamedEdit) ℕ
        failed n = Err n
    shows (Some next) e is = shown next e (read_record on.reading next) refl is

    pub record_shows : Shows
    record_shows = shows (group_record one) refl taken
