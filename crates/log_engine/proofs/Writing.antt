-- A write, on the store and on the disk, over plain variables.
use Rattle.std.proofs.Common.{◌≡◌, ◌⊎◌, inl, inr, ⊎_elim, ℕ, ◌+◌, ◌<◌, false, List, [], ◌∷◌, ◌++◌, map, length, Some, None, Ok, slice_get, refl, sym, ◌∙◌, ap, subst, lit<, true≢false}
use Rattle.std.specs.Prelude.{Bool, Result, Err, IfErr, IsErrAnd, OnErr, OnOk, option_map}
use Rattle.std.specs.Result.{result_ok}
use Rattle.std.specs.List.{AllByRecursion as Each}
use Rattle.st_base.specs.Bytes.{default_family}
use Rattle.st_base.specs.Entries.{add_charge}
use Rattle.st_base.specs.Map.{value_at}
use Rattle.st_device.specs.Disk.{Image, DiskTold, Leaves, OnlyFile, Passes}
use Rattle.st_model.specs.declared.change.Batch.{Batch}
use Rattle.st_model.specs.declared.change.Op.{Op}
use Rattle.st_model.specs.declared.refusal.Refusal.{Refusal}
use Rattle.st_model.specs.declared.refusal.Refusal.TheVariants.{Stopped, DiskFault, OutOfMemory}
use Rattle.st_model.specs.declared.refusal.Refusal.TheVariants as refusal
use Rattle.st_model.specs.declared.reply.Reply.TheVariants.{Refused}
use Rattle.st_model.specs.declared.state.ModelState.{ModelState}
use Rattle.st_model.specs.Answer.{write_refusals}
use Rattle.st_model.specs.Apply.{op_key, with_ops, write_charge}
use Rattle.st_model.specs.Contents.{contents}
use Rattle.st_model.specs.Causes.{is_stop}
use Rattle.log_recover.specs.Contents.{OpenedContents, contents_in, contents_of, opened_or_damage, written_marks}
use Rattle.log_recover.specs.Opens.{first_log_fault, last_number, opens}
use Rattle.log_recover.proofs.Store.{append_leaves, append_store, last_append, sound_append, store_opens}
use Rattle.st_wal.specs.Batch.{Operation, batch_of}
use Rattle.st_wal.specs.Logged.{IsWithOrWithout, logged, logged_found, logged_record, read_as_log}
use Rattle.st_wal.specs.Wal.{IsReady, operations}
use Rattle.st_wal.specs.declared.logged.Logged.{Logged}
use Rattle.st_wal.specs.declared.wal.Wal.{Wal}
use Rattle.log_engine.specs.Engine.{IsTied, OpensTo, state_written}
use Rattle.log_engine.specs.Newest.{HasRoom, newest_at, shown}
use Rattle.log_engine.specs.Op.{logged_op, marks_after_all, strangers}
use Rattle.log_engine.specs.MarkStore.{HoldsOperations, IsAdvanced, IsFirst, IsSameStore, StandsForState}
use Rattle.log_engine.specs.declared.newest.Newest.{Newest}
use Rattle.log_engine.specs.declared.store.MarkStore.{MarkStore}
use Rattle.log_engine.proofs.Write.{accepted_known, after_all_same, after_all_shown, contents_is, family_after, family_base, family_id, family_ranges, marks_all, marks_same, more_last, more_sound, with_ops_is, written_more}

-- ---- the operations of a write

pub all_default : (ops : List Op) → Each (λ (op : Operation). op.0 < 4294967295) (map logged_op ops)
all_default [] = tt
all_default (op ∷ ops) = (lit< tt, all_default ops)

pub rooms_logged : (newest : Newest) (ops : List Op) → Each (λ (op : Op). HasRoom newest (op_key op)) ops → Each (λ (op : Operation). HasRoom newest op.1) (map logged_op ops)
rooms_logged newest [] h = tt
rooms_logged newest (op ∷ ops) h = (h.0, rooms_logged newest ops h.1)

-- the first refusal, which is no stop
pub first_of : (refusals : List Refusal) (refusal : Refusal) → is_stop (Refused refusal) ≡ false → Some refusal ≡ slice_get refusals 0 → IsFirst refusals refusal
first_of refusals refusal.EmptyRequest none is = sym is
first_of refusals (refusal.NoFiles a) none is = sym is
first_of refusals (refusal.FamilyTwice a) none is = sym is
first_of refusals refusal.TooManyFiles none is = sym is
first_of refusals (refusal.FileMissing at) none is = sym is
first_of refusals (refusal.InputFault at) none is = sym is
first_of refusals (refusal.BadTable at fault) none is = sym is
first_of refusals (refusal.NoEntry at) none is = sym is
first_of refusals (refusal.FilesMeet at file) none is = sym is
first_of refusals refusal.Stopped none is = absurd (true≢false none)
first_of refusals (refusal.UnknownFamily name) none is = sym is
first_of refusals (refusal.BehindNotEnabled a) none is = sym is
first_of refusals (refusal.SnapshotsLive a number) none is = sym is
first_of refusals (refusal.FlushNeeded at key) none is = sym is
first_of refusals (refusal.BehindDoesNotFit at range) none is = sym is
first_of refusals (refusal.NeedsSequence at why) none is = sym is
first_of refusals (refusal.NotLastLevel at level why) none is = sym is
first_of refusals refusal.NumbersSpent none is = sym is
first_of refusals refusal.StoreFull none is = sym is
first_of refusals refusal.DiskFault none is = absurd (true≢false none)
first_of refusals (refusal.FamilyExists name) none is = sym is
first_of refusals refusal.DefaultStays none is = sym is
first_of refusals refusal.FamiliesFull none is = sym is
first_of refusals refusal.SnapshotsFull none is = sym is
first_of refusals (refusal.SnapshotGone id) none is = sym is
first_of refusals refusal.OutOfMemory none is = tt

-- a refusal that may be given first is want of memory, a stop, or the first of those that hold
pub first_cases : (refusals : List Refusal) (refusal : Refusal) → IsFirst refusals refusal
    → (refusal ≡ OutOfMemory) ⊎ ((refusal ≡ Stopped) ⊎ (((refusal ≡ DiskFault) × (slice_get refusals 0 ≡ None)) ⊎ (slice_get refusals 0 ≡ Some refusal)))
first_cases refusals refusal.EmptyRequest first = inr (inr (inr first))
first_cases refusals (refusal.NoFiles a) first = inr (inr (inr first))
first_cases refusals (refusal.FamilyTwice a) first = inr (inr (inr first))
first_cases refusals refusal.TooManyFiles first = inr (inr (inr first))
first_cases refusals (refusal.FileMissing at) first = inr (inr (inr first))
first_cases refusals (refusal.InputFault at) first = inr (inr (inr first))
first_cases refusals (refusal.BadTable at fault) first = inr (inr (inr first))
first_cases refusals (refusal.NoEntry at) first = inr (inr (inr first))
first_cases refusals (refusal.FilesMeet at file) first = inr (inr (inr first))
first_cases refusals refusal.Stopped first = inr (inl refl)
first_cases refusals (refusal.UnknownFamily name) first = inr (inr (inr first))
first_cases refusals (refusal.BehindNotEnabled a) first = inr (inr (inr first))
first_cases refusals (refusal.SnapshotsLive a number) first = inr (inr (inr first))
first_cases refusals (refusal.FlushNeeded at key) first = inr (inr (inr first))
first_cases refusals (refusal.BehindDoesNotFit at range) first = inr (inr (inr first))
first_cases refusals (refusal.NeedsSequence at why) first = inr (inr (inr first))
first_cases refusals (refusal.NotLastLevel at level why) first = inr (inr (inr first))
first_cases refusals refusal.NumbersSpent first = inr (inr (inr first))
first_cases refusals refusal.StoreFull first = inr (inr (inr first))
first_cases refusals refusal.DiskFault first = inr (inr (inl (refl, first)))
first_cases refusals (refusal.FamilyExists name) first = inr (inr (inr first))
first_cases refusals refusal.DefaultStays first = inr (inr (inr first))
first_cases refusals refusal.FamiliesFull first = inr (inr (inr first))
first_cases refusals refusal.SnapshotsFull first = inr (inr (inr first))
first_cases refusals (refusal.SnapshotGone id) first = inr (inr (inr first))
first_cases refusals refusal.OutOfMemory first = inl refl

-- ---- a store that stands for the same

pub same_stands : (old new : MarkStore) (state : ModelState) → IsSameStore old new → StandsForState old state → StandsForState new state
same_stands old new state same h = record {
  family = h.family;
  families = h.families;
  id = h.id;
  ranges = h.ranges;
  sorted = h.sorted;
  place = h.place ∙ sym same.numbers.place;
  last = h.last ∙ sym same.numbers.last;
  charge = h.charge ∙ sym same.numbers.charge;
  behind = h.behind ∙ sym same.numbers.behind;
  marks = marks_same (newest_at old.newest) (newest_at new.newest) h.family state.last same.marks h.marks;
}

pub same_holds : (old new : MarkStore) (logs : List Logged) → IsSameStore old new → HoldsOperations old logs → HoldsOperations new logs
same_holds old new logs same h = record {
  last = same.numbers.last ∙ h.last;
  marks = subst (λ (behind : Bool). (key : List ℕ) → shown behind (newest_at new.newest key) ≡ shown behind (value_at (written_marks logs) key)) (sym same.numbers.behind)
      (λ key. ap (shown old.behind) (same.marks key) ∙ h.marks key);
}

-- ---- the log after the write

module _ (store : MarkStore) (batch : Batch) (logs : List Logged) (holds : HoldsOperations store logs) (at : ℕ) where
  last_after : last_number 0 (logs ++ logged at (store.last + 1) (map logged_op batch.ops)) ≡ store.last + length batch.ops
  last_after =
      last_append 0 logs (logged at (store.last + 1) (map logged_op batch.ops))
      ∙ ap (λ n. last_number n (logged at (store.last + 1) (map logged_op batch.ops))) (sym holds.last)
      ∙ more_last at store.last batch.ops

  shown_after : (behind : Bool) → behind ≡ store.behind → (key : List ℕ) → shown behind (marks_after_all (newest_at store.newest) (map logged_op batch.ops) key) ≡ shown behind (value_at (written_marks (logs ++ logged at (store.last + 1) (map logged_op batch.ops))) key)
  shown_after behind is key =
      after_all_shown behind (newest_at store.newest) (value_at (written_marks logs)) (map logged_op batch.ops)
      (subst (λ (b : Bool). (q : List ℕ) → shown b (newest_at store.newest q) ≡ shown b (value_at (written_marks logs) q)) (sym is) holds.marks) key
      ∙ ap (shown behind) (sym (written_more at (store.last + 1) logs (map logged_op batch.ops) key))

-- ---- the state after the write

module _ (store : MarkStore) (state : ModelState) (batch : Batch) (stands : StandsForState store state) (unrefused : slice_get (write_refusals state store.capacity batch.ops) 0 ≡ None) where
  known : strangers batch.ops ≡ []
  known = accepted_known state stands.family store.capacity batch.ops (record { families = stands.families }) unrefused

  families_after : with_ops state.last batch.ops state.families ≡ (default_family, family_after state.last batch.ops stands.family) ∷ []
  families_after = ap (with_ops state.last batch.ops) stands.families ∙ with_ops_is state.last batch.ops stands.family known

  pub stands_written : (new : MarkStore) (sum : ℕ) → IsAdvanced store new (length batch.ops) sum → sum ≡ add_charge store.charge (write_charge batch.ops) → ((key : List ℕ) → newest_at new.newest key ≡ marks_after_all (newest_at store.newest) (map logged_op batch.ops) key)
      → StandsForState new (state_written state batch)
  stands_written new sum advanced charge marks = record {
    family = family_after state.last batch.ops stands.family;
    families = families_after;
    id = family_id state.last batch.ops stands.family ∙ stands.id;
    ranges = family_ranges state.last batch.ops stands.family ∙ stands.ranges;
    sorted = subst Rattle.log_engine.specs.MarkStore.IsSorted (sym (family_base state.last batch.ops stands.family)) stands.sorted;
    place = ap (λ n. n + 1) stands.place ∙ sym advanced.place;
    last = ap (λ n. n + length batch.ops) stands.last ∙ sym advanced.last;
    charge = ap (λ n. add_charge n (write_charge batch.ops)) stands.charge ∙ sym charge ∙ sym advanced.charge;
    behind = stands.behind ∙ sym advanced.behind;
    marks = marks_same (marks_after_all (newest_at store.newest) (map logged_op batch.ops)) (newest_at new.newest) (family_after state.last batch.ops stands.family) (state.last + length batch.ops) marks
        (marks_all (newest_at store.newest) stands.family state.last batch.ops stands.marks);
  }

  module _ (logs : List Logged) (holds : HoldsOperations store logs) (at : ℕ) where
    pub contents_before : contents state ≡ contents_of state.behind logs
    contents_before =
        contents_is (newest_at store.newest) state stands.family logs stands.families stands.id stands.ranges stands.sorted stands.marks (stands.last ∙ holds.last)
        (subst (λ (b : Bool). (q : List ℕ) → shown b (newest_at store.newest q) ≡ shown b (value_at (written_marks logs) q)) (sym stands.behind) holds.marks)

    pub contents_after : contents (state_written state batch) ≡ contents_of state.behind (logs ++ logged at (store.last + 1) (map logged_op batch.ops))
    contents_after =
        contents_is (marks_after_all (newest_at store.newest) (map logged_op batch.ops)) (state_written state batch) (family_after state.last batch.ops stands.family) (logs ++ logged at (store.last + 1) (map logged_op batch.ops)) families_after
        (family_id state.last batch.ops stands.family ∙ stands.id) (family_ranges state.last batch.ops stands.family ∙ stands.ranges)
        (subst Rattle.log_engine.specs.MarkStore.IsSorted (sym (family_base state.last batch.ops stands.family)) stands.sorted)
        (marks_all (newest_at store.newest) stands.family state.last batch.ops stands.marks)
        (ap (λ n. n + length batch.ops) stands.last ∙ sym (last_after store batch logs holds at))
        (shown_after store batch logs holds at state.behind stands.behind)

-- ---- on the disk

pub in_image : (behind : Bool) (image : Image) (logs : List Logged) → opens image ≡ Ok logs → contents_in behind image ≡ Some (contents_of behind logs)
in_image behind image logs is = ap (λ r. option_map (λ (opened : OpenedContents). opened.contents) (result_ok (opened_or_damage behind r))) is

-- the store's operations, and those of a write
module _ {a b : DiskTold} (wal : Wal) (store : MarkStore) (batch : Batch) (payload : List ℕ) (tied : IsTied wal store a)
    (encoded : batch_of payload ≡ Some (record { first = store.last + 1; operations = map logged_op batch.ops })) (only : OnlyFile wal.log.file (λ this. IsWithOrWithout (operations wal a) (logged_record wal.log.at payload) (read_as_log this)) a b) where
  record_is : logged_record wal.log.at payload ≡ logged wal.log.at (store.last + 1) (map logged_op batch.ops)
  record_is = ap (logged_found wal.log.at) encoded

  sound : first_log_fault 0 (operations wal a ++ logged_record wal.log.at payload) ≡ None
  sound = sound_append 0 (operations wal a) (logged_record wal.log.at payload) tied.on_disk.sound
      (ap (first_log_fault (last_number 0 (operations wal a))) record_is
      ∙ ap (λ n. first_log_fault n (logged wal.log.at (store.last + 1) (map logged_op batch.ops))) (sym tied.holds.last)
      ∙ more_sound wal.log.at store.last batch.ops)

  pub write_leaves : (state : ModelState) → StandsForState store state → slice_get (write_refusals state store.capacity batch.ops) 0 ≡ None → Leaves (λ image. OpensTo state image ⊎ OpensTo (state_written state batch) image) a b
  write_leaves state stands unrefused image left =
      let before : contents state ≡ contents_of state.behind (operations wal a) = contents_before store state batch stands unrefused (operations wal a) tied.holds wal.log.at in
      let after : contents (state_written state batch) ≡ contents_of state.behind (operations wal a ++ logged_record wal.log.at payload) =
      contents_after store state batch stands unrefused (operations wal a) tied.holds wal.log.at ∙ ap (λ l. contents_of state.behind (operations wal a ++ l)) (sym record_is) in
      ⊎_elim
      (λ (is : opens image ≡ Ok (operations wal a)). inl (in_image state.behind image (operations wal a) is ∙ ap Some (sym before)))
      (λ (is : opens image ≡ Ok (operations wal a ++ logged_record wal.log.at payload)). inr (in_image state.behind image (operations wal a ++ logged_record wal.log.at payload) is ∙ ap Some (sym after)))
      (append_leaves wal tied.on_disk (logged_record wal.log.at payload) only sound image left)

  module _ (wal' : Wal) (new : MarkStore) (sum : ℕ) (passes : Passes a b) (file : wal'.log.file ≡ wal.log.file) (ready : IsReady wal' b) (is : operations wal' b ≡ operations wal a ++ logged_record wal.log.at payload)
      (advanced : IsAdvanced store new (length batch.ops) sum) (marks : (key : List ℕ) → newest_at new.newest key ≡ marks_after_all (newest_at store.newest) (map logged_op batch.ops) key) where
    pub write_tied : IsTied wal' new b
    write_tied =
        let logs : List Logged = operations wal a in
        let all : operations wal' b ≡ logs ++ logged wal.log.at (store.last + 1) (map logged_op batch.ops) = is ∙ ap (λ l. logs ++ l) record_is in
        record {
          on_disk = append_store wal tied.on_disk (logged_record wal.log.at payload) only sound wal' passes file ready is;
          holds = subst (HoldsOperations new) (sym all) (record {
            last = advanced.last ∙ sym (last_after store batch logs tied.holds wal.log.at);
            marks = subst (λ (b : Bool). (key : List ℕ) → shown b (newest_at new.newest key) ≡ shown b (value_at (written_marks (logs ++ logged wal.log.at (store.last + 1) (map logged_op batch.ops))) key)) (sym advanced.behind)
                (λ key. ap (shown store.behind) (marks key) ∙ shown_after store batch logs tied.holds wal.log.at store.behind refl key);
          });
        }

    pub write_after : (state : ModelState) → StandsForState store state → slice_get (write_refusals state store.capacity batch.ops) 0 ≡ None → (image : Image) → b.now image → OpensTo (state_written state batch) image
    write_after state stands unrefused image now =
        let after : contents (state_written state batch) ≡ contents_of state.behind (operations wal' b) =
        contents_after store state batch stands unrefused (operations wal a) tied.holds wal.log.at ∙ ap (contents_of state.behind) (sym (is ∙ ap (λ l. operations wal a ++ l) record_is)) in
        in_image state.behind image (operations wal' b) (store_opens wal' write_tied.on_disk image now) ∙ ap Some (sym after)

-- what a store stands for is in each image
pub tied_opens : {a : DiskTold} (wal : Wal) (store : MarkStore) (state : ModelState) → IsTied wal store a → StandsForState store state → (image : Image) → a.now image → OpensTo state image
tied_opens {a} wal store state tied stands image now =
    let logs : List Logged = operations wal a in
    let before : contents state ≡ contents_of state.behind logs =
    contents_is (newest_at store.newest) state stands.family logs stands.families stands.id stands.ranges stands.sorted stands.marks (stands.last ∙ tied.holds.last)
    (subst (λ (b : Bool). (q : List ℕ) → shown b (newest_at store.newest q) ≡ shown b (value_at (written_marks logs) q)) (sym stands.behind) tied.holds.marks) in
    in_image state.behind image logs (store_opens wal tied.on_disk image now) ∙ ap Some (sym before)

-- ---- from the store that was prepared

pub same_advanced : (old mid new : MarkStore) (count : ℕ) (count' : ℕ) (sum : ℕ) → count' ≡ count → IsSameStore old mid → IsAdvanced mid new count' sum → IsAdvanced old new count sum
same_advanced old mid new count count' sum is same h = record {
  place = h.place ∙ ap (λ n. n + 1) same.numbers.place;
  last = h.last ∙ ap (λ n. n + count') same.numbers.last ∙ ap (λ n. old.last + n) is;
  charge = h.charge;
  behind = h.behind ∙ same.numbers.behind;
  capacity = h.capacity ∙ same.numbers.capacity;
}

pub same_marks : (old mid new : Newest) (ops ops' : List Operation) → ops' ≡ ops → ((key : List ℕ) → newest_at mid key ≡ newest_at old key) → ((key : List ℕ) → newest_at new key ≡ marks_after_all (newest_at mid) ops' key)
    → (key : List ℕ) → newest_at new key ≡ marks_after_all (newest_at old) ops key
same_marks old mid new ops ops' is same h key = h key ∙ after_all_same (newest_at mid) (newest_at old) ops' same key ∙ ap (λ l. marks_after_all (newest_at old) l key) is

-- ---- answers

pub ok_both : {T E P Q R : Type 0} (r : Result T E) → (P → Q → R) → OnOk r P → OnOk r Q → OnOk r R
ok_both (Ok x) f p q = f p q
ok_both (Err e) f p q = tt

pub ok_fact : {T E P : Type 0} (r : Result T E) → P → OnOk r P
ok_fact (Ok x) p = p
ok_fact (Err e) p = tt

pub err_map : {T E P Q : Type 0} (r : Result T E) → (P → Q) → OnErr r P → OnErr r Q
err_map (Ok x) f p = tt
err_map (Err e) f p = f p

pub err_fact : {T E P : Type 0} (r : Result T E) → P → OnErr r P
err_fact (Ok x) p = tt
err_fact (Err e) p = p

pub if_err_map : {T E : Type 0} (P Q : E → Type 0) (r : Result T E) → ((e : E) → P e → Q e) → IfErr r P → IfErr r Q
if_err_map P Q (Ok x) f p = tt
if_err_map P Q (Err e) f p = f e p

pub if_err_gives : {T E : Type 0} (Q : E → Type 0) (r : Result T E) (e : E) → IsErrAnd r (λ x. x ≡ e) → Q e → IfErr r Q
if_err_gives Q (Ok x) e is q = tt
if_err_gives Q (Err x) e is q = subst Q (sym is) q

-- whether it is Ok or not
pub either_answer : {T E P : Type 0} (r : Result T E) → OnOk r P → OnErr r P → P
either_answer (Ok x) p q = p
either_answer (Err e) p q = q
