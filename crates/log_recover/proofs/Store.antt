-- What the images of a store open to, while its files change.
use Rattle.std.proofs.Common.{◌≡◌, ◌≢◌, ◌⊎◌, inl, inr, ⊎_elim, ℕ, ◌==◌, ◌&&◌, nat_lt, Bool, true, false, cond, List, [], ◌∷◌, ◌++◌, Option, Some, None, Ok, refl, sym, ◌∙◌, ap, subst, IsSome, arith}
use Rattle.st_device.specs.Disk.{Image, DiskTold, Passes, IsHonest, SameBut, Created, OnlyFile, Leaves}
use Rattle.st_gate.proofs.Rest.{rest_stays}
use Rattle.st_wal.specs.Logged.{IsWithOrWithout, operations_in, read_as_log}
use Rattle.st_wal.specs.Logged.Operations.{Whole}
use Rattle.st_wal.specs.Wal.{IsReady, operations}
use Rattle.st_wal.specs.declared.logged.Logged.{Logged}
use Rattle.st_wal.specs.declared.wal.Wal.{Wal}
use Rattle.log_recover.specs.Opens.{checked, files_open, first_log_fault, last_number, log_opens, opens}
use Rattle.log_recover.specs.Store.{IsStore}

-- ---- an image's files

-- the mark is there
marked_opens : (mark log : Option (List ℕ)) → IsSome mark → files_open mark log ≡ log_opens (read_as_log log)
marked_opens None log there = absurd (cc there)
marked_opens (Some bytes) log there = refl

-- with the mark, and a log of these operations, of which none is at fault
pub opens_whole : (image : Image) (ops : List Logged) (end : ℕ) → IsSome (image 1) → read_as_log (image 3) ≡ Whole ops end → first_log_fault 0 ops ≡ None → opens image ≡ Ok ops
opens_whole image ops end there whole sound = marked_opens (image 1) (image 3) there ∙ ap log_opens whole ∙ ap (checked ops) sound

-- without the mark
pub opens_new : (image : Image) → image 1 ≡ None → opens image ≡ Ok []
opens_new image absent = ap (λ (mark : Option (List ℕ)). files_open mark (image 3)) absent

-- with the mark or without, where the log has no operation
pub opens_empty : (image : Image) (end : ℕ) → read_as_log (image 3) ≡ Whole [] end → opens image ≡ Ok []
opens_empty image end whole = go (image 1)
  where
    go : (mark : Option (List ℕ)) → files_open mark (image 3) ≡ Ok []
    go None = refl
    go (Some bytes) = ap log_opens whole

-- the mark and the log are two files
pub mark_apart : (file : ℕ) → file ≡ 3 → 1 ≢ file
mark_apart file is same = omega (arith, is, same)

pub log_apart : (file : ℕ) → file ≡ 3 → file ≢ 1
log_apart file is same = omega (arith, is, same)

-- ---- a store

module _ {a : DiskTold} (wal : Wal) (store : IsStore wal a) where
  log_reads : read_as_log (a.reads 3) ≡ Whole (operations wal a) wal.log.at
  log_reads = subst (λ (f : ℕ). read_as_log (a.reads f) ≡ Whole (operations wal a) wal.log.at) store.file store.ready.whole

  pub log_durable : (image : Image) → a.now image → image 3 ≡ a.reads 3
  log_durable image now = subst (λ (f : ℕ). image f ≡ a.reads f) store.file (store.ready.rest.durable image now)

  -- an image in which mark and log are as they read
  pub opens_same : (image : Image) → image 1 ≡ a.reads 1 → image 3 ≡ a.reads 3 → opens image ≡ Ok (operations wal a)
  opens_same image mark log =
      opens_whole image (operations wal a) wal.log.at (subst (λ (o : Option (List ℕ)). IsSome o) (sym mark) store.marked)
      (ap read_as_log log ∙ log_reads) store.sound

  -- a crash now leaves the operations
  pub store_opens : (image : Image) → a.now image → opens image ≡ Ok (operations wal a)
  store_opens image now = opens_same image (store.durable image now) (log_durable image now)

  pub store_reads : opens a.reads ≡ Ok (operations wal a)
  store_reads = opens_same a.reads refl refl

  -- while a record is added to the log
  module _ {b : DiskTold} (more : List Logged) (only : OnlyFile wal.log.file (λ this. IsWithOrWithout (operations wal a) more (read_as_log this)) a b) (sound : first_log_fault 0 (operations wal a ++ more) ≡ None) where
    mark_same : (image from : Image) → a.now from → SameBut wal.log.file from image → image 1 ≡ a.reads 1
    mark_same image from now others = others 1 (mark_apart wal.log.file store.file) ∙ store.durable from now

    pub append_leaves : Leaves (λ image. (opens image ≡ Ok (operations wal a)) ⊎ (opens image ≡ Ok (operations wal a ++ more))) a b
    append_leaves image left =
        let from = only.crash image left in
        let there : IsSome (image 1) = subst (λ (o : Option (List ℕ)). IsSome o) (sym (mark_same image from.0 from.1 from.2.others)) store.marked in
        let log : IsWithOrWithout (operations wal a) more (read_as_log (image 3)) = subst (λ (f : ℕ). IsWithOrWithout (operations wal a) more (read_as_log (image f))) store.file from.2.this in
        ⊎_elim
        (λ (without : (end : ℕ) × (read_as_log (image 3) ≡ Whole (operations wal a) end)). inl (opens_whole image (operations wal a) without.0 there without.1 store.sound))
        (λ (with : (end : ℕ) × (read_as_log (image 3) ≡ Whole (operations wal a ++ more) end)). inr (opens_whole image (operations wal a ++ more) with.0 there with.1 sound))
        log

    pub append_store : (wal' : Wal) → Passes a b → wal'.log.file ≡ wal.log.file → IsReady wal' b → operations wal' b ≡ operations wal a ++ more → IsStore wal' b
    append_store wal' passes file ready is =
        let same : b.reads 1 ≡ a.reads 1 = only.others 1 (mark_apart wal.log.file store.file) in
        record {
          file = file ∙ store.file;
          ready = ready;
          marked = subst (λ (o : Option (List ℕ)). IsSome o) (sym same) store.marked;
          durable = λ image now. let from = only.crash image (passes.ends image now) in mark_same image from.0 from.1 from.2.others ∙ sym same;
          sound = ap (first_log_fault 0) is ∙ sound;
        }

-- ---- more operations

fault_split : (b : Bool) (rest : Option ℕ) (at : ℕ) → cond b rest (Some at) ≡ None → (b ≡ true) × (rest ≡ None)
fault_split true rest at e = (refl, e)
fault_split false rest at e = absurd (cc e)

pub sound_append : (last : ℕ) (ops more : List Logged) → first_log_fault last ops ≡ None → first_log_fault (last_number last ops) more ≡ None → first_log_fault last (ops ++ more) ≡ None
sound_append last [] more sound next = next
sound_append last (op ∷ ops) more sound next =
    let parts = fault_split ((op.family == 0) && nat_lt last op.number) (first_log_fault op.number ops) op.at sound in
    ap (λ (b : Bool). cond b (first_log_fault op.number (ops ++ more)) (Some op.at)) parts.0 ∙ sound_append op.number ops more parts.1 next

pub last_append : (last : ℕ) (ops more : List Logged) → last_number last (ops ++ more) ≡ last_number (last_number last ops) more
last_append last [] more = refl
last_append last (op ∷ ops) more = last_append op.number ops more

-- ---- a new store

only_created : {a b : DiskTold} {ok : Bool} (file : ℕ) → Created file a b ok → OnlyFile file (λ _. Unit {0}) a b
only_created {a} {b} file made = record {
  others = made.others;
  crash = λ image left. let from = made.crash image left in (from.0, from.1, record { others = from.2.others; this = tt });
}

-- another file has changed alone
pub wal_stays : {a b : DiskTold} (wal : Wal) (file : ℕ) (P : Option (List ℕ) → Type 0) → Passes a b → OnlyFile file P a b → wal.log.file ≢ file → IsReady wal a → IsReady wal b × (operations wal b ≡ operations wal a)
wal_stays {a} {b} wal file P passes only apart ready =
    let reads : b.reads wal.log.file ≡ a.reads wal.log.file = only.others wal.log.file apart in
    let same : operations wal b ≡ operations wal a = ap (λ (o : Option (List ℕ)). operations_in (read_as_log o)) reads in (
      record {
        kind = ready.kind;
        rest = (rest_stays wal.log file P passes only apart ready.rest).0;
        whole = ap read_as_log reads ∙ ready.whole ∙ ap (λ (ops : List Logged). Whole ops wal.log.at) (sym same);
      },
      same,
    )

-- without the mark, while the log's file changes alone
pub log_leaves : {a b : DiskTold} (P : Option (List ℕ) → Type 0) → IsHonest a → a.reads 1 ≡ None → OnlyFile 3 P a b → Leaves (λ image. opens image ≡ Ok []) a b
log_leaves {a} {b} P honest absent only image left =
    let from = only.crash image left in
    opens_new image (from.2.others 1 (mark_apart 3 refl) ∙ honest.1 from.0 1 from.1 absent)

-- and then the mark isn't there yet
pub mark_absent : {a b : DiskTold} (P : Option (List ℕ) → Type 0) → a.reads 1 ≡ None → OnlyFile 3 P a b → b.reads 1 ≡ None
mark_absent P absent only = only.others 1 (mark_apart 3 refl) ∙ absent

-- while the mark is made
module _ {a b : DiskTold} {ok : Bool} (wal : Wal) (file : wal.log.file ≡ 3) (ready : IsReady wal a) (empty : operations wal a ≡ []) (made : Created 1 a b ok) where
  empty_reads : read_as_log (a.reads 3) ≡ Whole [] wal.log.at
  empty_reads =
      subst (λ (f : ℕ). read_as_log (a.reads f) ≡ Whole (operations wal a) wal.log.at) file ready.whole ∙ ap (λ (ops : List Logged). Whole ops wal.log.at) empty

  pub mark_leaves : Leaves (λ image. opens image ≡ Ok []) a b
  mark_leaves image left =
      let from = made.crash image left in
      let log : image 3 ≡ a.reads 3 = from.2.others 3 (log_apart 3 refl) ∙ subst (λ (f : ℕ). from.0 f ≡ a.reads f) file (ready.rest.durable from.0 from.1) in
      opens_empty image wal.log.at (ap read_as_log log ∙ empty_reads)

pub made_store : {a b : DiskTold} (ok : Bool) (wal : Wal) → Passes a b → wal.log.file ≡ 3 → IsReady wal a → operations wal a ≡ [] → ok ≡ true → Created 1 a b ok → IsStore wal b × (operations wal b ≡ [])
made_store {a} {b} ok wal passes file ready empty is created =
    let made : Created 1 a b true = subst (λ (t : Bool). Created 1 a b t) is created in
    let stays = wal_stays wal 1 (λ _. Unit {0}) passes (only_created 1 made) (log_apart wal.log.file file) ready in
    let none : operations wal b ≡ [] = stays.1 ∙ empty in (
      record {
        file = file;
        ready = stays.0;
        marked = subst (λ (o : Option (List ℕ)). IsSome o) (sym made.done) refl;
        durable = λ image now. made.durable image now ∙ sym made.done;
        sound = ap (first_log_fault 0) none;
      },
      none,
    )
