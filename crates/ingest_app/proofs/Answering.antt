-- What the engine answers is the model's reply, over plain variables.
use Rattle.std.proofs.Common.{not, ◌≡◌, ◌⊎◌, inl, inr, ⊎_elim, ℕ, ◌+◌, Bool, true, false, cond, nat_lt, nat_le, List, [], ◌∷◌, ◌++◌, map, length, Option, Some, None, slice_get, refl, sym, ◌∙◌, ap, subst, arith, true≢false}
use Rattle.std.specs.Prelude.{◌&&◌, is_some, IsSome, Result, Ok, Err, IfOk}
use Rattle.st_base.specs.Entries.{add_charge}
use Rattle.st_device.specs.Disk.{Image, DiskTold, IsHonest, Leaves}
use Rattle.st_model.specs.declared.change.Batch.{Batch}
use Rattle.st_model.specs.declared.change.Op.{Op}
use Rattle.st_model.specs.declared.command.Call.{Call}
use Rattle.st_model.specs.declared.command.Command.{Command}
use Rattle.st_model.specs.declared.command.Command.TheVariants.{Write, Get}
use Rattle.st_model.specs.declared.command.Command.TheVariants as commands
use Rattle.st_model.specs.declared.refusal.Refusal.{Refusal}
use Rattle.st_model.specs.declared.refusal.Refusal.TheVariants.{Stopped, UnknownFamily, NumbersSpent, StoreFull, DiskFault, OutOfMemory}
use Rattle.st_model.specs.declared.refusal.Refusal.TheVariants as refused
use Rattle.st_model.specs.declared.reply.Reply.{Reply}
use Rattle.st_model.specs.declared.reply.Reply.TheVariants.{Written, Long, Refused}
use Rattle.st_model.specs.declared.state.ModelFamily.{ModelFamily}
use Rattle.st_model.specs.declared.state.ModelState.{ModelState}
use Rattle.st_model.specs.Answer.{first_or, refused_if, write_refusals}
use Rattle.st_model.specs.Causes.{is_input_fault, is_stop}
use Rattle.st_model.specs.Long.{is_long, is_read}
use Rattle.st_model.specs.Reads.{found, get_answer, read_in}
use Rattle.st_model.specs.Apply.{op_family, write_charge}
use Rattle.st_model.specs.History.{after_call, is_change}
use Rattle.st_model.specs.Step.{after}
use Rattle.st_model.specs.Reply.{IsOrStops}
use Rattle.st_model.specs.State.{greatest_number}
use Rattle.log_engine.specs.Engine.{OpensTo, state_written}
use Rattle.log_engine.specs.Op.{strange_names, strangers}
use Rattle.log_engine.specs.MarkStore.{IsFirst, StandsForState}
use Rattle.log_engine.specs.declared.store.MarkStore.{MarkStore}
use Rattle.log_engine.proofs.Default.{unknown_is}
use Rattle.log_engine.proofs.Write.{accepted_known}
use Rattle.log_engine.proofs.Writing.{first_cases}
use Rattle.ingest_app.specs.Answer.{EngineSteps, answered_call}
use Rattle.ingest_app.specs.Faults.{IsStopTold}
use Rattle.ingest_app.specs.Op.{is_served, refused_family, refused_name}
use Rattle.ingest_app.specs.declared.answer.Answer.{Answer}

-- ---- the first refusal

pub first_refused : (refusals : List Refusal) (refusal : Refusal) (reply : Reply) → slice_get refusals 0 ≡ Some refusal → Refused refusal ≡ first_or refusals reply
first_refused [] refusal reply e = cc
first_refused (first ∷ refusals) refusal reply e = let is : first ≡ refusal = cc in ap Refused (sym is)

pub none_refused : (refusals : List Refusal) (reply : Reply) → slice_get refusals 0 ≡ None → reply ≡ first_or refusals reply
none_refused [] reply e = refl
none_refused (refusal ∷ refusals) reply e = cc

-- a refusal that is no stop and no want of memory is the answer
pub first_reply : (refusals : List Refusal) (refusal : Refusal) (reply : Reply) → IsFirst refusals refusal → is_stop (Refused refusal) ≡ false → (refusal ≡ OutOfMemory → ⊥) → Refused refusal ≡ first_or refusals reply
first_reply refusals refusal reply is none memory = elim (first_cases refusals refusal is) [
  | inl out ↦ absurd (memory out)
  | inr (inl stopped) ↦ absurd (true≢false (sym (ap (λ r. is_stop (Refused r)) stopped) ∙ none))
  | inr (inr (inl fault)) ↦ absurd (true≢false (sym (ap (λ r. is_stop (Refused r)) fault.0) ∙ none))
  | inr (inr (inr first)) ↦ first_refused refusals refusal reply first
]

pub none_empty : (refusals : List Refusal) → slice_get refusals 0 ≡ None → refusals ≡ []
none_empty [] none = refl
none_empty (refusal ∷ refusals) none = absurd (cc none)

refusal_of : (refusal other : Refusal) → Refused refusal ≡ Refused other → refusal ≡ other
refusal_of refusal other same = cc same

-- any refusal of a write may be answered
pub refused_reply : (refusals : List Refusal) (refusal : Refusal) (reply : Reply) → IsFirst refusals refusal → (refusal ≡ OutOfMemory → ⊥) → IsOrStops (Refused refusal) (first_or refusals reply)
refused_reply refusals refusal reply is memory = elim (first_cases refusals refusal is) [
  | inl out ↦ absurd (memory out)
  | inr (inl stopped) ↦ inr (inl (ap Refused stopped))
  | inr (inr (inl fault)) ↦ inr (inr (ap Refused fault.0))
  | inr (inr (inr first)) ↦ inl (first_refused refusals refusal reply first)
]

-- ---- the family that a refusal names

-- of a read
pub get_names : (names : List (List ℕ)) (value : Option (List ℕ)) → refused_family (first_or (map UnknownFamily names) (found value)) ≡ slice_get names 0
get_names [] None = refl
get_names [] (Some value) = refl
get_names (name ∷ names) value = refl

pub get_unknown : (state : ModelState) (family : ModelFamily) (name key : List ℕ) (reply : Reply) → state.families ≡ (Rattle.st_base.specs.Bytes.default_family, family) ∷ [] → reply ≡ get_answer state state.last name key → refused_family reply ≡ slice_get (strange_names (name ∷ [])) 0
get_unknown state family name key reply families is =
    ap refused_family (is ∙ ap (λ us. first_or us (found (read_in state state.last name key))) (unknown_is state family (name ∷ []) (record { families = families })))
    ∙ get_names (strange_names (name ∷ [])) (read_in state state.last name key)

-- a read is no change and no stop, and it is served
pub read_is : (refusals : List (List ℕ)) (value : Option (List ℕ)) → (is_change (first_or (map UnknownFamily refusals) (found value)) ≡ false) × (is_stop (first_or (map UnknownFamily refusals) (found value)) ≡ false)
    × (is_served (first_or (map UnknownFamily refusals) (found value)) ≡ true)
read_is [] None = (refl, refl, refl)
read_is [] (Some value) = (refl, refl, refl)
read_is (name ∷ names) value = (refl, refl, refl)

-- what is told of a refusal of a write: whether it names the first of these families, and that no input failed
abbrev TellsOf : List (List ℕ) → Refusal → Type 0
TellsOf names refusal = ((Refused refusal ≡ Refused Stopped) ⊎ (refused_name refusal ≡ slice_get names 0)) × (is_input_fault (Refused refusal) ≡ false)

-- the tests that aren't on families name none
other_tells : (p q r : Bool) (refusal : Refusal) → slice_get (refused_if p NumbersSpent ++ refused_if q NumbersSpent ++ refused_if r StoreFull) 0 ≡ Some refusal → TellsOf [] refusal
other_tells true q r refusal e = let is : NumbersSpent ≡ refusal = cc in subst (TellsOf []) is (inr refl, refl)
other_tells false true r refusal e = let is : NumbersSpent ≡ refusal = cc in subst (TellsOf []) is (inr refl, refl)
other_tells false false true refusal e = let is : StoreFull ≡ refusal = cc in subst (TellsOf []) is (inr refl, refl)
other_tells false false false refusal e = absurd cc

first_tells : (names : List (List ℕ)) (p q r : Bool) (refusal : Refusal) → slice_get (map UnknownFamily names ++ refused_if p NumbersSpent ++ refused_if q NumbersSpent ++ refused_if r StoreFull) 0 ≡ Some refusal → TellsOf names refusal
first_tells [] p q r refusal e = other_tells p q r refusal e
first_tells (name ∷ names) p q r refusal e = let is : UnknownFamily name ≡ refusal = cc in subst (TellsOf (name ∷ names)) is (inr refl, refl)

fault_tells : (names : List (List ℕ)) (a b d : List Refusal) → slice_get (map UnknownFamily names ++ a ++ b ++ d) 0 ≡ None → TellsOf names DiskFault
fault_tells [] a b d none = (inr refl, refl)
fault_tells (name ∷ names) a b d none = absurd (cc none)

write_tells : (names : List (List ℕ)) (p q r : Bool) (refusal : Refusal) → IsFirst (map UnknownFamily names ++ refused_if p NumbersSpent ++ refused_if q NumbersSpent ++ refused_if r StoreFull) refusal → (refusal ≡ OutOfMemory → ⊥) → TellsOf names refusal
write_tells names p q r refusal is memory =
    elim (first_cases (map UnknownFamily names ++ refused_if p NumbersSpent ++ refused_if q NumbersSpent ++ refused_if r StoreFull) refusal is) [
      | inl out ↦ absurd (memory out)
      | inr (inl stopped) ↦ subst (TellsOf names) (sym stopped) (inl refl, refl)
      | inr (inr (inl fault)) ↦ subst (TellsOf names) (sym fault.0) (fault_tells names (refused_if p NumbersSpent) (refused_if q NumbersSpent) (refused_if r StoreFull) fault.1)
      | inr (inr (inr first)) ↦ first_tells names p q r refusal first
    ]

pub write_unknown : (state : ModelState) (family : ModelFamily) (capacity : ℕ) (ops : List Op) (refusal : Refusal) → state.families ≡ (Rattle.st_base.specs.Bytes.default_family, family) ∷ [] → IsFirst (write_refusals state capacity ops) refusal → (refusal ≡ OutOfMemory → ⊥)
    → ((Refused refusal ≡ Refused Stopped) ⊎ (refused_name refusal ≡ slice_get (strangers ops) 0)) × (is_input_fault (Refused refusal) ≡ false)
write_unknown state family capacity ops refusal families is memory =
    let a : Bool = nat_lt greatest_number (state.last + length ops) in
    let b : Bool = nat_le greatest_number state.place in
    let c : Bool = nat_lt capacity (add_charge state.charge (write_charge ops)) in
    write_tells (strangers ops) a b c refusal
    (subst (λ us. IsFirst (us ++ refused_if a NumbersSpent ++ refused_if b NumbersSpent ++ refused_if c StoreFull) refusal) (unknown_is state family (map op_family ops) (record { families = families })) is) memory

-- ---- whether the engine is stopped

pub running_of : {X : Type 0} (o : Option X) → (IsSome o → ⊥) → o ≡ None
running_of None no_some = refl
running_of (Some x) no_some = absurd (no_some refl)

pub stopped_is : {X : Type 0} (o : Option X) (x : X) → o ≡ Some x → o ≡ None → ⊥
stopped_is o x is none = cc (sym is ∙ none)

-- ---- the steps

-- an accepted write
pub accepted_steps : (old new : MarkStore) (was is : Option ℕ) (before after_it : DiskTold) (state : ModelState) (batch : Batch) (place last : ℕ) → StandsForState old state → was ≡ None → is ≡ None
    → slice_get (write_refusals state old.capacity batch.ops) 0 ≡ None → place ≡ state.place + 1 → last ≡ state.last + length batch.ops → StandsForState new (state_written state batch)
    → (IsHonest before → Leaves (λ image. OpensTo state image ⊎ OpensTo (state_written state batch) image) before after_it) → (IsHonest before → (image : Image) → after_it.now image → OpensTo (state_written state batch) image)
    → EngineSteps old.capacity (StandsForState new) was is before after_it state (answered_call (Write batch) (record { place = place; reply = Written last }))
accepted_steps old new was is before after_it state batch place last h running still_runs unrefused places lasts stands crash whole = record {
  place = places;
  answered = λ _. inl (ap Written lasts ∙ none_refused (write_refusals state old.capacity batch.ops) (Written (state.last + length batch.ops)) unrefused);
  served = refl;
  change = λ _. running;
  still = λ _. (running, refl);
  stopped = λ stops. absurd (true≢false (sym stops ∙ ap is_some still_runs));
  running = λ _ same. cc same;
  stop = λ stops. absurd (true≢false (sym stops ∙ ap is_some running));
  fault = λ same. absurd (cc same);
  unknown = λ _. inr (sym (ap (λ names. slice_get names 0) (accepted_known state h.family old.capacity batch.ops (record { families = h.families }) unrefused)));
  stands = stands;
  crash = λ honest _ image left. ⊎_elim (λ (b : OpensTo state image). inl b) (λ (a : OpensTo (state_written state batch) image). inr (inl a)) (crash honest image left);
  whole = λ honest _. whole honest;
}

-- a refused one
pub refused_steps : (old new : MarkStore) (was is : Option ℕ) (before after_it : DiskTold) (state : ModelState) (batch : Batch) (place : ℕ) (refusal : Refusal) → StandsForState old state → StandsForState new state → place ≡ state.place → (refusal ≡ OutOfMemory → ⊥)
    → IsFirst (write_refusals state old.capacity batch.ops) refusal → (is ≡ None → (was ≡ None) × (is_stop (Refused refusal) ≡ false))
    → (refusal ≡ Stopped → is_some was ≡ true) → (is_some was ≡ true → refusal ≡ Stopped)
    → (IsHonest before → was ≡ None → Leaves (λ image. OpensTo state image ⊎ ((refusal ≡ DiskFault) × OpensTo (state_written state batch) image)) before after_it) → (IsHonest before → is ≡ None → (image : Image) → after_it.now image → OpensTo state image)
    → EngineSteps old.capacity (StandsForState new) was is before after_it state (answered_call (Write batch) (record { place = place; reply = Refused refusal }))
refused_steps old new was is before after_it state batch place refusal h stands places memory first still stops stopped crash whole = record {
  place = omega (arith, places);
  answered = λ _. refused_reply (write_refusals state old.capacity batch.ops) refusal (Written (state.last + length batch.ops)) first memory;
  served = ap not (write_unknown state h.family old.capacity batch.ops refusal h.families first memory).1;
  change = λ e. absurd (true≢false (sym e));
  still = still;
  stopped = λ _. refl;
  running = λ none same. true≢false (sym (stops (refusal_of refusal Stopped same)) ∙ ap is_some none);
  stop = λ was_stopped. ap Refused (stopped was_stopped);
  fault = λ same. none_empty (write_refusals state old.capacity batch.ops) (subst (IsFirst (write_refusals state old.capacity batch.ops)) (refusal_of refusal DiskFault same) first);
  unknown = λ _. (write_unknown state h.family old.capacity batch.ops refusal h.families first memory).0;
  stands = stands;
  crash = λ honest running image left. ⊎_elim (λ (b : OpensTo state image). inl b) (λ (a : (refusal ≡ DiskFault) × OpensTo (state_written state batch) image). inr (inr (ap Refused a.0, a.1))) (crash honest running image left);
  whole = whole;
}

-- a read
pub get_steps : (store : MarkStore) (was : Option ℕ) (before : DiskTold) (state : ModelState) (family key : List ℕ) (answer : Answer) → StandsForState store state → answer.place ≡ state.place → answer.reply ≡ get_answer state state.last family key
    → (IsHonest before → was ≡ None → Leaves (OpensTo state) before before) → (IsHonest before → was ≡ None → (image : Image) → before.now image → OpensTo state image)
    → EngineSteps store.capacity (StandsForState store) was was before before state (answered_call (Get family key) answer)
get_steps store was before state family key answer h place is crash whole =
    let call : Call = answered_call (Get family key) answer in
    let names = unknown_is state h.family (family ∷ []) (record { families = h.families }) in
    let same_reply : answer.reply ≡ first_or (map UnknownFamily (strange_names (family ∷ []))) (found (read_in state state.last family key)) = is ∙ ap (λ us. first_or us (found (read_in state state.last family key))) names in
    let kind = read_is (strange_names (family ∷ [])) (read_in state state.last family key) in
    let change : is_change answer.reply ≡ false = ap is_change same_reply ∙ kind.0 in
    let stop : is_stop answer.reply ≡ false = ap is_stop same_reply ∙ kind.1 in
    let stays : after state call ≡ state = ap (λ b. cond b (after_call state call) state) change in
    let one : ℕ = 1 in
    let nil : ℕ = 0 in
    let grows : state.place ≡ state.place + cond (is_change answer.reply) one nil = ap (λ n. n) (omega arith) ∙ sym (ap (λ b. state.place + cond b one nil) change) in
    record {
      place = place ∙ grows;
      answered = λ _. is;
      served = ap is_served same_reply ∙ kind.2;
      change = λ e. absurd (true≢false (sym e ∙ change));
      still = λ none. (none, stop);
      stopped = λ _. change;
      running = λ none same. true≢false (sym (ap is_stop same) ∙ stop);
      stop = λ _. tt;
      fault = λ same. absurd (true≢false (sym (ap is_stop same) ∙ stop));
      unknown = λ _. inr (get_unknown state h.family family key answer.reply h.families is);
      stands = subst (λ (s : ModelState). StandsForState store s) (sym stays) h;
      crash = λ honest running image left. inl (crash honest running image left);
      whole = λ honest running image now. subst (λ (s : ModelState). OpensTo s image) (sym stays) (whole honest running image now);
    }

-- a read isn't refused by a stopped store
read_stays : (command : Command) (reply : Reply) → is_read command ≡ true → IsStopTold command reply
read_stays (Write batch) reply reads = absurd (true≢false (sym reads))
read_stays (Get family key) reply reads = tt
read_stays (commands.GetAt name family key) reply reads = tt
read_stays (commands.View views) reply reads = tt
read_stays (commands.Scan family first last limit) reply reads = tt
read_stays (commands.ScanAt name family first last limit) reply reads = tt
read_stays (commands.Snap name) reply reads = tt
read_stays (commands.Release name) reply reads = tt
read_stays (commands.MakeFamily name) reply reads = tt
read_stays (commands.DropFamily name) reply reads = tt
read_stays (commands.Flush name) reply reads = tt
read_stays (commands.Compact name) reply reads = tt
read_stays (commands.Ingest arguments) reply reads = tt
read_stays (commands.Await client number) reply reads = tt

-- whether a command is a read for which the transcript is too long
pub cut_reads : (command : Command) (long is : Bool) → is ≡ is_read command && long → is ≡ true → is_read command ≡ true
cut_reads command long is both cuts = go (is_read command) refl (sym both ∙ cuts)
  where
    go : (b : Bool) → is_read command ≡ b → b && long ≡ true → is_read command ≡ true
    go true e h = e
    go false e h = absurd (true≢false (sym h))

-- a read of a transcript that is too long
pub long_steps : (store : MarkStore) (was : Option ℕ) (before : DiskTold) (state : ModelState) (command : Command) (place : ℕ) → StandsForState store state → place ≡ state.place → is_read command ≡ true
    → (IsHonest before → was ≡ None → Leaves (OpensTo state) before before) → (IsHonest before → was ≡ None → (image : Image) → before.now image → OpensTo state image)
    → EngineSteps store.capacity (StandsForState store) was was before before state (answered_call command (record { place = place; reply = Long }))
long_steps store was before state command place h is reads crash whole = record {
  place = omega (arith, is);
  answered = λ tells. absurd (true≢false (sym tells));
  served = refl;
  change = λ e. absurd (true≢false (sym e));
  still = λ none. (none, refl);
  stopped = λ _. refl;
  running = λ _ same. cc same;
  stop = λ _. read_stays command Long reads;
  fault = λ same. absurd (cc same);
  unknown = λ tells. absurd (true≢false (sym tells));
  stands = h;
  crash = λ honest running image left. inl (crash honest running image left);
  whole = whole;
}

-- an engine's answer is cut nowhere, where the transcript isn't too long for the command
pub cut_of : (reply : Reply) (is : Bool) → is_long reply ≡ false → is ≡ false → is_long reply ≡ is
cut_of reply is short none = short ∙ sym none

pub if_ok_all : {T E : Type 0} (Q : T → Type 0) (r : Result T E) → ((x : T) → Q x) → IfOk r Q
if_ok_all Q (Ok x) all = all x
if_ok_all Q (Err e) all = tt

pub if_ok_map : {T E : Type 0} (P Q : T → Type 0) (r : Result T E) → ((x : T) → P x → Q x) → IfOk r P → IfOk r Q
if_ok_map P Q (Ok x) f p = f x p
if_ok_map P Q (Err e) f p = tt

-- a refusal is that of a disk fault, or not
pub fault_or : (refusal : Refusal) → (refusal ≡ DiskFault) ⊎ (refusal ≡ DiskFault → ⊥)
fault_or refused.EmptyRequest = inr (λ e. cc e)
fault_or (refused.NoFiles a) = inr (λ e. cc e)
fault_or (refused.FamilyTwice a) = inr (λ e. cc e)
fault_or refused.TooManyFiles = inr (λ e. cc e)
fault_or (refused.FileMissing at) = inr (λ e. cc e)
fault_or (refused.InputFault at) = inr (λ e. cc e)
fault_or (refused.BadTable at fault) = inr (λ e. cc e)
fault_or (refused.NoEntry at) = inr (λ e. cc e)
fault_or (refused.FilesMeet at file) = inr (λ e. cc e)
fault_or refused.Stopped = inr (λ e. cc e)
fault_or (refused.UnknownFamily name) = inr (λ e. cc e)
fault_or (refused.BehindNotEnabled a) = inr (λ e. cc e)
fault_or (refused.SnapshotsLive a number) = inr (λ e. cc e)
fault_or (refused.FlushNeeded at key) = inr (λ e. cc e)
fault_or (refused.BehindDoesNotFit at range) = inr (λ e. cc e)
fault_or (refused.NeedsSequence at why) = inr (λ e. cc e)
fault_or (refused.NotLastLevel at level why) = inr (λ e. cc e)
fault_or refused.NumbersSpent = inr (λ e. cc e)
fault_or refused.StoreFull = inr (λ e. cc e)
fault_or refused.DiskFault = inl refl
fault_or (refused.FamilyExists name) = inr (λ e. cc e)
fault_or refused.DefaultStays = inr (λ e. cc e)
fault_or refused.FamiliesFull = inr (λ e. cc e)
fault_or refused.SnapshotsFull = inr (λ e. cc e)
fault_or (refused.SnapshotGone id) = inr (λ e. cc e)
fault_or refused.OutOfMemory = inr (λ e. cc e)

-- one that isn't, of a store that isn't stopped, is no stop
pub no_stop_of : (refusal : Refusal) → (refusal ≡ DiskFault → ⊥) → (refusal ≡ Stopped → ⊥) → is_stop (Refused refusal) ≡ false
no_stop_of refused.EmptyRequest fault stopped = refl
no_stop_of (refused.NoFiles a) fault stopped = refl
no_stop_of (refused.FamilyTwice a) fault stopped = refl
no_stop_of refused.TooManyFiles fault stopped = refl
no_stop_of (refused.FileMissing at) fault stopped = refl
no_stop_of (refused.InputFault at) fault stopped = refl
no_stop_of (refused.BadTable at found) fault stopped = refl
no_stop_of (refused.NoEntry at) fault stopped = refl
no_stop_of (refused.FilesMeet at file) fault stopped = refl
no_stop_of refused.Stopped fault stopped = absurd (stopped refl)
no_stop_of (refused.UnknownFamily name) fault stopped = refl
no_stop_of (refused.BehindNotEnabled a) fault stopped = refl
no_stop_of (refused.SnapshotsLive a number) fault stopped = refl
no_stop_of (refused.FlushNeeded at key) fault stopped = refl
no_stop_of (refused.BehindDoesNotFit at range) fault stopped = refl
no_stop_of (refused.NeedsSequence at why) fault stopped = refl
no_stop_of (refused.NotLastLevel at level why) fault stopped = refl
no_stop_of refused.NumbersSpent fault stopped = refl
no_stop_of refused.StoreFull fault stopped = refl
no_stop_of refused.DiskFault fault stopped = absurd (fault refl)
no_stop_of (refused.FamilyExists name) fault stopped = refl
no_stop_of refused.DefaultStays fault stopped = refl
no_stop_of refused.FamiliesFull fault stopped = refl
no_stop_of refused.SnapshotsFull fault stopped = refl
no_stop_of (refused.SnapshotGone id) fault stopped = refl
no_stop_of refused.OutOfMemory fault stopped = refl
