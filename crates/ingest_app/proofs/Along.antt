-- The calls of the only client, one after the other.
use Rattle.std.proofs.Common.{◌≡◌, ◌≢◌, ◌⊎◌, inl, inr, ⊎_elim, ℕ, zero, suc, ◌+◌, ◌<◌, ◌≤◌, Bool, true, false, cond, nat_eq, List, [], ◌∷◌, ◌++◌, length, map, MatchBool, get_or, Option, Some, None, refl, sym, ◌∙◌, ap, subst, arith, le_trans, le_refl, le_of_eq, true≢false, zero-le, append-nil, append_assoc, ◌-◌, length-append, IsTrue, IsFalse}
use Rattle.std.specs.Prelude.{is_some, not}
use Rattle.std.specs.List.{IsDistinct, AllByRecursion as Each}
use Rattle.std.proofs.lemmas.List.{length-map}
use Rattle.base_laws.proofs.Lists.{each_as, each_push}
use Rattle.st_base.specs.declared.limits.TheConstants.{CAPACITY}
use Rattle.st_device.specs.Disk.{Clock, Image, DiskTold, IsHonest, Leaves, Passes}
use Rattle.st_device.proofs.Moments.{since_then}
use Rattle.log_engine.specs.Engine.{OpensTo, Stands, capacity_of}
use Rattle.log_engine.specs.declared.engine.Engine.{Engine}
use Rattle.st_model.specs.declared.command.Call.{Call}
use Rattle.st_model.specs.declared.command.Command.{Command}
use Rattle.st_model.specs.declared.command.Command.TheVariants.{Write, Get}
use Rattle.st_model.specs.declared.command.Command.TheVariants as command
use Rattle.st_model.specs.declared.command.FileSeen.{FileSeen}
use Rattle.st_model.specs.declared.reply.Reply.{Reply}
use Rattle.st_model.specs.declared.refusal.Refusal.TheVariants.{Stopped, DiskFault}
use Rattle.st_model.specs.declared.reply.Reply.TheVariants.{Await, Refused}
use Rattle.st_model.specs.declared.reply.Reply.TheVariants as reply
use Rattle.st_model.specs.declared.state.ModelState.{ModelState}
use Rattle.st_model.specs.Asked.{IsAskedRightly}
use Rattle.st_model.specs.Await.{AwaitsRightly, awaited}
use Rattle.st_model.specs.Calls.{AreCallsOf, call_of, calls_after}
use Rattle.st_model.specs.Causes.{is_input_fault, is_stop, is_stored}
use Rattle.st_model.specs.History.{after_call, all_calls, is_change, placed_of, state_at}
use Rattle.st_model.specs.Legal.{IsLegal, file_numbers}
use Rattle.st_model.specs.Long.{IsCut}
use Rattle.st_model.specs.Places.{changes_in}
use Rattle.st_model.specs.State.{IsOpening}
use Rattle.st_model.specs.Step.{IsStep, after}
use Rattle.model_laws.specs.Claims.{IsCausedStep, StandsLonger}
use Rattle.model_laws.proofs.Grow.{begins_legally, causes_grow, legal_grows, stands_grow}
use Rattle.ingest_app.specs.Answer.{IsOfCall, IsStrangerTold, Prints, EngineSteps, answered_call, asked_alone}
use Rattle.ingest_app.specs.Client.{transcript}
use Rattle.ingest_app.specs.Crash.{AreKept, AreMoments, IsAfterFirst, IsAmong, IsOfRun, IsWithCutOff, state_now}
use Rattle.ingest_app.specs.Faults.{AreStopped, IsFaultLast, IsFaultTold, IsStopTold, IsUnrefused}
use Rattle.ingest_app.specs.Op.{IsServed, is_served}
use Rattle.ingest_app.specs.declared.answer.Answer.{Answer}
use Rattle.ingest_app.proofs.Printed.{transcript_grows, transcript_length}

-- no command sees a file
abbrev pub no_files : List Command → List (List FileSeen)
no_files commands = map (λ _. []) commands

-- The calls so far are legal, the store stands where they lead, they are printed, and each image opens to the contents
-- after the first of them.
pub record Along (name text : List ℕ) (opening : ModelState) (before now : DiskTold) (stands_for : ModelState → Type 0) (stopped : Option ℕ) (commands : List Command) : Type 0 where
  pub calls : List Call
  pub answers : List (ℕ × Reply)
  pub are : AreCallsOf commands (no_files commands) answers calls
  pub state : ModelState
  pub stands : stands_for state
  pub legal : IsLegal opening CAPACITY (calls ∷ []) 0 (is_some stopped)
  pub newest : state.place ≡ changes_in (calls ∷ [])
  pub is : state ≡ state_at opening (calls ∷ []) state.place
  pub unknown : Each IsStrangerTold calls
  pub stop : AreStopped calls
  pub faults : Each (IsFaultTold opening (calls ∷ [])) calls
  pub printed : text ≡ transcript name calls
  pub moments : List ℕ
  pub each_change : length moments ≡ changes_in (calls ∷ [])
  pub in_turn : AreMoments before.moment now.moment moments
  pub crash : IsHonest before → Leaves (IsOfRun opening (calls ∷ []) 0) before now
  pub kept : IsHonest before → AreKept opening (calls ∷ []) now 0 moments
  pub end : IsHonest before → (image : Image) → now.now image → IsOfRun opening (calls ∷ []) (changes_in (calls ∷ [])) image
  pub whole : IsHonest before → stopped ≡ None → (image : Image) → now.now image → OpensTo state image

-- ---- a command that is served

served_asks : (before : List Call) (one : Command) → IsServed one → IsAskedRightly before (asked_alone one)
served_asks before (Write batch) h = record { snapshot = refl; files = record { each_named = refl; tables = tt } }
served_asks before (Get family key) h = record { snapshot = refl; files = record { each_named = refl; tables = tt } }
served_asks before (command.GetAt name family key) h = absurd h
served_asks before (command.View reads) h = absurd h
served_asks before (command.Scan family first last limit) h = absurd h
served_asks before (command.ScanAt name family first last limit) h = absurd h
served_asks before (command.Snap name) h = absurd h
served_asks before (command.Release name) h = absurd h
served_asks before (command.MakeFamily name) h = absurd h
served_asks before (command.DropFamily name) h = absurd h
served_asks before (command.Flush name) h = absurd h
served_asks before (command.Compact name) h = absurd h
served_asks before (command.Ingest arguments) h = absurd h
served_asks before (command.Await client number) h = absurd h

served_call : (before : List Call) (one : Command) (answer : Answer) → IsServed one → call_of before one [] (answer.place, answer.reply) ≡ answered_call one answer
served_call before (Write batch) answer h = refl
served_call before (Get family key) answer h = refl
served_call before (command.GetAt name family key) answer h = absurd h
served_call before (command.View reads) answer h = absurd h
served_call before (command.Scan family first last limit) answer h = absurd h
served_call before (command.ScanAt name family first last limit) answer h = absurd h
served_call before (command.Snap name) answer h = absurd h
served_call before (command.Release name) answer h = absurd h
served_call before (command.MakeFamily name) answer h = absurd h
served_call before (command.DropFamily name) answer h = absurd h
served_call before (command.Flush name) answer h = absurd h
served_call before (command.Compact name) answer h = absurd h
served_call before (command.Ingest arguments) answer h = absurd h
served_call before (command.Await client number) answer h = absurd h

served_awaits : (transcripts : List (List Call)) (one : Command) (call : Call) → IsServed one → call.reply ≢ Await → AwaitsRightly transcripts (awaited one) call
served_awaits transcripts (Write batch) call h other = other
served_awaits transcripts (Get family key) call h other = other
served_awaits transcripts (command.GetAt name family key) call h other = absurd h
served_awaits transcripts (command.View reads) call h other = absurd h
served_awaits transcripts (command.Scan family first last limit) call h other = absurd h
served_awaits transcripts (command.ScanAt name family first last limit) call h other = absurd h
served_awaits transcripts (command.Snap name) call h other = absurd h
served_awaits transcripts (command.Release name) call h other = absurd h
served_awaits transcripts (command.MakeFamily name) call h other = absurd h
served_awaits transcripts (command.DropFamily name) call h other = absurd h
served_awaits transcripts (command.Flush name) call h other = absurd h
served_awaits transcripts (command.Compact name) call h other = absurd h
served_awaits transcripts (command.Ingest arguments) call h other = absurd h
served_awaits transcripts (command.Await client number) call h other = absurd h

-- a reply to it is no await, has no file, and comes from no fault of the inputs
pub record IsPlain (reply : Reply) : Type 0 where
  pub await : reply ≢ Await
  pub files : placed_of reply ≡ []
  pub inputs : is_input_fault reply ≡ false

served_plain : (one : Reply) → is_served one ≡ true → IsPlain one
served_plain (reply.Written number) h = record { await = λ e. cc e; files = refl; inputs = refl }
served_plain (reply.Found value) h = record { await = λ e. cc e; files = refl; inputs = refl }
served_plain reply.Nothing h = record { await = λ e. cc e; files = refl; inputs = refl }
served_plain reply.Long h = record { await = λ e. cc e; files = refl; inputs = refl }
served_plain (reply.Refused refusal) h = record { await = λ e. cc e; files = refl; inputs = not_true (is_input_fault (Refused refusal)) h }
  where
    not_true : (b : Bool) → not b ≡ true → b ≡ false
    not_true true e = absurd (true≢false (sym e))
    not_true false e = refl
served_plain (reply.View values) h = absurd (true≢false (sym h))
served_plain (reply.Pairs pairs) h = absurd (true≢false (sym h))
served_plain (reply.Snapshot number) h = absurd (true≢false (sym h))
served_plain reply.Released h = absurd (true≢false (sym h))
served_plain reply.Made h = absurd (true≢false (sym h))
served_plain reply.Dropped h = absurd (true≢false (sym h))
served_plain reply.Flushed h = absurd (true≢false (sym h))
served_plain reply.Compacted h = absurd (true≢false (sym h))
served_plain (reply.Ingested placed) h = absurd (true≢false (sym h))
served_plain reply.Await h = absurd (true≢false (sym h))

-- what is stored is a change
stored_change : (one : Reply) → is_stored one ≡ true → is_change one ≡ true
stored_change (reply.Written number) h = refl
stored_change (reply.Found value) h = h
stored_change reply.Nothing h = h
stored_change reply.Long h = h
stored_change (reply.Refused refusal) h = h
stored_change (reply.View values) h = h
stored_change (reply.Pairs pairs) h = h
stored_change (reply.Snapshot number) h = refl
stored_change reply.Released h = refl
stored_change reply.Made h = refl
stored_change reply.Dropped h = refl
stored_change reply.Flushed h = h
stored_change reply.Compacted h = h
stored_change (reply.Ingested placed) h = refl
stored_change reply.Await h = h

-- ---- the commands with one more

calls_push : (before : List Call) (commands : List Command) (answers : List (ℕ × Reply)) (one : Command) (answer : ℕ × Reply) → length answers ≡ length commands
    → calls_after before (commands ++ one ∷ []) (no_files (commands ++ one ∷ [])) (answers ++ answer ∷ [])
    ≡ calls_after before commands (no_files commands) answers ++ call_of (calls_after before commands (no_files commands) answers) one [] answer ∷ []
calls_push before [] [] one answer e = refl
calls_push before [] (first ∷ answers) one answer e = absurd cc
calls_push before (first ∷ commands) [] one answer e = absurd cc
calls_push before (first ∷ commands) (reply ∷ answers) one answer e =
    calls_push (before ++ call_of before first [] reply ∷ []) commands answers one answer (omega (arith, e))

are_more : (commands : List Command) (answers : List (ℕ × Reply)) (calls : List Call) (one : Command) (answer : Answer) → IsServed one
    → AreCallsOf commands (no_files commands) answers calls
    → AreCallsOf (commands ++ one ∷ []) (no_files (commands ++ one ∷ [])) (answers ++ (answer.place, answer.reply) ∷ []) (calls ++ answered_call one answer ∷ [])
are_more commands answers calls one answer served are = record {
  answered = length-append answers ((answer.place, answer.reply) ∷ []) ∙ ap (λ n. n + 1) are.answered ∙ sym (length-append commands (one ∷ []));
  each_seen = length-map (commands ++ one ∷ []) (λ _. []);
  are = ap (λ cs. cs ++ answered_call one answer ∷ []) are.are
      ∙ ap (λ c. calls_after [] commands (no_files commands) answers ++ c ∷ []) (sym (served_call (calls_after [] commands (no_files commands) answers) one answer served))
      ∙ sym (calls_push [] commands answers one (answer.place, answer.reply) are.answered);
}

-- ---- one call among others

pub among_front : (call : Call) (xs ys : List Call) → IsAmong call xs → IsAmong call (xs ++ ys)
among_front call [] ys h = absurd h
among_front call (x ∷ xs) ys (inl is) = inl is
among_front call (x ∷ xs) ys (inr h) = inr (among_front call xs ys h)

pub among_end : (call : Call) (xs : List Call) → IsAmong call (xs ++ call ∷ [])
among_end call [] = inl refl
among_end call (x ∷ xs) = inr (among_end call xs)

-- what holds of each call holds of one of them
each_among : (P : Call → Type 0) (call : Call) (calls : List Call) → Each P calls → IsAmong call calls → P call
each_among P call [] each among = absurd among
each_among P call (x ∷ xs) each (inl is) = subst P is each.0
each_among P call (x ∷ xs) each (inr there) = each_among P call xs each.1 there

pub none_of : {X : Type 0} (o : Option X) → is_some o ≡ false → o ≡ None
none_of None e = refl
none_of (Some x) e = absurd (true≢false e)

-- two facts of each element make a third
each_with : (P Q R : Call → Type 0) → ((call : Call) → P call → Q call → R call) → (calls : List Call) → Each P calls → Each Q calls → Each R calls
each_with P Q R both [] p q = tt
each_with P Q R both (call ∷ calls) p q = (both call p.0 q.0, each_with P Q R both calls p.1 q.1)

-- where none of the calls met a fault, the next alone may have
fault_last : (calls : List Call) (call : Call) → Each (λ (d : Call). d.reply ≢ Refused DiskFault) calls → IsFaultLast (calls ++ call ∷ [])
fault_last [] call none = tt
fault_last (first ∷ []) call none = (none.0, tt)
fault_last (first ∷ next ∷ calls) call none = (none.0, fault_last (next ∷ calls) call none.1)

-- ---- one call more

-- the calls of the only client are all calls
all_of_one : (calls : List Call) → all_calls (calls ∷ []) ≡ calls
all_of_one calls = append-nil calls

-- an image with so many changes has fewer too
fewer : (transcripts : List (List Call)) (few many : ℕ) → few ≤ many → {opening : ModelState} (image : Image) → IsOfRun opening transcripts many image → IsOfRun opening transcripts few image
fewer transcripts few many le image (inl first) = inl (record { count = first.count; at_least = le_trans le first.at_least; within = first.within; opens = first.opens })
fewer transcripts few many le image (inr cut) = inr cut

newest_of : (b : Bool) (place changes : ℕ) → place ≡ changes → MatchBool b (place ≡ changes) (place ≤ changes)
newest_of true place changes e = e
newest_of false place changes e = le_of_eq e

module _ (opening : ModelState) (was is : Option ℕ) (calls : List Call) (call : Call) (state : ModelState) (legal : IsLegal opening CAPACITY (calls ∷ []) 0 (is_some was)) (newest : state.place ≡ changes_in (calls ∷ [])) (here : state ≡ state_at opening (calls ∷ []) state.place)
    (step : IsStep state CAPACITY (calls ∷ []) calls call) (plain : IsPlain call.reply) (change : is_change call.reply ≡ true → was ≡ None) (still : is ≡ None → (was ≡ None) × (is_stop call.reply ≡ false)) where
  longer : StandsLonger opening (calls ∷ []) ((calls ++ call ∷ []) ∷ []) state call
  longer = stands_grow opening CAPACITY 0 (is_some was) [] [] calls call state legal here step

  caused : IsCausedStep (all_calls (calls ∷ [])) call 0 0 (is_some was) (is_some is)
  caused = record {
    inputs = le_of_eq (ap (λ b. 0 + cond b 1 0) plain.inputs);
    disk = λ none. let before_it = still (none_of is none) in (ap is_some before_it.0, before_it.1);
    stored = λ stored. each_as (λ (d : Call). IsFalse (is_stop d.reply)) (λ (d : Call). IsTrue (is_stop d.reply) → call.place ≤ d.place)
        (λ d quiet stops. absurd (true≢false (sym stops ∙ quiet))) (all_calls (calls ∷ []))
        (legal.causes.disk (ap is_some (change (stored_change call.reply stored))));
    stop = λ stops. each_as (λ (d : Call). d.place ≤ changes_in (calls ∷ [])) (λ (d : Call). IsTrue (is_stored d.reply) → d.place ≤ call.place)
        (λ d within stored. omega (arith, within, newest, step.place)) (all_calls (calls ∷ [])) legal.within;
  }

  pub grown : IsLegal opening CAPACITY ((calls ++ call ∷ []) ∷ []) 0 (is_some is)
  grown = legal_grows opening CAPACITY 0 0 (is_some was) (is_some is) [] [] calls call state legal here step
      (causes_grow 0 0 (is_some was) (is_some is) [] [] calls call legal.causes caused)

  pub count_of : changes_in ((calls ++ call ∷ []) ∷ []) ≡ changes_in (calls ∷ []) + cond (is_change call.reply) 1 0
  count_of = longer.count

  -- the place that is printed is the number of changes
  place_is : call.place ≡ changes_in ((calls ++ call ∷ []) ∷ [])
  place_is = step.place ∙ ap (λ n. n + cond (is_change call.reply) 1 0) newest ∙ sym longer.count

  pub newest_now : (after state call).place ≡ changes_in ((calls ++ call ∷ []) ∷ [])
  newest_now = longer.place ∙ place_is

  pub here_now : after state call ≡ state_at opening ((calls ++ call ∷ []) ∷ []) (after state call).place
  here_now = longer.is ∙ ap (state_at opening ((calls ++ call ∷ []) ∷ [])) (sym longer.place)

  count_grows : changes_in (calls ∷ []) ≤ changes_in ((calls ++ call ∷ []) ∷ [])
  count_grows = le_trans (omega arith) (le_of_eq (sym longer.count))

  state_is : state ≡ state_now opening (calls ∷ [])
  state_is = here ∙ ap (state_at opening (calls ∷ [])) newest

  -- the state before the call, as one after the first changes
  before_is : state_at opening ((calls ++ call ∷ []) ∷ []) (changes_in (calls ∷ [])) ≡ state
  before_is = longer.earlier (changes_in (calls ∷ [])) (le_refl (changes_in (calls ∷ []))) ∙ sym state_is

  -- the state after it
  after_is : state_now opening ((calls ++ call ∷ []) ∷ []) ≡ after state call
  after_is = ap (state_at opening ((calls ++ call ∷ []) ∷ [])) (sym place_is) ∙ sym longer.is

  more_first : (least : ℕ) (image : Image) → IsAfterFirst opening (calls ∷ []) least image → IsAfterFirst opening ((calls ++ call ∷ []) ∷ []) least image
  more_first least image first = record {
    count = first.count;
    at_least = first.at_least;
    within = le_trans first.within count_grows;
    opens = subst (λ (s : ModelState). OpensTo s image) (sym (longer.earlier first.count first.within)) first.opens;
  }

  more_cut : (image : Image) → IsWithCutOff opening (calls ∷ []) image → IsWithCutOff opening ((calls ++ call ∷ []) ∷ []) image
  more_cut image cut =
      let within : cut.call.place ≤ changes_in (calls ∷ []) = each_among (λ (d : Call). d.place ≤ changes_in (calls ∷ [])) cut.call (all_calls (calls ∷ [])) legal.within cut.among in
      record {
        call = cut.call;
        among = subst (λ cs. IsAmong cut.call cs) (sym (all_of_one (calls ++ call ∷ []))) (among_front cut.call calls (call ∷ []) (subst (λ cs. IsAmong cut.call cs) (all_of_one calls) cut.among));
        refused = cut.refused;
        opens = subst (λ (s : ModelState). OpensTo (after_call s cut.call) image) (sym (longer.earlier cut.call.place within)) cut.opens;
      }

  -- an image of the run so far
  pub more_of_run : (least : ℕ) (image : Image) → IsOfRun opening (calls ∷ []) least image → IsOfRun opening ((calls ++ call ∷ []) ∷ []) least image
  more_of_run least image (inl first) = inl (more_first least image first)
  more_of_run least image (inr cut) = inr (more_cut image cut)

  -- an image that opens to the state after the call
  pub after_of_run : (image : Image) → OpensTo (after state call) image → IsOfRun opening ((calls ++ call ∷ []) ∷ []) (changes_in ((calls ++ call ∷ []) ∷ [])) image
  after_of_run image later = inl (record {
    count = changes_in ((calls ++ call ∷ []) ∷ []);
    at_least = le_refl (changes_in ((calls ++ call ∷ []) ∷ []));
    within = le_refl (changes_in ((calls ++ call ∷ []) ∷ []));
    opens = subst (λ (s : ModelState). OpensTo s image) (sym after_is) later;
  })

  -- an image of the call has all changes before it
  pub call_of_run : (image : Image) → IsOfCall state call image → IsOfRun opening ((calls ++ call ∷ []) ∷ []) (changes_in (calls ∷ [])) image
  call_of_run image (inl before) = inl (record {
    count = changes_in (calls ∷ []);
    at_least = le_refl (changes_in (calls ∷ []));
    within = count_grows;
    opens = subst (λ (s : ModelState). OpensTo s image) (sym before_is) before;
  })
  call_of_run image (inr (inl later)) = fewer ((calls ++ call ∷ []) ∷ []) (changes_in (calls ∷ [])) (changes_in ((calls ++ call ∷ []) ∷ [])) count_grows image (after_of_run image later)
  call_of_run image (inr (inr cut)) =
      let place : call.place ≡ changes_in (calls ∷ []) = step.place ∙ ap (λ b. state.place + cond b 1 0) (ap is_change cut.0) ∙ (let e : state.place + 0 ≡ state.place = omega arith in e) ∙ newest in
      inr (record {
        call = call;
        among = subst (λ cs. IsAmong call cs) (sym (all_of_one (calls ++ call ∷ []))) (among_end call calls);
        refused = cut.0;
        opens = subst (λ (s : ModelState). OpensTo (after_call s call) image) (sym (ap (state_at opening ((calls ++ call ∷ []) ∷ [])) place ∙ before_is)) cut.1;
      })

  -- with a call that is no change there are as many changes
  same_count : is_change call.reply ≡ false → changes_in ((calls ++ call ∷ []) ∷ []) ≡ changes_in (calls ∷ [])
  same_count none = longer.count ∙ ap (λ b. changes_in (calls ∷ []) + cond b 1 0) none ∙ (let e : changes_in (calls ∷ []) + 0 ≡ changes_in (calls ∷ []) = omega arith in e)

  -- an image at the end of the call
  pub end_of_run : (image : Image) → is_change call.reply ≡ false → IsOfRun opening ((calls ++ call ∷ []) ∷ []) (changes_in (calls ∷ [])) image → IsOfRun opening ((calls ++ call ∷ []) ∷ []) (changes_in ((calls ++ call ∷ []) ∷ [])) image
  end_of_run image none = subst (λ n. IsOfRun opening ((calls ++ call ∷ []) ∷ []) n image) (sym (same_count none))

  calls_within : Each (λ (d : Call). d.place ≤ changes_in (calls ∷ [])) calls
  calls_within = subst (Each (λ (d : Call). d.place ≤ changes_in (calls ∷ []))) (all_of_one calls) legal.within

  -- what is told of a fault of the disk stays
  faults_stay : (d : Call) → d.place ≤ changes_in (calls ∷ []) → IsFaultTold opening (calls ∷ []) d → IsFaultTold opening ((calls ++ call ∷ []) ∷ []) d
  faults_stay d within told same = subst (λ (s : ModelState). IsUnrefused s CAPACITY d.asked.command) (sym (longer.earlier d.place within)) (told same)

  pub faults_grow : Each (IsFaultTold opening (calls ∷ [])) calls → (call.reply ≡ Refused DiskFault → IsUnrefused state CAPACITY call.asked.command) → Each (IsFaultTold opening ((calls ++ call ∷ []) ∷ [])) (calls ++ call ∷ [])
  faults_grow so_far now = each_push (IsFaultTold opening ((calls ++ call ∷ []) ∷ [])) calls call
      (each_with (λ (d : Call). d.place ≤ changes_in (calls ∷ [])) (IsFaultTold opening (calls ∷ [])) (IsFaultTold opening ((calls ++ call ∷ []) ∷ [])) faults_stay calls calls_within so_far)
      (λ same.
      let stays : after state call ≡ state = ap (λ (r : Reply). cond (is_change r) (after_call state call) state) same in
      subst (λ (s : ModelState). IsUnrefused s CAPACITY call.asked.command) (sym stays ∙ longer.is) (now same))

  -- a store that no fault has stopped has told of none
  quiet_so_far : was ≡ None → Each (λ (d : Call). IsFalse (is_stop d.reply)) calls
  quiet_so_far none = subst (Each (λ (d : Call). IsFalse (is_stop d.reply))) (all_of_one calls) (legal.causes.disk (ap is_some none))

  pub stop_grows : AreStopped calls → (was ≡ None → call.reply ≢ Refused Stopped) → (is_some was ≡ true → IsStopTold call.asked.command call.reply) → AreStopped (calls ++ call ∷ [])
  stop_grows so_far running stop = go was refl
    where
      go : (o : Option ℕ) → was ≡ o → AreStopped (calls ++ call ∷ [])
      go None none = record {
        before = calls ++ call ∷ [];
        behind = [];
        are = sym (append-nil (calls ++ call ∷ []));
        running = each_push (λ (d : Call). d.reply ≢ Refused Stopped) calls call
            (each_as (λ (d : Call). IsFalse (is_stop d.reply)) (λ (d : Call). d.reply ≢ Refused Stopped) (λ d quiet same. true≢false (sym (ap is_stop same) ∙ quiet)) calls (quiet_so_far none)) (running none);
        fault = fault_last calls call (each_as (λ (d : Call). IsFalse (is_stop d.reply)) (λ (d : Call). d.reply ≢ Refused DiskFault) (λ d quiet same. true≢false (sym (ap is_stop same) ∙ quiet)) calls (quiet_so_far none));
        stopped = tt;
      }
      go (Some stops) some = record {
        before = so_far.before;
        behind = so_far.behind ++ call ∷ [];
        are = ap (λ cs. cs ++ call ∷ []) so_far.are ∙ append_assoc so_far.before so_far.behind (call ∷ []);
        running = so_far.running;
        fault = so_far.fault;
        stopped = each_push (λ (d : Call). IsStopTold d.asked.command d.reply) so_far.behind call so_far.stopped (stop (ap is_some some));
      }

-- the answer of the engine as a step of the run
module _ (opening : ModelState) (failed : Bool) (calls : List Call) (state : ModelState) (one : Command) (answer : Answer) (served : IsServed one) (legal : IsLegal opening CAPACITY (calls ∷ []) 0 failed) (newest : state.place ≡ changes_in (calls ∷ []))
    (capacity : ℕ) (stands : ModelState → Type 0) (was is : Option ℕ) (before after_it : DiskTold) (room : capacity ≡ CAPACITY) (steps : EngineSteps capacity stands was is before after_it state (answered_call one answer)) where
  pub plain_reply : IsPlain answer.reply
  plain_reply = served_plain answer.reply steps.served

  pub step_of : (bytes : ℕ) → IsCut bytes (answered_call one answer) → bytes ≡ Rattle.st_model.specs.Long.printed_length calls → IsStep state CAPACITY (calls ∷ []) calls (answered_call one answer)
  step_of bytes cut length_is = record {
    asked = served_asks calls one served;
    seen = subst (Each (λ (d : Call). d.place ≤ state.place)) (all_of_one calls)
        (each_as (λ (d : Call). d.place ≤ changes_in (calls ∷ [])) (λ (d : Call). d.place ≤ state.place) (λ d within. le_trans within (le_of_eq (sym newest))) (all_calls (calls ∷ [])) legal.within);
    newest = newest_of (is_change answer.reply) state.place (changes_in (calls ∷ [])) newest;
    place = steps.place;
    answered = λ tells. subst (λ n. Rattle.st_model.specs.Reply.IsReply state n (asked_alone one) answer.reply) room (steps.answered tells);
    awaits = served_awaits (calls ∷ []) one (answered_call one answer) served plain_reply.await;
    files = subst (IsDistinct nat_eq) (sym (ap (λ placed. file_numbers (calls ∷ []) ++ map (λ (p : Rattle.st_model.specs.declared.reply.Placed.Placed). p.file) placed) plain_reply.files ∙ append-nil (file_numbers (calls ∷ [])))) legal.files;
    cut = subst (λ n. IsCut n (answered_call one answer)) length_is cut;
  }

-- ---- moments

moments_more : (from until later : ℕ) (moments : List ℕ) → until ≤ later → AreMoments from until moments → AreMoments from later moments
moments_more from until later [] le within = le_trans within le
moments_more from until later (moment ∷ moments) le within = (within.0, moments_more moment until later moments le within.1)

moments_push : (from until : ℕ) (moments : List ℕ) → AreMoments from until moments → AreMoments from until (moments ++ until ∷ [])
moments_push from until [] within = (within, le_refl until)
moments_push from until (moment ∷ moments) within = (within.0, moments_push moment until moments within.1)

-- a moment more, where the call is a change
abbrev next_moments : Bool → List ℕ → ℕ → List ℕ
next_moments b moments moment = cond b (moments ++ moment ∷ []) moments

next_in_turn : (b : Bool) (from until later : ℕ) (moments : List ℕ) → until ≤ later → AreMoments from until moments → AreMoments from later (next_moments b moments later)
next_in_turn true from until later moments le within = moments_push from later moments (moments_more from until later moments le within)
next_in_turn false from until later moments le within = moments_more from until later moments le within

next_count : (b : Bool) (moments : List ℕ) (moment old new : ℕ) → length moments ≡ old → new ≡ old + cond b 1 0 → length (next_moments b moments moment) ≡ new
next_count true moments moment old new count is = length-append moments (moment ∷ []) ∙ ap (λ n. n + 1) count ∙ sym is
next_count false moments moment old new count is = let e : old ≡ old + 0 = omega arith in count ∙ e ∙ sym is

-- images since an earlier moment have at least as many changes later
kept_more : (opening : ModelState) (old new : List (List Call)) (mid now : DiskTold) (from before most : ℕ) (moments : List ℕ)
    → ((least : ℕ) (t : ℕ) (image : Image) → least ≤ most → t ≤ mid.moment → ((image : Image) → mid.since t image → IsOfRun opening old least image) → now.since t image → IsOfRun opening new least image)
    → before + length moments ≤ most → AreMoments from mid.moment moments → AreKept opening old mid before moments → AreKept opening new now before moments
kept_more opening old new mid now from before most [] on fits within kept = tt
kept_more opening old new mid now from before most (moment ∷ moments) on fits within kept = (
  λ image left. on (before + 1) moment image (omega (arith, fits)) (last_moment moment mid.moment moments within.1) kept.0 left,
  kept_more opening old new mid now moment (before + 1) most moments on (omega (arith, fits)) within.1 kept.1,
)
  where
    last_moment : (m until : ℕ) (ms : List ℕ) → AreMoments m until ms → m ≤ until
    last_moment m until [] within = within
    last_moment m until (n ∷ ms) within = le_trans within.0 (last_moment n until ms within.1)

kept_push : (opening : ModelState) (transcripts : List (List Call)) (now : DiskTold) (before moment : ℕ) (moments : List ℕ) → AreKept opening transcripts now before moments
    → ((image : Image) → now.since moment image → IsOfRun opening transcripts (before + length moments + 1) image) → AreKept opening transcripts now before (moments ++ moment ∷ [])
kept_push opening transcripts now before moment [] kept last = (λ image left. subst (λ n. IsOfRun opening transcripts n image) (let e : before + 0 + 1 ≡ before + 1 = omega arith in e) (last image left), tt)
kept_push opening transcripts now before moment (m ∷ moments) kept last = (
  kept.0,
  kept_push opening transcripts now (before + 1) moment moments kept.1
      (λ image left. subst (λ n. IsOfRun opening transcripts n image) (let e : before + length (m ∷ moments) + 1 ≡ before + 1 + length moments + 1 = omega arith in e) (last image left)),
)

-- the calls with one more
module _ {D : Type 0} (told_of : D → DiskTold) (name text text' : List ℕ) (opening : ModelState) (before : DiskTold) (mid new : Engine D) (commands : List Command) (one : Command) (heading : ℕ)
    (first : heading ≡ length (transcript name [])) (served : IsServed one)
    (p : Passes before (told_of mid.disk)) (q : Passes (told_of mid.disk) (told_of new.disk)) (room : capacity_of mid ≡ CAPACITY) (old : Along name text opening before (told_of mid.disk) (Stands mid) mid.stopped commands)
    (more : Prints told_of mid new one heading text text') (same : (mid.stopped ≡ None) ⊎ (new.disk ≡ mid.disk)) (clock : Clock (told_of new.disk)) where
  abbrev tells : Engine D → DiskTold
  tells engine = told_of engine.disk

  abbrev was : Option ℕ
  was = mid.stopped

  abbrev is : Option ℕ
  is = new.stopped

  abbrev call : Call
  call = answered_call one more.answer

  steps : EngineSteps (capacity_of mid) (Stands new) was is (tells mid) (tells new) old.state (answered_call one more.answer)
  steps = more.steps old.state old.stands

  plain : IsPlain more.answer.reply
  plain = plain_reply opening (is_some was) old.calls old.state one more.answer served old.legal old.newest (capacity_of mid) (Stands new) was is (tells mid) (tells new) room steps

  step : IsStep old.state CAPACITY (old.calls ∷ []) old.calls (answered_call one more.answer)
  step = step_of opening (is_some was) old.calls old.state one more.answer served old.legal old.newest (capacity_of mid) (Stands new) was is (tells mid) (tells new) room steps
      (length text - heading) more.cut (transcript_length name old.calls text heading old.printed first)

  -- images since an earlier moment, with those of the call
  on : IsHonest before → (least t : ℕ) (image : Image) → least ≤ changes_in (old.calls ∷ []) → t ≤ (tells mid).moment → ((image : Image) → (tells mid).since t image → IsOfRun opening (old.calls ∷ []) least image) → (tells new).since t image → IsOfRun opening ((old.calls ++ answered_call one more.answer ∷ []) ∷ []) least image
  on honest least t image le earlier so_far left = ⊎_elim
      (λ (running : was ≡ None). since_then (IsOfRun opening ((old.calls ++ answered_call one more.answer ∷ []) ∷ []) least) t earlier q
      (λ x before_it. more_of_run opening was is old.calls (answered_call one more.answer) old.state old.legal old.newest old.is step plain steps.change steps.still least x (so_far x before_it))
      (λ x during. fewer ((old.calls ++ answered_call one more.answer ∷ []) ∷ []) least (changes_in (old.calls ∷ [])) le x (call_of_run opening was is old.calls (answered_call one more.answer) old.state old.legal old.newest old.is step plain steps.change steps.still x (steps.crash (p.honest_on honest) running x during)))
      image left)
      (λ (is_same : new.disk ≡ mid.disk). more_of_run opening was is old.calls (answered_call one more.answer) old.state old.legal old.newest old.is step plain steps.change steps.still least image (so_far image (subst (λ disk. (told_of disk).since t image) is_same left)))
      same

  -- images at the end of the call
  end_now : IsHonest before → (o : Option ℕ) → is ≡ o → (image : Image) → (tells new).now image → IsOfRun opening ((old.calls ++ answered_call one more.answer ∷ []) ∷ []) (changes_in ((old.calls ++ answered_call one more.answer ∷ []) ∷ [])) image
  end_now honest None none image now = after_of_run opening was is old.calls (answered_call one more.answer) old.state old.legal old.newest old.is step plain steps.change steps.still image (steps.whole (p.honest_on honest) none image now)
  end_now honest (Some stop) some image now =
      let none : is_change more.answer.reply ≡ false = steps.stopped (ap is_some some) in
      end_of_run opening was is old.calls (answered_call one more.answer) old.state old.legal old.newest old.is step plain steps.change steps.still image none
      (⊎_elim
      (λ (running : was ≡ None). call_of_run opening was is old.calls (answered_call one more.answer) old.state old.legal old.newest old.is step plain steps.change steps.still image (steps.crash (p.honest_on honest) running image (q.ends image now)))
      (λ (is_same : new.disk ≡ mid.disk). more_of_run opening was is old.calls (answered_call one more.answer) old.state old.legal old.newest old.is step plain steps.change steps.still (changes_in (old.calls ∷ [])) image (old.end honest image (subst (λ disk. (told_of disk).now image) is_same now)))
      same)

  -- from now on no image lacks the change
  kept_now : IsHonest before → (b : Bool) → is_change more.answer.reply ≡ b → AreKept opening ((old.calls ++ answered_call one more.answer ∷ []) ∷ []) (tells new) 0 (next_moments b old.moments (tells new).moment)
  kept_now honest b change =
      let so_far : AreKept opening ((old.calls ++ answered_call one more.answer ∷ []) ∷ []) (tells new) 0 old.moments =
      kept_more opening (old.calls ∷ []) ((old.calls ++ answered_call one more.answer ∷ []) ∷ []) (tells mid) (tells new) before.moment 0 (changes_in (old.calls ∷ [])) old.moments (on honest) (omega (arith, old.each_change)) old.in_turn (old.kept honest) in
      go b change so_far
    where
      go : (b : Bool) → is_change more.answer.reply ≡ b → AreKept opening ((old.calls ++ answered_call one more.answer ∷ []) ∷ []) (tells new) 0 old.moments → AreKept opening ((old.calls ++ answered_call one more.answer ∷ []) ∷ []) (tells new) 0 (next_moments b old.moments (tells new).moment)
      go false change so_far = so_far
      go true change so_far =
          let count : changes_in ((old.calls ++ answered_call one more.answer ∷ []) ∷ []) ≡ 0 + length old.moments + 1 = count_of opening was is old.calls (answered_call one more.answer) old.state old.legal old.newest old.is step plain steps.change steps.still ∙ ap (λ b. changes_in (old.calls ∷ []) + cond b 1 0) change ∙ ap (λ n. n + 1) (sym old.each_change) ∙ (let e : length old.moments + 1 ≡ 0 + length old.moments + 1 = omega arith in e) in
          kept_push opening ((old.calls ++ answered_call one more.answer ∷ []) ∷ []) (tells new) 0 (tells new).moment old.moments so_far
          (λ image left. subst (λ n. IsOfRun opening ((old.calls ++ answered_call one more.answer ∷ []) ∷ []) n image) count (end_now honest is refl image (clock.only_now image left)))

  pub along_grows : Along name text' opening before (tells new) (Stands new) is (commands ++ one ∷ [])
  along_grows = record {
    calls = old.calls ++ answered_call one more.answer ∷ [];
    answers = old.answers ++ (more.answer.place, more.answer.reply) ∷ [];
    are = are_more commands old.answers old.calls one more.answer served old.are;
    state = after old.state (answered_call one more.answer);
    stands = steps.stands;
    legal = grown opening was is old.calls (answered_call one more.answer) old.state old.legal old.newest old.is step plain steps.change steps.still;
    newest = newest_now opening was is old.calls (answered_call one more.answer) old.state old.legal old.newest old.is step plain steps.change steps.still;
    is = here_now opening was is old.calls (answered_call one more.answer) old.state old.legal old.newest old.is step plain steps.change steps.still;
    unknown = each_push IsStrangerTold old.calls (answered_call one more.answer) old.unknown steps.unknown;
    stop = stop_grows opening was is old.calls (answered_call one more.answer) old.state old.legal old.newest old.is step plain steps.change steps.still old.stop steps.running steps.stop;
    faults = faults_grow opening was is old.calls (answered_call one more.answer) old.state old.legal old.newest old.is step plain steps.change steps.still old.faults
        (λ same. subst (λ n. IsUnrefused old.state n one) room (steps.fault same));
    printed = transcript_grows name old.calls (answered_call one more.answer) text' text old.printed more.printed;
    moments = next_moments (is_change more.answer.reply) old.moments (tells new).moment;
    each_change = next_count (is_change more.answer.reply) old.moments (tells new).moment (changes_in (old.calls ∷ [])) (changes_in ((old.calls ++ answered_call one more.answer ∷ []) ∷ [])) old.each_change
        (count_of opening was is old.calls (answered_call one more.answer) old.state old.legal old.newest old.is step plain steps.change steps.still);
    in_turn = next_in_turn (is_change more.answer.reply) before.moment (tells mid).moment (tells new).moment old.moments q.later old.in_turn;
    crash = λ honest image left. on honest 0 before.moment image zero-le p.later (old.crash honest) left;
    kept = λ honest. kept_now honest (is_change more.answer.reply) refl;
    end = λ honest. end_now honest is refl;
    whole = λ honest running image now. steps.whole (p.honest_on honest) running image now;
  }

-- before the first call
pub along_start : (name text : List ℕ) (opening : ModelState) (before : DiskTold) (stands_for : ModelState → Type 0) (stopped : Option ℕ) → text ≡ transcript name [] → stands_for opening → IsOpening opening → stopped ≡ None
    → (IsHonest before → Leaves (OpensTo opening) before before) → (IsHonest before → (image : Image) → before.now image → OpensTo opening image) → Along name text opening before before stands_for stopped []
along_start name text opening before stands_for stopped printed stands fresh running leaves opens =
    let begins = begins_legally opening CAPACITY ([] ∷ []) fresh (refl, tt) in
    record {
      calls = [];
      answers = [];
      are = record { answered = refl; each_seen = refl; are = refl };
      state = opening;
      stands = stands;
      legal = subst (λ (failed : Bool). IsLegal opening CAPACITY ([] ∷ []) 0 failed) (sym (ap is_some running)) begins.0;
      newest = fresh.place;
      is = sym begins.1 ∙ ap (state_at opening ([] ∷ [])) (sym fresh.place);
      unknown = tt;
      stop = record { before = []; behind = []; are = refl; running = tt; fault = tt; stopped = tt };
      faults = tt;
      printed = printed;
      moments = [];
      each_change = refl;
      in_turn = le_refl before.moment;
      crash = λ honest image left. inl (record { count = 0; at_least = zero-le; within = zero-le; opens = leaves honest image left });
      kept = λ honest. tt;
      end = λ honest image now. inl (record { count = 0; at_least = zero-le; within = zero-le; opens = opens honest image now });
      whole = λ honest none. opens honest;
    }

-- what holds of each element holds of one
pub each_at : {X : Type 0} (P : X → Type 0) (xs : List X) (i : ℕ) (x : X) → i < length xs → x ≡ get_or xs i x → Each P xs → P x
each_at P [] i x le is h = absurd (omega (arith, le))
each_at P (y ∷ ys) zero x le is h = subst P (sym is) h.0
each_at P (y ∷ ys) (suc i) x le is h = each_at P ys i x (omega (arith, le)) is h.1
