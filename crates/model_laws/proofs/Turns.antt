-- The states of a run: the accepted calls one after the other, and the history that they are.
use Rattle.std.proofs.Common.{arith, ◌≡◌, ℕ, zero, suc, ◌+◌, ◌-◌, Bool, true, false, not, List, [], ◌∷◌, ◌++◌, map, filter, filter_map, fold, length, take, cond, refl, ap, sym, subst, ◌∙◌, IsTrue, IsFalse, IsSomeAnd, MatchBool, append_assoc, length-append, le_refl, take_all, true≢false, inl, inr, Option, Some, None, option_map, unwrap_or}
use Rattle.std.specs.Bool.{⊤}
use Rattle.std.specs.List.{cons_option, AllByRecursion as Each}
use Rattle.std.proofs.lemmas.List.{take-append-le}
use Rattle.st_base.specs.declared.entry.KeyRange.{KeyRange}
use Rattle.st_model.specs.declared.change.Change.{Change}
use Rattle.st_model.specs.declared.change.Change.TheVariants as change
use Rattle.st_model.specs.declared.command.Asked.{Asked}
use Rattle.st_model.specs.declared.command.Call.{Call}
use Rattle.st_model.specs.declared.command.Command.{Command}
use Rattle.st_model.specs.declared.command.Command.TheVariants as command
use Rattle.st_model.specs.declared.refusal.Refusal.{Refusal}
use Rattle.st_model.specs.declared.refusal.Refusal.TheVariants.{Stopped, DiskFault}
use Rattle.st_model.specs.declared.reply.Reply.{Reply}
use Rattle.st_model.specs.declared.reply.Reply.TheVariants as reply
use Rattle.st_model.specs.declared.state.ModelState.{ModelState}
use Rattle.st_model.specs.declared.state.Snapshot.{Snapshot}
use Rattle.st_model.specs.Answer.{first_or, gone, lower_answer, release_answer, unknown_families}
use Rattle.st_model.specs.Apply.{apply}
use Rattle.st_model.specs.History.{accepted, accepted_calls, after_call, all_calls, change_asked, change_of, is_change, placed_of, state_at}
use Rattle.st_model.specs.Legal.{AreAcceptedInTurn, IsAnswered, tells_place, tells_state}
use Rattle.st_model.specs.Places.{ArePlacesNext, ArePlacesOnce}
use Rattle.st_model.specs.Reads.{at_snapshot, found, get_answer, read_in, scan_answer, view_answer, view_values}
use Rattle.st_model.specs.Reply.{IsOrStops, IsReply, IsReplyTo, keys_from}
use Rattle.st_model.specs.Scan.{pairs_in, scanned}
use Rattle.base_laws.proofs.Lists.{each_as, each_both, each_filter, each_passed, fold_push}
use Rattle.model_laws.specs.Claims.{AnswersAtPlaces, AnswersInTurn, FollowsHistory, IsAnsweredAt, place_spoken_of}
use Rattle.model_laws.proofs.CallLists.{each_sorted, sorted_each}

-- ---- an accepted reply is that of a change

refusal_first : (refusals : List Refusal) (answer : Reply) → is_change answer ≡ false → is_change (first_or refusals answer) ≡ false
refusal_first [] answer e = e
refusal_first (refusal ∷ refusals) answer e = refl

found_reads : (value : Option (List ℕ)) → is_change (found value) ≡ false
found_reads None = refl
found_reads (Some value) = refl

get_reads : (state : ModelState) (number : ℕ) (name key : List ℕ) → is_change (get_answer state number name key) ≡ false
get_reads state number name key = refusal_first (unknown_families state (name ∷ [])) (found (read_in state number name key)) (found_reads (read_in state number name key))

view_reads : (state : ModelState) (reads : List (List ℕ × List ℕ)) → is_change (view_answer state reads) ≡ false
view_reads state reads = refusal_first (unknown_families state (map (λ one. one.0) reads)) (reply.View (view_values state reads)) refl

scan_reads : (state : ModelState) (number : ℕ) (name : List ℕ) (range : KeyRange) (limit : ℕ) → is_change (scan_answer state number name range limit) ≡ false
scan_reads state number name range limit = refusal_first (unknown_families state (name ∷ [])) (reply.Pairs (scanned limit 0 (pairs_in state number name range))) refl

snapshot_reads : (state : ModelState) (snapshot : Snapshot) (answer : ℕ → Reply) → is_change (answer snapshot.number) ≡ false → is_change (at_snapshot state snapshot answer) ≡ false
snapshot_reads state snapshot answer e = refusal_first (gone state snapshot) (answer snapshot.number) e

lower_reads : (state : ModelState) (name : List ℕ) (answer : Reply) → is_change answer ≡ false → is_change (lower_answer state name answer) ≡ false
lower_reads state name answer e = refusal_first (unknown_families state (name ∷ [])) answer e

-- a change isn't read
read_no : (answer given : Reply) → given ≡ answer → is_change answer ≡ false → is_change given ≡ true → ⊥
read_no answer given e fails holds = true≢false (sym holds ∙ ap is_change e ∙ fails)

stops_no : (given answer : Reply) → IsOrStops given answer → is_change answer ≡ false → is_change given ≡ false
stops_no given answer (inl e) fails = ap is_change e ∙ fails
stops_no given answer (inr (inl e)) fails = ap is_change e
stops_no given answer (inr (inr e)) fails = ap is_change e

-- what a command changes, where it is accepted
module _ (state : ModelState) (capacity : ℕ) (asked : Asked) (given : Reply) where
  released : (snapshot : Option Snapshot) (P : Snapshot → Type 0) → IsSomeAnd snapshot P → (one : Change) × (option_map (λ (s : Snapshot). change.Release s.id) snapshot ≡ Some one)
  released None P h = absurd h
  released (Some snapshot) P h = (change.Release snapshot.id, refl)

  at_some : (snapshot : Option Snapshot) (answer : Snapshot → Reply) → ((one : Snapshot) → is_change (answer one) ≡ false) → IsSomeAnd snapshot (λ one. given ≡ answer one) → is_change given ≡ true → ⊥
  at_some None answer fails h holds = h
  at_some (Some snapshot) answer fails h holds = read_no (answer snapshot) given h (fails snapshot) holds

  pub change_is : (one : Command) → IsReplyTo state capacity asked one given → is_change given ≡ true → (c : Change) × (change_asked asked one (placed_of given) ≡ Some c)
  change_is (command.Write batch) h holds = (change.Write batch, refl)
  change_is (command.Snap name) h holds = (change.Snap, refl)
  change_is (command.Release name) h holds = released asked.snapshot (λ snapshot. given ≡ release_answer state snapshot) h
  change_is (command.MakeFamily name) h holds = (change.Make name, refl)
  change_is (command.DropFamily name) h holds = (change.Drop name, refl)
  change_is (command.Ingest arguments) h holds = (_, refl)
  change_is (command.Get family key) h holds = absurd (read_no (get_answer state state.last family key) given h (get_reads state state.last family key) holds)
  change_is (command.GetAt name family key) h holds =
      absurd (at_some asked.snapshot (λ one. at_snapshot state one (λ number. get_answer state number family key)) (λ one. snapshot_reads state one (λ number. get_answer state number family key) (get_reads state one.number family key)) h holds)
  change_is (command.View reads) h holds = absurd (read_no (view_answer state reads) given h (view_reads state reads) holds)
  change_is (command.Scan family first last limit) h holds =
      absurd (read_no (scan_answer state state.last family (keys_from first last) limit) given h (scan_reads state state.last family (keys_from first last) limit) holds)
  change_is (command.ScanAt name family first last limit) h holds =
      absurd (at_some asked.snapshot (λ one. at_snapshot state one (λ number. scan_answer state number family (keys_from first last) limit))
      (λ one. snapshot_reads state one (λ number. scan_answer state number family (keys_from first last) limit) (scan_reads state one.number family (keys_from first last) limit)) h holds)
  change_is (command.Flush name) h holds = absurd (true≢false (sym holds ∙ stops_no given (lower_answer state name reply.Flushed) h (lower_reads state name reply.Flushed refl)))
  change_is (command.Compact name) h holds = absurd (true≢false (sym holds ∙ stops_no given (lower_answer state name reply.Compacted) h (lower_reads state name reply.Compacted refl)))
  change_is (command.Await client number) h holds = absurd h

place_grows : (state : ModelState) (one : Change) → (apply state one).place ≡ state.place + 1
place_grows state (change.Write batch) = refl
place_grows state change.Snap = refl
place_grows state (change.Release id) = refl
place_grows state (change.Make name) = refl
place_grows state (change.Drop name) = refl
place_grows state (change.Ingest files) = refl

-- the state after an accepted call is that after its change, and one place further
pub after_change : (state : ModelState) (call : Call) (one : Change) → change_of call ≡ Some one → after_call state call ≡ apply state one
after_change state call one e = ap (λ o. unwrap_or (option_map (apply state) o) state) e

pub accepted_grows : (state : ModelState) (capacity : ℕ) (call : Call) → IsReply state capacity call.asked call.reply → is_change call.reply ≡ true → (after_call state call).place ≡ state.place + 1
accepted_grows state capacity call right holds =
    let made = change_is state capacity call.asked call.reply call.asked.command right holds in
    ap (λ (s : ModelState). s.place) (after_change state call made.0 made.1) ∙ place_grows state made.0

-- ---- which replies speak of a state

pub tells_parts : (answer : Reply) → tells_place answer ≡ true → (is_change answer ≡ false) × (tells_state answer ≡ true)
tells_parts reply.Await h = absurd (true≢false (sym h))
tells_parts reply.Long h = absurd (true≢false (sym h))
tells_parts (reply.Written number) h = absurd (true≢false (sym h))
tells_parts (reply.Snapshot number) h = absurd (true≢false (sym h))
tells_parts reply.Released h = absurd (true≢false (sym h))
tells_parts reply.Made h = absurd (true≢false (sym h))
tells_parts reply.Dropped h = absurd (true≢false (sym h))
tells_parts (reply.Ingested placed) h = absurd (true≢false (sym h))
tells_parts (reply.Found value) h = (refl, refl)
tells_parts reply.Nothing h = (refl, refl)
tells_parts (reply.View values) h = (refl, refl)
tells_parts (reply.Pairs pairs) h = (refl, refl)
tells_parts reply.Flushed h = (refl, refl)
tells_parts reply.Compacted h = (refl, refl)
tells_parts (reply.Refused refusal) h = (refl, refl)

tells_from : (answer : Reply) → tells_state answer ≡ true → is_change answer ≡ false → tells_place answer ≡ true
tells_from reply.Await h fails = h
tells_from reply.Long h fails = h
tells_from (reply.Written number) h fails = absurd (true≢false fails)
tells_from (reply.Snapshot number) h fails = absurd (true≢false fails)
tells_from reply.Released h fails = absurd (true≢false fails)
tells_from reply.Made h fails = absurd (true≢false fails)
tells_from reply.Dropped h fails = absurd (true≢false fails)
tells_from (reply.Ingested placed) h fails = absurd (true≢false fails)
tells_from (reply.Found value) h fails = refl
tells_from reply.Nothing h fails = refl
tells_from (reply.View values) h fails = refl
tells_from (reply.Pairs pairs) h fails = refl
tells_from reply.Flushed h fails = refl
tells_from reply.Compacted h fails = refl
tells_from (reply.Refused refusal) h fails = refl

pub change_tells : (answer : Reply) → is_change answer ≡ true → tells_state answer ≡ true
change_tells (reply.Written number) h = refl
change_tells (reply.Snapshot number) h = refl
change_tells reply.Released h = refl
change_tells reply.Made h = refl
change_tells reply.Dropped h = refl
change_tells (reply.Ingested placed) h = refl
change_tells (reply.Found value) h = refl
change_tells reply.Nothing h = refl
change_tells (reply.View values) h = refl
change_tells (reply.Pairs pairs) h = refl
change_tells reply.Flushed h = refl
change_tells reply.Compacted h = refl
change_tells reply.Await h = absurd (true≢false (sym h))
change_tells reply.Long h = absurd (true≢false (sym h))
change_tells (reply.Refused refusal) h = refl

-- ---- the accepted calls in turn

pub turn_push : (state : ModelState) (capacity : ℕ) (calls : List Call) (call : Call) → AreAcceptedInTurn state capacity calls → IsReply (fold after_call state calls) capacity call.asked call.reply
    → AreAcceptedInTurn state capacity (calls ++ call ∷ [])
turn_push state capacity [] call turn right = (right, tt)
turn_push state capacity (c ∷ calls) call turn right = (turn.0, turn_push (after_call state c) capacity calls call turn.1 right)

changes_each : (calls : List Call) → Each (λ call. is_change call.reply ≡ true) (accepted calls)
changes_each [] = tt
changes_each (call ∷ calls) = step (is_change call.reply) refl (changes_each calls)
  where
    step : (b : Bool) → is_change call.reply ≡ b → Each (λ c. is_change c.reply ≡ true) (accepted calls) → Each (λ c. is_change c.reply ≡ true) (cond b (call ∷ accepted calls) (accepted calls))
    step true is rest = (is, rest)
    step false is rest = rest

-- the accepted calls are changes
pub changes : (transcripts : List (List Call)) → Each (λ call. is_change call.reply ≡ true) (accepted_calls transcripts)
changes transcripts = sorted_each (λ (call : Call). is_change call.reply ≡ true) (accepted (all_calls transcripts)) (changes_each (all_calls transcripts))

-- ---- the history

follow : (state : ModelState) (capacity : ℕ) (calls : List Call) (place : ℕ) → AreAcceptedInTurn state capacity calls → Each (λ call. is_change call.reply ≡ true) calls
    → fold after_call state (take place calls) ≡ fold apply state (take place (filter_map change_of calls))
follow state capacity [] zero turn all = refl
follow state capacity [] (suc place) turn all = refl
follow state capacity (call ∷ calls) zero turn all = refl
follow state capacity (call ∷ calls) (suc place) turn all =
    let made = change_is state capacity call.asked call.reply call.asked.command turn.0 all.0 in
    let next : after_call state call ≡ apply state made.0 = after_change state call made.0 made.1 in
    follow (after_call state call) capacity calls place turn.1 all.1
    ∙ ap (λ s. fold apply s (take place (filter_map change_of calls))) next
    ∙ sym (ap (λ o. fold apply state (take (suc place) (cons_option o (filter_map change_of calls)))) made.1)

pub follows_history : FollowsHistory
follows_history opening capacity faults failed transcripts place legal = follow opening capacity (accepted_calls transcripts) place legal.accepted (changes transcripts)

-- ---- each reply at its place

-- the calls so far, and the state that they leave
so_far : (opening : ModelState) (all front : List Call) (rest : List Call) → all ≡ front ++ rest → fold after_call opening (take (length front) all) ≡ fold after_call opening front
so_far opening all front rest e =
    ap (fold after_call opening)
    (ap (take (length front)) e ∙ take-append-le (length front) front rest (le_refl (length front)) ∙ take_all (length front) front (le_refl (length front)))

one_longer : (front : List Call) (call : Call) (place : ℕ) → place ≡ length front + 1 → length (front ++ call ∷ []) ≡ place
one_longer front call place e = length-append front (call ∷ []) ∙ omega (arith, e)

-- the accepted calls, each at the state before its place
places_of_turn : (opening : ModelState) (capacity : ℕ) (all front rest : List Call) → all ≡ front ++ rest → ArePlacesNext (length front) (map (λ call. call.place) rest)
    → AreAcceptedInTurn (fold after_call opening front) capacity rest → Each (λ call. IsReply (fold after_call opening (take (call.place - 1) all)) capacity call.asked call.reply) rest
places_of_turn opening capacity all front [] e next turn = tt
places_of_turn opening capacity all front (call ∷ rest) e next turn =
    let here : call.place - 1 ≡ length front = omega (arith, next.0) in
    let state : fold after_call opening (take (call.place - 1) all) ≡ fold after_call opening front = ap (λ n. fold after_call opening (take n all)) here ∙ so_far opening all front (call ∷ rest) e in (
      subst (λ (s : ModelState). IsReply s capacity call.asked call.reply) (sym state) turn.0,
      places_of_turn opening capacity all (front ++ call ∷ []) rest (e ∙ sym (append_assoc front (call ∷ []) rest))
          (subst (λ n. ArePlacesNext n (map (λ (c : Call). c.place) rest)) (sym (one_longer front call call.place next.0)) next.1)
          (subst (λ (s : ModelState). AreAcceptedInTurn s capacity rest) (sym (fold_push after_call opening front call)) turn.1),
    )

-- and the other way round
turn_of_places : (opening : ModelState) (capacity : ℕ) (all front rest : List Call) → all ≡ front ++ rest → ArePlacesNext (length front) (map (λ call. call.place) rest)
    → Each (λ call. IsReply (fold after_call opening (take (call.place - 1) all)) capacity call.asked call.reply) rest → AreAcceptedInTurn (fold after_call opening front) capacity rest
turn_of_places opening capacity all front [] e next each = tt
turn_of_places opening capacity all front (call ∷ rest) e next each =
    let here : call.place - 1 ≡ length front = omega (arith, next.0) in
    let state : fold after_call opening (take (call.place - 1) all) ≡ fold after_call opening front = ap (λ n. fold after_call opening (take n all)) here ∙ so_far opening all front (call ∷ rest) e in (
      subst (λ (s : ModelState). IsReply s capacity call.asked call.reply) state each.0,
      subst (λ (s : ModelState). AreAcceptedInTurn s capacity rest) (fold_push after_call opening front call)
          (turn_of_places opening capacity all (front ++ call ∷ []) rest (e ∙ sym (append_assoc front (call ∷ []) rest))
          (subst (λ n. ArePlacesNext n (map (λ (c : Call). c.place) rest)) (sym (one_longer front call call.place next.0)) next.1) each.1),
    )

-- a call's reply, by whether it is a change
spoken : (opening : ModelState) (capacity : ℕ) (transcripts : List (List Call)) (call : Call) (b : Bool) → is_change call.reply ≡ b
    → (is_change call.reply ≡ true → IsReply (state_at opening transcripts (call.place - 1)) capacity call.asked call.reply) → IsAnswered opening capacity transcripts call
    → tells_state call.reply ≡ true → IsReply (state_at opening transcripts (cond b (call.place - 1) call.place)) capacity call.asked call.reply
spoken opening capacity transcripts call true is accepted other tells = accepted is
spoken opening capacity transcripts call false is accepted other tells =
    subst (λ b. MatchBool b (IsReply (state_at opening transcripts call.place) capacity call.asked call.reply) ⊤) (tells_from call.reply tells is) other

pub answers_at_places : AnswersAtPlaces
answers_at_places opening capacity faults failed transcripts legal =
    let all : List Call = accepted_calls transcripts in
    let right : Call → Type 0 = λ call. IsReply (fold after_call opening (take (call.place - 1) all)) capacity call.asked call.reply in
    let sorted : Each right all = places_of_turn opening capacity all [] all refl legal.once legal.accepted in
    let each : Each (λ call. is_change call.reply ≡ true → right call) (all_calls transcripts) =
    each_passed right (λ (call : Call). is_change call.reply) (all_calls transcripts) (each_sorted right (accepted (all_calls transcripts)) sorted) in
    each_both (λ (call : Call). is_change call.reply ≡ true → right call) (IsAnswered opening capacity transcripts) (IsAnsweredAt opening capacity transcripts)
    (λ call accepted other tells. spoken opening capacity transcripts call (is_change call.reply) refl accepted other tells) (all_calls transcripts) each legal.answered

at_change : (opening : ModelState) (capacity : ℕ) (transcripts : List (List Call)) (call : Call) → IsAnsweredAt opening capacity transcripts call → is_change call.reply ≡ true
    → IsReply (state_at opening transcripts (call.place - 1)) capacity call.asked call.reply
at_change opening capacity transcripts call right is =
    subst (λ b. IsReply (state_at opening transcripts (cond b (call.place - 1) call.place)) capacity call.asked call.reply) is (right (change_tells call.reply is))

at_place : (opening : ModelState) (capacity : ℕ) (transcripts : List (List Call)) (call : Call) → IsAnsweredAt opening capacity transcripts call → IsAnswered opening capacity transcripts call
at_place opening capacity transcripts call right = go (tells_place call.reply) refl
  where
    go : (b : Bool) → tells_place call.reply ≡ b → MatchBool b (IsReply (state_at opening transcripts call.place) capacity call.asked call.reply) ⊤
    go true is =
        let parts = tells_parts call.reply is in
        subst (λ b. IsReply (state_at opening transcripts (cond b (call.place - 1) call.place)) capacity call.asked call.reply) parts.0 (right parts.1)
    go false is = tt

pub answers_in_turn : AnswersInTurn
answers_in_turn opening capacity transcripts once each =
    let all : List Call = accepted_calls transcripts in
    let right : Call → Type 0 = λ call. IsReply (fold after_call opening (take (call.place - 1) all)) capacity call.asked call.reply in
    let made : Each right all =
    each_both (IsAnsweredAt opening capacity transcripts) (λ (call : Call). is_change call.reply ≡ true) right (λ call h is. at_change opening capacity transcripts call h is) all
    (sorted_each (IsAnsweredAt opening capacity transcripts) (accepted (all_calls transcripts)) (each_filter (IsAnsweredAt opening capacity transcripts) (λ (call : Call). is_change call.reply) (all_calls transcripts) each))
    (changes transcripts) in (
      turn_of_places opening capacity all [] all refl once made,
      each_as (IsAnsweredAt opening capacity transcripts) (IsAnswered opening capacity transcripts) (λ call h. at_place opening capacity transcripts call h) (all_calls transcripts) each,
    )
