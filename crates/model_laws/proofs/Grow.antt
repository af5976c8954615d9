-- A run stays legal when one of its clients is given one more answer.
use Rattle.std.proofs.Common.{◌≡◌, ℕ, zero, suc, ◌+◌, ◌-◌, ◌<◌, ◌≤◌, Bool, true, false, List, [], ◌∷◌, ◌++◌, length, take, refl, sym, ◌∙◌, ap, subst, arith, le_trans, le_refl, map, flat_map, length-append, fold, MatchBool, cond, zero-le, true≢false, IsTrue, IsFalse, slice_get, Option, Some, None, IsSomeAnd, take_all, le_of_eq, nat_eq}
use Rattle.std.specs.Bool.{⊤}
use Rattle.std.specs.List.{IsDistinct, count_by, AllByRecursion as Each}
use Rattle.std.specs.Option.{option_and_then}
use Rattle.std.proofs.lemmas.List.{take-append-le, length-map, map-append}
use Rattle.std.proofs.lemmas.List.Sums.{sum_by-append, sum_by-cons}
use Rattle.st_model.specs.declared.command.Call.{Call}
use Rattle.st_model.specs.declared.state.ModelState.{ModelState}
use Rattle.st_model.specs.Asked.{AskRightly, IsAskedRightly}
use Rattle.st_model.specs.Await.{AwaitsRightly, IsAwaitRight, awaited, call_at, counted}
use Rattle.st_model.specs.Causes.{AreStoppedBy, HaveCauses, is_input_fault, is_stop, is_stored}
use Rattle.st_model.specs.History.{accepted, accepted_calls, after_call, all_calls, by_place, is_change, state_at}
use Rattle.st_model.specs.Legal.{AreAcceptedInTurn, IsAnswered, IsLegal, files_of, tells_place}
use Rattle.st_model.specs.Long.{IsCut, IsCutRightly, line_length, printed_length}
use Rattle.st_model.specs.Places.{ArePlacesNext, IsInOrder, changes_in}
use Rattle.st_model.specs.Reply.{IsReply}
use Rattle.st_model.specs.State.{IsOpening}
use Rattle.st_model.specs.Step.{IsStep, after}
use Rattle.base_laws.proofs.Lists.{append_one, each_all, each_as, each_both, each_insert, each_middle, fold_push}
use Rattle.model_laws.specs.Claims.{BeginsLegally, CausesGrow, GrowsLegally, IsCausedStep, StandsGrow, StandsLonger, with_client}
use Rattle.model_laws.proofs.CallLists.{accepted_more, all_with_client, all_more, in_front, in_order_push, length-accepted, next_push, numbers_more}
use Rattle.model_laws.proofs.Turns.{accepted_grows, change_tells, tells_parts, turn_push}

-- ---- the accepted calls

-- what one more call leaves of the accepted calls: s before it, t after it
record Grown (s t : List Call) (call : Call) : Type 0 where
  pub once : ArePlacesNext 0 (map (λ (c : Call). c.place) t)
  pub count : length t ≡ length s + cond (is_change call.reply) 1 0
  pub prefix : (p : ℕ) → p ≤ length s → take p t ≡ take p s

grown_by : (s t : List Call) (call : Call) (b : Bool) → t ≡ cond b (s ++ call ∷ []) s → (b ≡ true → call.place ≡ length s + 1) → ArePlacesNext 0 (map (λ (c : Call). c.place) s)
    → ArePlacesNext 0 (map (λ (c : Call). c.place) t) × (length t ≡ length s + cond b 1 0) × ((p : ℕ) → p ≤ length s → take p t ≡ take p s)
grown_by s t call true e place once =
    let places : map (λ (c : Call). c.place) (s ++ call ∷ []) ≡ map (λ (c : Call). c.place) s ++ call.place ∷ [] = map-append (λ (c : Call). c.place) s (call ∷ []) in
    let same : length (map (λ (c : Call). c.place) s) ≡ length s = length-map s (λ (c : Call). c.place) in
    let next : call.place ≡ length s + 1 = place refl in (
      subst (λ cs. ArePlacesNext 0 (map (λ (c : Call). c.place) cs)) (sym e) (subst (λ ps. ArePlacesNext 0 ps) (sym places) (next_push 0 (map (λ (c : Call). c.place) s) call.place once (omega (arith, next, same)))),
      ap length e ∙ length-append s (call ∷ []),
      λ p l. ap (take p) e ∙ take-append-le p s (call ∷ []) l,
    )
grown_by s t call false e place once = (
  subst (λ cs. ArePlacesNext 0 (map (λ (c : Call). c.place) cs)) (sym e) once,
  ap length e ∙ omega arith,
  λ p l. ap (take p) e,
)

-- the place of a call, by whether it is a change
newest_place : (b : Bool) (place state n : ℕ) → place ≡ state + cond b 1 0 → MatchBool b (state ≡ n) (state ≤ n) → b ≡ true → place ≡ n + 1
newest_place true place state n e newest holds = omega (arith, e, newest)
newest_place false place state n e newest holds = absurd (true≢false (sym holds))

within_place : (b : Bool) (place state n : ℕ) → place ≡ state + cond b 1 0 → MatchBool b (state ≡ n) (state ≤ n) → place ≤ n + cond b 1 0
within_place true place state n e newest = omega (arith, e, newest)
within_place false place state n e newest = omega (arith, e, newest)

state_within : (b : Bool) (state n : ℕ) → MatchBool b (state ≡ n) (state ≤ n) → state ≤ n
state_within true state n newest = le_of_eq newest
state_within false state n newest = newest

order_place : (b : Bool) (place state : ℕ) → place ≡ state + cond b 1 0 → MatchBool b (state < place) (state ≤ place)
order_place true place state e = omega (arith, e)
order_place false place state e = omega (arith, e)

-- ---- awaits

slice_get-more : {X : Type 0} (xs : List X) (y : X) (i : ℕ) (P : X → Type 0) → IsSomeAnd (slice_get xs i) P → IsSomeAnd (slice_get (xs ++ y ∷ []) i) P
slice_get-more [] y zero P h = absurd h
slice_get-more [] y (suc i) P h = absurd h
slice_get-more (x ∷ xs) y zero P h = h
slice_get-more (x ∷ xs) y (suc i) P h = slice_get-more xs y i P h

counted-more : (calls : List Call) (call : Call) (number : ℕ) (P : Call → Type 0) → IsSomeAnd (counted calls number) P → IsSomeAnd (counted (calls ++ call ∷ []) number) P
counted-more calls call zero P h = absurd h
counted-more calls call (suc i) P h = slice_get-more calls call i P h

client-more : (before behind : List (List Call)) (calls : List Call) (call : Call) (client number : ℕ) (P : Call → Type 0)
    → IsSomeAnd (option_and_then (λ cs. counted cs number) (slice_get (with_client before behind calls) client)) P
    → IsSomeAnd (option_and_then (λ cs. counted cs number) (slice_get (with_client before behind (calls ++ call ∷ [])) client)) P
client-more [] behind calls call zero number P h = counted-more calls call number P h
client-more [] behind calls call (suc client) number P h = h
client-more (one ∷ before) behind calls call zero number P h = h
client-more (one ∷ before) behind calls call (suc client) number P h = client-more before behind calls call client number P h

-- a command that was answered is there when another is answered
call_at-more : (before behind : List (List Call)) (calls : List Call) (call : Call) (client number : ℕ) (P : Call → Type 0)
    → IsSomeAnd (call_at (with_client before behind calls) client number) P → IsSomeAnd (call_at (with_client before behind (calls ++ call ∷ [])) client number) P
call_at-more before behind calls call zero number P h = absurd h
call_at-more before behind calls call (suc client) number P h = client-more before behind calls call client number P h

awaits-more : (before behind : List (List Call)) (calls : List Call) (call one : Call) (named : Option (ℕ × ℕ)) → AwaitsRightly (with_client before behind calls) named one
    → AwaitsRightly (with_client before behind (calls ++ call ∷ [])) named one
awaits-more before behind calls call one None h = h
awaits-more before behind calls call one (Some (client, number)) h = (h.0, call_at-more before behind calls call client number (λ other. other.place ≤ one.place) h.1)

-- ---- what is asked, and long transcripts

asked-more : (before calls : List Call) (call : Call) → AskRightly before calls → IsAskedRightly (before ++ calls) call.asked → AskRightly before (calls ++ call ∷ [])
asked-more before [] call h right = (subst (λ cs. IsAskedRightly cs call.asked) (none before) right, tt)
  where
    none : (xs : List Call) → xs ++ [] ≡ xs
    none [] = refl
    none (x ∷ xs) = ap (λ rest. x ∷ rest) (none xs)
asked-more before (one ∷ calls) call h right =
    (h.0, asked-more (before ++ one ∷ []) calls call h.1 (subst (λ cs. IsAskedRightly cs call.asked) (sym (append_one before one calls)) right))

printed-more : (bytes : ℕ) (calls : List Call) (call : Call) → IsCutRightly bytes calls → IsCut (bytes + printed_length calls) call → IsCutRightly bytes (calls ++ call ∷ [])
printed-more bytes [] call h c = (subst (λ n. IsCut n call) (let e : bytes + 0 ≡ bytes = omega arith in e) c, tt)
printed-more bytes (d ∷ calls) call h c =
    (h.0, printed-more (bytes + line_length d) calls call h.1 (subst (λ n. IsCut n call) (let e : bytes + printed_length (d ∷ calls) ≡ bytes + line_length d + printed_length calls = omega (arith, sum_by-cons line_length d calls) in e) c))

-- ---- the step

module _ (opening : ModelState) (capacity : ℕ) (before behind : List (List Call)) (calls : List Call) (call : Call) (state : ModelState) where
  abbrev old : List (List Call)
  old = with_client before behind calls

  abbrev new : List (List Call)
  new = with_client before behind (calls ++ call ∷ [])

  -- the accepted calls so far, all but the new one
  abbrev done : List Call
  done = accepted_calls old

  list_is : Each (λ (c : Call). c.place ≤ changes_in old) (all_calls old) → IsStep state capacity old calls call → accepted_calls new ≡ cond (is_change call.reply) (done ++ call ∷ []) done
  list_is within step =
      accepted_more (changes_in old) before behind calls call within
      (λ holds. let next : call.place ≡ changes_in old + 1 = newest_place (is_change call.reply) call.place state.place (changes_in old) step.place step.newest holds in omega (arith, next))

  grown : Each (λ (c : Call). c.place ≤ changes_in old) (all_calls old) → ArePlacesNext 0 (map (λ (c : Call). c.place) done) → IsStep state capacity old calls call → Grown done (accepted_calls new) call
  grown within once step =
      let parts = grown_by done (accepted_calls new) call (is_change call.reply) (list_is within step)
      (λ holds. newest_place (is_change call.reply) call.place state.place (changes_in old) step.place step.newest holds ∙ ap (λ n. n + 1) (sym (length-accepted old))) once in
      record { once = parts.0; count = parts.1; prefix = parts.2 }

  same_state : Grown done (accepted_calls new) call → (p : ℕ) → p ≤ changes_in old → state_at opening new p ≡ state_at opening old p
  same_state g p l = ap (fold after_call opening) (g.prefix p (le_trans l (le_of_eq (sym (length-accepted old)))))

  count_is : Grown done (accepted_calls new) call → changes_in new ≡ changes_in old + cond (is_change call.reply) 1 0
  count_is g = sym (length-accepted new) ∙ g.count ∙ ap (λ n. n + cond (is_change call.reply) 1 0) (length-accepted old)

  -- the state after all changes so far is the fold over the accepted calls
  all_done : state_at opening old (changes_in old) ≡ fold after_call opening done
  all_done = ap (fold after_call opening) (ap (λ n. take n done) (sym (length-accepted old)) ∙ take_all (length done) done (le_refl (length done)))

  module _ (here : state ≡ state_at opening old state.place) (step : IsStep state capacity old calls call) where
    -- a change is made at that state
    newest_is : (b : Bool) → MatchBool b (state.place ≡ changes_in old) (state.place ≤ changes_in old) → b ≡ true → state ≡ fold after_call opening done
    newest_is true newest holds = here ∙ ap (state_at opening old) newest ∙ all_done
    newest_is false newest holds = absurd (true≢false (sym holds))

    turn : AreAcceptedInTurn opening capacity done → (b : Bool) → is_change call.reply ≡ b → AreAcceptedInTurn opening capacity (cond b (done ++ call ∷ []) done)
    turn accepted true is =
        turn_push opening capacity done call accepted
        (subst (λ (s : ModelState). IsReply s capacity call.asked call.reply) (newest_is (is_change call.reply) step.newest is) (step.answered (change_tells call.reply is)))
    turn accepted false is = accepted

    -- the new call's own reply
    own : Grown done (accepted_calls new) call → (b : Bool) → tells_place call.reply ≡ b → MatchBool b (IsReply (state_at opening new call.place) capacity call.asked call.reply) ⊤
    own g true is =
        let parts = tells_parts call.reply is in
        let place : call.place ≡ state.place = step.place ∙ ap (λ b. state.place + cond b 1 0) parts.0 ∙ omega arith in
        let at : state ≡ state_at opening new call.place =
        here ∙ sym (same_state g state.place (state_within (is_change call.reply) state.place (changes_in old) step.newest)) ∙ ap (state_at opening new) (sym place) in
        subst (λ (s : ModelState). IsReply s capacity call.asked call.reply) at (step.answered parts.1)
    own g false is = tt

    -- the state after the call
    after_is : (b : Bool) → (b ≡ true → (after_call state call).place ≡ state.place + 1) → Grown done (accepted_calls new) call → accepted_calls new ≡ cond b (done ++ call ∷ []) done
        → MatchBool b (state.place ≡ changes_in old) (state.place ≤ changes_in old) → call.place ≡ state.place + cond b 1 0
        → ((cond b (after_call state call) state).place ≡ call.place) × (cond b (after_call state call) state ≡ state_at opening new call.place)
    after_is true grows g list newest place =
        let last : call.place ≡ length (accepted_calls new) = place ∙ ap (λ n. n + 1) (newest ∙ sym (length-accepted old)) ∙ sym (ap length list ∙ length-append done (call ∷ [])) in (
          grows refl ∙ sym place,
          ap (λ (s : ModelState). after_call s call) (newest_is true newest refl) ∙ sym (fold_push after_call opening done call) ∙ ap (fold after_call opening) (sym list)
              ∙ sym (ap (fold after_call opening) (ap (λ n. take n (accepted_calls new)) last ∙ take_all (length (accepted_calls new)) (accepted_calls new) (le_refl (length (accepted_calls new))))),
        )
    after_is false grows g list newest place =
        let same : call.place ≡ state.place = place ∙ omega arith in (
          sym same,
          here ∙ sym (same_state g state.place newest) ∙ ap (state_at opening new) (sym same),
        )

pub legal_grows : GrowsLegally
legal_grows opening capacity faults faults' failed failed' before behind calls call state legal here step causes =
    let ts : List (List Call) = with_client before behind (calls ++ call ∷ []) in
    let was : List (List Call) = with_client before behind calls in
    let g = grown opening capacity before behind calls call state legal.within legal.once step in
    let count = count_is opening capacity before behind calls call state g in
    let front : List Call = in_front before calls in
    let back : List Call = all_calls behind in
    let all_old : all_calls was ≡ front ++ back = all_with_client before behind calls in
    let all_new : all_calls ts ≡ front ++ call ∷ back = all_more before behind calls call in
    let insert : (P Q : Call → Type 0) → ((c : Call) → P c → Q c) → Each P (all_calls was) → Q call → Each Q (all_calls ts) =
    λ P Q to each own. subst (λ cs. Each Q cs) (sym all_new) (each_insert Q front call back (each_as P Q to (front ++ back) (subst (λ cs. Each P cs) all_old each)) own) in
    let answered_old : (c : Call) → (c.place ≤ changes_in was) × IsAnswered opening capacity was c → IsAnswered opening capacity ts c =
    λ c h. subst (λ (s : ModelState). MatchBool (tells_place c.reply) (IsReply s capacity c.asked c.reply) ⊤) (sym (same_state opening capacity before behind calls call state g c.place h.0)) h.1 in
    record {
      begins = legal.begins;
      asked = each_middle (AskRightly []) before calls (calls ++ call ∷ []) behind legal.asked (λ h. asked-more [] calls call h step.asked);
      once = g.once;
      in_order = each_middle (IsInOrder 0) before calls (calls ++ call ∷ []) behind legal.in_order
          (λ h. in_order_push state.place 0 calls call zero-le step.seen (order_place (is_change call.reply) call.place state.place step.place) h);
      awaits = insert (IsAwaitRight was) (IsAwaitRight ts) (λ c h. awaits-more before behind calls call c (awaited c.asked.command) h) legal.awaits
          (awaits-more before behind calls call call (awaited call.asked.command) step.awaits);
      within = insert (λ (c : Call). c.place ≤ changes_in was) (λ (c : Call). c.place ≤ changes_in ts) (λ c h. omega (arith, h, count)) legal.within
          (le_trans (within_place (is_change call.reply) call.place state.place (changes_in was) step.place step.newest) (le_of_eq (sym count)));
      accepted = subst (λ cs. AreAcceptedInTurn opening capacity cs) (sym (list_is opening capacity before behind calls call state legal.within step))
          (turn opening capacity before behind calls call state here step legal.accepted (is_change call.reply) refl);
      answered = insert (λ (c : Call). (c.place ≤ changes_in was) × IsAnswered opening capacity was c) (IsAnswered opening capacity ts) answered_old
          (both_each (λ (c : Call). c.place ≤ changes_in was) (IsAnswered opening capacity was) (all_calls was) legal.within legal.answered)
          (own opening capacity before behind calls call state here step g (tells_place call.reply) refl);
      files = numbers_more before behind calls call step.files;
      cut = each_middle (IsCutRightly 0) before calls (calls ++ call ∷ []) behind legal.cut
          (λ h. printed-more 0 calls call h (subst (λ n. IsCut n call) (let e : printed_length calls ≡ 0 + printed_length calls = omega arith in e) step.cut));
      causes = causes;
    }
  where
    both_each : (P Q : Call → Type 0) (xs : List Call) → Each P xs → Each Q xs → Each (λ x. P x × Q x) xs
    both_each P Q [] p q = tt
    both_each P Q (x ∷ xs) p q = ((p.0, q.0), both_each P Q xs p.1 q.1)

pub stands_grow : StandsGrow
stands_grow opening capacity faults failed before behind calls call state legal here step =
    let g = grown opening capacity before behind calls call state legal.within legal.once step in
    let parts = after_is opening capacity before behind calls call state here step (is_change call.reply)
    (λ holds. accepted_grows state capacity call (step.answered (change_tells call.reply holds)) holds) g (list_is opening capacity before behind calls call state legal.within step) step.newest step.place in
    record {
      count = count_is opening capacity before behind calls call state g;
      earlier = λ place l. same_state opening capacity before behind calls call state g place l;
      place = parts.0;
      is = parts.1;
    }

-- ---- the beginning

each_none : (transcripts : List (List Call)) → Each (λ calls. calls ≡ []) transcripts → all_calls transcripts ≡ []
each_none [] h = refl
each_none (calls ∷ transcripts) h = ap (λ cs. cs ++ all_calls transcripts) h.0 ∙ each_none transcripts h.1

no_numbers : IsDistinct nat_eq []
unfolding IsDistinct
no_numbers = tt

pub begins_legally : BeginsLegally
begins_legally opening capacity transcripts fresh none =
    let all : all_calls transcripts ≡ [] = each_none transcripts none in
    let accepted : accepted_calls transcripts ≡ [] = ap (λ cs. by_place (accepted cs)) all in
    let empty : (P : List Call → Type 0) → P [] → Each P transcripts = λ P holds. each_as (λ (calls : List Call). calls ≡ []) P (λ calls e. subst P (sym e) holds) transcripts none in
    let every : (P : Call → Type 0) → Each P (all_calls transcripts) = λ P. subst (λ cs. Each P cs) (sym all) tt in (
      record {
        begins = fresh;
        asked = empty (AskRightly []) tt;
        once = subst (λ cs. ArePlacesNext 0 (map (λ (c : Call). c.place) cs)) (sym accepted) tt;
        in_order = empty (IsInOrder 0) tt;
        awaits = every (IsAwaitRight transcripts);
        within = every (λ (c : Call). c.place ≤ changes_in transcripts);
        accepted = subst (λ cs. AreAcceptedInTurn opening capacity cs) (sym accepted) tt;
        answered = every (IsAnswered opening capacity transcripts);
        files = subst (λ cs. IsDistinct nat_eq (flat_map files_of cs)) (sym all) no_numbers;
        cut = empty (IsCutRightly 0) tt;
        causes = record {
          inputs = subst (λ cs. count_by (λ (c : Call). is_input_fault c.reply) cs ≤ 0) (sym all) zero-le;
          disk = λ _. every (λ (c : Call). IsFalse (is_stop c.reply));
          stopped = every (AreStoppedBy (all_calls transcripts));
        };
      },
      refl,
    )

-- ---- causes

counted_insert : (test : Call → Bool) (xs ys : List Call) (y : Call) → count_by test (xs ++ y ∷ ys) ≡ count_by test (xs ++ ys) + cond (test y) 1 0
counted_insert test xs ys y =
    let one : Call → ℕ = λ c. cond (test c) 1 0 in
    omega (arith, sum_by-append one xs (y ∷ ys), sum_by-cons one y ys, sum_by-append one xs ys)

-- a fact of each, under a premise
under : (P : Call → Type 0) (b : Bool) (xs : List Call) → (b ≡ true → Each P xs) → Each (λ x. b ≡ true → P x) xs
under P true xs each = each_as P (λ x. true ≡ true → P x) (λ x h holds. h) xs (each refl)
under P false xs each = each_all (λ x. false ≡ true → P x) (λ x holds. absurd (true≢false (sym holds))) xs

pub causes_grow : CausesGrow
causes_grow faults faults' failed failed' before behind calls call causes step =
    let ts : List (List Call) = with_client before behind (calls ++ call ∷ []) in
    let was : List (List Call) = with_client before behind calls in
    let front : List Call = in_front before calls in
    let back : List Call = all_calls behind in
    let all_old : all_calls was ≡ front ++ back = all_with_client before behind calls in
    let all_new : all_calls ts ≡ front ++ call ∷ back = all_more before behind calls call in
    let insert : (Q : Call → Type 0) → Each Q (all_calls was) → Q call → Each Q (all_calls ts) =
    λ Q each own. subst (λ cs. Each Q cs) (sym all_new) (each_insert Q front call back (subst (λ cs. Each Q cs) all_old each) own) in
    let is_fault : Call → Bool = λ c. is_input_fault c.reply in
    let counted : count_by is_fault (all_calls ts) ≡ count_by is_fault (all_calls was) + cond (is_fault call) 1 0 =
    ap (count_by is_fault) all_new ∙ counted_insert is_fault front back call ∙ ap (λ cs. count_by is_fault cs + cond (is_fault call) 1 0) (sym all_old) in
    let below : Call → Call → Type 0 = λ stop c. IsTrue (is_stored c.reply) → c.place ≤ stop.place in
    let stored : Each (λ stop. is_stored call.reply ≡ true → IsTrue (is_stop stop.reply) → call.place ≤ stop.place) (all_calls was) =
    under (λ stop. IsTrue (is_stop stop.reply) → call.place ≤ stop.place) (is_stored call.reply) (all_calls was) step.stored in
    record {
      inputs = le_trans (le_of_eq counted) (le_trans (add_le _ causes.inputs) step.inputs);
      disk = λ fails. let parts = step.disk fails in insert (λ c. IsFalse (is_stop c.reply)) (causes.disk parts.0) parts.1;
      stopped = insert (AreStoppedBy (all_calls ts))
          (each_both (AreStoppedBy (all_calls was)) (λ stop. is_stored call.reply ≡ true → IsTrue (is_stop stop.reply) → call.place ≤ stop.place) (AreStoppedBy (all_calls ts))
          (λ stop old new holds. insert (below stop) (old holds) (λ is. new is holds)) (all_calls was) causes.stopped stored)
          (λ holds. insert (below call) (step.stop holds) (λ _. le_refl call.place));
    }
  where
    add_le : (m : ℕ) → m ≤ faults → m + cond (is_input_fault call.reply) 1 0 ≤ faults + cond (is_input_fault call.reply) 1 0
    add_le m l = omega (arith, l)
