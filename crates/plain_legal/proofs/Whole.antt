-- The parts of a legal run together, with its calls and its accepted calls at hand.
use Rattle.std.proofs.Common.{◌≡◌, ℕ, ◌≤◌, Bool, List, [], map, length, sym, ap, subst, ◌∙◌}
use Rattle.std.specs.Prelude.{◌↔◌}
use Rattle.std.specs.List.{AllByRecursion as Each}
use Rattle.st_model.specs.declared.command.Call.{Call}
use Rattle.st_model.specs.declared.state.ModelState.{ModelState}
use Rattle.st_model.specs.Asked.{AskRightly}
use Rattle.st_model.specs.Await.{IsAwaitRight}
use Rattle.st_model.specs.History.{all_calls, accepted_calls}
use Rattle.st_model.specs.Legal.{AreAcceptedInTurn, IsAnswered, IsLegal}
use Rattle.st_model.specs.Places.{ArePlacesNext, IsInOrder, changes_in}
use Rattle.st_model.specs.State.{IsOpening}
use Rattle.plain_legal.specs.Runs.{AreChanges, IsAnsweredAlong, IsPlacedRun, IsOrderly, IsAnsweredInRun}
use Rattle.plain_legal.proofs.Accepted.{accepted_changes, length-accepted_calls}

there : {X : Type 0} (P : X → Type 0) (x y : X) → x ≡ y → P x ↔ P y
there P x y e = ((λ p. subst P e p), (λ p. subst P (sym e) p))

both_ways : {A B C : Type 0} → (A ↔ B) → (B ↔ C) → A ↔ C
both_ways f g = ((λ a. g.0 (f.0 a)), (λ c. f.1 (g.1 c)))

module _ (opening : ModelState) (transcripts : List (List Call)) (calls accepted : List Call) (all : calls ≡ all_calls transcripts) (sorted : accepted ≡ accepted_calls transcripts) where
  pub changes_there : AreChanges accepted
  changes_there = subst AreChanges (sym sorted) (accepted_changes transcripts)

  pub within_there : Each (λ (call : Call). call.place ≤ length accepted) calls ↔ Each (λ (call : Call). call.place ≤ changes_in transcripts) (all_calls transcripts)
  within_there =
      let count : length accepted ≡ changes_in transcripts = ap length sorted ∙ length-accepted_calls transcripts in
      both_ways (there (λ (n : ℕ). Each (λ (call : Call). call.place ≤ n) calls) (length accepted) (changes_in transcripts) count)
      (there (Each (λ (call : Call). call.place ≤ changes_in transcripts)) calls (all_calls transcripts) all)

  -- what is asked and where it stands, part by part
  pub placed_from : IsOpening opening → Each (AskRightly []) transcripts → ArePlacesNext 0 (map (λ (call : Call). call.place) accepted) → Each (IsInOrder 0) transcripts
      → Each (IsAwaitRight transcripts) calls → Each (λ (call : Call). call.place ≤ length accepted) calls → IsPlacedRun opening transcripts
  placed_from begins asked once in_order awaits within = record {
    begins = begins;
    asked = asked;
    once = subst (λ (cs : List Call). ArePlacesNext 0 (map (λ (call : Call). call.place) cs)) sorted once;
    in_order = in_order;
    awaits = subst (Each (IsAwaitRight transcripts)) all awaits;
    within = within_there.0 within;
  }

  pub once_there : IsPlacedRun opening transcripts → ArePlacesNext 0 (map (λ (call : Call). call.place) accepted)
  once_there placed = subst (λ (cs : List Call). ArePlacesNext 0 (map (λ (call : Call). call.place) cs)) (sym sorted) placed.once

  pub awaits_there : IsPlacedRun opening transcripts → Each (IsAwaitRight transcripts) calls
  awaits_there placed = subst (Each (IsAwaitRight transcripts)) (sym all) placed.awaits

  module _ (capacity : ℕ) where
    pub turn_there : AreAcceptedInTurn opening capacity accepted ↔ AreAcceptedInTurn opening capacity (accepted_calls transcripts)
    turn_there = there (AreAcceptedInTurn opening capacity) accepted (accepted_calls transcripts) sorted

    pub answered_there : Each (IsAnsweredAlong opening capacity accepted) calls ↔ Each (IsAnswered opening capacity transcripts) (all_calls transcripts)
    answered_there =
        both_ways (there (λ (cs : List Call). Each (IsAnsweredAlong opening capacity cs) calls) accepted (accepted_calls transcripts) sorted)
        (there (Each (IsAnsweredAlong opening capacity (accepted_calls transcripts))) calls (all_calls transcripts) all)

module _ (opening : ModelState) (capacity : ℕ) (transcripts : List (List Call)) (input_faults : ℕ) (disk_failed : Bool) where
  pub legal_from : IsOrderly opening transcripts input_faults disk_failed → IsAnsweredInRun opening capacity transcripts → IsLegal opening capacity transcripts input_faults disk_failed
  legal_from orderly right = record {
    begins = orderly.placed.begins;
    asked = orderly.placed.asked;
    once = orderly.placed.once;
    in_order = orderly.placed.in_order;
    awaits = orderly.placed.awaits;
    within = orderly.placed.within;
    accepted = right.accepted;
    answered = right.answered;
    files = orderly.files;
    cut = orderly.cut;
    causes = orderly.causes;
  }

  pub orderly_of : IsLegal opening capacity transcripts input_faults disk_failed → IsOrderly opening transcripts input_faults disk_failed
  orderly_of legal = record {
    placed = record {
      begins = legal.begins;
      asked = legal.asked;
      once = legal.once;
      in_order = legal.in_order;
      awaits = legal.awaits;
      within = legal.within;
    };
    files = legal.files;
    cut = legal.cut;
    causes = legal.causes;
  }

  pub right_of : IsLegal opening capacity transcripts input_faults disk_failed → IsAnsweredInRun opening capacity transcripts
  right_of legal = record { accepted = legal.accepted; answered = legal.answered }
