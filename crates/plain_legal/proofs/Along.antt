-- What a loop over the accepted calls keeps: the states that they lead to, and the other calls up to its place.
use Rattle.std.proofs.Common.{arith, suc, ◌≡◌, ℕ, ◌+◌, ◌<◌, ◌≤◌, List, [], ◌∷◌, ◌++◌, length, take, drop, fold, get_or, sym, ap, ap₂, subst, ◌∙◌, MatchBool, drop-cons, ◌⊎◌, inl, inr, refl}
use Rattle.std.specs.Bool.{⊤}
use Rattle.std.specs.List.{AllByRecursion as Each}
use Rattle.std.proofs.lemmas.Bool.{cases_lt}
use Rattle.std.proofs.lemmas.List.{take_more}
use Rattle.st_model.specs.declared.command.Call.{Call}
use Rattle.st_model.specs.declared.state.ModelState.{ModelState}
use Rattle.st_model.specs.History.{after_call}
use Rattle.st_model.specs.Legal.{tells_place, AreAcceptedInTurn}
use Rattle.st_model.specs.Reply.{IsReply}
use Rattle.plain_legal.specs.Runs.{AreChanges, IsAnsweredThere, IsAnsweredAlong}

next : (i : ℕ) → suc i ≡ i + 1
next i = omega arith

-- what is left begins with the element
left : (xs : List Call) (i : ℕ) (x : Call) → i < length xs → x ≡ get_or xs i x → drop i xs ≡ x ∷ drop (i + 1) xs
left xs i x l is = drop-cons xs i x l ∙ ap₂ (λ one n. one ∷ drop n xs) (sym is) (next i)

-- the front with the element
front : (xs : List Call) (i : ℕ) (x : Call) → i < length xs → x ≡ get_or xs i x → take (i + 1) xs ≡ take i xs ++ x ∷ []
front xs i x l is = take_more xs i x l ∙ ap (λ one. take i xs ++ one ∷ []) (sym is)

each_map : (P Q : Call → Type 0) → ((x : Call) → P x → Q x) → (xs : List Call) → Each P xs → Each Q xs
each_map P Q f [] h = tt
each_map P Q f (x ∷ xs) h = (f x h.0, each_map P Q f xs h.1)

each_both : (P Q R : Call → Type 0) → ((x : Call) → P x → Q x → R x) → (xs : List Call) → Each P xs → Each Q xs → Each R xs
each_both P Q R f [] h k = tt
each_both P Q R f (x ∷ xs) h k = (f x h.0 k.0, each_both P Q R f xs h.1 k.1)

-- ---- accepted calls

fold-append : (state : ModelState) (xs : List Call) (x : Call) → fold after_call state (xs ++ x ∷ []) ≡ after_call (fold after_call state xs) x
fold-append state [] x = refl
fold-append state (y ∷ ys) x = fold-append (after_call state y) ys x

module _ (opening state after : ModelState) (capacity : ℕ) (accepted : List Call) (i : ℕ) (call : Call) (l : i < length accepted) (is : call ≡ get_or accepted i call) (e : after ≡ after_call state call) where
  -- one more change is made
  pub state_more : state ≡ fold after_call opening (take i accepted) → after ≡ fold after_call opening (take (i + 1) accepted)
  state_more s =
      e ∙ ap (λ one. after_call one call) s ∙ sym (fold-append opening (take i accepted) call) ∙ ap (fold after_call opening) (sym (front accepted i call l is))

  -- those behind it are accepted in turn
  pub turn_more : AreAcceptedInTurn state capacity (drop i accepted) → AreAcceptedInTurn after capacity (drop (i + 1) accepted)
  turn_more turn =
      subst (λ (one : ModelState). AreAcceptedInTurn one capacity (drop (i + 1) accepted)) (sym e) (subst (AreAcceptedInTurn state capacity) (left accepted i call l is) turn).1

pub changes_more : (accepted : List Call) (i : ℕ) (call : Call) → i < length accepted → call ≡ get_or accepted i call → AreChanges (drop i accepted) → AreChanges (drop (i + 1) accepted)
changes_more accepted i call l is changes = (subst AreChanges (left accepted i call l is) changes).1

-- ---- other calls

up_to : (m n : ℕ) → m < n + 1 → (m < n) ⊎ (m ≡ n)
up_to m n l = elim (cases_lt m n) [ inl less ↦ inl less | inr more ↦ inr (omega (arith, l, more)) ]

abbrev Speaks : ℕ → ModelState → Call → Type 0
Speaks capacity state call = MatchBool (tells_place call.reply) (IsReply state capacity call.asked call.reply) ⊤

module _ (opening state : ModelState) (capacity : ℕ) (calls accepted : List Call) (i : ℕ) (s : state ≡ fold after_call opening (take i accepted)) where
  here : (call : Call) → IsAnsweredAlong opening capacity accepted call → IsAnsweredThere state capacity i call
  here call h e =
      subst (λ (one : ModelState). Speaks capacity one call) (sym s) (subst (λ (n : ℕ). Speaks capacity (fold after_call opening (take n accepted)) call) e h)

  there : (call : Call) → call.place ≡ i → IsAnsweredThere state capacity i call → IsAnsweredAlong opening capacity accepted call
  there call e h =
      subst (λ (n : ℕ). Speaks capacity (fold after_call opening (take n accepted)) call) (sym e) (subst (λ (one : ModelState). Speaks capacity one call) s (h e))

  -- where all are answered rightly, those of this place are
  pub answered_here : Each (IsAnsweredAlong opening capacity accepted) calls → Each (IsAnsweredThere state capacity i) calls
  answered_here all = each_map (IsAnsweredAlong opening capacity accepted) (IsAnsweredThere state capacity i) here calls all

  -- those of this place join those before it
  pub answered_more : Each (λ (call : Call). call.place < i → IsAnsweredAlong opening capacity accepted call) calls → Each (IsAnsweredThere state capacity i) calls
      → Each (λ (call : Call). call.place < i + 1 → IsAnsweredAlong opening capacity accepted call) calls
  answered_more before at =
      each_both (λ (call : Call). call.place < i → IsAnsweredAlong opening capacity accepted call) (IsAnsweredThere state capacity i) (λ (call : Call). call.place < i + 1 → IsAnsweredAlong opening capacity accepted call)
      (λ call earlier now l. elim (up_to call.place i l) [ inl less ↦ earlier less | inr same ↦ there call same now ]) calls before at

  -- at the last state all calls have been tested
  pub answered_all : Each (λ (call : Call). call.place ≤ i) calls → Each (λ (call : Call). call.place < i → IsAnsweredAlong opening capacity accepted call) calls
      → Each (IsAnsweredThere state capacity i) calls → Each (IsAnsweredAlong opening capacity accepted) calls
  answered_all within before at =
      each_both (λ (call : Call). call.place ≤ i) (λ (call : Call). call.place < i + 1 → IsAnsweredAlong opening capacity accepted call) (IsAnsweredAlong opening capacity accepted)
      (λ call le all. all (omega (arith, le))) calls within (answered_more before at)
