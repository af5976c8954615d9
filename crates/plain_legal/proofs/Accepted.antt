-- The accepted calls: each is a change, and they are as many as the changes.
use Rattle.std.proofs.Common.{arith, suc, ◌≡◌, ℕ, ◌+◌, Bool, true, false, List, [], ◌∷◌, length, fold, cond, nat_lt, refl, sym, ◌∙◌, IsTrue}
use Rattle.std.specs.List.{AllByRecursion as Each}
use Rattle.st_model.specs.declared.command.Call.{Call}
use Rattle.st_model.specs.History.{is_change, all_calls, accepted, put_call, accepted_calls}
use Rattle.st_model.specs.Places.{changes_in}
use Rattle.plain_legal.specs.Runs.{AreChanges}

put_each : (P : Call → Type 0) (calls : List Call) (call : Call) → Each P calls → P call → Each P (put_call calls call)
put_each P [] call each is = (is, tt)
put_each P (other ∷ others) call each is = step (nat_lt call.place other.place) (put_each P others call each.1 is)
  where
    step : (b : Bool) → Each P (put_call others call) → Each P (cond b (call ∷ other ∷ others) (other ∷ put_call others call))
    step true rest = (is, each)
    step false rest = (each.0, rest)

fold_each : (P : Call → Type 0) (sorted calls : List Call) → Each P sorted → Each P calls → Each P (fold put_call sorted calls)
fold_each P sorted [] each rest = each
fold_each P sorted (call ∷ calls) each rest = fold_each P (put_call sorted call) calls (put_each P sorted call each rest.0) rest.1

are_changes : (calls : List Call) → AreChanges (accepted calls)
are_changes [] = tt
are_changes (call ∷ calls) = step (is_change call.reply) refl (are_changes calls)
  where
    step : (b : Bool) → is_change call.reply ≡ b → AreChanges (accepted calls) → AreChanges (cond b (call ∷ accepted calls) (accepted calls))
    step true is rest = (is, rest)
    step false is rest = rest

pub accepted_changes : (transcripts : List (List Call)) → AreChanges (accepted_calls transcripts)
accepted_changes transcripts = fold_each (λ (call : Call). IsTrue (is_change call.reply)) [] (accepted (all_calls transcripts)) tt (are_changes (all_calls transcripts))

length-put_call : (calls : List Call) (call : Call) → length (put_call calls call) ≡ length calls + 1
length-put_call [] call = refl
length-put_call (other ∷ others) call = step (nat_lt call.place other.place) (length-put_call others call)
  where
    step : (b : Bool) → length (put_call others call) ≡ length others + 1 → length (cond b (call ∷ other ∷ others) (other ∷ put_call others call)) ≡ length (other ∷ others) + 1
    step true more = omega arith
    step false more = omega (arith, more)

length-fold : (sorted calls : List Call) → length (fold put_call sorted calls) ≡ length sorted + length calls
length-fold sorted [] = omega arith
length-fold sorted (call ∷ calls) = omega (arith, length-fold (put_call sorted call) calls, length-put_call sorted call)

pub length-accepted_calls : (transcripts : List (List Call)) → length (accepted_calls transcripts) ≡ changes_in transcripts
length-accepted_calls transcripts = let e = length-fold [] (accepted (all_calls transcripts)) in omega (arith, e)
