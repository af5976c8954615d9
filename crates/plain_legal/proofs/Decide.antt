-- The tests decide the parts of a legal run.
use Rattle.std.proofs.Common.{arith, ◌≡◌, ℕ, ◌+◌, ◌<◌, ◌≤◌, Bool, true, false, not, ◌||◌, ◌==◌, nat_eq, nat_lt, nat_le, List, [], ◌∷◌, cond, Option, Some, None, refl, sym, IsTrue, IsFalse, IsSomeAnd, MatchBool, count_by}
use Rattle.std.specs.Bool.{Decides}
use Rattle.std.specs.List.{IsDistinct, AllByRecursion as Each, list_all}
use Rattle.std.proofs.lemmas.Bool.{true≢false}
use Rattle.std.proofs.lemmas.Bool.Decides.{Decides-eqb, Decides-and, Decides-like, nat_tests}
use Rattle.st_model.specs.declared.command.Call.{Call}
use Rattle.st_model.specs.declared.reply.Reply.{Reply}
use Rattle.st_model.specs.declared.reply.Reply.TheVariants as reply
use Rattle.st_model.specs.Await.{awaited, call_at, AwaitsRightly, IsAwaitRight}
use Rattle.st_model.specs.Causes.{is_input_fault, is_stop, is_stored, AreStoppedBy, HaveCauses}
use Rattle.st_model.specs.History.{is_change}
use Rattle.st_model.specs.Places.{IsInOrder, ArePlacesNext}
use Rattle.plain_legal.specs.Runs.{are_places_next, is_in_order, is_await, is_answered_by, awaits_rightly, is_await_right, are_distinct, is_stopped_by, have_causes}

pub each_decides : {X : Type 0} (p : X → Bool) (P : X → Type 0) → ((x : X) → Decides (p x) (P x)) → (xs : List X) → Decides (list_all p xs) (Each P xs)
each_decides p P d [] = ((λ h. tt), (λ h. refl))
each_decides p P d (x ∷ xs) = Decides-and (p x) (list_all p xs) (d x) (each_decides p P d xs)

not_decides : (b : Bool) → Decides (not b) (IsFalse b)
not_decides true = ((λ h. absurd (true≢false (sym h))), (λ h. absurd (true≢false h)))
not_decides false = ((λ h. refl), (λ h. refl))

implies_decides : (b c : Bool) (P : Type 0) → Decides c P → Decides (not b || c) (IsTrue b → P)
implies_decides true c P d = ((λ h t. d.0 h), (λ f. d.1 (f refl)))
implies_decides false c P d = ((λ h t. absurd (true≢false (sym t))), (λ f. refl))

unless_decides : (b c : Bool) (P : Type 0) → Decides c P → Decides (b || c) (IsFalse b → P)
unless_decides true c P d = ((λ h t. absurd (true≢false t)), (λ f. refl))
unless_decides false c P d = ((λ h t. d.0 h), (λ f. d.1 (f refl)))

pub le_decides : (m n : ℕ) → Decides (nat_le m n) (m ≤ n)
le_decides m n = ((λ h. grind (arith, nat_tests, h)), (λ h. grind (arith, nat_tests, h)))

lt_decides : (m n : ℕ) → Decides (nat_lt m n) (m < n)
lt_decides m n = ((λ h. grind (arith, nat_tests, h)), (λ h. grind (arith, nat_tests, h)))

which_decides : (b c d : Bool) (P Q : Type 0) → Decides c P → Decides d Q → Decides (cond b c d) (MatchBool b P Q)
which_decides true c d P Q p q = p
which_decides false c d P Q p q = q

-- ---- places

pub next_decides : (last : ℕ) (numbers : List ℕ) → Decides (are_places_next last numbers) (ArePlacesNext last numbers)
next_decides last [] = ((λ h. tt), (λ h. refl))
next_decides last (number ∷ numbers) = Decides-and (number == last + 1) (are_places_next number numbers) (Decides-eqb number (last + 1)) (next_decides number numbers)

pub order_decides : (before : ℕ) (calls : List Call) → Decides (is_in_order before calls) (IsInOrder before calls)
order_decides before [] = ((λ h. tt), (λ h. refl))
order_decides before (call ∷ calls) =
    Decides-and (cond (is_change call.reply) (nat_lt before call.place) (nat_le before call.place)) (is_in_order call.place calls)
    (which_decides (is_change call.reply) _ _ _ _ (lt_decides before call.place) (le_decides before call.place)) (order_decides call.place calls)

-- ---- awaits

await_decides : (answer : Reply) → Decides (is_await answer) (answer ≡ reply.Await)
await_decides reply.Await = ((λ h. refl), (λ h. refl))
await_decides (reply.Written number) = ((λ h. cc), (λ h. cc))
await_decides (reply.Found value) = ((λ h. cc), (λ h. cc))
await_decides reply.Nothing = ((λ h. cc), (λ h. cc))
await_decides (reply.View values) = ((λ h. cc), (λ h. cc))
await_decides (reply.Pairs pairs) = ((λ h. cc), (λ h. cc))
await_decides (reply.Snapshot number) = ((λ h. cc), (λ h. cc))
await_decides reply.Released = ((λ h. cc), (λ h. cc))
await_decides reply.Made = ((λ h. cc), (λ h. cc))
await_decides reply.Dropped = ((λ h. cc), (λ h. cc))
await_decides reply.Flushed = ((λ h. cc), (λ h. cc))
await_decides reply.Compacted = ((λ h. cc), (λ h. cc))
await_decides (reply.Ingested placed) = ((λ h. cc), (λ h. cc))
await_decides reply.Long = ((λ h. cc), (λ h. cc))
await_decides (reply.Refused refusal) = ((λ h. cc), (λ h. cc))

denied : (b : Bool) (P : Type 0) → Decides b P → Decides (not b) (P → ⊥)
denied true P d = ((λ h p. absurd (true≢false (sym h))), (λ f. absurd (f (d.0 refl))))
denied false P d = ((λ h p. true≢false (sym (d.1 p))), (λ f. refl))

other_decides : (place : ℕ) (other : Option Call) → Decides (is_answered_by place other) (IsSomeAnd other (λ other. other.place ≤ place))
other_decides place None = ((λ h. absurd (true≢false (sym h))), (λ h. absurd h))
other_decides place (Some other) = le_decides other.place place

right_decides : (transcripts : List (List Call)) (command : Option (ℕ × ℕ)) (call : Call) → Decides (awaits_rightly transcripts command call) (AwaitsRightly transcripts command call)
right_decides transcripts None call = denied (is_await call.reply) (call.reply ≡ reply.Await) (await_decides call.reply)
right_decides transcripts (Some (client, number)) call =
    Decides-and (is_await call.reply) _ (await_decides call.reply) (other_decides call.place (call_at transcripts client number))

pub awaits_decide : (transcripts : List (List Call)) (call : Call) → Decides (is_await_right transcripts call) (IsAwaitRight transcripts call)
awaits_decide transcripts call = right_decides transcripts (awaited call.asked.command) call

-- ---- file numbers

pub distinct_decides : (numbers : List ℕ) → Decides (are_distinct numbers) (IsDistinct nat_eq numbers)
unfolding IsDistinct
distinct_decides [] = ((λ h. tt), (λ h. refl))
distinct_decides (number ∷ numbers) =
    Decides-and (list_all (λ other. not (number == other)) numbers) (are_distinct numbers)
    (each_decides (λ other. not (number == other)) (λ other. IsFalse (number == other)) (λ other. not_decides (number == other)) numbers) (distinct_decides numbers)

-- ---- causes

pub causes_decide : (calls : List Call) (faults : ℕ) (failed : Bool) → Decides (have_causes calls faults failed) (HaveCauses calls faults failed)
causes_decide calls faults failed =
    Decides-like (have_causes calls faults failed)
    (λ all. record { inputs = all.0; disk = all.1.0; stopped = all.1.1 }) (λ are. (are.inputs, (are.disk, are.stopped)))
    (Decides-and (nat_le (count_by (λ call. is_input_fault call.reply) calls) faults) _ (le_decides (count_by (λ call. is_input_fault call.reply) calls) faults)
    (Decides-and (failed || list_all (λ call. not (is_stop call.reply)) calls) (list_all (is_stopped_by calls) calls)
    (unless_decides failed _ _ (each_decides (λ call. not (is_stop call.reply)) (λ call. IsFalse (is_stop call.reply)) (λ call. not_decides (is_stop call.reply)) calls))
    (each_decides (is_stopped_by calls) (AreStoppedBy calls)
    (λ stop. implies_decides (is_stop stop.reply) _ _ (each_decides (λ call. not (is_stored call.reply) || nat_le call.place stop.place) (λ call. IsTrue (is_stored call.reply) → call.place ≤ stop.place)
    (λ call. implies_decides (is_stored call.reply) (nat_le call.place stop.place) (call.place ≤ stop.place) (le_decides call.place stop.place)) calls)) calls)))
