-- The parts of a legal run as tests, which decide them, and those that look at no state as one fact.
use Rattle.std.specs.Prelude.{ℕ, Bool, true, false, ◌≡◌, ◌≤◌, ◌&&◌, ◌||◌, not, ◌+◌, ◌==◌, nat_eq, nat_lt, nat_le, List, [], ◌∷◌, map}
use Rattle.std.specs.Prelude.{Option, Some, None, cond, count_by, take, fold, IsTrue, MatchBool, ⊤}
use Rattle.std.specs.List.{list_all, IsDistinct, AllByRecursion as Each}
use Rattle.st_base.specs.Entries.{add_charge}
use Rattle.st_base.specs.Range.{keys_rise}
use Rattle.st_model.specs.declared.command.Call.{Call}
use Rattle.st_model.specs.declared.command.FileSeen.{FileSeen}
use Rattle.st_model.specs.declared.command.FileSeen.TheVariants.{Missing, Bad, Table}
use Rattle.st_model.specs.declared.reply.Reply.{Reply}
use Rattle.st_model.specs.declared.reply.Reply.TheVariants as reply
use Rattle.st_model.specs.declared.state.ModelState.{ModelState}
use Rattle.st_model.specs.Asked.{AskRightly}
use Rattle.st_model.specs.Await.{awaited, call_at, IsAwaitRight}
use Rattle.st_model.specs.Causes.{is_input_fault, is_stop, is_stored, HaveCauses}
use Rattle.st_model.specs.History.{is_change, all_calls, accepted_calls, after_call}
use Rattle.st_model.specs.Legal.{tells_place, file_numbers, AreAcceptedInTurn, IsAnswered}
use Rattle.st_model.specs.Long.{is_long, is_read, line_length, IsCutRightly}
use Rattle.st_model.specs.Places.{changes_in, ArePlacesOnce, IsInOrder}
use Rattle.st_model.specs.Reply.{IsReply}
use Rattle.st_model.specs.State.{long_transcript, IsOpening}

-- ---- places

abbrev pub are_places_next : ℕ → List ℕ → Bool
are_places_next before [] = true
are_places_next before (place ∷ places) = (place == before + 1) && are_places_next place places

abbrev pub are_numbered : List Call → Bool
are_numbered calls = are_places_next 0 (map (λ call. call.place) calls)

abbrev pub is_in_order : ℕ → List Call → Bool
is_in_order before [] = true
is_in_order before (call ∷ calls) =
    cond (is_change call.reply) (nat_lt before call.place) (nat_le before call.place) && is_in_order call.place calls

abbrev pub are_within : ℕ → List Call → Bool
are_within changes calls = list_all (λ call. nat_le call.place changes) calls

-- ---- awaits

abbrev pub is_await : Reply → Bool
is_await reply.Await = true
is_await other = false

-- the call is there, at no greater place
abbrev pub is_answered_by : ℕ → Option Call → Bool
is_answered_by place None = false
is_answered_by place (Some other) = nat_le other.place place

abbrev pub awaits_rightly : List (List Call) → Option (ℕ × ℕ) → Call → Bool
awaits_rightly transcripts None call = not (is_await call.reply)
awaits_rightly transcripts (Some (client, number)) call =
    is_await call.reply && is_answered_by call.place (call_at transcripts client number)

abbrev pub is_await_right : List (List Call) → Call → Bool
is_await_right transcripts call = awaits_rightly transcripts (awaited call.asked.command) call

-- ---- file numbers

abbrev pub are_distinct : List ℕ → Bool
are_distinct [] = true
are_distinct (number ∷ numbers) = list_all (λ other. not (number == other)) numbers && are_distinct numbers

-- ---- causes

abbrev pub is_stopped_by : List Call → Call → Bool
is_stopped_by calls stop =
    not (is_stop stop.reply) || list_all (λ call. not (is_stored call.reply) || nat_le call.place stop.place) calls

abbrev pub have_causes : List Call → ℕ → Bool → Bool
have_causes calls input_faults disk_failed =
    nat_le (count_by (λ call. is_input_fault call.reply) calls) input_faults
    && ((disk_failed || list_all (λ call. not (is_stop call.reply)) calls)
    && list_all (is_stopped_by calls) calls)

-- ---- long transcripts

abbrev pub same_truth : Bool → Bool → Bool
same_truth a b = cond a b (not b)

abbrev pub is_cut : ℕ → Call → Bool
is_cut bytes call = same_truth (is_long call.reply) (is_read call.asked.command && nat_le long_transcript bytes)

-- the bytes, as far as 64 bits hold them
abbrev pub is_cut_rightly : ℕ → List Call → Bool
is_cut_rightly bytes [] = true
is_cut_rightly bytes (call ∷ calls) = is_cut bytes call && is_cut_rightly (add_charge bytes (line_length call)) calls

-- ---- what commands ask

abbrev pub is_seen_rightly : FileSeen → Bool
is_seen_rightly Missing = true
is_seen_rightly (Bad fault) = true
is_seen_rightly (Table entries) = keys_rise entries && list_all (λ entry. entry.number == 0) entries

-- ---- replies at states

abbrev pub AreChanges : List Call → Type 0
AreChanges calls = Each (λ call. IsTrue (is_change call.reply)) calls

-- a reply that speaks of the state at this place may be given there
abbrev pub IsAnsweredThere : ModelState → ℕ → ℕ → Call → Type 0
IsAnsweredThere state capacity place call =
    call.place ≡ place → MatchBool (tells_place call.reply) (IsReply state capacity call.asked call.reply) ⊤

-- the same of its own place, where these calls are the accepted ones
abbrev pub IsAnsweredAlong : ModelState → ℕ → List Call → Call → Type 0
IsAnsweredAlong opening capacity accepted call =
    MatchBool (tells_place call.reply)
    (IsReply (fold after_call opening (take call.place accepted)) capacity call.asked call.reply) ⊤

-- ---- all of it

-- the parts that speak of what is asked and of places
pub record IsPlacedRun (opening : ModelState) (transcripts : List (List Call)) : Type 0 where
  pub begins : IsOpening opening
  pub asked : Each (AskRightly []) transcripts
  pub once : ArePlacesOnce transcripts
  pub in_order : Each (IsInOrder 0) transcripts
  pub awaits : Each (IsAwaitRight transcripts) (all_calls transcripts)
  pub within : Each (λ call. call.place ≤ changes_in transcripts) (all_calls transcripts)

-- the parts that look at no state but the opening
pub record IsOrderly (opening : ModelState) (transcripts : List (List Call)) (input_faults : ℕ)
    (disk_failed : Bool) : Type 0 where
  pub placed : IsPlacedRun opening transcripts
  pub files : IsDistinct nat_eq (file_numbers transcripts)
  pub cut : Each (IsCutRightly 0) transcripts
  pub causes : HaveCauses (all_calls transcripts) input_faults disk_failed

-- the parts that look at the states
pub record IsAnsweredInRun (opening : ModelState) (capacity : ℕ) (transcripts : List (List Call)) : Type 0 where
  pub accepted : AreAcceptedInTurn opening capacity (accepted_calls transcripts)
  pub answered : Each (IsAnswered opening capacity transcripts) (all_calls transcripts)
