-- Which transcripts are legal.
use Rattle.std.specs.Prelude.{ℕ, Bool, true, false, not, ◌≤◌, nat_eq, List, [], ◌∷◌, map, flat_map, MatchBool, ⊤}
use Rattle.std.specs.List.{IsDistinct, AllByRecursion as Each}
use Rattle.st_model.specs.declared.command.Call.{Call}
use Rattle.st_model.specs.declared.reply.Reply.{Reply}
use Rattle.st_model.specs.declared.reply.Reply.TheVariants as reply
use Rattle.st_model.specs.declared.state.ModelState.{ModelState}
use Rattle.st_model.specs.Asked.{AskRightly}
use Rattle.st_model.specs.Await.{IsAwaitRight}
use Rattle.st_model.specs.Causes.{HaveCauses}
use Rattle.st_model.specs.History.{is_change, all_calls, accepted_calls, after_call, placed_of, state_at}
use Rattle.st_model.specs.Long.{IsCutRightly}
use Rattle.st_model.specs.Places.{changes_in, ArePlacesOnce, IsInOrder}
use Rattle.st_model.specs.Reply.{IsReply}
use Rattle.st_model.specs.State.{IsOpening}

-- ---- replies

-- each of the accepted calls, in the order of their places, is answered rightly at the state that those before it leave
abbrev pub AreAcceptedInTurn : ModelState → ℕ → List Call → Type 0
AreAcceptedInTurn state capacity [] = ⊤
AreAcceptedInTurn state capacity (call ∷ calls) =
    IsReply state capacity call.asked call.reply × AreAcceptedInTurn (after_call state call) capacity calls

-- whether the reply speaks of a state: `await` and `long` don't
abbrev pub tells_state : Reply → Bool
tells_state reply.Await = false
tells_state reply.Long = false
tells_state other = true

-- whether the reply speaks of the state at its place: an accepted change speaks of the one before
abbrev pub tells_place : Reply → Bool
tells_place reply.Await = false
tells_place reply.Long = false
tells_place other = not (is_change other)

-- a reply that changes nothing is the model's at its place
abbrev pub IsAnswered : ModelState → ℕ → List (List Call) → Call → Type 0
IsAnswered opening capacity transcripts call =
    MatchBool (tells_place call.reply)
    (IsReply (state_at opening transcripts call.place) capacity call.asked call.reply) ⊤

-- ---- file numbers

-- the file numbers of a call
abbrev pub files_of : Call → List ℕ
files_of call = map (λ placed. placed.file) (placed_of call.reply)

-- the file numbers of all calls
abbrev pub file_numbers : List (List Call) → List ℕ
file_numbers transcripts = flat_map files_of (all_calls transcripts)

-- ---- all of it

-- The transcripts, one per client, are one run of the store from its opening state. The inputs failed so often in it,
-- and the disk failed or not.
pub record IsLegal (opening : ModelState) (capacity : ℕ) (transcripts : List (List Call)) (input_faults : ℕ)
    (disk_failed : Bool) : Type 0 where
  -- the run begins at the opening
  pub begins : IsOpening opening
  -- each command asks for its client's own snapshot, and sees each file that it names
  pub asked : Each (AskRightly []) transcripts
  -- the accepted changes have the places from 1 on, each once
  pub once : ArePlacesOnce transcripts
  -- along a transcript places never fall, and changes have greater ones
  pub in_order : Each (IsInOrder 0) transcripts
  -- awaits are answered, and nothing else as they are
  pub awaits : Each (IsAwaitRight transcripts) (all_calls transcripts)
  -- no place is above the number of changes
  pub within : Each (λ call. call.place ≤ changes_in transcripts) (all_calls transcripts)
  -- each change is accepted rightly at the state before it
  pub accepted : AreAcceptedInTurn opening capacity (accepted_calls transcripts)
  -- each other reply is the model's at its place
  pub answered : Each (IsAnswered opening capacity transcripts) (all_calls transcripts)
  -- no two files have one number
  pub files : IsDistinct nat_eq (file_numbers transcripts)
  -- reads are cut where their transcript is long
  pub cut : Each (IsCutRightly 0) transcripts
  -- the refusals that come from a fault have one
  pub causes : HaveCauses (all_calls transcripts) input_faults disk_failed
