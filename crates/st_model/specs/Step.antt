-- What one answer of a store says, to one of several clients.
use Rattle.std.specs.Prelude.{ℕ, ◌≡◌, ◌≤◌, ◌+◌, ◌++◌, nat_eq, IsTrue, List, MatchBool, if◌then◌else◌}
use Rattle.std.specs.List.{IsDistinct, AllByRecursion as Each}
use Rattle.st_model.specs.declared.command.Call.{Call}
use Rattle.st_model.specs.declared.state.ModelState.{ModelState}
use Rattle.st_model.specs.Asked.{IsAskedRightly}
use Rattle.st_model.specs.Await.{IsAwaitRight}
use Rattle.st_model.specs.History.{is_change, after_call}
use Rattle.st_model.specs.Legal.{tells_state, files_of, file_numbers}
use Rattle.st_model.specs.Long.{IsCut, printed_length}
use Rattle.st_model.specs.Places.{changes_in}
use Rattle.st_model.specs.Reply.{IsReply}

-- the state after a call, whether it was accepted or not
abbrev pub after : ModelState → Call → ModelState
after state call = if is_change call.reply then after_call state call else state

-- The call is one answer of a store at this state: `transcripts` are those of all clients so far, and `calls` is the
-- one of this client. That the place of the state grows by one with a change, and with nothing else, follows from
-- `answered`.
pub record IsStep (state : ModelState) (capacity : ℕ) (transcripts : List (List Call)) (calls : List Call)
    (call : Call) : Type 0 where
  -- the command asks for its client's own snapshot, and sees each file that it names
  pub asked : IsAskedRightly calls call.asked
  -- the state isn't older than what the client has seen
  pub seen : Each (λ earlier. earlier.place ≤ state.place) calls
  -- a change is made at the newest state
  pub newest : MatchBool (is_change call.reply)
      (state.place ≡ changes_in transcripts) (state.place ≤ changes_in transcripts)
  -- the place that is printed is the one after the call
  pub place : call.place ≡ state.place + (if is_change call.reply then 1 else 0)
  pub answered : IsTrue (tells_state call.reply) → IsReply state capacity call.asked call.reply
  -- an await names a command that is answered
  pub awaits : IsAwaitRight transcripts call
  -- the file numbers of an ingestion are new
  pub files : IsDistinct nat_eq (file_numbers transcripts ++ files_of call)
  -- a read is cut where the client's transcript is long
  pub cut : IsCut (printed_length calls) call
