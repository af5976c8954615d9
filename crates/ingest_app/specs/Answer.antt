-- What one answer of the engine says.
use Rattle.std.specs.Prelude.{ℕ, ◌≡◌, ◌≢◌, ◌⊎◌, ◌+◌, ◌-◌, ◌++◌, IsTrue, List, [], length, true, false, if◌then◌else◌}
use Rattle.std.specs.Prelude.{Option, None, is_some}
use Rattle.st_device.specs.Disk.{Image, DiskTold, IsHonest, Leaves}
use Rattle.log_engine.specs.Engine.{OpensTo, Stands, capacity_of}
use Rattle.log_engine.specs.declared.engine.Engine.{Engine}
use Rattle.st_model.specs.declared.command.Asked.{Asked}
use Rattle.st_model.specs.declared.command.Call.{Call}
use Rattle.st_model.specs.declared.command.Command.{Command}
use Rattle.st_model.specs.declared.refusal.Refusal.TheVariants.{Stopped, DiskFault}
use Rattle.st_model.specs.declared.reply.Reply.TheVariants.{Refused}
use Rattle.st_model.specs.declared.state.ModelState.{ModelState}
use Rattle.st_model.specs.Causes.{is_stop}
use Rattle.st_model.specs.History.{after_call, is_change}
use Rattle.st_model.specs.Legal.{tells_state}
use Rattle.st_model.specs.Line.{line_of}
use Rattle.st_model.specs.Long.{IsCut}
use Rattle.st_model.specs.Reply.{IsReply}
use Rattle.st_model.specs.Step.{after}
use Rattle.ingest_app.specs.Faults.{IsStopTold, IsUnrefused}
use Rattle.ingest_app.specs.Op.{is_served, refused_family, stranger_of}
use Rattle.ingest_app.specs.declared.answer.Answer.{Answer}

-- what a command asks that names neither a file nor a snapshot
abbrev pub asked_alone : Command → Asked
asked_alone command = record { command = command; files = []; snapshot = None }

-- such a command with its answer
abbrev pub answered_call : Command → Answer → Call
answered_call command answer =
    record { asked = asked_alone command; place = answer.place; reply = answer.reply }

-- The refusal of an unknown family comes exactly where a command names a family other than `default`: the first such.
-- That a fault stopped the store before is told first, and so is that a transcript is too long for a read.
abbrev pub IsStrangerTold : Call → Type 0
IsStrangerTold call =
    IsTrue (tells_state call.reply)
    → (call.reply ≡ Refused Stopped) ⊎ (refused_family call.reply ≡ stranger_of call.asked.command)

-- the image opens to the contents before the call or after it, or to those after a change that a fault cut off
abbrev pub IsOfCall : ModelState → Call → Image → Type 0
IsOfCall state call image =
    OpensTo state image ⊎ OpensTo (after state call) image
    ⊎ ((call.reply ≡ Refused DiskFault) × OpensTo (after_call state call) image)

-- The answer is the model's at the state, the engine then stands for the state after it, and images open to the contents
-- before the call or after it. Before and after are what stopped the engine, and what its disk tells.
pub record EngineSteps (capacity : ℕ) (stands_for : ModelState → Type 0) (was is : Option ℕ)
    (before after_it : DiskTold) (state : ModelState) (call : Call) : Type 0 where
  -- the place that is printed is the one after the call
  pub place : call.place ≡ state.place + (if is_change call.reply then 1 else 0)
  pub answered : IsTrue (tells_state call.reply) → IsReply state capacity call.asked call.reply
  pub served : IsTrue (is_served call.reply)
  -- a stopped engine makes no change, and stays stopped; a stop is answered by a stopped one alone
  pub change : is_change call.reply ≡ true → was ≡ None
  pub still : is ≡ None → (was ≡ None) × (is_stop call.reply ≡ false)
  pub stopped : is_some is ≡ true → is_change call.reply ≡ false
  -- that it is stopped is told by an engine that was stopped before, and of each write
  pub running : was ≡ None → call.reply ≢ Refused Stopped
  pub stop : is_some was ≡ true → IsStopTold call.asked.command call.reply
  pub fault : call.reply ≡ Refused DiskFault → IsUnrefused state capacity call.asked.command
  pub unknown : IsStrangerTold call
  pub stands : stands_for (after state call)
  pub crash : IsHonest before → was ≡ None → Leaves (IsOfCall state call) before after_it
  pub whole : IsHonest before → is ≡ None → (image : Image) → after_it.now image → OpensTo (after state call) image

-- the same of an engine before the call and after it
abbrev pub EngineAnswers : {D : Type 0} → (D → DiskTold) → Engine D → Engine D → Command → Answer → Type 0
EngineAnswers tells old new command answer =
    (state : ModelState) → Stands old state
    → EngineSteps (capacity_of old) (Stands new) old.stopped new.stopped (tells old.disk) (tells new.disk) state
    (answered_call command answer)

-- The command is answered, and the line of the answer is appended to the text, whose first bytes name the client. Where
-- the transcript is too long, a read is answered so.
pub record Prints {D : Type 0} (tells : D → DiskTold) (old new : Engine D) (command : Command) (heading : ℕ)
    (text_before text_after : List ℕ) : Type 0 where
  pub answer : Answer
  pub steps : EngineAnswers tells old new command answer
  pub cut : IsCut (length text_before - heading) (answered_call command answer)
  pub printed : text_after ≡ text_before ++ line_of answer.place answer.reply
