-- What the refusals for a fault of the disk say.
use Rattle.std.specs.Prelude.{ℕ, ◌≡◌, ◌≢◌, List, [], ◌∷◌, ◌++◌, ⊤}
use Rattle.std.specs.List.{AllByRecursion as Each}
use Rattle.st_base.specs.declared.limits.TheConstants.{CAPACITY}
use Rattle.st_model.specs.declared.command.Call.{Call}
use Rattle.st_model.specs.declared.command.Command.{Command}
use Rattle.st_model.specs.declared.command.Command.TheVariants.{Write}
use Rattle.st_model.specs.declared.refusal.Refusal.TheVariants.{Stopped, DiskFault}
use Rattle.st_model.specs.declared.reply.Reply.{Reply}
use Rattle.st_model.specs.declared.reply.Reply.TheVariants.{Refused}
use Rattle.st_model.specs.declared.state.ModelState.{ModelState}
use Rattle.st_model.specs.Answer.{write_refusals}
use Rattle.st_model.specs.History.{state_at}

-- ---- a fault within a write

-- the command is a write of which no refusal holds at this state
abbrev pub IsUnrefused : ModelState → ℕ → Command → Type 0
IsUnrefused state capacity (Write batch) = write_refusals state capacity batch.ops ≡ []
IsUnrefused state capacity other = ⊥

-- a fault of the disk is told only of a write that nothing else refuses at its place
abbrev pub IsFaultTold : ModelState → List (List Call) → Call → Type 0
IsFaultTold opening transcripts call =
    call.reply ≡ Refused DiskFault → IsUnrefused (state_at opening transcripts call.place) CAPACITY call.asked.command

-- ---- behind the fault

-- a stopped store refuses each write so; reads go on
abbrev pub IsStopTold : Command → Reply → Type 0
IsStopTold (Write batch) reply = reply ≡ Refused Stopped
IsStopTold other reply = ⊤

-- none of the calls but the last met a fault of the disk
abbrev pub IsFaultLast : List Call → Type 0
IsFaultLast [] = ⊤
IsFaultLast (call ∷ []) = ⊤
IsFaultLast (call ∷ next ∷ calls) = (call.reply ≢ Refused DiskFault) × IsFaultLast (next ∷ calls)

-- The calls of a client around the fault that stopped the store; where none did, all stand before it. The call that met
-- the fault needn't be the client's.
pub record AreStopped (calls : List Call) : Type 0 where
  pub before : List Call
  pub behind : List Call
  pub are : calls ≡ before ++ behind
  pub running : Each (λ call. call.reply ≢ Refused Stopped) before
  pub fault : IsFaultLast before
  -- from then on each write is refused as stopped
  pub stopped : Each (λ call. IsStopTold call.asked.command call.reply) behind
