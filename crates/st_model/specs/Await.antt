-- Awaits: a client goes on once another one has answered a command.
use Rattle.std.specs.Prelude.{ℕ, zero, suc, ◌≡◌, ◌≢◌, ◌≤◌, List, Option, Some, None, IsSomeAnd, slice_get}
use Rattle.std.specs.Option.{option_and_then}
use Rattle.st_model.specs.declared.command.Call.{Call}
use Rattle.st_model.specs.declared.command.Command.{Command}
use Rattle.st_model.specs.declared.command.Command.TheVariants as command
use Rattle.st_model.specs.declared.reply.Reply.TheVariants as reply

-- the element of a number that counts from 1
abbrev pub counted : {X : Type 0} → List X → ℕ → Option X
counted xs zero = None
counted xs (suc i) = slice_get xs i

-- the call of that number of the client of that number
abbrev pub call_at : List (List Call) → ℕ → ℕ → Option Call
call_at transcripts client number = option_and_then (λ calls. counted calls number) (counted transcripts client)

-- the client and the number of its command that the command awaits
abbrev pub awaited : Command → Option (ℕ × ℕ)
awaited (command.Await client number) = Some (client, number)
awaited other = None

-- an await, and no other command, is answered `await`, at no lesser place than that of the awaited reply
abbrev pub AwaitsRightly : List (List Call) → Option (ℕ × ℕ) → Call → Type 0
AwaitsRightly transcripts None call = call.reply ≢ reply.Await
AwaitsRightly transcripts (Some (client, number)) call =
    (call.reply ≡ reply.Await) × IsSomeAnd (call_at transcripts client number) (λ other. other.place ≤ call.place)

-- the same of a call, by its command
abbrev pub IsAwaitRight : List (List Call) → Call → Type 0
IsAwaitRight transcripts call = AwaitsRightly transcripts (awaited call.asked.command) call
