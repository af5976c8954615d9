-- Which replies a command may be given at a state.
use Rattle.std.specs.Prelude.{ℕ, ◌≡◌, ◌⊎◌, ◌≤◌, ◌<◌, List, [], ◌++◌, IsFalse, IsSomeAnd}
use Rattle.st_base.specs.declared.entry.KeyRange.{KeyRange}
use Rattle.st_model.specs.declared.command.Asked.{Asked}
use Rattle.st_model.specs.declared.command.Command.{Command}
use Rattle.st_model.specs.declared.command.Command.TheVariants as command
use Rattle.st_model.specs.declared.refusal.Refusal.TheVariants.{Stopped, DiskFault}
use Rattle.st_model.specs.declared.reply.Placed.{Placed}
use Rattle.st_model.specs.declared.reply.Reply.{Reply}
use Rattle.st_model.specs.declared.reply.Reply.TheVariants.{Flushed, Compacted, Ingested, Refused}
use Rattle.st_model.specs.declared.state.ModelState.{ModelState}
use Rattle.st_model.specs.Answer.{write_answer, snap_answer, release_answer, make_answer, drop_answer, lower_answer}
use Rattle.st_model.specs.Placing.{ArePlaced, last_number_after}
use Rattle.st_model.specs.Reads.{get_answer, view_answer, scan_answer, at_snapshot}
use Rattle.st_model.specs.Refusals.{exact_refusals, sure_refusals, is_full, IsFirstRefusal, MayRefuse}
use Rattle.st_model.specs.Request.{Argument, request_of}
use Rattle.st_model.specs.State.{greatest_number}

-- ---- disk faults

-- The answer; or that a disk fault stopped the store before; or a disk fault, in this call or in work that was due
-- before it. The transcripts show the causes of both.
abbrev pub IsOrStops : Reply → Reply → Type 0
IsOrStops reply answer = (reply ≡ answer) ⊎ ((reply ≡ Refused Stopped) ⊎ (reply ≡ Refused DiskFault))

-- ---- ingestions

-- all files of a request are placed: nothing refuses it, and numbers and room are left
pub record IsIngested (state : ModelState) (capacity : ℕ) (request : List Argument)
    (placed : List Placed) : Type 0 where
  pub unrefused : exact_refusals state request ≡ []
  pub room : IsFalse (is_full state capacity request)
  pub place : state.place < greatest_number
  pub numbers : last_number_after state.last placed ≤ greatest_number
  pub placed_rightly : ArePlaced state state.last request placed

-- a request is refused, and no refusal that is sure comes before; or its files are taken in
abbrev pub IsIngestReply : ModelState → ℕ → List Argument → Reply → Type 0
IsIngestReply state capacity request (Refused refusal) =
    MayRefuse state capacity request refusal
    × IsFirstRefusal (exact_refusals state request ++ sure_refusals state request) refusal
IsIngestReply state capacity request (Ingested placed) = IsIngested state capacity request placed
IsIngestReply state capacity request other = ⊥

-- ---- commands

abbrev pub keys_from : List ℕ → List ℕ → KeyRange
keys_from first last = record { first = first; last = last }

-- the command may be answered so at this state; `await` and `long` speak of no state
abbrev pub IsReplyTo : ModelState → ℕ → Asked → Command → Reply → Type 0
IsReplyTo state capacity asked (command.Write batch) reply = IsOrStops reply (write_answer state capacity batch.ops)
IsReplyTo state capacity asked (command.Get family key) reply = reply ≡ get_answer state state.last family key
IsReplyTo state capacity asked (command.GetAt name family key) reply =
    IsSomeAnd asked.snapshot
    (λ snapshot. reply ≡ at_snapshot state snapshot (λ number. get_answer state number family key))
IsReplyTo state capacity asked (command.View reads) reply = reply ≡ view_answer state reads
IsReplyTo state capacity asked (command.Scan family first last limit) reply =
    reply ≡ scan_answer state state.last family (keys_from first last) limit
IsReplyTo state capacity asked (command.ScanAt name family first last limit) reply =
    IsSomeAnd asked.snapshot
    (λ snapshot. reply
    ≡ at_snapshot state snapshot (λ number. scan_answer state number family (keys_from first last) limit))
IsReplyTo state capacity asked (command.Snap name) reply = reply ≡ snap_answer state
IsReplyTo state capacity asked (command.Release name) reply =
    IsSomeAnd asked.snapshot (λ snapshot. reply ≡ release_answer state snapshot)
IsReplyTo state capacity asked (command.MakeFamily name) reply = IsOrStops reply (make_answer state name)
IsReplyTo state capacity asked (command.DropFamily name) reply = IsOrStops reply (drop_answer state name)
IsReplyTo state capacity asked (command.Flush name) reply = IsOrStops reply (lower_answer state name Flushed)
IsReplyTo state capacity asked (command.Compact name) reply = IsOrStops reply (lower_answer state name Compacted)
IsReplyTo state capacity asked (command.Ingest arguments) reply =
    IsIngestReply state capacity (request_of arguments asked.files) reply
IsReplyTo state capacity asked (command.Await client number) reply = ⊥

abbrev pub IsReply : ModelState → ℕ → Asked → Reply → Type 0
IsReply state capacity asked reply = IsReplyTo state capacity asked asked.command reply
