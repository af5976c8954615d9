-- The clients of a run: their files, and their transcripts.
use Rattle.std.specs.Prelude.{ℕ, ◌≡◌, ◌⊎◌, ◌≤◌, nat_lt, length, List, [], ◌∷◌, ◌++◌, map, flat_map, true, false, Bool, codes}
use Rattle.std.specs.Prelude.{if◌then◌else◌, Option, Some, None, Result, Ok, Err}
use Rattle.std.specs.List.{AllZip, AllByRecursion as Each}
use Rattle.st_base.specs.declared.limits.TheConstants.{CAPACITY, CLIENT_FILE_BYTES}
use Rattle.cmd_text.specs.declared.script.Numbered.{Numbered}
use Rattle.cmd_text.specs.Script.{script_of}
use Rattle.st_device.specs.Disk.{Image, DiskTold, IsHonest, Leaves}
use Rattle.st_model.specs.declared.command.Call.{Call}
use Rattle.st_model.specs.declared.command.Command.{Command}
use Rattle.st_model.specs.declared.command.FileSeen.{FileSeen}
use Rattle.st_model.specs.declared.reply.Reply.{Reply}
use Rattle.st_model.specs.declared.state.ModelState.{ModelState}
use Rattle.st_model.specs.Calls.{AreCallsOf}
use Rattle.st_model.specs.History.{all_calls}
use Rattle.st_model.specs.Contents.{opened}
use Rattle.st_model.specs.Legal.{IsLegal}
use Rattle.st_model.specs.Line.{line_of}
use Rattle.st_model.specs.Places.{changes_in}
use Rattle.log_engine.specs.Engine.{OpensTo}
use Rattle.log_recover.specs.Contents.{OpenedContents, disk_contents}
use Rattle.ingest_app.specs.Answer.{IsStrangerTold}
use Rattle.ingest_app.specs.Crash.{AreKept, AreMoments, IsOfRun, state_now}
use Rattle.ingest_app.specs.Faults.{AreStopped, IsFaultTold}
use Rattle.ingest_app.specs.declared.status.Status.{Status}
use Rattle.ingest_app.specs.declared.status.Status.TheVariants.{Done, DiskFault}

-- the commands of a client's file, or the number of its first faulty line, which is 0 where it isn't there or too long
abbrev pub client_script : Option (List ℕ) → Result (List Numbered) ℕ
client_script None = Err 0
client_script (Some text) = if nat_lt CLIENT_FILE_BYTES (length text) then Err 0 else script_of text

-- a client: its name, and the commands of its file
pub record ClientScript : Type 0 where
  pub name : List ℕ
  pub commands : List Numbered

-- the commands without the numbers of their lines
abbrev pub commands_alone : List Numbered → List Command
commands_alone commands = map (λ numbered. numbered.command) commands

-- ---- transcripts

-- what is printed for a client: its name, and the place and the reply of each call
abbrev pub transcript : List ℕ → List Call → List ℕ
transcript name calls = codes "client " ++ name ++ 10 ∷ [] ++ flat_map (λ call. line_of call.place call.reply) calls

-- the transcripts of the clients, one behind the other
abbrev pub transcripts_text : List ClientScript → List (List Call) → List ℕ
transcripts_text [] transcripts = []
transcripts_text (client ∷ clients) [] = []
transcripts_text (client ∷ clients) (calls ∷ transcripts) =
    transcript client.name calls ++ transcripts_text clients transcripts

-- the calls are those of the client's commands, in order, each of which is answered
pub record AnswersClient (client : ClientScript) (calls : List Call) : Type 0 where
  -- the files of each command as it saw them; no command has a file yet
  pub seen : List (List FileSeen)
  -- the places and the replies
  pub answers : List (ℕ × Reply)
  pub are : AreCallsOf (commands_alone client.commands) seen answers calls
  pub unknown : Each IsStrangerTold calls
  pub stop : AreStopped calls

-- The text is the transcripts of the clients, whose calls are one legal run from this state on. The inputs haven't failed;
-- the disk has, or not.
pub record AreTranscriptsOf (clients : List ClientScript) (text : List ℕ) (opening : ModelState) (failed : Bool)
    (transcripts : List (List Call)) : Type 0 where
  pub answered : AllZip AnswersClient clients transcripts
  pub legal : IsLegal opening CAPACITY transcripts 0 failed
  pub faults : Each (IsFaultTold opening transcripts) (all_calls transcripts)
  pub printed : text ≡ transcripts_text clients transcripts

-- ---- a run

-- The clients were answered from this state on, and what the disk told before the first command and after the last.
pub record AreClientsAnswered (clients : List ClientScript) (text : List ℕ) (opening : ModelState)
    (before after : DiskTold) (failed : Bool) : Type 0 where
  pub transcripts : List (List Call)
  pub answers : AreTranscriptsOf clients text opening failed transcripts
  -- a moment for each change
  pub moments : List ℕ
  pub each_change : length moments ≡ changes_in transcripts
  pub in_turn : AreMoments before.moment after.moment moments
  pub crash : IsHonest before → Leaves (IsOfRun opening transcripts 0) before after
  pub kept : IsHonest before → AreKept opening transcripts after 0 moments
  pub end : IsHonest before → (image : Image) → after.now image
      → IsOfRun opening transcripts (changes_in transcripts) image
  pub whole : failed ≡ false → IsHonest before → (image : Image) → after.now image
      → OpensTo (state_now opening transcripts) image

-- the status of a run whose clients were answered, by whether the disk failed
abbrev pub answered_status : Bool → Status
answered_status true = DiskFault
answered_status false = Done

-- whether the disk failed, by the status of the run
abbrev pub EndsAnswered : List ClientScript → ModelState → DiskTold → DiskTold → Status → List ℕ → Type 0
EndsAnswered clients opening before after Done text = AreClientsAnswered clients text opening before after false
EndsAnswered clients opening before after DiskFault text = AreClientsAnswered clients text opening before after true
EndsAnswered clients opening before after other text = ⊥

-- the state that an opening makes of these contents
abbrev pub opening_of : OpenedContents → ModelState
opening_of from = opened from.contents from.known

-- What the disk read before a run of these transcripts, and what a crash leaves within the run and at its end.
pub record AreImagesOf (from : OpenedContents) (transcripts : List (List Call)) (before after : DiskTold)
    (failed : Bool) : Type 0 where
  -- a store whose flag isn't set
  pub read : disk_contents false before.reads ≡ Ok from
  -- the moment at which the store was opened, and one for each change
  pub opened : ℕ
  pub moments : List ℕ
  pub later : before.moment ≤ opened
  pub each_change : length moments ≡ changes_in transcripts
  pub in_turn : AreMoments opened after.moment moments
  -- each image of a crash within the run is one that a crash before it could leave, or has what was read, or is one of a
  -- crash since the opening
  pub crash : (image : Image) → after.since before.moment image
      → before.now image ⊎ (disk_contents false image ≡ Ok from) ⊎ after.since opened image
  -- each of a crash since the opening opens to the contents after the first changes, or to those with the change that was
  -- cut off; since the moment of a change it has this change too
  pub since : (image : Image) → after.since opened image → IsOfRun (opening_of from) transcripts 0 image
  pub kept : AreKept (opening_of from) transcripts after 0 moments
  -- at the end each has all changes; without a fault it opens to the contents after them
  pub end : (image : Image) → after.now image → IsOfRun (opening_of from) transcripts (changes_in transcripts) image
  pub whole : failed ≡ false → (image : Image) → after.now image
      → OpensTo (state_now (opening_of from) transcripts) image

-- The clients were answered over the store of the disk, from the contents that it read at first, where it is honest.
pub record IsRun (clients : List ClientScript) (text : List ℕ) (before after : DiskTold) (failed : Bool) : Type 0 where
  pub from : OpenedContents
  pub transcripts : List (List Call)
  pub answers : AreTranscriptsOf clients text (opening_of from) failed transcripts
  pub images : IsHonest before → AreImagesOf from transcripts before after failed
