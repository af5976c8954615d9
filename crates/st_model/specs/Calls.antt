-- The calls of a client: the commands of its file with the places and the replies of its transcript.
use Rattle.std.specs.Prelude.{ℕ, ◌≡◌, length, List, [], ◌∷◌, ◌++◌, map, Option, Some, None}
use Rattle.st_model.specs.declared.command.Asked.{Asked}
use Rattle.st_model.specs.declared.command.Call.{Call}
use Rattle.st_model.specs.declared.command.Command.{Command}
use Rattle.st_model.specs.declared.command.FileSeen.{FileSeen}
use Rattle.st_model.specs.declared.reply.Reply.{Reply}
use Rattle.st_model.specs.declared.request.IngestExternalFileArg.{IngestExternalFileArg}
use Rattle.st_model.specs.Asked.{snapshot_asked, request_asked}

-- ---- files

-- a command without a request sees no file
abbrev pub files_seen : Option (List IngestExternalFileArg) → List FileSeen → List FileSeen
files_seen None seen = []
files_seen (Some arguments) seen = seen

-- how inputs that tell their files show those of each command
abbrev pub seen_by : (List IngestExternalFileArg → List FileSeen) → List Command → List (List FileSeen)
seen_by see commands = map (λ one. seen_of see (request_asked one)) commands
  where
    seen_of : (List IngestExternalFileArg → List FileSeen) → Option (List IngestExternalFileArg) → List FileSeen
    seen_of see None = []
    seen_of see (Some arguments) = see arguments

-- ---- calls

-- what a command asks after these calls of its client, where its files are seen so
abbrev pub asked_of : List Call → Command → List FileSeen → Asked
asked_of before command seen = record {
  command = command;
  files = files_seen (request_asked command) seen;
  snapshot = snapshot_asked before command;
}

-- the call of a command that was answered so: the place and the reply
abbrev pub call_of : List Call → Command → List FileSeen → ℕ × Reply → Call
call_of before command seen answer =
    record { asked = asked_of before command seen; place = answer.0; reply = answer.1 }

-- the calls with those of the commands behind them: of each the files are seen so, and the answer is printed
abbrev pub calls_after : List Call → List Command → List (List FileSeen) → List (ℕ × Reply) → List Call
calls_after before [] seen answers = before
calls_after before (command ∷ commands) seen [] = before
calls_after before (command ∷ commands) [] (answer ∷ answers) =
    calls_after (before ++ call_of before command [] answer ∷ []) commands [] answers
calls_after before (command ∷ commands) (files ∷ seen) (answer ∷ answers) =
    calls_after (before ++ call_of before command files answer ∷ []) commands seen answers

-- the calls of a client, as far as its commands are answered; a command for which no files are given sees none
abbrev pub calls_of : List Command → List (List FileSeen) → List (ℕ × Reply) → List Call
calls_of commands seen answers = calls_after [] commands seen answers

-- These are the calls of a client: each of its commands is answered, and for each the files are given as it saw them.
pub record AreCallsOf (commands : List Command) (seen : List (List FileSeen)) (answers : List (ℕ × Reply))
    (calls : List Call) : Type 0 where
  pub answered : length answers ≡ length commands
  pub each_seen : length seen ≡ length commands
  pub are : calls ≡ calls_of commands seen answers
