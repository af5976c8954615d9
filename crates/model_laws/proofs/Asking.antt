-- The calls that are made of a client's commands ask rightly.
use Rattle.std.proofs.Common.{◌≡◌, ℕ, List, [], ◌∷◌, ◌++◌, refl, sym, ap, subst, ◌∙◌, append_assoc, append-nil}
use Rattle.std.specs.List.{AllZip}
use Rattle.st_model.specs.declared.command.Call.{Call}
use Rattle.st_model.specs.declared.command.Command.{Command}
use Rattle.st_model.specs.declared.command.FileSeen.{FileSeen}
use Rattle.st_model.specs.declared.reply.Reply.{Reply}
use Rattle.st_model.specs.Asked.{AskRightly}
use Rattle.st_model.specs.Calls.{call_of, calls_after}
use Rattle.model_laws.specs.Claims.{AsksRightly, SeesItsFiles}

-- the calls of these commands, behind the ones so far
made : List Call → List Command → List (List FileSeen) → List (ℕ × Reply) → List Call
made before [] seen answers = []
made before (command ∷ commands) seen [] = []
made before (command ∷ commands) [] (answer ∷ answers) =
    call_of before command [] answer ∷ made (before ++ call_of before command [] answer ∷ []) commands [] answers
made before (command ∷ commands) (files ∷ seen) (answer ∷ answers) =
    call_of before command files answer ∷ made (before ++ call_of before command files answer ∷ []) commands seen answers

made_behind : (before : List Call) (commands : List Command) (seen : List (List FileSeen)) (answers : List (ℕ × Reply)) → calls_after before commands seen answers ≡ before ++ made before commands seen answers
unfolding made
made_behind before [] seen answers = sym (append-nil before)
made_behind before (command ∷ commands) seen [] = sym (append-nil before)
made_behind before (command ∷ commands) [] (answer ∷ answers) =
    let call : Call = call_of before command [] answer in
    made_behind (before ++ call ∷ []) commands [] answers ∙ append_assoc before (call ∷ []) (made (before ++ call ∷ []) commands [] answers)
made_behind before (command ∷ commands) (files ∷ seen) (answer ∷ answers) =
    let call : Call = call_of before command files answer in
    made_behind (before ++ call ∷ []) commands seen answers ∙ append_assoc before (call ∷ []) (made (before ++ call ∷ []) commands seen answers)

made_rightly : (before : List Call) (commands : List Command) (seen : List (List FileSeen)) (answers : List (ℕ × Reply)) → AllZip SeesItsFiles commands seen → AskRightly before (made before commands seen answers)
unfolding made
made_rightly before [] seen answers h = tt
made_rightly before (command ∷ commands) seen [] h = tt
made_rightly before (command ∷ commands) [] (answer ∷ answers) h = absurd h
made_rightly before (command ∷ commands) (files ∷ seen) (answer ∷ answers) h =
    (record { snapshot = refl; files = h.0 }, made_rightly (before ++ call_of before command files answer ∷ []) commands seen answers h.1)

pub asks_rightly : AsksRightly
asks_rightly commands seen answers calls are h = subst (AskRightly []) (sym (are.are ∙ made_behind [] commands seen answers)) (made_rightly [] commands seen answers h)
