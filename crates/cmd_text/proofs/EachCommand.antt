-- What holds of each command that a line can be, holds of each command of a script.
use Rattle.std.proofs.Common.{◌≡◌, ℕ, ◌+◌, Bool, true, false, cond, nat_lt, List, [], ◌∷◌, Option, Some, None, Ok, Err, refl, subst, codes}
use Rattle.std.specs.Prelude.{Result}
use Rattle.std.specs.Option.{option_and_then}
use Rattle.std.specs.List.{AllByRecursion as Each}
use Rattle.st_base.specs.Bytes.{same}
use Rattle.st_model.specs.declared.change.Op.{Op}
use Rattle.st_model.specs.declared.command.Command.{Command}
use Rattle.st_model.specs.declared.command.Command.TheVariants.{Get}
use Rattle.cmd_text.specs.declared.script.Numbered.{Numbered}
use Rattle.build_text.specs.Words.{words}
use Rattle.cmd_text.specs.Commands.{command_named, command_of, command_of_words, del_of, family_and_key, get_of, put_of, single}
use Rattle.cmd_text.proofs.Steps.{step}
use Rattle.cmd_text.specs.Script.{IsOfOneKey, command_behind, command_lines, commands_of, in_front, script_of}

module _ (P : Command → Type 0) (puts : (arguments : List (List ℕ)) (op : Op) → put_of arguments ≡ Some op → P (single op)) (dels : (arguments : List (List ℕ)) (op : Op) → del_of arguments ≡ Some op → P (single op))
    (gets : (arguments : List (List ℕ)) (command : Command) → get_of arguments ≡ Some command → P command) where
  single-is : (found : Option Op) (command : Command) → ((op : Op) → found ≡ Some op → P (single op)) → option_and_then (λ op. Some (single op)) found ≡ Some command → P command
  single-is found command holds is =
      let op = step found (λ o. Some (single o)) command is in
      let same_command : single op.0 ≡ command = cc op.2 in
      subst P same_command (holds op.0 op.1)

  named-is : (name : List ℕ) (arguments : List (List ℕ)) (command : Command) → command_named name arguments ≡ Some command → P command
  unfolding command_named
  named-is name arguments command is = go (same name (codes "put")) (same name (codes "del")) (same name (codes "get")) is
    where
      go : (p d g : Bool) → cond p (option_and_then (λ op. Some (single op)) (put_of arguments)) (cond d (option_and_then (λ op. Some (single op)) (del_of arguments)) (cond g (get_of arguments) None)) ≡ Some command → P command
      go true d g e = single-is (put_of arguments) command (puts arguments) e
      go false true g e = single-is (del_of arguments) command (dels arguments) e
      go false false true e = gets arguments command e
      go false false false e = absurd (cc e)

  words-are : (parts : List (List ℕ)) (command : Command) → command_of_words parts ≡ Some command → P command
  words-are [] command is = absurd (cc is)
  words-are (name ∷ arguments) command is = named-is name arguments command is

  behind-is : (before : ℕ) (line : List ℕ) (command : Command) → command_behind before line ≡ Some command → P command
  behind-is before line command is = go (nat_lt before 20000) is
    where
      go : (b : Bool) → cond b (command_of line) None ≡ Some command → P command
      go true e = words-are (words line) command e
      go false e = absurd (cc e)

  front-are : (number : ℕ) (found : Option Command) (others : Result (List Numbered) ℕ) (commands : List Numbered) → ((command : Command) → found ≡ Some command → P command) → ((rest : List Numbered) → others ≡ Ok rest → Each (λ (numbered : Numbered). P numbered.command) rest)
      → in_front number found others ≡ Ok commands → Each (λ (numbered : Numbered). P numbered.command) commands
  front-are number None others commands first rest is = absurd (cc is)
  front-are number (Some command) (Err fault) commands first rest is = absurd (cc is)
  front-are number (Some command) (Ok more) commands first rest is =
      let numbered : Numbered = record { line = number; command = command } in
      let all : numbered ∷ more ≡ commands = cc is in
      subst (λ l. Each (λ (n : Numbered). P n.command) l) all (first command refl, rest more refl)

  lines-are : (before : ℕ) (lines : List (ℕ × List ℕ)) (commands : List Numbered) → commands_of before lines ≡ Ok commands → Each (λ (numbered : Numbered). P numbered.command) commands
  lines-are before [] commands is = let none : [] ≡ commands = cc is in subst (λ l. Each (λ (n : Numbered). P n.command) l) none tt
  lines-are before (line ∷ lines) commands is =
      front-are line.0 (command_behind before line.1) (commands_of (before + 1) lines) commands (λ command e. behind-is before line.1 command e) (λ rest e. lines-are (before + 1) lines rest e) is

  pub script_each : (text : List ℕ) (commands : List Numbered) → script_of text ≡ Ok commands → Each (λ (numbered : Numbered). P numbered.command) commands
  unfolding script_of
  script_each text commands is = lines-are 0 (command_lines text) commands is

-- ---- the commands that a client file has so far

get-is : (arguments : List (List ℕ)) (command : Command) → get_of arguments ≡ Some command → IsOfOneKey command
unfolding get_of
get-is arguments command is =
    let named = step (family_and_key arguments) _ command is in
    let same_command : Get named.0.0 named.0.1 ≡ command = cc named.2 in
    subst IsOfOneKey same_command tt

pub each_of_one_key : (text : List ℕ) (commands : List Numbered) → script_of text ≡ Ok commands → Each (λ (numbered : Numbered). IsOfOneKey numbered.command) commands
each_of_one_key text commands is = script_each IsOfOneKey (λ arguments op e. refl) (λ arguments op e. refl) get-is text commands is
