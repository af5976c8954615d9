-- A script, of which some lines are read.
use Rattle.std.proofs.Common.{◌≡◌, ℕ, Bool, true, false, cond, ◌+◌, List, [], ◌∷◌, ◌++◌, length, refl, sym, ap, ◌∙◌, subst, arith, append_assoc, append-nil, length-append}
use Rattle.std.specs.Prelude.{Option, Some, None, Result, Ok, Err, filter}
use Rattle.std.specs.List.{enumerate_from}
use Rattle.st_model.specs.declared.command.Command.{Command}
use Rattle.cmd_text.specs.declared.script.Numbered.{Numbered}
use Rattle.cmd_text.specs.Lines.{lines}
use Rattle.cmd_text.specs.Script.{is_command_line, command_behind, in_front, commands_of, command_added, with_line, command_lines, script_of}

-- commands in front of what the lines behind them give
abbrev pub with_front : List Numbered → Result (List Numbered) ℕ → Result (List Numbered) ℕ
with_front front (Ok commands) = Ok (front ++ commands)
with_front front (Err number) = Err number

abbrev those_of : ℕ → List (List ℕ) → List (ℕ × List ℕ)
those_of number lines = filter (λ line. is_command_line line.1) (enumerate_from number lines)

-- the script, of which these commands are read, and these lines aren't, of which the first has this number
abbrev pub whole : List Numbered → ℕ → List (List ℕ) → Result (List Numbered) ℕ
whole commands number lines = with_front commands (commands_of (length commands) (those_of number lines))

with_front-nil : (others : Result (List Numbered) ℕ) → with_front [] others ≡ others
with_front-nil (Ok commands) = refl
with_front-nil (Err number) = refl

-- no line is read
pub whole_begin : (text : List ℕ) → whole [] 1 (lines text) ≡ script_of text
unfolding script_of
whole_begin text = with_front-nil (commands_of 0 (command_lines text))

-- ---- one line is read

chosen : (before number : ℕ) (line : List ℕ) (others : List (ℕ × List ℕ)) (b : Bool) → commands_of before (cond b ((number, line) ∷ others) others) ≡ cond b (in_front number (command_behind before line) (commands_of (before + 1) others)) (commands_of before others)
chosen before number line others true = refl
chosen before number line others false = refl

in_front-with_front : (commands : List Numbered) (number : ℕ) (command : Command) (others : Result (List Numbered) ℕ) → with_front (commands ++ record { line = number; command = command } ∷ []) others ≡ with_front commands (in_front number (Some command) others)
in_front-with_front commands number command (Ok others) = ap Ok (append_assoc commands (record { line = number; command = command } ∷ []) others)
in_front-with_front commands number command (Err fault) = refl

Step : List Numbered → List Numbered → ℕ → List (ℕ × List ℕ) → Bool → Option Command → Type 0
Step commands new number others b command =
    with_front new (commands_of (length new) others)
    ≡ with_front commands (cond b (in_front number command (commands_of (length commands + 1) others)) (commands_of (length commands) others))

step : (commands new : List Numbered) (number : ℕ) (others : List (ℕ × List ℕ)) (b : Bool) (command : Option Command) → cond b (command_added commands number command) (Ok commands) ≡ Ok new → Step commands new number others b command
unfolding Step
step commands new number others true None e = absurd (cc)
step commands new number others true (Some command) e =
    let put = commands ++ record { line = number; command = command } ∷ [] in
    let same : put ≡ new = cc in
    let longer : length put ≡ length commands + 1 = omega (arith, length-append commands (record { line = number; command = command } ∷ [])) in
    let P : List Numbered → Type 0 = λ v. with_front v (commands_of (length v) others) ≡ with_front commands (in_front number (Some command) (commands_of (length commands + 1) others)) in
    subst P same
    (ap (λ n. with_front put (commands_of n others)) longer ∙ in_front-with_front commands number command (commands_of (length commands + 1) others))
step commands new number others false command e =
    let same : commands ≡ new = cc in
    let P : List Numbered → Type 0 = λ v. with_front v (commands_of (length v) others) ≡ with_front commands (commands_of (length commands) others) in
    subst P same refl

-- a line that is read
pub whole_line : (commands new : List Numbered) (number : ℕ) (line : List ℕ) (lines : List (List ℕ)) → with_line commands number line ≡ Ok new → whole new (number + 1) lines ≡ whole commands number (line ∷ lines)
unfolding Step
whole_line commands new number line lines e =
    let others = those_of (number + 1) lines in
    step commands new number others (is_command_line line) (command_behind (length commands) line) e
    ∙ sym (ap (with_front commands) (chosen (length commands) number line others (is_command_line line)))

fault-by : (commands : List Numbered) (number fault : ℕ) (others : List (ℕ × List ℕ)) (b : Bool) (command : Option Command) → cond b (command_added commands number command) (Ok commands) ≡ Err fault → with_front commands (cond b (in_front number command (commands_of (length commands + 1) others)) (commands_of (length commands) others)) ≡ Err fault
fault-by commands number fault others true None e = cc
fault-by commands number fault others true (Some command) e = absurd (cc)
fault-by commands number fault others false command e = absurd (cc)

-- a line that is no command
pub whole_fault : (commands : List Numbered) (number fault : ℕ) (line : List ℕ) (lines : List (List ℕ)) → with_line commands number line ≡ Err fault → whole commands number (line ∷ lines) ≡ Err fault
whole_fault commands number fault line lines e =
    let others = those_of (number + 1) lines in
    ap (with_front commands) (chosen (length commands) number line others (is_command_line line))
    ∙ fault-by commands number fault others (is_command_line line) (command_behind (length commands) line) e

-- all lines are read
pub whole_end : (text : List ℕ) (commands : List Numbered) (number : ℕ) (rest : List ℕ) → length rest ≡ 0 → whole commands number (lines rest) ≡ script_of text → script_of text ≡ Ok commands
whole_end text commands number [] none e = sym e ∙ ap Ok (append-nil commands)
whole_end text commands number (byte ∷ rest) none e = absurd (omega (arith, none))
