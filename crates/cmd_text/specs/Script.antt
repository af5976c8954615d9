-- The commands of a client file.
use Rattle.std.specs.Prelude.{ℕ, Bool, false, not, ◌≡◌, ⊤, ◌==◌, ◌+◌, nat_lt, length, List, [], ◌∷◌, ◌++◌, filter, if◌then◌else◌}
use Rattle.std.specs.Prelude.{Option, Some, None, Result, Ok, Err}
use Rattle.std.specs.List.{enumerate_from}
use Rattle.st_base.specs.declared.limits.TheConstants.{COMMANDS_PER_CLIENT}
use Rattle.st_model.specs.declared.command.Command.{Command}
use Rattle.st_model.specs.declared.command.Command.TheVariants.{Write, Get}
use Rattle.cmd_text.specs.declared.script.Numbered.{Numbered}
use Rattle.cmd_text.specs.Lines.{lines}
use Rattle.cmd_text.specs.Commands.{command_of}

-- a line that is empty or begins with `#` is no command
abbrev pub is_command_line : List ℕ → Bool
is_command_line [] = false
is_command_line (byte ∷ bytes) = not (byte == 35)

-- the lines that are commands, each with its number; all lines are counted, from 1
abbrev pub command_lines : List ℕ → List (ℕ × List ℕ)
command_lines text = filter (λ line. is_command_line line.1) (enumerate_from 1 (lines text))

-- the command of a line that follows so many commands: a client file has at most 20,000
abbrev pub command_behind : ℕ → List ℕ → Option Command
command_behind before line = if nat_lt before COMMANDS_PER_CLIENT then command_of line else None

-- the command stands before the others; the number of a line that isn't a command stands alone
abbrev pub in_front : ℕ → Option Command → Result (List Numbered) ℕ → Result (List Numbered) ℕ
in_front number None others = Err number
in_front number (Some command) (Err fault) = Err fault
in_front number (Some command) (Ok commands) = Ok (record { line = number; command = command } ∷ commands)

-- the commands of these lines, after so many; or the number of the first line that isn't a command
abbrev pub commands_of : ℕ → List (ℕ × List ℕ) → Result (List Numbered) ℕ
commands_of before [] = Ok []
commands_of before (line ∷ lines) = in_front line.0 (command_behind before line.1) (commands_of (before + 1) lines)

-- the commands of a client file; or the number of its first line that should be a command and isn't
unfoldable pub script_of : List ℕ → Result (List Numbered) ℕ
script_of text = commands_of 0 (command_lines text)

-- the commands that a client file can have so far: a write of one operation, or a read of a key now
abbrev pub IsOfOneKey : Command → Type 0
IsOfOneKey (Write batch) = length batch.ops ≡ 1
IsOfOneKey (Get family key) = ⊤
IsOfOneKey other = ⊥

-- ---- one line more

abbrev pub command_added : List Numbered → ℕ → Option Command → Result (List Numbered) ℕ
command_added commands number None = Err number
command_added commands number (Some command) = Ok (commands ++ record { line = number; command = command } ∷ [])

-- the commands with that of one line more
abbrev pub with_line : List Numbered → ℕ → List ℕ → Result (List Numbered) ℕ
with_line commands number line =
    if is_command_line line then command_added commands number (command_behind (length commands) line) else Ok commands
