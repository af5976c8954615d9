-- Which lines of a client file are commands, and what they command.
use Rattle.std.specs.Prelude.{ℕ, nat_le, length, List, [], ◌∷◌, codes, if◌then◌else◌, Result, Ok, Err}
use Rattle.std.specs.Prelude.{◌≡◌, ⊤, Option, Some, None}
use Rattle.st_base.specs.Bytes.{same}
use Rattle.st_base.specs.Names.{is_family}
use Rattle.st_base.specs.declared.fault.MakeFault.{MakeFault}
use Rattle.st_base.specs.declared.fault.MakeFault.TheVariants.{Limit}
use Rattle.st_base.specs.declared.fault.MakeFault.TheVariants as make
use Rattle.st_base.specs.declared.limits.TheConstants.{KEY_BYTES, VALUE_BYTES}
use Rattle.st_model.specs.declared.change.Op.{Op}
use Rattle.st_model.specs.declared.change.Op.TheVariants.{Put, Del}
use Rattle.st_model.specs.declared.command.Command.{Command}
use Rattle.st_model.specs.declared.command.Command.TheVariants.{Write, Get}
use Rattle.build_text.specs.Words.{◌>>=◌, bytes_of_word, two_words, three_words, words}
use Rattle.build_text.specs.declared.fault.WordFault.{WordFault}
use Rattle.build_text.specs.declared.fault.WordFault.TheVariants as spelling
use Rattle.cmd_text.specs.declared.fault.ParseFault.{ParseFault}
use Rattle.cmd_text.specs.declared.fault.ParseFault.TheVariants.{Mismatch, OutOfMemory}

-- ---- the words of a command

-- the bytes, where they are at most so many
abbrev pub within : ℕ → List ℕ → Option (List ℕ)
within limit bytes = if nat_le (length bytes) limit then Some bytes else None

abbrev pub family_of_word : List ℕ → Option (List ℕ)
family_of_word word = if is_family word then Some word else None

abbrev pub key_of_word : List ℕ → Option (List ℕ)
key_of_word word = bytes_of_word word >>= within KEY_BYTES

abbrev pub value_of_word : List ℕ → Option (List ℕ)
value_of_word word = bytes_of_word word >>= within VALUE_BYTES

-- ---- the arguments of a command

-- `put F K V`
unfoldable pub put_of : List (List ℕ) → Option Op
put_of arguments = do
  three ← three_words arguments
  family ← family_of_word three.0
  key ← key_of_word three.1
  value ← value_of_word three.2
  Some (Put family key value)

-- a family and a key, and no more
abbrev pub family_and_key : List (List ℕ) → Option (List ℕ × List ℕ)
family_and_key arguments = do
  two ← two_words arguments
  family ← family_of_word two.0
  key ← key_of_word two.1
  Some (family, key)

-- `del F K`
unfoldable pub del_of : List (List ℕ) → Option Op
del_of arguments = do
  named ← family_and_key arguments
  Some (Del named.0 named.1)

-- `get F K`
unfoldable pub get_of : List (List ℕ) → Option Command
get_of arguments = do
  named ← family_and_key arguments
  Some (Get named.0 named.1)

-- ---- the command of a line

-- a write of one operation
abbrev pub single : Op → Command
single op = Write (record { ops = op ∷ [] })

-- the first word names the command, and the others are its arguments
unfoldable pub command_named : List ℕ → List (List ℕ) → Option Command
command_named name arguments =
    if same name (codes "put") then (put_of arguments >>= λ op. Some (single op))
    else (if same name (codes "del") then (del_of arguments >>= λ op. Some (single op))
    else (if same name (codes "get") then get_of arguments
    else None))

abbrev pub command_of_words : List (List ℕ) → Option Command
command_of_words [] = None
command_of_words (name ∷ arguments) = command_named name arguments

abbrev pub command_of : List ℕ → Option Command
command_of line = command_of_words (words line)

-- ---- what a reader returned

-- bytes past a limit are no part of what is read
abbrev pub limit_fault_of : MakeFault → ParseFault
limit_fault_of Limit = Mismatch
limit_fault_of make.OutOfMemory = OutOfMemory

-- nor is what isn't a word of the right length
abbrev pub fault_of_word : WordFault → ParseFault
fault_of_word spelling.NotAWord = Mismatch
fault_of_word spelling.TooLong = Mismatch
fault_of_word spelling.OutOfMemory = OutOfMemory

-- it is what is read by the rules above, unless memory runs out
abbrev pub Gives : {X : Type 0} → Result X ParseFault → Option X → Type 0
Gives (Ok x) reading = reading ≡ Some x
Gives (Err Mismatch) reading = reading ≡ None
Gives (Err OutOfMemory) reading = ⊤
