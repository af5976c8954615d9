-- What the words of a command line ask for.
use Rattle.std.specs.Prelude.{ℕ, ◌&&◌, IsTrue, List, [], ◌∷◌, codes, if◌then◌else◌, ⊤}
use Rattle.st_base.specs.Bytes.{same}
use Rattle.st_base.specs.Names.{is_name}
use Rattle.ingest_app.specs.declared.command_line.CommandLine.{CommandLine}
use Rattle.ingest_app.specs.declared.command_line.CommandLine.TheVariants as line
use Rattle.ingest_app.specs.declared.command_line.Conversion.{Conversion}
use Rattle.ingest_app.specs.declared.command_line.Conversion.TheVariants.{Build, Show}

-- a run of the client of this name, a conversion of the source, or nothing that is built
pub data Form : Type 0 where
  Run : List ℕ → Form
  Convert : Conversion → Form
  Unknown : Form

abbrev pub form_of_word : List ℕ → Form
form_of_word word =
    if same word (codes "build") then Convert Build else (if same word (codes "show") then Convert Show else Unknown)

abbrev pub form_of_words : List ℕ → List ℕ → Form
form_of_words word name = if same word (codes "run") && is_name name then Run name else Unknown

-- `build` and `show` stand alone, and `run` before the name of a client
abbrev pub form_of : List (List ℕ) → Form
form_of [] = Unknown
form_of (word ∷ []) = form_of_word word
form_of (word ∷ name ∷ []) = form_of_words word name
form_of (word ∷ name ∷ other ∷ others) = Unknown

-- the form that was read of words, where a name lies in memory
abbrev pub form_read : CommandLine → Form
form_read (line.Run name) = Run name.now
form_read (line.Convert conversion) = Convert conversion
form_read line.Unknown = Unknown

-- the client's name is a name
abbrev pub HasFileName : CommandLine → Type 0
HasFileName (line.Run name) = IsTrue (is_name name.now)
HasFileName other = ⊤
