-- Build text: the lines of the entries of a table, `put K V` or `del K`, each ended by a line feed.
use Rattle.std.specs.Prelude.{◌≡◌, ⊤, ℕ, Bool, true, not, ◌&&◌, ◌+◌, nat_le, length, List, [], ◌∷◌, ◌++◌, codes, flat_map}
use Rattle.std.specs.Prelude.{if◌then◌else◌, IsTrue, IsFalse, Option, Some, None, Result, Ok, Err}
use Rattle.std.specs.List.{join_with_byte}
use Rattle.st_base.specs.Bytes.{below, same}
use Rattle.st_base.specs.Entries.{mark_length}
use Rattle.st_base.specs.Rows.{last_key, mark_of}
use Rattle.st_base.specs.declared.entry.Entry.{Entry}
use Rattle.st_base.specs.declared.entry.Mark.{Mark}
use Rattle.st_base.specs.declared.entry.Mark.TheVariants.{Put, Gone}
use Rattle.st_base.specs.declared.limits.TheConstants.{KEY_BYTES, VALUE_BYTES}
use Rattle.st_base.specs.Word.{word}
use Rattle.build_text.specs.declared.fault.BuildFault.{BuildFault}
use Rattle.build_text.specs.declared.fault.BuildFault.TheVariants.{Line, TooLarge, NotRising, NoEntry, OutOfMemory}
use Rattle.build_text.specs.declared.fault.BuildLineFault.{BuildLineFault}
use Rattle.build_text.specs.declared.fault.BuildLineFault.TheVariants as one
use Rattle.build_text.specs.declared.fault.WordFault.{WordFault}
use Rattle.build_text.specs.declared.fault.WordFault.TheVariants as spelling
use Rattle.build_text.specs.declared.line.LineEntry.{LineEntry}
use Rattle.build_text.specs.Words.{◌>>=◌, AreBytes, bytes_of_word, one_word, text_parts, two_words, words}

-- ---- what is printed

-- the words of an entry's line: `put`, its key and its value, or `del` and its key; the number isn't shown
abbrev pub build_words : List ℕ → Mark → List (List ℕ)
build_words key (Put value) = codes "put" ∷ word key ∷ word value ∷ []
build_words key Gone = codes "del" ∷ word key ∷ []

-- the words, parted by one space, and a line feed
abbrev pub build_line : Entry → List ℕ
build_line entry = join_with_byte 32 (build_words entry.key entry.mark) ++ 10 ∷ []

-- the lines of the entries, one after the other
abbrev pub build_text : List Entry → List ℕ
build_text entries = flat_map build_line entries

-- ---- the entry of a line

-- an entry as a line has it: with the sequence number 0
abbrev pub unnumbered : List ℕ → Mark → Entry
unnumbered key mark = record { key = key; number = 0; mark = mark }

-- the entry of a line, without where it lies in memory
abbrev pub entry_in_line : LineEntry → Entry
entry_in_line entry = unnumbered entry.key.now (mark_of entry.mark)

-- the entry of a key and its value, where both are there
abbrev pub entry_of_put : Option (List ℕ) → Option (List ℕ) → Option Entry
entry_of_put key_read value_read = do
  key ← key_read
  value ← value_read
  Some (unnumbered key (Put value))

-- `put K V`
unfoldable pub put_entry : List (List ℕ) → Option Entry
put_entry arguments = do
  two ← two_words arguments
  entry_of_put (bytes_of_word two.0) (bytes_of_word two.1)

-- `del K`
unfoldable pub del_entry : List (List ℕ) → Option Entry
del_entry arguments = do
  one ← one_word arguments
  key ← bytes_of_word one
  Some (unnumbered key Gone)

-- the first word names the mark, and the others are its arguments
abbrev pub entry_of_words : List (List ℕ) → Option Entry
entry_of_words [] = None
entry_of_words (name ∷ arguments) =
    if same name (codes "put") then put_entry arguments
    else (if same name (codes "del") then del_entry arguments
    else None)

-- what a line, without its line feed, stands for: an entry, whatever its size
abbrev pub entry_of_line : List ℕ → Option Entry
entry_of_line line = entry_of_words (words line)

-- ---- the entries of a text

-- whether the key and the value are within their limits
abbrev pub is_within : Entry → Bool
is_within entry = nat_le (length entry.key) KEY_BYTES && nat_le (mark_length entry.mark) VALUE_BYTES

-- whether the key is greater than this one, if there is one
abbrev pub is_above : Option (List ℕ) → List ℕ → Bool
is_above None key = true
is_above (Some last) key = below last key

-- the entries with this one more, which stands in the line of this number; or what is wrong with it
abbrev pub with_line_entry : (List Entry → Bool) → List Entry → ℕ → Entry → Result (List Entry) BuildFault
with_line_entry fits entries number entry =
    if not (is_within entry) then Err (TooLarge number)
    else (if not (is_above (last_key entries) entry.key) then Err (NotRising number)
    else (if not (fits (entries ++ entry ∷ [])) then Err (TooLarge number)
    else Ok (entries ++ entry ∷ [])))

-- the same, where the line stands for an entry
abbrev pub with_found : (List Entry → Bool) → List Entry → ℕ → Option Entry → Result (List Entry) BuildFault
with_found fits entries number None = Err (Line number)
with_found fits entries number (Some entry) = with_line_entry fits entries number entry

-- the entries so far with that of one more line, or the line's fault
abbrev pub with_build_line : (List Entry → Bool) → List Entry → ℕ → List ℕ → Result (List Entry) BuildFault
with_build_line fits entries number line = with_found fits entries number (entry_of_line line)

-- nothing follows the last line feed; else that is a faulty line
abbrev pub at_end : List Entry → ℕ → List ℕ → Result (List Entry) BuildFault
at_end entries number [] = Ok entries
at_end entries number (byte ∷ bytes) = Err (Line number)

-- what is left to read, with the entries so far; a fault stays
abbrev pub and_then : Result (List Entry) BuildFault → (List Entry → Result (List Entry) BuildFault) → Result (List Entry) BuildFault
and_then (Ok entries) next = next entries
and_then (Err fault) next = Err fault

-- the entries so far with those of the lines to come: these parts stand between line feeds, and the first has this number
abbrev pub entries_from : (List Entry → Bool) → List Entry → ℕ → List (List ℕ) → Result (List Entry) BuildFault
entries_from fits entries number [] = Ok entries
entries_from fits entries number (last ∷ []) = at_end entries number last
entries_from fits entries number (line ∷ next ∷ parts) =
    and_then (with_build_line fits entries number line) (λ more. entries_from fits more (number + 1) (next ∷ parts))

-- at least one entry is there
abbrev pub some_entries : Result (List Entry) BuildFault → Result (List Entry) BuildFault
some_entries (Ok []) = Err NoEntry
some_entries (Ok (entry ∷ entries)) = Ok (entry ∷ entries)
some_entries (Err fault) = Err fault

-- the entries of a build text, or its first fault; a caller brings `fits`, the limit of its table
unfoldable pub build_of : (List Entry → Bool) → List ℕ → Result (List Entry) BuildFault
build_of fits text = some_entries (entries_from fits [] 1 (text_parts text))

-- ---- what an entry of a build text is

abbrev pub IsMarkOfBytes : Mark → Type 0
IsMarkOfBytes (Put value) = AreBytes value
IsMarkOfBytes Gone = ⊤

-- its key and value are bytes, and its number is 0
pub record IsBuildEntry (entry : Entry) : Type 0 where
  pub key : AreBytes entry.key
  pub mark : IsMarkOfBytes entry.mark
  pub number : entry.number ≡ 0

-- ---- what a reader returned

-- what isn't a word is no part of such a line, and bytes past a limit are too large
abbrev pub line_fault_of_word : WordFault → BuildLineFault
line_fault_of_word spelling.NotAWord = one.Line
line_fault_of_word spelling.TooLong = one.TooLarge
line_fault_of_word spelling.OutOfMemory = one.OutOfMemory

-- it is the entry of the line, within the limits, or the line's fault, unless memory runs out
abbrev pub GivesEntry : Result LineEntry BuildLineFault → Option Entry → Type 0
GivesEntry (Ok found) reading = (reading ≡ Some (entry_in_line found)) × IsTrue (is_within (entry_in_line found))
GivesEntry (Err one.Line) reading = reading ≡ None
GivesEntry (Err one.TooLarge) reading = (entry : Entry) × (reading ≡ Some entry) × IsFalse (is_within entry)
GivesEntry (Err one.OutOfMemory) reading = ⊤

-- it is what the text gives, unless memory runs out
abbrev pub GivesEntries : Result (List Entry) BuildFault → Result (List Entry) BuildFault → Type 0
GivesEntries (Ok entries) reading = reading ≡ Ok entries
GivesEntries (Err OutOfMemory) reading = ⊤
GivesEntries (Err fault) reading = reading ≡ Err fault

-- these are the entries now, or it is this fault, unless memory runs out
abbrev pub GivesMore : {X : Type 0} → Result X BuildFault → List Entry → Result (List Entry) BuildFault → Type 0
GivesMore (Ok done) entries reading = reading ≡ Ok entries
GivesMore (Err OutOfMemory) entries reading = ⊤
GivesMore (Err fault) entries reading = reading ≡ Err fault
