-- The lines of a text, the words of a line, and words of bytes: what a word stands for.
use Rattle.std.specs.Prelude.{◌≡◌, ◌<◌, ◌≤◌, ⊤, ℕ, ◌&&◌, ◌+◌, ◌-◌, ◌*◌, ◌==◌, nat_le, length, List, [], ◌∷◌, ◌++◌, codes}
use Rattle.std.specs.Prelude.{if◌then◌else◌, Option, Some, None, Result, Ok, Err}
use Rattle.std.specs.Borrow.{Bor}
use Rattle.std.specs.List.{AllByRecursion as Each, slice_split}
use Rattle.std.specs.Option.{option_and_then}
use Rattle.st_base.specs.Bytes.{same}
use Rattle.st_base.specs.Word.{is_plain}
use Rattle.build_text.specs.declared.fault.WordFault.{WordFault}
use Rattle.build_text.specs.declared.fault.WordFault.TheVariants.{NotAWord, TooLong, OutOfMemory}

infixl 10 ◌>>=◌
abbrev pub ◌>>=◌ : {A B : Type 0} → Option A → (A → Option B) → Option B
found >>= next = option_and_then next found

-- ---- lines, and the words of a line

-- the parts of a byte string between such bytes
abbrev pub parts_at : ℕ → List ℕ → List (List ℕ)
parts_at separator bytes = slice_split (λ byte. byte == separator) bytes

-- the parts of a text between its line feeds
abbrev pub text_parts : List ℕ → List (List ℕ)
text_parts text = parts_at 10 text

-- the words of a line, which are parted by one space
abbrev pub words : List ℕ → List (List ℕ)
words line = parts_at 32 line

-- the words of what is left of a line, where something is left
abbrev pub words_left : Option (List ℕ) → List (List ℕ)
words_left None = []
words_left (Some line) = words line

-- one word, and no more
abbrev pub one_word : List (List ℕ) → Option (List ℕ)
one_word (first ∷ []) = Some first
one_word other = None

-- two words, and no more
abbrev pub two_words : List (List ℕ) → Option (List ℕ × List ℕ)
two_words (first ∷ second ∷ []) = Some (first, second)
two_words other = None

-- three words, and no more
abbrev pub three_words : List (List ℕ) → Option (List ℕ × List ℕ × List ℕ)
three_words (first ∷ second ∷ third ∷ []) = Some (first, second, third)
three_words other = None

-- ---- bytes as words

-- each is a byte
abbrev pub AreBytes : List ℕ → Type 0
AreBytes bytes = Each (λ byte. byte < 256) bytes

-- the value of a hexadecimal digit: 0 to 9, then a to f
abbrev pub hex_value : ℕ → Option ℕ
hex_value digit =
    if nat_le 48 digit && nat_le digit 57 then Some (digit - 48)
    else (if nat_le 97 digit && nat_le digit 102 then Some (digit - 87) else None)

-- the byte of two hexadecimal digits, where it doesn't stand for itself
abbrev pub escaped_byte : ℕ → ℕ → Option ℕ
escaped_byte high low = do
  sixteens ← hex_value high
  ones ← hex_value low
  if is_plain (16 * sixteens + ones) then None else Some (16 * sixteens + ones)

-- a byte in front of others
abbrev pub byte_and : Option ℕ → Option (List ℕ) → Option (List ℕ)
byte_and first others = do
  byte ← first
  bytes ← others
  Some (byte ∷ bytes)

-- the bytes of a spelling: a plain byte stands for itself, and `\x` with two digits for any other
abbrev pub spelled_bytes : List ℕ → Option (List ℕ)
spelled_bytes [] = Some []
spelled_bytes (first ∷ second ∷ high ∷ low ∷ rest) =
    if is_plain first then byte_and (Some first) (spelled_bytes (second ∷ high ∷ low ∷ rest))
    else (if first == 92 && second == 120 then byte_and (escaped_byte high low) (spelled_bytes rest)
    else None)
spelled_bytes (first ∷ rest) = if is_plain first then byte_and (Some first) (spelled_bytes rest) else None

-- what a word stands for: `\e` for no bytes, any other for those that it spells; the empty word is none
abbrev pub bytes_of_word : List ℕ → Option (List ℕ)
bytes_of_word [] = None
bytes_of_word (first ∷ rest) = if same (first ∷ rest) (codes "\\e") then Some [] else spelled_bytes (first ∷ rest)

-- ---- what a reader returned

-- it is what the word stands for, unless memory runs out; too many bytes pass this limit
abbrev pub GivesBytes : Result (Bor (List ℕ)) WordFault → ℕ → Option (List ℕ) → Type 0
GivesBytes (Ok bytes) limit reading = (reading ≡ Some bytes.now) × (length bytes.now ≤ limit)
GivesBytes (Err NotAWord) limit reading = reading ≡ None
GivesBytes (Err TooLong) limit reading = (bytes : List ℕ) × (reading ≡ Some bytes) × (limit < length bytes)
GivesBytes (Err OutOfMemory) limit reading = ⊤

-- these bytes are what is spelled, unless memory runs out
abbrev pub GivesSpelled : {X : Type 0} → Result X WordFault → List ℕ → Option (List ℕ) → Type 0
GivesSpelled (Ok done) bytes reading = reading ≡ Some bytes
GivesSpelled (Err NotAWord) bytes reading = reading ≡ None
GivesSpelled (Err TooLong) bytes reading = ⊥
GivesSpelled (Err OutOfMemory) bytes reading = ⊤

-- ---- what is printed

-- one list is the other with more at its end
abbrev pub Extends : List ℕ → List ℕ → Type 0
Extends old new = (more : List ℕ) × (new ≡ old ++ more)
