-- How the words of a line are read as a reply. A reader takes the words that it needs; those that it doesn't look at, and
-- other spellings of a number, are told by the line that is printed again.
use Rattle.std.specs.Prelude.{ℕ, ◌&&◌, ◌+◌, ◌-◌, ◌*◌, ◌^◌, ◌==◌, ◌≡◌, nat_lt, ⊤, List, [], ◌∷◌, codes, if◌then◌else◌}
use Rattle.std.specs.Prelude.{Option, Some, None, Result, Ok, Err}
use Rattle.st_base.specs.Bytes.{same}
use Rattle.st_base.specs.Names.{is_digit}
use Rattle.st_base.specs.declared.entry.KeyRange.{KeyRange}
use Rattle.st_base.specs.declared.faults.BlockFault.{BlockFault}
use Rattle.st_base.specs.declared.faults.BlockFault.TheVariants as block
use Rattle.st_base.specs.declared.faults.TableFault.{TableFault}
use Rattle.st_base.specs.declared.faults.TableFault.TheVariants as table
use Rattle.st_model.specs.declared.refusal.FileAt.{FileAt}
use Rattle.st_model.specs.declared.refusal.Refusal.{Refusal}
use Rattle.st_model.specs.declared.refusal.Refusal.TheVariants as refusal
use Rattle.st_model.specs.declared.refusal.Why.{Why}
use Rattle.st_model.specs.declared.refusal.Why.TheVariants as why
use Rattle.st_model.specs.declared.reply.Placed.{Placed}
use Rattle.st_model.specs.declared.reply.Reply.{Reply}
use Rattle.st_model.specs.declared.reply.Reply.TheVariants as reply
use Rattle.build_text.specs.Words.{◌>>=◌, parts_at, two_words}
use Rattle.cmd_text.specs.Commands.{family_of_word, key_of_word, value_of_word}
use Rattle.cmd_text.specs.declared.fault.ParseFault.{ParseFault}
use Rattle.cmd_text.specs.declared.fault.ParseFault.TheVariants.{Mismatch, OutOfMemory}

-- ---- what a reader returned

-- what is read of the next words, and the words that follow them
abbrev pub Reading : Type 0 → Type 0
Reading X = Option (X × List (List ℕ))

-- it is what is read, and these words are left, unless memory runs out
abbrev pub GivesNext : {X : Type 0} → Result X ParseFault → List (List ℕ) → Reading X → Type 0
GivesNext (Ok found) left reading = reading ≡ Some (found, left)
GivesNext (Err Mismatch) left reading = reading ≡ None
GivesNext (Err OutOfMemory) left reading = ⊤

-- ---- numbers

-- one digit more, where the number has 64 bits
unfoldable pub with_digit : ℕ → ℕ → Option ℕ
with_digit number digit =
    if is_digit digit && nat_lt (10 * number + (digit - 48)) (2 ^ 64) then Some (10 * number + (digit - 48)) else None

-- the number with these digits after its own
abbrev pub with_digits : ℕ → List ℕ → Option ℕ
with_digits number [] = Some number
with_digits number (digit ∷ digits) = with_digit number digit >>= λ more. with_digits more digits

-- the number of decimal digits
abbrev pub number_of_word : List ℕ → Option ℕ
number_of_word [] = None
number_of_word (digit ∷ digits) = with_digits 0 (digit ∷ digits)

-- the number, where it is below the limit
unfoldable pub number_below : ℕ → List ℕ → Option ℕ
number_below limit word = do
  number ← number_of_word word
  if nat_lt number limit then Some number else None

-- ---- the next words

abbrev pub next_word : List (List ℕ) → Reading (List ℕ)
next_word [] = None
next_word (word ∷ words) = Some (word, words)

unfoldable pub next_number : List (List ℕ) → Reading ℕ
next_number words = do
  one ← next_word words
  number ← number_of_word one.0
  Some (number, one.1)

-- a number below the limit
unfoldable pub next_below : ℕ → List (List ℕ) → Reading ℕ
next_below limit words = do
  one ← next_word words
  number ← number_below limit one.0
  Some (number, one.1)

unfoldable pub next_file : List (List ℕ) → Reading FileAt
next_file words = do
  arg ← next_below (2 ^ 32) words
  file ← next_below (2 ^ 32) arg.1
  Some (record { arg = arg.0; file = file.0 }, file.1)

unfoldable pub next_key : List (List ℕ) → Reading (List ℕ)
next_key words = do
  one ← next_word words
  key ← key_of_word one.0
  Some (key, one.1)

unfoldable pub next_range : List (List ℕ) → Reading KeyRange
next_range words = do
  first ← next_key words
  last ← next_key first.1
  Some (record { first = first.0; last = last.0 }, last.1)

unfoldable pub next_family_name : List (List ℕ) → Reading (List ℕ)
next_family_name words = do
  one ← next_word words
  name ← family_of_word one.0
  Some (name, one.1)

-- ---- the faults of a table

unfoldable pub plain_fault : List ℕ → Option TableFault
plain_fault name =
    if same name (codes "TooLarge") then Some table.TooLarge
    else (if same name (codes "Short") then Some table.Short
    else (if same name (codes "Magic") then Some table.Magic
    else (if same name (codes "RangeDel") then Some table.RangeDel
    else (if same name (codes "NoProperties") then Some table.NoProperties
    else (if same name (codes "Comparator") then Some table.Comparator
    else (if same name (codes "IndexKind") then Some table.IndexKind
    else None))))))

-- a fault with one number
unfoldable pub counted_fault : List ℕ → List (List ℕ) → Option TableFault
counted_fault name words =
    if same name (codes "Handle") then (next_number words >>= λ at. Some (table.Handle at.0))
    else (if same name (codes "Compressed") then (next_number words >>= λ at. Some (table.Compressed at.0))
    else (if same name (codes "Order") then (next_number words >>= λ entry. Some (table.Order entry.0))
    else (if same name (codes "Index") then (next_number words >>= λ index. Some (table.Index index.0))
    else (if same name (codes "Version") then (next_below (2 ^ 32) words >>= λ version. Some (table.Version version.0))
    else (if same name (codes "Checksum") then (next_below (2 ^ 8) words >>= λ kind. Some (table.Checksum kind.0))
    else None)))))

-- the fault of a block, by its name
unfoldable pub block_fault_named : List ℕ → List (List ℕ) → Option BlockFault
block_fault_named name words =
    if same name (codes "Restarts") then Some block.Restarts
    else (if same name (codes "Entry") then (next_number words >>= λ at. Some (block.Entry at.0))
    else (if same name (codes "Order") then (next_number words >>= λ at. Some (block.Order at.0))
    else None))

abbrev pub block_fault_of : List (List ℕ) → Option BlockFault
block_fault_of [] = None
block_fault_of (name ∷ words) = block_fault_named name words

-- the version that is named; a word that is no number names none
unfoldable pub external_version_of : List (List ℕ) → Option TableFault
external_version_of words = do
  one ← next_word words
  Some (table.ExternalVersion (number_below (2 ^ 32) one.0))

unfoldable pub sum_fault_of : List (List ℕ) → Option TableFault
sum_fault_of words = do
  at ← next_number words
  stored ← next_below (2 ^ 32) at.1
  found ← next_below (2 ^ 32) stored.1
  Some (table.Sum at.0 stored.0 found.0)

unfoldable pub inner_fault_of : List (List ℕ) → Option TableFault
inner_fault_of words = do
  at ← next_number words
  fault ← block_fault_of at.1
  Some (table.Block at.0 fault)

unfoldable pub kind_fault_of : List (List ℕ) → Option TableFault
kind_fault_of words = do
  entry ← next_number words
  kind ← next_below (2 ^ 8) entry.1
  Some (table.Kind entry.0 kind.0)

unfoldable pub number_fault_of : List (List ℕ) → Option TableFault
number_fault_of words = do
  entry ← next_number words
  number ← next_number entry.1
  Some (table.Number entry.0 number.0)

-- the other faults, by their names
unfoldable pub long_fault : List ℕ → List (List ℕ) → Option TableFault
long_fault name words =
    if same name (codes "Sum") then sum_fault_of words
    else (if same name (codes "Block") then inner_fault_of words
    else (if same name (codes "ExternalVersion") then external_version_of words
    else (if same name (codes "Kind") then kind_fault_of words
    else (if same name (codes "Number") then number_fault_of words
    else counted_fault name words))))

-- the first, or the second where there is none
abbrev pub or_other : {X : Type 0} → Option X → Option X → Option X
or_other None other = other
or_other (Some found) other = Some found

abbrev pub fault_of : List (List ℕ) → Option TableFault
fault_of [] = None
fault_of (name ∷ words) = or_other (plain_fault name) (long_fault name words)

-- ---- refusals, by their numbers

unfoldable pub why_named : List ℕ → List (List ℕ) → Option Why
why_named name words =
    if same name (codes "Key") then (next_key words >>= λ key. Some (why.Key key.0))
    else (if same name (codes "Running") then (next_range words >>= λ range. Some (why.Running range.0))
    else (if same name (codes "Snapshot") then (next_number words >>= λ number. Some (why.Snapshot number.0))
    else (if same name (codes "Files") then (next_file words >>= λ files. Some (why.Files files.0.arg files.0.file))
    else (if same name (codes "Meets") then (next_range words >>= λ range. Some (why.Meets range.0))
    else None))))

abbrev pub why_of : List (List ℕ) → Option Why
why_of [] = None
why_of (name ∷ words) = why_named name words

-- one without arguments
unfoldable pub plain_refusal : ℕ → Option Refusal
plain_refusal number =
    if number == 1 then Some refusal.EmptyRequest
    else (if number == 4 then Some refusal.TooManyFiles
    else (if number == 10 then Some refusal.Stopped
    else (if number == 18 then Some refusal.NumbersSpent
    else (if number == 19 then Some refusal.StoreFull
    else (if number == 20 then Some refusal.DiskFault
    else (if number == 22 then Some refusal.DefaultStays
    else (if number == 23 then Some refusal.FamiliesFull
    else (if number == 24 then Some refusal.SnapshotsFull
    else None))))))))

unfoldable pub snapshots_live_of : List (List ℕ) → Option Refusal
snapshots_live_of words = do
  argument ← next_below (2 ^ 32) words
  number ← next_number argument.1
  Some (refusal.SnapshotsLive argument.0 number.0)

-- one of a file with its other arguments
unfoldable pub bad_table_of : FileAt → List (List ℕ) → Option Refusal
bad_table_of at words = fault_of words >>= λ fault. Some (refusal.BadTable at fault)

unfoldable pub not_last_level_of : FileAt → List (List ℕ) → Option Refusal
not_last_level_of at words = do
  level ← next_below (2 ^ 8) words
  why ← why_of level.1
  Some (refusal.NotLastLevel at level.0 why)

-- one that names a file of the request
unfoldable pub refusal_at : ℕ → FileAt → List (List ℕ) → Option Refusal
refusal_at number at words =
    if number == 5 then Some (refusal.FileMissing at)
    else (if number == 6 then Some (refusal.InputFault at)
    else (if number == 7 then bad_table_of at words
    else (if number == 8 then Some (refusal.NoEntry at)
    else (if number == 9 then (next_below (2 ^ 32) words >>= λ file. Some (refusal.FilesMeet at file.0))
    else (if number == 14 then (next_key words >>= λ key. Some (refusal.FlushNeeded at key.0))
    else (if number == 15 then (next_range words >>= λ range. Some (refusal.BehindDoesNotFit at range.0))
    else (if number == 16 then (why_of words >>= λ why. Some (refusal.NeedsSequence at why))
    else (if number == 17 then not_last_level_of at words
    else None))))))))

unfoldable pub file_refusal : ℕ → List (List ℕ) → Option Refusal
file_refusal number words = do
  at ← next_file words
  refusal_at number at.0 at.1

-- one with arguments
unfoldable pub long_refusal : ℕ → List (List ℕ) → Option Refusal
long_refusal number words =
    if number == 2 then (next_below (2 ^ 32) words >>= λ argument. Some (refusal.NoFiles argument.0))
    else (if number == 3 then (next_below (2 ^ 32) words >>= λ argument. Some (refusal.FamilyTwice argument.0))
    else (if number == 11 then (next_family_name words >>= λ name. Some (refusal.UnknownFamily name.0))
    else (if number == 12 then (next_below (2 ^ 32) words >>= λ argument. Some (refusal.BehindNotEnabled argument.0))
    else (if number == 13 then snapshots_live_of words
    else (if number == 21 then (next_family_name words >>= λ name. Some (refusal.FamilyExists name.0))
    else (if number == 27 then (next_number words >>= λ id. Some (refusal.SnapshotGone id.0))
    else file_refusal number words))))))

-- the number, the name, which isn't looked at, and the arguments
unfoldable pub refusal_of : List (List ℕ) → Option Refusal
refusal_of words = do
  number ← next_number words
  name ← next_word number.1
  or_other (plain_refusal number.0) (long_refusal number.0 name.1)

-- ---- the words of lists

-- `=` and a value, or `-`
unfoldable pub read_of_word : List ℕ → Option (Option (List ℕ))
read_of_word [] = None
read_of_word (sign ∷ spelling) =
    if sign == 61 then (value_of_word spelling >>= λ value. Some (Some value))
    else (if sign == 45 then Some None else None)

-- the two parts of a word around a byte
abbrev pub parts_around : ℕ → List ℕ → Option (List ℕ × List ℕ)
parts_around byte word = two_words (parts_at byte word)

-- a key, `=` and a value
unfoldable pub pair_of_word : List ℕ → Option (List ℕ × List ℕ)
pair_of_word word = do
  parts ← parts_around 61 word
  key ← key_of_word parts.0
  value ← value_of_word parts.1
  Some (key, value)

-- a file number, `@`, a level, `#` and a sequence number
unfoldable pub placed_of_word : List ℕ → Option Placed
placed_of_word word = do
  file ← parts_around 64 word
  level ← parts_around 35 file.1
  number ← number_of_word file.0
  at ← number_below (2 ^ 8) level.0
  sequence ← number_of_word level.1
  Some (record { file = number; level = at; number = sequence })

-- what each of the words stands for
abbrev pub each_of : {X : Type 0} → (List ℕ → Option X) → List (List ℕ) → Option (List X)
each_of reading [] = Some []
each_of reading (word ∷ words) = reading word >>= λ one. each_of reading words >>= λ others. Some (one ∷ others)

-- ---- replies

unfoldable pub plain_reply : List ℕ → Option Reply
plain_reply name =
    if same name (codes "none") then Some reply.Nothing
    else (if same name (codes "released") then Some reply.Released
    else (if same name (codes "made") then Some reply.Made
    else (if same name (codes "dropped") then Some reply.Dropped
    else (if same name (codes "flushed") then Some reply.Flushed
    else (if same name (codes "compacted") then Some reply.Compacted
    else (if same name (codes "await") then Some reply.Await
    else (if same name (codes "long") then Some reply.Long
    else None)))))))

unfoldable pub found_reply : List (List ℕ) → Option Reply
found_reply words = do
  one ← next_word words
  value ← value_of_word one.0
  Some (reply.Found value)

unfoldable pub long_reply : List ℕ → List (List ℕ) → Option Reply
long_reply name words =
    if same name (codes "written") then (next_number words >>= λ number. Some (reply.Written number.0))
    else (if same name (codes "value") then found_reply words
    else (if same name (codes "view") then (each_of read_of_word words >>= λ values. Some (reply.View values))
    else (if same name (codes "scan") then (each_of pair_of_word words >>= λ pairs. Some (reply.Pairs pairs))
    else (if same name (codes "snapshot") then (next_number words >>= λ number. Some (reply.Snapshot number.0))
    else (if same name (codes "ingested") then (each_of placed_of_word words >>= λ placed. Some (reply.Ingested placed))
    else (if same name (codes "refused") then (refusal_of words >>= λ refusal. Some (reply.Refused refusal))
    else None))))))

abbrev pub reply_of : List (List ℕ) → Option Reply
reply_of [] = None
reply_of (name ∷ words) = or_other (plain_reply name) (long_reply name words)

-- a place and a reply
unfoldable pub place_and_reply_of : List (List ℕ) → Option (ℕ × Reply)
place_and_reply_of words = do
  place ← next_number words
  reply ← reply_of place.1
  Some (place.0, reply)
