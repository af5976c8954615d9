-- The line that a reply prints.
use Rattle.std.specs.Prelude.{ℕ, List, [], ◌∷◌, ◌++◌, map, Option, Some, None, codes}
use Rattle.std.specs.Fmt.{decimal}
use Rattle.std.specs.List.{join_with_byte}
use Rattle.st_base.specs.Faults.{printed_table_fault}
use Rattle.st_base.specs.declared.entry.KeyRange.{KeyRange}
use Rattle.st_model.specs.declared.refusal.FileAt.{FileAt}
use Rattle.st_model.specs.declared.refusal.Why.{Why}
use Rattle.st_model.specs.declared.refusal.Why.TheVariants as why
use Rattle.st_model.specs.declared.refusal.Refusal.{Refusal}
use Rattle.st_model.specs.declared.refusal.Refusal.TheVariants as refusal
use Rattle.st_model.specs.declared.reply.Placed.{Placed}
use Rattle.st_model.specs.declared.reply.Reply.{Reply}
use Rattle.st_model.specs.declared.reply.Reply.TheVariants as reply
use Rattle.st_base.specs.Word.{word}

-- ---- refusals

-- a file of a request: its argument, and its place there
abbrev pub file_words : FileAt → List (List ℕ)
file_words at = decimal at.arg ∷ decimal at.file ∷ []

abbrev pub range_words : KeyRange → List (List ℕ)
range_words range = word range.first ∷ word range.last ∷ []

abbrev pub why_words : Why → List (List ℕ)
why_words (why.Key key) = codes "Key" ∷ word key ∷ []
why_words (why.Running range) = codes "Running" ∷ range_words range
why_words (why.Snapshot number) = codes "Snapshot" ∷ decimal number ∷ []
why_words (why.Files i j) = codes "Files" ∷ decimal i ∷ decimal j ∷ []
why_words (why.Meets range) = codes "Meets" ∷ range_words range

-- the number, the name and the arguments; want of memory stands in no transcript
abbrev pub refusal_words : Refusal → List (List ℕ)
refusal_words refusal.EmptyRequest = codes "1" ∷ codes "EmptyRequest" ∷ []
refusal_words (refusal.NoFiles argument) = codes "2" ∷ codes "NoFiles" ∷ decimal argument ∷ []
refusal_words (refusal.FamilyTwice argument) = codes "3" ∷ codes "FamilyTwice" ∷ decimal argument ∷ []
refusal_words refusal.TooManyFiles = codes "4" ∷ codes "TooManyFiles" ∷ []
refusal_words (refusal.FileMissing at) = codes "5" ∷ codes "FileMissing" ∷ file_words at
refusal_words (refusal.InputFault at) = codes "6" ∷ codes "InputFault" ∷ file_words at
refusal_words (refusal.BadTable at fault) =
    codes "7" ∷ codes "BadTable" ∷ (file_words at ++ printed_table_fault fault ∷ [])
refusal_words (refusal.NoEntry at) = codes "8" ∷ codes "NoEntry" ∷ file_words at
refusal_words (refusal.FilesMeet at file) = codes "9" ∷ codes "FilesMeet" ∷ (file_words at ++ decimal file ∷ [])
refusal_words refusal.Stopped = codes "10" ∷ codes "Stopped" ∷ []
refusal_words (refusal.UnknownFamily name) = codes "11" ∷ codes "UnknownFamily" ∷ name ∷ []
refusal_words (refusal.BehindNotEnabled argument) = codes "12" ∷ codes "BehindNotEnabled" ∷ decimal argument ∷ []
refusal_words (refusal.SnapshotsLive argument number) =
    codes "13" ∷ codes "SnapshotsLive" ∷ decimal argument ∷ decimal number ∷ []
refusal_words (refusal.FlushNeeded at key) = codes "14" ∷ codes "FlushNeeded" ∷ (file_words at ++ word key ∷ [])
refusal_words (refusal.BehindDoesNotFit at range) =
    codes "15" ∷ codes "BehindDoesNotFit" ∷ (file_words at ++ range_words range)
refusal_words (refusal.NeedsSequence at why) =
    codes "16" ∷ codes "NeedsSequence" ∷ (file_words at ++ why_words why)
refusal_words (refusal.NotLastLevel at level why) =
    codes "17" ∷ codes "NotLastLevel" ∷ (file_words at ++ decimal level ∷ why_words why)
refusal_words refusal.NumbersSpent = codes "18" ∷ codes "NumbersSpent" ∷ []
refusal_words refusal.StoreFull = codes "19" ∷ codes "StoreFull" ∷ []
refusal_words refusal.DiskFault = codes "20" ∷ codes "DiskFault" ∷ []
refusal_words (refusal.FamilyExists name) = codes "21" ∷ codes "FamilyExists" ∷ name ∷ []
refusal_words refusal.DefaultStays = codes "22" ∷ codes "DefaultStays" ∷ []
refusal_words refusal.FamiliesFull = codes "23" ∷ codes "FamiliesFull" ∷ []
refusal_words refusal.SnapshotsFull = codes "24" ∷ codes "SnapshotsFull" ∷ []
refusal_words (refusal.SnapshotGone id) = codes "27" ∷ codes "SnapshotGone" ∷ decimal id ∷ []
refusal_words refusal.OutOfMemory = []

-- ---- replies

-- `=` and the value, or `-`
abbrev pub read_word : Option (List ℕ) → List ℕ
read_word None = codes "-"
read_word (Some value) = codes "=" ++ word value

-- the key, `=` and the value
abbrev pub pair_word : List ℕ × List ℕ → List ℕ
pair_word pair = word pair.0 ++ codes "=" ++ word pair.1

-- the file number, `@`, the level, `#` and the sequence number
abbrev pub placed_word : Placed → List ℕ
placed_word placed = decimal placed.file ++ codes "@" ++ decimal placed.level ++ codes "#" ++ decimal placed.number

abbrev pub reply_words : Reply → List (List ℕ)
reply_words (reply.Written number) = codes "written" ∷ decimal number ∷ []
reply_words (reply.Found value) = codes "value" ∷ word value ∷ []
reply_words reply.Nothing = codes "none" ∷ []
reply_words (reply.View values) = codes "view" ∷ map read_word values
reply_words (reply.Pairs pairs) = codes "scan" ∷ map pair_word pairs
reply_words (reply.Snapshot number) = codes "snapshot" ∷ decimal number ∷ []
reply_words reply.Released = codes "released" ∷ []
reply_words reply.Made = codes "made" ∷ []
reply_words reply.Dropped = codes "dropped" ∷ []
reply_words reply.Flushed = codes "flushed" ∷ []
reply_words reply.Compacted = codes "compacted" ∷ []
reply_words (reply.Ingested placed) = codes "ingested" ∷ map placed_word placed
reply_words reply.Await = codes "await" ∷ []
reply_words reply.Long = codes "long" ∷ []
reply_words (reply.Refused refusal) = codes "refused" ∷ refusal_words refusal

-- the place and the reply, with one space between two words, and a line feed
abbrev pub line_of : ℕ → Reply → List ℕ
line_of place reply = join_with_byte 32 (decimal place ∷ reply_words reply) ++ 10 ∷ []
