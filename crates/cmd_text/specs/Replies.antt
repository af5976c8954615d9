-- Which replies are printed, and how.
use Rattle.std.specs.Prelude.{ℕ, ◌<◌, ◌≤◌, ◌≡◌, ◌^◌, IsTrue, ⊤, length, List, ◌∷◌, flat_map}
use Rattle.std.specs.Prelude.{Option, Some, None, Result, Ok, Err}
use Rattle.std.specs.List.{AllByRecursion as Each}
use Rattle.st_base.specs.Names.{is_family}
use Rattle.st_base.specs.declared.entry.KeyRange.{KeyRange}
use Rattle.st_base.specs.declared.faults.BlockFault.{BlockFault}
use Rattle.st_base.specs.declared.faults.BlockFault.TheVariants as block
use Rattle.st_base.specs.declared.faults.TableFault.{TableFault}
use Rattle.st_base.specs.declared.faults.TableFault.TheVariants as table
use Rattle.st_base.specs.declared.limits.TheConstants.{KEY_BYTES, VALUE_BYTES}
use Rattle.st_model.specs.Line.{refusal_words, reply_words}
use Rattle.st_model.specs.declared.refusal.FileAt.{FileAt}
use Rattle.st_model.specs.declared.refusal.Refusal.{Refusal}
use Rattle.st_model.specs.declared.refusal.Refusal.TheVariants as refusal
use Rattle.st_model.specs.declared.refusal.Why.{Why}
use Rattle.st_model.specs.declared.refusal.Why.TheVariants as why
use Rattle.st_model.specs.declared.reply.Placed.{Placed}
use Rattle.st_model.specs.declared.reply.Reply.{Reply}
use Rattle.st_model.specs.declared.reply.Reply.TheVariants as reply
use Rattle.build_text.specs.Words.{AreBytes}
use Rattle.cmd_text.specs.declared.fault.ParseFault.{ParseFault}
use Rattle.cmd_text.specs.declared.fault.ParseFault.TheVariants.{Mismatch}
use Rattle.cmd_text.specs.declared.fault.ParseFault.TheVariants as parse

-- ---- what a transcript can have: numbers, keys, values and names are within their limits

pub record IsKey (key : List ℕ) : Type 0 where
  pub bytes : AreBytes key
  pub within : length key ≤ KEY_BYTES

pub record IsValue (value : List ℕ) : Type 0 where
  pub bytes : AreBytes value
  pub within : length value ≤ VALUE_BYTES

pub record IsFileAt (at : FileAt) : Type 0 where
  pub argument : at.arg < 2 ^ 32
  pub file : at.file < 2 ^ 32

pub record IsRange (range : KeyRange) : Type 0 where
  pub first : IsKey range.first
  pub last : IsKey range.last

abbrev pub IsWhy : Why → Type 0
IsWhy (why.Key key) = IsKey key
IsWhy (why.Running range) = IsRange range
IsWhy (why.Snapshot number) = number < 2 ^ 64
IsWhy (why.Files i j) = (i < 2 ^ 32) × (j < 2 ^ 32)
IsWhy (why.Meets range) = IsRange range

abbrev pub IsBlockFault : BlockFault → Type 0
IsBlockFault block.Restarts = ⊤
IsBlockFault (block.Entry at) = at < 2 ^ 64
IsBlockFault (block.Order at) = at < 2 ^ 64

abbrev pub IsTableFault : TableFault → Type 0
IsTableFault table.TooLarge = ⊤
IsTableFault table.Short = ⊤
IsTableFault table.Magic = ⊤
IsTableFault (table.Version version) = version < 2 ^ 32
IsTableFault (table.Checksum kind) = kind < 2 ^ 8
IsTableFault (table.Handle at) = at < 2 ^ 64
IsTableFault (table.Compressed at) = at < 2 ^ 64
IsTableFault (table.Sum at stored found) = (at < 2 ^ 64) × ((stored < 2 ^ 32) × (found < 2 ^ 32))
IsTableFault (table.Block at fault) = (at < 2 ^ 64) × IsBlockFault fault
IsTableFault table.RangeDel = ⊤
IsTableFault table.NoProperties = ⊤
IsTableFault (table.ExternalVersion None) = ⊤
IsTableFault (table.ExternalVersion (Some version)) = version < 2 ^ 32
IsTableFault table.Comparator = ⊤
IsTableFault table.IndexKind = ⊤
IsTableFault (table.Kind entry kind) = (entry < 2 ^ 64) × (kind < 2 ^ 8)
IsTableFault (table.Number entry number) = (entry < 2 ^ 64) × (number < 2 ^ 64)
IsTableFault (table.Order entry) = entry < 2 ^ 64
IsTableFault (table.Index index) = index < 2 ^ 64

-- a refusal that a transcript can have: `OutOfMemory` has no printed form
abbrev pub IsPrintedRefusal : Refusal → Type 0
IsPrintedRefusal refusal.EmptyRequest = ⊤
IsPrintedRefusal (refusal.NoFiles argument) = argument < 2 ^ 32
IsPrintedRefusal (refusal.FamilyTwice argument) = argument < 2 ^ 32
IsPrintedRefusal refusal.TooManyFiles = ⊤
IsPrintedRefusal (refusal.FileMissing at) = IsFileAt at
IsPrintedRefusal (refusal.InputFault at) = IsFileAt at
IsPrintedRefusal (refusal.BadTable at fault) = IsFileAt at × IsTableFault fault
IsPrintedRefusal (refusal.NoEntry at) = IsFileAt at
IsPrintedRefusal (refusal.FilesMeet at file) = IsFileAt at × (file < 2 ^ 32)
IsPrintedRefusal refusal.Stopped = ⊤
IsPrintedRefusal (refusal.UnknownFamily name) = IsTrue (is_family name)
IsPrintedRefusal (refusal.BehindNotEnabled argument) = argument < 2 ^ 32
IsPrintedRefusal (refusal.SnapshotsLive argument number) = (argument < 2 ^ 32) × (number < 2 ^ 64)
IsPrintedRefusal (refusal.FlushNeeded at key) = IsFileAt at × IsKey key
IsPrintedRefusal (refusal.BehindDoesNotFit at range) = IsFileAt at × IsRange range
IsPrintedRefusal (refusal.NeedsSequence at why) = IsFileAt at × IsWhy why
IsPrintedRefusal (refusal.NotLastLevel at level why) = IsFileAt at × ((level < 2 ^ 8) × IsWhy why)
IsPrintedRefusal refusal.NumbersSpent = ⊤
IsPrintedRefusal refusal.StoreFull = ⊤
IsPrintedRefusal refusal.DiskFault = ⊤
IsPrintedRefusal (refusal.FamilyExists name) = IsTrue (is_family name)
IsPrintedRefusal refusal.DefaultStays = ⊤
IsPrintedRefusal refusal.FamiliesFull = ⊤
IsPrintedRefusal refusal.SnapshotsFull = ⊤
IsPrintedRefusal (refusal.SnapshotGone id) = id < 2 ^ 64
IsPrintedRefusal refusal.OutOfMemory = ⊥

abbrev pub IsPrintedRead : Option (List ℕ) → Type 0
IsPrintedRead None = ⊤
IsPrintedRead (Some value) = IsValue value

abbrev pub IsPrintedPair : List ℕ × List ℕ → Type 0
IsPrintedPair pair = IsKey pair.0 × IsValue pair.1

pub record IsPrintedPlaced (placed : Placed) : Type 0 where
  pub file : placed.file < 2 ^ 64
  pub level : placed.level < 2 ^ 8
  pub number : placed.number < 2 ^ 64

-- a reply that a transcript can have
abbrev pub IsPrinted : Reply → Type 0
IsPrinted (reply.Written number) = number < 2 ^ 64
IsPrinted (reply.Found value) = IsValue value
IsPrinted reply.Nothing = ⊤
IsPrinted (reply.View values) = Each IsPrintedRead values
IsPrinted (reply.Pairs pairs) = Each IsPrintedPair pairs
IsPrinted (reply.Snapshot number) = number < 2 ^ 64
IsPrinted reply.Released = ⊤
IsPrinted reply.Made = ⊤
IsPrinted reply.Dropped = ⊤
IsPrinted reply.Flushed = ⊤
IsPrinted reply.Compacted = ⊤
IsPrinted (reply.Ingested placed) = Each IsPrintedPlaced placed
IsPrinted reply.Await = ⊤
IsPrinted reply.Long = ⊤
IsPrinted (reply.Refused refusal) = IsPrintedRefusal refusal

-- ---- what a reader returned

-- it is this, unless memory runs out
abbrev pub GivesBack : {X : Type 0} → Result X ParseFault → X → Type 0
GivesBack (Ok found) wanted = found ≡ wanted
GivesBack (Err Mismatch) wanted = ⊥
GivesBack (Err parse.OutOfMemory) wanted = ⊤

-- ---- what is printed

-- words, each after a space
abbrev pub spaced : List (List ℕ) → List ℕ
spaced words = flat_map (λ word. 32 ∷ word) words

abbrev pub refusal_text : Refusal → List ℕ
refusal_text refusal = spaced (refusal_words refusal)

abbrev pub reply_text : Reply → List ℕ
reply_text reply = spaced (reply_words reply)
