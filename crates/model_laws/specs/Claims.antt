-- Laws of the list model.
use Rattle.std.specs.Prelude.{ℕ, Bool, true, false, ◌≡◌, ◌+◌, ◌-◌, ◌≤◌, ◌<◌, IsTrue, IsFalse, length, take, List, []}
use Rattle.std.specs.Prelude.{◌∷◌, ◌++◌, ◌||◌, not, map, Some, None, if◌then◌else◌}
use Rattle.std.specs.List.{list_any, AllZip, AllByRecursion as Each}
use Rattle.st_base.specs.Bytes.{same}
use Rattle.st_base.specs.Entries.{add_charge}
use Rattle.st_base.specs.declared.entry.Entry.{Entry}
use Rattle.st_model.specs.declared.change.Change.{Change}
use Rattle.st_model.specs.declared.change.Op.{Op}
use Rattle.st_model.specs.declared.command.Call.{Call}
use Rattle.st_model.specs.declared.command.Command.{Command}
use Rattle.st_model.specs.declared.command.FileSeen.{FileSeen}
use Rattle.st_model.specs.declared.contents.Contents.{Contents}
use Rattle.st_model.specs.declared.contents.ContentsFamily.{ContentsFamily}
use Rattle.st_model.specs.declared.refusal.FileAt.{FileAt}
use Rattle.st_model.specs.declared.refusal.Refusal.{Refusal}
use Rattle.st_model.specs.declared.refusal.Refusal.TheVariants.{InputFault, Stopped, DiskFault, NeedsSequence}
use Rattle.st_model.specs.declared.refusal.Why.{Why}
use Rattle.st_model.specs.declared.reply.Placed.{Placed}
use Rattle.st_model.specs.declared.reply.Reply.{Reply}
use Rattle.st_model.specs.declared.reply.Reply.TheVariants.{Written, Refused}
use Rattle.st_model.specs.declared.request.IngestExternalFileArg.{IngestExternalFileArg}
use Rattle.st_model.specs.declared.state.ModelFamily.{ModelFamily}
use Rattle.st_model.specs.declared.state.ModelState.{ModelState}
use Rattle.st_model.specs.Answer.{unknown_families, write_answer}
use Rattle.st_model.specs.Apply.{apply, apply_all, op_family, with_write, write_charge}
use Rattle.st_model.specs.Asked.{AskRightly, SeesRightly, request_asked}
use Rattle.st_model.specs.Calls.{AreCallsOf, files_seen}
use Rattle.st_model.specs.Causes.{HaveCauses, is_input_fault, is_stop, is_stored}
use Rattle.st_model.specs.Contents.{opened}
use Rattle.st_model.specs.Early.{is_empty}
use Rattle.st_model.specs.History.{accepted_calls, all_calls, history, is_change, state_at}
use Rattle.st_model.specs.Legal.{AreAcceptedInTurn, IsAnswered, IsLegal, tells_state}
use Rattle.st_model.specs.Places.{ArePlacesOnce, changes_in}
use Rattle.st_model.specs.Placing.{is_among_known}
use Rattle.st_model.specs.Read.{read, value_of}
use Rattle.st_model.specs.Refusals.{file_refusals, is_full, keeps_snapshots, named_file, numbers_needed, shape_refusals}
use Rattle.st_model.specs.Reply.{IsIngested, IsIngestReply, IsReply}
use Rattle.st_model.specs.Request.{Argument, File, default_options, meeting, range_of_file, request_of}
use Rattle.st_model.specs.Sound.{IsSound, WritesWithin}
use Rattle.st_model.specs.State.{IsOpening, family_of, greatest_number, is_known, new_store}
use Rattle.st_model.specs.Step.{IsStep, after}

-- ---- a read after one more write

-- the write takes the next number; its own key reads what it wrote, and any other what it read before
abbrev pub ReadsAfterWrite : Type 0
ReadsAfterWrite =
    (family : ModelFamily) (last : ℕ) (write : Entry) (key : List ℕ)
    → WritesWithin last family → write.number ≡ last + 1
    → read (with_write write family) (last + 1) key
    ≡ (if same write.key key then value_of (Some write.mark) else read family last key)

-- ---- a write in range is accepted

-- the families are there, and numbers, a place and room are left
pub record IsInRange (state : ModelState) (capacity : ℕ) (ops : List Op) : Type 0 where
  pub families : unknown_families state (map op_family ops) ≡ []
  pub numbers : state.last + length ops ≤ greatest_number
  pub place : state.place < greatest_number
  pub room : add_charge state.charge (write_charge ops) ≤ capacity

abbrev pub AcceptsWrite : Type 0
AcceptsWrite =
    (state : ModelState) (capacity : ℕ) (ops : List Op)
    → IsInRange state capacity ops → write_answer state capacity ops ≡ Written (state.last + length ops)

-- ---- a new store

abbrev pub NewIsSound : Type 0
NewIsSound = (behind : Bool) → IsSound (new_store behind)

-- ---- known keys

-- each key that has a write or a mark of the base is known
pub record KnowsKeys (family : ModelFamily) : Type 0 where
  pub writes : Each (λ write. IsTrue (is_known family write.key)) family.writes
  pub base : Each (λ pair. IsTrue (is_known family pair.0)) family.base

abbrev pub KnowsAllKeys : ModelState → Type 0
KnowsAllKeys state = Each (λ named. KnowsKeys named.1) state.families

-- a new store knows its keys, and every change keeps that
abbrev pub KeepsKnown : Type 0
KeepsKnown =
    ((behind : Bool) → KnowsAllKeys (new_store behind))
    × ((state : ModelState) (change : Change) → KnowsAllKeys state → KnowsAllKeys (apply state change))

-- the keys of the family's marks are among these
abbrev pub HoldsMarks : List (List ℕ) → ContentsFamily → Type 0
HoldsMarks known family = Each (λ entry. IsTrue (list_any (λ other. same other entry.key) known)) family.marks

-- and so does an opened store, where the keys that it is told to be known hold those of the marks
abbrev pub OpensKnown : Type 0
OpensKnown =
    (contents : Contents) (known : List (List (List ℕ)))
    → AllZip HoldsMarks known contents.families → KnowsAllKeys (opened contents known)

-- ---- an ingestion with default options is accepted

-- A request with default options that its shape and its files don't refuse: its families are there, and numbers, a
-- place and room are left.
pub record IsPlainRequest (state : ModelState) (capacity : ℕ) (arguments : List IngestExternalFileArg)
    (seen : List FileSeen) : Type 0 where
  pub options : Each (λ argument. argument.options ≡ default_options) arguments
  pub sees : SeesRightly (Some arguments) seen
  pub shape : shape_refusals (request_of arguments seen) ≡ []
  pub files : file_refusals (request_of arguments seen) ≡ []
  pub families : unknown_families state (map (λ argument. argument.family) arguments) ≡ []
  pub numbers : state.last + numbers_needed (request_of arguments seen) ≤ greatest_number
  pub place : state.place < greatest_number
  pub room : IsFalse (is_full state capacity (request_of arguments seen))

-- some levels and numbers are allowed for its files
abbrev pub AcceptsIngestion : Type 0
AcceptsIngestion =
    (state : ModelState) (capacity : ℕ) (arguments : List IngestExternalFileArg) (seen : List FileSeen)
    → IsPlainRequest state capacity arguments seen → KnowsAllKeys state
    → (placed : List Placed) × IsIngested state capacity (request_of arguments seen) placed

-- whether the refusal comes from a fault of the inputs or of the disk
abbrev pub is_fault : Refusal → Bool
is_fault (InputFault at) = true
is_fault Stopped = true
is_fault DiskFault = true
is_fault other = false

-- and no refusal is allowed but for a fault
abbrev pub RefusesForFaults : Type 0
RefusesForFaults =
    (state : ModelState) (capacity : ℕ) (arguments : List IngestExternalFileArg) (seen : List FileSeen)
    (refusal : Refusal)
    → IsPlainRequest state capacity arguments seen
    → IsIngestReply state capacity (request_of arguments seen) (Refused refusal)
    → IsTrue (is_fault refusal)

-- ---- a file that nothing stands in the way of needs no number

-- no files of its argument meet, no live snapshot is to be kept from it, and no known keys lie on both its sides
pub record IsUncaused (state : ModelState) (argument : Argument) (file : File) : Type 0 where
  pub apart : meeting argument ≡ None
  pub unseen : IsTrue (is_empty state.live || not (keeps_snapshots argument))
  pub unknown : (family : ModelFamily) → family_of state argument.family ≡ Some family
      → IsFalse (is_among_known family (range_of_file file))

-- it is never named as one that needs a number
abbrev pub NeedsNoSequence : Type 0
NeedsNoSequence =
    (state : ModelState) (capacity : ℕ) (arguments : List IngestExternalFileArg) (seen : List FileSeen) (at : FileAt)
    (why : Why) (named : Argument × File)
    → named_file (request_of arguments seen) at ≡ Some named → IsUncaused state named.0 named.1
    → IsIngestReply state capacity (request_of arguments seen) (Refused (NeedsSequence at why)) → ⊥

-- ---- what a client's commands ask

-- the files of the command are seen rightly
abbrev pub SeesItsFiles : Command → List FileSeen → Type 0
SeesItsFiles command files = SeesRightly (request_asked command) (files_seen (request_asked command) files)

-- the calls of a client's commands ask rightly, where each command's files are seen rightly
abbrev pub AsksRightly : Type 0
AsksRightly =
    (commands : List Command) (seen : List (List FileSeen)) (answers : List (ℕ × Reply)) (calls : List Call)
    → AreCallsOf commands seen answers calls → AllZip SeesItsFiles commands seen → AskRightly [] calls

-- ---- the states of a run

-- the place of the state that a call speaks of: for a change, of the state before it
abbrev pub place_spoken_of : Call → ℕ
place_spoken_of call = if is_change call.reply then call.place - 1 else call.place

-- the call's reply, where it speaks of a state, is the model's there
abbrev pub IsAnsweredAt : ModelState → ℕ → List (List Call) → Call → Type 0
IsAnsweredAt opening capacity transcripts call =
    IsTrue (tells_state call.reply)
    → IsReply (state_at opening transcripts (place_spoken_of call)) capacity call.asked call.reply

-- In a legal run each reply is the model's: that of a change at the state before it, any other at the state of its
-- place.
abbrev pub AnswersAtPlaces : Type 0
AnswersAtPlaces =
    (opening : ModelState) (capacity faults : ℕ) (failed : Bool) (transcripts : List (List Call))
    → IsLegal opening capacity transcripts faults failed
    → Each (IsAnsweredAt opening capacity transcripts) (all_calls transcripts)

-- And transcripts with the places from 1 on that are answered so have the two parts of a legal run that say it.
abbrev pub AnswersInTurn : Type 0
AnswersInTurn =
    (opening : ModelState) (capacity : ℕ) (transcripts : List (List Call))
    → ArePlacesOnce transcripts → Each (IsAnsweredAt opening capacity transcripts) (all_calls transcripts)
    → AreAcceptedInTurn opening capacity (accepted_calls transcripts)
    × Each (IsAnswered opening capacity transcripts) (all_calls transcripts)

-- the state at a place of a legal run is that after so many changes of its history
abbrev pub FollowsHistory : Type 0
FollowsHistory =
    (opening : ModelState) (capacity faults : ℕ) (failed : Bool) (transcripts : List (List Call)) (place : ℕ)
    → IsLegal opening capacity transcripts faults failed
    → state_at opening transcripts place ≡ apply_all opening (take place (history transcripts))

-- ---- a run grows

-- nobody has called yet
abbrev pub BeginsLegally : Type 0
BeginsLegally =
    (opening : ModelState) (capacity : ℕ) (transcripts : List (List Call))
    → IsOpening opening → Each (λ calls. calls ≡ []) transcripts
    → IsLegal opening capacity transcripts 0 false × (state_at opening transcripts 0 ≡ opening)

-- the transcripts of several clients, one of which has these calls
abbrev pub with_client : List (List Call) → List (List Call) → List Call → List (List Call)
with_client before behind calls = before ++ calls ∷ behind

-- One more answer of the store to one of its clients, given at a state of the run, leaves a legal run, where the
-- refusals for faults have causes.
abbrev pub GrowsLegally : Type 0
GrowsLegally =
    (opening : ModelState) (capacity faults faults' : ℕ) (failed failed' : Bool) (before behind : List (List Call))
    (calls : List Call) (call : Call) (state : ModelState)
    → IsLegal opening capacity (with_client before behind calls) faults failed
    → state ≡ state_at opening (with_client before behind calls) state.place
    → IsStep state capacity (with_client before behind calls) calls call
    → HaveCauses (all_calls (with_client before behind (calls ++ call ∷ []))) faults' failed'
    → IsLegal opening capacity (with_client before behind (calls ++ call ∷ [])) faults' failed'

-- the run is longer by a call that was given at this state
pub record StandsLonger (opening : ModelState) (old new : List (List Call)) (state : ModelState)
    (call : Call) : Type 0 where
  -- there is one change more, or none
  pub count : changes_in new ≡ changes_in old + (if is_change call.reply then 1 else 0)
  -- the states so far stay
  pub earlier : (place : ℕ) → place ≤ changes_in old → state_at opening new place ≡ state_at opening old place
  -- the state after the call is the one at the place that it prints
  pub place : (after state call).place ≡ call.place
  pub is : after state call ≡ state_at opening new call.place

abbrev pub StandsGrow : Type 0
StandsGrow =
    (opening : ModelState) (capacity faults : ℕ) (failed : Bool) (before behind : List (List Call)) (calls : List Call)
    (call : Call) (state : ModelState)
    → IsLegal opening capacity (with_client before behind calls) faults failed
    → state ≡ state_at opening (with_client before behind calls) state.place
    → IsStep state capacity (with_client before behind calls) calls call
    → StandsLonger opening (with_client before behind calls) (with_client before behind (calls ++ call ∷ [])) state call

-- What one more call says of faults: these counts stood before it, those behind it. A refusal for a fault of the inputs
-- has one more, and one for a fault of the disk comes where the disk failed; behind such a refusal nothing is stored.
pub record IsCausedStep (calls : List Call) (call : Call) (faults faults' : ℕ) (failed failed' : Bool) : Type 0 where
  pub inputs : faults + (if is_input_fault call.reply then 1 else 0) ≤ faults'
  pub disk : IsFalse failed' → IsFalse failed × IsFalse (is_stop call.reply)
  pub stored : IsTrue (is_stored call.reply)
      → Each (λ stop. IsTrue (is_stop stop.reply) → call.place ≤ stop.place) calls
  pub stop : IsTrue (is_stop call.reply)
      → Each (λ other. IsTrue (is_stored other.reply) → other.place ≤ call.place) calls

-- then the refusals for faults still have causes
abbrev pub CausesGrow : Type 0
CausesGrow =
    (faults faults' : ℕ) (failed failed' : Bool) (before behind : List (List Call)) (calls : List Call) (call : Call)
    → HaveCauses (all_calls (with_client before behind calls)) faults failed
    → IsCausedStep (all_calls (with_client before behind calls)) call faults faults' failed failed'
    → HaveCauses (all_calls (with_client before behind (calls ++ call ∷ []))) faults' failed'
