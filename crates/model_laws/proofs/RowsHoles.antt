-- Transcripts, calls and answers that claim what they may not: none is legal.
use Rattle.std.proofs.Common.{◌≡◌, ℕ, zero, suc, ◌^◌, ◌∙◌, Bool, true, false, List, [], ◌∷◌, map, Option, None, Some, refl, sym, ap, arith, codes}
use Rattle.std.proofs.lemmas.Bool.{true≢false}
use Rattle.st_base.specs.Count.{greatest_count, rise}
use Rattle.st_base.specs.Rows.{Fits}
use Rattle.st_base.specs.declared.entry.Entry.{Entry}
use Rattle.st_base.specs.declared.entry.Mark.TheVariants as mark
use Rattle.st_model.specs.declared.change.Taken.{Taken}
use Rattle.st_model.specs.declared.command.Asked.{Asked}
use Rattle.st_model.specs.declared.command.Call.{Call}
use Rattle.st_model.specs.declared.command.Command.{Command}
use Rattle.st_model.specs.declared.command.Command.TheVariants as command
use Rattle.st_model.specs.declared.command.FileSeen.{FileSeen}
use Rattle.st_model.specs.declared.command.FileSeen.TheVariants.{Missing, Bad, Table}
use Rattle.st_model.specs.declared.refusal.Refusal.{Refusal}
use Rattle.st_model.specs.declared.refusal.Refusal.TheVariants as refusal
use Rattle.st_model.specs.declared.refusal.Why.TheVariants as why
use Rattle.st_model.specs.declared.reply.Reply.{Reply}
use Rattle.st_model.specs.declared.reply.Reply.TheVariants as reply
use Rattle.st_model.specs.declared.request.IngestExternalFileArg.{IngestExternalFileArg}
use Rattle.st_model.specs.declared.state.ModelState.{ModelState}
use Rattle.st_model.specs.declared.state.Snapshot.{Snapshot}
use Rattle.st_model.specs.Apply.{last_after}
use Rattle.st_model.specs.Calls.{AreCallsOf}
use Rattle.st_model.specs.Legal.{IsLegal}
use Rattle.st_model.specs.Refusals.{exact_refusals}
use Rattle.st_model.specs.Reply.{IsIngestReply}
use Rattle.st_model.specs.Request.{request_of}
use Rattle.st_model.specs.Step.{IsStep}
use Rattle.model_laws.proofs.RowWords.{capacity, d, file_at, flush_no, get, get_at, global_no, into, k, k_2, one, plain, put, start, two, value, x, y}

abbrev a : List ℕ
a = codes "a"

abbrev asking : Command → List FileSeen → Option Snapshot → Asked
asking command files snapshot = record { command = command; files = files; snapshot = snapshot }

abbrev call_for : Command → ℕ → Reply → Call
call_for command place answer = record { asked = asking command [] None; place = place; reply = answer }

-- ---- a read at a snapshot that is another one's

abbrev snap_s : Call
snap_s = call_for (command.Snap (codes "s")) 1 (reply.Snapshot 0)

abbrev snap_t : Call
snap_t = call_for (command.Snap (codes "t")) 3 (reply.Snapshot 1)

abbrev read_s : Call
read_s = record { asked = asking (get_at (codes "s") a) [] (Some (record { id = 3; number = 1 })); place = 3; reply = value (codes "1") }

another_snapshot : ¬ IsLegal start capacity ((snap_s ∷ call_for (put a (codes "1")) 2 (reply.Written 1) ∷ snap_t ∷ read_s ∷ []) ∷ []) 0 false
another_snapshot h =
    let own = h.asked.0.1.1.1.0.snapshot in
    let id : 3 ≡ 1 = ap id_of own in
    omega (arith, id)
  where
    id_of : Option Snapshot → ℕ
    id_of None = 0
    id_of (Some snapshot) = snapshot.id

-- ---- a request whose files aren't shown

abbrev hidden : Call
hidden = call_for (command.Ingest (into (codes "t") plain one ∷ [])) 0 (reply.Refused (refusal.NoFiles 1))

hidden_files : ¬ IsLegal start capacity ((hidden ∷ []) ∷ []) 0 false
hidden_files h = let each = h.asked.0.0.files.each_named in omega (arith, each)

-- and it names a file, whatever is shown of it
hidden_shape : (seen : List FileSeen) → exact_refusals start (request_of (into d plain one ∷ []) seen) ≡ refusal.NoFiles 1 ∷ [] → ⊥
hidden_shape seen e = true≢false (sym (ap is_shape e) ∙ by_files seen)
  where
    is_shape : List Refusal → Bool
    is_shape (refusal.NoFiles argument ∷ refusals) = true
    is_shape other = false

    by_files : (seen : List FileSeen) → is_shape (exact_refusals start (request_of (into d plain one ∷ []) seen)) ≡ false
    by_files [] = refl
    by_files (Missing ∷ seen) = refl
    by_files (Bad fault ∷ seen) = refl
    by_files (Table [] ∷ seen) = refl
    by_files (Table (entry ∷ entries) ∷ seen) = refl

-- ---- commands without answers

no_answers : (calls : List Call) → AreCallsOf (get a ∷ get a ∷ get a ∷ []) ([] ∷ [] ∷ [] ∷ []) [] calls → ⊥
no_answers calls h = let count = h.answered in omega (arith, count)

-- ---- a step at an older state than the client has seen, and a change that isn't made at the newest one

abbrev written : ℕ → Call
written place = call_for (put a (codes "1")) place (reply.Written place)

older_read : (state : ModelState) → state.place ≡ 1 → IsStep state capacity ((written 1 ∷ written 2 ∷ []) ∷ []) (written 1 ∷ written 2 ∷ []) (call_for (get a) 1 (value (codes "1"))) → ⊥
older_read state place h = let seen = h.seen.1.0 in omega (arith, seen, place)

-- the other client has written at 1 and 2
older_change : (state : ModelState) → state.place ≡ 1 → IsStep state capacity ((written 1 ∷ written 2 ∷ []) ∷ [] ∷ []) [] (written 2) → ⊥
older_change state place h = let newest = h.newest in omega (arith, newest, place)

-- ---- a run that doesn't begin at an opening

late_opening : ¬ IsLegal (record start { place = 1 }) capacity ([] ∷ []) 0 false
late_opening h = let first = h.begins.place in omega (arith, first)

seen_opening : ¬ IsLegal (record start { live = record { id = 0; number = 0 } ∷ [] }) capacity ([] ∷ []) 0 false
seen_opening h = let none = h.begins.live in cc

-- ---- a refusal behind a sure one

abbrev meeting_request : List IngestExternalFileArg
meeting_request = into d global_no two ∷ []

-- the store is full, but the files of the argument meet and may take no number
full_first : IsIngestReply start 1 (request_of meeting_request (x ∷ y ∷ [])) (reply.Refused refusal.StoreFull) → ⊥
full_first h = true≢false (sym h.1.0)

-- it is refused for them
needs_first : IsIngestReply start 1 (request_of meeting_request (x ∷ y ∷ [])) (reply.Refused (refusal.NeedsSequence (file_at 1 1) (why.Files 1 2)))
needs_first = (refl, (refl, tt))

-- places are spent
abbrev spent : ModelState
spent = record start { place = 72057594037927935 }

full_spent : IsIngestReply spent 1 (request_of (into d plain one ∷ []) (k_2 ∷ [])) (reply.Refused refusal.StoreFull) → ⊥
full_spent h = true≢false (sym h.1.0)

numbers_spent : IsIngestReply spent 1 (request_of (into d plain one ∷ []) (k_2 ∷ [])) (reply.Refused refusal.NumbersSpent)
numbers_spent = (refl, (refl, tt))

-- ---- a behind file's number

abbrev behind_file : Taken
behind_file = record { family = d; behind = true; number = 7; entries = [] }

behind_number : last_after behind_file 3 ≡ 3
behind_number = refl

-- ---- numbers past 64 bits, and the rise of a count

abbrev wide : Entry
wide = record { key = a; number = 2 ^ 64; mark = mark.Gone }

wide_number : Fits wide → ⊥
wide_number h = let small = h.number in omega (arith, small)

rise_by : rise 3 10 ≡ 7
rise_by = refl

rise_at_end : rise greatest_count greatest_count ≡ greatest_count
rise_at_end = refl

-- ---- a request that its shape refuses has no other refusal

abbrev too_many : List IngestExternalFileArg
too_many = map (λ letter. into (letter ∷ []) flush_no one) (letters 65)
  where
    letters : ℕ → List ℕ
    letters zero = []
    letters (suc n) = n ∷ letters n

shape_alone : exact_refusals start (request_of too_many []) ≡ refusal.TooManyFiles ∷ []
shape_alone = refl
