-- Worked rows on faults, limits, openings and long transcripts.
use Rattle.std.proofs.Common.{◌≡◌, ℕ, zero, suc, ◌+◌, ◌-◌, ◌/◌, ◌%◌, ◌≤◌, Bool, true, false, ◌&&◌, nat_le, List, [], ◌∷◌, ◌++◌, length, None, refl, sym, ap, ◌∙◌, subst, inl, inr, arith, codes, cond}
use Rattle.std.specs.Fmt.{digits}
use Rattle.std.specs.List.{AllByRecursion as Each}
use Rattle.std.proofs.lemmas.Bool.{true≢false}
use Rattle.st_base.specs.Bytes.{default_family}
use Rattle.st_model.specs.declared.change.Change.{Change}
use Rattle.st_model.specs.declared.change.Change.TheVariants as change
use Rattle.st_model.specs.declared.change.Op.TheVariants as op
use Rattle.st_model.specs.declared.command.Asked.{Asked}
use Rattle.st_model.specs.declared.command.Call.{Call}
use Rattle.st_model.specs.declared.command.Command.{Command}
use Rattle.st_model.specs.declared.command.Command.TheVariants as command
use Rattle.st_model.specs.declared.command.FileSeen.TheVariants.{Missing}
use Rattle.st_model.specs.declared.refusal.Refusal.{Refusal}
use Rattle.st_model.specs.declared.refusal.Refusal.TheVariants as refusal
use Rattle.st_model.specs.declared.reply.Reply.{Reply}
use Rattle.st_model.specs.declared.reply.Reply.TheVariants as reply
use Rattle.st_model.specs.declared.state.ModelFamily.{ModelFamily}
use Rattle.st_model.specs.declared.state.ModelState.{ModelState}
use Rattle.st_model.specs.Answer.{first_or, snap_answer}
use Rattle.st_model.specs.Apply.{apply_all}
use Rattle.st_model.specs.Asked.{AskRightly}
use Rattle.st_model.specs.Calls.{calls_of}
use Rattle.st_model.specs.Contents.{contents, opened}
use Rattle.st_model.specs.Legal.{IsLegal}
use Rattle.st_model.specs.Long.{IsCut, IsCutRightly, line_length, printed_length}
use Rattle.st_model.specs.Reply.{IsReply}
use Rattle.st_model.specs.State.{new_family}
use Rattle.model_laws.proofs.Lawful.{legal_by}
use Rattle.model_laws.proofs.PlacedBy.{ingested_by}
use Rattle.model_laws.proofs.RowWords.{at, capacity, d, file_at, get, ingest, ingested, is_value, one, plain, put, put_op, start, table, value}

abbrev a : List ℕ
a = codes "a"

abbrev refused : ℕ → Refusal → ℕ × Reply
refused place refusal = (place, reply.Refused refusal)

-- ---- the disk fails in a write: the store stops, and reads go on

abbrev row_17 : ℕ × Reply → List (List Call)
row_17 third =
    calls_of (put a (codes "1") ∷ put a (codes "2") ∷ put a (codes "3") ∷ get a ∷ []) ([] ∷ [] ∷ [] ∷ [] ∷ [])
    ((1, reply.Written 1) ∷ refused 1 refusal.DiskFault ∷ third ∷ (1, value (codes "1")) ∷ []) ∷ []

row_17-legal : IsLegal start capacity (row_17 (refused 1 refusal.Stopped)) 0 true
unfolding digits
row_17-legal = legal_by start capacity (row_17 (refused 1 refusal.Stopped)) 0 true refl refl
    (inl refl, tt)
    (tt, (inr (inr refl), (inr (inl refl), (refl, tt))))

-- it doesn't come without a fault of the disk
row_17-cause : ¬ IsLegal start capacity (row_17 (refused 1 refusal.Stopped)) 0 false
row_17-cause h = let quiet = (h.causes.disk refl).1.0 in true≢false quiet

-- behind it no change is stored
row_17-change : ¬ IsLegal start capacity (row_17 (2, reply.Written 2)) 0 true
row_17-change h = let least = (h.causes.stopped.1.0 refl).1.1.0 refl in omega (arith, least)

-- what the store was stopped with is opened again: the contents before the write that failed, or those after it
abbrev written : List ℕ → Change
written bytes = change.Write (record { ops = op.Put d a bytes ∷ [] })

abbrev again : List Change → ModelState
again changes = opened (contents (apply_all start changes)) ((a ∷ []) ∷ [])

abbrev row_17_again : Reply → List (List Call)
row_17_again read = calls_of (get a ∷ []) ([] ∷ []) ((0, read) ∷ []) ∷ []

row_17_before-legal : IsLegal (again (written (codes "1") ∷ [])) capacity (row_17_again (value (codes "1"))) 0 false
unfolding digits
row_17_before-legal = legal_by (again (written (codes "1") ∷ [])) capacity (row_17_again (value (codes "1"))) 0 false refl refl tt (refl, tt)

row_17_after-legal : IsLegal (again (written (codes "1") ∷ written (codes "2") ∷ [])) capacity (row_17_again (value (codes "2"))) 0 false
unfolding digits
row_17_after-legal = legal_by (again (written (codes "1") ∷ written (codes "2") ∷ [])) capacity (row_17_again (value (codes "2"))) 0 false refl refl tt (refl, tt)

row_17_before-value : ¬ IsLegal (again (written (codes "1") ∷ [])) capacity (row_17_again (value (codes "2"))) 0 false
row_17_before-value h = true≢false (ap (is_value (codes "2")) h.answered.0)

-- ---- the inputs fail while a file is read: before it is known that the file is missing

abbrev row_6_input : List (List Call)
row_6_input = calls_of (ingest plain one ∷ []) ((Missing ∷ []) ∷ []) (refused 0 (refusal.InputFault (file_at 1 1)) ∷ []) ∷ []

row_6_input-legal : IsLegal start capacity row_6_input 1 false
unfolding digits
row_6_input-legal = legal_by start capacity row_6_input 1 false refl refl tt ((tt, (refl, tt)), tt)

-- it comes at most as often as they failed
row_6_input-cause : ¬ IsLegal start capacity row_6_input 0 false
row_6_input-cause h = let few = h.causes.inputs in omega (arith, few)

-- ---- limits

abbrev row_26 : ℕ × Reply → List (List Call)
row_26 third =
    calls_of (put a (codes "1") ∷ put (codes "b") (codes "1") ∷ put (codes "c") (codes "1") ∷ []) ([] ∷ [] ∷ [] ∷ [])
    ((1, reply.Written 1) ∷ (2, reply.Written 2) ∷ third ∷ []) ∷ []

row_26-legal : IsLegal start 100 (row_26 (refused 2 refusal.StoreFull)) 0 false
unfolding digits
row_26-legal = legal_by start 100 (row_26 (refused 2 refusal.StoreFull)) 0 false refl refl (inl refl, (inl refl, tt)) (tt, (tt, (inl refl, tt)))

row_26-full : ¬ IsLegal start 100 (row_26 (3, reply.Written 3)) 0 false
row_26-full h = elim h.accepted.1.1.0 [ inl e ↦ cc | inr e ↦ elim e [ inl f ↦ cc | inr f ↦ cc ] ]

-- `default` and so many families of two letters each
abbrev named_families : ℕ → List (List ℕ × ModelFamily)
named_families zero = (default_family, new_family 0) ∷ []
named_families (suc n) = ((97 + n / 26) ∷ (97 + n % 26) ∷ [], new_family (n + 1)) ∷ named_families n

abbrev full_of_families : ℕ → ModelState
full_of_families n = record start { families = named_families n; next_family = n + 1 }

abbrev row_26_family : Reply → List (List Call)
row_26_family answer = calls_of (command.MakeFamily (codes "zz") ∷ []) ([] ∷ []) ((cond (is_made answer) 1 0, answer) ∷ []) ∷ []
  where
    is_made : Reply → Bool
    is_made reply.Made = true
    is_made other = false

row_26_family-legal : IsLegal (full_of_families 63) capacity (row_26_family (reply.Refused refusal.FamiliesFull)) 0 false
unfolding digits
row_26_family-legal = legal_by (full_of_families 63) capacity (row_26_family (reply.Refused refusal.FamiliesFull)) 0 false refl refl tt (inl refl, tt)

row_26_family-full : ¬ IsLegal (full_of_families 63) capacity (row_26_family reply.Made) 0 false
row_26_family-full h = elim h.accepted.0 [ inl e ↦ cc | inr e ↦ elim e [ inl f ↦ cc | inr f ↦ cc ] ]

-- with one family less it is made
row_26_family-made : IsLegal (full_of_families 62) capacity (row_26_family reply.Made) 0 false
unfolding digits
row_26_family-made = legal_by (full_of_families 62) capacity (row_26_family reply.Made) 0 false refl refl (inl refl, tt) (tt, tt)

-- where 1,024 snapshots live, no further one is taken
abbrev snap : Asked
snap = record { command = command.Snap (codes "s"); files = []; snapshot = None }

row_26_snapshots : (state : ModelState) → length state.live ≡ 1024 → IsReply state capacity snap (reply.Refused refusal.SnapshotsFull)
row_26_snapshots state e = sym (by (length state.live) e)
  where
    by : (n : ℕ) → n ≡ 1024 → first_or (cond (nat_le 1024 n) (refusal.SnapshotsFull ∷ []) [] ++ cond (nat_le 72057594037927935 state.place) (refusal.NumbersSpent ∷ []) []) (reply.Snapshot state.last) ≡ reply.Refused refusal.SnapshotsFull
    by n e = ap (λ m. first_or (cond (nat_le 1024 m) (refusal.SnapshotsFull ∷ []) [] ++ cond (nat_le 72057594037927935 state.place) (refusal.NumbersSpent ∷ []) []) (reply.Snapshot state.last)) e

row_26_snapshots-taken : (state : ModelState) (number : ℕ) → length state.live ≡ 1024 → IsReply state capacity snap (reply.Snapshot number) → ⊥
row_26_snapshots-taken state number e h = let other : reply.Snapshot number ≡ reply.Refused refusal.SnapshotsFull = h ∙ sym (row_26_snapshots state e) in cc

-- ---- a second run on the same disk

abbrev row_21 : ℕ → List (List Call)
row_21 number =
    calls_of (get a ∷ ingest plain one ∷ get a ∷ []) ([] ∷ (table a (codes "2") ∷ []) ∷ [] ∷ [])
    ((0, value (codes "1")) ∷ (1, ingested (at 7 0 number)) ∷ (1, value (codes "2")) ∷ []) ∷ []

row_21-legal : IsLegal (again (written (codes "1") ∷ [])) capacity (row_21 2) 0 false
unfolding digits
row_21-legal = legal_by (again (written (codes "1") ∷ [])) capacity (row_21 2) 0 false refl refl
    (ingested_by _ _ _ _ refl, tt)
    (refl, (tt, (refl, tt)))

-- the key is known from the first run, and reads a value, so the file can't keep number 0
row_21-number : ¬ IsLegal (again (written (codes "1") ∷ [])) capacity (row_21 0) 0 false
row_21-number h = let read = (h.accepted.0.placed_rightly.0.1.0.early refl).reads_none.0.0 in cc

-- ---- long transcripts: a read is cut from 16,777,216 bytes on, one byte earlier it isn't

abbrev read_call : Reply → Call
read_call answer = record { asked = record { command = get a; files = []; snapshot = None }; place = 0; reply = answer }

abbrev write_call : Reply → Call
write_call answer = record { asked = record { command = put a (codes "1"); files = []; snapshot = None }; place = 1; reply = answer }

cut_at : (bytes n : ℕ) (call : Call) → bytes ≡ n → IsCut n call → IsCut bytes call
cut_at bytes n call e h = subst (λ m. IsCut m call) (sym e) h

row_long-read : (calls : List Call) → printed_length calls ≡ 16777216 → IsCut (printed_length calls) (read_call reply.Long)
row_long-read calls e = cut_at (printed_length calls) 16777216 (read_call reply.Long) e refl

row_long-answered : (calls : List Call) → printed_length calls ≡ 16777216 → IsCut (printed_length calls) (read_call reply.Nothing) → ⊥
row_long-answered calls e h = true≢false (sym (subst (λ m. IsCut m (read_call reply.Nothing)) e h))

row_long-early : (calls : List Call) → printed_length calls ≡ 16777215 → IsCut (printed_length calls) (read_call reply.Long) → ⊥
row_long-early calls e h = true≢false (subst (λ m. IsCut m (read_call reply.Long)) e h)

row_long-before : (calls : List Call) → printed_length calls ≡ 16777215 → IsCut (printed_length calls) (read_call reply.Nothing)
row_long-before calls e = cut_at (printed_length calls) 16777215 (read_call reply.Nothing) e refl

-- a write goes on
row_long-write : (calls : List Call) → printed_length calls ≡ 16777216 → IsCut (printed_length calls) (write_call (reply.Written 1))
row_long-write calls e = cut_at (printed_length calls) 16777216 (write_call (reply.Written 1)) e refl
