-- Worked rows on awaits, refusals, scans, families and causes.
use Rattle.std.proofs.Common.{ℕ, false, List, [], ◌∷◌, refl, ap, inl, inr, arith, codes}
use Rattle.std.specs.Fmt.{digits}
use Rattle.st_model.specs.declared.change.Op.TheVariants as op
use Rattle.std.proofs.lemmas.Bool.{true≢false}
use Rattle.st_model.specs.declared.command.Call.{Call}
use Rattle.st_model.specs.declared.command.Command.{Command}
use Rattle.st_model.specs.declared.command.Command.TheVariants as command
use Rattle.st_model.specs.declared.command.FileSeen.{FileSeen}
use Rattle.st_model.specs.declared.command.FileSeen.TheVariants.{Missing, Table}
use Rattle.st_model.specs.declared.refusal.Refusal.{Refusal}
use Rattle.st_model.specs.declared.refusal.Refusal.TheVariants as refusal
use Rattle.st_model.specs.declared.refusal.Why.{Why}
use Rattle.st_model.specs.declared.refusal.Why.TheVariants as why
use Rattle.st_model.specs.declared.reply.Reply.{Reply}
use Rattle.st_model.specs.declared.reply.Reply.TheVariants as reply
use Rattle.st_model.specs.Calls.{calls_of}
use Rattle.st_model.specs.Legal.{IsLegal}
use Rattle.model_laws.proofs.Lawful.{legal_by}
use Rattle.model_laws.proofs.PlacedBy.{ingested_by}
use Rattle.model_laws.proofs.RowWords.{start, capacity, d, k, put, get, into, one, ingest, plain, global_no, behind_yes, bottom_yes, put_entry, k_2, value, at, ingested, file_at, only, is_cause_of}

-- ---- two clients that await each other in turn

abbrev row_18 : Reply → List (List Call)
row_18 read =
    calls_of (put (codes "a") (codes "1") ∷ command.Await 2 2 ∷ get (codes "b") ∷ []) []
    ((1, reply.Written 1) ∷ (2, reply.Await) ∷ (2, read) ∷ [])
    ∷ calls_of (command.Await 1 1 ∷ put (codes "b") (codes "2") ∷ []) []
    ((1, reply.Await) ∷ (2, reply.Written 2) ∷ [])
    ∷ []

row_18-legal : IsLegal start capacity (row_18 (value (codes "2"))) 0 false
unfolding digits
row_18-legal = legal_by start capacity (row_18 (value (codes "2"))) 0 false refl refl
    (inl refl, (inl refl, tt))
    (tt, (tt, (refl, (tt, (tt, tt)))))

-- a read after the await isn't stale
row_18-value : ¬ IsLegal start capacity (row_18 reply.Nothing) 0 false
row_18-value h = let read = h.answered.1.1.0 in cc

-- ---- requests that are refused by their shape, families and files

abbrev refused : ℕ → Refusal → ℕ × Reply
refused place refusal = (place, reply.Refused refusal)

abbrev row_19 : Refusal → List (List Call)
row_19 third =
    calls_of
    (
    command.Ingest []
    ∷ command.Ingest (into (codes "p") plain [] ∷ [])
    ∷ command.Ingest (into d plain one ∷ into d plain one ∷ [])
    ∷ command.Ingest (into d plain one ∷ into (codes "p") plain one ∷ [])
    ∷ ingest plain (codes "no.sst" ∷ [])
    ∷ ingest behind_yes one
    ∷ get k
    ∷ []
    )
    ([] ∷ [] ∷ (k_2 ∷ k_2 ∷ []) ∷ (k_2 ∷ k_2 ∷ []) ∷ (Missing ∷ []) ∷ (k_2 ∷ []) ∷ [])
    (
    refused 0 refusal.EmptyRequest
    ∷ refused 0 (refusal.NoFiles 1)
    ∷ refused 0 third
    ∷ refused 0 (refusal.UnknownFamily (codes "p"))
    ∷ refused 0 (refusal.FileMissing (file_at 1 1))
    ∷ refused 0 (refusal.BehindNotEnabled 1)
    ∷ (0, reply.Nothing)
    ∷ []
    )
    ∷ []

row_19-legal : IsLegal start capacity (row_19 (refusal.FamilyTwice 2)) 0 false
unfolding digits
row_19-legal = legal_by start capacity (row_19 (refusal.FamilyTwice 2)) 0 false refl refl
    tt
    (((0, omega arith, refl), (refl, tt)), (((0, omega arith, refl), (refl, tt)), (((0, omega arith, refl), (refl, tt)), (((0, omega arith, refl), (refl, tt)), (((0, omega arith, refl), (refl, tt)), (((0, omega arith, refl), (refl, tt)), (refl, tt)))))))

-- the second argument is the one that names a family again
row_19-refusal : ¬ IsLegal start capacity (row_19 (refusal.FamilyTwice 1)) 0 false
row_19-refusal h =
    let e = only (refusal.FamilyTwice 2) (refusal.FamilyTwice 1) h.answered.1.1.0.0 in cc

-- ---- a known key stands in a file's way

abbrev row_22 : List ℕ → ℕ → List (List Call)
row_22 key level =
    calls_of (put k (codes "1") ∷ ingest global_no one ∷ ingest bottom_yes one ∷ [])
    ([] ∷ (k_2 ∷ []) ∷ (k_2 ∷ []) ∷ [])
    (
    (1, reply.Written 1)
    ∷ refused 1 (refusal.NeedsSequence (file_at 1 1) (why.Key key))
    ∷ refused 1 (refusal.NotLastLevel (file_at 1 1) level (why.Key k))
    ∷ []
    )
    ∷ []

row_22-legal : IsLegal start capacity (row_22 k 0) 0 false
unfolding digits
row_22-legal = legal_by start capacity (row_22 k 0) 0 false refl refl
    (inl refl, tt)
    (tt, (((refl, refl), tt), ((refl, tt), tt)))

-- no other key is known
row_22-refusal : ¬ IsLegal start capacity (row_22 (codes "j") 0) 0 false
row_22-refusal h = let e = h.answered.1.0.0.1 in cc

-- the lowest level is none at which a file is refused
row_22-level : ¬ IsLegal start capacity (row_22 k 6) 0 false
row_22-level h = let e = h.answered.1.1.0.0 in cc

-- ---- a live snapshot stands in its way

abbrev row_22_snapshot : ℕ → List (List Call)
row_22_snapshot number =
    calls_of (command.Snap (codes "s") ∷ ingest global_no one ∷ [])
    ([] ∷ (k_2 ∷ []) ∷ [])
    ((1, reply.Snapshot 0) ∷ refused 1 (refusal.NeedsSequence (file_at 1 1) (why.Snapshot number)) ∷ [])
    ∷ []

row_22_snapshot-legal : IsLegal start capacity (row_22_snapshot 0) 0 false
unfolding digits
row_22_snapshot-legal = legal_by start capacity (row_22_snapshot 0) 0 false refl refl
    (refl, tt)
    (tt, ((refl, (refl, tt)), tt))

row_22_snapshot-number : ¬ IsLegal start capacity (row_22_snapshot 1) 0 false
row_22_snapshot-number h = true≢false (ap (is_cause_of 0) h.answered.1.0.0)

-- ---- batches, scans, snapshots, flushes and families

abbrev batch : Command
batch = command.Write (record { ops = op.Put d (codes "a") (codes "1") ∷ op.Del d (codes "b") ∷ op.Put d (codes "c") (codes "3") ∷ [] })

abbrev scan : List ℕ → List ℕ → ℕ → Command
scan first last limit = command.Scan d first last limit

abbrev a_1 : List ℕ × List ℕ
a_1 = (codes "a", codes "1")

abbrev c_3 : List ℕ × List ℕ
c_3 = (codes "c", codes "3")

abbrev row_24 : Reply → Refusal → List (List Call)
row_24 scanned dropped =
    calls_of
    (
    batch
    ∷ scan (codes "a") (codes "z") 10
    ∷ scan (codes "a") (codes "z") 1
    ∷ scan (codes "d") (codes "z") 5
    ∷ command.Snap (codes "s")
    ∷ command.Write (record { ops = op.Del d (codes "a") ∷ [] })
    ∷ command.ScanAt (codes "s") d (codes "a") (codes "b") 9
    ∷ command.Flush d
    ∷ command.Get (codes "p") (codes "a")
    ∷ command.DropFamily d
    ∷ command.MakeFamily d
    ∷ []
    )
    []
    (
    (1, reply.Written 3)
    ∷ (1, scanned)
    ∷ (1, reply.Pairs (a_1 ∷ []))
    ∷ (1, reply.Pairs [])
    ∷ (2, reply.Snapshot 3)
    ∷ (3, reply.Written 4)
    ∷ (3, reply.Pairs (a_1 ∷ []))
    ∷ (3, reply.Flushed)
    ∷ refused 3 (refusal.UnknownFamily (codes "p"))
    ∷ refused 3 dropped
    ∷ refused 3 (refusal.FamilyExists d)
    ∷ []
    )
    ∷ []

row_24-legal : IsLegal start capacity (row_24 (reply.Pairs (a_1 ∷ c_3 ∷ [])) refusal.DefaultStays) 0 false
unfolding digits
row_24-legal = legal_by start capacity (row_24 (reply.Pairs (a_1 ∷ c_3 ∷ [])) refusal.DefaultStays) 0 false refl refl
    (inl refl, (refl, (inl refl, tt)))
    (tt, (refl, (refl, (refl, (tt, (tt, (refl, (inl refl, (refl, (inl refl, (inl refl, tt)))))))))))

-- a scan leaves no pair out
row_24-value : ¬ IsLegal start capacity (row_24 (reply.Pairs (a_1 ∷ [])) refusal.DefaultStays) 0 false
row_24-value h = let read = h.answered.1.0 in cc

-- `default` stays for its own reason
row_24-refusal : ¬ IsLegal start capacity (row_24 (reply.Pairs (a_1 ∷ c_3 ∷ [])) (refusal.UnknownFamily d)) 0 false
row_24-refusal h =
    elim h.answered.1.1.1.1.1.1.1.1.1.0 [ inl e ↦ cc | inr e ↦ elim e [ inl f ↦ cc | inr f ↦ cc ] ]

-- ---- a table of the lowest level meets a file whose keys are none of its own

abbrev a_z : FileSeen
a_z = Table (put_entry (codes "a") (codes "1") ∷ put_entry (codes "z") (codes "1") ∷ [])

abbrev a_to_z : Why
a_to_z = why.Meets (record { first = codes "a"; last = codes "z" })

abbrev row_27 : ℕ → List (List Call)
row_27 number =
    calls_of (ingest plain one ∷ ingest bottom_yes one ∷ ingest global_no one ∷ get k ∷ [])
    ((a_z ∷ []) ∷ (k_2 ∷ []) ∷ (k_2 ∷ []) ∷ [])
    (
    (1, ingested (at 4 6 0))
    ∷ refused 1 (refusal.NotLastLevel (file_at 1 1) 5 a_to_z)
    ∷ (2, ingested (at 6 5 number))
    ∷ (2, value (codes "2"))
    ∷ []
    )
    ∷ []

row_27-legal : IsLegal start capacity (row_27 0) 0 false
unfolding digits
row_27-legal = legal_by start capacity (row_27 0) 0 false refl refl
    (ingested_by _ _ _ _ refl, (ingested_by _ _ _ _ refl, tt))
    (tt, ((refl, tt), (tt, (refl, tt))))

-- it may take no number
row_27-number : ¬ IsLegal start capacity (row_27 1) 0 false
row_27-number h = let no = h.accepted.1.0.placed_rightly.0.1.0.allowed (omega arith) in cc
