-- Worked rows on files that are taken in, as transcripts: each is legal, and not with one thing changed.
use Rattle.std.proofs.Common.{ℕ, false, List, [], ◌∷◌, Some, None, refl, ap, inl, arith, codes}
use Rattle.std.specs.Fmt.{digits}
use Rattle.st_base.specs.declared.faults.TableFault.TheVariants.{Magic}
use Rattle.std.proofs.lemmas.Bool.{true≢false}
use Rattle.st_model.specs.declared.command.Call.{Call}
use Rattle.st_model.specs.declared.command.Command.TheVariants as command
use Rattle.st_model.specs.declared.command.FileSeen.{FileSeen}
use Rattle.st_model.specs.declared.command.FileSeen.TheVariants.{Bad, Table}
use Rattle.st_model.specs.declared.refusal.Refusal.TheVariants as refusal
use Rattle.st_model.specs.declared.reply.Reply.{Reply}
use Rattle.st_model.specs.declared.reply.Reply.TheVariants as reply
use Rattle.st_model.specs.Calls.{calls_of}
use Rattle.st_model.specs.Legal.{IsLegal}
use Rattle.model_laws.proofs.Lawful.{legal_by}
use Rattle.model_laws.proofs.PlacedBy.{ingested_by}
use Rattle.model_laws.proofs.RowWords.{start, capacity, d, k, put, del, get, get_at, into, one, two, ingest, plain, snapshots_no, flush_no, put_entry, del_entry, table, x, y, k_2, value, at, ingested, file_at, only, is_value, is_bad_in}

-- ---- a file in an empty store: its pair and its tombstone are read

abbrev a_b : FileSeen
a_b = Table (put_entry (codes "a") (codes "1") ∷ del_entry (codes "b") ∷ [])

abbrev row_5 : Reply → List (List Call)
row_5 answer =
    calls_of (ingest plain one ∷ get (codes "a") ∷ get (codes "b") ∷ [])
    ((a_b ∷ []) ∷ [])
    ((1, answer) ∷ (1, value (codes "1")) ∷ (1, reply.Nothing) ∷ [])
    ∷ []

row_5-legal : IsLegal start capacity (row_5 (ingested (at 4 6 0))) 0 false
unfolding digits
row_5-legal = legal_by start capacity (row_5 (ingested (at 4 6 0))) 0 false refl refl
    (ingested_by _ _ _ _ refl, tt)
    (tt, (refl, (refl, tt)))

-- it isn't numbered: no key was known
row_5-number : ¬ IsLegal start capacity (row_5 (ingested (at 4 6 1))) 0 false
row_5-number h =
    let caused = h.accepted.0.placed_rightly.0.1.0.caused in
    let no = caused (omega arith) in cc

-- ---- a file that meets a memtable: it is refused without a flush, and numbered behind the write

abbrev row_6 : Reply → List (List Call)
row_6 answer =
    calls_of (put k (codes "1") ∷ ingest flush_no one ∷ get k ∷ ingest plain one ∷ get k ∷ [])
    ([] ∷ (k_2 ∷ []) ∷ [] ∷ (k_2 ∷ []) ∷ [])
    (
    (1, reply.Written 1)
    ∷ (1, reply.Refused (refusal.FlushNeeded (file_at 1 1) k))
    ∷ (1, value (codes "1"))
    ∷ (2, answer)
    ∷ (2, value (codes "2"))
    ∷ []
    )
    ∷ []

row_6-legal : IsLegal start capacity (row_6 (ingested (at 5 0 2))) 0 false
unfolding digits
row_6-legal = legal_by start capacity (row_6 (ingested (at 5 0 2))) 0 false refl refl
    (inl refl, (ingested_by _ _ _ _ refl, tt))
    (tt, ((refl, tt), (refl, (tt, (refl, tt)))))

-- its number is the next one
row_6-number : ¬ IsLegal start capacity (row_6 (ingested (at 5 0 3))) 0 false
row_6-number h =
    let next = h.accepted.1.0.placed_rightly.0.0.0 in
    omega (arith, next)

-- ---- two files of one argument that meet are both numbered, and the later covers the earlier

abbrev row_7 : Reply → Reply → List (List Call)
row_7 answer read =
    calls_of (ingest plain two ∷ get (codes "b") ∷ [])
    ((x ∷ y ∷ []) ∷ [])
    ((1, answer) ∷ (1, read) ∷ [])
    ∷ []

abbrev two_numbers : ℕ → Reply
two_numbers number = reply.Ingested (at 4 6 1 ∷ at 5 5 number ∷ [])

row_7-legal : IsLegal start capacity (row_7 (two_numbers 2) (value (codes "2"))) 0 false
unfolding digits
row_7-legal = legal_by start capacity (row_7 (two_numbers 2) (value (codes "2"))) 0 false refl refl
    (ingested_by _ _ _ _ refl, tt)
    (tt, (refl, tt))

-- they don't share a number
row_7-number : ¬ IsLegal start capacity (row_7 (two_numbers 1) (value (codes "2"))) 0 false
row_7-number h =
    let next = h.accepted.0.placed_rightly.0.0.1.0 in
    omega (arith, next)

-- the earlier one isn't read
row_7-value : ¬ IsLegal start capacity (row_7 (two_numbers 2) (value (codes "1"))) 0 false
row_7-value h = true≢false (ap (is_value (codes "1")) h.answered.1.0)

-- ---- a request over three families is one step, which another client awaits

abbrev p : List ℕ
p = codes "p"

abbrev q : List ℕ
q = codes "q"

abbrev k_1 : FileSeen
k_1 = table k (codes "1")

abbrev three_files : Reply
three_files = reply.Ingested (at 4 6 0 ∷ at 5 6 0 ∷ at 6 6 0 ∷ [])

abbrev all_one : Reply
all_one = reply.View (Some (codes "1") ∷ Some (codes "1") ∷ Some (codes "1") ∷ [])

abbrev row_8 : ℕ → List (List Call)
row_8 place =
    calls_of
    (command.MakeFamily p ∷ command.MakeFamily q ∷ command.Ingest (into d plain one ∷ into p plain one ∷ into q plain one ∷ []) ∷ [])
    ([] ∷ [] ∷ (k_1 ∷ k_1 ∷ k_1 ∷ []) ∷ [])
    ((1, reply.Made) ∷ (2, reply.Made) ∷ (3, three_files) ∷ [])
    ∷ calls_of (command.Await 1 3 ∷ command.View ((d, k) ∷ (p, k) ∷ (q, k) ∷ []) ∷ []) []
    ((place, reply.Await) ∷ (3, all_one) ∷ [])
    ∷ []

row_8-legal : IsLegal start capacity (row_8 3) 0 false
unfolding digits
row_8-legal = legal_by start capacity (row_8 3) 0 false refl refl
    (inl refl, (inl refl, (ingested_by _ _ _ _ refl, tt)))
    (tt, (tt, (tt, (tt, (refl, tt)))))

-- the await stands at the ingestion's place
row_8-place : ¬ IsLegal start capacity (row_8 2) 0 false
row_8-place h = let reached = h.awaits.1.1.1.0.1 in omega (arith, reached)

-- ---- one faulty file refuses the whole request

abbrev row_9 : Reply → List (List Call)
row_9 answer =
    calls_of
    (
    command.MakeFamily p
    ∷ command.MakeFamily q
    ∷ command.Ingest (into d plain one ∷ into p plain one ∷ into q plain one ∷ [])
    ∷ command.View ((d, k) ∷ (p, k) ∷ (q, k) ∷ [])
    ∷ []
    )
    ([] ∷ [] ∷ (k_1 ∷ k_1 ∷ Bad Magic ∷ []) ∷ [])
    ((1, reply.Made) ∷ (2, reply.Made) ∷ (2, answer) ∷ (2, reply.View (None ∷ None ∷ None ∷ [])) ∷ [])
    ∷ []

row_9-legal : IsLegal start capacity (row_9 (reply.Refused (refusal.BadTable (file_at 3 1) Magic))) 0 false
unfolding digits
row_9-legal = legal_by start capacity (row_9 (reply.Refused (refusal.BadTable (file_at 3 1) Magic))) 0 false refl refl
    (inl refl, (inl refl, tt))
    (tt, (tt, (((0, omega arith, refl), (refl, tt)), (refl, tt))))

-- the file of the second argument isn't the faulty one
row_9-refusal : ¬ IsLegal start capacity (row_9 (reply.Refused (refusal.BadTable (file_at 2 1) Magic))) 0 false
row_9-refusal h =
    true≢false (ap (is_bad_in 3) (only (refusal.BadTable (file_at 3 1) Magic) (refusal.BadTable (file_at 2 1) Magic) h.answered.1.1.0.0))

-- ---- a numbered file isn't seen by an earlier snapshot

abbrev row_10 : Reply → List (List Call)
row_10 read =
    calls_of (put k (codes "1") ∷ command.Snap (codes "s") ∷ ingest plain one ∷ get_at (codes "s") k ∷ get k ∷ [])
    ([] ∷ [] ∷ (k_2 ∷ []) ∷ [])
    (
    (1, reply.Written 1)
    ∷ (2, reply.Snapshot 1)
    ∷ (3, ingested (at 4 0 2))
    ∷ (3, read)
    ∷ (3, value (codes "2"))
    ∷ []
    )
    ∷ []

row_10-legal : IsLegal start capacity (row_10 (value (codes "1"))) 0 false
unfolding digits
row_10-legal = legal_by start capacity (row_10 (value (codes "1"))) 0 false refl refl
    (inl refl, (refl, (ingested_by _ _ _ _ refl, tt)))
    (tt, (tt, (tt, (refl, (refl, tt)))))

-- the snapshot reads what it read before
row_10-value : ¬ IsLegal start capacity (row_10 (value (codes "2"))) 0 false
row_10-value h = true≢false (ap (is_value (codes "2")) h.answered.1.1.1.0)

-- ---- where consistency is waived, an earlier snapshot sees the file; else the file is numbered

abbrev z_9 : FileSeen
z_9 = table (codes "z") (codes "9")

abbrev row_11 : Reply → List (List Call)
row_11 answer =
    calls_of
    (
    command.Snap (codes "s")
    ∷ ingest snapshots_no one
    ∷ get_at (codes "s") k
    ∷ ingest plain one
    ∷ get_at (codes "s") (codes "z")
    ∷ get (codes "z")
    ∷ []
    )
    ([] ∷ (k_2 ∷ []) ∷ [] ∷ (z_9 ∷ []) ∷ [])
    (
    (1, reply.Snapshot 0)
    ∷ (2, ingested (at 4 6 0))
    ∷ (2, value (codes "2"))
    ∷ (3, answer)
    ∷ (3, reply.Nothing)
    ∷ (3, value (codes "9"))
    ∷ []
    )
    ∷ []

row_11-legal : IsLegal start capacity (row_11 (ingested (at 5 6 1))) 0 false
unfolding digits
row_11-legal = legal_by start capacity (row_11 (ingested (at 5 6 1))) 0 false refl refl
    (refl, (ingested_by _ _ _ _ refl, (ingested_by _ _ _ _ refl, tt)))
    (tt, (tt, (refl, (tt, (refl, (refl, tt))))))

-- without a number the snapshot would see it
row_11-number : ¬ IsLegal start capacity (row_11 (ingested (at 5 6 0))) 0 false
row_11-number h =
    let some = h.accepted.1.1.0.placed_rightly.0.1.0.sure refl in
    omega (arith, some)

-- ---- a compaction drops the tombstone, and the file needs no number

abbrev row_12 : Reply → List (List Call)
row_12 answer =
    calls_of (put k (codes "1") ∷ del k ∷ command.Compact d ∷ ingest plain one ∷ get k ∷ [])
    ([] ∷ [] ∷ [] ∷ (k_2 ∷ []) ∷ [])
    (
    (1, reply.Written 1)
    ∷ (2, reply.Written 2)
    ∷ (2, reply.Compacted)
    ∷ (3, answer)
    ∷ (3, value (codes "2"))
    ∷ []
    )
    ∷ []

row_12-legal : IsLegal start capacity (row_12 (ingested (at 5 6 0))) 0 false
unfolding digits
row_12-legal = legal_by start capacity (row_12 (ingested (at 5 6 0))) 0 false refl refl
    (inl refl, (inl refl, (ingested_by _ _ _ _ refl, tt)))
    (tt, (tt, (inl refl, (tt, (refl, tt)))))

-- no file goes below the lowest level
row_12-level : ¬ IsLegal start capacity (row_12 (ingested (at 5 7 0))) 0 false
row_12-level h =
    let within = h.accepted.1.1.0.placed_rightly.0.1.0.level in
    omega (arith, within)
