-- Worked rows of a store that takes files in behind.
use Rattle.std.proofs.Common.{ℕ, false, List, [], ◌∷◌, Some, None, refl, ap, inl, arith, codes}
use Rattle.std.specs.Fmt.{digits}
use Rattle.st_base.specs.declared.entry.KeyRange.{KeyRange}
use Rattle.std.proofs.lemmas.Bool.{true≢false}
use Rattle.st_model.specs.declared.command.Call.{Call}
use Rattle.st_model.specs.declared.command.Command.TheVariants as command
use Rattle.st_model.specs.declared.command.FileSeen.{FileSeen}
use Rattle.st_model.specs.declared.command.FileSeen.TheVariants.{Table}
use Rattle.st_model.specs.declared.refusal.Refusal.TheVariants as refusal
use Rattle.st_model.specs.declared.refusal.Why.TheVariants as why
use Rattle.st_model.specs.declared.reply.Reply.{Reply}
use Rattle.st_model.specs.declared.reply.Reply.TheVariants as reply
use Rattle.st_model.specs.Calls.{calls_of}
use Rattle.st_model.specs.Legal.{IsLegal}
use Rattle.model_laws.proofs.Lawful.{legal_by}
use Rattle.model_laws.proofs.PlacedBy.{ingested_by}
use Rattle.model_laws.proofs.RowWords.{start_behind, capacity, d, put, del, one, two, ingest, global_no, behind_yes, put_entry, table, x, y, at, ingested, file_at, only, is_cause_of}

-- ---- a file behind fills what no put and no tombstone covers

abbrev a_b_c : FileSeen
a_b_c = Table (put_entry (codes "a") (codes "9") ∷ put_entry (codes "b") (codes "9") ∷ put_entry (codes "c") (codes "9") ∷ [])

abbrev c_8 : FileSeen
c_8 = table (codes "c") (codes "8")

abbrev a_to_c : KeyRange
a_to_c = record { first = codes "a"; last = codes "c" }

abbrev row_13 : Reply → List (List Call)
row_13 view =
    calls_of
    (
    put (codes "a") (codes "1")
    ∷ del (codes "b")
    ∷ ingest behind_yes one
    ∷ command.View ((d, codes "a") ∷ (d, codes "b") ∷ (d, codes "c") ∷ [])
    ∷ ingest behind_yes one
    ∷ []
    )
    ([] ∷ [] ∷ (a_b_c ∷ []) ∷ [] ∷ (c_8 ∷ []) ∷ [])
    (
    (1, reply.Written 1)
    ∷ (2, reply.Written 2)
    ∷ (3, ingested (at 4 6 0))
    ∷ (3, view)
    ∷ (3, reply.Refused (refusal.BehindDoesNotFit (file_at 1 1) a_to_c))
    ∷ []
    )
    ∷ []

-- the values of `a`, `b` and `c`
abbrev one_none_nine : Reply
one_none_nine = reply.View (Some (codes "1") ∷ None ∷ Some (codes "9") ∷ [])

row_13-legal : IsLegal start_behind capacity (row_13 one_none_nine) 0 false
unfolding digits
row_13-legal = legal_by start_behind capacity (row_13 one_none_nine) 0 false refl refl
    (inl refl, (inl refl, (ingested_by _ _ _ _ refl, tt)))
    (tt, (tt, (tt, (refl, (((0, omega arith, refl), (refl, tt)), tt)))))

-- it doesn't show through a tombstone
row_13-value : ¬ IsLegal start_behind capacity (row_13 (reply.View (Some (codes "1") ∷ Some (codes "9") ∷ Some (codes "9") ∷ []))) 0 false
row_13-value h = let read = h.answered.1.1.1.0 in cc

-- ---- no file goes behind while a snapshot lives

abbrev row_14 : ℕ → List (List Call)
row_14 number =
    calls_of
    (
    command.Snap (codes "s")
    ∷ ingest behind_yes one
    ∷ command.Release (codes "s")
    ∷ ingest behind_yes one
    ∷ []
    )
    ([] ∷ (a_b_c ∷ []) ∷ [] ∷ (a_b_c ∷ []) ∷ [])
    (
    (1, reply.Snapshot 0)
    ∷ (1, reply.Refused (refusal.SnapshotsLive 1 number))
    ∷ (2, reply.Released)
    ∷ (3, ingested (at 5 6 0))
    ∷ []
    )
    ∷ []

row_14-legal : IsLegal start_behind capacity (row_14 0) 0 false
unfolding digits
row_14-legal = legal_by start_behind capacity (row_14 0) 0 false refl refl
    (refl, (refl, (ingested_by _ _ _ _ refl, tt)))
    (tt, (((0, omega arith, refl), (refl, tt)), (tt, (tt, tt))))

-- the lowest live number is 0
row_14-number : ¬ IsLegal start_behind capacity (row_14 1) 0 false
row_14-number h =
    let e = only (refusal.SnapshotsLive 1 0) (refusal.SnapshotsLive 1 1) h.answered.1.0.0 in cc

-- ---- two files that meet go behind in no order, and want numbers elsewhere

abbrev row_23 : ℕ → ℕ → List (List Call)
row_23 i j =
    calls_of (ingest behind_yes two ∷ ingest global_no two ∷ [])
    ((x ∷ y ∷ []) ∷ (x ∷ y ∷ []) ∷ [])
    (
    (0, reply.Refused (refusal.FilesMeet (file_at 1 1) 2))
    ∷ (0, reply.Refused (refusal.NeedsSequence (file_at 1 1) (why.Files i j)))
    ∷ []
    )
    ∷ []

row_23-legal : IsLegal start_behind capacity (row_23 1 2) 0 false
unfolding digits
row_23-legal = legal_by start_behind capacity (row_23 1 2) 0 false refl refl
    tt
    (((0, omega arith, refl), (refl, tt)), ((refl, (refl, tt)), tt))

-- the earlier of the two is named first
row_23-refusal : ¬ IsLegal start_behind capacity (row_23 2 1) 0 false
row_23-refusal h = true≢false (ap (is_cause_of 1) h.answered.1.0.0)
