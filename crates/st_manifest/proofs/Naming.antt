-- The edits of whole groups name what their records name.
use Rattle.std.proofs.Common.{◌≡◌, ℕ, Bool, true, false, cond, List, [], ◌∷◌, ◌++◌, Option, Some, None, Result, Ok, Err, refl, sym, ◌∙◌, ap}
use Rattle.std.specs.Prelude.{◌==◌}
use Rattle.manifest_edits.specs.Edits.{Edit, GroupRecord, ManifestReading, Named, edited_all, edited_by, edits_of, ends_with_last, follows_in_group, group_closed, manifest_reading_none, named_none, read_records}
use Rattle.manifest_edits.proofs.Cut.{edited_append, then_edits}
use Rattle.manifest_edits.proofs.Reading.{assoc_one, reading_of}
use Rattle.st_manifest.specs.Laws.{ReplayedNameThat}
use Rattle.st_manifest.specs.Manifest.{edits_or_damage, whole_records}
use Rattle.st_manifest.proofs.Atomic.{edits_append}

-- record by record, or all at once
edits_in_order : (named after : Named) (records : List GroupRecord) → edited_by named records ≡ Ok after → edited_all named (edits_of records) ≡ Some after
edits_in_order named after [] is = some_of (cc is)
  where
    some_of : named ≡ after → ◌≡◌ {A = Option Named} (Some named) (Some after)
    some_of same = ap (λ (n : Named). Some n) same
edits_in_order named after (one ∷ records) is =
    edited_append named one.edits (edits_of records) ∙ go (edited_all named one.edits) (λ next e. edits_in_order next after records e) is
  where
    go : (found : Option Named) → ((next : Named) → edited_by next records ≡ Ok after → edited_all next (edits_of records) ≡ Some after)
        → ◌≡◌ {A = Result Named ℕ} (elim found [ None ↦ Err one.at | Some next ↦ edited_by next records ]) (Ok after) → then_edits found (edits_of records) ≡ Some after
    go None inner e = absurd (cc e)
    go (Some next) inner e = inner next e

-- a whole group, and edits behind it
behind_group : (named after : Named) (begun : List GroupRecord) (next : GroupRecord) (more : List GroupRecord) → edited_by named (begun ++ next ∷ []) ≡ Ok after
    → edited_all named (edits_of (begun ++ next ∷ more)) ≡ edited_all after (edits_of more)
behind_group named after begun next more is =
    ap (λ (l : List GroupRecord). edited_all named (edits_of l)) (sym (assoc_one begun next more))
    ∙ ap (λ (l : List Edit). edited_all named l) (edits_append (begun ++ next ∷ []) more)
    ∙ edited_append named (edits_of (begun ++ next ∷ [])) (edits_of more)
    ∙ ap (λ (found : Option Named). then_edits found (edits_of more)) (edits_in_order named after (begun ++ next ∷ []) is)

named_so : (named : Named) (begun records : List GroupRecord) (after : ManifestReading) → read_records (reading_of named begun) records ≡ Ok after
    → edited_all named (edits_of (whole_records begun records)) ≡ Some after.named
named_so named begun [] after is = some_of (cc is)
  where
    some_of : reading_of named begun ≡ after → ◌≡◌ {A = Option Named} (Some named) (Some after.named)
    some_of same = ap (λ (r : ManifestReading). named_of r) same
      where
        named_of : ManifestReading → Option Named
        named_of r = Some r.named
named_so named begun (next ∷ records) after is =
    go (follows_in_group begun next) (next.left == 0) (edited_by named (begun ++ next ∷ [])) refl (ends_with_last (edits_of (begun ++ next ∷ [])))
    (λ other e. named_so other [] records after e) (λ e. named_so named (begun ++ next ∷ []) records after e) is
  where
    go : (follows ends : Bool) (so_far : Result Named ℕ) → edited_by named (begun ++ next ∷ []) ≡ so_far → (last : Bool)
        → ((other : Named) → read_records (reading_of other []) records ≡ Ok after → edited_all other (edits_of (whole_records [] records)) ≡ Some after.named)
        → (read_records (reading_of named (begun ++ next ∷ [])) records ≡ Ok after → edited_all named (edits_of (whole_records (begun ++ next ∷ []) records)) ≡ Some after.named)
        → ◌≡◌ {A = Result ManifestReading ℕ} (elim (cond follows (cond ends (group_closed (elim so_far [ Err fault ↦ Err fault | Ok other ↦ cond last (Ok other) (Err next.at) ])) (Ok (reading_of named (begun ++ next ∷ [])))) (Err next.at)) [ Err fault ↦ Err fault | Ok reading ↦ read_records reading records ]) (Ok after)
        → edited_all named (edits_of (cond ends (begun ++ next ∷ whole_records [] records) (whole_records (begun ++ next ∷ []) records))) ≡ Some after.named
    go false ends so_far same last inner outer e = absurd (cc e)
    go true true (Err at) same last inner outer e = absurd (cc e)
    go true true (Ok other) same false inner outer e = absurd (cc e)
    go true true (Ok other) same true inner outer e = behind_group named other begun next (whole_records [] records) same ∙ inner other e
    go true false so_far same last inner outer e = outer e

pub replayed_name : ReplayedNameThat
replayed_name records edits is = go (read_records manifest_reading_none records) refl is
  where
    go : (read : Result ManifestReading ℕ) → read_records manifest_reading_none records ≡ read → edits_or_damage records None read ≡ Ok edits
        → (reading : ManifestReading) × ((read_records manifest_reading_none records ≡ Ok reading) × (edited_all named_none edits ≡ Some reading.named))
    go (Err at) same e = absurd (cc e)
    go (Ok reading) same e =
        let all : edits_of (whole_records [] records) ≡ edits = cc e in
        (reading, (same, ap (λ (l : List Edit). edited_all named_none l) (sym all) ∙ named_so named_none [] records reading same))
