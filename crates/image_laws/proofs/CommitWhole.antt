-- A commit: its group is right, is cut into records that count down, and moves the image from the state before to the state
-- after the whole request with its last record.
use Rattle.std.proofs.Common.{◌≡◌, ℕ, Bool, List, [], ◌∷◌, ◌++◌, Some, true, is_some, subst}
use Rattle.std.specs.List.{AllByRecursion as Each}
use Rattle.st_base.specs.Map.{value_at}
use Rattle.st_model.specs.declared.state.ModelState.{ModelState}
use Rattle.base_laws.proofs.Lists.{each_as, each_front}
use Rattle.core_model.specs.Commit.{Planned, plan, committed}
use Rattle.core_model.specs.Relation.{Represents}
use Rattle.core_model.specs.Picture.{FamilyView, FileEntries, Core, Turn, all_tables}
use Rattle.core_model.specs.Request.{IsStagedTable}
use Rattle.core_model.specs.RelationParts.{files_in_parts}
use Rattle.core_laws.proofs.CommitBegins.{there_each, turn_facts}
use Rattle.manifest_edits.specs.Edits.{GroupRecord, AddsFile}
use Rattle.store_image.specs.Parts.{HasTableFile, ImageParts, log_ops_of}
use Rattle.store_image.specs.Steps.{HasMore}
use Rattle.store_image.specs.Tie.{EngineFiles, IsUnwritten}
use Rattle.image_laws.proofs.CommitPlan.{IsStagedFile, edits_are, commit_ends, commit_right, plan_each}
use Rattle.image_laws.proofs.CommitStep.{commit_written}
use Rattle.manifest_edits.proofs.Cut.{cut_group}
use Rattle.image_laws.proofs.Added.{apart_named}
use Rattle.image_laws.proofs.StandsNames.{families_apart}
use Rattle.image_laws.proofs.StepOpens.{step_begun}
use Rattle.manifest_edits.specs.Groups.{IsGroup}
use Rattle.manifest_edits.specs.CallEdits.{commit_edits}
use Rattle.store_image.specs.Calls.{IsImageOf, files_with, file_edits, commit_files, commit_group, commit_named, IsCommittingRequest}
use Rattle.st_order.specs.Columns.{Pairwise}

pub parts_there : (core : Core) (state : ModelState) (turn : Turn) → Represents core state → core.turn ≡ Some turn → Each (λ part. is_some (value_at core.families part.family) ≡ true) turn.parts
parts_there core state turn stands e = there_each core turn.parts (turn_facts core state turn stands e).1.families

files_differ : (xs ys : List FileEntries) → Pairwise (λ one other. one.file ≡ other.file → ⊥) (xs ++ ys) → Pairwise (λ one other. one.file ≡ other.file → ⊥) xs
files_differ [] ys h = tt
files_differ (x ∷ xs) ys h = (each_front (λ (other : FileEntries). x.file ≡ other.file → ⊥) xs ys h.0, files_differ xs ys h.1)

pub commit_is_group : (core : Core) (state : ModelState) (files : EngineFiles) (parts : ImageParts) (at : ℕ → ℕ) (turn : Turn) → IsCommittingRequest core state files parts turn
    → IsGroup files.named (commit_named core turn.parts files.named) (commit_group at core turn.parts)
commit_is_group core state files parts at turn is =
    cut_group files.named (commit_named core turn.parts files.named) at (commit_edits (commit_files core turn.parts) (committed core turn.parts).last)
    (commit_right parts (log_ops_of parts files.named.logs) core.last files.named core turn.parts is.tied.holds.families (parts_there core state turn is.stands is.turn_is) is.new
    (files_differ (files_in_parts turn.parts) (all_tables core) (turn_facts core state turn is.stands is.turn_is).0.fresh) (committed core turn.parts).last)
    (commit_ends (commit_files core turn.parts) (committed core turn.parts).last)

-- with some of the records nothing of the request is there
pub commit_begun_opens : (core : Core) (state : ModelState) (files : EngineFiles) (parts other : ImageParts) (flag : Bool) (at : ℕ → ℕ) (turn : Turn) (front more : List GroupRecord) (next : GroupRecord) → IsCommittingRequest core state files parts turn
    → commit_group at core turn.parts ≡ front ++ next ∷ more → HasMore files parts other front → IsImageOf core state files front other flag
commit_begun_opens core state files parts other flag at turn front more next is cut has =
    step_begun core state files (commit_named core turn.parts files.named) parts other flag front more next is.stands is.tied
    (subst (IsGroup files.named (commit_named core turn.parts files.named)) cut (commit_is_group core state files parts at turn is)) has

commit_adds : (P : ℕ → Type 0) (cs : List (List ℕ × FamilyView)) (more : List Planned) (last : ℕ) → Each (λ planned. P planned.wanted.table.file) more → Each (AddsFile P) (commit_edits (file_edits cs more) last)
commit_adds P cs [] last h = (tt, tt)
commit_adds P cs (planned ∷ more) last h = (h.0, commit_adds P cs more last h.1)

-- what holds of each file of the request holds of each that the group adds
pub commit_added : (core : Core) (state : ModelState) (turn : Turn) (P : ℕ → Type 0) → Represents core state → core.turn ≡ Some turn → Each (λ table. P table.file) (files_in_parts turn.parts)
    → Each (AddsFile P) (commit_edits (commit_files core turn.parts) (committed core turn.parts).last)
commit_added core state turn P stands out h = commit_adds P core.families (plan core turn.parts) (committed core turn.parts).last
    (each_as _ (λ planned. P planned.wanted.table.file) (λ planned is. is.1) (plan core turn.parts) (plan_each core (λ table. P table.file) turn.parts (parts_there core state turn stands out) h))

-- with all of them the whole request is
pub commit_opens : (core : Core) (state after : ModelState) (files : EngineFiles) (parts other : ImageParts) (flag : Bool) (at : ℕ → ℕ) (turn : Turn) → IsCommittingRequest core state files parts turn
    → Represents (committed core turn.parts) after
    → Each (λ table. HasTableFile other table) (files_in_parts turn.parts)
    → HasMore files parts other (commit_group at core turn.parts)
    → IsImageOf (committed core turn.parts) after (files_with files (commit_named core turn.parts files.named)) [] other flag
commit_opens core state after files parts other flag at turn is stands there has =
    commit_written core after files parts other flag (commit_group at core turn.parts) turn.parts (commit_files core turn.parts) stands is.tied
    (edits_are other core.families (plan core turn.parts) (families_apart core state is.stands) (plan_each core (IsStagedFile other) turn.parts (parts_there core state turn is.stands is.turn_is) staged))
    (commit_is_group core state files parts at turn is) has
    (apart_named files (commit_named core turn.parts files.named) at (commit_edits (commit_files core turn.parts) (committed core turn.parts).last) (commit_is_group core state files parts at turn is)
    (commit_added core state turn (IsUnwritten files) is.stands is.turn_is is.unwritten) is.tied.apart)
  where
    pair : (tables : List FileEntries) → Each IsStagedTable tables → Each (λ table. HasTableFile other table) tables → Each (IsStagedFile other) tables
    pair [] a b = tt
    pair (table ∷ tables) a b = (record { staged = a.0; found = b.0 }, pair tables a.1 b.1)

    staged : Each (IsStagedFile other) (files_in_parts turn.parts)
    staged = pair (files_in_parts turn.parts) (turn_facts core state turn is.stands is.turn_is).2.staged there
