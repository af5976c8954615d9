-- The states of the tests stand for their history, since cores do.
use Rattle.std.proofs.Common.{◌≡◌, ℕ, Bool, zero, suc, ◌+◌, ◌<◌, ◌≤◌, ◌++◌, ◌∷◌, ◌∙◌, [], List, length, length-append, None, false, nat_le, inl, refl, sym, ap, subst, arith}
use Rattle.std.proofs.lemmas.Bool.Decides.{nat_tests}
use Rattle.core_laws.proofs.New.{new_stands}
use Rattle.core_laws.proofs.Steps.{step_refines}
use Rattle.core_model.specs.Commit.{outline}
use Rattle.core_model.specs.Event.{Snap as SnapEvent}
use Rattle.core_model.specs.Picture.{Core, new_view}
use Rattle.core_model.specs.Relation.{Represents}
use Rattle.core_model.specs.declared.reply.CoreReply.TheVariants.{SnapshotTaken}
use Rattle.core_model.specs.StatePicture.{StatePicture}
use Rattle.core_model.specs.Step.{with_snapshot}
use Rattle.st_base.specs.Bytes.{default_family}
use Rattle.st_model.specs.Apply.{apply}
use Rattle.st_model.specs.Answer.{refused_if, snap_refusals}
use Rattle.st_model.specs.State.{greatest_number, most_snapshots}
use Rattle.st_model.specs.declared.change.Change.TheVariants.{Snap}
use Rattle.st_model.specs.declared.refusal.Refusal.{Refusal}
use Rattle.st_model.specs.declared.refusal.Refusal.TheVariants.{NumbersSpent, SnapshotsFull}
use Rattle.st_model.specs.declared.state.ModelState.{ModelState}
use Rattle.st_publish.specs.History.{StandsIn, begun_with, changes_of, made, model_after}
use Rattle.st_publish.specs.Standing.{StandsFor}
use Rattle.st_publish.specs.declared.entry.Accepted.{Accepted}
use Rattle.st_publish.specs.declared.entry.HistoryEntry.{HistoryEntry}
use Rattle.st_publish.specs.declared.entry.HistoryEntry.TheVariants.{Opened, Made, Stopped}
use Rattle.st_publish.proofs.Adding.{changes_of-append}
use Rattle.publish_laws.proofs.Picture.{applies, core_stands}
use Rattle.publish_tests.specs.Snapshots.{IsOfSnaps, snaps, snapped, snapshots}

abbrev core_at : ℕ → Core
core_at place = record {
  behind = false;
  capacity = 0;
  place = place;
  last = 0;
  charge = 0;
  families = (default_family, new_view 0) ∷ [];
  next_family = 1;
  live = snapshots place;
  jobs = [];
  jobs_made = 0;
  turn = None;
}

some_snaps : (place : ℕ) → 0 < length (snaps place)
some_snaps zero = omega arith
some_snaps (suc place) = omega (arith, length-append (snaps place) (made 0 Snap [] ∷ []))

core_next : (place : ℕ) → with_snapshot (core_at place) ≡ core_at (suc place)
core_next place =
    let e : place + 1 ≡ suc place = omega arith in
    ap (λ (n : ℕ). record (core_at (suc place)) { place = n }) e

live_many : (place : ℕ) → length (snapshots place) ≡ place
live_many zero = refl
live_many (suc place) = omega (arith, length-append (snapshots place) (record { id = place + 1; number = 0 } ∷ []), live_many place)

le_no : (a b : ℕ) → b < a → nat_le a b ≡ false
le_no a b less = grind (arith, nat_tests)

none_if : (a b : Bool) (one other : Refusal) → a ≡ false → b ≡ false → refused_if a one ++ refused_if b other ≡ []
none_if a b one other e f = rw (e, f) refl

none_refused : (place : ℕ) → place < 1000 → snap_refusals (outline (core_at place)) ≡ []
none_refused place small =
    none_if (nat_le most_snapshots (length (snapshots place))) (nat_le greatest_number place) SnapshotsFull NumbersSpent
    (le_no most_snapshots (length (snapshots place)) (omega (arith, live_many place, small)))
    (le_no greatest_number place (omega (arith, small)))

represents : (place : ℕ) → place ≤ 1000 → Represents (core_at place) (model_after (snaps place))
represents zero small = new_stands false 0
represents (suc place) small =
    let e = applies (snaps place) 0 Snap [] (some_snaps place) in
    let none : snap_refusals (outline (core_at place)) ≡ [] = none_refused place (omega (arith, small)) in
    let step = step_refines (core_at place) (model_after (snaps place)) SnapEvent (SnapshotTaken (place + 1) (place + 1) 0) (with_snapshot (core_at place)) (represents place (omega (arith, small))) (inl (refl, rw none (refl, refl))) in
    let now : Represents (with_snapshot (core_at place)) (apply (model_after (snaps place)) Snap) = step.stands in
    subst (λ (state : ModelState). Represents (core_at (suc place)) state) (sym e)
    (subst (λ (core : Core). Represents core (apply (model_after (snaps place)) Snap)) (core_next place) now)

more_same : (history more : List HistoryEntry) → 0 < length history → begun_with (history ++ more) ≡ begun_with history
more_same [] more some = absurd (omega arith)
more_same (Opened state ∷ history) more some = refl
more_same (Made one ∷ history) more some = refl
more_same (Stopped ∷ history) more some = refl

first_same : (place : ℕ) → begun_with (snaps place) ≡ snapped 0
first_same zero = refl
first_same (suc place) = more_same (snaps place) (made 0 Snap [] ∷ []) (some_snaps place) ∙ first_same place

-- the state at a place stands for each history of these changes
pub stands : (history : List HistoryEntry) (place : ℕ) → IsOfSnaps history place → StandsIn history (snapped place, place)
stands history place h =
    let there : StandsIn (snaps place) (snapped place, place) = core_stands (snaps place) (core_at place) (represents place h.small) in
    subst (λ (first : StatePicture). StandsFor first (changes_of history) (snapped place, place)) (first_same place ∙ sym h.first)
    (subst (λ (changes : List Accepted). StandsFor (begun_with (snaps place)) changes (snapped place, place)) (sym h.changes) there)

-- the history that begins with a new store
pub opened_snaps : IsOfSnaps (Opened (snapped 0) ∷ []) 0
opened_snaps = record { small = omega arith; some = omega arith; first = refl; changes = refl }

-- one snapshot on
pub more_snaps : (history : List HistoryEntry) (place : ℕ) → IsOfSnaps history place → place < 1000 → IsOfSnaps (history ++ made 0 Snap [] ∷ []) (place + 1)
more_snaps history place h few =
    let e : suc place ≡ place + 1 = omega arith in
    subst (λ (n : ℕ). IsOfSnaps (history ++ made 0 Snap [] ∷ []) n) e (record {
      small = omega (arith, few);
      some = omega (arith, length-append history (made 0 Snap [] ∷ []), h.some);
      first = more_same history (made 0 Snap [] ∷ []) h.some ∙ h.first;
      changes = changes_of-append history (made 0 Snap [] ∷ []) ∙ (ap (λ (l : List Accepted). l ++ changes_of (made 0 Snap [] ∷ [])) h.changes ∙ sym (changes_of-append (snaps place) (made 0 Snap [] ∷ [])));
    })

append_none : (xs : List Accepted) → xs ++ [] ≡ xs
append_none [] = refl
append_none (x ∷ xs) = ap (λ (l : List Accepted). x ∷ l) (append_none xs)

-- a stop on
pub stop_snaps : (history : List HistoryEntry) (place : ℕ) → IsOfSnaps history place → IsOfSnaps (history ++ Stopped ∷ []) place
stop_snaps history place h = record {
  small = h.small;
  some = omega (arith, length-append history (Stopped ∷ []), h.some);
  first = more_same history (Stopped ∷ []) h.some ∙ h.first;
  changes = changes_of-append history (Stopped ∷ []) ∙ (append_none (changes_of history) ∙ h.changes);
}

-- the state one place on stands for the history one snapshot on
pub next_stands : (history : List HistoryEntry) (place : ℕ) → IsOfSnaps history place → place < 1000 → StandsIn (history ++ made 0 Snap [] ∷ []) (snapped (place + 1), place + 1)
next_stands history place h few = stands _ (place + 1) (more_snaps history place h few)
