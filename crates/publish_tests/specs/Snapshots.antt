-- A history that takes one snapshot after the other in a new store.
use Rattle.std.specs.Prelude.{ℕ, zero, suc, ◌+◌, ◌<◌, ◌≤◌, ◌≡◌, false, List, [], ◌∷◌, ◌++◌, length}
use Rattle.core_model.specs.Picture.{new_view}
use Rattle.core_model.specs.StatePicture.{StatePicture}
use Rattle.st_base.specs.Bytes.{default_family}
use Rattle.st_model.specs.declared.change.Change.TheVariants.{Snap}
use Rattle.st_model.specs.declared.state.Snapshot.{Snapshot}
use Rattle.st_publish.specs.History.{begun_with, changes_of, made}
use Rattle.st_publish.specs.declared.entry.HistoryEntry.{HistoryEntry}
use Rattle.st_publish.specs.declared.entry.HistoryEntry.TheVariants.{Opened}

-- the snapshots of the places from 1 to this one
abbrev pub snapshots : ℕ → List Snapshot
snapshots zero = []
snapshots (suc place) = snapshots place ++ record { id = place + 1; number = 0 } ∷ []

-- the state at a place
abbrev pub snapped : ℕ → StatePicture
snapped place = record {
  last = 0;
  behind = false;
  charge = 0;
  families = (default_family, new_view 0) ∷ [];
  live = snapshots place;
}

-- the history up to a place, all of it made from seat 0, without stops
abbrev pub snaps : ℕ → List HistoryEntry
snaps zero = Opened (snapped 0) ∷ []
snaps (suc place) = snaps place ++ made 0 Snap [] ∷ []

-- the history has these changes, at most 1,000, and stops anywhere
pub record IsOfSnaps (history : List HistoryEntry) (place : ℕ) : Type 0 where
  pub small : place ≤ 1000
  pub some : 0 < length history
  pub first : begun_with history ≡ snapped 0
  pub changes : changes_of history ≡ changes_of (snaps place)
