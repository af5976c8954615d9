-- What the two words that the rule of the history reads mean; no other file of this library opens them.
use Rattle.std.proofs.Common.{◌≡◌, ℕ, ◌+◌, List, [], ◌∷◌, length, map, true, refl, arith}
use Rattle.core_model.specs.StatePicture.{RepresentsState, StatePicture}
use Rattle.st_model.specs.Apply.{apply, apply_all}
use Rattle.st_model.specs.declared.change.Change.{Change}
use Rattle.st_model.specs.declared.change.Change.TheVariants.{Write, Snap, Release, Make, Drop, Ingest}
use Rattle.st_model.specs.declared.state.ModelState.{ModelState}
use Rattle.st_publish.specs.declared.entry.Accepted.{Accepted}
use Rattle.st_publish.specs.declared.entry.HistoryEntry.{HistoryEntry}
use Rattle.st_publish.specs.Standing.{StandsFor, first_state, is_quiet}
use Rattle.st_publish.specs.History.{StandsIn, changes_of, begun_with, model_after}

place_grows : (state : ModelState) (change : Change) → (apply state change).place ≡ state.place + 1
place_grows state (Write batch) = refl
place_grows state Snap = refl
place_grows state (Release id) = refl
place_grows state (Make name) = refl
place_grows state (Drop name) = refl
place_grows state (Ingest files) = refl

place_after : (state : ModelState) (changes : List Change) → (apply_all state changes).place ≡ state.place + length changes
place_after state [] = omega arith
place_after state (change ∷ changes) = omega (arith, place_grows state change, place_after (apply state change) changes)

mapped_length : (accepted : List Accepted) → length (map (λ (one : Accepted). one.change) accepted) ≡ length accepted
mapped_length [] = refl
mapped_length (one ∷ accepted) = omega (arith, mapped_length accepted)

stands_at : (first : StatePicture) (accepted : List Accepted) (state : StatePicture × ℕ) → StandsFor first accepted state → state.1 ≡ length accepted
unfolding StandsFor
stands_at first accepted state h =
    omega (arith, h.same.at, place_after (first_state first) (map (λ (one : Accepted). one.change) accepted), mapped_length accepted)

-- the place of a state that stands for a history counts its changes
pub place_counts : (history : List HistoryEntry) (state : StatePicture × ℕ) → StandsIn history state → state.1 ≡ length (changes_of history)
place_counts history state h = stands_at (begun_with history) (changes_of history) state h

-- a state stands for a history exactly where it is a picture of the model after it
pub is_picture : (history : List HistoryEntry) (picture : StatePicture) (place : ℕ)
    → (StandsIn history (picture, place) → RepresentsState picture place (model_after history)) × (RepresentsState picture place (model_after history) → StandsIn history (picture, place))
unfolding StandsFor
is_picture history picture place = (λ h. h, λ h. h)

-- a snapshot may be taken behind a stop
pub snap_quiet : is_quiet Snap ≡ true
unfolding is_quiet
snap_quiet = refl

-- and let go
pub release_quiet : (id : ℕ) → is_quiet (Release id) ≡ true
unfolding is_quiet
release_quiet id = refl
