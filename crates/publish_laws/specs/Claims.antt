-- What standing in a history means.
use Rattle.std.specs.Prelude.{ℕ, ◌≡◌, ◌<◌, List, [], ◌∷◌, ◌++◌, length}
use Rattle.core_model.specs.Event.{Crashed}
use Rattle.core_model.specs.Picture.{Core}
use Rattle.core_model.specs.Relation.{Represents}
use Rattle.core_model.specs.Run.{state_after_event}
use Rattle.core_model.specs.StatePicture.{RepresentsState, StatePicture, state_contents, state_of}
use Rattle.st_model.specs.Apply.{apply}
use Rattle.st_model.specs.Contents.{contents}
use Rattle.st_model.specs.declared.change.Change.{Change}
use Rattle.st_model.specs.declared.state.ModelState.{ModelState}
use Rattle.st_publish.specs.declared.entry.HistoryEntry.{HistoryEntry}
use Rattle.st_publish.specs.declared.entry.HistoryEntry.TheVariants.{Opened}
use Rattle.st_publish.specs.History.{StandsIn, changes_of, made, model_after}

-- a state stands for a history at a place exactly where it is a picture of the model after it
abbrev pub StandingIsPicture : Type 0
StandingIsPicture = (history : List HistoryEntry) (picture : StatePicture) (place : ℕ)
    → (StandsIn history (picture, place) → RepresentsState picture place (model_after history))
    × (RepresentsState picture place (model_after history) → StandsIn history (picture, place))

-- its place counts the changes
abbrev pub PlaceCounts : Type 0
PlaceCounts = (history : List HistoryEntry) (picture : StatePicture) (place : ℕ) → StandsIn history (picture, place)
    → place ≡ length (changes_of history)

-- its contents are the model's
abbrev pub ContentsAreTheModels : Type 0
ContentsAreTheModels = (history : List HistoryEntry) (picture : StatePicture) (place : ℕ)
    → StandsIn history (picture, place) → state_contents picture ≡ contents (model_after history)

-- one more accepted change is one more change of the model
abbrev pub AcceptedApplies : Type 0
AcceptedApplies = (history : List HistoryEntry) (seat : ℕ) (change : Change) (files : List ℕ) → 0 < length history
    → model_after (history ++ made seat change files ∷ []) ≡ apply (model_after history) change

-- the state of a core stands for a history, at the core's place, where the core stands for the model after it
abbrev pub CoreStands : Type 0
CoreStands = (history : List HistoryEntry) (core : Core) → Represents core (model_after history)
    → StandsIn history (state_of core, core.place)

-- a history begins with what the model is after a stop and an opening
abbrev pub BeginsOpened : Type 0
BeginsOpened = (core : Core) (state : ModelState) (first : ℕ) → Represents core state
    → model_after (Opened (state_of core) ∷ []) ≡ state_after_event core state (Crashed first)
