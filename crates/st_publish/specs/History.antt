-- The history as a list of entries.
use Rattle.std.specs.Prelude.{ℕ, Bool, true, false, ◌&&◌, List, [], ◌∷◌}
use Rattle.core_model.specs.StatePicture.{StatePicture}
use Rattle.st_model.specs.declared.change.Change.{Change}
use Rattle.st_model.specs.declared.state.ModelState.{ModelState}
use Rattle.st_publish.specs.declared.entry.Accepted.{Accepted}
use Rattle.st_publish.specs.declared.entry.HistoryEntry.{HistoryEntry}
use Rattle.st_publish.specs.declared.entry.HistoryEntry.TheVariants.{Opened, Made, Stopped}
use Rattle.st_publish.specs.Standing.{StandsFor, is_quiet, state_after}

-- the entry of an accepted change
abbrev pub made : ℕ → Change → List ℕ → HistoryEntry
made seat change files = Made (record { seat = seat; change = change; files = files })

-- the accepted changes, in order
abbrev pub changes_of : List HistoryEntry → List Accepted
changes_of [] = []
changes_of (Opened state ∷ entries) = changes_of entries
changes_of (Made accepted ∷ entries) = accepted ∷ changes_of entries
changes_of (Stopped ∷ entries) = changes_of entries

abbrev pub no_state : StatePicture
no_state = record { last = 0; behind = false; charge = 0; families = []; live = [] }

-- the state that the history began with
abbrev pub begun_with : List HistoryEntry → StatePicture
begun_with [] = no_state
begun_with (Opened state ∷ entries) = state
begun_with (Made accepted ∷ entries) = no_state
begun_with (Stopped ∷ entries) = no_state

-- the model's state after the history
abbrev pub model_after : List HistoryEntry → ModelState
model_after history = state_after (begun_with history) (changes_of history)

-- the state with its place stands for the history
abbrev pub StandsIn : List HistoryEntry → StatePicture × ℕ → Type 0
StandsIn history state = StandsFor (begun_with history) (changes_of history) state

-- a stop was noted
abbrev pub has_stop : List HistoryEntry → Bool
has_stop [] = false
has_stop (Opened state ∷ entries) = has_stop entries
has_stop (Made accepted ∷ entries) = has_stop entries
has_stop (Stopped ∷ entries) = true

-- the entry may stand behind a stop
abbrev pub may_rest : HistoryEntry → Bool
may_rest (Opened state) = false
may_rest (Made accepted) = is_quiet accepted.change
may_rest Stopped = true

abbrev pub all_rest : List HistoryEntry → Bool
all_rest [] = true
all_rest (entry ∷ entries) = may_rest entry && all_rest entries

-- behind the first stop there are further stops and quiet changes alone
abbrev pub is_calm : List HistoryEntry → Bool
is_calm [] = true
is_calm (Opened state ∷ entries) = is_calm entries
is_calm (Made accepted ∷ entries) = is_calm entries
is_calm (Stopped ∷ entries) = all_rest entries
