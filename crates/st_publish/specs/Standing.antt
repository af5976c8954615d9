-- What a state stands for in the history, and which changes may follow a stop. The rule of the history reads these two
-- words and nothing else of states and changes.
use Rattle.std.specs.Prelude.{ℕ, Bool, true, false, List, map}
use Rattle.core_model.specs.StatePicture.{RepresentsState, StatePicture, state_contents, state_known}
use Rattle.st_model.specs.Apply.{apply_all}
use Rattle.st_model.specs.Contents.{opened}
use Rattle.st_model.specs.declared.change.Change.{Change}
use Rattle.st_model.specs.declared.change.Change.TheVariants.{Write, Snap, Release, Make, Drop, Ingest}
use Rattle.st_model.specs.declared.state.ModelState.{ModelState}
use Rattle.st_publish.specs.declared.entry.Accepted.{Accepted}

-- the model's state that a history begins with: what an opening makes of the contents and the keys of its first state
abbrev pub first_state : StatePicture → ModelState
first_state first = opened (state_contents first) (state_known first)

-- the model's state after accepted changes
abbrev pub state_after : StatePicture → List Accepted → ModelState
state_after first accepted = apply_all (first_state first) (map (λ one. one.change) accepted)

-- a state with its place stands for these accepted changes after a first state
unfoldable pub StandsFor : StatePicture → List Accepted → StatePicture × ℕ → Type 0
StandsFor first accepted state = RepresentsState state.0 state.1 (state_after first accepted)

-- a change that may be accepted after a stop: a snapshot is taken or let go
unfoldable pub is_quiet : Change → Bool
is_quiet (Write batch) = false
is_quiet Snap = true
is_quiet (Release id) = true
is_quiet (Make name) = false
is_quiet (Drop name) = false
is_quiet (Ingest files) = false
