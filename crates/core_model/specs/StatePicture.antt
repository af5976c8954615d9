-- Representation over a state alone: what is published of the core,
-- without jobs, turn, capacity and the next family id.
use Rattle.std.specs.Prelude.{ℕ, Bool, ◌≡◌, IsTrue, List, [], flat_map, map, Some, if◌then◌else◌}
use Rattle.st_base.specs.Range.{keys_of}
use Rattle.std.specs.List.{AllByRecursion as Each}
use Rattle.st_base.specs.Map.{value_at}
use Rattle.st_base.specs.declared.entry.KeyRange.{KeyRange}
use Rattle.st_model.specs.Contents.{as_entry, contents, kept_marks, opened}
use Rattle.st_model.specs.declared.contents.Contents.{Contents}
use Rattle.st_model.specs.declared.contents.ContentsFamily.{ContentsFamily}
use Rattle.st_model.specs.declared.state.ModelFamily.{ModelFamily}
use Rattle.st_model.specs.declared.state.ModelState.{ModelState}
use Rattle.st_model.specs.declared.state.Snapshot.{Snapshot}
use Rattle.st_model.specs.Sound.{IsSound}
use Rattle.st_model.specs.State.{family_of}
use Rattle.core_model.specs.Crash.{newest_of}
use Rattle.core_model.specs.Picture.{FamilyView, Core, level_at, table_range, walk}
use Rattle.core_model.specs.Event.{Crashed}
use Rattle.core_model.specs.Relation.{Represents}
use Rattle.core_model.specs.Run.{state_after_event}
use Rattle.core_model.specs.RelationParts.{ids_of, model_ids, ReadsAs, HasModelMarks, NumbersFall, NumbersWithin, LevelsApart, HasRanges, IsView, HasKnownKeys, HasWritten}

-- what readers see of the core
pub record StatePicture : Type 0 where
  pub last : ℕ
  pub behind : Bool
  pub charge : ℕ
  pub families : List (List ℕ × FamilyView)
  pub live : List Snapshot

-- the state of a core
abbrev pub state_of : Core → StatePicture
state_of core = record {
  last = core.last;
  behind = core.behind;
  charge = core.charge;
  families = core.families;
  live = core.live;
}

-- the relation holds of each family of the picture and the model's family of that name
abbrev pub ForBothIn : StatePicture → ModelState → (FamilyView → ModelFamily → Type 0) → Type 0
ForBothIn picture state R =
    (name : List ℕ) (family : FamilyView) (kept : ModelFamily)
    → value_at picture.families name ≡ Some family → family_of state name ≡ Some kept → R family kept

-- it holds of each family of the picture
abbrev pub ForEachIn : StatePicture → (FamilyView → Type 0) → Type 0
ForEachIn picture P = Each (λ named. P named.1) picture.families

-- the place, last number, charge, flag, names and ids, and live snapshots are the model's
pub record HasSameState (picture : StatePicture) (place : ℕ) (state : ModelState) : Type 0 where
  pub at : place ≡ state.place
  pub last : picture.last ≡ state.last
  pub charge : picture.charge ≡ state.charge
  pub behind : picture.behind ≡ state.behind
  pub families : ids_of picture.families ≡ model_ids state.families
  pub live : picture.live ≡ state.live

-- the picture at this place stands for the model's state: parts 1 to 6 of `Represents`
pub record RepresentsState (picture : StatePicture) (place : ℕ) (state : ModelState) : Type 0 where
  -- 1: place, last number, charge, flag, names and ids, live snapshots
  pub same : HasSameState picture place state
  -- 2: reads, now and at each live number
  pub reads : ForBothIn picture state (ReadsAs state)
  -- 3: numbers fall along the walk, and none is above the last number
  pub falls : ForEachIn picture NumbersFall
  pub within : ForEachIn picture (NumbersWithin picture.last)
  -- 4: levels; with the flag level 6 has exactly the ranges of the files behind
  pub apart : ForEachIn picture LevelsApart
  pub ranges : IsTrue picture.behind → ForBothIn picture state HasRanges
  -- 5: with the flag marks are the model's
  pub marks : IsTrue picture.behind → ForBothIn picture state (HasModelMarks state)
  -- 6: keys of entries are known, and those of memtables were written
  pub known : ForBothIn picture state HasKnownKeys
  pub written : ForBothIn picture state HasWritten
  -- what the types keep, and what the model keeps by itself
  pub views : ForEachIn picture IsView
  pub sound : IsSound state

-- what a core stands for, its state stands for at the core's place
abbrev pub CoreRepresentsState : Type 0
CoreRepresentsState = (core : Core) (state : ModelState) → Represents core state
    → RepresentsState (state_of core) core.place state

-- ---- the contents of a picture

-- with the flag, the ranges of the files behind
abbrev pub state_ranges : Bool → FamilyView → List KeyRange
state_ranges behind family = if behind then map table_range (level_at family 6) else []

-- the newest marks along the walk, as the contents keep them
abbrev pub state_contents_of : Bool → List ℕ × FamilyView → ContentsFamily
state_contents_of behind named = record {
  id = named.1.id;
  name = named.0;
  marks = map as_entry (kept_marks behind (newest_of (walk named.1)));
  ranges = state_ranges behind named.1;
}

-- what is left of the picture where the store stops
abbrev pub state_contents : StatePicture → Contents
state_contents picture = record {
  last = picture.last;
  behind = picture.behind;
  families = map (state_contents_of picture.behind) picture.families;
}

-- they are the contents of each state that the picture stands for
abbrev pub StateHasContents : Type 0
StateHasContents = (picture : StatePicture) (place : ℕ) (state : ModelState) → RepresentsState picture place state
    → state_contents picture ≡ contents state

-- the keys of all entries of each family: those that are known where the store is opened again
abbrev pub state_known : StatePicture → List (List (List ℕ))
state_known picture = map (λ named. flat_map keys_of (walk named.1)) picture.families

-- so the state after a stop and an opening is told by the picture alone
abbrev pub StateIsOpened : Type 0
StateIsOpened = (core : Core) (state : ModelState) (first : ℕ) → Represents core state
    → state_after_event core state (Crashed first) ≡ opened (state_contents (state_of core)) (state_known (state_of core))
