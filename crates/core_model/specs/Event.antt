-- The events of the core, and the request that a turn has.
use Rattle.std.specs.Prelude.{ℕ, Bool, List, [], ◌∷◌, ◌+◌, length, map}
use Rattle.st_model.specs.declared.change.Batch.{Batch}
use Rattle.st_model.specs.declared.command.FileSeen.TheVariants as seen
use Rattle.st_model.specs.Request.{Argument, files_from}
use Rattle.core_model.specs.Picture.{FileEntries, Part}

-- what may happen to the core
pub data Event : Type 0 where
  Write : Batch → Event
  Snap : Event
  Release : ℕ → Event
  MakeFamily : List ℕ → Event
  DropFamily : List ℕ → Event
  Seal : List ℕ → Event
  FlushPicked : List ℕ → Event
  FlushInstalled : ℕ → FileEntries → Event
  CompactPicked : List ℕ → Bool → Event
  CompactInstalled : ℕ → List FileEntries → Event
  JobGivenUp : ℕ → Event
  TurnTaken : List Part → Event
  IngestCommitted : Event
  TurnReturned : Event
  Crashed : ℕ → Event

-- the request of the parts, as the model sees it
abbrev pub argument_of_part : ℕ → Part → Argument
argument_of_part a part = record {
  number = a;
  family = part.family;
  options = part.options;
  named = length part.files;
  files = files_from a 1 (map (λ table. seen.Table table.entries) part.files);
}

-- the parts from part a on as the model sees them
abbrev pub arguments_after : ℕ → List Part → List Argument
arguments_after a [] = []
arguments_after a (part ∷ parts) = argument_of_part a part ∷ arguments_after (a + 1) parts

-- the request as the model sees it
abbrev pub request_of_parts : List Part → List Argument
request_of_parts parts = arguments_after 1 parts
