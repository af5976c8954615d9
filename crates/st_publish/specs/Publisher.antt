-- What a publisher is seen as.
use Rattle.std.specs.Prelude.{ℕ, List, Option}
use Rattle.core_model.specs.StatePicture.{StatePicture}
use Rattle.st_publish.specs.declared.entry.HistoryEntry.{HistoryEntry}

-- the state with its place that viewers take, the whole history, and the state with its place that was taken last and
-- isn't published
pub record PublisherView : Type 0 where
  pub state : StatePicture × ℕ
  pub list : List HistoryEntry
  pub next : Option (StatePicture × ℕ)
