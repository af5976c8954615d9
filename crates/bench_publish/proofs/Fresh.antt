-- The state of a new store stands for the history that begins with it.
use Rattle.std.proofs.Common.{◌∷◌, [], false}
use Rattle.core_laws.proofs.New.{new_stands}
use Rattle.core_model.specs.Run.{new_core}
use Rattle.publish_laws.proofs.Picture.{core_stands}
use Rattle.st_publish.specs.History.{StandsIn}
use Rattle.st_publish.specs.declared.entry.HistoryEntry.TheVariants.{Opened}
use Rattle.bench_publish.specs.Fresh.{fresh_state}

pub stands : StandsIn (Opened fresh_state ∷ []) (fresh_state, 0)
stands = core_stands (Opened fresh_state ∷ []) (new_core false 0) (new_stands false 0)
