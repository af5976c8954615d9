use Rattle.image_laws.proofs.EveryTable.{table_is_new}
use Rattle.image_laws.proofs.laws.table_is_new.Goals as goal

pub returns : goal.returns
returns c = table_is_new
