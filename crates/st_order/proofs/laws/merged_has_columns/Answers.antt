use Rattle.st_order.proofs.Columns.{has_columns}
use Rattle.st_order.proofs.laws.merged_has_columns.Goals as goal

pub returns : goal.returns
returns c = has_columns
