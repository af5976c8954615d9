use Rattle.st_order.proofs.Columns.{is_joined}
use Rattle.st_order.proofs.laws.merged_is_joined.Goals as goal

pub returns : goal.returns
returns c = is_joined
