use Rattle.st_block.proofs.IndexOrder.{index_rises}
use Rattle.st_block.proofs.laws.index_keys_rise.Goals as goal

pub returns : goal.returns
returns c = index_rises
