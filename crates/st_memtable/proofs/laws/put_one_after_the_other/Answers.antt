use Rattle.st_memtable.proofs.Positions.{put_one_after}
use Rattle.st_memtable.proofs.laws.put_one_after_the_other.Goals as goal

pub returns : goal.returns
returns c = put_one_after
