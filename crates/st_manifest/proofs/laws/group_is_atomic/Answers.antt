use Rattle.st_manifest.proofs.Atomic.{group_atomic}
use Rattle.st_manifest.proofs.laws.group_is_atomic.Goals as goal

pub returns : goal.returns
returns c = group_atomic
