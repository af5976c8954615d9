use Rattle.st_compact.proofs.Passes.{is_compaction}
use Rattle.st_compact.proofs.laws.pass_is_a_compaction.Goals as goal

pub returns : goal.returns
returns c = λ runs live drops entries joined. is_compaction live drops runs entries joined
