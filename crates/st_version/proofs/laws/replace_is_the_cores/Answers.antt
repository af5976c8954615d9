use Rattle.st_version.proofs.Same.{compacted_same, placed_same}
use Rattle.st_version.proofs.laws.replace_is_the_cores.Goals as goal

pub returns-clause-compacted : goal.returns-clause-compacted
returns-clause-compacted c = compacted_same

pub returns-clause-placed : goal.returns-clause-placed
returns-clause-placed c = placed_same
