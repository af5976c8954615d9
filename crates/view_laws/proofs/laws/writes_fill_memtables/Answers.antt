use Rattle.view_laws.proofs.Written.{memtables_are_filled}
use Rattle.view_laws.proofs.laws.writes_fill_memtables.Goals as goal

pub returns : goal.returns
returns c = memtables_are_filled
