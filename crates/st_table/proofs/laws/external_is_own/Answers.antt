use Rattle.st_table.proofs.ExternalOwn.{external_own}
use Rattle.st_table.proofs.laws.external_is_own.Goals as goal

pub returns : goal.returns
returns c = external_own
