use Rattle.st_manifest.proofs.Naming.{replayed_name}
use Rattle.st_manifest.proofs.laws.replayed_name_that.Goals as goal

pub returns : goal.returns
returns c = replayed_name
