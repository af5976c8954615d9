use Rattle.view_laws.proofs.Walking.{scans_are, scans_read_the_walk}
use Rattle.view_laws.proofs.laws.scans_are_the_models.Goals as goal

pub returns-clause-family : goal.returns-clause-family
returns-clause-family c = scans_read_the_walk

pub returns-clause-state : goal.returns-clause-state
returns-clause-state c = scans_are
