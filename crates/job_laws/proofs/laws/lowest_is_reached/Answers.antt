use Rattle.job_laws.proofs.Rules.{lowest_is_reached}
use Rattle.job_laws.proofs.laws.lowest_is_reached.Goals as goal

pub returns : goal.returns
returns c = lowest_is_reached
