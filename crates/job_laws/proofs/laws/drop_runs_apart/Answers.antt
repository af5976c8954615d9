use Rattle.job_laws.proofs.Ranges.{drop_runs_apart}
use Rattle.job_laws.proofs.laws.drop_runs_apart.Goals as goal

pub returns : goal.returns
returns c = drop_runs_apart
