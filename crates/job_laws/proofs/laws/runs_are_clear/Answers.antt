use Rattle.job_laws.proofs.DropRuns.{runs_are_clear}
use Rattle.job_laws.proofs.laws.runs_are_clear.Goals as goal

pub returns : goal.returns
returns c = runs_are_clear
