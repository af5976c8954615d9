use Rattle.job_laws.proofs.Rules.{rule_passes}
use Rattle.job_laws.proofs.laws.rule_passes.Goals as goal

pub returns : goal.returns
returns c = rule_passes
