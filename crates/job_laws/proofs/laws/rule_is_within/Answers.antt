use Rattle.job_laws.proofs.Rules.{rule_within}
use Rattle.job_laws.proofs.laws.rule_is_within.Goals as goal

pub returns : goal.returns
returns c = rule_within
