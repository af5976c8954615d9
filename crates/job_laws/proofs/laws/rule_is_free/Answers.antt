use Rattle.job_laws.proofs.Rules.{rule_is_free}
use Rattle.job_laws.proofs.laws.rule_is_free.Goals as goal

pub returns : goal.returns
returns c = rule_is_free
