use Rattle.job_laws.proofs.Rules.{no_cause_no_entry}
use Rattle.job_laws.proofs.laws.no_cause_no_entry.Goals as goal

pub returns : goal.returns
returns c = no_cause_no_entry
