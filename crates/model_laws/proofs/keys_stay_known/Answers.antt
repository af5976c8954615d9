use Rattle.model_laws.proofs.Knows.{keeps_known, opens_known}
use Rattle.model_laws.proofs.keys_stay_known.Goals as goal

pub returns-clause-kept : goal.returns-clause-kept
returns-clause-kept c = keeps_known

pub returns-clause-opened : goal.returns-clause-opened
returns-clause-opened c = opens_known
