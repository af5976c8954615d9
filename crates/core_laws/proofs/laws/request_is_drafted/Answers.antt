use Rattle.core_laws.proofs.Drafts.{draft_is_refused, request_is_drafted, sure_is_of_part}
use Rattle.core_laws.proofs.laws.request_is_drafted.Goals as goal

pub returns-clause-plan : goal.returns-clause-plan
returns-clause-plan c = request_is_drafted

pub returns-clause-refused : goal.returns-clause-refused
returns-clause-refused c = draft_is_refused

pub returns-clause-sure : goal.returns-clause-sure
returns-clause-sure c = sure_is_of_part
