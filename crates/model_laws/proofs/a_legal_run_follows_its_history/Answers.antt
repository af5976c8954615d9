use Rattle.model_laws.proofs.Turns.{answers_at_places, answers_in_turn, follows_history}
use Rattle.model_laws.proofs.a_legal_run_follows_its_history.Goals as goal

pub returns-clause-history : goal.returns-clause-history
returns-clause-history c = follows_history

pub returns-clause-at_places : goal.returns-clause-at_places
returns-clause-at_places c = answers_at_places

pub returns-clause-in_turn : goal.returns-clause-in_turn
returns-clause-in_turn c = answers_in_turn
