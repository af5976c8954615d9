use Rattle.publish_laws.proofs.Picture.{applies, begins_opened}
use Rattle.publish_laws.proofs.laws.history_is_the_models.Goals as goal

pub returns-clause-accepted : goal.returns-clause-accepted
returns-clause-accepted c = applies

pub returns-clause-opened : goal.returns-clause-opened
returns-clause-opened c = begins_opened
