use Rattle.publish_laws.proofs.Picture.{counts, models_contents, standing}
use Rattle.publish_laws.proofs.laws.standing_is_a_picture.Goals as goal

pub returns-clause-picture : goal.returns-clause-picture
returns-clause-picture c = standing

pub returns-clause-place : goal.returns-clause-place
returns-clause-place c = counts

pub returns-clause-contents : goal.returns-clause-contents
returns-clause-contents c = models_contents
