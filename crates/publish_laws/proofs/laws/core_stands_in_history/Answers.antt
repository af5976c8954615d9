use Rattle.publish_laws.proofs.Picture.{core_stands}
use Rattle.publish_laws.proofs.laws.core_stands_in_history.Goals as goal

pub returns : goal.returns
returns c = core_stands
