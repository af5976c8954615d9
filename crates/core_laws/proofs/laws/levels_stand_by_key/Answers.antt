use Rattle.core_laws.proofs.ByKey.{levels_stand_by_key}
use Rattle.core_laws.proofs.laws.levels_stand_by_key.Goals as goal

pub returns : goal.returns
returns c = levels_stand_by_key
