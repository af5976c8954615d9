use Rattle.base_laws.proofs.Maps.{value_set, value_without}
use Rattle.base_laws.proofs.maps_are_looked_up.Goals as goal

pub returns-clause-set : goal.returns-clause-set
returns-clause-set g c = value_set

pub returns-clause-gone : goal.returns-clause-gone
returns-clause-gone g c = value_without
