use Rattle.core_laws.proofs.PickCases.{picking_sees_ranges}
use Rattle.core_laws.proofs.laws.picking_sees_ranges.Goals as goal

pub returns : goal.returns
returns c = picking_sees_ranges
