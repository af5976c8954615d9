use Rattle.st_base.proofs.Ordered.{positions_total, positions_strict, key_up, number_down}
use Rattle.st_base.proofs.laws.positions_are_ordered.Goals as goal

pub returns-clause-total : goal.returns-clause-total
returns-clause-total c = positions_total

pub returns-clause-strict : goal.returns-clause-strict
returns-clause-strict c = positions_strict

pub returns-clause-key_up : goal.returns-clause-key_up
returns-clause-key_up c = key_up

pub returns-clause-number_down : goal.returns-clause-number_down
returns-clause-number_down c = number_down
