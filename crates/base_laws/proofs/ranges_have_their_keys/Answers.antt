use Rattle.base_laws.proofs.Ranges.{both_within_meet, meet_swaps, range_has_keys, same_range}
use Rattle.base_laws.proofs.ranges_have_their_keys.Goals as goal

pub returns-clause-meets : goal.returns-clause-meets
returns-clause-meets c = both_within_meet

pub returns-clause-swaps : goal.returns-clause-swaps
returns-clause-swaps c = meet_swaps

pub returns-clause-own : goal.returns-clause-own
returns-clause-own c = range_has_keys

pub returns-clause-numbered : goal.returns-clause-numbered
returns-clause-numbered c = same_range
