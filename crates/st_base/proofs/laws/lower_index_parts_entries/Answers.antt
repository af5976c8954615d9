use Rattle.std.proofs.lemmas.List.Sums.{prefix_len_passes}
use Rattle.st_base.specs.Order.{is_before}
use Rattle.st_base.proofs.Ordered.{not_before, newest_at}
use Rattle.st_base.proofs.laws.lower_index_parts_entries.Goals as goal

pub returns-clause-below : goal.returns-clause-below
returns-clause-below c = λ entries key number i d lt. prefix_len_passes (is_before key number) entries i d lt

pub returns-clause-above : goal.returns-clause-above
returns-clause-above c = not_before

pub returns-clause-newest : goal.returns-clause-newest
returns-clause-newest c = λ entries key number h. newest_at key number entries h
