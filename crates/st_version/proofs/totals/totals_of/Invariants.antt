use Rattle.std.proofs.Common.{◌≡◌, take}
use Rattle.std.specs.Prelude.{filter, nat_lt}
use Rattle.st_base.specs.Range.{entries_charge}
use Rattle.st_memtable.specs.Memtable.{least_number}
use Rattle.st_version.proofs.totals.totals_of.Given as goal

abbrev pub invariant-loop-i : goal.invariant-loop-i
invariant-loop-i g l = record {
  charged : l.charge ≡ entries_charge (take l.i (g.T.Rows.rows l.table));
  least_is : l.least ≡ least_number (filter (λ entry. nat_lt 0 entry.number) (take l.i (g.T.Rows.rows l.table)));
}
