use Rattle.std.proofs.Common.{◌≡◌, take}
use Rattle.std.specs.Prelude.{sum_by}
use Rattle.std.specs.List.{AllByRecursion as Each}
use Rattle.st_base.specs.Entries.{add_charge, entry_charge}
use Rattle.st_base.specs.Rows.{Fits}
use Rattle.st_memtable.proofs.totals.charge_more.Given as goal

abbrev pub invariant-loop-entry : goal.invariant-loop-entry
invariant-loop-entry l = record {
  sum : l.sum ≡ add_charge l.fn.before (sum_by (λ entry. entry_charge entry.key entry.mark) (take l.entry-index l.entries));
  within : Each Fits (take l.entry-index l.entries);
}
