use Rattle.std.proofs.Common.{◌≡◌, ◌<◌, length, map}
use Rattle.st_order.specs.Order.{between}
use Rattle.st_order.specs.Sorted.{merged}
use Rattle.st_merge.specs.Reading.{read_all}
use Rattle.st_merge.specs.Scan.{cut_pairs, live_pairs}
use Rattle.st_order.proofs.Columns.{Weak}
use Rattle.st_merge.proofs.scanning.scan.Given as goal

abbrev pub invariant-loop-entry_index : goal.invariant-loop-entry_index
invariant-loop-entry_index g l = record {
  runs : l.merge.runs ≡ map g.T.Rows.rows l.parts;
  weak : Weak l.merge.rest;
  last : l.reader.last.now ≡ l.last;
  few : 0 < l.reader.room → l.reader.bytes < 1048576;
  all : read_all l.reader l.merge.rest ≡ cut_pairs l.limit 0 (live_pairs (between l.first l.last) l.number (merged (map g.T.Rows.rows l.parts)));
}

abbrev pub decreases-loop-entry_index : goal.decreases-loop-entry_index
decreases-loop-entry_index g l = length l.merge.rest
