use Rattle.std.proofs.Common.{◌≡◌, map, take, is_some}
use Rattle.std.specs.Prelude.{IfSome}
use Rattle.st_order.specs.Order.{between}
use Rattle.st_order.specs.Least.{least_within}
use Rattle.st_level.specs.Found.{HasKeyAt, held_key}
use Rattle.st_level.proofs.least.least_of_all.Given as goal

abbrev pub invariant-loop-table : goal.invariant-loop-table
invariant-loop-table g l = record {
  key : held_key (is_some l.least) l.spare ≡ least_within (between l.first l.last) (take l.table (map g.T.Rows.rows l.tables));
  there : IfSome l.least (λ index. HasKeyAt (map g.T.Rows.rows l.tables) index.0 index.1 l.spare);
}
