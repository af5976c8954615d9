use Rattle.std.proofs.Common.{arith}
use Rattle.std.proofs.lemmas.List.Sums.{prefix_len-le-length}
use Rattle.st_base.specs.Order.{is_before}
use Rattle.st_table.proofs.find.lower_in.Goals as goal

pub loop-low-init : goal.loop-low-init
loop-low-init c = record {
  top = omega arith;
  low_is = omega arith;
  high_is = omega (arith, c.len-high.ensures, prefix_len-le-length (is_before c.args.key.now c.args.number) c.args.entries.now);
}
