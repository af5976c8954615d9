use Rattle.std.proofs.Common.{◌+◌, ◌-◌, ◌/◌, arith}
use Rattle.std.specs.Prelude.{nat_lt}
use Rattle.std.proofs.lemmas.List.Sums.{prefix_len-le-length}
use Rattle.st_compact.proofs.Searching.{number_low, number_high}
use Rattle.st_compact.proofs.searches.numbers_below.Goals as goal

pub loop-low-init : goal.loop-low-init
loop-low-init c = record {
  top = omega arith;
  low_is = omega arith;
  high_is = prefix_len-le-length (λ s. nat_lt s c.args.number) c.args.live.now;
}

pub loop-low-preserved-then-live-middle : goal.loop-low-preserved-then-live-middle
loop-low-preserved-then-live-middle c =
    let lt = number_low c.args.live.now c.requires c.args.number (c.loop-low.low + (c.loop-low.high - c.loop-low.low) / 2) (omega (arith, c.loop-low.invariant.top)) c.if-live-middle.true in
    record { top = c.loop-low.invariant.top; low_is = omega (arith, lt); high_is = c.loop-low.invariant.high_is }

pub loop-low-preserved : goal.loop-low-preserved
loop-low-preserved c =
    record {
      top = omega (arith, c.loop-low.invariant.top);
      low_is = c.loop-low.invariant.low_is;
      high_is = number_high c.args.live.now c.requires c.args.number (c.loop-low.low + (c.loop-low.high - c.loop-low.low) / 2) c.if-live-middle.false;
    }
