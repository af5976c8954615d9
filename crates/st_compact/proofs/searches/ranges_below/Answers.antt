use Rattle.std.proofs.Common.{List, ℕ, ◌+◌, ◌-◌, ◌/◌, ◌<◌, length, sym, ap, ◌∙◌, arith}
use Rattle.std.proofs.lemmas.List.Sums.{prefix_len-le-length}
use Rattle.std.proofs.lemmas.List.{get_or_default}
use Rattle.st_base.specs.Bytes.{below}
use Rattle.st_base.specs.declared.entry.KeyRange.{KeyRange}
use Rattle.st_compact.proofs.Searching.{range_low, range_high, none}
use Rattle.st_compact.proofs.searches.ranges_below.Goals as goal

pub loop-low-init : goal.loop-low-init
loop-low-init c = record {
  top = omega arith;
  low_is = omega arith;
  high_is = prefix_len-le-length (λ (range : KeyRange). below range.last c.args.key.now) c.args.ranges.now;
}

pub loop-low-preserved-then-below : goal.loop-low-preserved-then-below
loop-low-preserved-then-below c =
    let middle : ℕ = c.loop-low.low + (c.loop-low.high - c.loop-low.low) / 2 in
    let long : middle < length c.args.ranges.now = omega (arith, c.loop-low.invariant.top) in
    let at = get_or_default c.args.ranges.now middle none c.index-ranges-middle.result long in
    let lt = range_low c.args.ranges.now c.requires c.args.key.now middle long
    (ap (λ (range : KeyRange). below range.last c.args.key.now) at ∙ ap (λ (key : List ℕ). below key c.args.key.now) (sym c.as_bytes.ensures.value) ∙ sym c.below.ensures ∙ c.if-below.true) in
    record { top = c.loop-low.invariant.top; low_is = omega (arith, lt); high_is = c.loop-low.invariant.high_is }

pub loop-low-preserved : goal.loop-low-preserved
loop-low-preserved c =
    let middle : ℕ = c.loop-low.low + (c.loop-low.high - c.loop-low.low) / 2 in
    let long : middle < length c.args.ranges.now = omega (arith, c.loop-low.invariant.top) in
    let at = get_or_default c.args.ranges.now middle none c.index-ranges-middle.result long in
    record {
      top = omega (arith, c.loop-low.invariant.top);
      low_is = c.loop-low.invariant.low_is;
      high_is = range_high c.args.ranges.now c.requires c.args.key.now middle
          (ap (λ (range : KeyRange). below range.last c.args.key.now) at ∙ ap (λ (key : List ℕ). below key c.args.key.now) (sym c.as_bytes.ensures.value) ∙ sym c.below.ensures ∙ c.if-below.false);
    }
