use Rattle.std.proofs.Common.{◌+◌, ◌-◌, ◌/◌, ◌<◌, length, sym, ap, ◌∙◌, arith}
use Rattle.std.proofs.lemmas.List.Sums.{prefix_len-le-length}
use Rattle.st_base.specs.Order.{is_before}
use Rattle.st_memtable.specs.Runs.{values}
use Rattle.st_memtable.proofs.Finding.{half_before, half_behind}
use Rattle.st_memtable.proofs.Shared.{Shared, long_of, map_at}
use Rattle.st_memtable.proofs.search.lower_in.Goals as goal

pub loop-low-init : goal.loop-low-init
loop-low-init c = record {
  top = omega arith;
  low_is = omega arith;
  high_is = omega (arith, long_of c.args.run.now, prefix_len-le-length (is_before c.args.key.now c.args.number) (values c.args.run.now));
}

pub loop-low-preserved-then-is_before : goal.loop-low-preserved-then-is_before
loop-low-preserved-then-is_before c =
    let middle = c.loop-low.low + (c.loop-low.high - c.loop-low.low) / 2 in
    let lt : middle < length c.args.run.now = omega (arith, c.loop-low.invariant.top) in
    let before = half_before (values c.args.run.now) c.args.key.now c.args.number middle c.index-run-middle.result.value c.requires (omega (arith, lt, long_of c.args.run.now))
    (map_at (λ (entry : Shared). entry.value) c.args.run.now middle c.index-run-middle.result c.index-run-middle.result.value c.index-run-middle.is lt)
    (ap (is_before c.args.key.now c.args.number) (sym c.deref.ensures) ∙ sym c.is_before.ensures ∙ c.if-is_before.true) in
    record { top = c.loop-low.invariant.top; low_is = omega (arith, before); high_is = c.loop-low.invariant.high_is }

pub loop-low-preserved : goal.loop-low-preserved
loop-low-preserved c =
    let middle = c.loop-low.low + (c.loop-low.high - c.loop-low.low) / 2 in
    let lt : middle < length c.args.run.now = omega (arith, c.loop-low.invariant.top) in
    let lengths_behind = half_behind (values c.args.run.now) c.args.key.now c.args.number middle c.index-run-middle.result.value
    (map_at (λ (entry : Shared). entry.value) c.args.run.now middle c.index-run-middle.result c.index-run-middle.result.value c.index-run-middle.is lt)
    (ap (is_before c.args.key.now c.args.number) (sym c.deref.ensures) ∙ sym c.is_before.ensures ∙ c.if-is_before.false) in
    record { top = omega (arith, c.loop-low.invariant.top); low_is = c.loop-low.invariant.low_is; high_is = lengths_behind }
