use Rattle.std.proofs.Common.{[], ◌+◌, ◌-◌, ◌/◌, map, sym, ap, ◌∙◌, arith}
use Rattle.std.proofs.lemmas.List.{length-map}
use Rattle.std.proofs.lemmas.List.Sums.{prefix_len-le-length}
use Rattle.st_order.proofs.Mapped.{mapped_there}
use Rattle.st_version.specs.ByKey.{starts_by}
use Rattle.st_version.proofs.ByKey.{half_high, half_low}
use Rattle.st_version.proofs.levels.started.Goals as goal

pub loop-low-init : goal.loop-low-init
loop-low-init g c = record {
  top = omega arith;
  low_is = omega arith;
  high_is = omega (arith, length-map c.args.tables.now g.T.Rows.rows, prefix_len-le-length (starts_by c.args.key.now) (map g.T.Rows.rows c.args.tables.now));
}

pub loop-low-preserved-then-starts_by : goal.loop-low-preserved-then-starts_by
loop-low-preserved-then-starts_by g c =
    let middle = c.loop-low.low + (c.loop-low.high - c.loop-low.low) / 2 in
    let at = mapped_there g.T.Rows.rows c.args.tables.now middle c.index-tables-middle.result [] (omega (arith, c.loop-low.invariant.top)) c.index-tables-middle.is in
    let lt = half_low c.args.key.now (map g.T.Rows.rows c.args.tables.now) [] middle c.requires (omega (arith, length-map c.args.tables.now g.T.Rows.rows, c.loop-low.invariant.top))
    (ap (starts_by c.args.key.now) at ∙ sym c.starts_by.ensures ∙ c.if-starts_by.true) in
    record { top = c.loop-low.invariant.top; low_is = omega (arith, lt); high_is = c.loop-low.invariant.high_is }

pub loop-low-preserved : goal.loop-low-preserved
loop-low-preserved g c =
    let middle = c.loop-low.low + (c.loop-low.high - c.loop-low.low) / 2 in
    let at = mapped_there g.T.Rows.rows c.args.tables.now middle c.index-tables-middle.result [] (omega (arith, c.loop-low.invariant.top)) c.index-tables-middle.is in
    let le = half_high c.args.key.now (map g.T.Rows.rows c.args.tables.now) [] middle
    (ap (starts_by c.args.key.now) at ∙ sym c.starts_by.ensures ∙ c.if-starts_by.false) in
    record { top = omega (arith, c.loop-low.invariant.top); low_is = c.loop-low.invariant.low_is; high_is = le }
