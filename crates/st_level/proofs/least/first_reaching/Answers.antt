use Rattle.std.proofs.Common.{[], ◌+◌, ◌-◌, ◌/◌, map, sym, ap, ◌∙◌, arith}
use Rattle.std.proofs.lemmas.List.{length-map}
use Rattle.std.proofs.lemmas.List.Sums.{prefix_len-le-length}
use Rattle.st_base.specs.Bytes.{below}
use Rattle.st_order.proofs.Mapped.{mapped_there}
use Rattle.st_base.specs.Range.{key_at_end}
use Rattle.job_model.specs.ByKey.{ends_below}
use Rattle.st_level.proofs.ByKey.{half_low, half_high}
use Rattle.st_level.proofs.least.first_reaching.Goals as goal

pub loop-low-init : goal.loop-low-init
loop-low-init g c = record {
  top = omega arith;
  low_is = omega arith;
  high_is = omega (arith, length-map c.args.tables.now g.T.Rows.rows, prefix_len-le-length (ends_below c.args.key.now) (map g.T.Rows.rows c.args.tables.now));
}

pub loop-low-preserved-then-below : goal.loop-low-preserved-then-below
loop-low-preserved-then-below g c =
    let middle = c.loop-low.low + (c.loop-low.high - c.loop-low.low) / 2 in
    let at = mapped_there g.T.Rows.rows c.args.tables.now middle c.index-tables-middle.result [] (omega (arith, c.loop-low.invariant.top)) c.index-tables-middle.is in
    let lt = half_low (map g.T.Rows.rows c.args.tables.now) c.requires c.args.key.now middle (omega (arith, length-map c.args.tables.now g.T.Rows.rows, c.loop-low.invariant.top))
    (ap (λ entries. below (key_at_end entries) c.args.key.now) at ∙ ap (λ key. below key c.args.key.now) (sym c.last_key_of.ensures) ∙ sym c.below.ensures ∙ c.if-below.true) in
    record { top = c.loop-low.invariant.top; low_is = omega (arith, lt); high_is = c.loop-low.invariant.high_is }

pub loop-low-preserved : goal.loop-low-preserved
loop-low-preserved g c =
    let middle = c.loop-low.low + (c.loop-low.high - c.loop-low.low) / 2 in
    let at = mapped_there g.T.Rows.rows c.args.tables.now middle c.index-tables-middle.result [] (omega (arith, c.loop-low.invariant.top)) c.index-tables-middle.is in
    let le = half_high (map g.T.Rows.rows c.args.tables.now) c.requires c.args.key.now middle
    (ap (λ entries. below (key_at_end entries) c.args.key.now) at ∙ ap (λ key. below key c.args.key.now) (sym c.last_key_of.ensures) ∙ sym c.below.ensures ∙ c.if-below.false) in
    record { top = omega (arith, c.loop-low.invariant.top); low_is = c.loop-low.invariant.low_is; high_is = le }
