use Rattle.std.proofs.Common.{◌∙◌, sym, arith}
use Rattle.opening_checks.proofs.Twice.{none_twice, twice_at}
use Rattle.opening_checks.proofs.repeats.has_twice.Goals as goal

pub returns-then-is_repeated : goal.returns-then-is_repeated
returns-then-is_repeated g c =
    sym (twice_at (g.T.Rows.rows c.args.rows.now) c.loop-index.index (sym c.is_repeated.ensures ∙ c.if-is_repeated.true))

pub returns : goal.returns
returns g c =
    sym (none_twice (g.T.Rows.rows c.args.rows.now) c.len-count.ensures.rows.ordered
    (λ k lt. c.loop-index.invariant k (omega (arith, lt, c.len-count.ensures.value, c.loop-index-test.false))))
