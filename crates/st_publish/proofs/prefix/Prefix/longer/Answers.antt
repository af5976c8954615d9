use Rattle.std.proofs.Common.{◌≤◌, ap, arith, length}
use Rattle.st_publish.proofs.Prefixes.{prefix_shorter}
use Rattle.st_publish.proofs.prefix.Prefix.longer.Goals as goal

pub returns-then-self-other-clause-this : goal.returns-then-self-other-clause-this
returns-then-self-other-clause-this c =
    let this = rw (ap (λ s. s.log) c.again-both.ensures) at c.learn.ensures.2 in
    let less : length c.self.inside.seen.log ≤ length c.other.inside.seen.log = omega (arith, c.self.invariant.0, c.other.invariant.0) in
    rw (c.again.ensures, ← c.self.view_is, ← c.other.view_is) (prefix_shorter _ _ _ this c.learn.ensures.3 less)

pub returns-clause-that : goal.returns-clause-that
returns-clause-that c =
    let this = rw (ap (λ s. s.log) c.again-both.ensures) at c.learn.ensures.2 in
    let less : length c.other.inside.seen.log ≤ length c.self.inside.seen.log = omega (arith, c.self.invariant.0, c.other.invariant.0) in
    rw (c.again-else-self-other.ensures, ← c.self.view_is, ← c.other.view_is) (prefix_shorter _ _ _ c.learn.ensures.3 this less)
