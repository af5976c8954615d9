use Rattle.std.proofs.Common.{arith}
use Rattle.st_publish.proofs.StandsOn.{taken}
use Rattle.st_publish.proofs.viewer.Viewer.enter.Goals as goal

pub returns-clause-stands : goal.returns-clause-stands
returns-clause-stands g c =
    let f = c.of-found.ensures in
    taken c.self.inside.told c.of-found.result c.longer.result _ c.length-changes.result (rw f c.shown.invariant.0) (rw f c.shown.invariant.1) c.length-changes.ensures.length
    (omega (arith, c.if-changes-length.false, c.length.ensures.length)) c.longer.ensures.one c.longer.ensures.that
