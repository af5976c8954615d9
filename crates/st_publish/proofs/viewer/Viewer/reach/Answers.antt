use Rattle.std.proofs.Common.{◌≡◌, sym, arith}
use Rattle.std.proofs.lemmas.Bool.Decides.{nat_tests}
use Rattle.st_publish.proofs.StandsOn.{same_changes}
use Rattle.st_publish.proofs.viewer.Viewer.reach.Goals as goal

pub returns-clause-same : goal.returns-clause-same
returns-clause-same g c alike =
    let e : c.place.result ≡ c.length.result = grind (arith, nat_tests) in
    sym (same_changes c.args.told.now c.learn.new.self c.learn.ensures.told (omega (arith, e, c.place.ensures, c.length.ensures.length)))
