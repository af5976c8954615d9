use Rattle.std.proofs.Common.{refl, rules}
use Rattle.st_block.proofs.Layouts.{fits_not, lies}
use Rattle.st_block.proofs.open.layout_of.Goals as goal

pub returns-in_err-restarts_fit-clause-err : goal.returns-in_err-restarts_fit-clause-err
returns-in_err-restarts_fit-clause-err c =
    let h = fits_not c.args.kind c.args.text.now c.in-Some.tail c.in_ok-found.found c.in_ok-found.ensures.ok.0 c.in-Some.ensures.found.0 c.in_ok-found.ensures.ok.1 c.in_err-restarts_fit.field-0.0 c.in_err-restarts_fit.ensures.err in
    search rules

pub returns-clause-ok : goal.returns-clause-ok
returns-clause-ok c =
    (c.in_ok-found.ensures.ok.0, lies c.args.kind c.args.text.now c.in-Some.tail c.in_ok-found.found c.in_ok-found.ensures.ok.0 c.in-Some.ensures.found.0 c.in_ok-found.ensures.ok.1 _ c.in_ok-restarts_fit.ensures.ok refl refl refl c.in-Some.ensures.found.1)
