use Rattle.std.proofs.Common.{◌∙◌, ap}
use Rattle.log_recover.specs.Opens.{last_number}
use Rattle.log_engine.proofs.Open.{open_stands, open_holds}
use Rattle.log_engine.proofs.store.MarkStore.open.Goals as goal

pub returns-clause-stands : goal.returns-clause-stands
returns-clause-stands c =
    open_stands c.in_ok-newest.newest c.args.operations c.args.options.behind c.args.options.capacity c.last_of-last.result c.charge-charge.result c.in_ok-newest.ensures
    (c.last_of-last.ensures ∙ ap (last_number 0) c.as_slice.ensures) c.charge-charge.ensures.sum c.charge-charge.ensures.ordered

pub returns-clause-holds : goal.returns-clause-holds
returns-clause-holds c =
    open_holds c.in_ok-newest.newest c.args.operations c.args.options.behind c.args.options.capacity c.last_of-last.result c.charge-charge.result c.in_ok-newest.ensures
    (c.last_of-last.ensures ∙ ap (last_number 0) c.as_slice.ensures)
