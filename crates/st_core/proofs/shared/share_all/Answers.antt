use Rattle.st_core.proofs.Options.{copied_values}
use Rattle.st_core.proofs.shared.share_all.Goals as goal

pub returns : goal.returns
returns g c = copied_values (λ shared. shared.value) c.args.items.now.items _ c.in_ok-clone.ensures.cases.0
