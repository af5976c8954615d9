use Rattle.std.proofs.Common.{ap, ◌∙◌}
use Rattle.st_base.specs.Map.{without}
use Rattle.st_core.proofs.Named.{seen, removed_seen}
use Rattle.st_core.proofs.families.Families.remove.Goals as goal

pub returns : goal.returns
returns g c =
    ap (seen (λ shared. shared.value)) c.remove.ensures.entries
    ∙ (removed_seen (λ shared. shared.value) c.self.inside.by_name.entries c.args.name.now c.len.ensures.ordered ∙ ap (λ families. without families c.args.name.now) c.self.view_is)
