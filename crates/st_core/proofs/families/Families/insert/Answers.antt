use Rattle.std.proofs.Common.{ap, ◌∙◌}
use Rattle.st_base.specs.Map.{set_at}
use Rattle.st_core.proofs.Named.{seen, inserted_seen}
use Rattle.st_core.proofs.families.Families.insert.Goals as goal

pub returns : goal.returns
returns g c =
    ap (seen (λ shared. shared.value)) c.in_ok-insert.ensures.entries
    ∙ (inserted_seen (λ shared. shared.value) c.self.inside.by_name.entries c.args.name c.args.view ∙ ap (λ families. set_at families c.args.name c.args.view.value) c.self.view_is)
