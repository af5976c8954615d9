use Rattle.std.proofs.Common.{is_some, ap, ◌∙◌}
use Rattle.st_core.proofs.Options.{some_map}
use Rattle.st_core.proofs.machine.CoreOf.turn_out.Goals as goal

pub returns : goal.returns
returns g c = c.is_some.ensures ∙ (some_map (λ turn. turn.value) c.self.inside.turn ∙ ap (λ core. is_some core.turn) c.self.view_is)
