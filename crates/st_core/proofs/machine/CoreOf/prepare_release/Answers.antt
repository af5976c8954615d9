use Rattle.std.proofs.Common.{◌==◌, ◌+◌, not, filter, ap, ◌∙◌}
use Rattle.core_model.specs.Picture.{Core}
use Rattle.core_model.specs.StatePicture.{StatePicture}
use Rattle.st_core.proofs.Events.{released_is}
use Rattle.st_core.proofs.machine.CoreOf.prepare_release.Goals as goal

pub returns : goal.returns
returns g c =
    released_is c.args.self.now _ c.args.id c.self.inside.place (cc) (cc) (cc) (ap (λ (core : Core). core.place) c.self.view_is)
    (c.in_ok-next.ensures ∙ ap (λ live. record c.args.self.now { place = c.args.self.now.place + 1; live = live })
    (c.in_ok-live.ensures ∙ ap (filter (λ one. not (one.id == c.args.id)))
    (c.live.ensures ∙ (ap (λ (state : StatePicture). state.live) c.deref.ensures ∙ ap (λ (core : Core). core.live) c.self.view_is))))
