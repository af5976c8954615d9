use Rattle.std.proofs.Common.{List, ℕ, map, is_some, ap, ◌∙◌}
use Rattle.st_base.specs.Map.{value_at}
use Rattle.st_model.specs.declared.state.ModelFamily.{ModelFamily}
use Rattle.st_model.specs.State.{has_family, new_family}
use Rattle.core_model.specs.Commit.{outline}
use Rattle.core_model.specs.Picture.{Core, FamilyView}
use Rattle.core_model.specs.StatePicture.{StatePicture}
use Rattle.st_core.proofs.Options.{family_there}
use Rattle.st_core.proofs.machine.CoreOf.has_family.Goals as goal

pub returns : goal.returns
returns g c =
    c.is_some.ensures ∙ (family_there c.family.result c.deref.result.now.families c.args.name.now c.family.ensures
    ∙ (ap (λ (state : StatePicture). is_some (value_at (map {B = List ℕ × ModelFamily} (λ (named : List ℕ × FamilyView). (named.0, new_family named.1.id)) state.families) c.args.name.now)) c.deref.ensures
    ∙ ap (λ (core : Core). has_family (outline core) c.args.name.now) c.self.view_is))
