use Rattle.std.proofs.Common.{◌≡◌, ◌==◌, Some, find, sym, ap, subst, ◌∙◌}
use Rattle.std.specs.Prelude.{IfSome}
use Rattle.st_base.specs.Map.{value_at}
use Rattle.core_model.specs.Picture.{Core}
use Rattle.core_model.specs.StatePicture.{StatePicture}
use Rattle.st_version.specs.State.{named_views}
use Rattle.st_core.specs.Written.{AreWithin}
use Rattle.st_core.proofs.InstalledJobs.{within_found}
use Rattle.st_core.proofs.machine.CoreOf.family_of.Goals as goal

pub returns : goal.returns
returns g c =
    let is : named_views c.families.result.now.entries ≡ c.args.self.now.families = c.families.ensures ∙ (ap (λ (state : StatePicture). state.families) c.deref.ensures ∙ ap (λ (core : Core). core.families) c.self.view_is) in
    let value : IfSome c.named_of.result (λ found. value_at c.args.self.now.families found.0.now ≡ Some found.1.now) =
    subst (λ families. IfSome c.named_of.result (λ found. value_at families found.0.now ≡ Some found.1.now)) is c.named_of.ensures.value in
    record {
      found = c.named_of.ensures.found ∙ ap (find (λ named. named.1.id == c.args.id)) is;
      value = value;
      within = within_found c.named_of.result c.args.self.now.last c.args.self.now.families (subst (λ (core : Core). AreWithin core.last core.families) c.self.view_is c.self.invariant) value;
    }
