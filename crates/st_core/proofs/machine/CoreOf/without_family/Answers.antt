use Rattle.std.proofs.Common.{◌≡◌, sym, ap, subst, ◌∙◌}
use Rattle.core_model.specs.Picture.{Core}
use Rattle.core_model.specs.StatePicture.{StatePicture}
use Rattle.st_core.specs.Written.{AreWithin}
use Rattle.st_core.proofs.Written.{within_without}
use Rattle.st_core.proofs.machine.CoreOf.without_family.Goals as goal

pub with_families-requires : goal.with_families-requires
with_families-requires g c =
    let is : c.in_ok-families.families ≡ c.args.self.now.families = c.in_ok-families.ensures ∙ (ap (λ (state : StatePicture). state.families) c.deref.ensures ∙ ap (λ (core : Core). core.families) c.self.view_is) in
    let held : AreWithin c.args.self.now.last c.in_ok-families.families = subst (AreWithin c.args.self.now.last) (sym is) (subst (λ (core : Core). AreWithin core.last core.families) c.self.view_is c.self.invariant) in
    subst (AreWithin c.args.self.now.last) (sym c.remove.ensures) (within_without c.args.self.now.last c.in_ok-families.families c.args.name.now held)
