use Rattle.std.proofs.Common.{◌≡◌, sym, ap, subst, ◌∙◌}
use Rattle.st_base.specs.Map.{set_at}
use Rattle.core_model.specs.Picture.{Core, new_view}
use Rattle.core_model.specs.StatePicture.{StatePicture}
use Rattle.st_core.specs.Written.{AreWithin}
use Rattle.st_core.proofs.Written.{within_made}
use Rattle.st_core.proofs.machine.CoreOf.with_family.Goals as goal

pub with_families-requires : goal.with_families-requires
with_families-requires g c =
    let is : c.in_ok-families.families ≡ c.args.self.now.families = c.in_ok-families.ensures ∙ (ap (λ (state : StatePicture). state.families) c.deref.ensures ∙ ap (λ (core : Core). core.families) c.self.view_is) in
    let held : AreWithin c.args.self.now.last c.in_ok-families.families = subst (AreWithin c.args.self.now.last) (sym is) (subst (λ (core : Core). AreWithin core.last core.families) c.self.view_is c.self.invariant) in
    let e : c.insert.new.self ≡ set_at c.in_ok-families.families c.args.name.now (new_view c.self.inside.next_family) = cc (c.in_ok-insert.ensures, c.in_ok-clone.ensures.cases, c.in_ok-view.ensures.ok, c.in_ok-new.ensures) in
    subst (AreWithin c.args.self.now.last) (sym e) (within_made c.args.self.now.last c.in_ok-families.families c.args.name.now c.self.inside.next_family held)
