use Rattle.std.proofs.Common.{◌≡◌, sym, ap, subst, ◌∙◌}
use Rattle.std.specs.Prelude.{IfSome}
use Rattle.std.specs.Option.{option_copied_mut}
use Rattle.st_base.specs.Map.{value_at, changed_at}
use Rattle.st_core.proofs.Named.{seen, replaced_seen, absent_seen}
use Rattle.st_core.proofs.families.Families.replace.Goals.{in-Some, in_default}
use Rattle.st_core.proofs.families.Families.replace.Goals as goal

pub returns : goal.returns
returns g c change makes =
    elim c.match-get_mut.branch [
      | in-Some w ↦
          rw w.self-inside-is
          (ap (seen (λ shared. shared.value)) (c.get_mut.follows.holds c.args.view).0
          ∙ (replaced_seen (λ shared. shared.value) c.self.inside.by_name.entries c.args.name.now c.args.view change c.get_mut.ensures.ordered
          (subst (λ families. IfSome (value_at families c.args.name.now) (λ family. c.args.view.value ≡ change family)) (sym c.self.view_is) makes)
          ∙ ap (λ families. changed_at families c.args.name.now change) c.self.view_is))
      | in_default w ↦
          rw (w.self-inside-is, c.get_mut.follows.holds-at-none)
          (sym (absent_seen (λ shared. shared.value) c.self.inside.by_name.entries c.args.name.now change (sym c.get_mut.ensures.value ∙ ap option_copied_mut w.in_default.is))
          ∙ ap (λ families. changed_at families c.args.name.now change) c.self.view_is)
    ]
