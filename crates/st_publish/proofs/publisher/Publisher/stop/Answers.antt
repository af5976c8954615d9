use Rattle.std.proofs.Common.{◌≡◌, ◌++◌, ◌∷◌, [], sym, ◌∙◌, ap, refl}
use Rattle.st_publish.specs.declared.entry.HistoryEntry.TheVariants.{Stopped}
use Rattle.st_publish.specs.History.{has_stop}
use Rattle.st_publish.proofs.Many.{stop_noted}
use Rattle.st_publish.proofs.StandsOn.{stopped_on, prefix_snoc}
use Rattle.st_publish.proofs.publisher.Publisher.stop.Goals as goal

pub invariant_of-self : goal.invariant_of-self
invariant_of-self g c =
    let same = ap (λ t. t.list) c.again-prefix.ensures ∙ c.prefix.ensures.0 in
    let grown : c.of.result ≡ c.self.inside.told ++ Stopped ∷ [] = c.of.ensures ∙ (c.note.ensures.list ∙ rw same refl) in
    let there = c.self.invariant in (
      there.0,
      there.1,
      stopped_on c.self.inside.told c.of.result _ c.prefix.ensures.2 grown there.2,
      there.3,
      prefix_snoc _ c.self.inside.told c.of.result Stopped there.4 grown,
      there.5,
      sym (ap has_stop grown ∙ stop_noted c.self.inside.told),
    )
