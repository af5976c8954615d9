use Rattle.std.proofs.Common.{◌≡◌, sym, ◌∙◌, ap, Some}
use Rattle.std.specs.Arc.{arc_value}
use Rattle.st_publish.specs.History.{StandsIn}
use Rattle.st_publish.proofs.Prefixes.{prefix_self}
use Rattle.st_publish.proofs.publisher.Publisher.refresh.Goals as goal

pub invariant_of-self : goal.invariant_of-self
invariant_of-self g c =
    let o = c.again-prefix.ensures in
    let p = c.prefix.ensures in
    let a : c.take.result ≡ c.self.inside.next = c.take.ensures.value in
    let b : c.take.result ≡ Some c.unwrap-taken.result = c.unwrap-taken.ensures in
    let nx : c.self.inside.next ≡ Some c.unwrap-taken.result = sym a ∙ b in
    let st : StandsIn c.self.inside.told (arc_value c.unwrap-taken.result.0, c.unwrap-taken.result.1) = rw (← c.self.view_is, nx) at c.requires.0 in
    let f : c.show-writing.result.desk.shown.value ≡ ((arc_value c.unwrap-taken.result.0, c.unwrap-taken.result.1), c.again-prefix.result) = c.show-writing.ensures.shown in
    let l = ap (λ t. t.list) o ∙ p.0 in (
      c.show-writing.result,
      c.replace-empty.ensures.after,
      rw (ap (λ s. s.0) f) st,
      ap (λ s. s.1.book) f ∙ (ap (λ t. t.book) o ∙ p.1),
      rw (ap (λ s. s.1.list) f, l) (prefix_self c.self.inside.told),
      c.show-writing.ensures.empty,
      c.self.invariant.6,
    )
