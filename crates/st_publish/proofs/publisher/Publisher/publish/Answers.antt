use Rattle.std.proofs.Common.{◌≡◌, ◌++◌, ◌∷◌, [], sym, ◌∙◌, ap, refl, Some}
use Rattle.std.specs.Arc.{arc_value}
use Rattle.st_publish.specs.History.{StandsIn, has_stop, made}
use Rattle.st_publish.proofs.Many.{stop_kept}
use Rattle.st_publish.proofs.Prefixes.{prefix_self}
use Rattle.st_publish.proofs.publisher.Publisher.publish.Goals as goal

pub invariant_of-self : goal.invariant_of-self
invariant_of-self g c =
    let k = c.of-2.ensures in
    let m = c.note.ensures.list in
    let n = c.again.ensures in
    let o = c.again-prefix.ensures in
    let p = c.prefix.ensures in
    let q = c.of.ensures in
    let grown : c.of-2.result ≡ c.self.inside.told ++ made c.args.seat (g.M.AsChange.change c.args.about.now) (g.M.AsChange.files c.args.about.now) ∷ [] = k ∙ (ap (λ t. t.list) n ∙ (m ∙ rw (ap (λ t. t.list) o ∙ p.0, q) refl)) in
    let a : c.take.result ≡ c.self.inside.next = c.take.ensures.value in
    let b : c.take.result ≡ Some c.unwrap-taken.result = c.unwrap-taken.ensures in
    let nx : c.self.inside.next ≡ Some c.unwrap-taken.result = sym a ∙ b in
    let st : StandsIn (c.self.inside.told ++ made c.args.seat (g.M.AsChange.change c.args.about.now) (g.M.AsChange.files c.args.about.now) ∷ []) (arc_value c.unwrap-taken.result.0, c.unwrap-taken.result.1) = rw (← c.self.view_is, nx) at c.requires.next.0 in
    let f : c.show-writing.result.desk.shown.value ≡ ((arc_value c.unwrap-taken.result.0, c.unwrap-taken.result.1), c.note.new.prefix) = c.show-writing.ensures.shown in (
      c.show-writing.result,
      c.replace-empty.ensures.after,
      rw (grown, ap (λ s. s.0) f) st,
      ap (λ s. s.1.book) f ∙ (c.note.ensures.book ∙ (ap (λ t. t.book) o ∙ p.1)),
      rw (ap (λ s. s.1.list) f, k, ap (λ t. t.list) n) (prefix_self c.note.new.prefix.list),
      c.show-writing.ensures.empty,
      c.self.invariant.6 ∙ sym (ap has_stop grown ∙ stop_kept c.self.inside.told _),
    )
