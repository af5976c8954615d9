use Rattle.std.proofs.Common.{◌≡◌, ◌++◌, sym, ◌∙◌, ap, refl, Some, map}
use Rattle.std.specs.Arc.{arc_value}
use Rattle.st_publish.specs.History.{StandsIn, has_stop, made}
use Rattle.st_publish.proofs.Many.{stop_before}
use Rattle.st_publish.proofs.Prefixes.{prefix_self}
use Rattle.st_publish.proofs.publisher.Publisher.publish_all.Goals as goal

pub invariant_of-self : goal.invariant_of-self
invariant_of-self g c =
    let k = c.of.ensures in
    let m = c.note_all.ensures.list in
    let n = c.again.ensures in
    let o = c.again-prefix.ensures in
    let p = c.prefix.ensures in
    let grown : c.of.result ≡ c.self.inside.told ++ map (λ p. made p.0 (g.M.AsChange.change p.1) (g.M.AsChange.files p.1)) c.args.items.now = k ∙ (ap (λ t. t.list) n ∙ (m ∙ rw (ap (λ t. t.list) o ∙ p.0) refl)) in
    let a : c.take.result ≡ c.self.inside.next = c.take.ensures.value in
    let b : c.take.result ≡ Some c.unwrap-taken.result = c.unwrap-taken.ensures in
    let nx : c.self.inside.next ≡ Some c.unwrap-taken.result = sym a ∙ b in
    let st : StandsIn (c.self.inside.told ++ map (λ p. made p.0 (g.M.AsChange.change p.1) (g.M.AsChange.files p.1)) c.args.items.now) (arc_value c.unwrap-taken.result.0, c.unwrap-taken.result.1) = rw (← c.self.view_is, nx) at c.requires.next.0 in
    let f : c.show-writing.result.desk.shown.value ≡ ((arc_value c.unwrap-taken.result.0, c.unwrap-taken.result.1), c.note_all.new.prefix) = c.show-writing.ensures.shown in (
      c.show-writing.result,
      c.replace-empty.ensures.after,
      rw (grown, ap (λ s. s.0) f) st,
      ap (λ s. s.1.book) f ∙ (c.note_all.ensures.book ∙ (ap (λ t. t.book) o ∙ p.1)),
      rw (ap (λ s. s.1.list) f, k, ap (λ t. t.list) n) (prefix_self c.note_all.new.prefix.list),
      c.show-writing.ensures.empty,
      c.self.invariant.6 ∙ sym (ap has_stop grown ∙ stop_before g.M.AsChange.change g.M.AsChange.files c.self.inside.told c.args.items.now),
    )

pub note_all-requires-clause-calm : goal.note_all-requires-clause-calm
note_all-requires-clause-calm g c h =
    let o : c.again-prefix.result.list ≡ c.self.inside.told = ap (λ t. t.list) c.again-prefix.ensures ∙ c.prefix.ensures.0 in
    let v : c.self.inside.told ≡ c.args.self.now.list = ap (λ b. b.list) c.self.view_is in
    c.requires.quiet (sym (ap has_stop v) ∙ (ap has_stop (sym o) ∙ h))
