use Rattle.std.proofs.Common.{◌≡◌, ◌∷◌, [], ◌∙◌, ap, refl, rules}
use Rattle.std.specs.Arc.{arc_value}
use Rattle.st_publish.specs.declared.entry.HistoryEntry.TheVariants.{Opened}
use Rattle.st_publish.specs.History.{has_stop}
use Rattle.st_publish.proofs.Prefixes.{prefix_self}
use Rattle.st_publish.proofs.opening.open_history.Goals as goal

pub show-writer-requires-clause-later : goal.show-writer-requires-clause-later
show-writer-requires-clause-later g c =
    let f : c.in_ok-writer.writer.desk.shown.value ≡ ((arc_value c.args.state, 0), c.again-2.result) = c.in_ok-writer.ensures.0 in
    let o : c.again-2.result ≡ c.note.new.prefix = c.again-2.ensures in
    (ap (λ s. s.1.book) f ∙ ap (λ t. t.book) o, rw (ap (λ s. s.1.list) f, ap (λ t. t.list) o) (prefix_self c.note.new.prefix.list))

pub begun-requires-clause-stopped : goal.begun-requires-clause-stopped
begun-requires-clause-stopped g c =
    let first : c.of-told.result ≡ Opened (arc_value c.args.state) ∷ [] = c.of-told.ensures ∙ (ap (λ t. t.list) c.again.ensures ∙ (c.note.ensures.list ∙ rw (c.named-word.ensures.0, c.of.ensures, c.deref.ensures) refl)) in
    ap has_stop first

pub returns-in-Ok-clause-publisher : goal.returns-in-Ok-clause-publisher
returns-in-Ok-clause-publisher g c =
    let first : c.of-told.result ≡ Opened (arc_value c.args.state) ∷ [] = c.of-told.ensures ∙ (ap (λ t. t.list) c.again.ensures ∙ (c.note.ensures.list ∙ rw (c.named-word.ensures.0, c.of.ensures, c.deref.ensures) refl)) in
    let last : c.show-writer.result.desk.shown.value ≡ ((arc_value c.in_ok-third.third, 0), c.note.new.prefix) = c.show-writer.ensures.shown in
    let same : arc_value c.in_ok-third.third ≡ arc_value c.args.state = search rules in
    (c.begun.ensures.0 ∙ first, c.begun.ensures.1 ∙ (ap (λ w. w.value.0) c.viewers_of.ensures.kept.0 ∙ (ap (λ s. s.0) last ∙ ap (λ v. (v, 0)) same)), c.begun.ensures.2)

pub returns-in-Ok-clause-viewers : goal.returns-in-Ok-clause-viewers
returns-in-Ok-clause-viewers g c =
    let first : c.of-told.result ≡ Opened (arc_value c.args.state) ∷ [] = c.of-told.ensures ∙ (ap (λ t. t.list) c.again.ensures ∙ (c.note.ensures.list ∙ rw (c.named-word.ensures.0, c.of.ensures, c.deref.ensures) refl)) in
    (c.in-Ok.ensures.seats, λ k d lt. c.in-Ok.ensures.told k d lt ∙ first)
