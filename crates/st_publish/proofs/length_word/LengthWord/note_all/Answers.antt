use Rattle.std.proofs.Common.{◌≡◌, true, take, sym, ◌∙◌, ap}
use Rattle.st_publish.specs.History.{has_stop}
use Rattle.st_publish.specs.Standing.{is_quiet}
use Rattle.st_publish.proofs.Many.{stop_before}
use Rattle.st_publish.proofs.length_word.LengthWord.note_all.Goals as goal

pub note-requires-clause-calm : goal.note-requires-clause-calm
note-requires-clause-calm g c h =
    let log = c.args.prefix.now.list in
    let k = c.loop-item.item-index in
    let stop : has_stop log ≡ true = sym (stop_before g.M.AsChange.change g.M.AsChange.files log (take k c.args.items.now)) ∙ (ap has_stop (sym c.loop-item.invariant.1) ∙ h) in
    ap (λ v. is_quiet (g.M.AsChange.change v)) (c.of.ensures ∙ ap (λ p. p.1) c.item-item.is) ∙ c.requires.calm stop k c.item-item.result c.loop-item-test.true
