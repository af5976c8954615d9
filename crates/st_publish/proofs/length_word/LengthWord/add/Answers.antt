use Rattle.std.proofs.Common.{◌≡◌, ◌==◌, true, sym, ◌∙◌, ap, arith}
use Rattle.std.proofs.lemmas.Bool.Decides.{nat_tests}
use Rattle.st_publish.proofs.Adding.{adds_moves, prefix_more, changes_fewer}
use Rattle.st_publish.proofs.length_word.LengthWord.add.Goals as goal

pub compare_exchange-found-requires : goal.compare_exchange-found-requires
compare_exchange-found-requires g c =
    let h = c.args.self.now.word_is in
    let offer = c.plain-offer.ensures in
    let pen = c.no_pen-pen.ensures in
    let book = ap (λ s. s.book) c.again-seen.ensures ∙ (ap (λ t. t.book) c.prefix.view_is ∙ c.requires.book) in
    let may = rw (← c.prefix.view_is) at c.requires.calm in (
      ap (λ w. w.tracked) h,
      book ∙ sym (ap (λ w. w.book) h),
      pen.0 ∙ (book ∙ sym (ap (λ w. w.book) h)),
      offer.0,
      rw (ap (λ w. w.key) h, pen.1, offer.1, offer.3, c.requires.plain, ap (λ s. s.log) c.again-seen.ensures) (adds_moves c.prefix.inside.seen.log _ c.prefix.inside.entries (sym c.prefix.invariant.0) may),
    )

pub overflow_add-prefix-inside : goal.overflow_add-prefix-inside
overflow_add-prefix-inside g c =
    let few = changes_fewer c.prefix.inside.seen.log in
    let room = rw (← c.prefix.view_is) at c.requires.room in
    omega (arith, few, room, c.prefix.invariant.1, c.requires.places.0)

pub invariant_of-prefix : goal.invariant_of-prefix
invariant_of-prefix g c =
    let may = rw (← c.prefix.view_is) at c.requires.calm in
    let told = c.compare_exchange-found.ensures in
    let found : c.compare_exchange-found.result ≡ c.prefix.inside.entries = c.if-found-entries.false in
    let hit : (c.compare_exchange-found.result == c.prefix.inside.entries) ≡ true = grind (arith, nat_tests) in
    let added = rw (hit, ap (λ s. s.log) c.again-seen.ensures, c.plain-offer.ensures.1) at told.7 in
    prefix_more c.prefix.inside.seen.log _ _ c.prefix.inside.entries c.prefix.inside.place c.args.places added c.prefix.invariant.0 c.prefix.invariant.1 c.requires.places.1 c.prefix.invariant.2 may
