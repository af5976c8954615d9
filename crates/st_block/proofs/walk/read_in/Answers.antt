use Rattle.std.proofs.Common.{◌≡◌, take, length, [], sym, subst, refl, arith, ℕ}
use Rattle.std.proofs.lemmas.List.{length-take}
use Rattle.st_block.specs.Entry.{cell_of}
use Rattle.st_block.specs.BlockContents.{cells_at, block_contents_in}
use Rattle.st_block.proofs.Laid.{entries_laid}
use Rattle.st_block.proofs.Places.{end_none, never_none, takes}
use Rattle.st_block.proofs.Choices.{some_map, none_map}
use Rattle.st_block.proofs.walk.read_in.Goals as goal

pub returns-then-at-layout-clause-none : goal.returns-then-at-layout-clause-none
returns-then-at-layout-clause-none c =
    let area = take c.args.layout.end c.args.text.now in
    let block = block_contents_in c.args.kind c.args.text.now c.args.layout in
    let lie = entries_laid c.args.kind area block.cells c.requires.lies.area in
    let end : length area ≡ c.args.layout.end = omega (arith, length-take c.args.layout.end c.args.text.now, c.requires.lies.room) in
    (subst (λ (k : ℕ). cells_at k block.cells ≡ []) (sym c.if-at-layout.true) (end_none area block lie end), refl)

pub returns-clause-found : goal.returns-clause-found
returns-clause-found c =
    let area = take c.args.layout.end c.args.text.now in
    let block = block_contents_in c.args.kind c.args.text.now c.args.layout in
    let lie = entries_laid c.args.kind area block.cells c.requires.lies.area in
    let end : length area ≡ c.args.layout.end = omega (arith, length-take c.args.layout.end c.args.text.now, c.requires.lies.room) in
    some_map _ _ c.read_at.result
    (λ read p. ((cell_of area c.args.at c.read_at.new.scratch read, takes area block lie end c.args.at c.args.scratch.now c.requires.stands c.if-at-layout.false (cell_of area c.args.at c.read_at.new.scratch read, read.next) p.0), p.1))
    c.read_at.ensures.found

pub returns-clause-none : goal.returns-clause-none
returns-clause-none c =
    let area = take c.args.layout.end c.args.text.now in
    let block = block_contents_in c.args.kind c.args.text.now c.args.layout in
    let lie = entries_laid c.args.kind area block.cells c.requires.lies.area in
    let end : length area ≡ c.args.layout.end = omega (arith, length-take c.args.layout.end c.args.text.now, c.requires.lies.room) in
    none_map _ _ c.read_at.result (λ p. absurd (never_none area block lie end c.args.at c.args.scratch.now c.requires.stands c.if-at-layout.false p.0)) c.read_at.ensures.none
