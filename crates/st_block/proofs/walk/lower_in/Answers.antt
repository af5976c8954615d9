use Rattle.std.proofs.Common.{rules, refl, sym, ap, ◌∙◌, length, arith}
use Rattle.st_block.specs.BlockContents.{cells_from_place}
use Rattle.st_block.proofs.Counting.{short}
use Rattle.st_block.proofs.Searching.{begins, skipped, stays}
use Rattle.st_block.proofs.walk.lower_in.Goals as goal

pub loop-read-init : goal.loop-read-init
loop-read-init g c =
    let start = c.start_of-at.ensures in
    record {
      stands = begins c.args.kind c.args.text.now c.args.layout c.requires.lies c.args.key.now c.args.number c.start_of-at.result c.args.scratch.now start.start;
      place = skipped c.args.kind c.args.text.now c.args.layout c.requires.lies c.args.key.now c.args.number c.start_of-at.result c.requires.order start.start;
      walked = record { from = c.start_of-at.result; last = start.last; begun = c.start_of-at.new.steps; counted = start.counted; halved = start.halved; moved = omega arith; passed = refl };
    }

pub returns-then-not-is_key_before-clause-short : goal.returns-then-not-is_key_before-clause-short
returns-then-not-is_key_before-clause-short g c =
    let i = c.loop-read.invariant in
    let found = c.in-Some.ensures.found.0 in
    let w = i.walked in
    short c.args.kind c.args.text.now c.args.layout c.args.key.now c.args.number c.args.steps.now c.loop-read.at c.loop-read.steps _ w
    (stays c.args.kind c.args.text.now c.args.layout c.requires.lies c.args.key.now c.args.number c.loop-read.at c.in-Some.read.next c.read_in.new.scratch _ found.0 found.1 (search rules) i.place)
    (omega (arith, c.tick.ensures, w.counted, w.moved))

pub returns-in_default-clause-short : goal.returns-in_default-clause-short
returns-in_default-clause-short g c =
    let i = c.loop-read.invariant in
    let none = c.in_default.ensures.none.0 in
    let w = i.walked in
    short c.args.kind c.args.text.now c.args.layout c.args.key.now c.args.number c.args.steps.now c.loop-read.at c.loop-read.steps _ w
    (ap length (none ∙ sym (i.place ∙ ap (cells_from_place c.args.key.now c.args.number) none)))
    (omega (arith, w.counted, w.moved))
