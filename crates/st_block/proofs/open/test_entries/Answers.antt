use Rattle.std.proofs.Common.{take, ◌∷◌, [], ◌++◌, refl, rules}
use Rattle.st_block.specs.Entry.{cell_of}
use Rattle.st_block.proofs.Tested.{goes_on, fails, is_done}
use Rattle.st_block.proofs.open.test_entries.Goals as goal

pub returns-in_err-read-clause-err : goal.returns-in_err-read-clause-err
returns-in_err-read-clause-err c =
    let h = fails c.args.kind c.args.text.now (take c.args.tail.end c.args.text.now) c.args.tail c.loop-at.scratch c.loop-at.at c.loop-at.entries c.loop-at.met c.loop-at.invariant.0 c.loop-at.invariant.1
    c.in_err-read.field-0.0 c.loop-at-test.true c.in_err-read.ensures.err in
    search rules

pub loop-at-preserved : goal.loop-at-preserved
loop-at-preserved c =
    let area = take c.args.tail.end c.args.text.now in
    let cell = cell_of area c.loop-at.at c.next_cell.new.scratch c.in_ok-read.read in (
      c.loop-at.invariant.0 ++ cell ∷ [],
      goes_on c.args.kind c.args.text.now area c.args.tail c.loop-at.scratch c.loop-at.at c.loop-at.entries c.loop-at.met c.loop-at.invariant.0 c.loop-at.invariant.1
          cell c.in_ok-read.read.next c.met_by-met.result c.loop-at-test.true c.in_ok-read.ensures.ok.0 c.in_ok-read.ensures.ok.1.behind c.in_ok-read.ensures.ok.1.within c.in_ok-read.ensures.ok.2
          (c.met_by-met.ensures.left cell refl refl) c.met_by-met.ensures.within,
    )

pub returns-clause-ok : goal.returns-clause-ok
returns-clause-ok c =
    (c.loop-at.invariant.0, is_done c.args.kind c.args.text.now (take c.args.tail.end c.args.text.now) c.args.tail c.loop-at.scratch c.loop-at.at c.loop-at.entries c.loop-at.met c.loop-at.invariant.0 c.loop-at.invariant.1 _ c.loop-at-test.false refl refl)
