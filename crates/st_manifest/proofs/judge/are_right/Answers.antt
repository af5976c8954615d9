use Rattle.std.proofs.Common.{Bool, arith, subst}
use Rattle.named_index.specs.Knows.{IsJudged}
use Rattle.st_manifest.specs.Edit.{as_edit}
use Rattle.st_manifest.proofs.Judges.{all_right, goes_on, stops_wrong}
use Rattle.st_manifest.proofs.judge.are_right.Goals as goal

pub returns-then-not-branch : goal.returns-then-not-branch
returns-then-not-branch c = λ named knows.
    stops_wrong c.args.edits.now c.loop-edit.edit-index named c.loop-edit.index c.judge.new.index c.edit-item.result (c.loop-edit.invariant named knows) c.loop-edit-test.true c.edit-item.is
    (λ mid known. subst (λ (b : Bool). IsJudged c.judge.new.index mid (as_edit c.edit-item.result) b) c.if-not-branch.true (c.in_ok-judge.ensures mid known))

pub loop-edit-preserved : goal.loop-edit-preserved
loop-edit-preserved c = λ named knows.
    goes_on c.args.edits.now c.loop-edit.edit-index named c.loop-edit.index c.judge.new.index c.edit-item.result (c.loop-edit.invariant named knows) c.loop-edit-test.true c.edit-item.is
    (λ mid known. subst (λ (b : Bool). IsJudged c.judge.new.index mid (as_edit c.edit-item.result) b) c.if-not-branch.false (c.in_ok-judge.ensures mid known))

pub returns : goal.returns
returns c = λ named knows. all_right c.args.edits.now c.loop-edit.edit-index named c.loop-edit.index (c.loop-edit.invariant named knows) (let past = c.loop-edit-test.false in omega (arith, past))
