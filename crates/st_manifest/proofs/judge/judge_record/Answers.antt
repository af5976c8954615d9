use Rattle.std.proofs.Common.{◌∙◌, Bool, map, subst, sym}
use Rattle.st_manifest.specs.Edit.{as_edit}
use Rattle.st_manifest.specs.Judging.{AreJudged}
use Rattle.st_manifest.proofs.Judges.{judged_right_so, judged_wrong_so}
use Rattle.st_manifest.proofs.judge.judge_record.Goals as goal

pub returns-then-branch : goal.returns-then-branch
returns-then-branch c = λ so_far left named.
    judged_right_so c.args.index.now c.are_right.new.index (record { at = c.args.at; left = left; edits = map as_edit c.args.edits.now }) c.args.fault so_far (sym c.is_some.ensures ∙ c.if-is_some.false) named
    (λ mid known. subst (λ (b : Bool). AreJudged c.are_right.new.index mid (map as_edit c.args.edits.now) b) c.if-branch.true (c.in_ok-are_right.ensures mid known))

pub returns-else-branch : goal.returns-else-branch
returns-else-branch c = λ so_far left named.
    judged_wrong_so c.args.index.now c.are_right.new.index (record { at = c.args.at; left = left; edits = map as_edit c.args.edits.now }) c.args.fault so_far (sym c.is_some.ensures ∙ c.if-is_some.false) named
    (λ mid known. subst (λ (b : Bool). AreJudged c.are_right.new.index mid (map as_edit c.args.edits.now) b) c.if-branch.false (c.in_ok-are_right.ensures mid known))
