use Rattle.std.proofs.Common.{◌∙◌, sym}
use Rattle.st_manifest.proofs.Judges.{ends_here}
use Rattle.st_manifest.proofs.judge.ends_with_last.Goals as goal

pub returns-then-is_last : goal.returns-then-is_last
returns-then-is_last c = sym (ends_here c.args.edits.now c.loop-i.i c.loop-i.invariant c.index-edits-i.result c.loop-i-test.true c.index-edits-i.is (sym c.is_last.ensures ∙ c.if-is_last.true))
