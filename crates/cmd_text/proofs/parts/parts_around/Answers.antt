use Rattle.cmd_text.proofs.Readers.{around_more}
use Rattle.cmd_text.proofs.parts.parts_around.Goals as goal

pub returns-in-Some : goal.returns-in-Some
returns-in-Some c = around_more c.args.byte c.args.word.now _ _ _ _ c.in_ok-front.ensures.parts c.in-Some.ensures.parts
