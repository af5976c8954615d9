use Rattle.cmd_text.proofs.FirstLine.{lines_first, lines_last}
use Rattle.cmd_text.proofs.lines.cut_line.Goals as goal

pub returns-in-None-clause-lines : goal.returns-in-None-clause-lines
returns-in-None-clause-lines c = lines_last c.args.text.now c.requires c.in-None.ensures.parts

pub returns-in-Some-clause-lines : goal.returns-in-Some-clause-lines
returns-in-Some-clause-lines c = lines_first c.args.text.now c.in-Some.cut.0.now c.in-Some.cut.1.now c.in-Some.ensures.parts
