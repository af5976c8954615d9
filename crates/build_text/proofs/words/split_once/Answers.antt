use Rattle.std.proofs.Common.{sym}
use Rattle.build_text.proofs.Cutting.{parts_around, parts_first, parts_last}
use Rattle.build_text.proofs.words.split_once.Goals as goal

pub returns-in-None-clause-parts : goal.returns-in-None-clause-parts
returns-in-None-clause-parts c = parts_last c.args.separator c.args.bytes.now (sym c.in-None.ensures)

pub returns-in-Some-clause-cut : goal.returns-in-Some-clause-cut
returns-in-Some-clause-cut c = parts_around c.args.separator c.args.bytes.now c.in-Some.end (sym c.in-Some.ensures)

pub returns-in-Some-clause-parts : goal.returns-in-Some-clause-parts
returns-in-Some-clause-parts c = parts_first c.args.separator c.args.bytes.now c.in-Some.end (sym c.in-Some.ensures)
