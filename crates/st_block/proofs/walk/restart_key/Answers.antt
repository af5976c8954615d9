use Rattle.std.proofs.Common.{arith}
use Rattle.st_block.specs.Entry.{head_of}
use Rattle.st_block.proofs.Places.{whole_key, no_head}
use Rattle.st_block.proofs.walk.restart_key.Goals as goal

pub returns-in_default : goal.returns-in_default
returns-in_default c = λ before cell next e none. absurd (no_head c.args.area.now before c.args.at (cell, next) c.in_default.ensures.value e)

pub returns-then-end-area : goal.returns-then-end-area
returns-then-end-area c = λ before cell next e none. absurd (let w = whole_key c.args.area.now before c.args.at (cell, next) (head_of c.in-Some.head) c.in-Some.ensures.value e none in omega (arith, w.1))

pub returns : goal.returns
returns c = λ before cell next e none. (whole_key c.args.area.now before c.args.at (cell, next) (head_of c.in-Some.head) c.in-Some.ensures.value e none).0
