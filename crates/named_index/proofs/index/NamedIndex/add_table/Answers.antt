use Rattle.std.proofs.Common.{sym}
use Rattle.named_index.proofs.index.NamedIndex.add_table.Goals as goal

pub returns-in-Some : goal.returns-in-Some
returns-in-Some c = λ named length number knows. c.own_table.ensures named length number knows (sym c.in-Some.ensures.value)
