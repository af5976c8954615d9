use Rattle.std.proofs.Common.{Some, ap, ◌∙◌, arith}
use Rattle.st_memtable.specs.Memtable.{lesser}
use Rattle.st_memtable.proofs.Sums.{least_step}
use Rattle.st_memtable.proofs.totals.least_more.Goals as goal

pub loop-entry-preserved : goal.loop-entry-preserved
loop-entry-preserved c =
    c.lesser-least.ensures ∙ ap (λ least. lesser least (Some c.entry-item.result.number)) c.loop-entry.invariant
    ∙ least_step c.args.before c.args.entries.now c.loop-entry.entry-index c.entry-item.result c.entry-item.result.number (omega arith) c.entry-item.is Rattle.std.proofs.Common.refl
