use Rattle.std.proofs.Common.{sym, ap, ◌∙◌, arith}
use Rattle.st_order.specs.Columns.{of_key}
use Rattle.job_model.specs.Column.{found_at}
use Rattle.st_base.specs.Rows.{mark_of}
use Rattle.st_memtable.specs.Memtable.{MemView}
use Rattle.st_version.specs.Held.{SharedMem}
use Rattle.st_version.proofs.Steps.{is_here, not_here}
use Rattle.st_version.proofs.finding.in_memtables.Goals as goal

pub returns-in-Some : goal.returns-in-Some
returns-in-Some c =
    sym (c.loop-mem.invariant ∙ is_here (λ (mem : SharedMem). mem.value.entries) c.args.key.now c.args.number c.args.memtables.now c.loop-mem.mem-index c.mem-item.result (mark_of c.in-Some.mark) (omega arith) c.mem-item.is
    (sym (c.in-Some.ensures ∙ ap (λ (mem : MemView). found_at c.args.number (of_key c.args.key.now mem.entries)) c.deref.ensures)))

pub loop-mem-preserved : goal.loop-mem-preserved
loop-mem-preserved c =
    c.loop-mem.invariant ∙ not_here (λ (mem : SharedMem). mem.value.entries) c.args.key.now c.args.number c.args.memtables.now c.loop-mem.mem-index c.mem-item.result (omega arith) c.mem-item.is
    (sym (c.in_default.ensures ∙ ap (λ (mem : MemView). found_at c.args.number (of_key c.args.key.now mem.entries)) c.deref.ensures))
