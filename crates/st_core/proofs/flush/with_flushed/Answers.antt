use Rattle.std.proofs.Common.{◌≡◌, [], ap, subst, ◌∙◌}
use Rattle.std.specs.Prelude.{IfOk}
use Rattle.core_model.specs.Compaction.{without_last}
use Rattle.st_memtable.specs.Memtable.{MemView}
use Rattle.st_version.specs.Held.{entries_in, tables_of}
use Rattle.st_version.specs.Replace.{replaced}
use Rattle.st_core.proofs.Flushes.{flushed_is}
use Rattle.st_core.proofs.flush.with_flushed.Goals as goal

pub returns : goal.returns
returns g c =
    subst (λ family. IfOk c.with_memtables.result (λ next. next ≡ family))
    (flushed_is c.args.family.now c.in_ok-placed.placed c.args.output.now.value.table c.in_ok-clone.field-0.value.entries (entries_in c.in_ok-without_oldest.field-0)
    (c.in_ok-placed.ensures ∙ ap (λ tables. replaced [] 0 tables c.args.family.now) (ap tables_of c.as_slice.ensures ∙ c.in_ok-outputs.ensures))
    (ap (λ (mem : MemView). mem.entries) c.in_ok-clone.ensures.cases ∙ c.mem.ensures)
    (c.in_ok-without_oldest.ensures ∙ ap without_last c.sealed.ensures)
    (c.replace_is_the_cores.ensures.placed 0 c.args.output.now.value.table c.args.family.now))
    c.with_memtables.ensures
