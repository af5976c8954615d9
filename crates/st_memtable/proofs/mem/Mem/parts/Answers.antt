use Rattle.std.proofs.Common.{◌≡◌, List, refl, ap, ◌∙◌}
use Rattle.st_base.specs.declared.entry.Entry.{Entry}
use Rattle.st_order.specs.Sorted.{joined, merged, sorted}
use Rattle.st_memtable.specs.Memtable.{MemView}
use Rattle.st_memtable.proofs.mem.Mem.parts.Goals as goal

merged_is : (runs : List (List Entry)) → merged runs ≡ sorted (joined runs)
unfolding merged
merged_is runs = refl

pub returns-clause-merged : goal.returns-clause-merged
returns-clause-merged c =
    ap merged c.as_slice.ensures.value ∙ merged_is c.self.inside.runs.items ∙ ap (λ (shown : MemView). shown.entries) c.self.view_is
