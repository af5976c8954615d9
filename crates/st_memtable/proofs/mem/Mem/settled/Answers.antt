use Rattle.std.proofs.Common.{◌≡◌, List, sym, ap, subst, ◌∙◌}
use Rattle.st_base.specs.declared.entry.Entry.{Entry}
use Rattle.st_order.specs.Sorted.{joined, sorted}
use Rattle.st_memtable.specs.Memtable.{MemView}
use Rattle.st_memtable.specs.Runs.{IsMemtable, alone}
use Rattle.st_memtable.proofs.Positions.{sorted_alone, sound_alone}
use Rattle.st_memtable.proofs.mem.Mem.settled.Goals as goal

pub invariant_of-result : goal.invariant_of-result
invariant_of-result c =
    let runs : List (List Entry) = c.self.inside.runs.items in
    let made : c.in_ok-runs.runs.items ≡ alone (sorted (joined runs)) = c.in_ok-runs.ensures ∙ ap alone (c.in_ok-entries.ensures ∙ ap (λ some. sorted (joined some)) c.as_slice.ensures.value) in
    subst (λ (some : List (List Entry)). IsMemtable some c.self.inside.charge c.self.inside.least) (sym made) (sound_alone runs c.self.inside.charge c.self.inside.least c.self.invariant)

pub returns-clause-entries : goal.returns-clause-entries
returns-clause-entries c =
    let runs : List (List Entry) = c.self.inside.runs.items in
    let made : c.in_ok-runs.runs.items ≡ alone (sorted (joined runs)) = c.in_ok-runs.ensures ∙ ap alone (c.in_ok-entries.ensures ∙ ap (λ some. sorted (joined some)) c.as_slice.ensures.value) in
    ap (λ (some : List (List Entry)). sorted (joined some)) made ∙ sorted_alone runs ∙ ap (λ (shown : MemView). shown.entries) c.self.view_is
