use Rattle.std.proofs.Common.{Some, [], ◌∷◌, ap, ◌∙◌}
use Rattle.std.specs.Prelude.{find, option_map}
use Rattle.st_base.specs.declared.entry.Entry.{Entry}
use Rattle.st_order.specs.Least.{least_within}
use Rattle.st_order.specs.Order.{between}
use Rattle.st_order.specs.Sorted.{joined, sorted}
use Rattle.st_memtable.specs.Memtable.{MemView}
use Rattle.st_memtable.specs.Runs.{lies_in}
use Rattle.st_memtable.proofs.Finding.{least_is_first}
use Rattle.st_memtable.proofs.mem.Mem.range_has.Goals as goal

pub returns-in-Some : goal.returns-in-Some
returns-in-Some c =
    ap Some c.as_bytes.ensures.value
    ∙ ap (option_map (λ (entry : Entry). entry.key)) (c.in-Some.ensures ∙ ap (λ some. find (lies_in (between c.args.first.now c.args.last.now)) (sorted (joined some))) c.as_slice.ensures.value)
    ∙ least_is_first (between c.args.first.now c.args.last.now) (sorted (joined c.self.inside.runs.items)) c.self.invariant.parts.whole
    ∙ ap (λ (shown : MemView). least_within (between c.args.first.now c.args.last.now) (shown.entries ∷ [])) c.self.view_is

pub returns-in-None : goal.returns-in-None
returns-in-None c =
    ap (option_map (λ (entry : Entry). entry.key)) (c.in-None.ensures ∙ ap (λ some. find (lies_in (between c.args.first.now c.args.last.now)) (sorted (joined some))) c.as_slice.ensures.value)
    ∙ least_is_first (between c.args.first.now c.args.last.now) (sorted (joined c.self.inside.runs.items)) c.self.invariant.parts.whole
    ∙ ap (λ (shown : MemView). least_within (between c.args.first.now c.args.last.now) (shown.entries ∷ [])) c.self.view_is
