use Rattle.std.proofs.Common.{◌≡◌, ◌++◌, List, length, sym, ap, subst, ◌∙◌}
use Rattle.st_base.specs.declared.entry.Entry.{Entry}
use Rattle.st_order.specs.Columns.{Pairwise}
use Rattle.st_order.specs.Sorted.{joined, sorted}
use Rattle.st_memtable.specs.Memtable.{AreAbove, DifferInPosition, MemView, lengths_of, with_memory_entries}
use Rattle.st_memtable.proofs.Halves.{take_whole, with_none}
use Rattle.st_memtable.proofs.Positions.{memtable_more, with_is}
use Rattle.st_memtable.proofs.mem.Mem.with.Goals as goal

pub returns-then-is_empty-clause-lengths : goal.returns-then-is_empty-clause-lengths
returns-then-is_empty-clause-lengths c =
    let made : c.in_ok-shared.shared.items ≡ c.args.self.now.runs =
    c.in_ok-shared.ensures ∙ take_whole c.len.result c.as_slice.result.now (c.len.ensures ∙ c.self.inside.runs.ok.0 ∙ ap length (sym c.as_slice.ensures.value))
    ∙ c.as_slice.ensures.value ∙ ap (λ (shown : MemView). shown.runs) c.self.view_is in
    ap lengths_of made ∙ sym (with_none (lengths_of c.args.self.now.runs) (length c.args.entries.now) (ap length (c.is_empty.ensures.0 c.if-is_empty.true)))

pub more_runs-requires-clause-above : goal.more_runs-requires-clause-above
more_runs-requires-clause-above c =
    let above : AreAbove (sorted (joined c.self.inside.runs.items)) c.args.entries.now = subst (λ (shown : MemView). AreAbove shown.entries c.args.entries.now) (sym c.self.view_is) c.requires.above in
    subst (λ (some : List (List Entry)). AreAbove (sorted (joined some)) c.as_slice-new.result.now) (sym c.as_slice-older.ensures.value)
    (subst (λ (some : List Entry). AreAbove (sorted (joined c.self.inside.runs.items)) some) (sym c.as_slice-new.ensures) above)

pub invariant_of-result-2 : goal.invariant_of-result-2
invariant_of-result-2 c =
    let runs : List (List Entry) = c.self.inside.runs.items in
    let whole : sorted (joined c.in_ok-runs.runs.items) ≡ sorted (joined runs ++ c.as_slice-new.result.now) =
    c.in_ok-runs.ensures.all ∙ ap (λ (some : List (List Entry)). sorted (joined some ++ c.as_slice-new.result.now)) c.as_slice-older.ensures.value in
    memtable_more runs c.in_ok-runs.runs.items c.as_slice-new.result.now c.self.inside.charge c.charge_more-charge.result c.self.inside.least c.least_more-least.result
    c.self.invariant c.in_ok-runs.ensures.runs whole c.charge_more-charge.ensures.within c.charge_more-charge.ensures.charge c.least_more-least.ensures

pub returns-clause-entries : goal.returns-clause-entries
returns-clause-entries c =
    let runs : List (List Entry) = c.self.inside.runs.items in
    let whole : sorted (joined c.in_ok-runs.runs.items) ≡ sorted (joined runs ++ c.as_slice-new.result.now) =
    c.in_ok-runs.ensures.all ∙ ap (λ (some : List (List Entry)). sorted (joined some ++ c.as_slice-new.result.now)) c.as_slice-older.ensures.value in
    let above : AreAbove (sorted (joined runs)) c.args.entries.now = subst (λ (shown : MemView). AreAbove shown.entries c.args.entries.now) (sym c.self.view_is) c.requires.above in
    with_is runs c.in_ok-runs.runs.items c.as_slice-new.result.now whole (subst (λ (some : List Entry). AreAbove (sorted (joined runs)) some) (sym c.as_slice-new.ensures) above)
    (subst (λ (some : List Entry). Pairwise DifferInPosition some) (sym c.as_slice-new.ensures) c.requires.apart)
    ∙ ap (λ (some : List Entry). with_memory_entries (sorted (joined runs)) some) c.as_slice-new.ensures
    ∙ ap (λ (shown : MemView). with_memory_entries shown.entries c.args.entries.now) c.self.view_is
