use Rattle.std.proofs.Common.{List, [], sym, ap, subst, ◌∙◌, arith}
use Rattle.std.specs.Prelude.{find}
use Rattle.std.specs.List.{AllByRecursion as Each}
use Rattle.std.specs.Option.{option_copied}
use Rattle.st_base.specs.Order.{in_order}
use Rattle.st_base.specs.Rows.{Fits}
use Rattle.st_base.specs.declared.entry.Entry.{Entry}
use Rattle.st_order.specs.Order.{between}
use Rattle.st_memtable.specs.Runs.{lies_in}
use Rattle.st_memtable.proofs.Finding.{found_more}
use Rattle.st_memtable.proofs.Shared.{run_at}
use Rattle.st_memtable.proofs.search.first_of.Goals as goal

pub first_in-requires-clause-ordered : goal.first_in-requires-clause-ordered
first_in-requires-clause-ordered c = ap in_order c.as_slice.ensures.value ∙ c.as_slice.ensures.rows.ordered

pub first_in-requires-clause-within : goal.first_in-requires-clause-within
first_in-requires-clause-within c = subst (λ (run : List Entry). Each Fits run) (sym c.as_slice.ensures.value) c.as_slice.ensures.rows.within

pub loop-run-preserved : goal.loop-run-preserved
loop-run-preserved c =
    found_more (lies_in (between c.args.first.now c.args.last.now)) c.args.runs.now c.loop-run.run-index c.run-item.result (option_copied c.loop-run.found) (option_copied c.first_in.result) (option_copied c.sooner-found.result)
    (omega arith) (run_at c.args.runs.now c.loop-run.run-index c.run-item.result [] c.run-item.is (omega arith)) c.as_slice.ensures.rows.ordered c.loop-run.invariant
    (c.first_in.ensures ∙ ap (λ (run : List Entry). find (lies_in (between c.args.first.now c.args.last.now)) run) c.as_slice.ensures.value)
    c.sooner-found.ensures
