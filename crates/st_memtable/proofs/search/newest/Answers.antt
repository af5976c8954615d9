use Rattle.std.proofs.Common.{List, [], ap, ◌∙◌, arith}
use Rattle.std.specs.Prelude.{find}
use Rattle.std.specs.Option.{option_copied}
use Rattle.st_base.specs.Order.{in_order}
use Rattle.st_base.specs.declared.entry.Entry.{Entry}
use Rattle.st_memtable.specs.Runs.{suits}
use Rattle.st_memtable.proofs.Finding.{found_more}
use Rattle.st_memtable.proofs.Shared.{run_at}
use Rattle.st_memtable.proofs.search.newest.Goals as goal

pub newest_in-requires : goal.newest_in-requires
newest_in-requires c = ap in_order c.as_slice.ensures.value ∙ c.as_slice.ensures.rows.ordered

pub loop-run-preserved : goal.loop-run-preserved
loop-run-preserved c =
    found_more (suits c.args.key.now c.args.number) c.args.runs.now c.loop-run.run-index c.run-item.result (option_copied c.loop-run.found) (option_copied c.newest_in.result) (option_copied c.sooner-found.result)
    (omega arith) (run_at c.args.runs.now c.loop-run.run-index c.run-item.result [] c.run-item.is (omega arith)) c.as_slice.ensures.rows.ordered c.loop-run.invariant
    (c.newest_in.ensures ∙ ap (λ (run : List Entry). find (suits c.args.key.now c.args.number) run) c.as_slice.ensures.value)
    c.sooner-found.ensures
