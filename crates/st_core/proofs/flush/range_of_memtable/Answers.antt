use Rattle.std.proofs.Common.{◌≡◌, Some, length, slice_get, sym, ap, subst, ◌∙◌}
use Rattle.std.specs.Option.{option_copied}
use Rattle.std.specs.Prelude.{IfOk}
use Rattle.st_memtable.specs.Memtable.{lengths_of, one_run}
use Rattle.st_order.specs.Sorted.{merged}
use Rattle.st_core.proofs.Flushes.{run_range}
use Rattle.st_core.proofs.flush.range_of_memtable.Goals as goal

pub returns-in-Some : goal.returns-in-Some
returns-in-Some c =
    let lengths : lengths_of c.parts.result.now ≡ one_run (length c.args.mem.now.entries) = ap lengths_of c.parts.ensures.runs ∙ c.in_ok-settled.ensures.lengths in
    let is : merged c.parts.result.now ≡ c.args.mem.now.entries = c.parts.ensures.merged ∙ c.in_ok-settled.ensures.entries in
    let first : Some c.in-Some.run'.now ≡ slice_get c.parts.result.now 0 = ap option_copied (sym c.in-Some.is) ∙ c.first.ensures.value in
    subst (λ range. IfOk c.range_of_run.result (λ one. one ≡ range)) (run_range c.parts.result.now c.args.mem.now.entries c.in-Some.run'.now lengths is first c.range_of_run.ensures.rows.ordered) c.range_of_run.ensures.value
