use Rattle.std.proofs.Common.{◌<◌, length, Some, sym, ap, ◌∙◌, arith}
use Rattle.std.proofs.lemmas.List.Sums.{prefix_len-le-length}
use Rattle.st_base.specs.Bytes.{at_most}
use Rattle.st_base.specs.Order.{is_before}
use Rattle.st_order.specs.Order.{between}
use Rattle.st_order.proofs.Halves.{first_found, first_none, first_past}
use Rattle.st_memtable.specs.Runs.{lies_in, values}
use Rattle.st_memtable.proofs.Finding.{position_finds, position_misses}
use Rattle.st_memtable.proofs.Shared.{long_of, there_at}
use Rattle.st_memtable.proofs.search.first_in.Goals as goal

pub returns-then-index-run : goal.returns-then-index-run
returns-then-index-run c =
    position_misses (lies_in (between c.args.first.now c.args.last.now)) (values c.args.run.now)
    (first_none (values c.args.run.now) c.args.first.now c.args.last.now c.requires.ordered c.requires.within
    (record { key = c.args.first.now; number = 0; mark = Rattle.st_base.specs.declared.entry.Mark.TheVariants.Gone })
    (let end = c.if-index-run.true in omega (arith, end, c.lower_in-index.ensures, long_of c.args.run.now)))

pub offset_bounds-run-index : goal.offset_bounds-run-index
offset_bounds-run-index c = omega (arith, long_of c.args.run.now, c.lower_in-index.ensures, prefix_len-le-length (is_before c.args.first.now 18446744073709551615) (values c.args.run.now))

pub bounds-run-index : goal.bounds-run-index
bounds-run-index c = omega (arith, long_of c.args.run.now, c.lower_in-index.ensures, c.if-index-run.false, prefix_len-le-length (is_before c.args.first.now 18446744073709551615) (values c.args.run.now))

pub returns-then-at_most : goal.returns-then-at_most
returns-then-at_most c =
    let lt : c.lower_in-index.result < length c.args.run.now = omega (arith, long_of c.args.run.now, c.lower_in-index.ensures, c.if-index-run.false, prefix_len-le-length (is_before c.args.first.now 18446744073709551615) (values c.args.run.now)) in
    let there = there_at c.args.run.now c.lower_in-index.result c.index-run-index.result lt c.index-run-index.is ∙ ap Some (sym c.deref-entry.ensures) in
    position_finds (lies_in (between c.args.first.now c.args.last.now)) (values c.args.run.now) c.lower_in-index.result c.deref-entry.result.now
    (first_found (values c.args.run.now) c.args.first.now c.args.last.now c.requires.ordered c.requires.within c.lower_in-index.result c.deref-entry.result.now c.lower_in-index.ensures there
    (ap (λ key. at_most key c.args.last.now) (sym c.as_bytes.ensures.value) ∙ sym c.at_most.ensures ∙ c.if-at_most.true)) there

pub returns-else-at_most : goal.returns-else-at_most
returns-else-at_most c =
    let lt : c.lower_in-index.result < length c.args.run.now = omega (arith, long_of c.args.run.now, c.lower_in-index.ensures, c.if-index-run.false, prefix_len-le-length (is_before c.args.first.now 18446744073709551615) (values c.args.run.now)) in
    let there = there_at c.args.run.now c.lower_in-index.result c.index-run-index.result lt c.index-run-index.is ∙ ap Some (sym c.deref-entry.ensures) in
    position_misses (lies_in (between c.args.first.now c.args.last.now)) (values c.args.run.now)
    (first_past (values c.args.run.now) c.args.first.now c.args.last.now c.requires.ordered c.requires.within c.lower_in-index.result c.deref-entry.result.now c.lower_in-index.ensures there
    (ap (λ key. at_most key c.args.last.now) (sym c.as_bytes.ensures.value) ∙ sym c.at_most.ensures ∙ c.if-at_most.false))
