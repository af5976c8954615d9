use Rattle.std.proofs.Common.{◌<◌, length, Some, sym, ap, ◌∙◌, arith}
use Rattle.std.proofs.lemmas.List.Sums.{prefix_len-le-length}
use Rattle.st_base.specs.Bytes.{same}
use Rattle.st_base.specs.Order.{is_before}
use Rattle.st_memtable.specs.Runs.{values}
use Rattle.st_memtable.proofs.Finding.{newest_here, newest_other, newest_past}
use Rattle.st_memtable.proofs.Shared.{long_of, there_at}
use Rattle.st_memtable.proofs.search.newest_in.Goals as goal

pub returns-then-index-run : goal.returns-then-index-run
returns-then-index-run c =
    newest_past (values c.args.run.now) c.args.key.now c.args.number c.requires c.lower_in-index.result c.lower_in-index.ensures (let end = c.if-index-run.true in omega (arith, end, long_of c.args.run.now))

pub offset_bounds-run-index : goal.offset_bounds-run-index
offset_bounds-run-index c = omega (arith, long_of c.args.run.now, c.lower_in-index.ensures, prefix_len-le-length (is_before c.args.key.now c.args.number) (values c.args.run.now))

pub bounds-run-index : goal.bounds-run-index
bounds-run-index c = omega (arith, long_of c.args.run.now, c.lower_in-index.ensures, c.if-index-run.false, prefix_len-le-length (is_before c.args.key.now c.args.number) (values c.args.run.now))

pub returns-then-eq : goal.returns-then-eq
returns-then-eq c =
    let lt : c.lower_in-index.result < length c.args.run.now = omega (arith, long_of c.args.run.now, c.lower_in-index.ensures, c.if-index-run.false, prefix_len-le-length (is_before c.args.key.now c.args.number) (values c.args.run.now)) in
    let there = there_at c.args.run.now c.lower_in-index.result c.index-run-index.result lt c.index-run-index.is ∙ ap Some (sym c.deref-entry.ensures) in
    newest_here (values c.args.run.now) c.args.key.now c.args.number c.requires c.lower_in-index.result c.deref-entry.result.now c.lower_in-index.ensures there
    (ap (λ key. same key c.args.key.now) (sym c.as_bytes.ensures.value) ∙ sym c.eq.ensures ∙ c.if-eq.true)

pub returns-else-eq : goal.returns-else-eq
returns-else-eq c =
    let lt : c.lower_in-index.result < length c.args.run.now = omega (arith, long_of c.args.run.now, c.lower_in-index.ensures, c.if-index-run.false, prefix_len-le-length (is_before c.args.key.now c.args.number) (values c.args.run.now)) in
    let there = there_at c.args.run.now c.lower_in-index.result c.index-run-index.result lt c.index-run-index.is ∙ ap Some (sym c.deref-entry.ensures) in
    newest_other (values c.args.run.now) c.args.key.now c.args.number c.requires c.lower_in-index.result c.deref-entry.result.now c.lower_in-index.ensures there
    (ap (λ key. same key c.args.key.now) (sym c.as_bytes.ensures.value) ∙ sym c.eq.ensures ∙ c.if-eq.false)
