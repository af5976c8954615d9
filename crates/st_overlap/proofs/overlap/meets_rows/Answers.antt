use Rattle.std.proofs.Common.{arith, sym, ◌∙◌}
use Rattle.std.proofs.lemmas.List.Sums.{prefix_len-le-length}
use Rattle.st_base.specs.Order.{is_before}
use Rattle.st_base.specs.Rows.{entry_of}
use Rattle.st_order.proofs.Halves.{first_found, first_past, first_none}
use Rattle.st_overlap.proofs.overlap.meets_rows.Goals as goal

pub returns-then-index-len : goal.returns-then-index-len
returns-then-index-len g c =
    first_none (g.T.Rows.rows c.args.rows.now) c.args.first.now c.args.last.now c.len.ensures.rows.ordered c.len.ensures.rows.within
    (record { key = c.args.first.now; number = 0; mark = Rattle.st_base.specs.declared.entry.Mark.TheVariants.Gone })
    (sym c.len.ensures.value ∙ sym c.if-index-len.true ∙ c.lower-index.ensures)

pub at-entry-requires : goal.at-entry-requires
at-entry-requires g c = omega (arith, c.len.ensures.value, c.lower-index.ensures, c.if-index-len.false, prefix_len-le-length (is_before c.args.first.now 18446744073709551615) (g.T.Rows.rows c.args.rows.now))

pub returns-then-at_most : goal.returns-then-at_most
returns-then-at_most g c =
    first_found (g.T.Rows.rows c.args.rows.now) c.args.first.now c.args.last.now c.len.ensures.rows.ordered c.len.ensures.rows.within
    c.lower-index.result (entry_of c.at-entry.result) c.lower-index.ensures c.at-entry.ensures (sym c.at_most.ensures ∙ c.if-at_most.true)

pub returns-else-at_most : goal.returns-else-at_most
returns-else-at_most g c =
    first_past (g.T.Rows.rows c.args.rows.now) c.args.first.now c.args.last.now c.len.ensures.rows.ordered c.len.ensures.rows.within
    c.lower-index.result (entry_of c.at-entry.result) c.lower-index.ensures c.at-entry.ensures (sym c.at_most.ensures ∙ c.if-at_most.false)
