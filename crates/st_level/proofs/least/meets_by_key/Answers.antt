use Rattle.std.proofs.Common.{[], length, map, sym, ap, ◌∙◌, arith}
use Rattle.std.proofs.lemmas.Bool.{le-ltb}
use Rattle.std.proofs.lemmas.List.{length-map}
use Rattle.st_base.specs.Bytes.{at_most}
use Rattle.st_order.proofs.Mapped.{mapped_there}
use Rattle.st_base.specs.Range.{key_at_front}
use Rattle.st_level.proofs.ByKey.{none_meets, one_meets}
use Rattle.st_level.proofs.least.meets_by_key.Goals as goal

pub returns-then-table-tables : goal.returns-then-table-tables
returns-then-table-tables g c =
    let at = mapped_there g.T.Rows.rows c.args.tables.now c.first_reaching-table.result c.index-tables-table.result [] (omega arith) c.index-tables-table.is in
    c.at_most.ensures ∙ ap (λ key. at_most key c.args.last.now) c.first_key_of.ensures
    ∙ ap (λ entries. at_most (key_at_front entries) c.args.last.now) (sym at)
    ∙ sym (one_meets (map g.T.Rows.rows c.args.tables.now) c.requires c.args.first.now c.args.last.now c.first_reaching-table.result c.first_reaching-table.ensures (omega (arith, length-map c.args.tables.now g.T.Rows.rows)))

pub returns-else-table-tables : goal.returns-else-table-tables
returns-else-table-tables g c =
    le-ltb c.first_reaching-table.result (length c.args.tables.now) (omega arith)
    ∙ sym (none_meets (map g.T.Rows.rows c.args.tables.now) c.requires c.args.first.now c.args.last.now (omega (arith, length-map c.args.tables.now g.T.Rows.rows, c.first_reaching-table.ensures)))
