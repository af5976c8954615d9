use Rattle.std.proofs.Common.{◌≡◌, ◌<◌, ◌-◌, List, [], get_or, length, map, sym, ap, ◌∙◌, arith}
use Rattle.std.proofs.lemmas.List.{length-map}
use Rattle.std.proofs.lemmas.List.Sums.{prefix_len-le-length}
use Rattle.st_base.specs.declared.entry.Entry.{Entry}
use Rattle.st_order.specs.Columns.{of_key}
use Rattle.job_model.specs.Column.{found_at}
use Rattle.st_order.proofs.Mapped.{mapped_there}
use Rattle.st_version.specs.ByKey.{starts_by}
use Rattle.st_version.proofs.ByKey.{in_last_started, last_is, last_started}
use Rattle.st_version.proofs.levels.by_key.Goals as goal

pub returns-then-count-eq0 : goal.returns-then-count-eq0
returns-then-count-eq0 g c =
    let runs : List (List Entry) = map g.T.Rows.rows c.args.tables.now in
    sym (ap (found_at c.args.number) (in_last_started c.args.key.now runs c.requires ∙ ap (λ n. of_key c.args.key.now (last_started runs n)) (sym c.started-count.ensures ∙ c.if-count-eq0.true)))

pub offset_bounds-tables-count : goal.offset_bounds-tables-count
offset_bounds-tables-count g c = omega (arith, length-map c.args.tables.now g.T.Rows.rows, c.started-count.ensures, prefix_len-le-length (starts_by c.args.key.now) (map g.T.Rows.rows c.args.tables.now))

pub bounds-tables-count : goal.bounds-tables-count
bounds-tables-count g c = omega (arith, length-map c.args.tables.now g.T.Rows.rows, c.started-count.ensures, c.if-count-eq0.false, prefix_len-le-length (starts_by c.args.key.now) (map g.T.Rows.rows c.args.tables.now))

pub returns : goal.returns
returns g c =
    let runs : List (List Entry) = map g.T.Rows.rows c.args.tables.now in
    let lt : c.started-count.result - 1 < length c.args.tables.now = omega (arith, length-map c.args.tables.now g.T.Rows.rows, c.started-count.ensures, c.if-count-eq0.false, prefix_len-le-length (starts_by c.args.key.now) (map g.T.Rows.rows c.args.tables.now)) in
    let at : get_or runs (c.started-count.result - 1) [] ≡ g.T.Rows.rows c.index-tables-count.result = mapped_there g.T.Rows.rows c.args.tables.now (c.started-count.result - 1) c.index-tables-count.result [] lt c.index-tables-count.is in
    c.in_table.ensures
    ∙ sym (ap (found_at c.args.number) (in_last_started c.args.key.now runs c.requires ∙ ap (λ n. of_key c.args.key.now (last_started runs n)) (sym c.started-count.ensures)
    ∙ ap (of_key c.args.key.now) (last_is runs c.started-count.result c.if-count-eq0.false ∙ at)))
