use Rattle.std.proofs.Common.{List, ℕ, [], length, get_or, map, sym, ap, subst, ◌≡◌, ◌<◌, ◌∙◌, arith}
use Rattle.std.proofs.lemmas.List.{length-map}
use Rattle.std.proofs.lemmas.List.Sums.{prefix_len-le-length}
use Rattle.st_base.specs.declared.entry.Entry.{Entry}
use Rattle.st_order.specs.Order.{between, first_index_in}
use Rattle.st_order.proofs.Halves.{each_at}
use Rattle.st_order.proofs.Mapped.{mapped_there}
use Rattle.job_model.specs.ByKey.{ends_below, runs_before}
use Rattle.st_level.proofs.LeastByKey.{none_reached, found_there, none_there}
use Rattle.st_level.proofs.least.least_by_key.Goals as goal

pub returns-then-table-tables : goal.returns-then-table-tables
returns-then-table-tables g c =
    none_reached (map g.T.Rows.rows c.args.tables.now) c.requires c.args.first.now c.args.last.now (omega (arith, length-map c.args.tables.now g.T.Rows.rows, c.first_reaching-table.ensures, c.if-table-tables.true))

pub offset_bounds-tables-table : goal.offset_bounds-tables-table
offset_bounds-tables-table g c = omega (arith, length-map c.args.tables.now g.T.Rows.rows, c.first_reaching-table.ensures, prefix_len-le-length (ends_below c.args.first.now) (map g.T.Rows.rows c.args.tables.now))

pub bounds-tables-table : goal.bounds-tables-table
bounds-tables-table g c = omega (arith, length-map c.args.tables.now g.T.Rows.rows, c.first_reaching-table.ensures, c.if-table-tables.false, prefix_len-le-length (ends_below c.args.first.now) (map g.T.Rows.rows c.args.tables.now))

-- the run of the table that was found
found : {T : Type 0} (rows : T → List Entry) (tables : List T) (i : ℕ) (table : T) (key : List ℕ) → i ≡ runs_before key (map rows tables) → (i ≡ length tables → ⊥) → table ≡ get_or tables i table
    → (i < length (map rows tables)) × (get_or (map rows tables) i [] ≡ rows table)
found rows tables i table key at ends is =
    let lt : i < length tables = omega (arith, length-map tables rows, prefix_len-le-length (ends_below key) (map rows tables)) in
    (omega (arith, length-map tables rows), mapped_there rows tables i table [] lt is)

pub returns-in-Some : goal.returns-in-Some
returns-in-Some g c =
    let at = found g.T.Rows.rows c.args.tables.now c.first_reaching-table.result c.index-tables-table.result c.args.first.now c.first_reaching-table.ensures c.if-table-tables.false c.index-tables-table.is in
    found_there (map g.T.Rows.rows c.args.tables.now) c.requires c.args.first.now c.args.last.now c.first_reaching-table.result c.first_reaching-table.ensures at.0 c.in-Some.entry
    (c.in-Some.ensures ∙ ap (first_index_in (between c.args.first.now c.args.last.now)) (sym at.1))

pub returns-in-None : goal.returns-in-None
returns-in-None g c =
    let at = found g.T.Rows.rows c.args.tables.now c.first_reaching-table.result c.index-tables-table.result c.args.first.now c.first_reaching-table.ensures c.if-table-tables.false c.index-tables-table.is in
    none_there (map g.T.Rows.rows c.args.tables.now) c.requires c.args.first.now c.args.last.now c.first_reaching-table.result c.first_reaching-table.ensures at.0
    (c.in-None.ensures ∙ ap (first_index_in (between c.args.first.now c.args.last.now)) (sym at.1))
