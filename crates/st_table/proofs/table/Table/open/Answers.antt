use Rattle.std.proofs.Common.{List, sym, subst, inl, inr, rules, arith}
use Rattle.st_base.specs.Rows.{AreRows}
use Rattle.st_base.specs.declared.entry.Entry.{Entry}
use Rattle.st_table.proofs.Acting.{acting_rows}
use Rattle.st_table.proofs.Tables.{first_of, table_is}
use Rattle.st_table.proofs.table.Table.open.Goals as goal

pub invariant_of-result : goal.invariant_of-result
invariant_of-result c =
    subst (λ (l : List Entry). AreRows l) (sym c.in_ok-entries.ensures)
    (acting_rows c.args.number c.in_ok-arena.arena (omega arith)
    (elim c.requires [ inl e ↦ inl e | inr f ↦ inr (f c.in_ok-arena.arena (table_is c.args.bytes.value c.args.kind c.in_ok-arena.arena c.in_ok-arena.ensures.ok)) ]) c.in_ok-arena.ensures.rows)

pub returns-clause-ok : goal.returns-clause-ok
returns-clause-ok c = (c.in_ok-arena.arena, table_is c.args.bytes.value c.args.kind c.in_ok-arena.arena c.in_ok-arena.ensures.ok, c.in_ok-entries.ensures)

pub returns-in_err-arena-clause-bad : goal.returns-in_err-arena-clause-bad
returns-in_err-arena-clause-bad c =
    let h = first_of c.args.bytes.value c.args.kind c.in_err-arena.field-0.0 c.in_err-arena.ensures.err in
    search rules
