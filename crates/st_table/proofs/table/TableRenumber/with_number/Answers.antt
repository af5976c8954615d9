use Rattle.std.proofs.Common.{◌≡◌, ◌<◌, ◌^◌, true, List, sym, subst, arith}
use Rattle.st_base.proofs.Numbered.{rows_under}
use Rattle.st_base.specs.Range.{keys_rise}
use Rattle.st_base.specs.Rows.{AreRows}
use Rattle.st_base.specs.declared.entry.Entry.{Entry}
use Rattle.st_table.proofs.table.TableRenumber.with_number.Goals as goal

pub invariant_of-result : goal.invariant_of-result
invariant_of-result c =
    let rise = subst (λ (l : List Entry). keys_rise l ≡ true) (sym c.self.view_is) c.requires.once in
    let small : c.args.number < 2 ^ 64 = omega arith in
    subst (λ (l : List Entry). AreRows l) (sym c.in_ok-entries.ensures) (rows_under c.args.number c.self.inside.entries small c.self.invariant rise)
