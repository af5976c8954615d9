use Rattle.std.proofs.Common.{◌<◌, ◌^◌, List, [], ◌∷◌, ◌++◌, sym, ap, subst, ◌∙◌, arith}
use Rattle.std.specs.Prelude.{option_map}
use Rattle.st_base.specs.Rows.{AreRows, entry_of}
use Rattle.st_base.specs.declared.entry.Entry.{Entry}
use Rattle.st_block.specs.InternalKey.{number_of}
use Rattle.st_table.proofs.Behind.{no_fault, rows_more}
use Rattle.st_table.proofs.entries.push_entry.Goals as goal

pub returns-in_ok-push-in-None-clause-rows : goal.returns-in_ok-push-in-None-clause-rows
returns-in_ok-push-in-None-clause-rows c = λ rows.
    let front = c.args.entries.now in
    let e = no_fault c.args.kind front c.len-index.result (option_map entry_of c.last-before.result) c.args.internal.now c.args.value.now
    c.len-index.ensures c.last-before.ensures (sym c.in-None.ensures) in
    let small : number_of c.args.internal.now < 2 ^ 64 = omega (arith, ap (λ (x : Entry). x.number) c.entry_under.ensures) in
    subst (λ (l : List Entry). AreRows l) (sym (c.in_ok-push-in-None.ensures.ok ∙ ap (λ (x : Entry). front ++ x ∷ []) c.entry_under.ensures)) (rows_more c.args.kind front c.args.internal.now c.args.value.now e c.requires small rows)
