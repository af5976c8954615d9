use Rattle.std.proofs.Common.{◌≡◌, true, List, sym, subst, ◌∙◌}
use Rattle.st_base.specs.Range.{keys_rise}
use Rattle.st_base.specs.declared.entry.Entry.{Entry}
use Rattle.table_tests.proofs.table.is_shared.Goals as goal

pub with_number-requires-clause-once : goal.with_number-requires-clause-once
with_number-requires-clause-once c =
    let opened = c.in_ok-table.ensures.ok in
    let is = opened.2 ∙ c.own_numbers_stay.ensures opened.0 in
    subst (λ (l : List Entry). keys_rise l ≡ true) (sym is) (c.table_or_first_fault.ensures.external _ opened.0 opened.1)
