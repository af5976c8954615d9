use Rattle.std.proofs.Common.{◌≡◌, ◌<◌, List, Some, length, ap, sym, subst, ◌∙◌, arith}
use Rattle.std.specs.Prelude.{option_map, slice_get}
use Rattle.st_base.specs.declared.entry.Entry.{Entry}
use Rattle.st_version.specs.Held.{HeldView}
use Rattle.opening_checks.proofs.Along.{part_there}
use Rattle.opening_checks.proofs.walk.number_in.Goals as goal

pub number_at-requires-else-part-eq0 : goal.number_at-requires-else-part-eq0
number_at-requires-else-part-eq0 g c =
    subst (λ (run : List Entry). c.args.index < length run)
    (sym (ap (λ (held : HeldView). held.table.entries) c.deref-table.ensures
    ∙ sym (part_there (g.C.Rows.rows c.args.counted.now) c.args.tables.now c.args.part c.index-tables-part.result (omega (arith, c.if-part-eq0.false)) c.requires.part c.index-tables-part.is)))
    c.requires.index

pub returns-else-part-eq0-clause-value : goal.returns-else-part-eq0-clause-value
returns-else-part-eq0-clause-value g c =
    subst (λ (run : List Entry). option_map (λ (entry : Entry). entry.number) (slice_get run c.args.index) ≡ Some c.number_at-else-part-eq0.result)
    (ap (λ (held : HeldView). held.table.entries) c.deref-table.ensures
    ∙ sym (part_there (g.C.Rows.rows c.args.counted.now) c.args.tables.now c.args.part c.index-tables-part.result (omega (arith, c.if-part-eq0.false)) c.requires.part c.index-tables-part.is))
    c.number_at-else-part-eq0.ensures.value
