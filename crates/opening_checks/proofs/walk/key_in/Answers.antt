use Rattle.std.proofs.Common.{◌≡◌, List, ap, sym, subst, ◌∙◌, arith, IfOk}
use Rattle.std.specs.Prelude.{option_map, slice_get}
use Rattle.st_base.specs.declared.entry.Entry.{Entry}
use Rattle.st_version.specs.Held.{HeldView}
use Rattle.opening_checks.proofs.Along.{part_there}
use Rattle.opening_checks.proofs.walk.key_in.Goals as goal

pub returns-else-part-eq0 : goal.returns-else-part-eq0
returns-else-part-eq0 g c =
    subst (λ (run : List Entry). IfOk c.key_at-else-part-eq0.result (λ key. key ≡ option_map (λ (entry : Entry). entry.key) (slice_get run c.args.index)))
    (ap (λ (held : HeldView). held.table.entries) c.deref-table.ensures
    ∙ sym (part_there (g.C.Rows.rows c.args.counted.now) c.args.tables.now c.args.part c.index-tables-part.result (omega (arith, c.if-part-eq0.false)) c.requires c.index-tables-part.is))
    c.key_at-else-part-eq0.ensures
