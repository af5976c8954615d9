use Rattle.std.proofs.Common.{Some, ap, ◌∙◌, arith}
use Rattle.st_version.specs.Held.{HeldView, tables_of}
use Rattle.opening_checks.proofs.Along.{file_is, no_file}
use Rattle.opening_checks.proofs.walk.file_of.Goals as goal

pub returns-then-part-eq0 : goal.returns-then-part-eq0
returns-then-part-eq0 g c = no_file (tables_of c.args.tables.now) c.args.part c.if-part-eq0.true

pub returns : goal.returns
returns g c =
    ap Some (c.file.ensures ∙ ap (λ (held : HeldView). held.table.file) c.deref-table.ensures)
    ∙ file_is c.args.tables.now c.args.part c.index-tables-part.result (omega (arith, c.if-part-eq0.false)) c.requires c.index-tables-part.is
