use Rattle.std.proofs.Common.{◌∷◌, Some, ap, sym, ◌∙◌}
use Rattle.std.specs.Option.{option_copied}
use Rattle.st_version.specs.Held.{HeldView, tables_of}
use Rattle.opening_checks.proofs.Touching.{along_ends, along_step, least_is, proper_all}
use Rattle.std.proofs.lemmas.List.{nil_from_length}
use Rattle.opening_checks.proofs.meeting.least_meeting.Goals as goal

pub loop-first-preserved : goal.loop-first-preserved
loop-first-preserved g c =
    along_step _ c.loop-first.least c.lesser_of-least.result c.met_file.result (option_copied c.loop-first.reach) (Some c.farther.result.now)
    (tables_of c.loop-first.left.now) (tables_of c.in-Some.others.now) c.deref-table.result.now.table
    c.loop-first.invariant
    (ap tables_of c.in-Some.ensures.cases.0 ∙ ap (λ (held : HeldView). held.table ∷ tables_of c.in-Some.others.now) (sym c.deref-table.ensures))
    c.met_file.ensures c.lesser_of-least.ensures (ap Some c.farther.ensures)

pub returns : goal.returns
returns g c =
    along_ends _ c.loop-first.least (option_copied c.loop-first.reach) (tables_of c.loop-first.left.now) c.loop-first.invariant
    (ap tables_of (nil_from_length c.loop-first.left.now c.in_default.ensures.cases))
    ∙ least_is (tables_of c.args.tables.now) c.requires (proper_all (tables_of c.args.tables.now) c.know_tables.ensures)
