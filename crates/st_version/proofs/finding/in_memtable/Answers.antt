use Rattle.std.proofs.Common.{sym, ap, option_map, ◌∙◌}
use Rattle.st_base.specs.Rows.{mark_of}
use Rattle.st_version.proofs.Found.{mark_there}
use Rattle.st_version.proofs.finding.in_memtable.Goals as goal

pub returns-in-Some : goal.returns-in-Some
returns-in-Some c = ap (option_map (λ found. mark_of found.1)) (sym c.in-Some.is) ∙ mark_there c.find.result c.args.mem.now.entries c.args.key.now c.args.number c.find.ensures

pub returns-in-None : goal.returns-in-None
returns-in-None c = ap (option_map (λ found. mark_of found.1)) (sym c.in-None.is) ∙ mark_there c.find.result c.args.mem.now.entries c.args.key.now c.args.number c.find.ensures
