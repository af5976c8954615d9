use Rattle.st_version.specs.Held.{tables_of}
use Rattle.opening_checks.proofs.Along.{runs_ordered}
use Rattle.opening_checks.proofs.unfallen.know_parts.Goals as goal

pub returns : goal.returns
returns g c = (c.len-count.ensures.rows.ordered, runs_ordered (tables_of c.args.tables.now) c.know_tables.ensures)
