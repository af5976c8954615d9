use Rattle.std.proofs.Common.{◌∙◌}
use Rattle.st_base.specs.Rows.{entry_of}
use Rattle.opening_checks.proofs.Twice.{repeated_at}
use Rattle.opening_checks.proofs.repeats.is_repeated.Goals as goal

pub returns : goal.returns
returns g c =
    c.eq.ensures
    ∙ repeated_at (g.T.Rows.rows c.args.rows.now) c.args.index (entry_of c.at-before.result) (entry_of c.at-entry.result) c.requires.above c.at-before.ensures c.at-entry.ensures
