use Rattle.std.proofs.Common.{[], sym, ap, unwrap_or, ◌∙◌}
use Rattle.std.specs.Option.{option_copied}
use Rattle.st_order.proofs.Ends.{end_of}
use Rattle.st_version.proofs.fitting.end.Goals as goal

pub returns-in-Some : goal.returns-in-Some
returns-in-Some g c = ap (λ found. unwrap_or (option_copied found) []) (sym c.in-Some.is) ∙ ap (λ found. unwrap_or found []) c.last.ensures ∙ end_of c.args.table.now.table.entries

pub returns-in-None : goal.returns-in-None
returns-in-None g c = ap (λ found. unwrap_or (option_copied found) []) (sym c.in-None.is) ∙ ap (λ found. unwrap_or found []) c.last.ensures ∙ end_of c.args.table.now.table.entries
