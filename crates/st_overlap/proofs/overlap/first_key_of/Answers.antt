use Rattle.std.proofs.Common.{List, ℕ, Option, [], unwrap_or, ap, ◌∙◌}
use Rattle.st_order.proofs.Ends.{front_of}
use Rattle.st_overlap.proofs.overlap.first_key_of.Goals as goal

pub returns-in-Some : goal.returns-in-Some
returns-in-Some g c = ap (λ (o : Option (List ℕ)). unwrap_or o []) c.in-Some.ensures ∙ front_of (g.T.Rows.rows c.args.rows.now)

pub returns-in-None : goal.returns-in-None
returns-in-None g c = ap (λ (o : Option (List ℕ)). unwrap_or o []) c.in-None.ensures ∙ front_of (g.T.Rows.rows c.args.rows.now)
