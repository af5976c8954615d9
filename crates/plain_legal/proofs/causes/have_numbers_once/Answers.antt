use Rattle.std.proofs.Common.{ap, ◌∙◌}
use Rattle.std.specs.Prelude.{flat_map}
use Rattle.std.proofs.lemmas.Bool.Decides.{Decides-at}
use Rattle.st_model.specs.Legal.{files_of}
use Rattle.plain_legal.specs.Runs.{are_distinct}
use Rattle.plain_legal.proofs.Decide.{distinct_decides}
use Rattle.plain_legal.proofs.causes.have_numbers_once.Goals as goal

pub returns : goal.returns
returns c = Decides-at _ _ (c.are_distinct-holds.ensures ∙ ap are_distinct (c.as_slice.ensures ∙ c.in_ok-numbers.ensures)) (distinct_decides (flat_map files_of c.args.calls.now))
