use Rattle.std.proofs.Common.{length, ◌∙◌, arith}
use Rattle.std.proofs.lemmas.Bool.{le-ltb}
use Rattle.st_compact.proofs.Searching.{none_read, one_read}
use Rattle.st_compact.proofs.searches.is_read_between.Goals as goal

pub returns-then-index-live : goal.returns-then-index-live
returns-then-index-live c = one_read c.args.live.now c.requires c.args.number c.args.before c.numbers_below-index.result c.numbers_below-index.ensures c.if-index-live.true

pub returns-else-index-live : goal.returns-else-index-live
returns-else-index-live c =
    le-ltb c.numbers_below-index.result (length c.args.live.now) c.if-index-live.false
    ∙ none_read c.args.live.now c.requires c.args.number c.args.before (omega (arith, c.if-index-live.false, c.numbers_below-index.ensures))
