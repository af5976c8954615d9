use Rattle.std.proofs.Common.{sym, ◌∙◌, arith}
use Rattle.std.proofs.lemmas.Option.{slice_get_past}
use Rattle.st_merge.proofs.Rests.{front_there}
use Rattle.st_merge.proofs.heads.head.Goals as goal

pub returns-then-index-len : goal.returns-then-index-len
returns-then-index-len g c =
    sym (front_there g.T.Rows.rows c.args.parts.now c.args.indexes.now c.args.part c.index-parts-part.result c.requires.indexes c.requires.part c.index-parts-part.is ∙ c.at.ensures)

pub returns-else-index-len : goal.returns-else-index-len
returns-else-index-len g c =
    sym (front_there g.T.Rows.rows c.args.parts.now c.args.indexes.now c.args.part c.index-parts-part.result c.requires.indexes c.requires.part c.index-parts-part.is
    ∙ slice_get_past (g.T.Rows.rows c.index-parts-part.result) _ (omega (arith, c.len.ensures.value)))
