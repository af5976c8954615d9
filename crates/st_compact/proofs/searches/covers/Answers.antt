use Rattle.std.proofs.Common.{List, ℕ, length, ap, ◌∙◌, arith}
use Rattle.std.proofs.lemmas.Bool.{le-ltb}
use Rattle.std.proofs.lemmas.List.{get_or_default}
use Rattle.st_base.specs.Bytes.{at_most}
use Rattle.st_base.specs.declared.entry.KeyRange.{KeyRange}
use Rattle.st_compact.proofs.Searching.{none_covers, one_covers, none}
use Rattle.st_compact.proofs.searches.covers.Goals as goal

pub returns-then-index-drops : goal.returns-then-index-drops
returns-then-index-drops c =
    let at = get_or_default c.args.drops.now c.ranges_below-index.result c.index-drops-index.result none c.if-index-drops.true in
    c.at_most.ensures ∙ ap (λ (key : List ℕ). at_most key c.args.key.now) c.as_bytes.ensures.value ∙ ap (λ (range : KeyRange). at_most range.first c.args.key.now) at
    ∙ one_covers c.args.drops.now c.requires c.args.key.now c.ranges_below-index.result c.ranges_below-index.ensures c.if-index-drops.true

pub returns-else-index-drops : goal.returns-else-index-drops
returns-else-index-drops c =
    le-ltb c.ranges_below-index.result (length c.args.drops.now) c.if-index-drops.false
    ∙ none_covers c.args.drops.now c.requires c.args.key.now (omega (arith, c.if-index-drops.false, c.ranges_below-index.ensures))
