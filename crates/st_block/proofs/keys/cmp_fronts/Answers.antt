use Rattle.std.proofs.Common.{◌++◌, take, sym, ◌∙◌, refl, arith}
use Rattle.st_block.proofs.Fronts.{length_new, fronts_more, fronts_stop, fronts_end}
use Rattle.st_block.proofs.keys.cmp_fronts.Goals as goal

pub returns-then-old-new : goal.returns-then-old-new
returns-then-old-new c =
    let new = take c.args.shared c.args.before.now ++ c.args.others.now in
    let len = length_new c.args.before.now c.args.others.now c.args.shared c.requires.shared in
    c.cmp.ensures ∙ sym (c.loop-index.invariant ∙ fronts_stop c.args.before.now new c.args.front c.args.new_front c.loop-index.index c.requires.old (omega (arith, len, c.requires.new)) _ _ (omega arith) (omega arith) refl c.byte_at-new.ensures c.if-old-new.true)

pub loop-index-preserved : goal.loop-index-preserved
loop-index-preserved c =
    let new = take c.args.shared c.args.before.now ++ c.args.others.now in
    let len = length_new c.args.before.now c.args.others.now c.args.shared c.requires.shared in
    c.loop-index.invariant ∙ fronts_more c.args.before.now new c.args.front c.args.new_front c.loop-index.index c.requires.old (omega (arith, len, c.requires.new)) _ _ (omega arith) (omega arith) refl c.byte_at-new.ensures c.if-old-new.false

pub returns : goal.returns
returns c =
    let new = take c.args.shared c.args.before.now ++ c.args.others.now in
    let len = length_new c.args.before.now c.args.others.now c.args.shared c.requires.shared in
    c.cmp-2.ensures ∙ sym (c.loop-index.invariant ∙ fronts_end c.args.before.now new c.args.front c.args.new_front c.loop-index.index c.requires.old (omega (arith, len, c.requires.new)) (omega arith))
