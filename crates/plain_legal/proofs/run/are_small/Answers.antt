use Rattle.std.proofs.Common.{◌<◌, ◌^◌, ℕ, subst}
use Rattle.std.proofs.lemmas.List.Elements.{All-more}
use Rattle.st_model.specs.declared.reply.Placed.{Placed}
use Rattle.plain_legal.proofs.run.are_small.Goals as goal

pub loop-one-preserved : goal.loop-one-preserved
loop-one-preserved c =
    All-more (λ (one : Placed). one.number < 2 ^ 64) c.args.placed.now c.loop-one.one-index _ c.loop-one-test.true c.loop-one.invariant
    (subst (λ (n : ℕ). n < 2 ^ 64) c.number_of-number.ensures.value c.number_of-number.ensures.small)
