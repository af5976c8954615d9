use Rattle.std.proofs.lemmas.Bool.Decides.{Decides-at, Decides-like}
use Rattle.std.proofs.Common.{◌++◌}
use Rattle.st_model.specs.Refusals.{exact_refusals, sure_refusals}
use Rattle.plain_reply.proofs.Decide.{first_decides}
use Rattle.plain_reply.proofs.command.is_refused.Goals as goal

pub returns-then-may : goal.returns-then-may
returns-then-may c =
    Decides-like c.in_ok-first.first (λ first. (c.in_ok-may.ensures.0 c.if-may.true, first)) (λ both. both.1)
    (Decides-at c.in_ok-first.first _ c.in_ok-first.ensures (first_decides (exact_refusals c.args.state.now c.args.request.now ++ sure_refusals c.args.state.now c.args.request.now) c.args.refusal.now))
