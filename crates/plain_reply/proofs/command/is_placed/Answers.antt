use Rattle.std.proofs.lemmas.Bool.Decides.{Decides-at}
use Rattle.plain_reply.proofs.Decide.{ingested_decides}
use Rattle.plain_reply.proofs.command.is_placed.Goals as goal

pub returns : goal.returns
returns c = Decides-at _ _ c.in_ok-holds.ensures (ingested_decides c.args.state.now c.args.capacity c.args.request.now c.args.placed.now)
