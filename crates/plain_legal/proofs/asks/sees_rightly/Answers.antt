use Rattle.st_model.specs.Asked.{request_asked}
use Rattle.plain_legal.proofs.Seen.{seen_decides}
use Rattle.plain_legal.proofs.asks.sees_rightly.Goals as goal

pub returns : goal.returns
returns c =
    seen_decides (request_asked c.args.command.now) c.request_asked.result.now c.args.seen.now c.are_seen_rightly.result
    c.request_asked.ensures (c.names_files.ensures.0 c.if-not-names_files.false) c.are_seen_rightly.ensures
