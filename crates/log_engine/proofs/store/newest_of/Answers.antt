use Rattle.std.proofs.Common.{◌∙◌, ap, cond}
use Rattle.st_base.specs.Bytes.{same}
use Rattle.log_engine.specs.Newest.{newest_at}
use Rattle.log_engine.proofs.Open.{opened_more}
use Rattle.log_engine.proofs.store.newest_of.Goals as goal

pub loop-logged-preserved : goal.loop-logged-preserved
loop-logged-preserved c =
    let logged = c.in-Some.logged in
    let made = c.in_ok-make_room.ensures in
    opened_more c.args.behind c.loop-logged.yielded logged (newest_at c.make_room.new.self) (newest_at c.set.new.self)
    (λ q. c.set.ensures.set made.room q ∙ ap (λ mark. cond (same logged.key q) mark (newest_at c.make_room.new.self q)) c.kept_mark.ensures)
    (λ q. made.unchanged q ∙ c.loop-logged.invariant q)
