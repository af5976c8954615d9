use Rattle.std.proofs.Common.{◌≡◌}
use Rattle.st_publish.proofs.Rises.{rises}
use Rattle.st_publish.proofs.showing.show.Goals as goal

pub publish_as-back-requires : goal.publish_as-back-requires
publish_as-back-requires g c next is =
    let e : next ≡ c.args.next = rw c.loop.invariant.3 at is in
    let at : c.loop.writer.desk.shown.value ≡ c.args.writer.desk.shown.value = c.loop.invariant.2 in
    rises _ _ c.loop.writer.desk.shown.value next
    (rw (at, e) c.requires.later.0)
    (rw (at, e) c.requires.later.1)
