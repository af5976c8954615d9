use Rattle.std.proofs.Common.{sym, refl}
use Rattle.st_publish.proofs.Prefixes.{prefix_self}
use Rattle.st_publish.proofs.publisher.begun.Goals as goal

pub invariant_of-result : goal.invariant_of-result
invariant_of-result g c = (
  c.args.writer,
  refl,
  c.requires.stands,
  c.requires.shows.1,
  rw c.requires.shows.0 (prefix_self _),
  c.requires.empty,
  sym c.requires.stopped,
)
