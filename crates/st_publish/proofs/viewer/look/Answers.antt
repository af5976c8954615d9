use Rattle.std.proofs.Common.{refl}
use Rattle.st_publish.proofs.Prefixes.{prefix_self}
use Rattle.st_publish.proofs.Rises.{rises}
use Rattle.st_publish.proofs.viewer.look.Goals as goal

pub enter_as-requires : goal.enter_as-requires
enter_as-requires c x = rises _ _ x x refl (prefix_self x.1.list)
