use Rattle.std.proofs.Common.{◌+◌, length, sym, subst}
use Rattle.st_core.specs.Written.{AreWithin}
use Rattle.st_core.proofs.Written.{within_ops}
use Rattle.st_core.proofs.families.Families.with_operations.Goals as goal

pub returns-clause-within : goal.returns-clause-within
returns-clause-within g c =
    subst (AreWithin (c.args.last + length c.args.ops.now)) (sym c.in_ok-families.ensures) (within_ops c.args.last c.args.ops.now c.args.self c.requires.within)
