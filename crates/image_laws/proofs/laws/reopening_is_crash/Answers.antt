use Rattle.image_laws.proofs.CrashRead.{reopening_is_crash}
use Rattle.image_laws.proofs.laws.reopening_is_crash.Goals as goal

pub returns : goal.returns
returns c = reopening_is_crash
