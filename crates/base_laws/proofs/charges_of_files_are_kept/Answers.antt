use Rattle.base_laws.proofs.Ranges.{charge_of_file}
use Rattle.base_laws.proofs.charges_of_files_are_kept.Goals as goal

pub returns : goal.returns
returns c = charge_of_file
