use Rattle.model_laws.proofs.Sequences.{needs_no_sequence}
use Rattle.model_laws.proofs.a_free_file_needs_no_number.Goals as goal

pub returns : goal.returns
returns c = needs_no_sequence
