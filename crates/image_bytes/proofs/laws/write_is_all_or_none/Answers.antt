use Rattle.image_bytes.proofs.Appended.{write_all_or_none}
use Rattle.image_bytes.proofs.laws.write_is_all_or_none.Goals as goal

pub returns : goal.returns
returns c = write_all_or_none
