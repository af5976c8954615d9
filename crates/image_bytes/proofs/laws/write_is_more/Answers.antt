use Rattle.image_bytes.proofs.Appended.{write_more}
use Rattle.image_bytes.proofs.laws.write_is_more.Goals as goal

pub returns : goal.returns
returns c = write_more
