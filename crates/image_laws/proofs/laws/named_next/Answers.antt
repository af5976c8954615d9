use Rattle.image_laws.proofs.FirstNamed.{named_next}
use Rattle.image_laws.proofs.laws.named_next.Goals as goal

pub returns : goal.returns
returns c = named_next
