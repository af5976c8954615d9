use Rattle.image_bytes.proofs.Appended.{group_some_more}
use Rattle.image_bytes.proofs.laws.group_is_some_more.Goals as goal

pub returns : goal.returns
returns c = group_some_more
