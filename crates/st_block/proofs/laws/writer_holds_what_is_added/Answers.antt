use Rattle.st_block.proofs.Writers.{holds_more}
use Rattle.st_block.proofs.laws.writer_holds_what_is_added.Goals as goal

pub returns : goal.returns
returns c = holds_more
