use Rattle.std.proofs.Common.{arith}
use Rattle.std.proofs.lemmas.Bool.Decides.{Decides-at}
use Rattle.st_model.specs.Long.{IsCutRightly}
use Rattle.plain_legal.specs.Runs.{is_cut_rightly}
use Rattle.plain_legal.proofs.Decide.{each_decides}
use Rattle.plain_legal.proofs.Cut.{cut_decides}
use Rattle.plain_legal.proofs.long.are_cut_rightly.Goals as goal

pub returns : goal.returns
returns c = Decides-at _ _ c.in_ok-holds.ensures (each_decides (is_cut_rightly 0) (IsCutRightly 0) (λ calls. cut_decides 0 0 (omega arith) calls) c.args.transcripts.now)
