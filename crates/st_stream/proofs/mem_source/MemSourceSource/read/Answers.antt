use Rattle.std.proofs.Common.{◌+◌, List, drop, subst, ℕ}
use Rattle.st_stream.specs.Source.{TakesBytes}
use Rattle.st_stream.proofs.Pieces.{takes_front}
use Rattle.st_stream.proofs.mem_source.MemSourceSource.read.Goals as goal

pub returns-clause-taken : goal.returns-clause-taken
returns-clause-taken c = λ known.
    let given = c.args.self.now.given in
    let n = c.copy_from-n.result in
    let copied = c.copy_from-n.ensures in
    subst (λ (l : List ℕ). TakesBytes (drop given l) (drop (given + n) l) c.args.buffer.now c.copy_from-n.new.buffer n) c.as_slice.ensures
    (takes_front c.as_slice.result.now c.args.buffer.now c.copy_from-n.new.buffer given n copied.count copied.front copied.rest)
