use Rattle.std.proofs.Common.{◌++◌, take, IsTrue}
use Rattle.st_stream.proofs.Pieces.{takes_more}
use Rattle.st_stream.proofs.source_reading.read_pieces.Goals as goal

pub returns-then-came-room-clause-taken : goal.returns-then-came-room-clause-taken
returns-then-came-room-clause-taken g c = λ known.
    let still : IsTrue (g.S.Source.tells c.loop-bytes.source).known = rw c.loop-bytes.invariant.known known in (
      c.loop-bytes.bytes ++ take c.in_ok-came.came c.read.new.buffer,
      takes_more _ _ _ _ c.read.new.buffer c.in_ok-came.came (c.loop-bytes.invariant.came known) (c.in_ok-came.ensures.taken still).front,
    )
