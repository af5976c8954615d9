use Rattle.std.proofs.Common.{◌≡◌, ◌≤◌, ◌+◌, ◌++◌, length, IsTrue}
use Rattle.st_stream.proofs.source_reading.read_pieces.Given as goal

-- the bytes that came and those that are left are the ones that were left
abbrev pub invariant-loop-bytes : goal.invariant-loop-bytes
invariant-loop-bytes g l =
    let tells = g.S.Source.tells in
    record {
      within : length l.bytes + l.room ≡ l.limit;
      came : IsTrue (tells l.fn.source).known → l.bytes ++ (tells l.source).left ≡ (tells l.fn.source).left;
      known : (tells l.source).known ≡ (tells l.fn.source).known;
      faults : (tells l.source).faults ≡ (tells l.fn.source).faults;
    }

abbrev pub decreases-loop-bytes : goal.decreases-loop-bytes
decreases-loop-bytes g l = l.room
