use Rattle.std.proofs.Common.{◌≡◌, ◌≤◌, ◌-◌, length, IsTrue}
use Rattle.st_stream.specs.Sink.{AppendsFirst}
use Rattle.st_stream.proofs.writing.write_all.Given as goal

-- the first `done` bytes were appended
abbrev pub invariant-loop-done : goal.invariant-loop-done
invariant-loop-done g l =
    let tells = g.K.Sink.tells in
    record {
      within : l.done ≤ length l.bytes;
      written : IsTrue (tells l.fn.sink).known → AppendsFirst (tells l.fn.sink).written (tells l.sink).written l.bytes l.done;
      known : (tells l.sink).known ≡ (tells l.fn.sink).known;
      faults : (tells l.sink).faults ≡ (tells l.fn.sink).faults;
    }

abbrev pub decreases-loop-done : goal.decreases-loop-done
decreases-loop-done g l = length l.bytes - l.done
