use Rattle.std.proofs.Common.{◌≡◌, ◌+◌, ◌-◌, length, take, IsTrue}
use Rattle.st_stream.specs.Inputs.{InputsUntouched, bytes_of}
use Rattle.st_stream.proofs.reading.read_pieces.Given as goal

-- the file's first bytes are there, all but the `left`
abbrev pub invariant-loop-left : goal.invariant-loop-left
invariant-loop-left g l =
    let tells = g.I.Inputs.tells in
    record {
      within : length l.bytes + l.left ≡ l.size;
      front : IsTrue (tells l.fn.inputs).known → l.bytes ≡ take (l.size - l.left) (bytes_of ((tells l.fn.inputs).file l.name));
      stay : InputsUntouched (tells l.fn.inputs) (tells l.inputs);
    }

abbrev pub decreases-loop-left : goal.decreases-loop-left
decreases-loop-left g l = l.left
