use Rattle.std.proofs.Common.{◌∙◌, ◌≡◌, ◌+◌, ◌-◌, ◌≤◌, ap, arith, IsTrue, length, ℕ}
use Rattle.std.proofs.lemmas.List.{length-append, length-take}
use Rattle.st_stream.specs.Inputs.{bytes_of, ReadsAt}
use Rattle.st_stream.proofs.Pieces.{reads_more, stay_trans}
use Rattle.st_stream.proofs.reading.read_pieces.Goals as goal

pub loop-left-preserved : goal.loop-left-preserved
loop-left-preserved g c =
    let grown = c.in_ok-extend_from_slice.ensures.ok in
    let kept : c.least-kept.result ≤ c.in_ok-came.came = omega (arith, c.least-kept.ensures) in
    let least : c.least-kept.result ≤ c.loop-left.left = omega (arith, c.least-kept.ensures) in
    let room : c.in_ok-came.came ≤ length c.read.new.buffer = omega (arith, c.in_ok-came.ensures.within, c.read.auto.buffer) in
    let at = c.args.size - c.loop-left.left in
    let within : length c.extend_from_slice.new.self + (c.loop-left.left - c.least-kept.result) ≡ c.args.size =
    omega (arith, c.loop-left.invariant.within, ap length grown, length-append {A = ℕ}, length-take {A = ℕ}) in
    let next : c.args.size - (c.loop-left.left - c.least-kept.result) ≡ at + c.least-kept.result = omega (arith, c.loop-left.invariant.within) in
    record {
      within = within;
      front = λ known.
          let still : IsTrue (g.I.Inputs.tells c.loop-left.inputs).known = rw c.loop-left.invariant.stay.known known in
          let file = bytes_of ((g.I.Inputs.tells c.args.inputs.now).file c.args.name.now) in
          let reads : ReadsAt file at c.loop-left.piece c.read.new.buffer c.in_ok-came.came = rw c.loop-left.invariant.stay.file at (c.in_ok-came.ensures.bytes still) in
          rw next (grown ∙ reads_more file c.loop-left.bytes c.loop-left.piece c.read.new.buffer at c.in_ok-came.came c.least-kept.result kept (c.loop-left.invariant.front known) reads);
      stay = stay_trans _ _ _ c.loop-left.invariant.stay c.read.ensures.untouched;
    }
