use Rattle.std.proofs.Common.{◌∙◌, arith, IsTrue}
use Rattle.std.proofs.lemmas.List.{length-drop}
use Rattle.st_stream.proofs.Pieces.{appends_more}
use Rattle.st_stream.proofs.writing.write_all.Goals as goal

pub loop-done-preserved : goal.loop-done-preserved
loop-done-preserved g c = record {
  within = omega (arith, length-drop c.loop-done.done c.args.bytes.now, c.in_ok-done.ensures.within);
  written = λ known.
      let still : IsTrue (g.K.Sink.tells c.loop-done.sink).known = rw c.loop-done.invariant.known known in
      appends_more _ _ _ c.args.bytes.now c.loop-done.done c.in_ok-done.field-0 (c.loop-done.invariant.written known) (c.in_ok-done.ensures.written still);
  known = c.write.ensures.known ∙ c.loop-done.invariant.known;
  faults = c.in_ok-done.ensures.quiet ∙ c.loop-done.invariant.faults;
}
