use Rattle.std.proofs.Common.{◌≡◌, ◌+◌, ◌≤◌, length}
use Rattle.build_text.specs.Build.{entries_from}
use Rattle.build_text.specs.Words.{text_parts}
use Rattle.build_text.proofs.text.write_build.Given as goal

abbrev pub invariant-loop-rest : goal.invariant-loop-rest
invariant-loop-rest g l =
    let fits = g.W.EntryWriter.fits in
    let entries = g.W.EntryWriter.entries in
    record {
      counted : l.number + length l.rest ≤ length l.text;
      read : entries_from fits (entries l.writer) (l.number + 1) (text_parts l.rest) ≡ entries_from fits (entries l.fn.writer) 1 (text_parts l.text);
    }

abbrev pub decreases-loop-rest : goal.decreases-loop-rest
decreases-loop-rest g l = length l.rest
