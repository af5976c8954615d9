use Rattle.std.proofs.Common.{◌≡◌, length}
use Rattle.cmd_text.specs.Readings.{each_of}
use Rattle.cmd_text.proofs.Readers.{behind}
use Rattle.cmd_text.proofs.spelled.read_each.Given as goal

abbrev pub invariant-loop-word : goal.invariant-loop-word
invariant-loop-word g l = behind l.items (each_of g.X.Spelled.reading l.words) ≡ each_of g.X.Spelled.reading l.fn.words

abbrev pub decreases-loop-word : goal.decreases-loop-word
decreases-loop-word g l = length l.words
