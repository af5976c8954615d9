use Rattle.std.proofs.Common.{◌≡◌, drop}
use Rattle.cmd_text.specs.Readings.{with_digits}
use Rattle.cmd_text.proofs.parts.number_of_word.Given as goal

abbrev pub invariant-loop-digit : goal.invariant-loop-digit
invariant-loop-digit l = with_digits l.number (drop l.digit-index l.word) ≡ with_digits 0 l.word
