use Rattle.std.proofs.Common.{sym, ◌∙◌}
use Rattle.cmd_text.proofs.Readers.{no_digit}
use Rattle.cmd_text.proofs.parts.number_of_word.Goals as goal

pub returns-in_err-number : goal.returns-in_err-number
returns-in_err-number c =
    c.from_residual.ensures
    ∙ sym (no_digit c.args.word.now c.loop-digit.digit-index c.loop-digit.number c.loop-digit-test.true (sym c.with_digit.ensures ∙ c.in_err-number.was) c.loop-digit.invariant)
