use Rattle.std.proofs.Common.{◌<◌, ◌∙◌, length, sym, rules}
use Rattle.std.proofs.lemmas.Bool.{OnTrue_from}
use Rattle.build_text.proofs.SpelledBytes.{plain_word}
use Rattle.build_text.proofs.spelling.is_plain_word.Goals as goal

pub returns-then-not-is_empty-clause-itself : goal.returns-then-not-is_empty-clause-itself
returns-then-not-is_empty-clause-itself c =
    let word = c.args.word.now in
    let some : 0 < length word = search rules in
    OnTrue_from _ _ (λ e. plain_word word some (sym c.are_plain-plain.ensures ∙ e))
