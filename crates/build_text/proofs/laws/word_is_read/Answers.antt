use Rattle.build_text.proofs.SpelledBytes.{read_word, only_word}
use Rattle.build_text.proofs.laws.word_is_read.Goals as goal

pub returns-clause-read : goal.returns-clause-read
returns-clause-read c = read_word

pub returns-clause-only : goal.returns-clause-only
returns-clause-only c = λ spelling bytes e. (only_word spelling bytes e).0

pub returns-clause-bytes : goal.returns-clause-bytes
returns-clause-bytes c = λ spelling bytes e. (only_word spelling bytes e).1
