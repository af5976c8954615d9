use Rattle.std.proofs.Common.{refl, true}
use Rattle.build_text.proofs.BuildText.{each_of_read, read_of_text, rows_of_read, text_of_read}
use Rattle.build_text.proofs.laws.build_text_is_read.Goals as goal

pub returns-clause-read : goal.returns-clause-read
returns-clause-read c = λ entries some rows each. read_of_text (λ _. true) entries some rows each (λ count. refl)

pub returns-clause-fitting : goal.returns-clause-fitting
returns-clause-fitting c = λ fits entries some rows each fit. read_of_text fits entries some rows each fit

pub returns-clause-only : goal.returns-clause-only
returns-clause-only c = text_of_read

pub returns-clause-rows : goal.returns-clause-rows
returns-clause-rows c = rows_of_read

pub returns-clause-entries : goal.returns-clause-entries
returns-clause-entries c = each_of_read
