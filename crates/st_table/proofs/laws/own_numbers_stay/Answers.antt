use Rattle.std.proofs.Common.{refl, sym}
use Rattle.st_table.proofs.Acting.{acting_own}
use Rattle.st_table.proofs.laws.own_numbers_stay.Goals as goal

pub returns : goal.returns
returns c = λ entries. sym (acting_own 0 entries refl)
