use Rattle.std.proofs.Common.{inr}
use Rattle.table_tests.proofs.table.open_under.Goals as goal

pub open-requires : goal.open-requires
open-requires c = inr (λ entries t. c.table_or_first_fault.ensures.external _ entries t)
