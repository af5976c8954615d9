use Rattle.st_table.proofs.Tables.{external_keys_rise, is_no_fault, no_fault_is, one_table}
use Rattle.st_table.proofs.laws.table_or_first_fault.Goals as goal

pub returns-clause-exact : goal.returns-clause-exact
returns-clause-exact c = λ bytes kind. (no_fault_is bytes kind, λ t. is_no_fault bytes kind t.0 t.1)

pub returns-clause-one : goal.returns-clause-one
returns-clause-one c = one_table

pub returns-clause-external : goal.returns-clause-external
returns-clause-external c = external_keys_rise
