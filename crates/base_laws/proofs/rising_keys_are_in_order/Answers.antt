use Rattle.base_laws.proofs.Keys.{rise_in_order}
use Rattle.base_laws.proofs.rising_keys_are_in_order.Goals as goal

pub returns : goal.returns
returns c = rise_in_order
