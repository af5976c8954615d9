use Rattle.model_laws.proofs.Asking.{asks_rightly}
use Rattle.model_laws.proofs.commands_ask_rightly.Goals as goal

pub returns : goal.returns
returns c = asks_rightly
