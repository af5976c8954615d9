use Rattle.model_laws.proofs.NewStore.{new_is_sound}
use Rattle.model_laws.proofs.a_new_store_is_sound.Goals as goal

pub returns : goal.returns
returns c = new_is_sound
