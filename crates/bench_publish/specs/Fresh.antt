-- The state of a new store.
use Rattle.std.specs.Prelude.{false, [], ◌∷◌}
use Rattle.core_model.specs.Picture.{new_view}
use Rattle.core_model.specs.StatePicture.{StatePicture}
use Rattle.st_base.specs.Bytes.{default_family}

abbrev pub fresh_state : StatePicture
fresh_state = record { last = 0; behind = false; charge = 0; families = (default_family, new_view 0) ∷ []; live = [] }
