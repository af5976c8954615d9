-- Families by name, as they are shared.
use Rattle.std.specs.Prelude.{ℕ, List, map, Option, Some, None}
use Rattle.std.specs.declared.alloc.Global.{Global}
use Rattle.std.specs.declared.sync.Arc.{Arc}
use Rattle.core_model.specs.Picture.{FamilyView}
use Rattle.core_model.specs.StatePicture.{StatePicture}

-- the views that the names have
abbrev pub named_views : List (List ℕ × Arc FamilyView Global) → List (List ℕ × FamilyView)
named_views families = map {B = List ℕ × FamilyView} (λ named. (named.0, named.1.value)) families

-- the state and the place that were taken last
abbrev pub taken_last : Option (Arc StatePicture Global × ℕ) → Option (StatePicture × ℕ)
taken_last None = None
taken_last (Some last) = Some (last.0.value, last.1)
