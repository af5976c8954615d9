-- A new store is sound.
use Rattle.std.proofs.Common.{◌≡◌, ℕ, ◌+◌, ◌<◌, ◌≤◌, Bool, true, List, [], ◌∷◌, length, get_or, refl, arith, AllPairs, IsTrue}
use Rattle.st_base.specs.Bytes.{below, default_family}
use Rattle.st_base.specs.declared.entry.Mark.{Mark}
use Rattle.st_model.specs.declared.state.ModelFamily.{ModelFamily}
use Rattle.st_model.specs.declared.state.Snapshot.{Snapshot}
use Rattle.st_model.specs.Sound.{IsSound}
use Rattle.st_model.specs.State.{new_family, new_store}
use Rattle.model_laws.specs.Claims.{NewIsSound}

-- a list of one has no pairs
no_pairs : {X : Type 0} (R : X → X → Type 0) (x : X) → AllPairs R (x ∷ [])
no_pairs R x i j d lt within = absurd (let no_place : ⊥ = omega (arith, lt, within) in no_place)

nothing : {X : Type 0} (R : X → X → Type 0) → AllPairs R []
nothing R i j d lt within = absurd (let no_place : ⊥ = omega (arith, within) in no_place)

pub new_is_sound : NewIsSound
new_is_sound behind = record {
  names = no_pairs {X = List ℕ × ModelFamily} (λ one other. IsTrue (below one.0 other.0)) (default_family, new_family 0);
  bases = (nothing {X = List ℕ × Mark} (λ one other. IsTrue (below one.0 other.0)), tt);
  writes = (tt, tt);
  live = tt;
  snapshots = nothing {X = Snapshot} (λ one other. one.id < other.id);
  above = tt;
  taken = tt;
  ids = no_pairs {X = List ℕ × ModelFamily} (λ one other. one.1.id ≡ other.1.id → ⊥) (default_family, new_family 0);
  next = (omega arith, tt);
  unranged = λ without. (refl, tt);
}
