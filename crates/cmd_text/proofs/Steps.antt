-- A step of reading, and the one that follows it.
use Rattle.std.proofs.Common.{◌≡◌, Option, Some, None, refl}
use Rattle.std.specs.Option.{option_and_then}

-- where both have a value, the first has one, and the second gives the value of both
pub step : {A B : Type 0} (found : Option A) (next : A → Option B) (b : B) → option_and_then next found ≡ Some b → (a : A) × (found ≡ Some a) × (next a ≡ Some b)
step None next b is = absurd (cc is)
step (Some a) next b is = (a, refl, is)
