-- The least key at or after a bound, and the greatest before an end.
use Rattle.std.specs.Prelude.{ℕ, Bool, true, false, ◌≡◌, ◌≤◌, ◌⊎◌, IsTrue, length, List, Option, Some, None}
use Rattle.std.specs.List.{Contains, AllByRecursion as Each}
use Rattle.st_base.specs.Bytes.{at_most, below}

-- the key is the least of these at or after the bound
pub record IsLeastFrom (bound : List ℕ) (keys : List (List ℕ)) (key : List ℕ) : Type 0 where
  pub reaches : IsTrue (at_most bound key)
  pub among : Contains keys key
  pub least : Each (λ one. IsTrue (at_most bound one) → IsTrue (at_most key one)) keys
  pub fits : length key ≤ 65535

-- the key is that, if one was found; none is at or after the bound, if not
abbrev pub FindsLeastFrom : List ℕ → List (List ℕ) → Bool → List ℕ → Type 0
FindsLeastFrom bound keys false key = Each (λ one. IsTrue (below one bound)) keys
FindsLeastFrom bound keys true key = IsLeastFrom bound keys key

-- whether the key is before the end, if there is one
abbrev pub is_before_end : Option (List ℕ) → List ℕ → Bool
is_before_end None key = true
is_before_end (Some end) key = below key end

-- the new key is the greatest of the old one and of those that pass the test
pub record IsRaised (test : List ℕ → Bool) (keys : List (List ℕ)) (old new : List ℕ) : Type 0 where
  pub among : (new ≡ old) ⊎ (Contains keys new × IsTrue (test new))
  pub greatest : Each (λ one. IsTrue (test one) → IsTrue (at_most one new)) keys
  pub rises : IsTrue (at_most old new)
  pub fits : length new ≤ 65535
