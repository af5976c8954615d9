-- A source of bytes: what is known to be left in it.
use Rattle.std.specs.Prelude.{◌≡◌, ◌<◌, ◌++◌, ℕ, Bool, List, [], length, take, drop}

-- what is known of a source at one time
pub record SourceTold : Type 0 where
  -- whether the bytes that are left are known: those of a real stream aren't
  pub known : Bool
  -- the bytes that reads have still to give
  pub left : List ℕ
  -- how often the source has failed
  pub faults : ℕ

-- The bytes that were left are the first n of the buffer, and then those that are left now. The rest of the buffer is
-- as it was. Nothing comes only into an empty buffer, or where nothing is left.
pub record TakesBytes (before after old new : List ℕ) (n : ℕ) : Type 0 where
  pub front : take n new ++ after ≡ before
  pub end : n ≡ 0 → 0 < length old → before ≡ []
  pub rest : drop n new ≡ drop n old

-- some of the bytes that were left have been taken, from the first on
abbrev pub TakesPrefix : List ℕ → List ℕ → Type 0
TakesPrefix before after = (taken : List ℕ) × (taken ++ after ≡ before)
