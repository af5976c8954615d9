-- A sink of bytes: what is known to be written.
use Rattle.std.specs.Prelude.{◌≡◌, ◌≤◌, ◌++◌, ℕ, Bool, List, length, take}

-- what is known of a sink at one time
pub record SinkTold : Type 0 where
  -- whether the bytes that were written are known: those of a real stream aren't
  pub known : Bool
  pub written : List ℕ
  -- how often the sink has failed
  pub faults : ℕ

-- the first n of these bytes were appended
abbrev pub AppendsFirst : List ℕ → List ℕ → List ℕ → ℕ → Type 0
AppendsFirst before after bytes n = after ≡ before ++ take n bytes

-- some of these bytes were appended, from the first on
abbrev pub AppendsPrefix : List ℕ → List ℕ → List ℕ → Type 0
AppendsPrefix before after bytes = (n : ℕ) × (n ≤ length bytes) × AppendsFirst before after bytes n
