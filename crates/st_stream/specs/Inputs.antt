-- Input files: what is known of them, and what a read gives.
use Rattle.std.specs.Prelude.{◌≡◌, ◌≤◌, ◌<◌, ℕ, Bool, List, [], Option, Some, None, length, take, drop}

-- what is known of input files at one time
pub record InputsTold : Type 0 where
  -- whether the bytes of the files are known: those of a real folder aren't
  pub known : Bool
  -- the bytes of the file of that name, none where it isn't there
  pub file : List ℕ → Option (List ℕ)
  -- how often the files have failed
  pub faults : ℕ

-- what reads give of a file: one that isn't there has no bytes
abbrev pub bytes_of : Option (List ℕ) → List ℕ
bytes_of None = []
bytes_of (Some bytes) = bytes

-- the files are as they were, and the count hasn't fallen
pub record InputsUntouched (before after : InputsTold) : Type 0 where
  pub known : after.known ≡ before.known
  pub file : after.file ≡ before.file
  pub faults : before.faults ≤ after.faults

-- n of these bytes, from `at` on, stand at the front of the buffer, whose rest is as it was. Nothing comes only into an
-- empty buffer, or where the bytes end.
pub record ReadsAt (bytes : List ℕ) (at : ℕ) (before after : List ℕ) (n : ℕ) : Type 0 where
  pub front : take n after ≡ take n (drop at bytes)
  pub within : n ≤ length (drop at bytes)
  pub end : n ≡ 0 → 0 < length before → length bytes ≤ at
  pub rest : drop n after ≡ drop n before
