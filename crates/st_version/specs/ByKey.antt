-- Runs by their first keys.
use Rattle.std.specs.Prelude.{ℕ, Bool, IsTrue, List}
use Rattle.std.specs.List.{prefix_len}
use Rattle.st_base.specs.Bytes.{at_most, below}
use Rattle.st_base.specs.Range.{key_at_end, key_at_front}
use Rattle.st_base.specs.declared.entry.Entry.{Entry}

-- the run ends below the other's first key
abbrev pub EndsBelow : List Entry → List Entry → Type 0
EndsBelow one other = IsTrue (below (key_at_end one) (key_at_front other))

-- whether the run's first key is at most this key
abbrev pub starts_by : List ℕ → List Entry → Bool
starts_by key run = at_most (key_at_front run) key

-- how many runs, along the keys, start at or below this key
abbrev pub started : List ℕ → List (List Entry) → ℕ
started key runs = prefix_len (starts_by key) runs
