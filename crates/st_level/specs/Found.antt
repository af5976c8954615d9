-- Where the entry of the least key in a range stands.
use Rattle.std.specs.Prelude.{◌≡◌, ℕ, Bool, true, false, List, [], Option, Some, None, unwrap_or, slice_get}
use Rattle.st_base.specs.Bytes.{below}
use Rattle.st_base.specs.declared.entry.Entry.{Entry}
use Rattle.st_base.specs.declared.entry.KeyRange.{KeyRange}
use Rattle.st_order.specs.Least.{least_within}

-- the entry at an index of a run
abbrev pub entry_in_run : List (List Entry) → ℕ → ℕ → Option Entry
entry_in_run runs run index = slice_get (unwrap_or (slice_get runs run) []) index

-- an entry stands there, with this key
pub record HasKeyAt (runs : List (List Entry)) (run index : ℕ) (key : List ℕ) : Type 0 where
  pub entry : Entry
  pub there : entry_in_run runs run index ≡ Some entry
  pub key_is : entry.key ≡ key

-- the answer is where the least key in the range stands, or None where none is there
abbrev pub FindsLeast : KeyRange → List (List Entry) → Option (ℕ × ℕ) → Type 0
FindsLeast range runs None = least_within range runs ≡ None
FindsLeast range runs (Some at) = (key : List ℕ) × HasKeyAt runs at.0 at.1 key × (least_within range runs ≡ Some key)

-- a key that is held, or none
abbrev pub held_key : Bool → List ℕ → Option (List ℕ)
held_key true key = Some key
held_key false key = None

-- whether the key is below the one that is held, if one is
abbrev pub is_lesser : Option (List ℕ) → List ℕ → Bool
is_lesser None key = true
is_lesser (Some other) key = below key other
