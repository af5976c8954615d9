-- A key of a list in entry order that stands twice: at neighbours.
use Rattle.std.specs.Prelude.{ℕ, zero, suc, Bool, false, List, [], ◌∷◌}
use Rattle.st_base.specs.Bytes.{same}
use Rattle.st_base.specs.declared.entry.Entry.{Entry}

-- whether the entry at the index has the key of the one before it
abbrev pub is_repeated : List Entry → ℕ → Bool
is_repeated [] index = false
is_repeated (entry ∷ []) index = false
is_repeated (entry ∷ other ∷ entries) zero = false
is_repeated (entry ∷ other ∷ entries) (suc zero) = same entry.key other.key
is_repeated (entry ∷ other ∷ entries) (suc (suc index)) = is_repeated (other ∷ entries) (suc index)
