-- The column of a key: its entries along runs, in the order in which a read looks at them.
use Rattle.std.specs.Prelude.{◌≡◌, ℕ, ◌<◌, ◌≤◌, IsTrue, List, [], ◌∷◌, filter, flat_map, ⊤}
use Rattle.std.specs.List.{AllByRecursion as Each}
use Rattle.st_base.specs.Bytes.{same}
use Rattle.st_base.specs.Order.{in_order}
use Rattle.st_base.specs.declared.entry.Entry.{Entry}

-- the relation holds of each element and each later one
abbrev pub Pairwise : {X : Type 0} → (X → X → Type 0) → List X → Type 0
Pairwise R [] = ⊤
Pairwise R (x ∷ xs) = Each (R x) xs × Pairwise R xs

-- the entries of the key
abbrev pub of_key : List ℕ → List Entry → List Entry
of_key key entries = filter (λ entry. same entry.key key) entries

-- the column of the key along these runs
abbrev pub column : List ℕ → List (List Entry) → List Entry
column key runs = flat_map (of_key key) runs

-- numbers fall strictly
abbrev pub FallStrictly : List Entry → Type 0
FallStrictly entries = Pairwise (λ one other. other.number < one.number) entries

-- numbers don't rise
abbrev pub FallWeakly : List Entry → Type 0
FallWeakly entries = Pairwise (λ one other. other.number ≤ one.number) entries

-- these entries, in entry order, are all entries of the runs
pub record IsJoined (runs : List (List Entry)) (entries : List Entry) : Type 0 where
  pub ordered : IsTrue (in_order entries)
  pub columns : (key : List ℕ) → of_key key entries ≡ column key runs
