-- What a core keeps of its memtables.
use Rattle.std.specs.Prelude.{ℕ, ◌≤◌, List}
use Rattle.std.specs.List.{AllByRecursion as Each}
use Rattle.st_base.specs.declared.entry.Entry.{Entry}
use Rattle.core_model.specs.Picture.{FamilyView}

-- no entry is above the number
abbrev pub IsWithin : ℕ → List Entry → Type 0
IsWithin last entries = Each (λ entry. entry.number ≤ last) entries

-- no entry of a memtable that is written to is above the last number
abbrev pub AreWithin : ℕ → List (List ℕ × FamilyView) → Type 0
AreWithin last families = Each (λ named. IsWithin last named.1.mem) families
