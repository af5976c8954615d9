-- How edits are judged, one after the other.
use Rattle.std.specs.Prelude.{◌≡◌, ◌∷◌, ℕ, Bool, true, false, List, [], Option, Some, None, Result, Ok, Err}
use Rattle.manifest_edits.specs.Edits.{Edit, GroupRecord, Named, edited_all, edited_by}
use Rattle.named_index.specs.Knows.{Knows}
use Rattle.named_index.specs.declared.index.NamedIndex.{NamedIndex}

-- whether the edits are right after those that name this; then the index knows what is named after them
abbrev pub AreJudged : NamedIndex → Named → List Edit → Bool → Type 0
AreJudged index named edits true = (after : Named) × (edited_all named edits ≡ Some after) × Knows index after
AreJudged index named edits false = edited_all named edits ≡ None

-- what is named after the records of a group so far, which the index knows; or the offset of the first faulty one
abbrev pub IsNamedSoFar : NamedIndex → Option ℕ → Result Named ℕ → Type 0
IsNamedSoFar index None (Ok named) = Knows index named
IsNamedSoFar index None (Err at) = ⊥
IsNamedSoFar index (Some fault) (Ok named) = ⊥
IsNamedSoFar index (Some fault) (Err at) = fault ≡ at

-- the same after one record more
abbrev pub edited_next : Result Named ℕ → GroupRecord → Result Named ℕ
edited_next (Err at) next = Err at
edited_next (Ok named) next = edited_by named (next ∷ [])
