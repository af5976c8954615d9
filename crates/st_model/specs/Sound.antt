-- What a state of the model keeps by itself. A new store has it. A change keeps it where it can be applied, its numbers
-- are the next ones, and it takes a file in behind only in a store with the flag.
use Rattle.std.specs.Prelude.{ℕ, ◌≡◌, ◌≤◌, ◌<◌, IsTrue, IsFalse, AllPairs, List, []}
use Rattle.std.specs.List.{AllByRecursion as Each}
use Rattle.st_base.specs.Bytes.{below}
use Rattle.st_model.specs.declared.state.ModelFamily.{ModelFamily}
use Rattle.st_model.specs.declared.state.ModelState.{ModelState}

-- the keys of a map rise
abbrev pub KeysRise : {X : Type 0} → List (List ℕ × X) → Type 0
KeysRise pairs = AllPairs (λ one other. IsTrue (below one.0 other.0)) pairs

-- each write's number is at most this
abbrev pub WritesWithin : ℕ → ModelFamily → Type 0
WritesWithin last family = Each (λ write. write.number ≤ last) family.writes

pub record IsSound (state : ModelState) : Type 0 where
  -- names and base keys rise
  pub names : KeysRise state.families
  pub bases : Each (λ named. KeysRise named.1.base) state.families
  -- no write and no snapshot is above the last number
  pub writes : Each (λ named. WritesWithin state.last named.1) state.families
  pub live : Each (λ snapshot. snapshot.number ≤ state.last) state.live
  -- the ids of snapshots rise from above 0 up to the place
  pub snapshots : AllPairs (λ one other. one.id < other.id) state.live
  pub above : Each (λ snapshot. 0 < snapshot.id) state.live
  pub taken : Each (λ snapshot. snapshot.id ≤ state.place) state.live
  -- no two families have one id, and each is below the next
  pub ids : AllPairs (λ one other. one.1.id ≡ other.1.id → ⊥) state.families
  pub next : Each (λ named. named.1.id < state.next_family) state.families
  -- without the flag no file was taken in behind
  pub unranged : IsFalse state.behind → Each (λ named. named.1.ranges ≡ []) state.families
