-- The store in memory, and the states of the model that it stands for.
use Rattle.std.specs.Prelude.{ℕ, ◌≡◌, ◌+◌, ◌≤◌, List, [], ◌∷◌, slice_get, Option, Some, None, ⊤}
use Rattle.std.specs.List.{AllByRecursion as Each}
use Rattle.std.specs.declared.cmp.Ordering.TheVariants.{Less}
use Rattle.std.specs.Map.{keys_of}
use Rattle.st_base.specs.Bytes.{bytes_cmp, default_family}
use Rattle.st_base.specs.Map.{value_at}
use Rattle.st_base.specs.declared.entry.Mark.{Mark}
use Rattle.st_model.specs.declared.refusal.Refusal.{Refusal}
use Rattle.st_model.specs.declared.refusal.Refusal.TheVariants.{Stopped, DiskFault, OutOfMemory}
use Rattle.st_model.specs.declared.state.ModelFamily.{ModelFamily}
use Rattle.st_model.specs.declared.state.ModelState.{ModelState}
use Rattle.st_model.specs.Read.{mark_at}
use Rattle.log_recover.specs.Contents.{written_marks}
use Rattle.log_recover.specs.Opens.{last_number}
use Rattle.st_wal.specs.declared.logged.Logged.{Logged}
use Rattle.log_engine.specs.Newest.{newest_at, shown}
use Rattle.log_engine.specs.declared.store.MarkStore.{MarkStore}

-- each key is below those after it
abbrev pub AreRising : List (List ℕ) → Type 0
AreRising [] = ⊤
AreRising (key ∷ keys) = Each (λ other. bytes_cmp key other ≡ Less) keys × AreRising keys

-- the pairs stand in the order of their keys, each key once
abbrev pub IsSorted : List (List ℕ × Mark) → Type 0
IsSorted pairs = AreRising (keys_of pairs)

-- no write of the family is above the number, and the newest mark of each key is this
pub record HasMarks (marks : List ℕ → Option Mark) (family : ModelFamily) (last : ℕ) : Type 0 where
  pub numbers : Each (λ write. write.number ≤ last) family.writes
  pub newest : (key : List ℕ) → mark_at family last key ≡ marks key

-- the state has the one family `default`, whose newest marks are the store's
pub record StandsForState (store : MarkStore) (state : ModelState) : Type 0 where
  pub family : ModelFamily
  pub families : state.families ≡ (default_family, family) ∷ []
  pub id : family.id ≡ 0
  pub ranges : family.ranges ≡ []
  pub sorted : IsSorted family.base
  pub place : state.place ≡ store.place
  pub last : state.last ≡ store.last
  pub charge : state.charge ≡ store.charge
  pub behind : state.behind ≡ store.behind
  pub marks : HasMarks (newest_at store.newest) family state.last

-- the store in memory has what these operations leave
pub record HoldsOperations (store : MarkStore) (ops : List Logged) : Type 0 where
  pub last : store.last ≡ last_number 0 ops
  pub marks : (key : List ℕ) → shown store.behind (newest_at store.newest key) ≡ shown store.behind (value_at (written_marks ops) key)

-- place, number, charge, flag and capacity are the same
pub record HasSameNumbers (old new : MarkStore) : Type 0 where
  pub place : new.place ≡ old.place
  pub last : new.last ≡ old.last
  pub charge : new.charge ≡ old.charge
  pub behind : new.behind ≡ old.behind
  pub capacity : new.capacity ≡ old.capacity

-- so are the marks
pub record IsSameStore (old new : MarkStore) : Type 0 where
  pub numbers : HasSameNumbers old new
  pub marks : (key : List ℕ) → newest_at new.newest key ≡ newest_at old.newest key

-- one change more, of so many operations, which makes the charge this sum
pub record IsAdvanced (old new : MarkStore) (count sum : ℕ) : Type 0 where
  pub place : new.place ≡ old.place + 1
  pub last : new.last ≡ old.last + count
  pub charge : new.charge ≡ sum
  pub behind : new.behind ≡ old.behind
  pub capacity : new.capacity ≡ old.capacity

-- the first of the refusals that hold is this one, or none of them holds; a fault and `OutOfMemory` aren't among them
abbrev pub IsFirst : List Refusal → Refusal → Type 0
IsFirst refusals DiskFault = slice_get refusals 0 ≡ None
IsFirst refusals Stopped = ⊤
IsFirst refusals OutOfMemory = ⊤
IsFirst refusals other = slice_get refusals 0 ≡ Some other
