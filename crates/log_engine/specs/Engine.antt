-- An engine and its disk.
use Rattle.std.specs.Prelude.{◌≡◌, ◌+◌, ℕ, Bool, length, slice_get, Some, None, Ok}
use Rattle.st_device.specs.Disk.{Image, DiskTold, IsHonest}
use Rattle.st_model.specs.declared.change.Batch.{Batch}
use Rattle.st_model.specs.declared.change.Change.TheVariants.{Write}
use Rattle.st_model.specs.declared.state.ModelState.{ModelState}
use Rattle.st_model.specs.Answer.{write_refusals}
use Rattle.st_model.specs.Apply.{apply}
use Rattle.st_model.specs.Contents.{contents, opened}
use Rattle.log_recover.specs.Contents.{OpenedContents, contents_in, disk_contents}
use Rattle.log_recover.specs.Store.{IsStore}
use Rattle.st_wal.specs.Wal.{operations}
use Rattle.st_wal.specs.declared.wal.Wal.{Wal}
use Rattle.log_engine.specs.MarkStore.{HoldsOperations, StandsForState}
use Rattle.log_engine.specs.declared.engine.AcceptedWrite.{AcceptedWrite}
use Rattle.log_engine.specs.declared.engine.Engine.{Engine}
use Rattle.log_engine.specs.declared.engine.Options.{Options}
use Rattle.log_engine.specs.declared.store.MarkStore.{MarkStore}

-- the disk has the store, and the store in memory is what its operations leave
pub record IsTied (wal : Wal) (store : MarkStore) (disk : DiskTold) : Type 0 where
  pub on_disk : IsStore wal disk
  pub holds : HoldsOperations store (operations wal disk)

-- the engine stands for this state of the model
abbrev pub Stands : {D : Type 0} → Engine D → ModelState → Type 0
Stands engine state = StandsForState engine.store state

-- the greatest charge of the engine's store
abbrev pub capacity_of : {D : Type 0} → Engine D → ℕ
capacity_of engine = engine.store.capacity

-- the engine has the flag and the capacity of these options
abbrev pub HasOptions : {D : Type 0} → Engine D → Options → Type 0
HasOptions engine options = (engine.store.behind ≡ options.behind) × (engine.store.capacity ≡ options.capacity)

-- flag and capacity are the same
abbrev pub SameOptions : {D : Type 0} → Engine D → Engine D → Type 0
SameOptions old new = (new.store.behind ≡ old.store.behind) × (new.store.capacity ≡ old.store.capacity)

-- unless a fault stopped the engine, an honest disk that tells this has what the engine keeps in memory
abbrev pub IsReadyOn : {D : Type 0} → Engine D → DiskTold → Type 0
IsReadyOn engine disk = IsHonest disk → engine.stopped ≡ None → IsTied engine.wal engine.store disk

-- The engine was opened from these contents with their known keys, which are those that the disk read, where it is honest.
pub record IsOpened {D : Type 0} (disk : DiskTold) (behind : Bool) (engine : Engine D) : Type 0 where
  pub from : OpenedContents
  pub read : IsHonest disk → disk_contents behind disk.reads ≡ Ok from
  pub stands : Stands engine (opened from.contents from.known)

-- the image opens to what is left of this state where the store stops
abbrev pub OpensTo : ModelState → Image → Type 0
OpensTo state image = contents_in state.behind image ≡ Some (contents state)

-- the state after the write
abbrev pub state_written : ModelState → Batch → ModelState
state_written state batch = apply state (Write batch)

-- the write is accepted at this state, and has these numbers
pub record IsAccepted (capacity : ℕ) (state : ModelState) (batch : Batch) (wrote : AcceptedWrite) : Type 0 where
  pub unrefused : slice_get (write_refusals state capacity batch.ops) 0 ≡ None
  pub place : wrote.place ≡ state.place + 1
  pub first : wrote.first ≡ state.last + 1
  pub last : wrote.last ≡ state.last + length batch.ops
