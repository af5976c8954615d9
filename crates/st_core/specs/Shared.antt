-- Inputs of jobs, jobs and turns, as they are shared.
use Rattle.std.specs.Prelude.{List, map, Option}
use Rattle.std.specs.Option.{option_map}
use Rattle.std.specs.declared.alloc.Global.{Global}
use Rattle.std.specs.declared.sync.Arc.{Arc}
use Rattle.st_base.specs.declared.entry.Entry.{Entry}
use Rattle.core_model.specs.Picture.{Job, Turn}
use Rattle.st_core.specs.declared.input.Input.{Input}
use Rattle.st_core.specs.declared.input.Input.TheVariants.{Memory, InPlace}

-- those of the memtable, or of the table
abbrev pub entries_of_input : {T : Type 0} → Input T → List Entry
entries_of_input (Memory mem) = mem.value.entries
entries_of_input (InPlace held) = held.value.table.entries

-- the jobs that these share
abbrev pub jobs_shared : List (Arc Job Global) → List Job
jobs_shared jobs = map (λ (job : Arc Job Global). job.value) jobs

-- the turn that is shared
abbrev pub turn_shared : Option (Arc Turn Global) → Option Turn
turn_shared turn = option_map (λ (it : Arc Turn Global). it.value) turn
