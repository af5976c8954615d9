-- Steps of reading: each gives a value or the fault that it finds.
use Rattle.std.specs.Prelude.{◌≡◌, Option, Some, None, Result, Ok, Err}
use Rattle.st_base.specs.declared.faults.TableFault.{TableFault}
use Rattle.st_table.specs.declared.fault.OpenTableFault.{OpenTableFault}
use Rattle.st_table.specs.declared.fault.OpenTableFault.TheVariants.{Bad, OutOfMemory}

infixl 10 ◌>>=◌
abbrev pub ◌>>=◌ : {A B : Type 0} → Result A TableFault → (A → Result B TableFault) → Result B TableFault
(Ok x) >>= f = f x
(Err fault) >>= f = Err fault

-- what follows a test, unless it finds a fault
abbrev pub unless : {A : Type 0} → Option TableFault → Result A TableFault → Result A TableFault
unless None read = read
unless (Some fault) read = Err fault

-- what a call has found out about what reading gives: its fault, unless memory ran out
abbrev pub Fails : {A : Type 0} → OpenTableFault → Result A TableFault → Type 0
Fails (Bad fault) read = read ≡ Err fault
Fails OutOfMemory read = Unit {0}
