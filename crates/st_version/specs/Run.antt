-- The entries of a part of a merge over a family.
use Rattle.std.specs.Prelude.{List}
use Rattle.st_base.specs.declared.entry.Entry.{Entry}
use Rattle.st_version.specs.declared.run.Run.{Run}
use Rattle.st_version.specs.declared.run.Run.TheVariants.{Memory, InPlace}

-- those of the memtable's run, or of the table
abbrev pub entries_of_run : {T : Type 0} → Run T → List Entry
entries_of_run (Memory run) = run
entries_of_run (InPlace held) = held.value.table.entries
