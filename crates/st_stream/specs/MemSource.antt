-- What a source in memory tells, and which of its calls fail.
use Rattle.std.specs.Prelude.{ℕ, true, List, drop}
use Rattle.st_outside.specs.declared.failing_calls.FailingCalls.{FailingCalls}
use Rattle.st_stream.specs.Source.{SourceTold}
use Rattle.st_stream.specs.declared.mem_source.MemSource.{MemSource}

-- all is told of a source in memory
abbrev pub source_told_of : List ℕ → ℕ → SourceTold
source_told_of left faults = record { known = true; left = left; faults = faults }

-- the bytes after those that were given are left
abbrev pub mem_source_told : MemSource → SourceTold
mem_source_told source = source_told_of (drop source.given source.bytes) source.calls.faults

-- the calls that have come and that are to fail
abbrev pub mem_source_calls : MemSource → FailingCalls
mem_source_calls source = source.calls
