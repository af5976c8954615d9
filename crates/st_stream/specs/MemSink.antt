-- What a sink in memory tells, which of its calls fail, and where memory was refused.
use Rattle.std.specs.Prelude.{ℕ, true}
use Rattle.st_outside.specs.declared.failing_calls.FailingCalls.{FailingCalls}
use Rattle.st_stream.specs.Sink.{SinkTold}
use Rattle.st_stream.specs.declared.mem_sink.MemSink.{MemSink}

abbrev pub mem_sink_told : MemSink → SinkTold
mem_sink_told sink = record { known = true; written = sink.written; faults = sink.calls.faults }

-- the calls that have come and that are to fail
abbrev pub mem_sink_calls : MemSink → FailingCalls
mem_sink_calls sink = sink.calls

-- how often memory was refused
abbrev pub mem_sink_starved : MemSink → ℕ
mem_sink_starved sink = sink.calls.starved
