-- What input files in memory tell, and which of their calls fail.
use Rattle.st_outside.specs.declared.failing_calls.FailingCalls.{FailingCalls}
use Rattle.st_stream.specs.Inputs.{InputsTold}
use Rattle.st_stream.specs.MemInputs.{inputs_told_of}
use Rattle.st_stream.specs.declared.mem_inputs.MemInputs.{MemInputs}

abbrev pub mem_inputs_told : MemInputs → InputsTold
mem_inputs_told inputs = inputs_told_of inputs.files inputs.calls.faults

-- the calls that have come and that are to fail
abbrev pub mem_inputs_calls : MemInputs → FailingCalls
mem_inputs_calls inputs = inputs.calls
