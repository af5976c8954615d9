-- Input files in memory.
use Rattle.std.specs.Prelude.{ℕ, true, List, Option, option_map, find}
use Rattle.st_base.specs.Bytes.{same}
use Rattle.st_stream.specs.Inputs.{InputsTold}
use Rattle.st_stream.specs.declared.mem_inputs.InputFile.{InputFile}

-- the first file of that name
abbrev pub first_named : List InputFile → List ℕ → Option InputFile
first_named files name = find (λ file. same file.name name) files

-- the bytes of the first file of that name
abbrev pub file_named : List InputFile → List ℕ → Option (List ℕ)
file_named files name = option_map (λ file. file.bytes) (first_named files name)

-- all is told of files in memory
abbrev pub inputs_told_of : List InputFile → ℕ → InputsTold
inputs_told_of files faults = record { known = true; file = file_named files; faults = faults }
