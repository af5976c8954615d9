-- Files that are kept open.
use Rattle.std.specs.Prelude.{ℕ, Some, Contains}
use Rattle.std.specs.declared.fs.File.{File}
use Rattle.real_files.specs.declared.open_files.OpenFiles.{OpenFiles}

-- the file is open, by this handle
abbrev pub IsOpenBy : OpenFiles → ℕ → File → Type 0
IsOpenBy files file handle = Contains files.slots (Some (record { file = file; handle = handle }))
