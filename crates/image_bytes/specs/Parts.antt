-- The parts of an image, by the bytes of its files.
use Rattle.std.specs.Prelude.{ℕ, List, length, map, Option, Some, None, is_some}
use Rattle.std.specs.Result.{result_ok}
use Rattle.st_device.specs.Disk.{Image}
use Rattle.st_table.specs.Table.{table_of}
use Rattle.st_table.specs.declared.kind.TableKind.TheVariants.{Own}
use Rattle.st_wal.specs.Logged.{Operations, read_as_log}
use Rattle.st_wal.specs.Logged.Operations.{Whole, Broken}
use Rattle.st_wal.specs.declared.logged.Logged.{Logged}
use Rattle.manifest_edits.specs.Logs.{LogReading, LogAbsent, LogFound, LogOp}
use Rattle.st_manifest.specs.Manifest.{manifest_read}
use Rattle.st_manifest.specs.Root.{root_read}
use Rattle.store_image.specs.Parts.{ImageParts, TableFile, has_more}

-- an operation of the write-ahead log
abbrev pub log_op : Logged → LogOp
log_op op = record { family = op.family; number = op.number; key = op.key; mark = op.mark; at = op.at }

-- the operations in front of a gate or of damage
abbrev pub operations_reading : Operations → LogReading LogOp
operations_reading (Whole ops end) = LogFound (map log_op ops) None
operations_reading (Broken ops at) = LogFound (map log_op ops) (Some at)

-- what a file reads as a write-ahead log
abbrev pub log_read : Option (List ℕ) → LogReading LogOp
log_read None = LogAbsent
log_read (Some bytes) = operations_reading (read_as_log (Some bytes))

-- what a file is as a table of the store's own
abbrev pub table_read : Option (List ℕ) → Option TableFile
table_read None = None
table_read (Some bytes) = Some (record { length = length bytes; entries = result_ok (table_of Own bytes) })

-- an image, file by file
abbrev pub image_parts : Image → ImageParts
image_parts image = record {
  marked = is_some (image 1);
  more = has_more image;
  root = root_read (image 0);
  manifest = λ file. manifest_read (image file);
  log = λ file. log_read (image file);
  table = λ file. table_read (image file);
}
