-- Operations as they are read from a log.
use Rattle.st_wal.specs.declared.logged.Logged.{Logged}
use Rattle.manifest_edits.specs.Logs.{LogOp}

-- the operation, without how it lies in memory
abbrev pub op_of : Logged → LogOp
op_of op = record { family = op.family; number = op.number; key = op.key; mark = op.mark; at = op.at }
