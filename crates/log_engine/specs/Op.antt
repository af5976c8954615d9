-- What the operations of a write are to the engine.
use Rattle.std.specs.Prelude.{ℕ, not, ◌≤◌, length, List, map, filter, fold, Option, Some, if◌then◌else◌}
use Rattle.st_base.specs.Bytes.{same, default_family}
use Rattle.st_base.specs.declared.entry.Mark.{Mark}
use Rattle.st_base.specs.declared.limits.TheConstants.{WRITE_BYTES, WRITE_OPERATIONS}
use Rattle.st_model.specs.declared.change.Op.{Op}
use Rattle.st_model.specs.Apply.{op_family, op_key, op_mark}
use Rattle.st_wal.specs.Batch.{Operation, operations_size}

-- the marks after the operation
abbrev pub marks_after : (List ℕ → Option Mark) → Operation → List ℕ → Option Mark
marks_after marks operation key = if same operation.1 key then Some operation.2 else marks key

-- the marks after the operations
abbrev pub marks_after_all : (List ℕ → Option Mark) → List Operation → List ℕ → Option Mark
marks_after_all marks operations = fold marks_after marks operations

-- the names that aren't `default`
abbrev pub strange_names : List (List ℕ) → List (List ℕ)
strange_names names = filter (λ name. not (same name default_family)) names

-- the families that operations name, but for `default`
abbrev pub strangers : List Op → List (List ℕ)
strangers ops = strange_names (map op_family ops)

-- the operation as it is logged, on the family of the id 0
abbrev pub logged_op : Op → Operation
logged_op op = (0, op_key op, op_mark op)

-- the limits of a write: 1 to 1,000 operations, whose keys and values have at most 2,097,152 bytes together
pub record IsWrite (ops : List Op) : Type 0 where
  pub some : 1 ≤ length ops
  pub count : length ops ≤ WRITE_OPERATIONS
  pub size : operations_size (map logged_op ops) ≤ WRITE_BYTES
