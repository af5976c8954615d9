-- The properties of a table that are looked at or written; others are skipped.
use Rattle.std.specs.Prelude.{ℕ, ◌==◌, List, length, Option, Some, None, option_map, option_and_then, if◌then◌else◌}
use Rattle.std.specs.Int.{w32, from_le_bytes}
use Rattle.st_base.specs.Bytes.{same}
use Rattle.st_base.specs.declared.faults.TableFault.{TableFault}
use Rattle.st_base.specs.declared.faults.TableFault.TheVariants.{ExternalVersion, Comparator, IndexKind}
use Rattle.st_block.specs.BlockContents.{BlockContents}
use Rattle.st_table.specs.Metaindex.{named_in}
use Rattle.st_table.specs.declared.kind.TableKind.{TableKind}
use Rattle.st_table.specs.declared.kind.TableKind.TheVariants.{External, Own}
use Rattle.st_table.specs.declared.properties.TheConstants.{
  BYTEWISE_COMPARATOR,
  COMPARATOR_NAME,
  ENTRIES_NAME,
  EXTERNAL_VERSION,
  INDEX_TYPE_NAME,
  SEQUENCE_NAME,
  VERSION_NAME,
}

abbrev pub version_name : List ℕ
version_name = VERSION_NAME.now

abbrev pub comparator_name : List ℕ
comparator_name = COMPARATOR_NAME.now

abbrev pub index_type_name : List ℕ
index_type_name = INDEX_TYPE_NAME.now

abbrev pub sequence_name : List ℕ
sequence_name = SEQUENCE_NAME.now

abbrev pub entries_name : List ℕ
entries_name = ENTRIES_NAME.now

-- the name of the order of byte strings
abbrev pub bytewise : List ℕ
bytewise = BYTEWISE_COMPARATOR.now

-- the number that a value of four bytes is
abbrev pub fixed32_value : List ℕ → Option ℕ
fixed32_value value = if length value == 4 then Some (from_le_bytes w32 value) else None

-- the value of a property
abbrev pub property : List ℕ → BlockContents → Option (List ℕ)
property name block = option_map (λ found. found.1) (named_in name block)

-- the version of external files must be there, and the one that is known
abbrev pub versioned : Option ℕ → Option TableFault
versioned None = Some (ExternalVersion None)
versioned (Some version) = if version == EXTERNAL_VERSION then None else Some (ExternalVersion (Some version))

abbrev pub version_fault : TableKind → BlockContents → Option TableFault
version_fault External block = versioned (option_and_then fixed32_value (property version_name block))
version_fault Own block = None

-- the comparator, where it is there, must be the bytewise one
abbrev pub compared : Option (List ℕ) → Option TableFault
compared None = None
compared (Some value) = if same value bytewise then None else Some Comparator

abbrev pub comparator_fault : BlockContents → Option TableFault
comparator_fault block = compared (property comparator_name block)

-- the index type, where it is there, must be 0
abbrev pub indexed : Option ℕ → Option TableFault
indexed None = Some IndexKind
indexed (Some number) = if number == 0 then None else Some IndexKind

abbrev pub typed : Option (List ℕ) → Option TableFault
typed None = None
typed (Some value) = indexed (fixed32_value value)

abbrev pub index_type_fault : BlockContents → Option TableFault
index_type_fault block = typed (property index_type_name block)

-- the first fault of the properties
abbrev pub or_fault : Option TableFault → Option TableFault → Option TableFault
or_fault None other = other
or_fault (Some fault) other = Some fault

unfoldable pub properties_fault : TableKind → BlockContents → Option TableFault
properties_fault kind block = or_fault (version_fault kind block) (or_fault (comparator_fault block) (index_type_fault block))
