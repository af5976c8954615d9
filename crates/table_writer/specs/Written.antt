-- How a table is written: data blocks, index, properties, metaindex, footer, with nothing between.
use Rattle.std.specs.Prelude.{ℕ, ◌+◌, ◌^◌, ◌<◌, nat_le, List, [], ◌∷◌, ◌++◌, length, map, fold, IsTrue, if◌then◌else◌}
use Rattle.std.specs.List.{AllByRecursion, flat_map}
use Rattle.st_base.specs.Order.{in_order}
use Rattle.st_base.specs.Rows.{Fits}
use Rattle.st_base.specs.declared.entry.Entry.{Entry}
use Rattle.st_code.specs.Fixed.{fixed32, fixed64}
use Rattle.st_code.specs.Varint.{varint}
use Rattle.st_block.specs.InternalKey.{internal_key, value_under}
use Rattle.st_block.specs.Written.{entries_bytes, last_pair_key, written_block}
use Rattle.st_table.specs.Entries.{may_have}
use Rattle.st_table.specs.Footer.{footer_bytes}
use Rattle.st_table.specs.Handle.{handle_bytes}
use Rattle.st_table.specs.Metaindex.{properties_name}
use Rattle.st_table.specs.Properties.{bytewise, comparator_name, entries_name, sequence_name, version_name}
use Rattle.st_table.specs.Stored.{stored}
use Rattle.st_table.specs.declared.handle.Handle.{Handle}
use Rattle.st_table.specs.declared.kind.TableKind.{TableKind}
use Rattle.st_table.specs.declared.kind.TableKind.TheVariants.{External, Own}
use Rattle.st_table.specs.declared.properties.TheConstants.{EXTERNAL_VERSION}
use Rattle.table_writer.specs.declared.writer.TheConstants.{BLOCK_BYTES, RESTART_INTERVAL}

-- a key and a value in a block
abbrev pub Pair : Type 0
Pair = List ℕ × List ℕ

-- the internal key and the value of an entry
abbrev pub pair_of : Entry → Pair
pair_of entry = (internal_key entry, value_under entry.mark)

-- ---- data blocks

-- blocks that are closed, and what is in the open one
pub record Cut : Type 0 where
  pub closed : List (List Pair)
  pub open_block : List Pair

-- a block is closed once its entries have so many bytes, or more; there is a restart at every 16th of them
abbrev pub cut_more : Cut → Pair → Cut
cut_more cut pair =
    if nat_le BLOCK_BYTES (length (entries_bytes RESTART_INTERVAL 0 [] (cut.open_block ++ pair ∷ [])))
    then record { closed = cut.closed ++ (cut.open_block ++ pair ∷ []) ∷ []; open_block = [] }
    else record { closed = cut.closed; open_block = cut.open_block ++ pair ∷ [] }

abbrev pub cut_of : List Pair → Cut
cut_of pairs = fold cut_more (record { closed = []; open_block = [] }) pairs

-- the open block is closed at the end, if there is anything in it
abbrev pub closed_with : List (List Pair) → List Pair → List (List Pair)
closed_with closed [] = closed
closed_with closed (pair ∷ pairs) = closed ++ (pair ∷ pairs) ∷ []

abbrev pub blocks_of : List Pair → List (List Pair)
blocks_of pairs = closed_with (cut_of pairs).closed (cut_of pairs).open_block

-- ---- data blocks as they are stored

abbrev pub data_block : List Pair → List ℕ
data_block pairs = written_block RESTART_INTERVAL pairs

-- data blocks one after the other
abbrev pub data_bytes : List (List Pair) → List ℕ
data_bytes blocks = flat_map (λ pairs. stored (data_block pairs)) blocks

-- their index entries, where the first of them begins at an offset: the last key of each block, and its handle
abbrev pub index_pairs : ℕ → List (List Pair) → List Pair
index_pairs at [] = []
index_pairs at (pairs ∷ blocks) = (last_pair_key [] pairs, handle_bytes (record { offset = at; size = length (data_block pairs) })) ∷ index_pairs (at + length (stored (data_block pairs))) blocks

-- ---- what follows the data blocks

-- the properties that tables of one kind have
abbrev pub kind_pairs : TableKind → List Pair
kind_pairs External = (sequence_name, fixed64 0) ∷ (version_name, fixed32 EXTERNAL_VERSION) ∷ []
kind_pairs Own = []

-- the properties of a table of this kind with so many entries
abbrev pub property_pairs : TableKind → ℕ → List Pair
property_pairs kind count = (comparator_name, bytewise) ∷ kind_pairs kind ++ (entries_name, varint count) ∷ []

abbrev pub properties_block : TableKind → ℕ → List ℕ
properties_block kind count = written_block 1 (property_pairs kind count)

-- the metaindex of a table whose properties lie there
abbrev pub metaindex_block : Handle → List ℕ
metaindex_block handle = written_block 1 ((properties_name, handle_bytes handle) ∷ [])

-- properties, metaindex and footer after the index block, where the properties begin at an offset
abbrev pub ending_from : ℕ → Handle → List ℕ → List ℕ → List ℕ
ending_from at index properties metaindex =
    stored properties ++ stored metaindex
    ++ footer_bytes (record { offset = at + length (stored properties); size = length metaindex }) index

abbrev pub ending : TableKind → ℕ → ℕ → Handle → List ℕ
ending kind count at index =
    ending_from at index (properties_block kind count) (metaindex_block (record { offset = at; size = length (properties_block kind count) }))

-- the table of data blocks and an index block
abbrev pub table_bytes : TableKind → ℕ → List ℕ → List ℕ → List ℕ
table_bytes kind count blocks index =
    blocks ++ stored index ++ ending kind count (length blocks + length (stored index)) (record { offset = length blocks; size = length index })

-- the table of these entries
abbrev pub written_blocks : TableKind → ℕ → List (List Pair) → List ℕ
written_blocks kind count blocks = table_bytes kind count (data_bytes blocks) (written_block 1 (index_pairs 0 blocks))

abbrev pub written_table : TableKind → List Entry → List ℕ
written_table kind entries = written_blocks kind (length entries) (blocks_of (map pair_of entries))

-- ---- what may be written

-- an entry is within the limits, and its sequence number is one that a table of this kind may have
pub record MayPut (kind : TableKind) (entry : Entry) : Type 0 where
  pub limits : Fits entry
  pub number : entry.number < 2 ^ 56
  pub allowed : IsTrue (may_have kind entry.number)

-- entries in strict order, each of which may be written
pub record MayBeTable (kind : TableKind) (entries : List Entry) : Type 0 where
  pub ordered : IsTrue (in_order entries)
  pub each : AllByRecursion (MayPut kind) entries
