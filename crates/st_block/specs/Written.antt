-- How a block is written: entries with the greatest possible shared lengths, restarts at every so many of them.
use Rattle.std.specs.Prelude.{◌≡◌, ◌≤◌, ◌<◌, ◌^◌, ℕ, ◌+◌, ◌-◌, ◌%◌, ◌==◌, nat_eq, List, [], ◌∷◌, ◌++◌, length, drop, IsTrue, if◌then◌else◌}
use Rattle.std.specs.List.{common_prefix_len, flat_map}
use Rattle.st_base.specs.declared.limits.TheConstants.{INTERNAL_KEY_BYTES, VALUE_BYTES}
use Rattle.st_code.specs.Fixed.{fixed32}
use Rattle.st_code.specs.Varint.{varint}
use Rattle.st_block.specs.Block.{Cell, is_after, is_long_enough}
use Rattle.st_block.specs.declared.kind.BlockKind.{BlockKind}

-- an entry that shares so many bytes
abbrev pub entry_bytes : ℕ → List ℕ → List ℕ → List ℕ
entry_bytes shared key value = varint shared ++ varint (length key - shared) ++ varint (length value) ++ drop shared key ++ value

-- how much of the key before an entry shares, where `count` entries stand before it and every `interval`th is a restart
abbrev pub shared_of : ℕ → ℕ → List ℕ → List ℕ → ℕ
shared_of interval count before key = if count % interval == 0 then 0 else common_prefix_len nat_eq before key

-- the bytes of entries after `count` others, the last of which has the key `before`
abbrev pub entries_bytes : ℕ → ℕ → List ℕ → List (List ℕ × List ℕ) → List ℕ
entries_bytes interval count before [] = []
entries_bytes interval count before (pair ∷ pairs) = entry_bytes (shared_of interval count before pair.0) pair.0 pair.1 ++ entries_bytes interval (count + 1) pair.0 pairs

-- where restarts stand among these, the first of which begins at an offset
abbrev pub restarts_of : ℕ → ℕ → ℕ → List ℕ → List (List ℕ × List ℕ) → List ℕ
restarts_of interval count at before [] = []
restarts_of interval count at before (pair ∷ pairs) =
    (if count % interval == 0 then at ∷ [] else []) ++ restarts_of interval (count + 1) (at + length (entry_bytes (shared_of interval count before pair.0) pair.0 pair.1)) pair.0 pairs

-- a block without entries has the one restart 0
abbrev pub or_zero : List ℕ → List ℕ
or_zero [] = 0 ∷ []
or_zero (offset ∷ offsets) = offset ∷ offsets

abbrev pub with_tail : List ℕ → List ℕ → List ℕ
with_tail entries restarts = entries ++ flat_map fixed32 restarts ++ fixed32 (length restarts)

-- the block of these keys and values
abbrev pub written_block : ℕ → List (List ℕ × List ℕ) → List ℕ
written_block interval pairs = with_tail (entries_bytes interval 0 [] pairs) (or_zero (restarts_of interval 0 0 [] pairs))

-- what a writer has so far: the entries' bytes, the restart offsets, how many entries there are, and the last key
pub record Writing : Type 0 where
  pub interval : ℕ
  pub count : ℕ
  pub entries : List ℕ
  pub restarts : List ℕ
  pub last : List ℕ

abbrev pub shared_by : Writing → List ℕ → ℕ
shared_by writing key = shared_of writing.interval writing.count writing.last key

-- with an entry more
abbrev pub pair_added : Writing → List ℕ → List ℕ → Writing
pair_added writing key value = record {
  interval = writing.interval;
  count = writing.count + 1;
  entries = writing.entries ++ entry_bytes (shared_by writing key) key value;
  restarts = writing.restarts ++ (if writing.count % writing.interval == 0 then length writing.entries ∷ [] else []);
  last = key;
}

abbrev pub last_pair_key : List ℕ → List (List ℕ × List ℕ) → List ℕ
last_pair_key before [] = before
last_pair_key before (pair ∷ pairs) = last_pair_key pair.0 pairs

-- these keys and values were added
pub record HoldsPairs (writing : Writing) (pairs : List (List ℕ × List ℕ)) : Type 0 where
  pub count : length pairs ≡ writing.count
  pub entries : writing.entries ≡ entries_bytes writing.interval 0 [] pairs
  pub restarts : writing.restarts ≡ restarts_of writing.interval 0 0 [] pairs
  pub last : writing.last ≡ last_pair_key [] pairs

-- the block of what was added
abbrev pub finished_block : Writing → List ℕ
finished_block writing = with_tail writing.entries (or_zero writing.restarts)

-- counts of a writer that fit 32 bits
pub record IsWriting (writing : Writing) : Type 0 where
  pub interval : 0 < writing.interval
  pub size : length writing.entries < 2 ^ 32
  pub count : writing.count ≤ length writing.entries
  pub restarts : length writing.restarts ≤ length writing.entries

-- bytes were appended to the old ones
abbrev pub Appends : List ℕ → List ℕ → Type 0
Appends old new = (more : List ℕ) × (new ≡ old ++ more)

-- ---- what may be written

-- a key and a value are within their limits, and the key is long enough for the kind of block
pub record FitsBlock (kind : BlockKind) (pair : List ℕ × List ℕ) : Type 0 where
  pub key : length pair.0 ≤ INTERNAL_KEY_BYTES
  pub value : length pair.1 ≤ VALUE_BYTES
  pub long : IsTrue (is_long_enough kind pair.0)

-- keys after a key, in the order of the kind of block
abbrev pub GoOn : BlockKind → List ℕ → List (List ℕ × List ℕ) → Type 0
GoOn kind before [] = Unit {0}
GoOn kind before (pair ∷ pairs) = IsTrue (is_after kind before pair.0) × FitsBlock kind pair × GoOn kind pair.0 pairs

-- keys and values of a block with an entry, in the order of its kind
abbrev pub MayWrite : BlockKind → List (List ℕ × List ℕ) → Type 0
MayWrite kind [] = ⊥
MayWrite kind (pair ∷ pairs) = FitsBlock kind pair × GoOn kind pair.0 pairs

-- the entry that a pair is written as, and those of pairs from an offset on
abbrev pub cells_of : ℕ → ℕ → ℕ → List ℕ → List (List ℕ × List ℕ) → List Cell
cells_of interval count at before [] = []
cells_of interval count at before (pair ∷ pairs) =
    record { at = at; shared = shared_of interval count before pair.0; key = pair.0; value = pair.1 }
    ∷ cells_of interval (count + 1) (at + length (entry_bytes (shared_of interval count before pair.0) pair.0 pair.1)) pair.0 pairs
