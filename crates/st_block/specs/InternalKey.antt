-- Internal keys: a key, followed by a fixed64 that is its sequence number times 256 plus its kind. The kind is 0 for a
-- tombstone and 1 for a value.
use Rattle.std.specs.Prelude.{ℕ, ◌+◌, ◌-◌, ◌*◌, ◌/◌, ◌%◌, Bool, ◌&&◌, ◌||◌, ◌==◌, List, [], ◌++◌, length, take, drop, if◌then◌else◌}
use Rattle.std.specs.Int.{w64, from_le_bytes}
use Rattle.std.specs.declared.cmp.Ordering.{Ordering}
use Rattle.std.specs.Ordering.{is_lt}
use Rattle.st_base.specs.Order.{position_cmp}
use Rattle.st_base.specs.declared.entry.Entry.{Entry}
use Rattle.st_base.specs.declared.entry.Mark.{Mark}
use Rattle.st_base.specs.declared.entry.Mark.TheVariants.{Put, Gone}
use Rattle.st_code.specs.Fixed.{fixed64}
use Rattle.st_block.specs.declared.internal_key.TheConstants.{KINDS, PACKED_BYTES, TOMBSTONE_KIND, VALUE_KIND}

-- the key, and the number that is packed with the kind
abbrev pub user_key : List ℕ → List ℕ
user_key internal = take (length internal - PACKED_BYTES) internal

abbrev pub packed : List ℕ → ℕ
packed internal = from_le_bytes w64 (drop (length internal - PACKED_BYTES) internal)

-- the sequence number and the kind
abbrev pub number_of : List ℕ → ℕ
number_of internal = packed internal / KINDS

abbrev pub kind_of : List ℕ → ℕ
kind_of internal = packed internal % KINDS

-- ---- order

-- by key upwards, and at one key by the packed number downwards
abbrev pub internal_cmp : List ℕ → List ℕ → Ordering
internal_cmp one other = position_cmp (user_key one) (packed one) (user_key other) (packed other)

-- whether the internal key comes before a key and a sequence number
abbrev pub is_key_before : List ℕ → ℕ → List ℕ → Bool
is_key_before key number internal = is_lt (position_cmp (user_key internal) (number_of internal) key number)

-- ---- entries

-- an entry is a value, or a tombstone, whose value is empty
abbrev pub is_kind : ℕ → List ℕ → Bool
is_kind kind value = (kind == VALUE_KIND) || ((kind == TOMBSTONE_KIND) && (length value == 0))

-- the entry that an internal key and a value are
abbrev pub mark_under : ℕ → List ℕ → Mark
mark_under kind value = if kind == TOMBSTONE_KIND then Gone else Put value

abbrev pub entry_under : List ℕ → List ℕ → Entry
entry_under internal value = record { key = user_key internal; number = number_of internal; mark = mark_under (kind_of internal) value }

-- the internal key and the value that an entry is
abbrev pub kind_under : Mark → ℕ
kind_under (Put value) = VALUE_KIND
kind_under Gone = TOMBSTONE_KIND

abbrev pub value_under : Mark → List ℕ
value_under (Put value) = value
value_under Gone = []

abbrev pub internal_key : Entry → List ℕ
internal_key entry = entry.key ++ fixed64 (entry.number * KINDS + kind_under entry.mark)
