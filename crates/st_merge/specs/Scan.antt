-- What a scan gives: the live pairs of a range at a number, up to the limit and the bytes.
use Rattle.std.specs.Prelude.{ℕ, zero, suc, ◌+◌, Bool, false, ◌&&◌, nat_le, length, List, [], ◌∷◌, ◌++◌, filter, if◌then◌else◌, Option, Some, None}
use Rattle.st_base.specs.Bytes.{at_most, below, same}
use Rattle.st_base.specs.Order.{rises}
use Rattle.st_base.specs.declared.entry.Entry.{Entry}
use Rattle.st_base.specs.declared.entry.KeyRange.{KeyRange}
use Rattle.st_base.specs.declared.entry.Mark.{Mark}
use Rattle.st_base.specs.declared.entry.Mark.TheVariants.{Put, Gone}
use Rattle.st_base.specs.Range.{is_in_range}

-- the bytes of keys and values with which a scan ends
abbrev pub scan_bytes : ℕ
scan_bytes = 1048576

-- the entries whose keys are at least this one
abbrev pub reaching : List ℕ → List Entry → List Entry
reaching first entries = filter (λ entry. at_most first entry.key) entries

-- a key and its value
abbrev pub KeyValue : Type 0
KeyValue = List ℕ × List ℕ

-- the pair that the newest entry of a key shows, if it is none that is gone
abbrev pub shown_pair : List ℕ → Mark → List KeyValue
shown_pair key (Put value) = (key, value) ∷ []
shown_pair key Gone = []

-- whether the key was read before
abbrev pub is_read_before : Option (List ℕ) → List ℕ → Bool
is_read_before None key = false
is_read_before (Some other) key = same other key

-- whether the entry lies in the range, at or below the number
abbrev pub is_seen : KeyRange → ℕ → Entry → Bool
is_seen range number entry = is_in_range range entry.key && nat_le entry.number number

-- the live pairs among entries that stand by key and, at one key, by number downwards; the entries of a key that was read
-- before show nothing
abbrev pub live_behind : KeyRange → ℕ → Option (List ℕ) → List Entry → List KeyValue
live_behind range number before [] = []
live_behind range number before (entry ∷ entries) =
    if is_seen range number entry then
    (if is_read_before before entry.key then live_behind range number before entries
    else shown_pair entry.key entry.mark ++ live_behind range number (Some entry.key) entries)
    else live_behind range number before entries

-- the pairs that a read at the number finds in the range, in key order
abbrev pub live_pairs : KeyRange → ℕ → List Entry → List KeyValue
live_pairs range number entries = live_behind range number None entries

-- the value that a read finds: that of the newest mark, if this is no tombstone
abbrev pub mark_value : Mark → Option (List ℕ)
mark_value (Put value) = Some value
mark_value Gone = None

abbrev pub value_found : Option (ℕ × Mark) → Option (List ℕ)
value_found None = None
value_found (Some found) = mark_value found.1

-- whether the keys of pairs rise strictly
abbrev pub keys_rise_in : List KeyValue → Bool
keys_rise_in pairs = rises (λ one other. below one.0 other.0) pairs

abbrev pub pair_bytes : KeyValue → ℕ
pair_bytes pair = length pair.0 + length pair.1

-- the first pairs, where others of so many bytes stand before them: at most so many, and none behind the pair with which
-- their bytes reach the end of a scan
abbrev pub cut_pairs : ℕ → ℕ → List KeyValue → List KeyValue
cut_pairs zero bytes pairs = []
cut_pairs (suc room) bytes [] = []
cut_pairs (suc room) bytes (pair ∷ pairs) =
    pair ∷ (if nat_le scan_bytes (bytes + pair_bytes pair) then []
    else cut_pairs room (bytes + pair_bytes pair) pairs)
