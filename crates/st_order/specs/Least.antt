-- The least key of runs within a range.
use Rattle.std.specs.Prelude.{ℕ, List, filter, flat_map, fold, if◌then◌else◌, Option, Some, None}
use Rattle.st_base.specs.Bytes.{below}
use Rattle.st_base.specs.Range.{is_in_range, keys_of}
use Rattle.st_base.specs.declared.entry.Entry.{Entry}
use Rattle.st_base.specs.declared.entry.KeyRange.{KeyRange}

-- the lesser of a key and one that may be there
abbrev pub lesser_key : Option (List ℕ) → List ℕ → Option (List ℕ)
lesser_key None key = Some key
lesser_key (Some other) key = if below key other then Some key else Some other

-- the least key of the runs that lies in the range
abbrev pub least_within : KeyRange → List (List Entry) → Option (List ℕ)
least_within range runs = fold lesser_key None (filter (is_in_range range) (flat_map keys_of runs))
