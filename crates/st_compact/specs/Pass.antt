-- What a compaction leaves of entries whose keys rise: one pass that holds back the last entry that was kept.
use Rattle.std.specs.Prelude.{ℕ, ◌&&◌, List, [], ◌∷◌, ◌++◌, if◌then◌else◌, Option, Some, None}
use Rattle.st_base.specs.Bytes.{same}
use Rattle.st_base.specs.declared.entry.Entry.{Entry}
use Rattle.st_base.specs.declared.entry.KeyRange.{KeyRange}
use Rattle.job_model.specs.Column.{is_gone, is_read_between}
use Rattle.job_model.specs.Drops.{covers}

-- the oldest that was kept of a key
abbrev pub finished : List KeyRange → Entry → List Entry
finished drops held = if is_gone held.mark && covers drops held.key then [] else held ∷ []

module _ (live : List ℕ) (drops : List KeyRange) where
  -- what is left from the entry that is held on; `before` is the number of the last entry that was seen
  abbrev pub pass : Entry → ℕ → List Entry → List Entry
  pass held before [] = finished drops held
  pass held before (entry ∷ entries) =
      if same held.key entry.key
      then (if is_read_between live entry.number before then held ∷ pass entry entry.number entries
      else pass held entry.number entries)
      else finished drops held ++ pass entry entry.number entries

  -- what is left of entries
  abbrev pub pass_all : List Entry → List Entry
  pass_all [] = []
  pass_all (entry ∷ entries) = pass entry entry.number entries

  -- the same, where an entry may be held
  abbrev pub pass_on : Option Entry → ℕ → List Entry → List Entry
  pass_on None before entries = pass_all entries
  pass_on (Some held) before entries = pass held before entries
