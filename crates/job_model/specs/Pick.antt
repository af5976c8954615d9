-- Which compaction is picked by the sizes of levels. Tables are anything that shows its file, range and charge.
use Rattle.std.specs.Prelude.{ℕ, zero, suc, Bool, false, ◌&&◌, not, ◌==◌, ◌+◌, nat_lt, nat_le, length, List, [], ◌∷◌, ◌++◌, map, filter, find, slice_get, unwrap_or, if◌then◌else◌, Option, None, sum_by}
use Rattle.std.specs.Option.{option_map, option_or}
use Rattle.std.specs.List.{list_any}
use Rattle.st_base.specs.Bytes.{below}
use Rattle.st_base.specs.Range.{meet, range_of}
use Rattle.st_base.specs.declared.entry.KeyRange.{KeyRange}
use Rattle.st_base.specs.declared.running.Ranged.{Ranged}
use Rattle.st_base.specs.declared.running.Running.{Running}

-- the least range that has both
abbrev pub join_range : KeyRange → KeyRange → KeyRange
join_range one other = record {
  first = if below other.first one.first then other.first else one.first;
  last = if below one.last other.last then other.last else one.last;
}

-- the least range that has all of these; of none the range of no entries
abbrev pub joint_of : List KeyRange → KeyRange
joint_of [] = range_of []
joint_of (range ∷ []) = range
joint_of (range ∷ other ∷ more) = join_range range (joint_of (other ∷ more))

-- whether the job takes the file
abbrev pub takes : ℕ → Running → Bool
takes file job = list_any (λ input. input == file) job.inputs

-- the tables of level n
abbrev pub tables_at : {X : Type 0} → List (List X) → ℕ → List X
tables_at levels n = unwrap_or (slice_get levels n) []

module _ {X : Type 0} (show : X → Ranged) where
  -- the joint range of these tables
  abbrev pub joint_shown : List X → KeyRange
  joint_shown tables = joint_of (map (λ table. (show table).range) tables)

  -- the sum of their charges
  abbrev pub charges : List X → ℕ
  charges tables = sum_by (λ table. (show table).charge) tables

  -- level 0 has 4 tables, or the charges of levels 1, 2, 3 pass these
  abbrev pub is_over_of : ℕ → List X → Bool
  is_over_of zero tables = nat_le 4 (length tables)
  is_over_of (suc zero) tables = nat_lt 16777216 (charges tables)
  is_over_of (suc (suc zero)) tables = nat_lt 134217728 (charges tables)
  is_over_of (suc (suc (suc zero))) tables = nat_lt 1073741824 (charges tables)
  is_over_of (suc (suc (suc (suc n)))) tables = false

  -- these tables, and those of the next level that meet their joint range
  abbrev pub with_next_of : List X → List X → List X
  with_next_of tables next = tables ++ filter (λ table. meet (show table).range (joint_shown tables)) next

  -- the inputs that may be tried at a level, in order: all its tables at level 0, each table elsewhere
  abbrev pub candidates_of : ℕ → List X → List X → List (List X)
  candidates_of zero tables next = with_next_of tables next ∷ []
  candidates_of (suc n) tables next = map (λ table. with_next_of (table ∷ []) next) tables

  -- a job of these inputs is free at this output level: no job goes to the lowest level, none takes an input, and the
  -- output of none meets it
  abbrev pub is_free_among : List Running → ℕ → ℕ → List X → Bool
  is_free_among running lowest level inputs =
      not (list_any (λ job. job.level == lowest) running)
      && not (list_any (λ table. list_any (takes (show table).file) running) inputs)
      && not (list_any (λ job. job.level == level && meet job.range (joint_shown inputs)) running)

  -- the inputs of the first free job of level n, where it is over
  abbrev pub pick_in : List Running → ℕ → List (List X) → ℕ → Option (List X)
  pick_in running lowest levels n =
      if is_over_of n (tables_at levels n)
      then find (is_free_among running lowest (n + 1)) (candidates_of n (tables_at levels n) (tables_at levels (n + 1)))
      else None

  -- of so many levels, from level n on, the first with such a job: its output level and its inputs
  abbrev pub pick_from : List Running → ℕ → List (List X) → ℕ → ℕ → Option (ℕ × List X)
  pick_from running lowest levels zero n = None
  pick_from running lowest levels (suc more) n =
      option_or (option_map (λ inputs. (n + 1, inputs)) (pick_in running lowest levels n))
      (pick_from running lowest levels more (n + 1))

  -- levels 0 to 3 are tried downwards
  abbrev pub pick_of : List Running → ℕ → List (List X) → Option (ℕ × List X)
  pick_of running lowest levels = pick_from running lowest levels 4 0
