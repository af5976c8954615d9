-- The walk of a family: its counted operations and its tables, a part each, and the files that are to blame along it.
use Rattle.std.specs.Prelude.{◌≡◌, ℕ, zero, suc, Bool, ◌&&◌, ◌==◌, ◌||◌, min, nat_le, nat_lt, not, List, [], ◌∷◌, ◌++◌, drop, filter, map, if◌then◌else◌, Option, Some, None, true}
use Rattle.std.specs.List.{list_all}
use Rattle.st_base.specs.Bytes.{same}
use Rattle.st_base.specs.declared.entry.Entry.{Entry}
use Rattle.core_model.specs.Picture.{FileEntries, runs_of}
use Rattle.st_order.specs.Columns.{of_key}
use Rattle.store_image.specs.Opens.{OpenedImageFamily, least_file, may_follow}

-- an entry, with the part of the walk in which it stands
pub record Seated : Type 0 where
  pub part : ℕ
  pub entry : Entry

abbrev pub seat : ℕ → Entry → Seated
seat part entry = record { part = part; entry = entry }

-- the entries of runs, the first of which is this part
abbrev pub seats_from : ℕ → List (List Entry) → List Seated
seats_from part [] = []
seats_from part (run ∷ runs) = map (seat part) run ++ seats_from (suc part) runs

-- those of a key
abbrev pub at_key : List ℕ → List Seated → List Seated
at_key key seats = filter (λ one. same one.entry.key key) seats

abbrev pub entries_at : List Seated → List Entry
entries_at seats = map (λ one. one.entry) seats

-- the counted operations are part 0, the tables the next ones
abbrev pub walk_runs : List Entry → List FileEntries → List (List Entry)
walk_runs counted tables = counted ∷ runs_of tables

-- the file of a part, if it is a table
abbrev pub file_of : List FileEntries → ℕ → Option ℕ
file_of [] part = None
file_of (table ∷ tables) zero = None
file_of (table ∷ tables) (suc zero) = Some table.file
file_of (table ∷ tables) (suc (suc part)) = file_of tables (suc part)

abbrev pub file_list : Option ℕ → List ℕ
file_list None = []
file_list (Some file) = file ∷ []

module _ (last : ℕ) (bottom : ℕ → Bool) (file : ℕ → Option ℕ) where
  -- whether the entry may stand behind these entries
  abbrev pub is_right : List Entry → Seated → Bool
  is_right before one = nat_le one.entry.number last && list_all (may_follow (bottom one.part) one.entry) before

  -- the file of an entry that may not
  abbrev pub blamed : List Entry → Seated → List ℕ
  blamed before one = if is_right before one then [] else file_list (file one.part)

  -- the files of the entries that may not stand behind those before them
  abbrev pub to_blame : List Entry → List Seated → List ℕ
  to_blame before [] = []
  to_blame before (one ∷ others) = blamed before one ++ to_blame (before ++ one.entry ∷ []) others

-- ---- the least number of a key so far

-- whether an entry may stand behind those of its key, which are the last that were passed
abbrev pub follows : Option (List ℕ) → ℕ → Bool → List ℕ → ℕ → Bool
follows None low bottom key number = true
follows (Some before) low bottom key number =
    not (same before key) || nat_lt number low || (bottom && (number == 0) && (low == 0))

-- the least number of the key, with this one too
abbrev pub lower_of : Option (List ℕ) → ℕ → List ℕ → ℕ → ℕ
lower_of None low key number = number
lower_of (Some before) low key number = if same before key then min low number else number

-- ---- what a walk by keys finds

-- the least file to blame along some walk that has the entries of each key in the order of the parts; the parts above this
-- one stand in the last level
pub record IsLeastAlong (last upper : ℕ) (counted : List Entry) (tables : List FileEntries) (least : Option ℕ) : Type 0 where
  pub taken : List Seated
  pub columns : (key : List ℕ) → at_key key taken ≡ at_key key (seats_from 0 (walk_runs counted tables))
  pub least_is : least ≡ least_file (to_blame last (λ part. nat_lt upper part) (file_of tables) [] taken)

-- the family has these counted operations, key by key in their order, and these levels
pub record IsFamily (counted : List Entry) (levels : List (List FileEntries)) (family : OpenedImageFamily) : Type 0 where
  pub columns : (key : List ℕ) → of_key key family.counted ≡ of_key key counted
  pub levels_are : family.levels ≡ levels
